-- A message is encodable where the values of its slots fit, and what is stored at every depth is in order.
use Rattle.std.specs.Prelude.{◌≡◌, ◌&&◌, ◌∷◌}
use Rattle.prost_reflect_dynamic.proofs.Common.{ℕ, Bool, true, false, cond, List, [], map, Option, Some, None, refl, sym, ap, ◌∙◌, subst, true≢false, and_parts, and_from, IsStrictlySortedBy, keys_of, option_map, option_and_then, is_some, nat_cmp, is_eq, Record, records_of, is_less, Field, passes, is_sibling, Entries, Slot, ListValue, MapValue, slot_at, entries_of, then_unknowns, ordered, value_ordered, values_ordered, pairs_ordered, values_from, EntryTest, fit_test, alone_test, value_passes, values_pass, pairs_pass, encodable, exclusive, apart_members, FieldSlot, IsAscending, item_at, known_of, all_kept, are_records_of, keeps_unknown, are_siblings, value_in, records_in, stored_at, has_value, IsSound, unknown_kept, DynamicMessage, MapKey, Value, compare_keys, pairs_shown, fits_at, slot_passes, slots_pass, items_pass, entries_pass, arranged, value_arranged, value_of, content_of, key_of, message_type_of, stored_in, entries_from, payloads_of}
use Rattle.prost_reflect_wire.specs.Content as contents
use Rattle.prost_reflect_wire.specs.Typing as typing
use Rattle.prost_reflect_laws.proofs.Slots.{Apart}
use Rattle.prost_reflect_fields.specs.declared.slot.FieldSlot.TheVariants as entries
use Rattle.prost_reflect_dynamic.proofs.ContentChanges.{message_slots, message_order}
use Rattle.prost_reflect_dynamic.proofs.Encodings.{KeptRecords, kept_in}
use Rattle.prost_reflect_dynamic.proofs.Keys.{keys_compared}
use Rattle.prost_reflect_dynamic.proofs.Views.{shown, content_of_message}

-- WHAT FITS

-- records that may stand at their number fit
records_pass : (fields : List Field) (n : ℕ) (rs : List Record) (es : Entries) → all_kept fields n rs ≡ true → typing.entries_pass fit_test fields es ≡ typing.entries_pass fit_test fields (then_unknowns n (payloads_of rs) es)
records_pass fields n [] es h = refl
records_pass fields n (r ∷ rs) es h =
    let (one, more) = and_parts (keeps_unknown fields n r.payload) (all_kept fields n rs) h in
    records_pass fields n rs es more ∙ ap (λ b. b && typing.entries_pass fit_test fields (then_unknowns n (payloads_of rs) es)) (sym one)

slots_are : (fields : List Field) (es : List (ℕ × FieldSlot Value)) → KeptRecords fields es → slots_pass (fits_at fields) es ≡ typing.entries_pass fit_test fields (entries_from (shown es))
slots_are fields [] kept = refl
slots_are fields (e ∷ es) kept = cases e.1 kept.0 (slots_are fields es kept.1)
  where
    behind : (d : FieldSlot Value) (rs : List Record) → records_in d ≡ Some rs → unknown_kept fields e.0 (records_in d) ≡ true → typing.entries_pass fit_test fields (entries_from (shown es)) ≡ typing.entries_pass fit_test fields (then_unknowns e.0 (payloads_of rs) (entries_from (shown es)))
    behind d rs is own = records_pass fields e.0 rs (entries_from (shown es)) (and_parts (all_kept fields e.0 rs) (are_records_of e.0 rs) (ap (unknown_kept fields e.0) (sym is) ∙ own)).0

    cases : (d : FieldSlot Value) → unknown_kept fields e.0 (records_in d) ≡ true → slots_pass (fits_at fields) es ≡ typing.entries_pass fit_test fields (entries_from (shown es))
        → slots_pass (fits_at fields) ((e.0, d) ∷ es) ≡ typing.entries_pass fit_test fields (entries_from (shown ((e.0, d) ∷ es)))
    cases (entries.Value v) own rest = ap (λ b. fits_at fields e.0 (value_of v) && b) rest
    cases (entries.Unknown u) own rest = rest ∙ behind (entries.Unknown u) (records_of u) refl own
    cases (entries.Both v u) own rest = ap (λ b. fits_at fields e.0 (value_of v) && b) (rest ∙ behind (entries.Both v u) (records_of u) refl own)

-- a slot that passes may be left out
pub slot_passed : (test : ℕ → contents.Value → Bool) (es more : List (ℕ × FieldSlot Value)) (e : ℕ × FieldSlot Value) (b : Bool) → es ≡ e ∷ more → slot_passes test e.0 e.1 ≡ true → slots_pass test es ≡ b → slots_pass test more ≡ b
slot_passed test es more e b first passes whole = sym (ap (λ x. x && slots_pass test more) passes) ∙ sym (ap (slots_pass test) first) ∙ whole

-- a message is encodable where its values fit
pub encodable_slots : (m : DynamicMessage) → IsAscending (stored_in m) → IsSound (message_type_of m) (stored_in m) → slots_pass (fits_at (known_of (message_type_of m))) (stored_in m) ≡ encodable (content_of m)
encodable_slots m s sound = slots_are (known_of (message_type_of m)) (stored_in m) (kept_in (known_of (message_type_of m)) (stored_in m) s sound.1) ∙ sym (ap encodable (content_of_message m))

pub items_are : (test : EntryTest) (vs : List Value) → items_pass (value_passes test) vs ≡ values_pass test (values_from (map value_of vs))
items_are test [] = refl
items_are test (v ∷ vs) = ap (λ b. value_passes test (value_of v) && b) (items_are test vs)

pub entries_are : (test : EntryTest) (es : List (MapKey × Value)) → entries_pass (value_passes test) es ≡ pairs_pass test (pairs_shown es)
entries_are test [] = refl
entries_are test (e ∷ es) = ap (λ b. value_passes test (value_of e.1) && b) (entries_are test es)

-- WHAT IS IN ORDER

pub items_arranged : (vs : List Value) → items_pass value_arranged vs ≡ true → value_arranged (ListValue (values_from (map value_of vs))) ≡ true
items_arranged [] h = refl
items_arranged (v ∷ vs) h =
    let (one, more) = and_parts (value_arranged (value_of v)) (items_pass value_arranged vs) h in
    let (order, alone) = and_parts (value_ordered (value_of v)) (value_passes alone_test (value_of v)) one in
    let (orders, others) = and_parts (values_ordered (values_from (map value_of vs))) (values_pass alone_test (values_from (map value_of vs))) (items_arranged vs more) in
    and_from _ _ (and_from _ _ order orders) (and_from _ _ alone others)

pub entries_arranged : (es : List (MapKey × Value)) → IsStrictlySortedBy compare_keys (keys_of es) → entries_pass value_arranged es ≡ true → value_arranged (MapValue (pairs_shown es)) ≡ true
unfolding IsStrictlySortedBy
entries_arranged [] s h = refl
entries_arranged (e ∷ es) s h =
    let (one, more) = and_parts (value_arranged (value_of e.1)) (entries_pass value_arranged es) h in
    let (order, alone) = and_parts (value_ordered (value_of e.1)) (value_passes alone_test (value_of e.1)) one in
    let (orders, others) = and_parts (pairs_ordered (pairs_shown es)) (pairs_pass alone_test (pairs_shown es)) (entries_arranged es s.1 more) in
    and_from _ _ (and_from _ _ (and_from _ _ (first es s) order) orders) (and_from _ _ alone others)
  where
    first : (ds : List (MapKey × Value)) → IsStrictlySortedBy compare_keys (keys_of (e ∷ ds)) → contents.key_before (key_of e.0) (pairs_shown ds) ≡ true
    first [] s = refl
    first (d ∷ ds) s = ap is_less (sym (keys_compared e.0 d.0) ∙ s.0.0)

-- the value at a number of slots that pass
in_slot : (test : contents.Value → Bool) (n : ℕ) (d : FieldSlot Value) (v : Value) → slot_passes (λ n v. test v) n d ≡ true → value_in d ≡ Some v → test (value_of v) ≡ true
in_slot test n (entries.Value w) v h is = let same : w ≡ v = cc in subst (λ v. test (value_of v) ≡ true) same h
in_slot test n (entries.Unknown u) v h is = cc
in_slot test n (entries.Both w u) v h is = let same : w ≡ v = cc in subst (λ v. test (value_of v) ≡ true) same h

at_slot : (test : contents.Value → Bool) (es : List (ℕ × FieldSlot Value)) → slots_pass (λ n v. test v) es ≡ true → (k : ℕ) (v : Value) → stored_at es k ≡ Some v → test (value_of v) ≡ true
at_slot test [] h k v is = cc
at_slot test (e ∷ es) h k v is =
    let (one, more) = and_parts (slot_passes (λ n v. test v) e.0 e.1) (slots_pass (λ n v. test v) es) h in
    go (is_eq (nat_cmp k e.0)) is one (at_slot test es more k v)
  where
    go : (b : Bool) → option_and_then value_in (cond b (Some e.1) (item_at es k)) ≡ Some v → slot_passes (λ n v. test v) e.0 e.1 ≡ true → (stored_at es k ≡ Some v → test (value_of v) ≡ true) → test (value_of v) ≡ true
    go true is one rest = in_slot test e.0 e.1 v one is
    go false is one rest = rest is

some_of : (o : Option Value) (v : contents.Value) → option_map value_of o ≡ Some v → is_some o ≡ true
some_of None v h = cc
some_of (Some w) v h = refl

module _ (m : DynamicMessage) (s : IsAscending (stored_in m)) (sound : IsSound (message_type_of m) (stored_in m)) (all : slots_pass (λ n v. value_arranged v) (stored_in m) ≡ true) where
  value_is : (k : ℕ) → contents.value_at k (entries_from (shown (stored_in m))) ≡ option_map value_of (stored_at (stored_in m) k)
  value_is k = sym (ap (λ c. contents.value_at k (entries_of c)) (content_of_message m)) ∙ ap (λ (slot : Slot). slot.value) (message_slots m k s)

  apart : Apart (known_of (message_type_of m)) (slot_at (entries_from (shown (stored_in m))))
  apart n k f v w found sibling here there =
      let one : has_value (stored_in m) n ≡ true = some_of (stored_at (stored_in m) n) v (sym (value_is n) ∙ here) in
      let other : has_value (stored_in m) k ≡ true = some_of (stored_at (stored_in m) k) w (sym (value_is k) ∙ there) in
      let siblings : are_siblings (known_of (message_type_of m)) n k ≡ true = ap (λ o. passes o (λ f. is_sibling (known_of (message_type_of m)) f k)) found ∙ sibling in
      true≢false (sym other ∙ sound.2 n k one siblings)

  order : contents.entries_ordered (entries_of (content_of m)) ≡ true
  order = message_order m s (λ k v is. (and_parts (value_ordered (value_of v)) (value_passes alone_test (value_of v)) (at_slot value_arranged (stored_in m) all k v is)).0)

  inside : (n : ℕ) (v : contents.Value) → contents.value_at n (entries_from (shown (stored_in m))) ≡ Some v → value_passes alone_test v ≡ true
  inside n v is = mapped (stored_at (stored_in m) n) refl (sym (value_is n) ∙ is)
    where
      mapped : (o : Option Value) → stored_at (stored_in m) n ≡ o → option_map value_of o ≡ Some v → value_passes alone_test v ≡ true
      mapped None e h = cc
      mapped (Some w) e h =
          let same : value_of w ≡ v = cc in
          subst (λ v. value_passes alone_test v ≡ true) same (and_parts (value_ordered (value_of w)) (value_passes alone_test (value_of w)) (at_slot value_arranged (stored_in m) all n w e)).1

  -- a message is in order where its values are
  pub slots_arranged : arranged (content_of m) ≡ true
  slots_arranged =
      let here : contents.entries_ordered (entries_from (shown (stored_in m))) ≡ true = sym (ap (λ c. contents.entries_ordered (entries_of c)) (content_of_message m)) ∙ order in
      and_from _ _ (ap ordered (content_of_message m) ∙ here) (ap exclusive (content_of_message m) ∙ apart_members (known_of (message_type_of m)) (entries_from (shown (stored_in m))) here apart inside)
