-- What copies store.
use Rattle.std.specs.Prelude.{◌≡◌, ◌∷◌, ◌++◌}
use Rattle.prost_reflect_dynamic.proofs.Common.{ℕ, Bool, true, false, cond, List, [], map, Option, None, Some, refl, ap, ap₂, sym, ◌∙◌, subst, append_assoc, append-nil, option_map, option_and_then, is_some, nat_cmp, ordering_reverse, match_ordering, Ordering, Less, Greater, IsTotalOrder, nat_cmp_total, is_at, insert_entry, AllByRecursion, IsStrictlySortedBy, keys_of, Record, body_of, records_of, UnknownFieldSet, Field, known, FieldSlot, PooledType, DynamicMessage, Value, roll-DynamicMessage, SameMessage, schema_from, IsAscending, item_at, put_item, known_of, value_in, records_in, records_at, has_value, Sound, unknown_kept, StoredValue, StoredEntries, NothingStored, ValueAt, UnknownAt, BothAt, stored_entry, stored_entries, value_stored, message_stored}
use Rattle.prost_reflect_fields.specs.declared.slot.FieldSlot.TheVariants as entries
use Rattle.prost_reflect_dynamic.specs.Stored.{MessageOf}
use Rattle.prost_reflect_dynamic.proofs.StoredViews.{stored_message, stored_roll}

abbrev pub Parts : Type 0
Parts = Option StoredValue × Option (List Record)

-- what an entry stores: its value, and its unknown records
abbrev pub entry_parts : FieldSlot Value → Parts
entry_parts e = (option_map value_stored (value_in e), records_in e)

-- what is stored at each number
abbrev pub parts_of : List (ℕ × FieldSlot Value) → List (ℕ × Parts)
parts_of es = map (λ e. (e.0, entry_parts e.1)) es

-- LISTS

parts_appended : (es ds : List (ℕ × FieldSlot Value)) → parts_of (es ++ ds) ≡ parts_of es ++ parts_of ds
parts_appended [] ds = refl
parts_appended (e ∷ es) ds = ap (λ ps. (e.0, entry_parts e.1) ∷ ps) (parts_appended es ds)

pub keys_appended : {K T : Type 0} (es ds : List (K × T)) → keys_of (es ++ ds) ≡ keys_of es ++ keys_of ds
keys_appended [] ds = refl
keys_appended (e ∷ es) ds = ap (λ ks. e.0 ∷ ks) (keys_appended es ds)

pub keys_of_parts : (es : List (ℕ × FieldSlot Value)) → keys_of (parts_of es) ≡ keys_of es
keys_of_parts [] = refl
keys_of_parts (e ∷ es) = ap (λ ks. e.0 ∷ ks) (keys_of_parts es)

-- AT THE END

-- the number behind all of these
among : {K : Type 0} (P : K → Type 0) (ks : List K) (k : K) (rest : List K) → AllByRecursion P (ks ++ k ∷ rest) → P k
among P [] k rest a = a.0
among P (j ∷ ks) k rest a = among P ks k rest a.1

-- an entry whose key is behind all others is put last
pub insert_last : {K T : Type 0} (R : K → K → Ordering) → IsTotalOrder R → (es : List (K × T)) (k : K) (t : T) (rest : List K) → IsStrictlySortedBy R (keys_of es ++ k ∷ rest) → insert_entry R es k t ≡ es ++ (k, t) ∷ []
unfolding IsStrictlySortedBy
insert_last R total [] k t rest s = refl
insert_last R total (e ∷ es) k t rest s =
    let below : R e.0 k ≡ Less = among (λ y. R e.0 y ≡ Less) (keys_of es) k rest s.0 in
    let above : R k e.0 ≡ Greater = total.antisymm k e.0 ∙ ap ordering_reverse below in
    ap (λ o. match_ordering o ((k, t) ∷ e ∷ es) ((e.0, t) ∷ es) (e ∷ insert_entry R es k t)) above ∙ ap (λ ds. e ∷ ds) (insert_last R total es k t rest s.1)

-- one more entry copied
pub copied_next : (fields done rest : List (ℕ × FieldSlot Value)) (n : ℕ) (e d : FieldSlot Value) → IsAscending (done ++ (n, e) ∷ rest)
    → parts_of fields ≡ parts_of done → entry_parts d ≡ entry_parts e → parts_of (put_item fields n d) ≡ parts_of (done ++ (n, e) ∷ [])
copied_next fields done rest n e d s all same =
    let keys : keys_of fields ≡ keys_of done = sym (keys_of_parts fields) ∙ ap keys_of all ∙ keys_of_parts done in
    let whole : keys_of (done ++ (n, e) ∷ rest) ≡ keys_of fields ++ n ∷ keys_of rest = keys_appended done ((n, e) ∷ rest) ∙ ap (λ ks. ks ++ n ∷ keys_of rest) (sym keys) in
    ap parts_of (insert_last nat_cmp nat_cmp_total fields n d (keys_of rest) (subst (IsStrictlySortedBy nat_cmp) whole s))
    ∙ parts_appended fields ((n, d) ∷ []) ∙ ap₂ (λ ps (q : Parts). ps ++ (n, q) ∷ []) all same
    ∙ sym (parts_appended done ((n, e) ∷ []))

-- ENTRIES

abbrev parts : Option StoredValue → Option (List Record) → Parts
parts o rs = (o, rs)

pub value_copied : (v w : Value) → value_stored v ≡ value_stored w → entry_parts (entries.Value v) ≡ entry_parts (entries.Value w)
value_copied v w h = ap (λ x. parts (Some x) None) h

pub unknown_copied : (u t : UnknownFieldSet) → records_of u ≡ records_of t → entry_parts (entries.Unknown u) ≡ entry_parts (entries.Unknown t)
unknown_copied u t h = ap (λ rs. parts None (Some rs)) h

pub both_copied : (v w : Value) (u t : UnknownFieldSet) → value_stored v ≡ value_stored w → records_of u ≡ records_of t → entry_parts (entries.Both v u) ≡ entry_parts (entries.Both w t)
both_copied v w u t h k = ap₂ (λ x rs. parts (Some x) (Some rs)) h k

-- THE SAME PARTS

part_at : (es : List (ℕ × FieldSlot Value)) (k : ℕ) → item_at (parts_of es) k ≡ option_map entry_parts (item_at es k)
part_at [] k = refl
part_at (e ∷ es) k = cases (is_at (nat_cmp k) e.0) (part_at es k)
  where
    cases : (b : Bool) → item_at (parts_of es) k ≡ option_map entry_parts (item_at es k) → cond b (Some (entry_parts e.1)) (item_at (parts_of es) k) ≡ option_map entry_parts (cond b (Some e.1) (item_at es k))
    cases true rest = refl
    cases false rest = rest

has_from : (o : Option (FieldSlot Value)) → is_some (option_and_then value_in o) ≡ is_some (option_and_then (λ (p : Parts). p.0) (option_map entry_parts o))
has_from None = refl
has_from (Some (entries.Value v)) = refl
has_from (Some (entries.Unknown u)) = refl
has_from (Some (entries.Both v u)) = refl

records_from : (o : Option (FieldSlot Value)) → option_and_then records_in o ≡ option_and_then (λ (p : Parts). p.1) (option_map entry_parts o)
records_from None = refl
records_from (Some e) = refl

has_same : (es ds : List (ℕ × FieldSlot Value)) (k : ℕ) → parts_of ds ≡ parts_of es → has_value ds k ≡ has_value es k
has_same es ds k h = has_from (item_at ds k) ∙ ap (λ o. is_some (option_and_then (λ (p : Parts). p.0) o)) (sym (part_at ds k) ∙ ap (λ ps. item_at ps k) h ∙ part_at es k) ∙ sym (has_from (item_at es k))

records_same : (es ds : List (ℕ × FieldSlot Value)) (k : ℕ) → parts_of ds ≡ parts_of es → records_at ds k ≡ records_at es k
records_same es ds k h = records_from (item_at ds k) ∙ ap (option_and_then (λ (p : Parts). p.1)) (sym (part_at ds k) ∙ ap (λ ps. item_at ps k) h ∙ part_at es k) ∙ sym (records_from (item_at es k))

sound_same : (fields : List Field) (es ds : List (ℕ × FieldSlot Value)) → parts_of ds ≡ parts_of es → Sound fields es → Sound fields ds
sound_same fields es ds h s = (
  λ n v. s.0 n (sym (has_same es ds n h) ∙ v),
  λ n. ap (unknown_kept fields n) (records_same es ds n h) ∙ s.1 n,
  λ m n v siblings. has_same es ds n h ∙ s.2 m n (sym (has_same es ds m h) ∙ v) siblings,
)

known_same : (a b : PooledType) → SameMessage a b → known_of b ≡ known_of a
known_same a b h = λ i. known (schema_from (h.1 i)) (h.2 i)

-- what a copied descriptor and the copied entries keep
pub sound_copied : (a b : PooledType) (es ds : List (ℕ × FieldSlot Value)) → SameMessage a b → parts_of ds ≡ parts_of es → Sound (known_of a) es → Sound (known_of b) ds
sound_copied a b es ds d h s = subst (λ fields. Sound fields ds) (sym (known_same a b d)) (sound_same (known_of a) es ds h s)

abbrev entry_of_parts : ℕ → Option StoredValue → Option (List Record) → StoredEntries → StoredEntries
entry_of_parts n (Some v) None es = ValueAt n v es
entry_of_parts n None (Some rs) es = UnknownAt n (body_of rs) es
entry_of_parts n (Some v) (Some rs) es = BothAt n v (body_of rs) es
entry_of_parts n None None es = es

abbrev entries_of_parts : List (ℕ × Parts) → StoredEntries
entries_of_parts [] = NothingStored
entries_of_parts (p ∷ ps) = entry_of_parts p.0 p.1.0 p.1.1 (entries_of_parts ps)

from_parts : (es : List (ℕ × FieldSlot Value)) → stored_entries value_stored es ≡ entries_of_parts (parts_of es)
from_parts [] = refl
from_parts (e ∷ es) = cases e.1 ∙ ap (entry_of_parts e.0 (entry_parts e.1).0 (entry_parts e.1).1) (from_parts es)
  where
    cases : (d : FieldSlot Value) → stored_entry value_stored e.0 d (stored_entries value_stored es) ≡ entry_of_parts e.0 (entry_parts d).0 (entry_parts d).1 (stored_entries value_stored es)
    cases (entries.Value v) = refl
    cases (entries.Unknown u) = refl
    cases (entries.Both v u) = refl

pub message_copied : (m : DynamicMessage) (p : PooledType × List (ℕ × FieldSlot Value)) → SameMessage m.fields.0 p.0 → parts_of p.1 ≡ parts_of m.fields.1 → message_stored (roll-DynamicMessage (record { fields = p })) ≡ message_stored m
message_copied m p d h = stored_roll (record { fields = p }) ∙ (λ i. MessageOf (d.0 i) (d.1 i) (d.2 i) ((from_parts p.1 ∙ ap entries_of_parts h ∙ sym (from_parts m.fields.1)) i)) ∙ sym (stored_message m)

-- nothing is left
pub all_given : {A : Type 0} (es done left : List A) → es ≡ done ++ left → left ≡ [] → done ≡ es
all_given es done left cut none = sym (append-nil done) ∙ ap (λ l. done ++ l) (sym none) ∙ sym cut

-- one more is given
pub one_given : {A : Type 0} (es done : List A) (x : A) (left rest : List A) → es ≡ done ++ left → left ≡ x ∷ rest → es ≡ (done ++ x ∷ []) ++ rest
one_given es done x left rest cut first = cut ∙ ap (λ l. done ++ l) first ∙ sym (append_assoc done (x ∷ []) rest)
