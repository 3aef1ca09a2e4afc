-- Changes of a message's slots that keep the messages inside of their fields' types.
use Rattle.std.specs.Prelude.{◌≡◌, ◌∷◌}
use Rattle.prost_reflect_dynamic.proofs.Common.{ℕ, Bool, true, false, cond, nat_eq, List, [], Option, None, Some, refl, sym, ap, ◌∙◌, subst, unwrap_or, true≢false, and_parts, and_from, eqb-true, option_and_then, option_map, nat_cmp, is_eq, Less, BTreeSet, AllByRecursion, IsStrictlySortedBy, keys_of, Record, field_of, known, schema_from, SameMessage, pool_contents, pool_rows, PooledType, FieldSlot, IsAscending, item_at, known_of, are_siblings, value_in, stored_at, has_value, values_alone, without_values, UnknownAdded, has, AreReplaced, set_value_at, prepared, Apart, by_number, at_each, itself, none_above, ascending_with_value, ascending_without_values, value_without, value_written, value_written_apart, DynamicMessage, Value, roll-DynamicMessage, all_typed, entries_typed, value_typed, place_for, StoredEntries, StoredValue, stored_entry, stored_entries, value_stored, message_stored, typed_at, StaysTyped, message_type_of, stored_in, written_at}
use Rattle.prost_reflect_fields.specs.declared.slot.FieldSlot.TheVariants as entries
use Rattle.prost_reflect_fields.proofs.Replaced.{values_replaced, part_replaced}
use Rattle.prost_reflect_fields.proofs.SoundChanges.{value_set_at, value_set, ascending_set_at}
use Rattle.prost_reflect_fields.proofs.ValuesAlone.{ascending_alone, value_stays}
use Rattle.prost_reflect_dynamic.proofs.Copied.{parts_of, message_copied}
use Rattle.prost_reflect_dynamic.proofs.DeepTypes.{typed_message}
use Rattle.prost_reflect_dynamic.proofs.MessageParts.{part}
use Rattle.prost_reflect_dynamic.proofs.StoredViews.{stored_roll}

abbrev Slots : Type 0
Slots = List (ℕ × FieldSlot Value)

abbrev Kept : Type 0
Kept = PooledType × Slots

-- NUMBER BY NUMBER

-- what stands at a number, if something does
abbrev pub TypedAt : PooledType → ℕ → Option Value → Type 0
TypedAt d n None = Unit {0}
TypedAt d n (Some v) = typed_at d n (value_stored v) ≡ true

abbrev pub AllTyped : PooledType → Slots → Type 0
AllTyped d es = (n : ℕ) → TypedAt d n (stored_at es n)

abbrev typed_in : PooledType → StoredEntries → Bool
typed_in d es = entries_typed (pool_contents d.pool) (pool_rows d.pool) (known_of d) es

first_typed : (d : PooledType) (n : ℕ) (e : FieldSlot Value) (es : StoredEntries) → typed_in d (stored_entry value_stored n e es) ≡ true → TypedAt d n (value_in e) × (typed_in d es ≡ true)
first_typed d n (entries.Value v) es h = and_parts (typed_at d n (value_stored v)) (typed_in d es) h
first_typed d n (entries.Unknown u) es h = (tt, h)
first_typed d n (entries.Both v u) es h = and_parts (typed_at d n (value_stored v)) (typed_in d es) h

typed_first : (d : PooledType) (n : ℕ) (e : FieldSlot Value) (es : StoredEntries) → TypedAt d n (value_in e) → typed_in d es ≡ true → typed_in d (stored_entry value_stored n e es) ≡ true
typed_first d n (entries.Value v) es one more = and_from (typed_at d n (value_stored v)) (typed_in d es) one more
typed_first d n (entries.Unknown u) es one more = more
typed_first d n (entries.Both v u) es one more = and_from (typed_at d n (value_stored v)) (typed_in d es) one more

each_typed : (d : PooledType) (es : Slots) → typed_in d (stored_entries value_stored es) ≡ true → AllTyped d es
each_typed d [] h n = tt
each_typed d (e ∷ es) h n =
    let (here, behind) = first_typed d e.0 e.1 (stored_entries value_stored es) h in
    by_number n e.0
    (λ is. subst (λ b. TypedAt d n (option_and_then value_in (cond b (Some e.1) (item_at es n)))) (sym (ap is_eq (ap (nat_cmp n) (sym is) ∙ itself n))) (subst (λ k. TypedAt d k (value_in e.1)) (sym is) here))
    (λ apart. subst (λ b. TypedAt d n (option_and_then value_in (cond b (Some e.1) (item_at es n)))) (sym apart) (each_typed d es behind n))

all_from_each : (d : PooledType) (es : Slots) → IsAscending es → AllTyped d es → typed_in d (stored_entries value_stored es) ≡ true
unfolding IsStrictlySortedBy
all_from_each d [] s each = refl
all_from_each d (e ∷ es) s each =
    typed_first d e.0 e.1 (stored_entries value_stored es) (subst (λ b. TypedAt d e.0 (option_and_then value_in (cond b (Some e.1) (item_at es e.0)))) (ap is_eq (itself e.0)) (each e.0)) (all_from_each d es s.1 behind)
  where
    nothing : (n : ℕ) → n ≡ e.0 → item_at es n ≡ None
    nothing n is = none_above n es (subst (λ k. AllByRecursion (λ y. nat_cmp k y ≡ Less) (keys_of es)) (sym is) s.0)

    behind : AllTyped d es
    behind n = by_number n e.0
        (λ is. subst (λ o. TypedAt d n (option_and_then value_in o)) (sym (nothing n is)) tt)
        (λ apart. subst (λ b. TypedAt d n (option_and_then value_in (cond b (Some e.1) (item_at es n)))) apart (each n))

-- MESSAGES

pub values_typed : (m : DynamicMessage) → all_typed (message_stored m) ≡ true → AllTyped (message_type_of m) (stored_in m)
values_typed m h = each_typed (message_type_of m) (stored_in m) (typed_message m ∙ h)

pub message_typed : (m : DynamicMessage) → IsAscending (stored_in m) → AllTyped (message_type_of m) (stored_in m) → all_typed (message_stored m) ≡ true
message_typed m s each = sym (typed_message m) ∙ all_from_each (message_type_of m) (stored_in m) s each

pub nothing_typed : (m : DynamicMessage) → stored_in m ≡ [] → all_typed (message_stored m) ≡ true
nothing_typed m none = sym (typed_message m) ∙ ap (λ es. typed_in (message_type_of m) (stored_entries value_stored es)) none

pub still_typed : (a b c : DynamicMessage) → StaysTyped a b → StaysTyped b c → StaysTyped a c
still_typed a b c first second = record { typed = λ h. second.typed (first.typed h) }

-- SETTING

-- apart from the number stands what stood there, or nothing
set_apart : (d : PooledType) (es : Slots) (n : ℕ) (v : Value) → IsAscending es → AllTyped d es → (k : ℕ) → Apart n k → TypedAt d k (stored_at (set_value_at (known_of d) es n v) k)
set_apart d es n v s each k apart = subst (TypedAt d k) (sym (value_set_at (known_of d) es n v k s)) (cases (nat_eq k n) refl (are_siblings (known_of d) n k))
  where
    differ : k ≡ n → false ≡ true
    differ is = sym apart ∙ ap is_eq (ap (nat_cmp n) is ∙ itself n)

    cases : (a : Bool) → nat_eq k n ≡ a → (b : Bool) → TypedAt d k (cond a (Some v) (cond b None (stored_at es k)))
    cases true at b = absurd (true≢false (sym (differ (eqb-true k n at))))
    cases false at true = tt
    cases false at false = each k

-- without some of the values each other stays typed
without_each : (d : PooledType) (es : Slots) (test : ℕ → Bool) → IsAscending es → AllTyped d es → AllTyped d (without_values test es)
without_each d es test s each k = subst (TypedAt d k) (sym (value_without test es k s)) (cases (test k))
  where
    cases : (b : Bool) → TypedAt d k (cond b None (stored_at es k))
    cases true = tt
    cases false = each k

set_each : (d : PooledType) (es : Slots) (n : ℕ) (v : Value) → IsAscending es → typed_at d n (value_stored v) ≡ true → AllTyped d es → AllTyped d (set_value_at (known_of d) es n v)
set_each d es n v s here each = at_each (λ k. TypedAt d k (stored_at (set_value_at (known_of d) es n v) k)) n (subst (TypedAt d n) (sym (value_set (known_of d) es n v s)) here) (set_apart d es n v s each)

-- the message with other slots
module _ (m : DynamicMessage) (p : Kept) where
  of_slots : p.0 ≡ m.fields.0 → IsAscending p.1 → (AllTyped m.fields.0 m.fields.1 → AllTyped m.fields.0 p.1) → StaysTyped m (roll-DynamicMessage (record { fields = p }))
  of_slots same s step = record {
    typed = λ h.
        ap all_typed (stored_roll (record { fields = p })) ∙ ap (λ (d : PooledType). typed_in d (stored_entries value_stored p.1)) same
        ∙ all_from_each m.fields.0 p.1 s (step (values_typed m h));
  }

  pub set_typed : (n : ℕ) (v : Value) → IsAscending m.fields.1 → p ≡ (m.fields.0, set_value_at (known_of m.fields.0) m.fields.1 n v) → typed_at m.fields.0 n (value_stored v) ≡ true → StaysTyped m (roll-DynamicMessage (record { fields = p }))
  set_typed n v s is here =
      of_slots (ap (λ (q : Kept). q.0) is) (subst (λ (q : Kept). IsAscending q.1) (sym is) (ascending_set_at (known_of m.fields.0) m.fields.1 n v s))
      (λ each. subst (λ (q : Kept). AllTyped m.fields.0 q.1) (sym is) (set_each m.fields.0 m.fields.1 n v s here each))

  pub without_typed : (test : ℕ → Bool) → IsAscending m.fields.1 → p ≡ (m.fields.0, without_values test m.fields.1) → StaysTyped m (roll-DynamicMessage (record { fields = p }))
  without_typed test s is =
      of_slots (ap (λ (q : Kept). q.0) is) (subst (λ (q : Kept). IsAscending q.1) (sym is) (ascending_without_values test m.fields.1 s))
      (λ each. subst (λ (q : Kept). AllTyped m.fields.0 q.1) (sym is) (without_each m.fields.0 m.fields.1 test s each))

  pub alone_typed : IsAscending m.fields.1 → p ≡ (m.fields.0, values_alone m.fields.1) → StaysTyped m (roll-DynamicMessage (record { fields = p }))
  alone_typed s is =
      of_slots (ap (λ (q : Kept). q.0) is) (subst (λ (q : Kept). IsAscending q.1) (sym is) (ascending_alone m.fields.1 s))
      (λ each. subst (λ (q : Kept). AllTyped m.fields.0 q.1) (sym is) (λ k. subst (TypedAt m.fields.0 k) (sym (value_stays m.fields.1 k s)) (each k)))

  pub added_typed : (r : Record) → IsAscending m.fields.1 → p.0 ≡ m.fields.0 → UnknownAdded m.fields.1 p.1 r → StaysTyped m (roll-DynamicMessage (record { fields = p }))
  added_typed r s same added = of_slots same (added.order s) (λ each k. subst (TypedAt m.fields.0 k) (sym (added.values k)) (each k))

-- WRITING

module _ (m : DynamicMessage) (n : ℕ) (default : Value) (s : IsAscending (stored_in m)) where
  ascending_there : IsAscending (prepared (known_of (message_type_of m)) (stored_in m) n default)
  ascending_there = cases (has_value (stored_in m) n)
    where
      cases : (b : Bool) → IsAscending (cond b (stored_in m) (set_value_at (known_of (message_type_of m)) (stored_in m) n default))
      cases true = s
      cases false = ascending_set_at (known_of (message_type_of m)) (stored_in m) n default s

  there_apart : AllTyped (message_type_of m) (stored_in m) → (k : ℕ) → Apart n k → TypedAt (message_type_of m) k (stored_at (prepared (known_of (message_type_of m)) (stored_in m) n default) k)
  there_apart each k apart = cases (has_value (stored_in m) n)
    where
      cases : (b : Bool) → TypedAt (message_type_of m) k (stored_at (cond b (stored_in m) (set_value_at (known_of (message_type_of m)) (stored_in m) n default)) k)
      cases true = each k
      cases false = set_apart (message_type_of m) (stored_in m) n default s each k apart

  pub ascending_written : (v : Value) → IsAscending (stored_in (written_at m n default v))
  ascending_written v = ascending_with_value (prepared (known_of (message_type_of m)) (stored_in m) n default) n v ascending_there

  -- where the value at the number is typed once it was written over
  pub written_typed : (v : Value) → (all_typed (message_stored m) ≡ true → TypedAt (message_type_of m) n (stored_at (stored_in (written_at m n default v)) n)) → StaysTyped m (written_at m n default v)
  written_typed v here = record {
    typed = λ h. message_typed (written_at m n default v) (ascending_written v)
        (at_each (λ k. TypedAt (message_type_of m) k (stored_at (stored_in (written_at m n default v)) k)) n (here h)
        (λ k apart. subst (TypedAt (message_type_of m) k) (sym (value_written_apart (prepared (known_of (message_type_of m)) (stored_in m) n default) n k v apart)) (there_apart (values_typed m h) k apart)));
  }

  here_written : (v : Value) → typed_at (message_type_of m) n (value_stored v) ≡ true → TypedAt (message_type_of m) n (stored_at (stored_in (written_at m n default v)) n)
  here_written v here =
      subst (TypedAt (message_type_of m) n) (sym (value_written (prepared (known_of (message_type_of m)) (stored_in m) n default) n v)) (cases (stored_at (prepared (known_of (message_type_of m)) (stored_in m) n default) n))
    where
      cases : (o : Option Value) → TypedAt (message_type_of m) n (option_map (λ _. v) o)
      cases None = tt
      cases (Some w) = here

  -- a typed value that was left there
  pub left_typed : (v : Value) → typed_at (message_type_of m) n (value_stored v) ≡ true → StaysTyped m (written_at m n default v)
  left_typed v here = written_typed v (λ h. here_written v here)

  -- what is lent is typed where the message is
  lent_typed : (v : Value) → v ≡ unwrap_or (stored_at (stored_in m) n) default → typed_at (message_type_of m) n (value_stored default) ≡ true → all_typed (message_stored m) ≡ true → typed_at (message_type_of m) n (value_stored v) ≡ true
  lent_typed v lent empty h = subst (λ w. typed_at (message_type_of m) n (value_stored w) ≡ true) (sym lent) (cases (stored_at (stored_in m) n) (values_typed m h n))
    where
      cases : (o : Option Value) → TypedAt (message_type_of m) n o → typed_at (message_type_of m) n (value_stored (unwrap_or o default)) ≡ true
      cases None here = empty
      cases (Some w) here = here

  -- the value that was lent was changed, and stays typed
  pub lent_step : (v w : Value) → v ≡ unwrap_or (stored_at (stored_in m) n) default → typed_at (message_type_of m) n (value_stored default) ≡ true
      → (typed_at (message_type_of m) n (value_stored v) ≡ true → typed_at (message_type_of m) n (value_stored w) ≡ true) → StaysTyped m (written_at m n default w)
  lent_step v w lent empty step = written_typed w (λ h. here_written w (step (lent_typed v lent empty h)))

  -- the same of one that was there
  pub held_step : (v w : Value) → stored_at (stored_in m) n ≡ Some v → (typed_at (message_type_of m) n (value_stored v) ≡ true → typed_at (message_type_of m) n (value_stored w) ≡ true) → StaysTyped m (written_at m n default w)
  held_step v w there step = written_typed w (λ h. here_written w (step (subst (TypedAt (message_type_of m) n) there (values_typed m h n))))

-- PARTS

type_same : (a b : PooledType) (n : ℕ) (v : StoredValue) → SameMessage a b → typed_at b n v ≡ typed_at a n v
type_same a b n v same = λ i. value_typed (same.0 i) (same.1 i) (place_for (field_of (known (schema_from (same.1 i)) (same.2 i)) n) v) v

value_same : (a b : PooledType) (n : ℕ) (o : Option Value) → SameMessage a b → TypedAt b n o → TypedAt a n o
value_same a b n None same h = tt
value_same a b n (Some v) same h = sym (type_same a b n (value_stored v) same) ∙ h

chosen_typed : (d : PooledType) (numbers : BTreeSet ℕ) (old others new : Slots) → AreReplaced numbers old others new → AllTyped d old → AllTyped d others → AllTyped d new
chosen_typed d numbers old others new replaced o q n = subst (TypedAt d n) (sym (values_replaced numbers old others new replaced n)) (cases (has numbers n))
  where
    cases : (b : Bool) → TypedAt d n (cond b (stored_at others n) (stored_at old n))
    cases true = q n
    cases false = o n

-- a part that was put in place
pub replaced_typed : (numbers : BTreeSet ℕ) (m others : DynamicMessage) (p : Kept) → SameMessage m.fields.0 others.fields.0 → p.0 ≡ m.fields.0 → AreReplaced numbers m.fields.1 others.fields.1 p.1
    → all_typed (message_stored others) ≡ true → StaysTyped m (roll-DynamicMessage (record { fields = p }))
replaced_typed numbers m others p type same replaced typed =
    of_slots m p same replaced.ascends
    (λ each. chosen_typed m.fields.0 numbers m.fields.1 others.fields.1 p.1 replaced each (λ n. value_same m.fields.0 others.fields.0 n (stored_at others.fields.1 n) type (values_typed others typed n)))

-- a part that was copied
pub part_typed : (numbers : BTreeSet ℕ) (m : DynamicMessage) (p : Kept) → SameMessage m.fields.0 p.0 → IsAscending m.fields.1 → parts_of p.1 ≡ parts_of (part numbers m.fields.1) → StaysTyped m (roll-DynamicMessage (record { fields = p }))
part_typed numbers m p same s parts =
    let inside : DynamicMessage = record { fields = (m.fields.0, part numbers m.fields.1) } in
    let replaced = part_replaced numbers m.fields.1 s in
    record {
      typed = λ h.
          ap all_typed (message_copied inside p same parts)
          ∙ message_typed inside replaced.ascends (chosen_typed m.fields.0 numbers [] m.fields.1 (part numbers m.fields.1) replaced (λ n. tt) (values_typed m h));
    }
