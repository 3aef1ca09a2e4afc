-- What is stored at each number.
use Rattle.std.specs.Prelude.{◌≡◌, ◌≢◌, ℕ, Bool, List, [], ◌∷◌, ◌++◌, Option, None, Some, option_and_then, option_map, option_to_list, flat_map, unwrap_or, is_some, nat_eq, ◌&&◌, if◌then◌else◌}
use Rattle.prost_reflect_wire.specs.Record.{Record}
use Rattle.prost_reflect_wire.specs.Unknown.{records_of}
use Rattle.prost_reflect_wire.specs.declared.unknown.UnknownFieldSet.{UnknownFieldSet}
use Rattle.prost_reflect_maps.specs.Items.{IsAscending, item_at, with_item, put_item}
use Rattle.prost_reflect_fields.specs.declared.slot.FieldSlot.{FieldSlot}
use Rattle.prost_reflect_fields.specs.declared.slot.FieldSlot.TheVariants.{Value, Unknown, Both}

module _ {V : Type 0} where
  abbrev pub value_in : FieldSlot V → Option V
  value_in (Value v) = Some v
  value_in (Unknown u) = None
  value_in (Both v u) = Some v

  abbrev pub unknown_in : FieldSlot V → Option UnknownFieldSet
  unknown_in (Value v) = None
  unknown_in (Unknown u) = Some u
  unknown_in (Both v u) = Some u

  -- The unknown records, if there are some.
  abbrev pub records_in : FieldSlot V → Option (List Record)
  records_in e = option_map records_of (unknown_in e)

  -- A slot with v as its value.
  abbrev pub with_value_in : FieldSlot V → V → FieldSlot V
  with_value_in (Value v) w = Value w
  with_value_in (Unknown u) w = Both w u
  with_value_in (Both v u) w = Both w u

  -- A slot with w for the value that it has.
  abbrev pub revalued : FieldSlot V → V → FieldSlot V
  revalued (Value v) w = Value w
  revalued (Unknown u) w = Unknown u
  revalued (Both v u) w = Both w u

  abbrev pub stored_at : List (ℕ × FieldSlot V) → ℕ → Option V
  stored_at es n = option_and_then value_in (item_at es n)

  abbrev pub unknown_at : List (ℕ × FieldSlot V) → ℕ → Option UnknownFieldSet
  unknown_at es n = option_and_then unknown_in (item_at es n)

  abbrev pub records_at : List (ℕ × FieldSlot V) → ℕ → Option (List Record)
  records_at es n = option_and_then records_in (item_at es n)

  abbrev pub has_value : List (ℕ × FieldSlot V) → ℕ → Bool
  has_value es n = is_some (stored_at es n)

  -- The value beside unknown fields, and the slot without it.
  abbrev pub value_beside : FieldSlot V → Option V
  value_beside (Value v) = None
  value_beside (Unknown u) = None
  value_beside (Both v u) = Some v

  abbrev pub without_value_beside : FieldSlot V → FieldSlot V
  without_value_beside (Value v) = Value v
  without_value_beside (Unknown u) = Unknown u
  without_value_beside (Both v u) = Unknown u

  abbrev pub put_slot : List (ℕ × FieldSlot V) → ℕ → V → Option (FieldSlot V) → List (ℕ × FieldSlot V)
  put_slot es n v None = put_item es n (Value v)
  put_slot es n v (Some e) = with_item es n (with_value_in e v)

  -- v as the value at n, where the unknown fields stay.
  abbrev pub put_value : List (ℕ × FieldSlot V) → ℕ → V → List (ℕ × FieldSlot V)
  put_value es n v = put_slot es n v (item_at es n)

  -- What is left of a slot without its value.
  abbrev pub left_in : FieldSlot V → Option (FieldSlot V)
  left_in (Value v) = None
  left_in (Unknown u) = Some (Unknown u)
  left_in (Both v u) = Some (Unknown u)

  abbrev pub then_slot : ℕ → Option (FieldSlot V) → List (ℕ × FieldSlot V) → List (ℕ × FieldSlot V)
  then_slot n None es = es
  then_slot n (Some e) es = (n, e) ∷ es

  -- No values at the numbers that pass, where the unknown fields stay.
  abbrev pub without_values : (ℕ → Bool) → List (ℕ × FieldSlot V) → List (ℕ × FieldSlot V)
  without_values test [] = []
  without_values test (e ∷ es) = then_slot e.0 (if test e.0 then left_in e.1 else Some e.1) (without_values test es)

  abbrev pub numbered : ℕ → Option V → List (ℕ × V)
  numbered n None = []
  numbered n (Some v) = (n, v) ∷ []

  -- The values at the numbers that pass, each with its number.
  abbrev pub values_where : (ℕ → Bool) → List (ℕ × FieldSlot V) → List (ℕ × V)
  values_where test es = flat_map (λ e. numbered e.0 (if test e.0 then value_in e.1 else None)) es

  -- The first of the numbers that pass at which there is a value.
  abbrev pub first_value : (ℕ → Bool) → List (ℕ × FieldSlot V) → Option ℕ
  first_value test [] = None
  first_value test (e ∷ es) = if is_some (value_in e.1) && test e.0 then Some e.0 else first_value test es

  abbrev pub clear_value : List (ℕ × FieldSlot V) → ℕ → List (ℕ × FieldSlot V)
  clear_value es n = without_values (nat_eq n) es

  -- The value of an entry alone, if it has one, and those of all entries.
  abbrev pub value_alone : ℕ × FieldSlot V → List (ℕ × FieldSlot V)
  value_alone e = option_to_list (option_map (λ v. (e.0, Value v)) (value_in e.1))

  abbrev pub values_alone : List (ℕ × FieldSlot V) → List (ℕ × FieldSlot V)
  values_alone es = flat_map value_alone es

  -- The unknown fields of an entry, if it has some, and those of all entries.
  abbrev pub unknown_in_slot : ℕ × FieldSlot V → List UnknownFieldSet
  unknown_in_slot e = option_to_list (unknown_in e.1)

  abbrev pub unknown_sets : List (ℕ × FieldSlot V) → List UnknownFieldSet
  unknown_sets es = flat_map unknown_in_slot es

  abbrev pub with_slot : List (ℕ × FieldSlot V) → ℕ → V → Option (FieldSlot V) → List (ℕ × FieldSlot V)
  with_slot es n v None = es
  with_slot es n v (Some e) = with_item es n (revalued e v)

  -- With the value at n replaced.
  abbrev pub with_value : List (ℕ × FieldSlot V) → ℕ → V → List (ℕ × FieldSlot V)
  with_value es n v = with_slot es n v (item_at es n)

  -- A slot with an unknown record behind those that it has.
  pub record AddedIn (e d : FieldSlot V) (r : Record) : Type 0 where
    pub value : value_in d ≡ value_in e
    pub records : records_in d ≡ Some (unwrap_or (records_in e) [] ++ r ∷ [])

  -- A slot of the same value and the same unknown records.
  pub record SameIn (e d : FieldSlot V) : Type 0 where
    pub value : value_in d ≡ value_in e
    pub records : records_in d ≡ records_in e

  -- The same values and the same unknown records at each number.
  pub record SameStored (es ds : List (ℕ × FieldSlot V)) : Type 0 where
    pub values : (k : ℕ) → stored_at ds k ≡ stored_at es k
    pub records : (k : ℕ) → records_at ds k ≡ records_at es k
    pub order : IsAscending es → IsAscending ds

  -- An unknown record behind those of its number.
  pub record UnknownAdded (es ds : List (ℕ × FieldSlot V)) (r : Record) : Type 0 where
    pub values : (k : ℕ) → stored_at ds k ≡ stored_at es k
    pub here : records_at ds r.number ≡ Some (unwrap_or (records_at es r.number) [] ++ r ∷ [])
    pub elsewhere : (k : ℕ) → k ≢ r.number → records_at ds k ≡ records_at es k
    pub order : IsAscending es → IsAscending ds
