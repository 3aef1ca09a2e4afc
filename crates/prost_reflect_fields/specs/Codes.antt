-- How the slots of a message are told apart.
use Rattle.std.specs.Prelude.{ℕ, List, ◌≡◌, refl}
use mathlib.Core.Logic.{◌⊎◌, inl, inr}
use Rattle.std.specs.Coded.{Coded, code_by, coded×, coded⊎, coded_ℕ, coded_list}
use Rattle.prost_reflect_pool.specs.declared.pooled_type.PooledType.{PooledType}
use Rattle.prost_reflect_pool.specs.contracts.pooled_type.PooledType as pooled_type
use Rattle.prost_reflect_wire.specs.declared.unknown.UnknownFieldSet.{UnknownFieldSet}
use Rattle.prost_reflect_wire.specs.contracts.unknown.UnknownFieldSet as unknown
use Rattle.prost_reflect_fields.specs.declared.slot.FieldSlot.{FieldSlot}
use Rattle.prost_reflect_fields.specs.declared.slot.FieldSlot.TheVariants.{Value, Unknown, Both}

module _ {X : Type 0} where
  abbrev pub split : FieldSlot X → X ⊎ (UnknownFieldSet ⊎ (X × UnknownFieldSet))
  split (Value x) = inl x
  split (Unknown u) = inr (inl u)
  split (Both x u) = inr (inr (x, u))

  abbrev pub join : X ⊎ (UnknownFieldSet ⊎ (X × UnknownFieldSet)) → FieldSlot X
  join (inl x) = Value x
  join (inr (inl u)) = Unknown u
  join (inr (inr p)) = Both p.0 p.1

  pub join-split : (e : FieldSlot X) → join (split e) ≡ e
  join-split (Value x) = refl
  join-split (Unknown u) = refl
  join-split (Both x u) = refl

  pub split-join : (s : X ⊎ (UnknownFieldSet ⊎ (X × UnknownFieldSet))) → split (join s) ≡ s
  split-join (inl x) = refl
  split-join (inr (inl u)) = refl
  split-join (inr (inr p)) = refl

abbrev pub slot_code : {X : Type 0} → Coded X → Coded (FieldSlot X)
slot_code {X} c = code_by (X ⊎ (UnknownFieldSet ⊎ (X × UnknownFieldSet))) (coded⊎ c (coded⊎ unknown.the_row.coded (coded× c unknown.the_row.coded))) split join join-split

abbrev pub field_set_code : {X : Type 0} → Coded X → Coded (PooledType × List (ℕ × FieldSlot X))
field_set_code c = coded× pooled_type.the_row.coded (coded_list (coded× coded_ℕ (slot_code c)))
