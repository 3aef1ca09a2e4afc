-- The first fault of a walk over the fields of two types, and of two fields. For private contracts alone.
use Rattle.std.specs.Prelude.{◌≡◌, ℕ, true, false, nat_eq, nat_lt, if◌then◌else◌, List, [], ◌∷◌, drop, Option, Some, None}
use Rattle.std.specs.Bool.{beq}
use Rattle.prost_reflect_wire.specs.Schema.{Kind, ValueType, FieldForm, Field, MessageType, is_singular}
use Rattle.prost_reflect_wire.specs.Reduction.{same_default}
use Rattle.prost_reflect_tables.specs.declared.tables.FieldTable.{FieldTable}
use Rattle.prost_reflect_tables.specs.declared.tables.Tables.{Tables}
use Rattle.prost_reflect_reduction.specs.Faults.{both_enums, TypeDiffers}
use Rattle.prost_reflect_reduction.specs.Merging.{first_member, shown_fields}
use Rattle.prost_reflect_reduction.specs.Reaching.{kinds_alike, forms_alike, types_alike}
use Rattle.prost_reflect_reduction.specs.declared.fault.ReductionFaultKind.{ReductionFaultKind}
use Rattle.prost_reflect_reduction.specs.declared.fault.ReductionFaultKind.TheVariants.{Number, Oneof, Extension, Cardinality, Map, Kind as KindDiffers, Enum as EnumDiffers, Presence, Default}
use Rattle.prost_reflect_reduction.specs.declared.fault.TypeFault.{TypeFault}
use Rattle.prost_reflect_reduction.specs.declared.types.FieldFault.{FieldFault}
use Rattle.prost_reflect_reduction.specs.declared.types.Step.{Step}
use Rattle.prost_reflect_reduction.specs.declared.types.Step.TheVariants.{Stands, Stops}

abbrev pub kinds_fault : Kind → Kind → ReductionFaultKind
kinds_fault k l = if both_enums k l then EnumDiffers else KindDiffers

abbrev pub values_fault : ValueType → ValueType → Option ReductionFaultKind
values_fault s t =
    if kinds_alike s.kind t.kind
    then if beq s.required t.required
    then if beq s.presence t.presence
    then if same_default s.kind s.default t.default then None else Some Default
    else Some Presence
    else Some Cardinality
    else Some (kinds_fault s.kind t.kind)

abbrev pub forms_fault : FieldForm → FieldForm → ReductionFaultKind
forms_fault c d = if beq (is_singular c) (is_singular d) then Map else Cardinality

abbrev pub fields_fault : Field → Field → Option ReductionFaultKind
fields_fault f g =
    if beq f.is_extension g.is_extension
    then if forms_alike f.form g.form then values_fault f.value_type g.value_type else Some (forms_fault f.form g.form)
    else Some Extension

-- Of fields of one number, behind which these members of their oneofs follow.
abbrev pub pair_fault : ℕ → ℕ → Field → Field → Option ReductionFaultKind
pair_fault next next' f g = if nat_eq next next' then fields_fault f g else Some Oneof

-- Of a field that the older type lacks.
abbrev pub fellow_fault : ℕ → Option ReductionFaultKind
fellow_fault next = if nat_eq next 0 then None else Some Oneof

abbrev pub at_number : ℕ → ReductionFaultKind → FieldFault
at_number n kind = record { number = n; kind = kind }

abbrev pub first_fault : Option ReductionFaultKind → ℕ → Option FieldFault → Option FieldFault
first_fault None n rest = rest
first_fault (Some kind) n rest = Some (at_number n kind)

unfoldable pub merge_fault : List Field → List Field → Option FieldFault
merge_fault [] [] = None
merge_fault (f ∷ older) [] = Some (at_number f.number Number)
merge_fault [] (g ∷ newer) = first_fault (fellow_fault (first_member newer g.oneof)) g.number (merge_fault [] newer)
merge_fault (f ∷ older) (g ∷ newer) =
    if nat_eq f.number g.number
    then first_fault (pair_fault (first_member older f.oneof) (first_member newer g.oneof) f g) f.number (merge_fault older newer)
    else if nat_lt f.number g.number
    then Some (at_number f.number Number)
    else first_fault (fellow_fault (first_member newer g.oneof)) g.number (merge_fault (f ∷ older) newer)

-- Where a walk stands, if nothing differs, or the fault that it stops at.
abbrev pub step_of : Option ReductionFaultKind → ℕ → ℕ → Step
step_of None n place = Stands place
step_of (Some kind) n place = Stops (at_number n kind)

-- The rest of a walk behind a step.
abbrev pub fault_behind : Tables → List FieldTable → Tables → List FieldTable → Step → Option FieldFault
fault_behind older fields newer others (Stops fault) = Some fault
fault_behind older fields newer others (Stands place) = merge_fault (shown_fields older (drop place fields)) (shown_fields newer others)

abbrev pub at_field : FieldFault → TypeFault
at_field fault = record { number = Some fault.number; kind = fault.kind }

-- A fault differs, and the types are not alike; where there is none, they are.
abbrev pub Explains : Option TypeFault → MessageType → MessageType → Type 0
Explains None older newer = types_alike older newer ≡ true
Explains (Some fault) older newer = (types_alike older newer ≡ false) × TypeDiffers fault.number fault.kind older newer
