-- Lists of scalars: which elements their records add, and the fields that have them. For private contracts alone.
use Rattle.std.specs.Prelude.{◌≡◌, ℕ, Bool, true, false, List, [], ◌∷◌, ◌++◌, map, flat_map, Option, Some, None}
use Rattle.std.specs.List.{AllByRecursion}
use Rattle.prost_reflect_wire.specs.declared.key.WireType.{WireType}
use Rattle.prost_reflect_wire.specs.declared.key.WireType.TheVariants as wires
use Rattle.prost_reflect_wire.specs.declared.error.DecodeError.{DecodeError}
use Rattle.prost_reflect_wire.specs.Record.{Len, short_key, short_plain}
use Rattle.prost_reflect_wire.specs.Scalar.{ScalarKind, kind_wire}
use Rattle.prost_reflect_wire.specs.Content as content
use Rattle.prost_reflect_wire.specs.Content.{MessageValue, ListValue, NoValues, Item, values_from, ◌and_then◌}
use Rattle.prost_reflect_wire.specs.Meaning.{values_in}
use Rattle.prost_reflect_wire.specs.Schema.{ScalarOf, Repeated, Field}
use Rattle.prost_reflect_wire.specs.Fault.{ElementFault}
use Rattle.prost_reflect_wire.specs.Decoding.{FieldFault, ElementsRead, packed_values}
use Rattle.prost_reflect_tables.specs.declared.tables.TableKind.{TableKind}
use Rattle.prost_reflect_dynamic.specs.declared.value.Value.{Value}
use Rattle.prost_reflect_wire.specs.Typing.{encodable}
use Rattle.prost_reflect_dynamic.specs.Encoding.{nested_bytes}
use Rattle.prost_reflect_dynamic.specs.View.{value_of}
use Rattle.prost_reflect_dynamic.specs.Scalars.{plain_kind}
use Rattle.prost_reflect_rows.specs.Scalars.{TakesScalar, scalar_bytes, scalar_record_bytes}

-- The elements of a packed body were put behind others.
pub record AddsPacked (kind : TableKind) (old new : List Value) (body : List ℕ) : Type 0 where
  pub scalar_kind : ScalarKind
  pub plain : plain_kind kind ≡ Some scalar_kind
  pub added : List content.Value
  pub appended : map value_of new ≡ map value_of old ++ added
  pub read : packed_values scalar_kind body ≡ Some added

-- Why they were not.
pub record RefusesPacked (kind : TableKind) (e : DecodeError) (body : List ℕ) : Type 0 where
  pub scalar_kind : ScalarKind
  pub plain : plain_kind kind ≡ Some scalar_kind
  pub fault : ElementFault (kind_wire scalar_kind) e body

-- The elements of a record behind its key were put behind others.
pub record AddsElements (kind : TableKind) (w : WireType) (old new : List Value) (bytes rest : List ℕ) : Type 0 where
  pub scalar_kind : ScalarKind
  pub plain : plain_kind kind ≡ Some scalar_kind
  pub added : List content.Value
  pub appended : map value_of new ≡ map value_of old ++ added
  pub read : ElementsRead scalar_kind w added bytes rest

-- Why they were not: any list of the kind has this fault.
pub record RefusesElements (kind : TableKind) (w : WireType) (e : DecodeError) (bytes : List ℕ) : Type 0 where
  pub scalar_kind : ScalarKind
  pub plain : plain_kind kind ≡ Some scalar_kind
  pub fault : (f : Field) (packed : Bool) → f.form ≡ Repeated packed → f.value_type.kind ≡ ScalarOf scalar_kind → FieldFault e f w bytes

-- The same of the list that a value is.
pub record JoinsElements (kind : TableKind) (w : WireType) (old new : content.Value) (bytes rest : List ℕ) : Type 0 where
  pub scalar_kind : ScalarKind
  pub plain : plain_kind kind ≡ Some scalar_kind
  pub added : List content.Value
  pub joined : new ≡ ListValue (values_in (Some old) and_then values_from added)
  pub read : ElementsRead scalar_kind w added bytes rest

abbrev pub IsList : content.Value → Type 0
IsList (ListValue vs) = Unit {0}
IsList v = ⊥

abbrev pub IsListOrNone : Option content.Value → Type 0
IsListOrNone None = Unit {0}
IsListOrNone (Some v) = IsList v

-- The list with one more element; the first one, where nothing is there yet.
abbrev pub with_element : Option content.Value → content.Value → content.Value
with_element o v = ListValue (values_in o and_then Item v NoValues)

-- WRITING

-- The values are scalars of the kind.
abbrev pub TakesScalars : TableKind → List Value → Type 0
TakesScalars kind vs = AllByRecursion (λ v. TakesScalar kind (value_of v)) vs

-- Their payloads end to end.
abbrev pub payloads_bytes : TableKind → List Value → List ℕ
payloads_bytes kind vs = flat_map (λ v. scalar_bytes (plain_kind kind) (value_of v)) vs

-- A record for each.
abbrev pub records_bytes : ℕ → TableKind → List Value → List ℕ
records_bytes n kind vs = flat_map (λ v. scalar_record_bytes n (plain_kind kind) (value_of v)) vs

-- One record of all.
abbrev pub packed_bytes : ℕ → TableKind → List Value → List ℕ
packed_bytes n kind vs = short_key n wires.LengthDelimited ++ short_plain (Len (payloads_bytes kind vs))

-- What is written of a list; nothing of an empty one.
abbrev pub list_bytes : ℕ → (packed : Bool) → TableKind → List Value → List ℕ
list_bytes n packed kind [] = []
list_bytes n true kind (v ∷ vs) = packed_bytes n kind (v ∷ vs)
list_bytes n false kind (v ∷ vs) = records_bytes n kind (v ∷ vs)

-- LISTS OF MESSAGES

-- A message that can be written.
abbrev pub ElementWritable : content.Value → Type 0
ElementWritable (MessageValue c) = encodable c ≡ true
ElementWritable v = ⊥

abbrev pub AreElements : List Value → Type 0
AreElements vs = AllByRecursion (λ v. ElementWritable (value_of v)) vs

-- The record of each, one behind another.
abbrev pub element_bytes : ℕ → (is_group : Bool) → content.Value → List ℕ
element_bytes n g (MessageValue c) = nested_bytes n g c
element_bytes n g v = []

abbrev pub elements_bytes : ℕ → (is_group : Bool) → List Value → List ℕ
elements_bytes n g vs = flat_map (λ v. element_bytes n g (value_of v)) vs
