-- Lists of enum numbers: the fields that have them, and what reading their records makes of a message's content. For private contracts alone.
use Rattle.std.specs.Prelude.{◌≡◌, ◌^◌, ℕ, pos, Bool, true, not, nat_lt, List, [], ◌∷◌, ◌++◌, map, Some}
use Rattle.std.specs.List.{filter, list_all}
use Rattle.prost_reflect_wire.specs.Record.{Flat, Var, record_at}
use Rattle.prost_reflect_wire.specs.Scalar.{Enum, EnumNumber, Open, low_i32}
use Rattle.prost_reflect_wire.specs.Content.{Content, Value, ScalarValue, ListValue, ◌and_then◌, values_from, entries_of, value_at}
use Rattle.prost_reflect_wire.specs.Grammar.{unpacked}
use Rattle.prost_reflect_wire.specs.Meaning.{values_in}
use Rattle.prost_reflect_tables.specs.declared.tables.TableKind.{TableKind}
use Rattle.prost_reflect_tables.specs.Rows.{EnumRow}
use Rattle.prost_reflect_dynamic.specs.Contents.{value_set, unknown_added}
use Rattle.prost_reflect_rows.specs.Scalars.{is_stray_number}

-- What the number of a varint is as an element.
abbrev pub number_element : ℕ → Value
number_element varint = ScalarValue (EnumNumber (low_i32 varint))

-- The varints of numbers that their enum does not declare, and the others.
abbrev pub is_stray_varint : List EnumRow → TableKind → ℕ → Bool
is_stray_varint enums kind varint = is_stray_number enums kind (number_element varint)

abbrev pub strays_in : List EnumRow → TableKind → List ℕ → List ℕ
strays_in enums kind varints = filter (is_stray_varint enums kind) varints

abbrev pub declared_in : List EnumRow → TableKind → List ℕ → List ℕ
declared_in enums kind varints = filter (λ v. not (is_stray_varint enums kind v)) varints

-- Unknown records of varints, one behind another.
abbrev pub varints_added : ℕ → List ℕ → Content → Content
varints_added n [] c = c
varints_added n (v ∷ vs) c = varints_added n vs (unknown_added (record_at n (Flat (Var v))) c)

-- Varints that are read: the numbers that their enum declares stand behind the elements of the list, and the others become unknown records, with all of their bits.
abbrev pub numbers_taken : List EnumRow → ℕ → TableKind → List ℕ → Content → Content
numbers_taken enums n kind varints c = varints_added n (strays_in enums kind varints) (value_set n (ListValue (values_in (value_at n (entries_of c)) and_then values_from (map number_element (declared_in enums kind varints)))) c)

-- The varints of a packed record's body.
pub record AreVarintsOf (varints body : List ℕ) : Type 0 where
  pub whole : unpacked (Enum (pos 0) Open) body ≡ Some (map Var varints)
  pub below : list_all (λ v. nat_lt v (2 ^ 64)) varints ≡ true

-- They were read.
pub record BodyTaken (enums : List EnumRow) (n : ℕ) (kind : TableKind) (old new : Content) (body : List ℕ) : Type 0 where
  pub varints : List ℕ
  pub read : AreVarintsOf varints body
  pub taken : new ≡ numbers_taken enums n kind varints old

-- The declared ones stand behind the elements of a list, and the strays are what is left.
pub record PartsNumbers (enums : List EnumRow) (kind : TableKind) (old new : List Value) (strays body : List ℕ) : Type 0 where
  pub varints : List ℕ
  pub read : AreVarintsOf varints body
  pub added : new ≡ old ++ map number_element (declared_in enums kind varints)
  pub left : strays ≡ strays_in enums kind varints

-- The same of the list that a value is.
pub record JoinsNumbers (enums : List EnumRow) (kind : TableKind) (old new : Value) (strays body : List ℕ) : Type 0 where
  pub varints : List ℕ
  pub read : AreVarintsOf varints body
  pub joined : new ≡ ListValue (values_in (Some old) and_then values_from (map number_element (declared_in enums kind varints)))
  pub left : strays ≡ strays_in enums kind varints
