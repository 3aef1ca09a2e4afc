-- The rows of the table of descriptor records as fields of the schema.
use Rattle.std.specs.Prelude.{◌≡◌, ◌∷◌}
use Rattle.prost_reflect_proto.proofs.Common.{ℕ, Bool, true, false, cond, List, [], map, nat_eq, Option, Some, None, refl, ap, ◌∙◌, eqb-true, ◌>>=◌, field_of, known, rows, type_place, field_of_row, record_schema, kind_at, RecordType, FieldKind}
use Rattle.prost_reflect_types.specs.declared.table.RecordType.TheVariants as types

pub known_rows : (t : RecordType) → known record_schema (type_place t) ≡ map field_of_row (rows t)
unfolding record_schema
known_rows types.FileSet = refl
known_rows types.File = refl
known_rows types.Message = refl
known_rows types.ExtensionRange = refl
known_rows types.ReservedRange = refl
known_rows types.Field = refl
known_rows types.Oneof = refl
known_rows types.Enum = refl
known_rows types.EnumReservedRange = refl
known_rows types.EnumValue = refl
known_rows types.Service = refl
known_rows types.Method = refl

-- the field of a number is that of its kind
field_of_kind : (rs : List (ℕ × FieldKind)) (n : ℕ) → field_of (map field_of_row rs) n ≡ (kind_at rs n >>= λ kind. Some (field_of_row (n, kind)))
field_of_kind [] n = refl
field_of_kind (row ∷ rs) n = go (nat_eq row.0 n) refl (field_of_kind rs n)
  where
    go : (b : Bool) → nat_eq row.0 n ≡ b → field_of (map field_of_row rs) n ≡ (kind_at rs n >>= λ kind. Some (field_of_row (n, kind))) →
        cond b (Some (field_of_row row)) (field_of (map field_of_row rs) n) ≡ (cond b (Some row.1) (kind_at rs n) >>= λ kind. Some (field_of_row (n, kind)))
    go true e more = ap (λ (m : ℕ). Some (field_of_row (m, row.1))) (eqb-true row.0 n e)
    go false e more = more

pub field_at_number : (t : RecordType) (n : ℕ) → field_of (known record_schema (type_place t)) n ≡ (kind_at (rows t) n >>= λ kind. Some (field_of_row (n, kind)))
field_at_number t n = ap (λ fs. field_of fs n) (known_rows t) ∙ field_of_kind (rows t) n

pub known_field : (t : RecordType) (n : ℕ) (kind : FieldKind) → kind_at (rows t) n ≡ Some kind → field_of (known record_schema (type_place t)) n ≡ Some (field_of_row (n, kind))
known_field t n kind e = field_at_number t n ∙ ap (λ (o : Option FieldKind). o >>= λ k. Some (field_of_row (n, k))) e

pub unknown_field : (t : RecordType) (n : ℕ) → kind_at (rows t) n ≡ None → field_of (known record_schema (type_place t)) n ≡ None
unknown_field t n e = field_at_number t n ∙ ap (λ (o : Option FieldKind). o >>= λ k. Some (field_of_row (n, k))) e
