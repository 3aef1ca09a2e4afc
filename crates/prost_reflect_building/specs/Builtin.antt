-- The built-in schema: two message types with a field of each scalar kind, one without presence and one with it.
use Rattle.std.specs.Prelude.{ℕ, Bool, true, false, List, [], ◌∷◌, map, None, codes}
use Rattle.prost_reflect_wire.specs.Scalar.{ScalarKind, Double, Float, Int64, Uint64, Int32, Fixed64, Fixed32, BoolKind, StringKind, BytesKind, Uint32, Sfixed32, Sfixed64, Sint32, Sint64, kind_default}
use Rattle.prost_reflect_wire.specs.Schema.{ScalarOf, Singular, Field, MessageType, Schema}

-- The numbers are the kinds' type codes in descriptor records.
abbrev pub scalar_numbers : List (ℕ × ScalarKind)
scalar_numbers =
    (1, Double) ∷ (2, Float) ∷ (3, Int64) ∷ (4, Uint64) ∷ (5, Int32) ∷ (6, Fixed64) ∷ (7, Fixed32) ∷ (8, BoolKind)
    ∷ (9, StringKind) ∷ (12, BytesKind) ∷ (13, Uint32) ∷ (15, Sfixed32) ∷ (16, Sfixed64) ∷ (17, Sint32) ∷ (18, Sint64) ∷ []

abbrev pub scalar_field : Bool → ℕ × ScalarKind → Field
scalar_field presence (n, kind) = record {
  number = n;
  is_extension = false;
  form = Singular;
  value_type = record { kind = ScalarOf kind; presence = presence; required = false; default = kind_default kind };
  oneof = None;
}

abbrev pub scalar_message : Bool → MessageType
scalar_message presence = record { is_entry = false; known = map (scalar_field presence) scalar_numbers }

abbrev pub builtin_schema : Schema
builtin_schema = scalar_message false ∷ scalar_message true ∷ []

-- The full names of the two, in this order.
abbrev pub builtin_names : List (List ℕ)
builtin_names = codes "builtin.Plain" ∷ codes "builtin.Kept" ∷ []
