-- What extensions extend, and where their rows stand. For contracts of this crate and of the catalog alone.
use Rattle.std.specs.Prelude.{ℕ, List, [], ◌∷◌, option_map, slice_get, slice_set, unwrap_or}
use Rattle.prost_reflect_types.specs.declared.FieldDescriptorProto.{FieldDescriptorProto}
use Rattle.prost_reflect_growth.specs.RowsGrow.{number_of_row}
use Rattle.prost_reflect_lists.specs.declared.extensions.Extended.{Extended}
use Rattle.prost_reflect_tables.specs.CatalogRows.{ExtensionRow}
use Rattle.prost_reflect_tables.specs.Flat.{DefinitionRow}
use Rattle.prost_reflect_tables.specs.Linking.{Links, natural_or_zero, place_or_first}
use Rattle.prost_reflect_tables.specs.Places as places
use Rattle.prost_reflect_tables.specs.Resolved.{ResolvedRow}
use Rattle.prost_reflect_tables.specs.Rows.{TableRows}

-- The place of the message that an extension extends, and its number there.
pub record ExtendedRow : Type 0 where
  pub message : ℕ
  pub number : ℕ

abbrev pub extended_row : Extended → ExtendedRow
extended_row e = record { message = e.message; number = e.number }

-- One that extends nothing counts as of the first message.
abbrev pub found_extended : ResolvedRow → ExtendedRow
found_extended r = record { message = unwrap_or r.extendee 0; number = natural_or_zero r.definition.proto.number }

abbrev pub extended : Links → DefinitionRow FieldDescriptorProto → ExtendedRow
extended links d = record { message = place_or_first links.messages d.proto.extendee; number = natural_or_zero d.proto.number }

-- The place of the number's row.
abbrev pub placed : TableRows → ExtendedRow → ExtensionRow
placed linked e = record { message = e.message; field = unwrap_or (places.place_of (places.fields_at linked e.message) e.number) 0 }

-- An extension of former rows is found in other ones by its number.
abbrev pub found_again : (before after : TableRows) → ExtensionRow → ExtensionRow
found_again before after x = placed after (record { message = x.message; number = number_of_row (slice_get (places.fields_at before x.message) x.field) })

-- The one at a place.
abbrev pub again_at : (before after : TableRows) → List ExtensionRow → ℕ → ExtensionRow
again_at before after xs i = unwrap_or (option_map (found_again before after) (slice_get xs i)) (record { message = 0; field = 0 })

-- The items at the places are made anew, each by its place.
abbrev pub made_anew : {X : Type 0} → (ℕ → X) → List ℕ → List X → List X
made_anew make [] xs = xs
made_anew make (i ∷ places) xs = made_anew make places (slice_set xs i (make i))
