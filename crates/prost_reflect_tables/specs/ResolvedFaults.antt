-- What the faults say of a field or an extension whose texts were looked up. For private contracts alone.
use Rattle.std.specs.Prelude.{ℕ, Bool, not, ◌&&◌, ◌||◌, List, [], ◌∷◌, ◌++◌, Option, is_some, is_none, option_and_then, slice_get, String}
use Rattle.std.specs.declared.alloc.Global.{Global}
use Rattle.prost_reflect_tables.specs.Flat.{FlatMessageRow, FlatRows}
use Rattle.prost_reflect_tables.specs.Faults.{number_or_zero, is_code, is_message_type, is_enum_type, is_out_of, Numbered, numbered_at}
use Rattle.prost_reflect_tables.specs.EntryFaults.{is_entry_message}
use Rattle.prost_reflect_tables.specs.DefaultFaults.{is_float_type}
use Rattle.prost_reflect_tables.specs.Resolved.{ResolvedRow}

-- A text whose definition was not found.
abbrev pub unfound : Option (String Global) → Option ℕ → Bool
unfound text place = is_some text && is_none place

abbrev pub type_unfound : ResolvedRow → Bool
type_unfound f = (is_message_type f.definition.proto.type_ && unfound f.definition.proto.type_name f.message)
    || (is_enum_type f.definition.proto.type_ && unfound f.definition.proto.type_name f.enumeration)

abbrev pub extendee_unfound : ResolvedRow → Bool
extendee_unfound f = unfound f.definition.proto.extendee f.extendee

abbrev pub flat_message_at : FlatRows → Option ℕ → Option FlatMessageRow
flat_message_at rows place = option_and_then (λ p. slice_get rows.messages p) place

abbrev pub found_outside : FlatRows → ResolvedRow → Bool
found_outside rows f = is_out_of (number_or_zero f.definition.proto.number) (flat_message_at rows f.extendee)

-- The extensions whose message was found, each with its number.
abbrev pub numbered_found : List ResolvedRow → List Numbered
numbered_found [] = []
numbered_found (f ∷ fs) = numbered_at (number_or_zero f.definition.proto.number) f.extendee ++ numbered_found fs

abbrev pub found_of_entry : FlatRows → ResolvedRow → Bool
found_of_entry rows f = is_message_type f.definition.proto.type_ && is_entry_message (flat_message_at rows f.message)

abbrev pub wrongly_found : FlatRows → ResolvedRow → Bool
wrongly_found rows f = found_of_entry rows f && not (is_code 3 f.definition.proto.label && is_code 11 f.definition.proto.type_)

abbrev pub misplaced : ResolvedRow → Bool
misplaced f = is_some f.definition.proto.default_value
    && (is_code 3 f.definition.proto.label || is_message_type f.definition.proto.type_ || f.definition.is_proto3)

abbrev pub unread : ResolvedRow → Bool
unread f = is_some f.definition.proto.default_value && is_none f.default

abbrev pub bad_read : ResolvedRow → Bool
bad_read f = misplaced f || (not (is_float_type f.definition.proto.type_) && unread f)

abbrev pub bad_float : ResolvedRow → Bool
bad_float f = is_float_type f.definition.proto.type_ && unread f
