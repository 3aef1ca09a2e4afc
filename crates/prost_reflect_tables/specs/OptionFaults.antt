-- BadOptions: option bytes are records within the limit of levels, and each record of the option that is read is a bool's (descriptor.proto, `MessageOptions.map_entry` and `FieldOptions.packed`; the encoding guide, "Message Structure").
use Rattle.std.specs.Prelude.{ℕ, nat_eq, nat_le, Bool, false, not, ◌&&◌, ◌||◌, List, Option, Some, None, is_some, Vec}
use Rattle.std.specs.List.{list_any, list_all}
use Rattle.std.specs.declared.alloc.Global.{Global}
use Rattle.prost_reflect_wire.specs.Grammar.{LEVEL_LIMIT}
use Rattle.prost_reflect_wire.specs.Record.{Record, Records, items, raw_levels, read}
use Rattle.prost_reflect_tables.specs.Flat.{FlatRows}
use Rattle.prost_reflect_tables.specs.Options.{bool_of}
use Rattle.prost_reflect_tables.specs.Faults.{any_field}

-- A record of the number is a varint.
abbrev pub suits_option : (number : ℕ) → Record → Bool
suits_option number r = not (nat_eq r.number number) || is_some (bool_of r.payload)

abbrev pub records_suit_option : (number : ℕ) → Option Records → Bool
records_suit_option number None = false
records_suit_option number (Some rs) = nat_le (raw_levels rs) LEVEL_LIMIT && list_all (suits_option number) (items rs)

-- Records within the limit of levels, each of which suits the option.
abbrev pub bytes_suit_option : (number : ℕ) → List ℕ → Bool
bytes_suit_option number bytes = records_suit_option number (read bytes)

-- A definition without options has no bad ones.
abbrev pub option_bad : (number : ℕ) → Option (Vec ℕ Global) → Bool
option_bad number None = false
option_bad number (Some bytes) = not (bytes_suit_option number bytes.items)

-- Of a message `map_entry` is read, number 7, and of a field or extension `packed`, number 2.
abbrev pub bad_options : FlatRows → Bool
bad_options rows = list_any (λ m. option_bad 7 m.definition.proto.options) rows.messages
    || any_field (λ d. option_bad 2 d.proto.options) rows
