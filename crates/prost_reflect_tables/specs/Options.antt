-- The options that are read of a definition's option bytes (descriptor.proto, `MessageOptions.map_entry` and `FieldOptions.packed`; the encoding guide, "Message Structure" and "Last One Wins").
use Rattle.std.specs.Prelude.{ℕ, nat_eq, nat_le, not, if◌then◌else◌, Bool, List, [], ◌∷◌, Option, Some, None, Vec}
use Rattle.std.specs.declared.alloc.Global.{Global}
use Rattle.prost_reflect_wire.specs.Grammar.{LEVEL_LIMIT}
use Rattle.prost_reflect_wire.specs.Record.{Payload, Flat, Var, Record, Records, items, raw_levels, read}

-- A bool is a varint that is not 0; a payload of another wire type is none.
abbrev pub bool_of : Payload → Option Bool
bool_of (Flat (Var v)) = Some (not (nat_eq v 0))
bool_of p = None

-- The bool of the last record of a number; without such a record, the one that was found before.
abbrev pub last_bool : (number : ℕ) → Option Bool → List Record → Option Bool
last_bool number found [] = found
last_bool number found (r ∷ rs) = last_bool number (if nat_eq r.number number then bool_of r.payload else found) rs

-- Records within the limit of levels; otherwise nothing is read.
abbrev pub bool_among : (number : ℕ) → Option Bool → Option Records → Option Bool
bool_among number found None = None
bool_among number found (Some rs) = if nat_le (raw_levels rs) LEVEL_LIMIT then last_bool number found (items rs) else None

-- The bool of a number in bytes, behind one that was found before them.
abbrev pub bool_in : (number : ℕ) → Option Bool → List ℕ → Option Bool
bool_in number found bytes = bool_among number found (read bytes)

-- The bool option of a number, if the options say it.
abbrev pub bool_option : (number : ℕ) → Option (Vec ℕ Global) → Option Bool
bool_option number None = None
bool_option number (Some bytes) = bool_in number None bytes.items
