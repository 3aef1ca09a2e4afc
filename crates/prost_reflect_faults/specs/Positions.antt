-- Where in the bytes a fault stands.
use Rattle.std.specs.Prelude.{◌≡◌, ℕ, ◌+◌, ◌-◌, List, [], ◌∷◌, length, None}
use Rattle.prost_reflect_wire.specs.Schema.{Schema}
use Rattle.prost_reflect_wire.specs.Fault.{Place, OfType, Stands, Here, Behind, InMessage, InGroup, InUnknown, InEntry}
use Rattle.prost_reflect_wire.specs.declared.error.DecodeError.{DecodeError}

-- The numbers of the messages, groups and entries of maps that the record at fault stands in, outermost first.
abbrev pub path_of : {schema : Schema} {e : DecodeError} {place : Place} → Stands schema e place → List ℕ
path_of (Here comes) = []
path_of (Behind r rest front more) = path_of more
path_of (InMessage n T k f body rest after found single kind left key front more) = n ∷ path_of more
path_of (InGroup n T k f rest found single kind left key more) = n ∷ path_of more
path_of (InUnknown n k rest found left key more) = n ∷ path_of more
path_of (InEntry n f key_type body rest after found form level key front more) = n ∷ path_of more

-- How many bytes stand before that record.
abbrev pub offset_of : {schema : Schema} {e : DecodeError} {place : Place} → Stands schema e place → ℕ
offset_of (Here comes) = 0
offset_of (Behind {place} r rest front more) = (length place.bytes - length rest) + offset_of more
offset_of (InMessage {place} n T k f body rest after found single kind left key front more) = (length place.bytes - (length body + length after)) + offset_of more
offset_of (InGroup {place} n T k f rest found single kind left key more) = (length place.bytes - length rest) + offset_of more
offset_of (InUnknown {place} n k rest found left key more) = (length place.bytes - length rest) + offset_of more
offset_of (InEntry {place} n f key_type body rest after found form level key front more) = (length place.bytes - (length body + length after)) + offset_of more

-- The fault stands so many bytes behind the beginning of the place, inside of these fields.
pub record StandsAt (schema : Schema) (place : Place) (e : DecodeError) (offset : ℕ) (path : List ℕ) : Type 0 where
  pub stands : Stands schema e place
  pub offset_is : offset_of stands ≡ offset
  pub path_is : path_of stands ≡ path

-- Where a message of the type is read.
abbrev pub message_place : (levels T : ℕ) → List ℕ → Place
message_place levels T bytes = record { bytes = bytes; inside = OfType T; levels = levels; open_group = None }
