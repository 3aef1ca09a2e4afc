-- The records of a descriptor set as a table: each record's fields, by number and kind (descriptor.proto of Protocol Buffers).
use Rattle.std.specs.Prelude.{ℕ, Bool, true, false, List, [], ◌∷◌, map, None}
use Rattle.prost_reflect_wire.specs.Scalar.{Boolean, ScalarKind, Int32, BoolKind, StringKind, BytesKind, kind_default}
use Rattle.prost_reflect_wire.specs.Schema.{ScalarOf, MessageOf, ValueType, FieldForm, Singular, Repeated, Field, MessageType, Schema}
use Rattle.prost_reflect_types.specs.declared.table.RecordType.{RecordType}
use Rattle.prost_reflect_types.specs.declared.table.RecordType.TheVariants as types
use Rattle.prost_reflect_types.specs.declared.table.FieldKind.{FieldKind}
use Rattle.prost_reflect_types.specs.declared.table.FieldKind.TheVariants.{Text, Number, Flag, Bytes, Texts, Numbers, Records}

-- In ascending number.
abbrev pub rows : RecordType → List (ℕ × FieldKind)
rows types.FileSet = (1, Records types.File) ∷ []
rows types.File = (1, Text) ∷ (2, Text) ∷ (3, Texts) ∷ (4, Records types.Message) ∷ (5, Records types.Enum) ∷ (6, Records types.Service)
    ∷ (7, Records types.Field) ∷ (8, Bytes) ∷ (9, Bytes) ∷ (10, Numbers) ∷ (11, Numbers) ∷ (12, Text) ∷ []
rows types.Message = (1, Text) ∷ (2, Records types.Field) ∷ (3, Records types.Message) ∷ (4, Records types.Enum)
    ∷ (5, Records types.ExtensionRange)
    ∷ (6, Records types.Field)
    ∷ (7, Bytes)
    ∷ (8, Records types.Oneof)
    ∷ (9, Records types.ReservedRange)
    ∷ (10, Texts)
    ∷ []
rows types.ExtensionRange = (1, Number) ∷ (2, Number) ∷ (3, Bytes) ∷ []
rows types.ReservedRange = (1, Number) ∷ (2, Number) ∷ []
rows types.Field = (1, Text) ∷ (2, Text) ∷ (3, Number) ∷ (4, Number) ∷ (5, Number) ∷ (6, Text) ∷ (7, Text) ∷ (8, Bytes)
    ∷ (9, Number)
    ∷ (10, Text)
    ∷ (17, Flag)
    ∷ []
rows types.Oneof = (1, Text) ∷ (2, Bytes) ∷ []
rows types.Enum = (1, Text) ∷ (2, Records types.EnumValue) ∷ (3, Bytes) ∷ (4, Records types.EnumReservedRange) ∷ (5, Texts) ∷ []
rows types.EnumReservedRange = (1, Number) ∷ (2, Number) ∷ []
rows types.EnumValue = (1, Text) ∷ (2, Number) ∷ (3, Bytes) ∷ []
rows types.Service = (1, Text) ∷ (2, Records types.Method) ∷ (3, Bytes) ∷ []
rows types.Method = (1, Text) ∷ (2, Text) ∷ (3, Text) ∷ (4, Bytes) ∷ (5, Flag) ∷ (6, Flag) ∷ []

-- All of them; each has its place in this list.
abbrev pub record_types : List RecordType
record_types = types.FileSet ∷ types.File ∷ types.Message ∷ types.ExtensionRange ∷ types.ReservedRange ∷ types.Field
    ∷ types.Oneof
    ∷ types.Enum
    ∷ types.EnumReservedRange
    ∷ types.EnumValue
    ∷ types.Service
    ∷ types.Method
    ∷ []

abbrev pub type_place : RecordType → ℕ
type_place types.FileSet = 0
type_place types.File = 1
type_place types.Message = 2
type_place types.ExtensionRange = 3
type_place types.ReservedRange = 4
type_place types.Field = 5
type_place types.Oneof = 6
type_place types.Enum = 7
type_place types.EnumReservedRange = 8
type_place types.EnumValue = 9
type_place types.Service = 10
type_place types.Method = 11

-- AS MESSAGE TYPES

-- A value of its own, which has presence, or an element of a list.
abbrev pub scalar_of : ScalarKind → (presence : Bool) → ValueType
scalar_of kind presence = record { kind = ScalarOf kind; presence = presence; required = false; default = kind_default kind }

abbrev pub nested_value_type : RecordType → ValueType
nested_value_type t = record { kind = MessageOf (type_place t); presence = false; required = false; default = Boolean false }

-- Raw bytes are the list of the pieces in which they are written; lists are not packed.
abbrev pub form_of : FieldKind → FieldForm
form_of Text = Singular
form_of Number = Singular
form_of Flag = Singular
form_of Bytes = Repeated false
form_of Texts = Repeated false
form_of Numbers = Repeated false
form_of (Records t) = Repeated false

abbrev pub value_type_of : FieldKind → ValueType
value_type_of Text = scalar_of StringKind true
value_type_of Number = scalar_of Int32 true
value_type_of Flag = scalar_of BoolKind true
value_type_of Bytes = scalar_of BytesKind false
value_type_of Texts = scalar_of StringKind false
value_type_of Numbers = scalar_of Int32 false
value_type_of (Records t) = nested_value_type t

abbrev pub field_of_row : ℕ × FieldKind → Field
field_of_row row = record { number = row.0; is_extension = false; form = form_of row.1; value_type = value_type_of row.1; oneof = None }

abbrev pub message_type_of : RecordType → MessageType
message_type_of t = record { is_entry = false; known = map field_of_row (rows t) }

-- Each record type at its place.
unfoldable pub record_schema : Schema
record_schema = map message_type_of record_types
