-- Message types for the worked examples. Each is said as a message definition; a place in the list `examples` names it.
use Rattle.std.specs.Prelude.{◌∷◌}
use Rattle.prost_reflect_laws.specs.Common.{ℕ, Bool, true, false, pos, List, [], Some, None, I32, ScalarKind, Double, Float, Int64, Uint64, Int32, Fixed64, Fixed32, BoolKind, StringKind, BytesKind, Uint32, Sfixed32, Sfixed64, Sint32, Sint64, Enum, Open, Closed, kind_default, Kind, ScalarOf, MessageOf, GroupOf, ValueType, FieldForm, Singular, Repeated, MapFrom, Field, MessageType, Schema}

-- FIELDS

abbrev pub scalar_value_type : ScalarKind → Bool → ValueType
scalar_value_type kind presence = record { kind = ScalarOf kind; presence = presence; required = false; default = kind_default kind }

abbrev pub message_value_type : Kind → ValueType
message_value_type kind = record { kind = kind; presence = true; required = false; default = I32 (pos 0) }

abbrev pub field : ℕ → FieldForm → ValueType → Field
field n form value_type = record { number = n; is_extension = false; form = form; value_type = value_type; oneof = None }

-- A list's elements have no presence.
abbrev pub list : ℕ → Bool → ValueType → Field
list n packed value_type = field n (Repeated packed) (record value_type { presence = false })

abbrev pub extension : ℕ → FieldForm → ValueType → Field
extension n form value_type = record (field n form value_type) { is_extension = true }

abbrev pub member : ℕ → ValueType → Field
member n value_type = record (field n Singular value_type) { oneof = Some 0 }

abbrev pub message : List Field → MessageType
message fields = record { is_entry = false; known = fields }

abbrev pub int32 : Bool → ValueType
int32 presence = scalar_value_type Int32 presence

abbrev pub text : Bool → ValueType
text presence = scalar_value_type StringKind presence

abbrev pub required_int32 : ValueType
required_int32 = record (int32 true) { required = true }

-- enum E { A = 0; B = 1; }, closed; the same with A alone; the same with B first; the same, open.
abbrev pub closed_enum : ValueType
closed_enum = scalar_value_type (Enum (pos 0) (Closed (pos 0 ∷ pos 1 ∷ []))) true

abbrev pub fewer_enum : ValueType
fewer_enum = scalar_value_type (Enum (pos 0) (Closed (pos 0 ∷ []))) true

abbrev pub other_enum : ValueType
other_enum = scalar_value_type (Enum (pos 1) (Closed (pos 1 ∷ pos 0 ∷ []))) true

abbrev pub open_enum : ValueType
open_enum = scalar_value_type (Enum (pos 0) Open) true

-- MESSAGE TYPES

-- proto3: { int32 foo = 1; oneof optional { int32 bar = 2; } MyMessage nested = 3; }
abbrev pub my_message : ℕ
my_message = 0

-- MyMessage without foo, at each depth.
abbrev pub older_message : ℕ
older_message = 1

-- MyMessage without bar, at each depth.
abbrev pub message_without_bar : ℕ
message_without_bar = 2

-- { repeated int32 values = 1; extensions 100 to 199; } with extend { repeated int32 ext_values = 100; }; not packed, and packed.
abbrev pub unpacked_list : ℕ
unpacked_list = 3

abbrev pub packed_list : ℕ
packed_list = 4

-- proto3: { map<string, int32> m = 1; map<int32, MyMessage> q = 2; Maps p = 3; }
abbrev pub maps : ℕ
maps = 5

-- Maps without m, and without q.
abbrev pub maps_without_m : ℕ
maps_without_m = 6

abbrev pub maps_without_q : ℕ
maps_without_q = 7

-- proto2: { map<string, int32> m = 1; }: the key and the value of an entry have presence.
abbrev pub presence_map : ℕ
presence_map = 8

-- { oneof c { int32 a = 1; MyMessage b = 2; } }
abbrev pub choice : ℕ
choice = 9

-- { repeated group Item = 1 { optional int32 x = 1; } }, and Item.
abbrev pub groups : ℕ
groups = 10

abbrev pub item : ℕ
item = 11

-- { group NestedGroup = 1 { .. } }, itself inside.
abbrev pub nested_group : ℕ
nested_group = 12

-- proto2: { extensions 100 to 199; } with extend { optional int32 x = 100; }
abbrev pub extended : ℕ
extended = 13

-- { optional int32 x = 100; }, a field.
abbrev pub field_at_hundred : ℕ
field_at_hundred = 14

abbrev pub no_fields : ℕ
no_fields = 15

-- proto2: { optional E e = 1; repeated E r = 2 [packed = true]; map<string, E> m = 3; oneof o { E x = 4; int32 y = 5; } extensions 100 to 199; } with extend { optional E z = 100; repeated E w = 101; }
abbrev pub closed : ℕ
closed = 16

-- The same with an open E, and with an E that declares A alone.
abbrev pub opened : ℕ
opened = 17

abbrev pub older_closed : ℕ
older_closed = 18

-- { E e = 1; } of each enum.
abbrev pub closed_alone : ℕ
closed_alone = 19

abbrev pub other_alone : ℕ
other_alone = 20

abbrev pub open_alone : ℕ
open_alone = 21

-- proto3: one field of each kind, its number the kind's code in descriptors.
abbrev pub plain : ℕ
plain = 22

-- { optional int32 a = 1; }, { required int32 a = 1; }, { int32 a = 1; }, { optional int32 a = 1 [default = 7]; } and { optional sint32 a = 1; }
abbrev pub optional_a : ℕ
optional_a = 23

abbrev pub required_a : ℕ
required_a = 24

abbrev pub plain_a : ℕ
plain_a = 25

abbrev pub seven_a : ℕ
seven_a = 26

abbrev pub signed_a : ℕ
signed_a = 27

-- MyMessage with a text in the place of foo at the second level.
abbrev pub text_inside : ℕ
text_inside = 28

abbrev pub text_at_one : ℕ
text_at_one = 29

-- { oneof c { int32 a = 1; int32 b = 2; } oneof d { int32 x = 3; int32 y = 4; } }, without a, and with b in d.
abbrev pub two_choices : ℕ
two_choices = 30

abbrev pub choices_without_a : ℕ
choices_without_a = 31

abbrev pub choices_moved : ℕ
choices_moved = 32

-- { MyMessage m = 1; }, and { repeated MyMessage m = 1; }
abbrev pub one_message : ℕ
one_message = 33

abbrev pub message_list : ℕ
message_list = 34

-- { repeated string s = 1; repeated sint64 d = 2 [packed = true]; repeated fixed32 f = 3 [packed = true]; }
abbrev pub lists : ℕ
lists = 35

-- proto2: { extensions 1 to 2; } with extend { optional int32 a = 1; optional MyMessage b = 2; }
abbrev pub extended_choice : ℕ
extended_choice = 36

abbrev closed_fields : ValueType → List Field
closed_fields e =
    field 1 Singular e ∷ list 2 true e ∷ field 3 (MapFrom (text true)) e ∷ member 4 e ∷ member 5 (int32 true)
    ∷ extension 100 Singular e ∷ extension 101 (Repeated false) (record e { presence = false }) ∷ []

abbrev pub examples : Schema
examples = message
    (field 1 Singular (int32 false) ∷ member 2 (int32 true)
    ∷ field 3 Singular (message_value_type (MessageOf my_message))
    ∷ [])
    ∷ message (member 2 (int32 true) ∷ field 3 Singular (message_value_type (MessageOf older_message)) ∷ [])
    ∷ message
    (field 1 Singular (int32 false) ∷ field 3 Singular (message_value_type (MessageOf message_without_bar)) ∷ [])
    ∷ message (list 1 false (int32 false) ∷ extension 100 (Repeated false) (int32 false) ∷ [])
    ∷ message (list 1 true (int32 false) ∷ extension 100 (Repeated true) (int32 false) ∷ [])
    ∷ message
    (field 1 (MapFrom (text false)) (int32 false)
    ∷ field 2 (MapFrom (int32 false)) (message_value_type (MessageOf my_message))
    ∷ field 3 Singular (message_value_type (MessageOf maps))
    ∷ [])
    ∷ message
    (field 2 (MapFrom (int32 false)) (message_value_type (MessageOf my_message))
    ∷ field 3 Singular (message_value_type (MessageOf maps_without_m))
    ∷ [])
    ∷ message
    (field 1 (MapFrom (text false)) (int32 false) ∷ field 3 Singular (message_value_type (MessageOf maps_without_q))
    ∷ [])
    ∷ message (field 1 (MapFrom (text true)) (int32 true) ∷ [])
    ∷ message (member 1 (int32 true) ∷ member 2 (message_value_type (MessageOf my_message)) ∷ [])
    ∷ message (list 1 false (message_value_type (GroupOf item)) ∷ [])
    ∷ message (field 1 Singular (int32 true) ∷ [])
    ∷ message (field 1 Singular (message_value_type (GroupOf nested_group)) ∷ [])
    ∷ message (extension 100 Singular (int32 true) ∷ [])
    ∷ message (field 100 Singular (int32 true) ∷ [])
    ∷ message []
    ∷ message (closed_fields closed_enum)
    ∷ message (closed_fields open_enum)
    ∷ message (closed_fields fewer_enum)
    ∷ message (field 1 Singular closed_enum ∷ [])
    ∷ message (field 1 Singular other_enum ∷ [])
    ∷ message (field 1 Singular open_enum ∷ [])
    ∷ message
    (field 1 Singular (scalar_value_type Double false) ∷ field 2 Singular (scalar_value_type Float false)
    ∷ field 3 Singular (scalar_value_type Int64 false)
    ∷ field 4 Singular (scalar_value_type Uint64 false)
    ∷ field 5 Singular (scalar_value_type Int32 false)
    ∷ field 6 Singular (scalar_value_type Fixed64 false)
    ∷ field 7 Singular (scalar_value_type Fixed32 false)
    ∷ field 8 Singular (scalar_value_type BoolKind false)
    ∷ field 9 Singular (scalar_value_type StringKind false)
    ∷ field 12 Singular (scalar_value_type BytesKind false)
    ∷ field 13 Singular (scalar_value_type Uint32 false)
    ∷ field 15 Singular (scalar_value_type Sfixed32 false)
    ∷ field 16 Singular (scalar_value_type Sfixed64 false)
    ∷ field 17 Singular (scalar_value_type Sint32 false)
    ∷ field 18 Singular (scalar_value_type Sint64 false)
    ∷ [])
    ∷ message (field 1 Singular (int32 true) ∷ [])
    ∷ message (field 1 Singular required_int32 ∷ [])
    ∷ message (field 1 Singular (int32 false) ∷ [])
    ∷ message (field 1 Singular (record (int32 true) { default = I32 (pos 7) }) ∷ [])
    ∷ message (field 1 Singular (scalar_value_type Sint32 true) ∷ [])
    ∷ message
    (field 1 Singular (int32 false) ∷ member 2 (int32 true)
    ∷ field 3 Singular (message_value_type (MessageOf text_at_one))
    ∷ [])
    ∷ message (field 1 Singular (text false) ∷ [])
    ∷ message
    (member 1 (int32 true) ∷ member 2 (int32 true) ∷ record (member 3 (int32 true)) { oneof = Some 1 }
    ∷ record (member 4 (int32 true)) { oneof = Some 1 }
    ∷ [])
    ∷ message
    (member 2 (int32 true) ∷ record (member 3 (int32 true)) { oneof = Some 1 }
    ∷ record (member 4 (int32 true)) { oneof = Some 1 }
    ∷ [])
    ∷ message
    (member 1 (int32 true) ∷ record (member 2 (int32 true)) { oneof = Some 1 }
    ∷ record (member 3 (int32 true)) { oneof = Some 1 }
    ∷ record (member 4 (int32 true)) { oneof = Some 1 }
    ∷ [])
    ∷ message (field 1 Singular (message_value_type (MessageOf my_message)) ∷ [])
    ∷ message (list 1 false (message_value_type (MessageOf my_message)) ∷ [])
    ∷ message
    (list 1 false (text false) ∷ list 2 true (scalar_value_type Sint64 false)
    ∷ list 3 true (scalar_value_type Fixed32 false)
    ∷ [])
    ∷ message
    (extension 1 Singular (int32 true) ∷ extension 2 Singular (message_value_type (MessageOf my_message)) ∷ [])
    ∷ []

-- { repeated int32 values = 1; } of another schema, at the place that MyMessage has in the first.
abbrev pub foreign_list : ℕ
foreign_list = 0

abbrev pub other_examples : Schema
other_examples = message (list 1 false (int32 false) ∷ []) ∷ []
