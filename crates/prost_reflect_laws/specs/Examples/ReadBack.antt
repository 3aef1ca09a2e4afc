-- Worked examples at which the premises of the laws on reading back hold: what is written of one value is read as it.
use Rattle.std.specs.Prelude.{◌≡◌}
use Rattle.prost_reflect_laws.specs.Common.{ℕ, true, false, pos, Some, body_of, valid, I32, Int32, scalar_valid, Field, ScalarOf, MessageOf, Singular, MapFrom, known, field_of, is_packable, Content, NoEntries, Stored, Value, Values, NoValues, Item, ListValue, MapValue, Pairs, NoPairs, Pair, MessageValue, entries_of, entries_ordered, pairs_ordered, meaning, is_default_of, records, is_of_type, is_whole_stray, elements_valid}
use Rattle.prost_reflect_laws.specs.Laws.{ValueBack, UnknownBack, EntriesBack, ElementsBack, PairsBack}
use Rattle.prost_reflect_laws.specs.Examples.Schemas.{examples, field, list, int32, text, message_value_type, closed_enum, my_message, unpacked_list, packed_list, maps, closed}
use Rattle.prost_reflect_laws.specs.Examples.Words.{content, int, ascii, varint}
use Rattle.prost_reflect_laws.specs.Examples.Instances.{sample}

-- The field stands at its number among those of the type.
abbrev pub Known : ℕ → Field → Type 0
Known T f = field_of (known examples T) f.number ≡ Some f

-- A value of a field of the type is read back where one level is left.
abbrev pub IsBack : ℕ → Field → Value → Type 0
IsBack T f v = ValueBack (meaning examples 1) (known examples T) f.number f v

abbrev pub foo : Field
foo = field 1 Singular (int32 false)

abbrev pub nested_field : Field
nested_field = field 3 Singular (message_value_type (MessageOf my_message))

abbrev pub one_inside : Content
one_inside = content my_message (Stored 1 (int 1) NoEntries)

-- One element is a default.
abbrev pub elements : Values
elements = Item (int 1) (Item (int 0) NoValues)

abbrev pub unpacked_field : Field
unpacked_field = list 1 false (int32 false)

abbrev pub packed_field : Field
packed_field = list 1 true (int32 false)

abbrev pub map_field : Field
map_field = field 1 (MapFrom (text false)) (int32 false)

-- One key and one value is a default.
abbrev pub pairs : Pairs
pairs = Pair (ascii "") (int 1) (Pair (ascii "a") (int 0) NoPairs)

abbrev pub enum_field : Field
enum_field = field 1 Singular closed_enum

pub record OfReadingBack : Type 0 where
  -- A number that is no default, of a field of one number.
  pub scalar_back : Known my_message foo × (scalar_valid Int32 (I32 (pos 5)) ≡ true) × (is_default_of (int32 false) (int 5) ≡ false)
  -- It is read back.
  pub scalar_read : IsBack my_message foo (int 5)
  -- A message, whose records mean it.
  pub message_back : Known my_message nested_field × (is_of_type (MessageOf my_message) my_message ≡ true)
      × (valid (body_of (records one_inside)) ≡ true)
      × (meaning examples 1 my_message (records one_inside) ≡ one_inside)
  -- It is read back.
  pub message_read : IsBack my_message nested_field (MessageValue one_inside)
  -- A list that is not packed, each element of which is read back.
  pub list_back : Known unpacked_list unpacked_field × ElementsBack (meaning examples 1) (ScalarOf Int32) elements
  -- It is read back.
  pub list_read : IsBack unpacked_list unpacked_field (ListValue elements)
  -- A packed list of numbers.
  pub packed_back : Known packed_list packed_field × (is_packable Int32 ≡ true) × (elements_valid (ScalarOf Int32) elements ≡ true)
  -- It is read back.
  pub packed_read : IsBack packed_list packed_field (ListValue elements)
  -- A map in ascending keys, each entry of which is read back.
  pub map_back : Known maps map_field × PairsBack (meaning examples 1) (text false) (int32 false) pairs × (pairs_ordered pairs ≡ true)
  -- It is read back.
  pub map_read : IsBack maps map_field (MapValue pairs)
  -- An undeclared number of a closed enum.
  pub stray_back : Known closed enum_field × (is_whole_stray Singular closed_enum (varint 7) ≡ true)
  -- It stays unknown.
  pub stray_read : UnknownBack (known examples closed) 1 (varint 7)
  -- A content, each entry of which is read back.
  pub entries_mean : EntriesBack (meaning examples 1) (known examples my_message) (entries_of sample)
      × (entries_ordered (entries_of sample) ≡ true)
  -- Its records mean it.
  pub entries_read : meaning examples 2 my_message (records sample) ≡ sample
