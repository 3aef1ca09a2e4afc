-- What the bytes of a descriptor record mean: what they mean by the table, where unknown records are dropped and the pieces of raw bytes are joined.
use Rattle.std.specs.Prelude.{ℕ, List, ◌++◌, Option, option_map}
use Rattle.prost_reflect_wire.specs.Scalar.{Bytes}
use Rattle.prost_reflect_wire.specs.Content.{Content, ContentOf, Entries, NoEntries, Stored, Unknown, Value, ScalarValue, MessageValue, ListValue, MapValue, Values, NoValues, Item}
use Rattle.prost_reflect_wire.specs.Meaning.{decoded}
use Rattle.prost_reflect_types.specs.DescriptorTable.{type_place, record_schema}
use Rattle.prost_reflect_types.specs.declared.table.RecordType.{RecordType}

-- A value in front of others; bytes in front of bytes are joined with them.
abbrev pub in_front_of : Value → Values → Values
in_front_of (ScalarValue (Bytes front)) (Item (ScalarValue (Bytes behind)) vs) = Item (ScalarValue (Bytes (front ++ behind))) vs
in_front_of v vs = Item v vs

-- Without unknown records, and the pieces of bytes joined, at every depth. No record here has a map, so of maps nothing is meant.
abbrev mutual
  pub gathered : Content → Content
  gathered (ContentOf schema T es) = ContentOf schema T (entries_gathered es)

  pub entries_gathered : Entries → Entries
  entries_gathered NoEntries = NoEntries
  entries_gathered (Stored n v es) = Stored n (value_gathered v) (entries_gathered es)
  entries_gathered (Unknown n p es) = entries_gathered es

  pub value_gathered : Value → Value
  value_gathered (ScalarValue v) = ScalarValue v
  value_gathered (MessageValue c) = MessageValue (gathered c)
  value_gathered (ListValue vs) = ListValue (values_gathered vs)
  value_gathered (MapValue ps) = MapValue ps

  pub values_gathered : Values → Values
  values_gathered NoValues = NoValues
  values_gathered (Item v vs) = in_front_of (value_gathered v) (values_gathered vs)

-- What the bytes of a record mean, if they are accepted with so many levels.
abbrev pub record_decoded : ℕ → RecordType → List ℕ → Option Content
record_decoded levels t bytes = option_map gathered (decoded record_schema levels (type_place t) bytes)
