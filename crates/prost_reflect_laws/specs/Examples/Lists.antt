-- Lists, packed and not (the encoding guide, "Packed Repeated Fields").
use Rattle.std.specs.Prelude.{◌∷◌}
use Rattle.prost_reflect_laws.specs.Common.{negsuc, [], I64, U32, NoEntries, Stored, ScalarValue}
use Rattle.prost_reflect_laws.specs.Examples.Schemas.{my_message, unpacked_list, packed_list, message_list, lists}
use Rattle.prost_reflect_laws.specs.Examples.Words.{int, minus_one, ascii, inner, list_of, Means, Becomes, Reads, Refused, Writes}

pub record Lists : Type 0 where
  -- A list that is written unpacked takes a packed record.
  pub packed_read : Reads unpacked_list "0a020102" (Stored 1 (list_of (int 1 ∷ int 2 ∷ [])) NoEntries) "08010802"
  -- A list that is written packed takes single records.
  pub single_read : Becomes packed_list "08010802" "0a020102"
  -- Packed and single records mixed, an empty packed one too: the elements join in order.
  pub mixed : Reads packed_list "0801 0a020203 0804 0a00" (Stored 1 (list_of (int 1 ∷ int 2 ∷ int 3 ∷ int 4 ∷ [])) NoEntries) "0a0401020304"
  -- An empty list is absent, and writes nothing.
  pub empty : Reads packed_list "0a00" NoEntries ""
  -- A default stays among the elements.
  pub defaults_stay : Means unpacked_list "0800 0800" (Stored 1 (list_of (int 0 ∷ int 0 ∷ [])) NoEntries)
  -- A negative int32 takes ten bytes, packed too.
  pub negative : Writes packed_list (Stored 1 (list_of (int 1 ∷ minus_one ∷ [])) NoEntries) "0a0b01ffffffffffffffffff01"
  -- Packed zigzag.
  pub packed_signed : Means lists "12020103" (Stored 2 (list_of (ScalarValue (I64 (negsuc 0)) ∷ ScalarValue (I64 (negsuc 1)) ∷ [])) NoEntries)
  -- Packed fixed widths.
  pub packed_fixed : Reads lists "1a080100000002000000" (Stored 3 (list_of (ScalarValue (U32 1) ∷ ScalarValue (U32 2) ∷ [])) NoEntries) "1a080100000002000000"
  -- A packed varint with a needless digit.
  pub needless_digits : Becomes packed_list "0a028300" "0a0103"
  -- Messages of a list stand apart: they do not merge.
  pub messages_apart : Reads message_list "0a020805 0a021042" (Stored 1 (list_of (inner my_message (Stored 1 (int 5) NoEntries) ∷ inner my_message (Stored 2 (int 66) NoEntries) ∷ [])) NoEntries) "0a0208050a021042"
  -- Texts are never packed: one record is one text.
  pub texts : Means lists "0a0161 0a0162" (Stored 1 (list_of (ScalarValue (ascii "a") ∷ ScalarValue (ascii "b") ∷ [])) NoEntries)
  -- A packed element that is cut.
  pub element_cut : Refused packed_list "0a0180"
  -- A packed fixed width that is cut.
  pub fixed_cut : Refused lists "1a03010000"
  -- Four bytes for an int32.
  pub wire_type : Refused packed_list "0d00000000"
