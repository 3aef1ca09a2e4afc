-- Unknown records, and the order in which all is written (the encoding guide, "Field Order" and "Updating A Message Type").
use Rattle.std.specs.Prelude.{◌∷◌}
use Rattle.prost_reflect_laws.specs.Common.{[], Var, Group, NoRecords, PlainRecord, NoEntries, Stored, Unknown}
use Rattle.prost_reflect_laws.specs.Examples.Schemas.{my_message, unpacked_list, no_fields}
use Rattle.prost_reflect_laws.specs.Examples.Words.{int, inner, list_of, varint, delimited, Means, Becomes, Reads, Refused}

pub record UnknownRecords : Type 0 where
  -- They stand at their number among the known ones.
  pub ascending : Reads unpacked_list "1005 0807" (Stored 1 (list_of (int 7 ∷ [])) (Unknown 2 (varint 5) NoEntries)) "08071005"
  -- They are grouped by number, in order within a number.
  pub grouped : Reads no_fields "1001 0801 1002" (Unknown 1 (varint 1) (Unknown 2 (varint 1) (Unknown 2 (varint 2) NoEntries))) "0801 1001 1002"
  -- They neither join nor replace one another.
  pub none_replaced : Becomes no_fields "0a0161 0a0161" "0a0161 0a0161"
  -- Records of several wire types may stand at one number.
  pub wire_types : Means no_fields "0801 0a0161" (Unknown 1 (varint 1) (Unknown 1 (delimited "61") NoEntries))
  -- A varint keeps its value and not its spelling.
  pub needless_digits : Becomes no_fields "088300" "0803"
  -- A delimited payload keeps its bytes.
  pub bytes_kept : Becomes no_fields "0a028300" "0a028300"
  -- Inside an unknown group the whole order stays.
  pub group : Reads no_fields "0b 1001 0801 0c" (Unknown 1 (Group (PlainRecord 2 (Var 1) (PlainRecord 1 (Var 1) NoRecords))) NoEntries) "0b100108010c"
  -- The greatest number.
  pub greatest_number : Reads my_message "f8ffffff0f00" (Unknown 536870911 (varint 0) NoEntries) "f8ffffff0f00"
  -- An unknown record in a message inside is that message's.
  pub inside : Means my_message "1a022801" (Stored 3 (inner my_message (Unknown 5 (varint 1) NoEntries)) NoEntries)
  -- Messages that merge list their unknown records in order.
  pub merged : Becomes my_message "1a022801 1a022802" "1a0428012802"
  -- What is no key is refused.
  pub bad_key : Refused no_fields "00"
  -- Nor wire type 6.
  pub wire_type_six : Refused no_fields "0e"
  -- Nor a key of 2^32.
  pub key_too_large : Refused no_fields "8080808010"
