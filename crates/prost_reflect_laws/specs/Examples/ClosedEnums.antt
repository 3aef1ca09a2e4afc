-- Undeclared numbers of closed enums (the page "Enum Behavior" of the Protocol Buffers documentation).
use Rattle.std.specs.Prelude.{◌≡◌, ◌∷◌}
use Rattle.prost_reflect_laws.specs.Common.{true, false, [], NoEntries, Stored, Unknown, MapValue, NoPairs, Pair, accepts, levels, encodable}
use Rattle.prost_reflect_laws.specs.Examples.Schemas.{examples, closed, opened}
use Rattle.prost_reflect_laws.specs.Examples.Words.{hex, content, int, enum, ascii, list_of, varint, delimited, Means, Reads, Refused}

pub record Strays : Type 0 where
  -- An undeclared number stays as an unknown record of the field's number.
  pub stray : Reads closed "0807" (Unknown 1 (varint 7) NoEntries) "0807"
  -- It leaves the value alone, and is written behind it.
  pub between : Reads closed "0801 0807 0800" (Stored 1 (enum 0) (Unknown 1 (varint 7) NoEntries)) "08000807"
  -- Of a packed record each undeclared element goes by itself.
  pub packed : Reads closed "120401070009" (Stored 2 (list_of (enum 1 ∷ enum 0 ∷ [])) (Unknown 2 (varint 7) (Unknown 2 (varint 9) NoEntries))) "1202010010071009"
  -- A packed record of one undeclared element leaves no list.
  pub packed_alone : Reads closed "120107" (Unknown 2 (varint 7) NoEntries) "1007"
  -- Of a map the whole record stays, with its bytes as they stood, and changes no key.
  pub entry : Reads closed "1a050a01611001 1a050a01611007" (Stored 3 (MapValue (Pair (ascii "a") (enum 1) NoPairs)) (Unknown 3 (delimited "0a01611007") NoEntries)) "1a050a016110011a050a01611007"
  -- The last value of an entry decides: 7 then 1 is an entry,
  pub entry_last_declared : Means closed "1a0410071001" (Stored 3 (MapValue (Pair (ascii "") (enum 1) NoPairs)) NoEntries)
  -- and 1 then 7 is a stray.
  pub entry_last_undeclared : Means closed "1a0410011007" (Unknown 3 (delimited "10011007") NoEntries)
  -- A missing value is the first of the enum.
  pub entry_default : Reads closed "1a00" (Stored 3 (MapValue (Pair (ascii "") (enum 0) NoPairs)) NoEntries) "1a040a001000"
  -- A stray entry is checked as an entry.
  pub entry_checked : Refused closed "1a0408011007"
  -- A stray clears no other member of its oneof.
  pub clears_none : Reads closed "2805 2007" (Unknown 4 (varint 7) (Stored 5 (int 5) NoEntries)) "20072805"
  -- Declared is asked of the low 32 bits; a stray keeps all 64.
  pub keeps_bits : Reads closed "08ffffffff0f" (Unknown 1 (varint 4294967295) NoEntries) "08ffffffff0f"
  -- Here the low bits are a declared number: it is a value, and the high bits go.
  pub low_bits_declared : Reads closed "088080808010" (Stored 1 (enum 0) NoEntries) "0800"
  -- A stray of an extension.
  pub extension : Reads closed "a00607" (Unknown 100 (varint 7) NoEntries) "a00607"
  -- Strays of an extension that is a list.
  pub extension_list : Reads closed "aa0603010700" (Stored 101 (list_of (enum 1 ∷ enum 0 ∷ [])) (Unknown 101 (varint 7) NoEntries)) "a80601a80600a80607"
  -- An open enum holds every number.
  pub open_enum : Reads opened "0807" (Stored 1 (enum 7) NoEntries) "0807"
  -- In a map too.
  pub open_entry : Means opened "1a021007" (Stored 3 (MapValue (Pair (ascii "") (enum 7) NoPairs)) NoEntries)
  -- Another wire type is refused, declared or not.
  pub wire_type : Refused closed "0d07000000"

pub record StrayContents : Type 0 where
  -- A stored value must be declared.
  pub undeclared_value : encodable (content closed (Stored 1 (enum 7) NoEntries)) ≡ false
  -- A declared one may stand.
  pub declared_value : encodable (content closed (Stored 1 (enum 1) NoEntries)) ≡ true
  -- An unknown record at a known number must be one that stays a stray where it is read:
  pub stray_fits : encodable (content closed (Unknown 1 (varint 7) NoEntries)) ≡ true
  -- Likewise an entry whose value is undeclared.
  pub stray_entry_fits : encodable (content closed (Unknown 3 (delimited "0a01611007") NoEntries)) ≡ true
  -- A declared number does not stay.
  pub declared_unfit : encodable (content closed (Unknown 1 (varint 1) NoEntries)) ≡ false
  -- A packed record does not: it is read as its elements.
  pub packed_unfit : encodable (content closed (Unknown 2 (delimited "07") NoEntries)) ≡ false
  -- Nor an entry of a declared number.
  pub entry_unfit : encodable (content closed (Unknown 3 (delimited "0a01611001") NoEntries)) ≡ false
  -- Nor an entry that would be refused.
  pub bad_entry_unfit : encodable (content closed (Unknown 3 (delimited "08011007") NoEntries)) ≡ false
  -- A field of another kind keeps none.
  pub other_field_unfit : encodable (content closed (Unknown 5 (varint 7) NoEntries)) ≡ false
  -- A stray entry counts the groups in it.
  pub entry_levels : levels (content closed (Unknown 3 (delimited "1b1c1007") NoEntries)) ≡ 1
  -- With one level its bytes are accepted,
  pub entry_one_level : accepts examples 1 closed (hex "1a041b1c1007") ≡ true
  -- and with none they are not.
  pub entry_no_level : accepts examples 0 closed (hex "1a041b1c1007") ≡ false
