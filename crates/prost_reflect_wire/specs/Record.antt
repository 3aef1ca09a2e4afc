-- Records: keys, payloads and groups, and the bytes that spell them (the encoding guide, "Message Structure", "Length-Delimited Records" and "Groups").
use Rattle.std.specs.Prelude.{◌≡◌, ℕ, zero, suc, ◌+◌, ◌*◌, ◌/◌, ◌%◌, ◌^◌, ◌<◌, Bool, true, ◌&&◌, List, [], ◌∷◌, ◌++◌, length, max, Option, Some, None, nat_eq, nat_lt}
use Rattle.prost_reflect_wire.specs.Varint.{are_bytes, Varint, short, ◌>>=◌, guard, varint_at, front_at}
use Rattle.prost_reflect_wire.specs.declared.key.WireType.{WireType}
use Rattle.prost_reflect_wire.specs.declared.key.WireType.TheVariants as wires

-- A payload that is no group.
pub data Plain : Type 0 where
  Var : ℕ → Plain
  Fix64 : List ℕ → Plain
  Len : List ℕ → Plain
  Fix32 : List ℕ → Plain

-- Records in order: nothing; a number with a plain payload, and then records; a number with the records of a group, and then records.
pub data Records : Type 0 where
  NoRecords : Records
  PlainRecord : ℕ → Plain → Records → Records
  GroupRecord : ℕ → Records → Records → Records

pub data Payload : Type 0 where
  Flat : Plain → Payload
  Group : Records → Payload

pub record Record : Type 0 where
  pub number : ℕ
  pub payload : Payload

abbrev pub record_at : ℕ → Payload → Record
record_at n p = record { number = n; payload = p }

abbrev pub items : Records → List Record
items NoRecords = []
items (PlainRecord n p rest) = record_at n (Flat p) ∷ items rest
items (GroupRecord n inside rest) = record_at n (Group inside) ∷ items rest

abbrev pub before : Record → Records → Records
before r rest = elim r.payload [ Flat p ↦ PlainRecord r.number p rest | Group inside ↦ GroupRecord r.number inside rest ]

-- The records with these items.
abbrev pub body_of : List Record → Records
body_of [] = NoRecords
body_of (r ∷ rs) = before r (body_of rs)

-- How many groups lie within one another, at most.
abbrev pub raw_levels : Records → ℕ
raw_levels NoRecords = 0
raw_levels (PlainRecord n p rest) = raw_levels rest
raw_levels (GroupRecord n inside rest) = max (suc (raw_levels inside)) (raw_levels rest)

abbrev pub payload_levels : Payload → ℕ
payload_levels (Flat p) = 0
payload_levels (Group inside) = suc (raw_levels inside)

-- SPELLINGS

-- The low three bits of a key.
abbrev pub wire_code : WireType → ℕ
wire_code wires.Varint = 0
wire_code wires.SixtyFourBit = 1
wire_code wires.LengthDelimited = 2
wire_code wires.StartGroup = 3
wire_code wires.EndGroup = 4
wire_code wires.ThirtyTwoBit = 5

abbrev pub plain_wire : Plain → WireType
plain_wire (Var v) = wires.Varint
plain_wire (Fix64 bytes) = wires.SixtyFourBit
plain_wire (Len bytes) = wires.LengthDelimited
plain_wire (Fix32 bytes) = wires.ThirtyTwoBit

abbrev pub payload_wire : Payload → WireType
payload_wire (Flat p) = plain_wire p
payload_wire (Group inside) = wires.StartGroup

-- A key of a number from 1 to 536870911.
pub record Key (number : ℕ) (wire : WireType) (bytes : List ℕ) : Type 0 where
  pub from_one : 0 < number
  pub below : number < 2 ^ 29
  pub varint : Varint (8 * number + wire_code wire) bytes

abbrev pub SpellsPlain : Plain → List ℕ → Type 0
SpellsPlain (Var v) bytes = Varint v bytes
SpellsPlain (Fix64 eight) bytes = (length eight ≡ 8) × (bytes ≡ eight)
SpellsPlain (Len body) bytes = (len : List ℕ) × Varint (length body) len × (bytes ≡ len ++ body)
SpellsPlain (Fix32 four) bytes = (length four ≡ 4) × (bytes ≡ four)

-- The bytes spell the records: a key and a payload for each in order. A group ends with an end key of its own number.
abbrev pub Spells : Records → List ℕ → Type 0
Spells NoRecords bytes = bytes ≡ []
Spells (PlainRecord n p rest) bytes = (key body after : List ℕ)
    × Key n (plain_wire p) key × SpellsPlain p body × Spells rest after × (bytes ≡ key ++ (body ++ after))
Spells (GroupRecord n inside rest) bytes = (key body stop after : List ℕ) × Key n wires.StartGroup key
    × Spells inside body
    × Key n wires.EndGroup stop
    × Spells rest after
    × (bytes ≡ key ++ (body ++ (stop ++ after)))

-- READING

abbrev pub wire_of : ℕ → Option WireType
wire_of zero = Some wires.Varint
wire_of (suc zero) = Some wires.SixtyFourBit
wire_of (suc (suc zero)) = Some wires.LengthDelimited
wire_of (suc (suc (suc zero))) = Some wires.StartGroup
wire_of (suc (suc (suc (suc zero)))) = Some wires.EndGroup
wire_of (suc (suc (suc (suc (suc zero))))) = Some wires.ThirtyTwoBit
wire_of (suc (suc (suc (suc (suc (suc w)))))) = None

-- A key's number and wire type, and what follows the key.
abbrev pub key_at : List ℕ → Option (ℕ × WireType × List ℕ)
key_at bytes = do
  key ← varint_at bytes
  wire ← wire_of (key.0 % 8)
  guard (nat_lt key.0 (2 ^ 32) && nat_lt 0 (key.0 / 8)) (key.0 / 8, wire, key.1)

-- A plain payload of the wire type, and what follows it.
abbrev pub plain_at : WireType → List ℕ → Option (Plain × List ℕ)
plain_at wires.Varint bytes = varint_at bytes >>= λ v. Some (Var v.0, v.1)
plain_at wires.SixtyFourBit bytes = front_at 8 bytes >>= λ f. Some (Fix64 f.0, f.1)
plain_at wires.LengthDelimited bytes = do
  len ← varint_at bytes
  body ← front_at len.0 len.1
  Some (Len body.0, body.1)
plain_at wires.StartGroup bytes = None
plain_at wires.EndGroup bytes = None
plain_at wires.ThirtyTwoBit bytes = front_at 4 bytes >>= λ f. Some (Fix32 f.0, f.1)

-- Records up to the end of their body, which is the bytes' end or the end key of the open group; and what follows the body.
abbrev pub Body : Type 0
Body = Option ℕ → List ℕ → Option (Records × List ℕ)

abbrev pub close : Option ℕ → ℕ → List ℕ → Option (Records × List ℕ)
close None n bytes = None
close (Some open_group) n bytes = guard (nat_eq n open_group) (NoRecords, bytes)

-- A record whose key was read, and the records after it.
abbrev pub after_key : Body → Option ℕ → ℕ → WireType → List ℕ → Option (Records × List ℕ)
after_key body opened n wires.EndGroup bytes = close opened n bytes
after_key body opened n wires.StartGroup bytes = do
  inside ← body (Some n) bytes
  rest ← body opened inside.1
  Some (GroupRecord n inside.0 rest.0, rest.1)
after_key body opened n w bytes = do
  p ← plain_at w bytes
  rest ← body opened p.1
  Some (PlainRecord n p.0 rest.0, rest.1)

-- Records of at most so many keys.
abbrev pub body_at : ℕ → Body
body_at zero opened bytes = None
body_at (suc fuel) None [] = Some (NoRecords, [])
body_at (suc fuel) (Some n) [] = None
body_at (suc fuel) opened (b ∷ bytes) = key_at (b ∷ bytes) >>= λ key. after_key (body_at fuel) opened key.0 key.1 key.2

-- The records that the bytes spell.
unfoldable pub read : List ℕ → Option Records
read bytes = body_at (suc (length bytes)) None bytes >>= λ found. Some found.0

-- WRITING

abbrev pub short_key : ℕ → WireType → List ℕ
short_key n wire = short (8 * n + wire_code wire)

abbrev pub short_plain : Plain → List ℕ
short_plain (Var v) = short v
short_plain (Fix64 bytes) = bytes
short_plain (Len body) = short (length body) ++ body
short_plain (Fix32 bytes) = bytes

-- The spelling with no needless digits.
abbrev pub short_body : Records → List ℕ
short_body NoRecords = []
short_body (PlainRecord n p rest) = short_key n (plain_wire p) ++ (short_plain p ++ short_body rest)
short_body (GroupRecord n inside rest) = short_key n wires.StartGroup
    ++ (short_body inside ++ (short_key n wires.EndGroup ++ short_body rest))

-- Behind the key of a number.
abbrev pub short_payload : ℕ → Payload → List ℕ
short_payload n (Flat p) = short_plain p
short_payload n (Group inside) = short_body inside ++ short_key n wires.EndGroup

abbrev pub spelled : List Record → List ℕ
spelled rs = short_body (body_of rs)

-- RECORDS THAT HAVE A SPELLING

abbrev pub number_valid : ℕ → Bool
number_valid n = nat_lt 0 n && nat_lt n (2 ^ 29)

abbrev pub plain_valid : Plain → Bool
plain_valid (Var v) = nat_lt v (2 ^ 64)
plain_valid (Fix64 bytes) = nat_eq (length bytes) 8 && are_bytes bytes
plain_valid (Len body) = nat_lt (length body) (2 ^ 64) && are_bytes body
plain_valid (Fix32 bytes) = nat_eq (length bytes) 4 && are_bytes bytes

abbrev pub valid : Records → Bool
valid NoRecords = true
valid (PlainRecord n p rest) = number_valid n && (plain_valid p && valid rest)
valid (GroupRecord n inside rest) = number_valid n && (valid inside && valid rest)

abbrev pub payload_valid : Payload → Bool
payload_valid (Flat p) = plain_valid p
payload_valid (Group inside) = valid inside
