-- Which records a message type takes, and which bytes it accepts (the encoding guide, "Packed Repeated Fields", "Submessages", "Groups" and "Maps"; the page "Enum Behavior" for closed enums).
--
-- What was chosen here, with the smallest example; bytes are in hex.
-- - `accepts` and `read` speak of bytes below 256; `Spells` doesn't ask it. Laws have it as a premise where they need it.
-- - The levels are a parameter right behind the schema; 100 is the named use, `LEVEL_LIMIT`.
-- - An entry is no level; its message value is one, whether the entry writes it or not: `1200` of a `map<int32, Message>` takes one.
-- - A record that is skipped in an entry counts the groups in it, and is dropped: `0a025354` is an entry, and is written `0a00`. So bytes may take more levels than what they mean.
use Rattle.std.specs.Prelude.{ℕ, zero, suc, Bool, true, false, not, ◌&&◌, ◌||◌, List, [], ◌∷◌, length, map, filter, Option, Some, None, nat_eq, nat_lt, nat_le, if◌then◌else◌, IsTrue}
use Rattle.std.specs.List.{list_all}
use Rattle.std.specs.Option.{is_some}
use Rattle.prost_reflect_wire.specs.Varint.{◌>>=◌}
use Rattle.prost_reflect_wire.specs.Record.{Plain, Len, Records, Payload, Flat, Group, Record, items, payload_levels, Spells, plain_at, read}
use Rattle.prost_reflect_wire.specs.Scalar.{ScalarKind, elem, kind_wire, is_undeclared}
use Rattle.prost_reflect_wire.specs.Schema.{Kind, ScalarOf, MessageOf, GroupOf, ValueType, FieldForm, Singular, Repeated, MapFrom, Field, Schema, known, field_of, is_packable, is_message, passes}
use Rattle.prost_reflect_wire.specs.declared.key.WireType.{WireType}

-- The levels that a parser takes.
abbrev pub LEVEL_LIMIT : ℕ
LEVEL_LIMIT = 100

-- PAYLOADS

abbrev pub or_none : {A : Type 0} → Option (List A) → List A
or_none None = []
or_none (Some xs) = xs

abbrev pub fits : ScalarKind → Payload → Bool
fits kind p = is_some (elem kind p)

-- Payloads of the wire type that stand end to end, at most so many.
abbrev pub plains_within : ℕ → WireType → List ℕ → Option (List Plain)
plains_within zero wire bytes = None
plains_within (suc fuel) wire [] = Some []
plains_within (suc fuel) wire (b ∷ bytes) = do
  p ← plain_at wire (b ∷ bytes)
  rest ← plains_within fuel wire p.1
  Some (p.0 ∷ rest)

-- The payloads of a packed record of the kind.
unfoldable pub unpacked : ScalarKind → List ℕ → Option (List Plain)
unpacked kind bytes = plains_within (suc (length bytes)) (kind_wire kind) bytes

abbrev pub payloads : List Record → List Payload
payloads rs = map (λ r. r.payload) rs

abbrev pub has_number : ℕ → Record → Bool
has_number n r = nat_eq r.number n

-- The payloads of a number.
abbrev pub numbered : ℕ → List Record → List Payload
numbered n rs = payloads (filter (has_number n) rs)

abbrev pub last : {A : Type 0} → List A → Option A
last [] = None
last (x ∷ []) = Some x
last (x ∷ y ∷ xs) = last (y ∷ xs)

-- The records of a message's payload; no other payload has any.
abbrev pub body : Payload → Option (List Record)
body (Group inside) = Some (items inside)
body (Flat (Len bytes)) = read bytes >>= λ rs. Some (items rs)
body (Flat p) = None

abbrev pub records_in : Payload → List Record
records_in p = or_none (body p)

-- WHAT IS TAKEN OF A RECORD

-- The payloads of single elements: those of a packed record, else the one that stands there.
abbrev pub element_payloads_in : Kind → Payload → List Payload
element_payloads_in (ScalarOf kind) (Flat (Len bytes)) = if is_packable kind then map Flat (or_none (unpacked kind bytes)) else Flat (Len bytes) ∷ []
element_payloads_in kind p = p ∷ []

-- An undeclared number of a closed enum.
abbrev pub is_stray : Kind → Payload → Bool
is_stray (ScalarOf kind) p = is_undeclared kind p
is_stray kind p = false

-- An entry's last value is an undeclared number.
abbrev pub is_stray_entry : ValueType → Payload → Bool
is_stray_entry value_type p = elim (last (numbered 2 (records_in p))) [ None ↦ false | Some q ↦ is_stray value_type.kind q ]

-- The payloads of a field's record that are read as values.
abbrev pub value_payloads : FieldForm → ValueType → Payload → List Payload
value_payloads Singular value_type p = filter (λ q. not (is_stray value_type.kind q)) (p ∷ [])
value_payloads (Repeated packed) value_type p = filter (λ q. not (is_stray value_type.kind q)) (element_payloads_in value_type.kind p)
value_payloads (MapFrom key) value_type p = filter (λ q. not (is_stray_entry value_type q)) (p ∷ [])

-- The others, its strays: they stay as unknown records.
abbrev pub stray_payloads : FieldForm → ValueType → Payload → List Payload
stray_payloads Singular value_type p = filter (is_stray value_type.kind) (p ∷ [])
stray_payloads (Repeated packed) value_type p = filter (is_stray value_type.kind) (element_payloads_in value_type.kind p)
stray_payloads (MapFrom key) value_type p = filter (is_stray_entry value_type) (p ∷ [])

-- The records of known numbers, without their strays.
abbrev pub value_records : List Field → Record → List Record
value_records fields r = elim (field_of fields r.number) [ None ↦ [] | Some f ↦ map (λ p. record { number = r.number; payload = p }) (value_payloads f.form f.value_type r.payload) ]

-- What stays unknown of a record.
abbrev pub unknown_payloads : List Field → Record → List Payload
unknown_payloads fields r = elim (field_of fields r.number) [ None ↦ r.payload ∷ [] | Some f ↦ stray_payloads f.form f.value_type r.payload ]

-- WHAT IS ALLOWED

-- Whether a type takes records, one level further down.
abbrev pub AllowsInside : Type 0
AllowsInside = ℕ → List Record → Bool

abbrev pub is_len : Payload → Bool
is_len (Flat (Len bytes)) = true
is_len p = false

abbrev pub is_group_payload : Payload → Bool
is_group_payload (Group inside) = true
is_group_payload p = false

-- The payload of one value.
abbrev pub one_allowed : AllowsInside → Kind → Payload → Bool
one_allowed inner (ScalarOf kind) p = fits kind p
one_allowed inner (MessageOf T) p = is_len p && passes (body p) (inner T)
one_allowed inner (GroupOf T) p = is_group_payload p && passes (body p) (inner T)

abbrev pub packed_allowed : Kind → Payload → Bool
packed_allowed (ScalarOf kind) (Flat (Len bytes)) = is_packable kind && is_some (unpacked kind bytes)
packed_allowed kind p = false

-- A record of a map's entry; a record of another number is skipped.
abbrev pub in_entry_allowed : ℕ → AllowsInside → ValueType → ValueType → Record → Bool
in_entry_allowed levels inner key value_type r = if nat_eq r.number 1 then one_allowed inner key.kind r.payload
    else if nat_eq r.number 2 then one_allowed inner value_type.kind r.payload
    else nat_le (payload_levels r.payload) levels

-- There is a level for a message value, written or not.
abbrev pub has_level : ℕ → Kind → Bool
has_level levels kind = not (is_message kind) || nat_lt 0 levels

abbrev pub field_allowed : ℕ → AllowsInside → FieldForm → ValueType → Payload → Bool
field_allowed levels inner Singular value_type p = one_allowed inner value_type.kind p
field_allowed levels inner (Repeated packed) value_type p = one_allowed inner value_type.kind p || packed_allowed value_type.kind p
field_allowed levels inner (MapFrom key) value_type p = is_len p && has_level levels value_type.kind
    && passes (body p) (list_all (in_entry_allowed levels inner key value_type))

abbrev pub record_allowed : ℕ → AllowsInside → List Field → Record → Bool
record_allowed levels inner fields r = elim (field_of fields r.number) [
  | None ↦ nat_le (payload_levels r.payload) levels
  | Some f ↦ field_allowed levels inner f.form f.value_type r.payload
]

abbrev pub nothing_inside : AllowsInside
nothing_inside T rs = false

-- Whether the type takes the records, with so many levels left.
unfoldable pub allows : Schema → ℕ → AllowsInside
allows schema zero T rs = list_all (record_allowed 0 nothing_inside (known schema T)) rs
allows schema (suc levels) T rs = list_all (record_allowed (suc levels) (allows schema levels) (known schema T)) rs

-- Some records spell the bytes, and are allowed with so many levels left.
pub record Accepts (schema : Schema) (levels T : ℕ) (bytes : List ℕ) : Type 0 where
  pub records : Records
  pub spelled : Spells records bytes
  pub allowed : IsTrue (allows schema levels T (items records))

-- The same as a test, of bytes below 256.
abbrev pub accepts : Schema → ℕ → ℕ → List ℕ → Bool
accepts schema levels T bytes = passes (read bytes) (λ rs. allows schema levels T (items rs))
