-- Either a field within the levels is at the front of the bytes, or a fault stands in it.
use Rattle.std.specs.Prelude.{◌≡◌, ◌+◌, ◌*◌, ◌/◌, ◌%◌, ◌^◌, ◌<◌, ◌≤◌, ◌∷◌, ◌⊎◌}
use Rattle.prost_reflect_laws.proofs.Common.{ℕ, zero, suc, List, [], length, get_or, take, drop, Some, refl, sym, subst, arith, inl, inr, cases_lt, cases_eq, DecodeError, WireType, AreBytes, Varint, bytes_behind, short_key_front, wire_small, Plain, Var, Fix64, Len, Fix32, Records, NoRecords, record_at, Payload, Flat, Group, before, plain_wire, payload_wire, wire_code, raw_levels, payload_levels, VarintFront, VarintFault, KeyFront, KeyFault, PlainFront, GroupFront, PayloadFront, ValueFront, OfNothing, Stands, Behind, StandsInField, StandsInValue, ValueFault, delimited_cut, delimited_plain, record_front, first_front, none_front, levels_first, key_shorter, payload_no_longer, field_front, key_stands, end_stands, value_stands, key_stands_in_field, value_stands_in_field, value_stands_in_value}
use Rattle.std.proofs.lemmas.List.{length-take, take-append-drop}
use Rattle.prost_reflect_wire.specs.declared.error.DecodeError.TheVariants as errors
use Rattle.prost_reflect_wire.specs.declared.key.WireType.TheVariants as wires
use Rattle.prost_reflect_laws.specs.FieldLaws.{HasField, HasValue}
use Rattle.prost_reflect_wire.proofs.VarintDigits.{Digits, digits_none, digits_more, digits_last, digits_pass, digits_stop, value_fits}

-- VARINTS

pub data VarintRead (bytes : List ℕ) : Type 0 where
  VarintHere : (v : ℕ) (rest : List ℕ) → VarintFront v bytes rest → VarintRead bytes
  NoVarint : (e : DecodeError) → VarintFault e bytes → VarintRead bytes

small_at : (bytes : List ℕ) (i : ℕ) → AreBytes bytes → get_or bytes i 0 < 256
small_at [] i h = omega arith
small_at (b ∷ bytes) zero h = h.0
small_at (b ∷ bytes) (suc i) h = small_at bytes i h.1

-- with at most so many further digits
digits_or_fault : (left : ℕ) (bytes : List ℕ) (i value scale : ℕ) → AreBytes bytes → i + left ≡ 10 → Digits bytes i value scale → VarintRead bytes
digits_or_fault zero bytes i value scale small is d = absurd (let few = d.few in omega arith)
digits_or_fault (suc left) bytes i value scale small is d =
    let b = get_or bytes i 0 in
    elim (cases_lt i (length bytes)) [
      | inr le ↦ NoVarint errors.Truncated (digits_stop bytes i value scale le d)
      | inl lt ↦ elim (cases_lt i 9) [
        | inl before ↦ elim (cases_lt b 128) [
          | inl low ↦ VarintHere _ _ (digits_last bytes i value scale (b % 128) lt low refl (value_fits bytes i value scale (b % 128) d (omega arith) (inr (λ nine. omega arith))) d)
          | inr up ↦ digits_or_fault left bytes (i + 1) (value + scale * (b % 128)) (scale * 128) small (omega arith) (digits_more bytes i value scale (b % 128) lt before up (small_at bytes i small) refl d)
        ]
        | inr tenth ↦ elim (cases_lt 1 b) [
          | inl above ↦ NoVarint errors.Varint (digits_pass bytes i value scale lt (let few = d.few in omega arith) above d)
          | inr one ↦ VarintHere _ _ (digits_last bytes i value scale (b % 128) lt (omega arith) refl (value_fits bytes i value scale (b % 128) d (omega arith) (inl ((let few = d.few in omega arith), omega arith))) d)
        ]
      ]
    ]

pub varint_or_fault : (bytes : List ℕ) → AreBytes bytes → VarintRead bytes
varint_or_fault bytes small = digits_or_fault 10 bytes 0 0 1 small refl (digits_none bytes)

-- KEYS

pub data KeyRead (bytes : List ℕ) : Type 0 where
  KeyHere : (n : ℕ) (w : WireType) (rest : List ℕ) → KeyFront n w bytes rest → KeyRead bytes
  NoKeyHere : (e : DecodeError) → KeyFault e bytes → KeyRead bytes

wire_of_code : (m : ℕ) → m ≤ 5 → (w : WireType) × (wire_code w ≡ m)
wire_of_code zero h = (wires.Varint, refl)
wire_of_code (suc zero) h = (wires.SixtyFourBit, refl)
wire_of_code (suc (suc zero)) h = (wires.LengthDelimited, refl)
wire_of_code (suc (suc (suc zero))) h = (wires.StartGroup, refl)
wire_of_code (suc (suc (suc (suc zero)))) h = (wires.EndGroup, refl)
wire_of_code (suc (suc (suc (suc (suc zero))))) h = (wires.ThirtyTwoBit, refl)
wire_of_code (suc (suc (suc (suc (suc (suc m)))))) h = absurd (omega arith)

no_key : (v : ℕ) (bytes rest : List ℕ) → VarintFront v bytes rest → (2 ^ 32 ≤ v) ⊎ ((v / 8 ≡ 0) ⊎ (5 < v % 8)) → KeyRead bytes
no_key v bytes rest f why = NoKeyHere errors.Key (record { value = v; rest = rest; front = f; none = λ n w from below e. go n w from below e why })
  where
    go : (n : ℕ) (w : WireType) → 0 < n → n < 2 ^ 29 → v ≡ 8 * n + wire_code w → (2 ^ 32 ≤ v) ⊎ ((v / 8 ≡ 0) ⊎ (5 < v % 8)) → ⊥
    go n w from below e (inl high) = omega (arith, wire_small w)
    go n w from below e (inr (inl none)) = omega (arith, wire_small w)
    go n w from below e (inr (inr unknown)) = omega (arith, wire_small w)

key_of : (v : ℕ) (bytes rest : List ℕ) → VarintFront v bytes rest → v < 2 ^ 32 → 0 < v / 8 → v % 8 ≤ 5 → KeyRead bytes
key_of v bytes rest f below some known =
    let (w, code) = wire_of_code (v % 8) known in
    let is : v ≡ 8 * (v / 8) + wire_code w = omega arith in
    KeyHere (v / 8) w rest (record { front = f.front; key = record { from_one = some; below = omega arith; varint = subst (λ (x : ℕ). Varint x f.front) is f.varint }; parts = f.parts })

pub key_or_fault : (bytes : List ℕ) → AreBytes bytes → KeyRead bytes
key_or_fault bytes small = go (varint_or_fault bytes small)
  where
    go : VarintRead bytes → KeyRead bytes
    go (NoVarint errors.Truncated f) = NoKeyHere errors.Truncated f
    go (NoVarint errors.Varint f) = NoKeyHere errors.Varint f
    go (NoVarint e f) = absurd f
    go (VarintHere v rest f) = elim (cases_lt v (2 ^ 32)) [
      | inr high ↦ no_key v bytes rest f (inl high)
      | inl below ↦ elim (cases_lt 0 (v / 8)) [
        | inr none ↦ no_key v bytes rest f (inr (inl (omega arith)))
        | inl some ↦ elim (cases_lt 5 (v % 8)) [
          | inl unknown ↦ no_key v bytes rest f (inr (inr unknown))
          | inr known ↦ key_of v bytes rest f below some known
        ]
      ]
    ]

-- VALUES

pub data ValueRead (levels n : ℕ) (w : WireType) (bytes : List ℕ) : Type 0 where
  ValueHere : (p : Payload) (rest : List ℕ) → ValueFront n w levels p bytes rest → ValueRead levels n w bytes
  NoValue : (e : DecodeError) → ValueFault e n w levels bytes → ValueRead levels n w bytes

plain_here : (levels n : ℕ) (w : WireType) (p : Plain) (bytes rest : List ℕ) → plain_wire p ≡ w → PlainFront p bytes rest → ValueRead levels n w bytes
plain_here levels n w p bytes rest is f = ValueHere (Flat p) rest (record { wire = is; front = f; within = omega arith })

varint_value : (levels n : ℕ) (bytes : List ℕ) → VarintRead bytes → ValueRead levels n wires.Varint bytes
varint_value levels n bytes (VarintHere v rest f) = plain_here levels n wires.Varint (Var v) bytes rest refl (record { front = f.front; spelled = f.varint; parts = f.parts })
varint_value levels n bytes (NoVarint errors.Truncated f) = NoValue errors.Truncated (inl f)
varint_value levels n bytes (NoVarint errors.Varint f) = NoValue errors.Varint (inl f)
varint_value levels n bytes (NoVarint e f) = absurd f

delimited_value : (levels n : ℕ) (bytes : List ℕ) → VarintRead bytes → ValueRead levels n wires.LengthDelimited bytes
delimited_value levels n bytes (VarintHere len after f) = elim (cases_lt (length after) len) [
  | inl short ↦ NoValue errors.Truncated (inl (inr (record { size = len; rest = after; front = f; short = short })))
  | inr long ↦ let d = delimited_cut len (take len after) bytes after (drop len after) f refl refl long in
      plain_here levels n wires.LengthDelimited (Len (take len after)) bytes (drop len after) refl (delimited_plain (take len after) bytes (drop len after) d)
]
delimited_value levels n bytes (NoVarint errors.Truncated f) = NoValue errors.Truncated (inl (inl f))
delimited_value levels n bytes (NoVarint errors.Varint f) = NoValue errors.Varint (inl f)
delimited_value levels n bytes (NoVarint e f) = absurd f

fixed64_value : (levels n : ℕ) (bytes : List ℕ) → ValueRead levels n wires.SixtyFourBit bytes
fixed64_value levels n bytes = elim (cases_lt (length bytes) 8) [
  | inl short ↦ NoValue errors.Truncated (inl short)
  | inr long ↦ plain_here levels n wires.SixtyFourBit (Fix64 (take 8 bytes)) bytes (drop 8 bytes) refl (record { front = take 8 bytes; spelled = (omega (arith, length-take 8 bytes), refl); parts = sym (take-append-drop 8 bytes) })
]

fixed32_value : (levels n : ℕ) (bytes : List ℕ) → ValueRead levels n wires.ThirtyTwoBit bytes
fixed32_value levels n bytes = elim (cases_lt (length bytes) 4) [
  | inl short ↦ NoValue errors.Truncated (inl short)
  | inr long ↦ plain_here levels n wires.ThirtyTwoBit (Fix32 (take 4 bytes)) bytes (drop 4 bytes) refl (record { front = take 4 bytes; spelled = (omega (arith, length-take 4 bytes), refl); parts = sym (take-append-drop 4 bytes) })
]

-- GROUPS

pub data GroupRead (levels n : ℕ) (bytes : List ℕ) : Type 0 where
  GroupHere : (inside : Records) (rest : List ℕ) → GroupFront n inside bytes rest → raw_levels inside ≤ levels → GroupRead levels n bytes
  NoGroup : (e : DecodeError) → Stands [] e (record { bytes = bytes; inside = OfNothing; levels = levels; open_group = Some n }) → GroupRead levels n bytes

payload_behind : (n : ℕ) (p : Payload) (bytes rest : List ℕ) → PayloadFront n p bytes rest → AreBytes bytes → AreBytes rest
payload_behind n (Flat p) bytes rest f small = bytes_behind f.front rest (subst AreBytes f.parts small)
payload_behind n (Group inside) bytes rest f small =
    let all : AreBytes f.end = bytes_behind f.records.front f.end (subst AreBytes f.records.parts small) in bytes_behind f.stop.front rest (subst AreBytes f.stop.parts all)

-- what is read of values at these levels
abbrev Values : ℕ → Type 0
Values levels = (n : ℕ) (w : WireType) (bytes : List ℕ) → AreBytes bytes → ValueRead levels n w bytes

module _ (levels : ℕ) (values : Values levels) where
  -- a record, and then the rest of the group
  group_more : (n m : ℕ) (p : Payload) (bytes mid after : List ℕ) → KeyFront m (payload_wire p) bytes mid → PayloadFront m p mid after → payload_levels p ≤ levels → GroupRead levels n after → GroupRead levels n bytes
  group_more n m p bytes mid after k f within (GroupHere inside rest g low) =
      GroupHere (before (record_at m p) inside) rest (record { end = g.end; records = first_front (record_at m p) inside bytes after g.end (record_front m p bytes mid after k f) g.records; stop = g.stop }) (omega (arith, levels_first (record_at m p) inside))
  group_more n m p bytes mid after k f within (NoGroup e s) = NoGroup e (Behind (record_at m p) after (record_front m p bytes mid after k f) s)

  -- the rest of the group behind each further key
  abbrev Further : ℕ → List ℕ → Type 0
  Further n bytes = (rest : List ℕ) → AreBytes rest → length rest < length bytes → GroupRead levels n rest

  at_value : (n m : ℕ) (w : WireType) (bytes rest : List ℕ) → AreBytes rest → KeyFront m w bytes rest → (w ≡ wires.EndGroup → ⊥) → ValueRead levels m w rest → Further n bytes → GroupRead levels n bytes
  at_value n m w bytes rest small k other (NoValue e f) more = NoGroup e (value_stands [] _ e m w rest refl k (λ is. absurd (other is)) f)
  at_value n m w bytes rest small k other (ValueHere p after v) more =
      group_more n m p bytes rest after (subst (λ x. KeyFront m x bytes rest) (sym v.wire) k) v.front v.within
      (more after (payload_behind m p rest after v.front small) (omega (arith, key_shorter m w bytes rest k, payload_no_longer m p rest after v.front)))

  at_end : (n m : ℕ) (bytes rest : List ℕ) → KeyFront m wires.EndGroup bytes rest → (m ≡ n) ⊎ (m ≡ n → ⊥) → GroupRead levels n bytes
  at_end n m bytes rest k (inl same) = GroupHere NoRecords rest (record { end = bytes; records = none_front bytes; stop = subst (λ (i : ℕ). KeyFront i wires.EndGroup bytes rest) same k }) (omega arith)
  at_end n m bytes rest k (inr other) = NoGroup errors.EndGroup (end_stands [] _ m rest k (λ same. other (let is : n ≡ m = cc in sym is)))

  at_key : (n : ℕ) (bytes : List ℕ) → AreBytes bytes → KeyRead bytes → Further n bytes → GroupRead levels n bytes
  at_key n bytes small (NoKeyHere e f) more = NoGroup e (key_stands [] _ e f (λ _ none. cc))
  at_key n bytes small (KeyHere m wires.EndGroup rest k) more = at_end n m bytes rest k (cases_eq m n)
  at_key n bytes small (KeyHere m w rest k) more =
      let behind : AreBytes rest = bytes_behind k.front rest (subst AreBytes k.parts small) in at_value n m w bytes rest behind k (λ is. cc) (values m w rest behind) more

  group_or_fault : (fuel n : ℕ) (bytes : List ℕ) → AreBytes bytes → length bytes < fuel → GroupRead levels n bytes
  group_or_fault zero n bytes small enough = absurd (omega arith)
  group_or_fault (suc fuel) n bytes small enough = at_key n bytes small (key_or_fault bytes small) (λ rest few less. group_or_fault fuel n rest few (omega arith))

group_value : (levels n : ℕ) (bytes : List ℕ) → GroupRead levels n bytes → ValueRead (suc levels) n wires.StartGroup bytes
group_value levels n bytes (GroupHere inside rest f within) = ValueHere (Group inside) rest (record { wire = refl; front = f; within = omega arith })
group_value levels n bytes (NoGroup e s) = NoValue e (inr (refl, record { inner = levels; left = refl; stands = s }))

pub value_or_fault : (levels : ℕ) → Values levels
value_or_fault levels n wires.Varint bytes small = varint_value levels n bytes (varint_or_fault bytes small)
value_or_fault levels n wires.SixtyFourBit bytes small = fixed64_value levels n bytes
value_or_fault levels n wires.LengthDelimited bytes small = delimited_value levels n bytes (varint_or_fault bytes small)
value_or_fault levels n wires.EndGroup bytes small = NoValue errors.EndGroup (inl refl)
value_or_fault levels n wires.ThirtyTwoBit bytes small = fixed32_value levels n bytes
value_or_fault zero n wires.StartGroup bytes small = NoValue errors.Depth (inl (refl, refl))
value_or_fault (suc levels) n wires.StartGroup bytes small = group_value levels n bytes (group_or_fault levels (value_or_fault levels) (suc (length bytes)) n bytes small (omega arith))

-- FIELDS

pub field_or_fault : (levels : ℕ) (bytes : List ℕ) → AreBytes bytes → HasField levels bytes ⊎ ((e : DecodeError) × StandsInField levels e bytes)
field_or_fault levels bytes small = go (key_or_fault bytes small)
  where
    at_value : (n : ℕ) (w : WireType) (rest : List ℕ) → KeyFront n w bytes rest → ValueRead levels n w rest → HasField levels bytes ⊎ ((e : DecodeError) × StandsInField levels e bytes)
    at_value n w rest k (ValueHere p after v) = inl (record_at n p, (after, field_front n w levels p bytes rest after k v))
    at_value n w rest k (NoValue e f) = inr (e, value_stands_in_field e levels n w bytes rest k f)

    go : KeyRead bytes → HasField levels bytes ⊎ ((e : DecodeError) × StandsInField levels e bytes)
    go (NoKeyHere e f) = inr (e, key_stands_in_field e levels bytes f)
    go (KeyHere n w rest k) = at_value n w rest k (value_or_fault levels n w rest (bytes_behind k.front rest (subst AreBytes k.parts small)))

pub value_front_or_fault : (levels n : ℕ) (w : WireType) (bytes : List ℕ) → 1 ≤ n → n < 2 ^ 29 → AreBytes bytes → HasValue levels n w bytes ⊎ ((e : DecodeError) × StandsInValue levels n w e bytes)
value_front_or_fault levels n w bytes some below small = go (value_or_fault levels n w bytes small)
  where
    go : ValueRead levels n w bytes → HasValue levels n w bytes ⊎ ((e : DecodeError) × StandsInValue levels n w e bytes)
    go (ValueHere p rest v) = inl (p, (rest, v))
    go (NoValue e f) = inr (e, value_stands_in_value e levels n w bytes (short_key_front n w bytes some below) f)
