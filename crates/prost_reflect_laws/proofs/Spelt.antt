-- The records of a content that fits its type have a spelling, if its bytes have a length.
use Rattle.std.specs.Prelude.{◌≡◌, ◌+◌, ◌/◌, ◌%◌, ◌^◌, ◌<◌, ◌≤◌, ◌&&◌, ◌∷◌, ◌++◌, ◌⊎◌}
use Rattle.prost_reflect_laws.proofs.Common.{ℕ, zero, suc, Bool, true, false, cond, ℤ, pos, negsuc, List, [], length, nat_lt, nat_eq, refl, ap, sym, ◌∙◌, arith, true≢false, length-append, SFits, inl, inr, lt-ltb, ltb-true, and_parts, and_from, ⊤, w32, w64, to_le_bytes, bytes_low_first, byte_at, cast_unsigned, is_utf8, IsUtf8, encode_utf8, are_bytes, AreDigits, short, Plain, Var, Fix64, Len, Fix32, Records, NoRecords, PlainRecord, GroupRecord, Record, before, body_of, Payload, Flat, Group, plain_wire, short_key, short_plain, short_body, spelled, number_valid, plain_valid, valid, payload_valid, Scalar, F64, F32, I64, U64, I32, U32, Boolean, Text, Bytes, EnumNumber, ScalarKind, Double, Float, Int64, Uint64, Int32, Fixed64, Fixed32, BoolKind, StringKind, BytesKind, Uint32, Sfixed32, Sfixed64, Sint32, Sint64, Enum, written, zigzag, in_i32, is_declared, scalar_valid, short_varint, short_key_ok, all_append, WireType}
use Rattle.std.proofs.lemmas.Str.{IsUtf8-from_is_utf8}
use lib.Utf8.{scalar, scalars, encodes, scalar_cases}
use Rattle.prost_reflect_laws.proofs.Table.{fits_64, unsigned_64}
use Rattle.prost_reflect_wire.specs.declared.key.WireType.TheVariants as wires

-- BYTES

bytes_append : (xs ys : List ℕ) → are_bytes xs ≡ true → are_bytes ys ≡ true → are_bytes (xs ++ ys) ≡ true
bytes_append xs ys h k = all_append (λ b. nat_lt b 256) xs ys h k

one_more : (b : ℕ) (bytes : List ℕ) → b < 256 → are_bytes bytes ≡ true → are_bytes (b ∷ bytes) ≡ true
one_more b bytes h k = and_from _ _ (lt-ltb b 256 h) k

digits_bytes : (bytes : List ℕ) → AreDigits bytes → are_bytes bytes ≡ true
digits_bytes [] d = refl
digits_bytes (b ∷ []) d = one_more b [] (omega (arith, d)) refl
digits_bytes (b ∷ c ∷ bytes) d = one_more b (c ∷ bytes) d.1 (digits_bytes (c ∷ bytes) d.2)

short_bytes : (v : ℕ) → v < 2 ^ 64 → are_bytes (short v) ≡ true
short_bytes v h = digits_bytes (short v) (short_varint v h).digits

key_bytes : (n : ℕ) (w : WireType) → number_valid n ≡ true → are_bytes (short_key n w) ≡ true
key_bytes n w h = digits_bytes (short_key n w) (short_key_ok n w h).varint.digits

pub plain_bytes : (p : Plain) → plain_valid p ≡ true → are_bytes (short_plain p) ≡ true
plain_bytes (Var v) h = short_bytes v (ltb-true v (2 ^ 64) h)
plain_bytes (Fix64 eight) h = (and_parts (nat_eq (length eight) 8) (are_bytes eight) h).1
plain_bytes (Len body) h =
    let (l, all) = and_parts (nat_lt (length body) (2 ^ 64)) (are_bytes body) h in
    bytes_append (short (length body)) body (short_bytes (length body) (ltb-true (length body) (2 ^ 64) l)) all
plain_bytes (Fix32 four) h = (and_parts (nat_eq (length four) 4) (are_bytes four) h).1

pub body_bytes : (rs : Records) → valid rs ≡ true → are_bytes (short_body rs) ≡ true
body_bytes NoRecords h = refl
body_bytes (PlainRecord n p rest) h =
    let (a, b) = and_parts (number_valid n) (plain_valid p && valid rest) h in
    let (c, d) = and_parts (plain_valid p) (valid rest) b in
    bytes_append (short_key n (plain_wire p)) (short_plain p ++ short_body rest) (key_bytes n (plain_wire p) a) (bytes_append (short_plain p) (short_body rest) (plain_bytes p c) (body_bytes rest d))
body_bytes (GroupRecord n inside rest) h =
    let (a, b) = and_parts (number_valid n) (valid inside && valid rest) h in
    let (c, d) = and_parts (valid inside) (valid rest) b in
    bytes_append (short_key n wires.StartGroup) (short_body inside ++ (short_key n wires.EndGroup ++ short_body rest)) (key_bytes n wires.StartGroup a)
    (bytes_append (short_body inside) (short_key n wires.EndGroup ++ short_body rest) (body_bytes inside c) (bytes_append (short_key n wires.EndGroup) (short_body rest) (key_bytes n wires.EndGroup a) (body_bytes rest d)))

-- TEXT

char_bytes : (c : ℕ) → scalar c ≡ true → are_bytes (encode_utf8 c) ≡ true
unfolding encode_utf8
char_bytes c h = go (nat_lt c 128) (nat_lt c 2048) (nat_lt c 65536) refl refl refl
  where
    small : (c < 55296) ⊎ ((57344 ≤ c) × (c < 1114112)) → c < 1114112
    small (inl l) = omega arith
    small (inr l) = l.1

    go : (x y z : Bool) → nat_lt c 128 ≡ x → nat_lt c 2048 ≡ y → nat_lt c 65536 ≡ z →
        are_bytes (cond x (c ∷ []) (cond y ((192 + c / 64) ∷ (128 + c % 64) ∷ []) (cond z ((224 + c / 4096) ∷ (128 + c / 64 % 64) ∷ (128 + c % 64) ∷ []) ((240 + c / 262144) ∷ (128 + c / 4096 % 64) ∷ (128 + c / 64 % 64) ∷ (128 + c % 64) ∷ [])))) ≡ true
    go true y z e f g = let l : c < 128 = ltb-true c 128 e in one_more c [] (omega arith) refl
    go false true z e f g = let l : c < 2048 = ltb-true c 2048 f in one_more (192 + c / 64) ((128 + c % 64) ∷ []) (omega arith) (one_more (128 + c % 64) [] (omega arith) refl)
    go false false true e f g =
        let l : c < 65536 = ltb-true c 65536 g in
        one_more (224 + c / 4096) ((128 + c / 64 % 64) ∷ (128 + c % 64) ∷ []) (omega arith) (one_more (128 + c / 64 % 64) ((128 + c % 64) ∷ []) (omega arith) (one_more (128 + c % 64) [] (omega arith) refl))
    go false false false e f g =
        let l : c < 1114112 = small (scalar_cases c h) in
        one_more (240 + c / 262144) ((128 + c / 4096 % 64) ∷ (128 + c / 64 % 64) ∷ (128 + c % 64) ∷ []) (omega arith)
        (one_more (128 + c / 4096 % 64) ((128 + c / 64 % 64) ∷ (128 + c % 64) ∷ []) (omega arith) (one_more (128 + c / 64 % 64) ((128 + c % 64) ∷ []) (omega arith) (one_more (128 + c % 64) [] (omega arith) refl)))

chars_bytes : (cs : List ℕ) → scalars cs ≡ true → are_bytes (encodes cs) ≡ true
chars_bytes [] h = refl
chars_bytes (c ∷ cs) h =
    let (one, more) = and_parts (scalar c) (scalars cs) h in
    bytes_append (encode_utf8 c) (encodes cs) (char_bytes c one) (chars_bytes cs more)

pub text_bytes : (bytes : List ℕ) → is_utf8 bytes ≡ true → are_bytes bytes ≡ true
text_bytes bytes h = go (IsUtf8-from_is_utf8 bytes h)
  where
    go : IsUtf8 bytes → are_bytes bytes ≡ true
    go (cs, (good, e)) = ap are_bytes (sym e) ∙ chars_bytes cs good

-- SCALARS

byte_small : (i n : ℕ) → byte_at i n < 256
byte_small zero n = omega arith
byte_small (suc i) n = omega arith

low_bytes : (i k n : ℕ) → are_bytes (bytes_low_first i k n) ≡ true
low_bytes i zero n = refl
low_bytes i (suc k) n = one_more (byte_at i n) (bytes_low_first (suc i) k n) (byte_small i n) (low_bytes (suc i) k n)

wide : (z : ℤ) → in_i32 z ≡ true → SFits w64 z
wide (pos n) h = let l : n < 2 ^ 31 = ltb-true n (2 ^ 31) h in record { sfits = omega arith }
wide (negsuc n) h = let l : n < 2 ^ 31 = ltb-true n (2 ^ 31) h in record { sfits = omega arith }

zigzag_small : (z : ℤ) → SFits w64 z → zigzag z < 2 ^ 64
zigzag_small (pos n) h = let l : n < 2 ^ 63 = h.sfits in omega arith
zigzag_small (negsuc n) h = let l : n < 2 ^ 63 = h.sfits in omega arith

shorter : (body : List ℕ) → length (short (length body) ++ body) < 2 ^ 64 → length body < 2 ^ 64
shorter body l = omega (arith, l, length-append (short (length body)) body)

eight_bytes : (n : ℕ) → plain_valid (Fix64 (to_le_bytes w64 n)) ≡ true
eight_bytes n = low_bytes 0 8 n

four_bytes : (n : ℕ) → plain_valid (Fix32 (to_le_bytes w32 n)) ≡ true
four_bytes n = low_bytes 0 4 n

-- a text or bytes have a length
abbrev pub LengthFits : Plain → Type 0
LengthFits (Len body) = length body < 2 ^ 64
LengthFits _ = ⊤

pub length_fits : (p : Plain) → length (short_plain p) < 2 ^ 64 → LengthFits p
length_fits (Var v) l = tt
length_fits (Fix64 eight) l = tt
length_fits (Len body) l = shorter body l
length_fits (Fix32 four) l = tt

pub written_valid : (kind : ScalarKind) (v : Scalar) → scalar_valid kind v ≡ true → LengthFits (written kind v) → plain_valid (written kind v) ≡ true
written_valid Double (F64 n) h l = eight_bytes n
written_valid Float (F32 n) h l = four_bytes n
written_valid Int64 (I64 z) h l = lt-ltb (cast_unsigned w64 z) (2 ^ 64) (unsigned_64 z (fits_64 z h))
written_valid Uint64 (U64 n) h l = h
written_valid Int32 (I32 z) h l = lt-ltb (cast_unsigned w64 z) (2 ^ 64) (unsigned_64 z (wide z h))
written_valid Fixed64 (U64 n) h l = eight_bytes n
written_valid Fixed32 (U32 n) h l = four_bytes n
written_valid BoolKind (Boolean true) h l = refl
written_valid BoolKind (Boolean false) h l = refl
written_valid StringKind (Text bytes) h l = and_from _ _ (lt-ltb (length bytes) (2 ^ 64) l) (text_bytes bytes h)
written_valid BytesKind (Bytes bytes) h l = and_from _ _ (lt-ltb (length bytes) (2 ^ 64) l) h
written_valid Uint32 (U32 n) h l = let s : n < 2 ^ 32 = ltb-true n (2 ^ 32) h in lt-ltb n (2 ^ 64) (omega arith)
written_valid (Enum first numbers) (EnumNumber z) h l = lt-ltb (cast_unsigned w64 z) (2 ^ 64) (unsigned_64 z (wide z (and_parts (in_i32 z) (is_declared numbers z) h).0))
written_valid Sfixed32 (I32 z) h l = four_bytes (cast_unsigned w32 z)
written_valid Sfixed64 (I64 z) h l = eight_bytes (cast_unsigned w64 z)
written_valid Sint32 (I32 z) h l = lt-ltb (zigzag z) (2 ^ 64) (zigzag_small z (wide z h))
written_valid Sint64 (I64 z) h l = lt-ltb (zigzag z) (2 ^ 64) (zigzag_small z (fits_64 z h))
written_valid _ v h l = absurd (true≢false (sym h))

-- RECORDS

abbrev pub payload_size : Payload → ℕ
payload_size (Flat p) = length (short_plain p)
payload_size (Group inside) = length (short_body inside)

-- a payload is valid if its bytes have a length
pub record SoundPayload (p : Payload) : Type 0 where
  pub sound : payload_size p < 2 ^ 64 → payload_valid p ≡ true

abbrev pub SoundPayloads : List Payload → Type 0
SoundPayloads [] = ⊤
SoundPayloads (p ∷ ps) = SoundPayload p × SoundPayloads ps

pub record SoundRecord (r : Record) : Type 0 where
  pub number : number_valid r.number ≡ true
  pub payload : SoundPayload r.payload

abbrev pub Sound : List Record → Type 0
Sound [] = ⊤
Sound (r ∷ rs) = SoundRecord r × Sound rs

pub sound_append : (rs qs : List Record) → Sound rs → Sound qs → Sound (rs ++ qs)
sound_append [] qs h k = k
sound_append (r ∷ rs) qs (one, more) k = (one, sound_append rs qs more k)

pub valid_if : (rs : List Record) → Sound rs → length (spelled rs) < 2 ^ 64 → valid (body_of rs) ≡ true
valid_if [] s l = refl
valid_if (r ∷ rs) (one, more) l = go r.payload one.payload.sound (valid_if rs more) l
  where
    go : (p : Payload) → (payload_size p < 2 ^ 64 → payload_valid p ≡ true) → (length (spelled rs) < 2 ^ 64 → valid (body_of rs) ≡ true) → length (short_body (before (record { number = r.number; payload = p }) (body_of rs))) < 2 ^ 64 → valid (before (record { number = r.number; payload = p }) (body_of rs)) ≡ true
    go (Flat p) h further l =
        let whole : length (short_key r.number (plain_wire p) ++ (short_plain p ++ short_body (body_of rs))) < 2 ^ 64 = l in
        let e : length (short_key r.number (plain_wire p) ++ (short_plain p ++ short_body (body_of rs))) ≡ length (short_key r.number (plain_wire p)) + length (short_plain p ++ short_body (body_of rs)) = length-append (short_key r.number (plain_wire p)) (short_plain p ++ short_body (body_of rs)) in
        let d : length (short_plain p ++ short_body (body_of rs)) ≡ length (short_plain p) + length (short_body (body_of rs)) = length-append (short_plain p) (short_body (body_of rs)) in
        and_from _ _ one.number (and_from _ _ (h (omega arith)) (further (omega arith)))
    go (Group inside) h further l =
        let key : List ℕ = short_key r.number wires.StartGroup in
        let stop : List ℕ = short_key r.number wires.EndGroup in
        let rest : List ℕ = short_body (body_of rs) in
        let whole : length (key ++ (short_body inside ++ (stop ++ rest))) < 2 ^ 64 = l in
        let e : length (key ++ (short_body inside ++ (stop ++ rest))) ≡ length key + length (short_body inside ++ (stop ++ rest)) = length-append key (short_body inside ++ (stop ++ rest)) in
        let d : length (short_body inside ++ (stop ++ rest)) ≡ length (short_body inside) + length (stop ++ rest) = length-append (short_body inside) (stop ++ rest) in
        let a : length (stop ++ rest) ≡ length stop + length rest = length-append stop rest in
        and_from _ _ one.number (and_from _ _ (h (omega arith)) (further (omega arith)))

-- a message's payload
pub message_sound : (rs : List Record) → Sound rs → SoundPayload (Flat (Len (spelled rs)))
message_sound rs s = record {
  sound = λ l.
      let small : length (spelled rs) < 2 ^ 64 = shorter (spelled rs) l in
      and_from _ _ (lt-ltb (length (spelled rs)) (2 ^ 64) small) (body_bytes (body_of rs) (valid_if rs s small));
}
