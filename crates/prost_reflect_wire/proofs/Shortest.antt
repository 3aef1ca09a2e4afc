-- The short spelling spells.
use Rattle.std.specs.Prelude.{◌≡◌, ◌+◌, ◌*◌, ◌/◌, ◌%◌, ◌^◌, ◌<◌, ◌≤◌, ◌&&◌}
use Rattle.prost_reflect_wire.proofs.Common.{ℕ, zero, suc, Bool, true, false, List, length, nat_lt, nat_eq, refl, arith, div-lt_iff_lt-mul, lit≤, lt_of_lt_of_le, ltb-true, ltb-false, eqb-true, and_parts, are_bytes, AreDigits, digits_value, Varint, short, short_within, Key, wire_code, plain_wire, short_key, short_plain, short_body, Plain, Var, Fix64, Len, Fix32, SpellsPlain, Records, NoRecords, PlainRecord, GroupRecord, Spells, number_valid, plain_valid, valid, WireType}
use Rattle.std.proofs.Common.{pow-suc}
use Rattle.prost_reflect_wire.proofs.Reading.{wire_small, digits_cons}
use Rattle.prost_reflect_wire.specs.declared.key.WireType.TheVariants as wires

record Short (more value : ℕ) (bytes : List ℕ) : Type 0 where
  digits : AreDigits bytes
  few : length bytes ≤ suc more
  means : digits_value bytes ≡ value

short_ok : (more value : ℕ) → value < 128 ^ suc more → Short more value (short_within more value)
short_ok zero v h = record { digits = omega (arith, h); few = omega arith; means = omega (arith, h) }
short_ok (suc more) v h = go (nat_lt v 128) refl (short_ok more (v / 128) ((div-lt_iff_lt-mul {x = v} {y = 128 ^ suc more} (omega arith)).1 (rw pow-suc at h)))
  where
    go : (b : Bool) → nat_lt v 128 ≡ b → Short more (v / 128) (short_within more (v / 128)) → Short (suc more) v (short_within (suc more) v)
    go true e r =
        let below : v < 128 = ltb-true v 128 e in
        rw (e, short_within) (record { digits = below; few = omega arith; means = omega arith })
    go false e r =
        let above : 128 ≤ v = ltb-false v 128 e in
        rw (e, short_within) (record { digits = digits_cons (128 + v % 128) (short_within more (v / 128)) (omega arith) (omega arith) r.digits; few = omega (arith, r.few); means = omega (arith, r.means) })

-- the short spelling of a number is one of its spellings
pub short_varint : (v : ℕ) → v < 2 ^ 64 → Varint v (short v)
unfolding short
short_varint v h =
    let small : v < 128 ^ 10 = lt_of_lt_of_le h (lit≤ tt) in
    let r : Short 9 v (short v) = short_ok 9 v small in
    record { below = h; digits = r.digits; few = r.few; means = r.means }

pub short_key_ok : (n : ℕ) (w : WireType) → number_valid n ≡ true → Key n w (short_key n w)
short_key_ok n w h =
    let (a, b) = and_parts (nat_lt 0 n) (nat_lt n (2 ^ 29)) h in
    let below : n < 2 ^ 29 = ltb-true n (2 ^ 29) b in
    record { from_one = ltb-true 0 n a; below = below; varint = short_varint (8 * n + wire_code w) (omega (arith, below, wire_small w)) }

pub short_plain_ok : (p : Plain) → plain_valid p ≡ true → SpellsPlain p (short_plain p)
short_plain_ok (Var v) h = short_varint v (ltb-true v (2 ^ 64) h)
short_plain_ok (Fix64 bytes) h = (eqb-true (length bytes) 8 (and_parts (nat_eq (length bytes) 8) (are_bytes bytes) h).0, refl)
short_plain_ok (Len body) h = (short (length body), short_varint (length body) (ltb-true (length body) (2 ^ 64) (and_parts (nat_lt (length body) (2 ^ 64)) (are_bytes body) h).0), refl)
short_plain_ok (Fix32 bytes) h = (eqb-true (length bytes) 4 (and_parts (nat_eq (length bytes) 4) (are_bytes bytes) h).0, refl)

pub short_spells : (rs : Records) → valid rs ≡ true → Spells rs (short_body rs)
short_spells NoRecords h = refl
short_spells (PlainRecord n p rest) h =
    let (a, b) = and_parts (number_valid n) (plain_valid p && valid rest) h in
    let (c, d) = and_parts (plain_valid p) (valid rest) b in
    (short_key n (plain_wire p), short_plain p, short_body rest, short_key_ok n (plain_wire p) a, short_plain_ok p c, short_spells rest d, refl)
short_spells (GroupRecord n inside rest) h =
    let (a, b) = and_parts (number_valid n) (valid inside && valid rest) h in
    let (c, d) = and_parts (valid inside) (valid rest) b in
    (short_key n wires.StartGroup, short_body inside, short_key n wires.EndGroup, short_body rest, short_key_ok n wires.StartGroup a, short_spells inside c, short_key_ok n wires.EndGroup a, short_spells rest d, refl)
