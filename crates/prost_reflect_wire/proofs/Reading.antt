-- What spells records is read as those records.
use Rattle.std.specs.Prelude.{◌≡◌, ◌+◌, ◌*◌, ◌/◌, ◌%◌, ◌^◌, ◌<◌, ◌≤◌, ◌&&◌, ◌∷◌, ◌++◌}
use Rattle.prost_reflect_wire.proofs.Common.{ℕ, zero, suc, Bool, true, List, [], length, take, drop, Option, Some, None, nat_lt, refl, ap, sym, ◌∙◌, arith, append_assoc, append-nil, length-append, take-append_seam, drop-append_seam, lt-ltb, le-ltb, le-leb, eq-eqb, and_from, AreDigits, digits_value, Varint, digits_at, varint_at, guard, ◌>>=◌, front_at, Key, key_at, wire_code, plain_wire, wire_of, plain_at, Plain, Var, Fix64, Len, Fix32, SpellsPlain, Records, NoRecords, PlainRecord, GroupRecord, Spells, Body, body_at, after_key, close, read, WireType}
use Rattle.prost_reflect_wire.specs.declared.key.WireType.TheVariants as wires

bind_some : {A B : Type 0} (f : A → Option B) {m : Option A} {x : A} → m ≡ Some x → (m >>= f) ≡ f x
bind_some f e = ap (λ o. o >>= f) e

guard_true : {A : Type 0} {b : Bool} (x : A) → b ≡ true → guard b x ≡ Some x
guard_true x e = ap (λ b. guard b x) e

pub digits_read : (k : ℕ) (bytes tail : List ℕ) → AreDigits bytes → length bytes ≤ k → digits_at k (bytes ++ tail) ≡ Some (digits_value bytes, tail)
digits_read k [] tail d l = elim d [ ]
digits_read zero (b ∷ bytes) tail d l = absurd (omega arith)
digits_read (suc k) (b ∷ []) tail d l = rw (lt-ltb b 128 d, digits_at) (ap (λ (n : ℕ). Some (n, tail)) (omega arith))
digits_read (suc k) (b ∷ c ∷ bytes) tail d l =
    let more : length (c ∷ bytes) ≤ k = omega arith in
    rw (le-ltb b 128 d.0, digits_at) (bind_some (λ rest. Some (b % 128 + 128 * rest.0, rest.1)) (digits_read k (c ∷ bytes) tail d.2 more))

pub varint_read : (v : ℕ) (bytes tail : List ℕ) → Varint v bytes → varint_at (bytes ++ tail) ≡ Some (v, tail)
varint_read v bytes tail r =
    bind_some (λ found. guard (nat_lt found.0 (2 ^ 64)) found) (digits_read 10 bytes tail r.digits r.few ∙ ap (λ (n : ℕ). Some (n, tail)) r.means)
    ∙ guard_true (v, tail) (lt-ltb v (2 ^ 64) r.below)

pub wire_small : (w : WireType) → wire_code w < 6
wire_small wires.Varint = omega arith
wire_small wires.SixtyFourBit = omega arith
wire_small wires.LengthDelimited = omega arith
wire_small wires.StartGroup = omega arith
wire_small wires.EndGroup = omega arith
wire_small wires.ThirtyTwoBit = omega arith

pub wire_known : (w : WireType) → wire_of (wire_code w) ≡ Some w
wire_known wires.Varint = refl
wire_known wires.SixtyFourBit = refl
wire_known wires.LengthDelimited = refl
wire_known wires.StartGroup = refl
wire_known wires.EndGroup = refl
wire_known wires.ThirtyTwoBit = refl

pub key_read : (n : ℕ) (wire : WireType) (bytes tail : List ℕ) → Key n wire bytes → key_at (bytes ++ tail) ≡ Some (n, wire, tail)
key_read n wire bytes tail r =
    let w : ℕ = wire_code wire in
    let h : w < 6 = wire_small wire in
    let q : (8 * n + w) / 8 ≡ n = omega (arith, h) in
    let m : (8 * n + w) % 8 ≡ w = omega (arith, h) in
    let small : 8 * n + w < 2 ^ 32 = omega (arith, r.below, h) in
    bind_some (λ key. wire_of (key.0 % 8) >>= λ wire. guard (nat_lt key.0 (2 ^ 32) && nat_lt 0 (key.0 / 8)) (key.0 / 8, wire, key.1)) (varint_read (8 * n + w) bytes tail r.varint)
    ∙ bind_some (λ wire. guard (nat_lt (8 * n + w) (2 ^ 32) && nat_lt 0 ((8 * n + w) / 8)) ((8 * n + w) / 8, wire, tail)) (ap wire_of m ∙ wire_known wire)
    ∙ guard_true ((8 * n + w) / 8, wire, tail) (and_from _ _ (lt-ltb (8 * n + w) (2 ^ 32) small) (lt-ltb 0 ((8 * n + w) / 8) (omega (arith, q, r.from_one))))
    ∙ ap (λ (x : ℕ). Some (x, wire, tail)) q

pub front_read : (n : ℕ) (front tail : List ℕ) → length front ≡ n → front_at n (front ++ tail) ≡ Some (front, tail)
front_read n front tail e =
    guard_true (take n (front ++ tail), drop n (front ++ tail)) (le-leb n (length (front ++ tail)) (omega (arith, length-append front tail)))
    ∙ ap (λ (x : List ℕ × List ℕ). Some x) (rw (← e, take-append_seam, drop-append_seam))

pub plain_read : (p : Plain) (bytes tail : List ℕ) → SpellsPlain p bytes → plain_at (plain_wire p) (bytes ++ tail) ≡ Some (p, tail)
plain_read (Var v) bytes tail h = bind_some (λ v. Some (Var v.0, v.1)) (varint_read v bytes tail h)
plain_read (Fix64 eight) bytes tail h = rw h.1 (bind_some (λ f. Some (Fix64 f.0, f.1)) (front_read 8 eight tail h.0))
plain_read (Len body) bytes tail (len, h, e) =
    rw (e, append_assoc len body tail) (bind_some (λ len. front_at len.0 len.1 >>= λ body. Some (Len body.0, body.1)) (varint_read (length body) len (body ++ tail) h)
    ∙ bind_some (λ body. Some (Len body.0, body.1)) (front_read (length body) body tail refl))
plain_read (Fix32 four) bytes tail h = rw h.1 (bind_some (λ f. Some (Fix32 f.0, f.1)) (front_read 4 four tail h.0))

after_plain : (body : Body) (opened : Option ℕ) (n : ℕ) (p : Plain) (bytes : List ℕ) →
    after_key body opened n (plain_wire p) bytes ≡ (plain_at (plain_wire p) bytes >>= λ q. body opened q.1 >>= λ rest. Some (PlainRecord n q.0 rest.0, rest.1))
after_plain body opened n (Var v) bytes = refl
after_plain body opened n (Fix64 b) bytes = refl
after_plain body opened n (Len b) bytes = refl
after_plain body opened n (Fix32 b) bytes = refl

-- a key at the front
step : (f : ℕ) (opened : Option ℕ) (n : ℕ) (wire : WireType) (key tail : List ℕ) → Key n wire key →
    body_at (suc f) opened (key ++ tail) ≡ after_key (body_at f) opened n wire tail
step f opened n wire [] tail r = elim r.varint.digits [ ]
step f opened n wire (b ∷ key) tail r =
    bind_some (λ key. after_key (body_at f) opened key.0 key.1 key.2) (key_read n wire (b ∷ key) tail r)

pub digits_cons : (b : ℕ) (bytes : List ℕ) → 128 ≤ b → b < 256 → AreDigits bytes → AreDigits (b ∷ bytes)
digits_cons b [] h k d = elim d [ ]
digits_cons b (c ∷ bytes) h k d = (h, k, d)

pub varint_some : (v : ℕ) (bytes : List ℕ) → Varint v bytes → 0 < length bytes
varint_some v [] r = elim r.digits [ ]
varint_some v (b ∷ bytes) r = omega arith

pub some_key : {n : ℕ} {w : WireType} (key : List ℕ) → Key n w key → 0 < length key
some_key [] r = elim r.varint.digits [ ]
some_key (b ∷ key) r = omega arith

-- the bytes end the open body, and leave the rest
abbrev pub Closes : Option ℕ → List ℕ → List ℕ → Type 0
Closes opened bytes rest = (fuel : ℕ) → length bytes < fuel → body_at fuel opened bytes ≡ Some (NoRecords, rest)

regroup : (a b c d : List ℕ) → (a ++ (b ++ c)) ++ d ≡ a ++ (b ++ (c ++ d))
regroup a b c d = append_assoc a (b ++ c) d ∙ ap (λ x. a ++ x) (append_assoc b c d)

length_three : (a b c : List ℕ) → length (a ++ (b ++ c)) ≡ length a + length b + length c
length_three a b c = omega (arith, length-append a (b ++ c), length-append b c)

close_same : (n : ℕ) (rest : List ℕ) → close (Some n) n rest ≡ Some (NoRecords, rest)
close_same n rest = guard_true (NoRecords, rest) (eq-eqb n n refl)

-- the end key of an open group
pub closes_group : (n : ℕ) (stop rest : List ℕ) → Key n wires.EndGroup stop → Closes (Some n) (stop ++ rest) rest
closes_group n stop rest key zero h = absurd (omega arith)
closes_group n stop rest key (suc f) h = step f (Some n) n wires.EndGroup stop rest key ∙ close_same n rest

pub body_read : (rs : Records) (bytes tail rest : List ℕ) (opened : Option ℕ) → Spells rs bytes → Closes opened tail rest →
    (fuel : ℕ) → length (bytes ++ tail) < fuel → body_at fuel opened (bytes ++ tail) ≡ Some (rs, rest)
body_read NoRecords bytes tail rest opened h closes fuel enough = rw h (closes fuel (rw h at enough))
body_read (PlainRecord n p rs) bytes tail rest opened (key, body, after, k, b, a, e) closes (suc f) enough =
    let whole : bytes ++ tail ≡ key ++ (body ++ (after ++ tail)) = ap (λ x. x ++ tail) e ∙ regroup key body after tail in
    let left : length (after ++ tail) < f = omega (arith, enough, ap length whole, length_three key body (after ++ tail), some_key key k) in
    ap (body_at (suc f) opened) whole
    ∙ step f opened n (plain_wire p) key (body ++ (after ++ tail)) k
    ∙ after_plain (body_at f) opened n p (body ++ (after ++ tail))
    ∙ bind_some (λ q. body_at f opened q.1 >>= λ rest. Some (PlainRecord n q.0 rest.0, rest.1)) (plain_read p body (after ++ tail) b)
    ∙ bind_some (λ rest. Some (PlainRecord n p rest.0, rest.1)) (body_read rs after tail rest opened a closes f left)
body_read (GroupRecord n inside rs) bytes tail rest opened (key, body, stop, after, k, b, s, a, e) closes (suc f) enough =
    let next : List ℕ = after ++ tail in
    let whole : bytes ++ tail ≡ key ++ (body ++ (stop ++ (after ++ tail))) = ap (λ x. x ++ tail) e ∙ (append_assoc key (body ++ (stop ++ after)) tail ∙ ap (λ x. key ++ x) (regroup body stop after tail)) in
    let left : length (body ++ (stop ++ (after ++ tail))) < f = omega (arith, enough, ap length whole, length-append key (body ++ (stop ++ (after ++ tail))), some_key key k) in
    let left' : length (after ++ tail) < f = omega (arith, left, length_three body stop (after ++ tail)) in
    ap (body_at (suc f) opened) whole
    ∙ step f opened n wires.StartGroup key (body ++ (stop ++ (after ++ tail))) k
    ∙ bind_some (λ inside. body_at f opened inside.1 >>= λ rest. Some (GroupRecord n inside.0 rest.0, rest.1))
    (body_read inside body (stop ++ (after ++ tail)) (after ++ tail) (Some n) b (closes_group n stop (after ++ tail) s) f left)
    ∙ bind_some (λ rest. Some (GroupRecord n inside rest.0, rest.1)) (body_read rs after tail rest opened a closes f left')
body_read _ bytes tail rest opened h closes zero enough = absurd (omega arith)

closes_end : Closes None [] []
closes_end zero h = absurd (omega arith)
closes_end (suc f) h = refl

-- what spells records is read as those records
pub spelled_read : (rs : Records) (bytes : List ℕ) → Spells rs bytes → read bytes ≡ Some rs
unfolding read
spelled_read rs bytes h =
    bind_some (λ found. Some found.0) (ap (body_at (suc (length bytes)) None) (sym (append-nil bytes))
    ∙ body_read rs bytes [] [] None h closes_end (suc (length bytes)) (omega (arith, ap length (append-nil bytes))))

pub one_reading : (bytes : List ℕ) (rs qs : Records) → Spells rs bytes → Spells qs bytes → rs ≡ qs
one_reading bytes rs qs r q = ap (λ o. elim o [ None ↦ rs | Some x ↦ x ]) (sym (spelled_read rs bytes r) ∙ spelled_read qs bytes q)
