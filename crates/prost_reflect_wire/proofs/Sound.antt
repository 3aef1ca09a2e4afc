-- What is read spells.
use Rattle.std.specs.Prelude.{◌≡◌, ◌+◌, ◌*◌, ◌/◌, ◌%◌, ◌^◌, ◌<◌, ◌≤◌, ◌&&◌, ◌∷◌, ◌++◌}
use Rattle.prost_reflect_wire.proofs.Common.{ℕ, zero, suc, Bool, true, false, List, [], length, take, drop, Option, Some, None, nat_lt, nat_le, nat_eq, refl, ap, ap₂, sym, subst, ◌∙◌, arith, append_assoc, append-nil, ltb-true, ltb-false, leb-true, eqb-true, and_parts, AreBytes, AreDigits, digits_value, Varint, digits_at, varint_at, guard, ◌>>=◌, front_at, Key, key_at, wire_code, plain_wire, wire_of, plain_at, Plain, Var, Fix64, Len, Fix32, SpellsPlain, Records, NoRecords, PlainRecord, GroupRecord, Spells, Body, body_at, after_key, read, WireType}
use Rattle.std.proofs.Common.{length-take}
use Rattle.std.proofs.Math.ListN.{take-append-drop}
use Rattle.std.proofs.lemmas.Option.{none-some, same_Some}
use Rattle.prost_reflect_wire.specs.declared.key.WireType.TheVariants as wires
use Rattle.prost_reflect_wire.proofs.Reading.{digits_cons}
use Rattle.prost_reflect_wire.proofs.ByteLists.{bytes_behind}

pub bind_ok : {A B : Type 0} (f : A → Option B) (m : Option A) (y : B) → (m >>= f) ≡ Some y → (x : A) × (m ≡ Some x) × (f x ≡ Some y)
bind_ok f None y e = absurd (none-some _ e)
bind_ok f (Some x) y e = (x, refl, e)

pub guard_ok : {A : Type 0} (b : Bool) (x y : A) → guard b x ≡ Some y → (b ≡ true) × (x ≡ y)
guard_ok true x y e = (refl, same_Some _ _ e)
guard_ok false x y e = absurd (none-some _ e)

-- digits at the front
record Digits (k : ℕ) (bytes : List ℕ) (v : ℕ) (rest : List ℕ) : Type 0 where
  digits : List ℕ
  whole : bytes ≡ digits ++ rest
  are : AreDigits digits
  few : length digits ≤ k
  means : digits_value digits ≡ v

digits_sound : (k : ℕ) (bytes : List ℕ) (v : ℕ) (rest : List ℕ) → AreBytes bytes → digits_at k bytes ≡ Some (v, rest) → Digits k bytes v rest
digits_sound (suc k) (b ∷ bytes) v rest small e = go (nat_lt b 128) refl (digits_sound k bytes)
  where
    go : (c : Bool) → nat_lt b 128 ≡ c → ((v : ℕ) (rest : List ℕ) → AreBytes bytes → digits_at k bytes ≡ Some (v, rest) → Digits k bytes v rest) → Digits (suc k) (b ∷ bytes) v rest
    go true c more =
        let found : (b, bytes) ≡ (v, rest) = same_Some _ _ (rw (c, digits_at) at e) in
        let low : b < 128 = ltb-true b 128 c in
        record { digits = b ∷ []; whole = ap (λ (p : ℕ × List ℕ). b ∷ p.1) found; are = low; few = omega arith; means = omega (arith, ap (λ (p : ℕ × List ℕ). p.0) found) }
    go false c more =
        let high : 128 ≤ b = ltb-false b 128 c in
        let (x, m, f) = bind_ok (λ rest. Some (b % 128 + 128 * rest.0, rest.1)) (digits_at k bytes) (v, rest) (rw (c, digits_at) at e) in
        let d : Digits k bytes x.0 x.1 = more x.0 x.1 small.1 m in
        let found : ◌≡◌ {A = ℕ × List ℕ} (b % 128 + 128 * x.0, x.1) (v, rest) = same_Some _ _ f in
        record { digits = b ∷ d.digits; whole = ap (λ l. b ∷ l) d.whole ∙ ap (λ (p : ℕ × List ℕ). b ∷ (d.digits ++ p.1)) found; are = digits_cons b d.digits high small.0 d.are; few = omega (arith, d.few); means = ap (λ (x : ℕ). b % 128 + 128 * x) d.means ∙ ap (λ (p : ℕ × List ℕ). p.0) found }
digits_sound _ _ v rest small e = absurd (none-some _ e)

pub varint_sound : (bytes : List ℕ) (v : ℕ) (rest : List ℕ) → AreBytes bytes → varint_at bytes ≡ Some (v, rest) → (front : List ℕ) × (bytes ≡ front ++ rest) × Varint v front
varint_sound bytes v rest small e =
    let (x, m, f) = bind_ok (λ found. guard (nat_lt found.0 (2 ^ 64)) found) (digits_at 10 bytes) (v, rest) e in
    let (b, same) = guard_ok (nat_lt x.0 (2 ^ 64)) x (v, rest) f in
    let d : Digits 10 bytes v rest = digits_sound 10 bytes v rest small (m ∙ ap (λ (p : ℕ × List ℕ). Some p) same) in
    (d.digits, d.whole, record { below = omega (arith, ltb-true x.0 (2 ^ 64) b, ap (λ (p : ℕ × List ℕ). p.0) same); digits = d.are; few = d.few; means = d.means })

code_of : (w : ℕ) (wire : WireType) → wire_of w ≡ Some wire → w ≡ wire_code wire
code_of zero wire e = ap wire_code (same_Some _ _ e)
code_of (suc zero) wire e = ap wire_code (same_Some _ _ e)
code_of (suc (suc zero)) wire e = ap wire_code (same_Some _ _ e)
code_of (suc (suc (suc zero))) wire e = ap wire_code (same_Some _ _ e)
code_of (suc (suc (suc (suc zero)))) wire e = ap wire_code (same_Some _ _ e)
code_of (suc (suc (suc (suc (suc zero))))) wire e = ap wire_code (same_Some _ _ e)
code_of (suc (suc (suc (suc (suc (suc w)))))) wire e = absurd (none-some _ e)

key_sound : (bytes : List ℕ) (n : ℕ) (wire : WireType) (rest : List ℕ) → AreBytes bytes → key_at bytes ≡ Some (n, wire, rest) → (front : List ℕ) × (bytes ≡ front ++ rest) × Key n wire front
key_sound bytes n wire rest small e =
    let (key, m, f) = bind_ok (λ key. wire_of (key.0 % 8) >>= λ wire. guard (nat_lt key.0 (2 ^ 32) && nat_lt 0 (key.0 / 8)) (key.0 / 8, wire, key.1)) (varint_at bytes) (n, wire, rest) e in
    let (w, k, g) = bind_ok (λ wire. guard (nat_lt key.0 (2 ^ 32) && nat_lt 0 (key.0 / 8)) (key.0 / 8, wire, key.1)) (wire_of (key.0 % 8)) (n, wire, rest) f in
    let (t, same) = guard_ok (nat_lt key.0 (2 ^ 32) && nat_lt 0 (key.0 / 8)) (key.0 / 8, w, key.1) (n, wire, rest) g in
    let (b, c) = and_parts (nat_lt key.0 (2 ^ 32)) (nat_lt 0 (key.0 / 8)) t in
    let number : key.0 / 8 ≡ n = ap (λ (x : ℕ × WireType × List ℕ). x.0) same in
    let wired : w ≡ wire = ap (λ (x : ℕ × WireType × List ℕ). x.1) same in
    let after : key.1 ≡ rest = ap (λ (x : ℕ × WireType × List ℕ). x.2) same in
    let low : key.0 % 8 ≡ wire_code wire = code_of (key.0 % 8) w k ∙ ap wire_code wired in
    let v : key.0 ≡ 8 * n + wire_code wire = omega (arith, number, low) in
    let below : key.0 < 2 ^ 32 = ltb-true key.0 (2 ^ 32) b in
    let above : 0 < key.0 / 8 = ltb-true 0 (key.0 / 8) c in
    let (front, whole, r) = varint_sound bytes (8 * n + wire_code wire) rest small (m ∙ ap (λ (x : ℕ). Some (x, key.1)) v ∙ ap (λ (x : List ℕ). Some (8 * n + wire_code wire, x)) after) in
    (front, whole, record { from_one = omega (arith, above, number); below = omega (arith, below, number); varint = r })

front_sound : (n : ℕ) (bytes front rest : List ℕ) → front_at n bytes ≡ Some (front, rest) → (bytes ≡ front ++ rest) × (length front ≡ n)
front_sound n bytes front rest e =
    let (b, same) = guard_ok (nat_le n (length bytes)) (take n bytes, drop n bytes) (front, rest) e in
    let fits : n ≤ length bytes = leb-true n (length bytes) b in
    let one : take n bytes ≡ front = ap (λ (p : List ℕ × List ℕ). p.0) same in
    let two : drop n bytes ≡ rest = ap (λ (p : List ℕ × List ℕ). p.1) same in
    (sym (take-append-drop n bytes) ∙ ap₂ ◌++◌ one two, sym (ap length one) ∙ omega (arith, length-take n bytes, fits))

-- a payload at the front, of this wire type
pub record Front (wire : WireType) (bytes : List ℕ) (p : Plain) (rest : List ℕ) : Type 0 where
  pub front : List ℕ
  pub whole : bytes ≡ front ++ rest
  pub spells : SpellsPlain p front
  pub wired : wire ≡ plain_wire p

-- what was found of one kind
moved : {wire : WireType} {bytes : List ℕ} {p q : Plain} {rest more : List ℕ} → ◌≡◌ {A = Plain × List ℕ} (p, rest) (q, more) → Front wire bytes p rest → Front wire bytes q more
moved {wire} {bytes} e h = subst (λ (x : Plain × List ℕ). Front wire bytes x.0 x.1) e h

pub plain_sound : (wire : WireType) (bytes : List ℕ) (p : Plain) (rest : List ℕ) → AreBytes bytes → plain_at wire bytes ≡ Some (p, rest) → Front wire bytes p rest
plain_sound wires.Varint bytes p rest small e =
    let (v, m, f) = bind_ok (λ v. Some (Var v.0, v.1)) (varint_at bytes) (p, rest) e in
    let (front, whole, r) = varint_sound bytes v.0 v.1 small m in
    moved (same_Some _ _ f) (record { front = front; whole = whole; spells = r; wired = refl })
plain_sound wires.SixtyFourBit bytes p rest small e =
    let (v, m, f) = bind_ok (λ f. Some (Fix64 f.0, f.1)) (front_at 8 bytes) (p, rest) e in
    let (whole, n) = front_sound 8 bytes v.0 v.1 m in
    moved (same_Some _ _ f) (record { front = v.0; whole = whole; spells = (n, refl); wired = refl })
plain_sound wires.LengthDelimited bytes p rest small e =
    let (len, m, f) = bind_ok (λ len. front_at len.0 len.1 >>= λ body. Some (Len body.0, body.1)) (varint_at bytes) (p, rest) e in
    let (body, k, g) = bind_ok (λ body. Some (Len body.0, body.1)) (front_at len.0 len.1) (p, rest) f in
    let (front, whole, r) = varint_sound bytes len.0 len.1 small m in
    let (inside, n) = front_sound len.0 len.1 body.0 body.1 k in
    moved (same_Some _ _ g) (record {
      front = front ++ body.0;
      whole = whole ∙ ap (λ l. front ++ l) inside ∙ sym (append_assoc front body.0 body.1);
      spells = (front, subst (λ x. Varint x front) (sym n) r, refl);
      wired = refl;
    })
plain_sound wires.ThirtyTwoBit bytes p rest small e =
    let (v, m, f) = bind_ok (λ f. Some (Fix32 f.0, f.1)) (front_at 4 bytes) (p, rest) e in
    let (whole, n) = front_sound 4 bytes v.0 v.1 m in
    moved (same_Some _ _ f) (record { front = v.0; whole = whole; spells = (n, refl); wired = refl })
plain_sound _ bytes p rest small e = absurd (none-some _ e)

-- how a body ends
abbrev pub Ends : Option ℕ → List ℕ → List ℕ → Type 0
Ends None tail rest = (tail ≡ []) × (rest ≡ [])
Ends (Some n) tail rest = Key n wires.EndGroup tail

-- records at the front, and the end of their body
pub record Whole (opened : Option ℕ) (bytes : List ℕ) (rs : Records) (rest : List ℕ) : Type 0 where
  pub front : List ℕ
  pub stop : List ℕ
  pub whole : bytes ≡ front ++ (stop ++ rest)
  pub spells : Spells rs front
  pub ends : Ends opened stop rest

moved_all : {opened : Option ℕ} {bytes : List ℕ} {p q : Records} {rest more : List ℕ} → ◌≡◌ {A = Records × List ℕ} (p, rest) (q, more) → Whole opened bytes p rest → Whole opened bytes q more
moved_all {opened} {bytes} e h = subst (λ (x : Records × List ℕ). Whole opened bytes x.0 x.1) e h

-- a plain record in front
plain_first : (body : Body) (opened : Option ℕ) (n : ℕ) (wire : WireType) (bytes key tail : List ℕ) (rs : Records) (rest : List ℕ) → AreBytes bytes → bytes ≡ key ++ tail → Key n wire key →
    ◌>>=◌ {B = Records × List ℕ} (plain_at wire tail) (λ q. ◌>>=◌ {B = Records × List ℕ} (body opened q.1) (λ rest. Some (PlainRecord n q.0 rest.0, rest.1))) ≡ Some (rs, rest) →
    ((bytes : List ℕ) (rs : Records) (rest : List ℕ) → AreBytes bytes → body opened bytes ≡ Some (rs, rest) → Whole opened bytes rs rest) → Whole opened bytes rs rest
plain_first body opened n wire bytes key tail rs rest small whole k e more =
    let (p, m, f) = bind_ok (λ q. body opened q.1 >>= λ rest. Some (PlainRecord n q.0 rest.0, rest.1)) (plain_at wire tail) (rs, rest) e in
    let (after, j, g) = bind_ok (λ rest. Some (PlainRecord n p.0 rest.0, rest.1)) (body opened p.1) (rs, rest) f in
    let small' : AreBytes tail = bytes_behind key tail (subst AreBytes whole small) in
    let h : Front wire tail p.0 p.1 = plain_sound wire tail p.0 p.1 small' m in
    let w : Whole opened p.1 after.0 after.1 = more p.1 after.0 after.1 (bytes_behind h.front p.1 (subst AreBytes h.whole small')) j in
    moved_all (same_Some _ _ g) (record {
      front = key ++ (h.front ++ w.front);
      stop = w.stop;
      whole = whole ∙ ap (λ l. key ++ l) (h.whole ∙ ap (λ l. h.front ++ l) w.whole ∙ sym (append_assoc h.front w.front (w.stop ++ after.1))) ∙ sym (append_assoc key (h.front ++ w.front) (w.stop ++ after.1));
      spells = (key, h.front, w.front, subst (λ x. Key n x key) h.wired k, h.spells, w.spells, refl);
      ends = w.ends;
    })

abbrev pub AllSound : Body → Type 0
AllSound body = (opened : Option ℕ) (bytes : List ℕ) (rs : Records) (rest : List ℕ) → AreBytes bytes → body opened bytes ≡ Some (rs, rest) → Whole opened bytes rs rest

-- a key in front
step_sound : (body : Body) (opened : Option ℕ) (n : ℕ) (wire : WireType) (bytes key tail : List ℕ) (rs : Records) (rest : List ℕ) → AreBytes bytes → bytes ≡ key ++ tail → Key n wire key →
    after_key body opened n wire tail ≡ Some (rs, rest) → AllSound body → Whole opened bytes rs rest
step_sound body opened n wires.Varint bytes key tail rs rest small whole k e more = plain_first body opened n wires.Varint bytes key tail rs rest small whole k e (more opened)
step_sound body opened n wires.SixtyFourBit bytes key tail rs rest small whole k e more = plain_first body opened n wires.SixtyFourBit bytes key tail rs rest small whole k e (more opened)
step_sound body opened n wires.LengthDelimited bytes key tail rs rest small whole k e more = plain_first body opened n wires.LengthDelimited bytes key tail rs rest small whole k e (more opened)
step_sound body opened n wires.ThirtyTwoBit bytes key tail rs rest small whole k e more = plain_first body opened n wires.ThirtyTwoBit bytes key tail rs rest small whole k e (more opened)
step_sound body None n wires.EndGroup bytes key tail rs rest small whole k e more = absurd (none-some _ e)
step_sound body (Some g) n wires.EndGroup bytes key tail rs rest small whole k e more =
    let (b, same) = guard_ok (nat_eq n g) (NoRecords, tail) (rs, rest) e in
    moved_all same (record { front = []; stop = key; whole = whole; spells = refl; ends = subst (λ x. Key x wires.EndGroup key) (eqb-true n g b) k })
step_sound body opened n wires.StartGroup bytes key tail rs rest small whole k e more =
    let (inside, m, f) = bind_ok (λ inside. body opened inside.1 >>= λ rest. Some (GroupRecord n inside.0 rest.0, rest.1)) (body (Some n) tail) (rs, rest) e in
    let (after, j, g) = bind_ok (λ rest. Some (GroupRecord n inside.0 rest.0, rest.1)) (body opened inside.1) (rs, rest) f in
    let small' : AreBytes tail = bytes_behind key tail (subst AreBytes whole small) in
    let i : Whole (Some n) tail inside.0 inside.1 = more (Some n) tail inside.0 inside.1 small' m in
    let small'' : AreBytes inside.1 = bytes_behind i.stop inside.1 (bytes_behind i.front (i.stop ++ inside.1) (subst AreBytes i.whole small')) in
    let w : Whole opened inside.1 after.0 after.1 = more opened inside.1 after.0 after.1 small'' j in
    moved_all (same_Some _ _ g) (record {
      front = key ++ (i.front ++ (i.stop ++ w.front));
      stop = w.stop;
      whole = whole ∙ ap (λ l. key ++ l) (i.whole ∙ ap (λ l. i.front ++ l) (ap (λ l. i.stop ++ l) w.whole ∙ sym (append_assoc i.stop w.front (w.stop ++ after.1))) ∙ sym (append_assoc i.front (i.stop ++ w.front) (w.stop ++ after.1)))
          ∙ sym (append_assoc key (i.front ++ (i.stop ++ w.front)) (w.stop ++ after.1));
      spells = (key, i.front, i.stop, w.front, k, i.spells, i.ends, w.spells, refl);
      ends = w.ends;
    })

body_sound : (fuel : ℕ) → AllSound (body_at fuel)
body_sound (suc fuel) None [] rs rest small e = moved_all (same_Some _ _ e) (record { front = []; stop = []; whole = refl; spells = refl; ends = (refl, refl) })
body_sound (suc fuel) opened (b ∷ bytes) rs rest small e =
    let (key, m, f) = bind_ok (λ key. after_key (body_at fuel) opened key.0 key.1 key.2) (key_at (b ∷ bytes)) (rs, rest) e in
    let (front, whole, k) = key_sound (b ∷ bytes) key.0 key.1 key.2 small m in
    step_sound (body_at fuel) opened key.0 key.1 (b ∷ bytes) front key.2 rs rest small whole k f (body_sound fuel)
body_sound _ _ _ rs rest small e = absurd (none-some _ e)

pub read_spells : (bytes : List ℕ) (rs : Records) → AreBytes bytes → read bytes ≡ Some rs → Spells rs bytes
unfolding read
read_spells bytes rs small e =
    let (found, m, f) = bind_ok (λ found. Some found.0) (body_at (suc (length bytes)) None bytes) rs e in
    let w : Whole None bytes found.0 found.1 = body_sound (suc (length bytes)) None bytes found.0 found.1 small m in
    let all : bytes ≡ w.front = w.whole ∙ ap₂ (λ x y. w.front ++ (x ++ y)) w.ends.0 w.ends.1 ∙ append-nil w.front in
    subst (λ x. Spells x bytes) (same_Some _ _ f) (subst (Spells found.0) (sym all) w.spells)
