-- Records at the front of bytes, one behind another.
use Rattle.std.specs.Prelude.{◌≡◌, ◌<◌, ◌≤◌, ◌∷◌, ◌++◌}
use Rattle.prost_reflect_wire.proofs.Common.{ℕ, suc, max, List, [], length, refl, sym, ap, subst, ◌∙◌, arith, append_assoc, append-nil, length-append, Option, Some, WireType, Plain, Var, Fix64, Len, Fix32, Records, NoRecords, Record, record_at, Payload, Flat, Group, before, body_of, Spells, plain_wire, payload_wire, raw_levels, payload_levels, body_at, KeyFront, RecordsFront, RecordFront, GroupFront, PayloadFront, ValueFront, FieldFront}
use Rattle.prost_reflect_wire.specs.declared.key.WireType.TheVariants as wires
use Rattle.prost_reflect_wire.proofs.Reading.{some_key, closes_group, body_read}
use Rattle.prost_reflect_wire.proofs.KeyFronts.{key_once}
use Rattle.prost_reflect_wire.proofs.PlainFronts.{plain_once}

-- ONE RECORD

-- a key and what it says
pub record_front : (n : ℕ) (p : Payload) (bytes mid rest : List ℕ) → KeyFront n (payload_wire p) bytes mid → PayloadFront n p mid rest → RecordFront (record_at n p) bytes rest
record_front n (Flat p) bytes mid rest k f = record {
  front = k.front ++ f.front;
  spelled = (k.front, f.front, [], k.key, f.spelled, refl, ap (λ (l : List ℕ). k.front ++ l) (sym (append-nil f.front)));
  parts = k.parts ∙ ap (λ (l : List ℕ). k.front ++ l) f.parts ∙ sym (append_assoc k.front f.front rest);
}
record_front n (Group inside) bytes mid rest k f = record {
  front = k.front ++ (f.records.front ++ f.stop.front);
  spelled = (k.front, f.records.front, f.stop.front, [], k.key, f.records.spelled, f.stop.key, refl, ap (λ (l : List ℕ). k.front ++ (f.records.front ++ l)) (sym (append-nil f.stop.front)));
  parts = k.parts ∙ ap (λ (l : List ℕ). k.front ++ l) (f.records.parts ∙ ap (λ (l : List ℕ). f.records.front ++ l) f.stop.parts ∙ sym (append_assoc f.records.front f.stop.front rest))
      ∙ sym (append_assoc k.front (f.records.front ++ f.stop.front) rest);
}

pub record RecordParts (n : ℕ) (p : Payload) (bytes rest : List ℕ) : Type 0 where
  pub mid : List ℕ
  pub key : KeyFront n (payload_wire p) bytes mid
  pub payload : PayloadFront n p mid rest

pub record_parts : (n : ℕ) (p : Payload) (bytes rest : List ℕ) → RecordFront (record_at n p) bytes rest → RecordParts n p bytes rest
record_parts n (Flat p) bytes rest f =
    let (key, body, after, k, b, none, whole) = f.spelled in
    let all : bytes ≡ key ++ (body ++ rest) = f.parts ∙ ap (λ (l : List ℕ). l ++ rest) (whole ∙ ap (λ (l : List ℕ). key ++ (body ++ l)) none ∙ ap (λ (l : List ℕ). key ++ l) (append-nil body)) ∙ append_assoc key body rest in
    record { mid = body ++ rest; key = record { front = key; key = k; parts = all }; payload = record { front = body; spelled = b; parts = refl } }
record_parts n (Group inside) bytes rest f =
    let (key, body, stop, after, k, b, s, none, whole) = f.spelled in
    let all : bytes ≡ key ++ (body ++ (stop ++ rest)) =
    f.parts ∙ ap (λ (l : List ℕ). l ++ rest) (whole ∙ ap (λ (l : List ℕ). key ++ (body ++ (stop ++ l))) none ∙ ap (λ (l : List ℕ). key ++ (body ++ l)) (append-nil stop)) ∙ append_assoc key (body ++ stop) rest
    ∙ ap (λ (l : List ℕ). key ++ l) (append_assoc body stop rest) in
    record {
      mid = body ++ (stop ++ rest);
      key = record { front = key; key = k; parts = all };
      payload = record { end = stop ++ rest; records = record { front = body; spelled = b; parts = refl }; stop = record { front = stop; key = s; parts = refl } };
    }

-- RECORDS

pub none_front : (bytes : List ℕ) → RecordsFront NoRecords bytes bytes
none_front bytes = record { front = []; spelled = refl; parts = refl }

-- a record and those behind it
spells_first : (n : ℕ) (p : Payload) (rs : Records) (one after : List ℕ) → Spells (before (record_at n p) NoRecords) one → Spells rs after → Spells (before (record_at n p) rs) (one ++ after)
spells_first n (Flat p) rs one after (key, body, none, k, b, e, whole) s = (key, body, after, k, b, s, rw (whole, e) (simp (append-nil, append_assoc)))
spells_first n (Group inside) rs one after (key, body, stop, none, k, b, t, e, whole) s = (key, body, stop, after, k, b, t, s, rw (whole, e) (simp (append-nil, append_assoc)))

record FirstParts (n : ℕ) (p : Payload) (rs : Records) (bytes : List ℕ) : Type 0 where
  one : List ℕ
  after : List ℕ
  first : Spells (before (record_at n p) NoRecords) one
  others : Spells rs after
  parts : bytes ≡ one ++ after

spells_parts : (n : ℕ) (p : Payload) (rs : Records) (bytes : List ℕ) → Spells (before (record_at n p) rs) bytes → FirstParts n p rs bytes
spells_parts n (Flat p) rs bytes (key, body, after, k, b, s, whole) = record {
  one = key ++ body;
  after = after;
  first = (key, body, [], k, b, refl, simp append-nil);
  others = s;
  parts = whole ∙ sym (append_assoc key body after);
}
spells_parts n (Group inside) rs bytes (key, body, stop, after, k, b, t, s, whole) = record {
  one = key ++ (body ++ stop);
  after = after;
  first = (key, body, stop, [], k, b, t, refl, simp append-nil);
  others = s;
  parts = rw whole (simp append_assoc);
}

pub first_front : (r : Record) (rs : Records) (bytes mid rest : List ℕ) → RecordFront r bytes mid → RecordsFront rs mid rest → RecordsFront (before r rs) bytes rest
first_front r rs bytes mid rest f g = record {
  front = f.front ++ g.front;
  spelled = spells_first r.number r.payload rs f.front g.front f.spelled g.spelled;
  parts = f.parts ∙ ap (λ (l : List ℕ). f.front ++ l) g.parts ∙ sym (append_assoc f.front g.front rest);
}

pub record FrontParts (r : Record) (rs : Records) (bytes rest : List ℕ) : Type 0 where
  pub mid : List ℕ
  pub first : RecordFront r bytes mid
  pub others : RecordsFront rs mid rest

pub first_parts : (r : Record) (rs : Records) (bytes rest : List ℕ) → RecordsFront (before r rs) bytes rest → FrontParts r rs bytes rest
first_parts r rs bytes rest f =
    let g = spells_parts r.number r.payload rs f.front f.spelled in
    record {
      mid = g.after ++ rest;
      first = record { front = g.one; spelled = g.first; parts = f.parts ∙ ap (λ (l : List ℕ). l ++ rest) g.parts ∙ append_assoc g.one g.after rest };
      others = record { front = g.after; spelled = g.others; parts = refl };
    }

-- one more at the end
pub last_front : (rs : List Record) (r : Record) (bytes mid rest : List ℕ) → RecordsFront (body_of rs) bytes mid → RecordFront r mid rest → RecordsFront (body_of (rs ++ r ∷ [])) bytes rest
last_front [] r bytes mid rest f g =
    let same : bytes ≡ mid = f.parts ∙ ap (λ (l : List ℕ). l ++ mid) f.spelled in
    first_front r NoRecords bytes rest rest (subst (λ (l : List ℕ). RecordFront r l rest) (sym same) g) (none_front rest)
last_front (q ∷ rs) r bytes mid rest f g = let h = first_parts q (body_of rs) bytes mid f in first_front q (body_of (rs ++ r ∷ [])) bytes h.mid rest h.first (last_front rs r h.mid mid rest h.others g)

pub levels_first : (r : Record) (rs : Records) → raw_levels (before r rs) ≡ max (payload_levels r.payload) (raw_levels rs)
levels_first r rs = go r.payload
  where
    go : (p : Payload) → raw_levels (before (record_at r.number p) rs) ≡ max (payload_levels p) (raw_levels rs)
    go (Flat p) = omega arith
    go (Group inside) = refl

pub levels_last : (rs : List Record) (r : Record) (levels : ℕ) → raw_levels (body_of rs) < levels → payload_levels r.payload < levels → raw_levels (body_of (rs ++ r ∷ [])) < levels
levels_last [] r levels h g = omega (arith, levels_first r NoRecords)
levels_last (q ∷ rs) r levels h g =
    let first = levels_first q (body_of rs) in
    omega (arith, levels_first q (body_of (rs ++ r ∷ [])), first, levels_last rs r levels (omega arith) g)

-- LENGTHS

-- a key takes a byte at least
pub key_shorter : (n : ℕ) (w : WireType) (bytes rest : List ℕ) → KeyFront n w bytes rest → length rest < length bytes
key_shorter n w bytes rest k = rw k.parts (omega (arith, some_key k.front k.key, length-append k.front rest))

pub payload_no_longer : (n : ℕ) (p : Payload) (bytes rest : List ℕ) → PayloadFront n p bytes rest → length rest ≤ length bytes
payload_no_longer n (Flat p) bytes rest f = rw f.parts (omega (arith, length-append f.front rest))
payload_no_longer n (Group inside) bytes rest f = omega (arith, ap length f.records.parts, length-append f.records.front f.end, ap length f.stop.parts, length-append f.stop.front rest)

-- ONE READING

abbrev Found : Type 0
Found = Option (Records × List ℕ)

abbrev found : Records → List ℕ → Found
found rs rest = Some (rs, rest)

group_read : (n : ℕ) (inside : Records) (bytes rest : List ℕ) → GroupFront n inside bytes rest → body_at (suc (length bytes)) (Some n) bytes ≡ found inside rest
group_read n inside bytes rest f =
    let whole : bytes ≡ f.records.front ++ (f.stop.front ++ rest) = f.records.parts ∙ ap (λ (l : List ℕ). f.records.front ++ l) f.stop.parts in
    ap (body_at (suc (length bytes)) (Some n)) whole
    ∙ body_read inside f.records.front (f.stop.front ++ rest) rest (Some n) f.records.spelled (closes_group n f.stop.front rest f.stop.key) (suc (length bytes)) (omega (arith, ap length whole))

pub group_once : (n : ℕ) (rs qs : Records) (bytes rest end : List ℕ) → GroupFront n rs bytes rest → GroupFront n qs bytes end → (rs ≡ qs) × (rest ≡ end)
group_once n rs qs bytes rest end f g =
    let e : found rs rest ≡ found qs end = sym (group_read n rs bytes rest f) ∙ group_read n qs bytes end g in
    let both : ◌≡◌ {A = Records × List ℕ} (rs, rest) (qs, end) = cc in
    (ap (λ (x : Records × List ℕ). x.0) both, ap (λ (x : Records × List ℕ). x.1) both)

pub plain_no_group : (p : Plain) → plain_wire p ≡ wires.StartGroup → ⊥
plain_no_group (Var v) e = cc
plain_no_group (Fix64 v) e = cc
plain_no_group (Len v) e = cc
plain_no_group (Fix32 v) e = cc

pub payload_once : (n : ℕ) (p q : Payload) (bytes rest end : List ℕ) → payload_wire p ≡ payload_wire q → PayloadFront n p bytes rest → PayloadFront n q bytes end → (p ≡ q) × (rest ≡ end)
payload_once n (Flat p) (Flat q) bytes rest end same f g = let (e, behind) = plain_once p q bytes rest end same f g in (ap Flat e, behind)
payload_once n (Flat p) (Group qs) bytes rest end same f g = absurd (plain_no_group p same)
payload_once n (Group rs) (Flat q) bytes rest end same f g = absurd (plain_no_group q (sym same))
payload_once n (Group rs) (Group qs) bytes rest end same f g = let (e, behind) = group_once n rs qs bytes rest end f g in (ap Group e, behind)

pub record_once : (n m : ℕ) (p q : Payload) (bytes rest end : List ℕ) → RecordFront (record_at n p) bytes rest → RecordFront (record_at m q) bytes end → (n ≡ m) × (p ≡ q) × (rest ≡ end)
record_once n m p q bytes rest end f g =
    let a = record_parts n p bytes rest f in
    let b = record_parts m q bytes end g in
    let (number, wire, mid) = key_once n m (payload_wire p) (payload_wire q) bytes a.mid b.mid a.key b.key in
    let moved : PayloadFront n q a.mid end = subst (λ (l : List ℕ). PayloadFront n q l end) (sym mid) (subst (λ (i : ℕ). PayloadFront i q b.mid end) (sym number) b.payload) in
    let (payload, behind) = payload_once n p q a.mid rest end wire a.payload moved in
    (number, payload, behind)

-- WITHIN LEVELS

pub field_front : (n : ℕ) (w : WireType) (levels : ℕ) (p : Payload) (bytes mid rest : List ℕ) → KeyFront n w bytes mid → ValueFront n w levels p mid rest → FieldFront levels (record_at n p) bytes rest
field_front n w levels p bytes mid rest k v =
    record { front = record_front n p bytes mid rest (subst (λ x. KeyFront n x bytes mid) (sym v.wire) k) v.front; within = v.within }

pub field_once : (levels : ℕ) (r s : Record) (bytes rest end : List ℕ) → FieldFront levels r bytes rest → FieldFront levels s bytes end → (r ≡ s) × (rest ≡ end)
field_once levels r s bytes rest end f g =
    let (number, payload, behind) = record_once r.number s.number r.payload s.payload bytes rest end f.front g.front in
    (ap (λ (n : ℕ). record_at n r.payload) number ∙ ap (record_at s.number) payload, behind)

pub value_once : (n : ℕ) (w : WireType) (levels : ℕ) (p q : Payload) (bytes rest end : List ℕ) → ValueFront n w levels p bytes rest → ValueFront n w levels q bytes end → (p ≡ q) × (rest ≡ end)
value_once n w levels p q bytes rest end f g = payload_once n p q bytes rest end (f.wire ∙ sym g.wire) f.front g.front

-- A record at the front that nests deeper than the levels is no field within them.
pub too_deep : (levels : ℕ) (r s : Record) (bytes rest end : List ℕ) → RecordFront r bytes rest → levels < payload_levels r.payload → FieldFront levels s bytes end → ⊥
too_deep levels r s bytes rest end f deep g = let (number, payload, behind) = record_once r.number s.number r.payload s.payload bytes rest end f g.front in omega (arith, ap payload_levels payload, g.within)

pub value_too_deep : (n : ℕ) (w : WireType) (levels : ℕ) (p q : Payload) (bytes rest end : List ℕ) → payload_wire p ≡ w → PayloadFront n p bytes rest → levels < payload_levels p → ValueFront n w levels q bytes end → ⊥
value_too_deep n w levels p q bytes rest end wire f deep g = let (payload, behind) = payload_once n p q bytes rest end (wire ∙ sym g.wire) f g.front in omega (arith, ap payload_levels payload, g.within)
