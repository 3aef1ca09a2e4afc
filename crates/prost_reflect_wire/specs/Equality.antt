-- Equality of records, and of unknown fields by what they store, as tests that decide it.
use Rattle.std.specs.Prelude.{◌≡◌, ℕ, Bool, true, false, ◌&&◌, nat_eq, refl}
use Rattle.std.proofs.Common.{sym, ap, ap₂, ◌∙◌, true≢false}
use Rattle.std.specs.Cmp.{IsPartialEquivalence, partial_equiv_from_equiv, on_per}
use Rattle.std.specs.Cmp.Lexicographic.{pointwise}
use Rattle.std.proofs.lemmas.Bool.{eq-eqb, eqb-true, and_parts, and_from}
use Rattle.prost_reflect_wire.specs.Record.{Plain, Var, Fix64, Len, Fix32, Records, NoRecords, PlainRecord, GroupRecord, Record, record_at, Payload, Flat, Group, body_of}
use Rattle.prost_reflect_wire.specs.declared.unknown.UnknownField.{UnknownField}
use Rattle.prost_reflect_wire.specs.declared.unknown.UnknownFieldSet.{UnknownFieldSet}
use Rattle.prost_reflect_wire.specs.declared.unknown.UnknownFieldValue.{UnknownFieldValue}
use Rattle.prost_reflect_wire.specs.Deciding.{decided, text_decides, equivalence}
use Rattle.prost_reflect_wire.specs.Unknown.{payload_of, unknown_record, records_of}

abbrev pub plain_eq : Plain → Plain → Bool
plain_eq (Var v) (Var w) = nat_eq v w
plain_eq (Fix64 x) (Fix64 y) = pointwise nat_eq x y
plain_eq (Len x) (Len y) = pointwise nat_eq x y
plain_eq (Fix32 x) (Fix32 y) = pointwise nat_eq x y
plain_eq p q = false

abbrev pub records_eq : Records → Records → Bool
records_eq NoRecords NoRecords = true
records_eq (PlainRecord n p rs) (PlainRecord m q qs) = nat_eq n m && (plain_eq p q && records_eq rs qs)
records_eq (GroupRecord n i rs) (GroupRecord m j qs) = nat_eq n m && (records_eq i j && records_eq rs qs)
records_eq rs qs = false

abbrev pub payload_eq : Payload → Payload → Bool
payload_eq (Flat p) (Flat q) = plain_eq p q
payload_eq (Group i) (Group j) = records_eq i j
payload_eq p q = false

abbrev pub record_eq : Record → Record → Bool
record_eq r s = nat_eq r.number s.number && payload_eq r.payload s.payload

-- Of fields, values and sets: where what is stored is equal.
abbrev pub field_eq : UnknownField → UnknownField → Bool
field_eq f g = record_eq (unknown_record f) (unknown_record g)

abbrev pub value_eq : UnknownFieldValue → UnknownFieldValue → Bool
value_eq v w = payload_eq (payload_of v) (payload_of w)

abbrev pub set_eq : UnknownFieldSet → UnknownFieldSet → Bool
set_eq s t = records_eq (body_of (records_of s)) (body_of (records_of t))

-- RECORDS

plain_same : (p q : Plain) → plain_eq p q ≡ true → p ≡ q
plain_same (Var v) (Var w) h = ap Var (eqb-true v w h)
plain_same (Fix64 x) (Fix64 y) h = ap Fix64 ((text_decides x y).0 h)
plain_same (Len x) (Len y) h = ap Len ((text_decides x y).0 h)
plain_same (Fix32 x) (Fix32 y) h = ap Fix32 ((text_decides x y).0 h)
plain_same p q h = absurd (true≢false (sym h))

plain_refl : (p : Plain) → plain_eq p p ≡ true
plain_refl (Var v) = eq-eqb v v refl
plain_refl (Fix64 x) = (text_decides x x).1 refl
plain_refl (Len x) = (text_decides x x).1 refl
plain_refl (Fix32 x) = (text_decides x x).1 refl

pub records_same : (rs qs : Records) → records_eq rs qs ≡ true → rs ≡ qs
records_same NoRecords NoRecords h = refl
records_same (PlainRecord n p rs) (PlainRecord m q qs) h =
    let (a, b) = and_parts (nat_eq n m) (plain_eq p q && records_eq rs qs) h in
    let (c, d) = and_parts (plain_eq p q) (records_eq rs qs) b in
    ap₂ (λ (k : ℕ) (x : Plain). PlainRecord k x rs) (eqb-true n m a) (plain_same p q c) ∙ ap (PlainRecord m q) (records_same rs qs d)
records_same (GroupRecord n i rs) (GroupRecord m j qs) h =
    let (a, b) = and_parts (nat_eq n m) (records_eq i j && records_eq rs qs) h in
    let (c, d) = and_parts (records_eq i j) (records_eq rs qs) b in
    ap₂ (λ (k : ℕ) (x : Records). GroupRecord k x rs) (eqb-true n m a) (records_same i j c) ∙ ap (GroupRecord m j) (records_same rs qs d)
records_same rs qs h = absurd (true≢false (sym h))

pub records_refl : (rs : Records) → records_eq rs rs ≡ true
records_refl NoRecords = refl
records_refl (PlainRecord n p rs) = and_from _ _ (eq-eqb n n refl) (and_from _ _ (plain_refl p) (records_refl rs))
records_refl (GroupRecord n i rs) = and_from _ _ (eq-eqb n n refl) (and_from _ _ (records_refl i) (records_refl rs))

pub payload_same : (p q : Payload) → payload_eq p q ≡ true → p ≡ q
payload_same (Flat p) (Flat q) h = ap Flat (plain_same p q h)
payload_same (Group i) (Group j) h = ap Group (records_same i j h)
payload_same p q h = absurd (true≢false (sym h))

pub payload_refl : (p : Payload) → payload_eq p p ≡ true
payload_refl (Flat p) = plain_refl p
payload_refl (Group i) = records_refl i

pub record_same : (r s : Record) → record_eq r s ≡ true → r ≡ s
record_same r s h =
    let (a, b) = and_parts (nat_eq r.number s.number) (payload_eq r.payload s.payload) h in
    ap₂ record_at (eqb-true r.number s.number a) (payload_same r.payload s.payload b)

pub record_refl : (r : Record) → record_eq r r ≡ true
record_refl r = and_from _ _ (eq-eqb r.number r.number refl) (payload_refl r.payload)

-- LAWS

pub field_eq_laws : IsPartialEquivalence field_eq
field_eq_laws = on_per unknown_record (partial_equiv_from_equiv (equivalence record_eq (decided record_eq record_same record_refl)))

pub value_eq_laws : IsPartialEquivalence value_eq
value_eq_laws = on_per payload_of (partial_equiv_from_equiv (equivalence payload_eq (decided payload_eq payload_same payload_refl)))

pub set_eq_laws : IsPartialEquivalence set_eq
set_eq_laws = on_per (λ s. body_of (records_of s)) (partial_equiv_from_equiv (equivalence records_eq (decided records_eq records_same records_refl)))
