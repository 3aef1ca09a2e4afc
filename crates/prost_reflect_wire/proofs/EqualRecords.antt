-- Equality of records, one by one.
use Rattle.std.specs.Prelude.{◌≡◌, ◌↔◌, ◌+◌, ◌<◌, ◌&&◌, ◌∷◌}
use Rattle.prost_reflect_wire.proofs.Common.{ℕ, Bool, true, false, List, length, get_or, drop, map, nat_eq, IsTrue, refl, sym, ap, ap₂, ◌∙◌, add-one, drop-cons, length-map, Records, Record, record_at, Payload, Flat, Group, body_of, before, items, unknown_record, records_of, unknown_fields_of, plain_eq, records_eq, records_same, records_refl, payload_eq, record_eq, field_eq, set_eq}
use Rattle.prost_reflect_wire.specs.declared.unknown.UnknownField.{UnknownField}
use Rattle.prost_reflect_wire.specs.declared.unknown.UnknownFieldSet.{UnknownFieldSet}
use Rattle.prost_reflect_wire.proofs.Bodies.{items_body}
use Rattle.prost_reflect_wire.proofs.UnknownViews.{records_of_out}

pub decided : {K : Type 0} (E : K → K → Bool) → ((x y : K) → E x y ≡ true → x ≡ y) → ((x : K) → E x x ≡ true) → (x y : K) (b : Bool) → b ≡ E x y → IsTrue b ↔ (x ≡ y)
decided {K} E same itself x y b is = (λ yes. same x y (sym is ∙ yes), λ e. is ∙ ap (λ (z : K). E x z) (sym e) ∙ itself x)

-- FROM THE FIRST ON

and_assoc : (a b c : Bool) → (a && (b && c)) ≡ ((a && b) && c)
and_assoc true b c = refl
and_assoc false b c = refl

and_false : (a b : Bool) → false ≡ ((a && false) && b)
and_false true b = refl
and_false false b = refl

first_eq : (r s : Record) (rs qs : Records) → records_eq (before r rs) (before s qs) ≡ (record_eq r s && records_eq rs qs)
first_eq r s rs qs = go r.payload s.payload
  where
    go : (p q : Payload) → records_eq (before (record_at r.number p) rs) (before (record_at s.number q) qs) ≡ ((nat_eq r.number s.number && payload_eq p q) && records_eq rs qs)
    go (Flat p) (Flat q) = and_assoc (nat_eq r.number s.number) (plain_eq p q) (records_eq rs qs)
    go (Flat p) (Group j) = and_false (nat_eq r.number s.number) (records_eq rs qs)
    go (Group i) (Flat q) = and_false (nat_eq r.number s.number) (records_eq rs qs)
    go (Group i) (Group j) = and_assoc (nat_eq r.number s.number) (records_eq i j) (records_eq rs qs)

abbrev Left : List UnknownField → ℕ → Records
Left fs i = body_of (map unknown_record (drop i fs))

-- fields that are equal may be left out
pub equal_step : (fs gs : List UnknownField) (i : ℕ) (f g : UnknownField) → i < length fs → i < length gs → f ≡ get_or fs i f → g ≡ get_or gs i g → field_eq f g ≡ true
    → records_eq (Left fs (i + 1)) (Left gs (i + 1)) ≡ records_eq (Left fs i) (Left gs i)
equal_step fs gs i f g la lb isf isg same =
    let cuta : drop i fs ≡ f ∷ drop (i + 1) fs = rw (add-one, drop-cons fs i f, ← isf) refl in
    let cutb : drop i gs ≡ g ∷ drop (i + 1) gs = rw (add-one, drop-cons gs i g, ← isg) refl in
    sym (ap₂ (λ (xs ys : List UnknownField). records_eq (body_of (map unknown_record xs)) (body_of (map unknown_record ys))) cuta cutb
    ∙ first_eq (unknown_record f) (unknown_record g) (Left fs (i + 1)) (Left gs (i + 1)) ∙ ap (λ b. b && records_eq (Left fs (i + 1)) (Left gs (i + 1))) same)

-- sets of different lengths differ
pub lengths_differ : (s t : UnknownFieldSet) → (length (unknown_fields_of s) ≡ length (unknown_fields_of t) → ⊥) → false ≡ set_eq s t
lengths_differ s t other = go (set_eq s t) refl
  where
    lengths : set_eq s t ≡ true → length (unknown_fields_of s) ≡ length (unknown_fields_of t)
    lengths h =
        let same : records_of s ≡ records_of t = sym (items_body (records_of s)) ∙ ap items (records_same (body_of (records_of s)) (body_of (records_of t)) h) ∙ items_body (records_of t) in
        sym (length-map (unknown_fields_of s) unknown_record) ∙ ap length (sym (records_of_out s) ∙ same ∙ records_of_out t) ∙ length-map (unknown_fields_of t) unknown_record

    go : (b : Bool) → set_eq s t ≡ b → false ≡ b
    go true is = absurd (other (lengths is))
    go false is = refl

pub sets_decided : (s t : UnknownFieldSet) (b : Bool) → b ≡ set_eq s t → IsTrue b ↔ (records_of s ≡ records_of t)
sets_decided s t b is =
    let both = decided records_eq records_same records_refl (body_of (records_of s)) (body_of (records_of t)) b is in
    (λ yes. sym (items_body (records_of s)) ∙ ap items (both.0 yes) ∙ items_body (records_of t), λ e. both.1 (ap body_of e))
