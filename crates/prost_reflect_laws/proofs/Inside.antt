-- The records in payloads that have a spelling: they have one too, and joined they are allowed where each is.
use Rattle.std.specs.Prelude.{◌≡◌, ◌∷◌, ◌++◌}
use Rattle.prost_reflect_laws.proofs.Common.{ℕ, true, List, [], refl, ap, sym, ◌∙◌, true≢false, append-nil, list_all, eqb-true, and_parts, Record, Payload, body_of, payload_valid, valid, Kind, ScalarOf, MessageOf, GroupOf, passes, AllowsInside, body, records_in, one_allowed, is_len, is_group_payload, joined, is_of_type, passes_in}
use Rattle.prost_reflect_laws.proofs.Readable.{inside_spelled, append_valid}

-- VALID

pub joined_valid : (ps : List Payload) → list_all payload_valid ps ≡ true → valid (body_of (joined ps)) ≡ true
joined_valid [] h = refl
joined_valid (p ∷ ps) h =
    let (one, more) = and_parts (payload_valid p) (list_all payload_valid ps) h in
    append_valid (records_in p) (joined ps) (inside_spelled p one) (joined_valid ps more)

-- ALLOWED

-- records that are allowed are allowed joined
abbrev pub Joinable : AllowsInside → Type 0
Joinable inner = (T : ℕ) (xs ys : List Record) → inner T xs ≡ true → inner T ys ≡ true → inner T (xs ++ ys) ≡ true

pub message_inside : (inner : AllowsInside) (kind : Kind) (T : ℕ) (p : Payload) → is_of_type kind T ≡ true → one_allowed inner kind p ≡ true → inner T (records_in p) ≡ true
message_inside inner (ScalarOf kind) T p n h = absurd (true≢false (sym n))
message_inside inner (MessageOf U) T p n h = ap (λ (t : ℕ). inner t (records_in p)) (eqb-true T U n) ∙ passes_in p (inner U) (and_parts (is_len p) (passes (body p) (inner U)) h).1
message_inside inner (GroupOf U) T p n h = ap (λ (t : ℕ). inner t (records_in p)) (eqb-true T U n) ∙ passes_in p (inner U) (and_parts (is_group_payload p) (passes (body p) (inner U)) h).1

pub joined_allowed : (inner : AllowsInside) (kind : Kind) (T : ℕ) (p : Payload) (ps : List Payload) → Joinable inner → is_of_type kind T ≡ true → list_all (one_allowed inner kind) (p ∷ ps) ≡ true → inner T (joined (p ∷ ps)) ≡ true
joined_allowed inner kind T p [] j n h =
    ap (inner T) (append-nil (records_in p)) ∙ message_inside inner kind T p n (and_parts (one_allowed inner kind p) true h).0
joined_allowed inner kind T p (q ∷ ps) j n h =
    let (one, more) = and_parts (one_allowed inner kind p) (list_all (one_allowed inner kind) (q ∷ ps)) h in
    j T (records_in p) (joined (q ∷ ps)) (message_inside inner kind T p n one) (joined_allowed inner kind T q ps j n more)
