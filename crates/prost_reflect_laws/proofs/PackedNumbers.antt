-- Payloads of one wire type, one behind another in bytes.
use Rattle.std.specs.Prelude.{◌≡◌, ◌+◌, ◌-◌, ◌≤◌, ◌∷◌, ◌++◌}
use Rattle.prost_reflect_laws.proofs.Common.{ℕ, zero, suc, List, [], length, Option, Some, refl, sym, ap, subst, ◌∙◌, arith, none-some, DecodeError, WireType, ◌>>=◌, Plain, plain_wire, plain_at, ScalarKind, kind_wire, plains_within, unpacked, PlainFront, ElementFault, BehindElement, plain_read, bind_ok}
use Rattle.prost_reflect_laws.proofs.KindsAllowed.{plain_shorter}

-- the payloads stand in front of the rest
abbrev pub PlainsFront : WireType → List Plain → List ℕ → List ℕ → Type 0
PlainsFront w [] bytes rest = bytes ≡ rest
PlainsFront w (p ∷ ps) bytes rest = (mid : List ℕ) × PlainFront p bytes mid × (plain_wire p ≡ w) × PlainsFront w ps mid rest

-- one more behind them
pub plains_more : (w : WireType) (ps : List Plain) (p : Plain) (bytes mid rest : List ℕ) → PlainsFront w ps bytes mid → PlainFront p mid rest → plain_wire p ≡ w → PlainsFront w (ps ++ p ∷ []) bytes rest
plains_more w [] p bytes mid rest f g is = (rest, subst (λ (l : List ℕ). PlainFront p l rest) (sym f) g, is, refl)
plains_more w (q ∷ ps) p bytes mid rest (first, front, own, f) g is = (first, front, own, plains_more w ps p first mid rest f g is)

-- a fault behind them is one among them
pub fault_behind : (w : WireType) (e : DecodeError) (ps : List Plain) (bytes rest : List ℕ) → PlainsFront w ps bytes rest → ElementFault w e rest → ElementFault w e bytes
fault_behind w e [] bytes rest f fault = subst (λ (l : List ℕ). ElementFault w e l) (sym f) fault
fault_behind w e (p ∷ ps) bytes rest (mid, front, own, f) fault = BehindElement p mid front own (fault_behind w e ps mid rest f fault)

no_more_plains : (w : WireType) (ps : List Plain) (bytes rest : List ℕ) → PlainsFront w ps bytes rest → length ps + length rest ≤ length bytes
no_more_plains w [] bytes rest f = omega (arith, ap length f)
no_more_plains w (p ∷ ps) bytes rest (mid, front, own, f) = omega (arith, plain_shorter p bytes mid front, no_more_plains w ps mid rest f)

first_plain : (w : WireType) (fuel : ℕ) (p : Plain) (bytes mid : List ℕ) (qs : List Plain) → PlainFront p bytes mid → plain_wire p ≡ w → plains_within fuel w mid ≡ Some qs → plains_within (suc fuel) w bytes ≡ Some (p ∷ qs)
first_plain w fuel p [] mid qs front own h = absurd (let less = plain_shorter p [] mid front in omega arith)
first_plain w fuel p (b ∷ bytes) mid qs front own h =
    ap (λ (o : Option (Plain × List ℕ)). o >>= λ x. plains_within fuel w x.1 >>= λ rest. Some (x.0 ∷ rest))
    (ap (λ v. plain_at v (b ∷ bytes)) (sym own) ∙ ap (plain_at (plain_wire p)) front.parts ∙ plain_read p front.front mid front.spelled)
    ∙ ap (λ (o : Option (List Plain)). o >>= λ rest. Some (p ∷ rest)) h

all_plains : (w : WireType) (ps : List Plain) (bytes : List ℕ) → PlainsFront w ps bytes [] → plains_within (suc (length ps)) w bytes ≡ Some ps
all_plains w [] bytes f = ap (plains_within 1 w) f
all_plains w (p ∷ ps) bytes (mid, front, own, f) = first_plain w (suc (length ps)) p bytes mid ps front own (all_plains w ps mid f)

-- more fuel reads the same
more_fuel : (w : WireType) (fuel : ℕ) (bytes : List ℕ) (ps : List Plain) → plains_within fuel w bytes ≡ Some ps → plains_within (suc fuel) w bytes ≡ Some ps
more_fuel w zero bytes ps h = absurd (none-some _ h)
more_fuel w (suc fuel) [] ps h = h
more_fuel w (suc fuel) (b ∷ bytes) ps h =
    let (p, m, g) = bind_ok (λ p. plains_within fuel w p.1 >>= λ rest. Some (p.0 ∷ rest)) (plain_at w (b ∷ bytes)) ps h in
    let (qs, n, whole) = bind_ok (λ rest. Some (p.0 ∷ rest)) (plains_within fuel w p.1) ps g in
    ap (λ (o : Option (Plain × List ℕ)). o >>= λ x. plains_within (suc fuel) w x.1 >>= λ rest. Some (x.0 ∷ rest)) m
    ∙ ap (λ (o : Option (List Plain)). o >>= λ rest. Some (p.0 ∷ rest)) (more_fuel w fuel p.1 qs n)
    ∙ whole

enough_fuel : (w : WireType) (more fuel : ℕ) (bytes : List ℕ) (ps : List Plain) → plains_within fuel w bytes ≡ Some ps → plains_within (more + fuel) w bytes ≡ Some ps
enough_fuel w zero fuel bytes ps h = let e : zero + fuel ≡ fuel = omega arith in ap (λ (k : ℕ). plains_within k w bytes) e ∙ h
enough_fuel w (suc more) fuel bytes ps h =
    let e : suc more + fuel ≡ suc (more + fuel) = omega arith in
    ap (λ (k : ℕ). plains_within k w bytes) e ∙ more_fuel w (more + fuel) bytes ps (enough_fuel w more fuel bytes ps h)

-- payloads up to the end are what the packed record has
pub plains_unpacked : (kind : ScalarKind) (ps : List Plain) (bytes : List ℕ) → PlainsFront (kind_wire kind) ps bytes [] → unpacked kind bytes ≡ Some ps
unfolding unpacked
plains_unpacked kind ps bytes f =
    let few = no_more_plains (kind_wire kind) ps bytes [] f in
    let e : suc (length bytes) ≡ (length bytes - length ps) + suc (length ps) = omega arith in
    ap (λ (k : ℕ). plains_within k (kind_wire kind) bytes) e
    ∙ enough_fuel (kind_wire kind) (length bytes - length ps) (suc (length ps)) bytes ps (all_plains (kind_wire kind) ps bytes f)
