-- Payloads end to end.
use Rattle.std.specs.Prelude.{◌≡◌, ◌≢◌, ◌<◌, ◌∷◌}
use Rattle.std.proofs.Common.{ℕ, zero, suc, List, [], length, refl, ap, arith}
use Rattle.std.specs.Option.{is_some}
use Rattle.prost_reflect_wire.specs.Front.{PlainFault}
use Rattle.prost_reflect_wire.specs.Fault.{ElementFault, BehindElement}
use Rattle.prost_reflect_wire.specs.declared.key.WireType.{WireType}
use Rattle.prost_reflect_wire.specs.declared.error.DecodeError.{DecodeError}
use Rattle.prost_reflect_laws.proofs.KindsAllowed.{SomePlains, more_plains, plain_shorter, element_fault}
use Rattle.prost_reflect_faults.specs.Searching.{TakesPlain, AreElements}

abbrev Fueled : WireType → List ℕ → Type 0
Fueled w bytes = (fuel : ℕ) → length bytes < fuel → SomePlains fuel w bytes

-- What is found further on is found of the whole body.
pub record Parted (w : WireType) (body rest : List ℕ) : Type 0 where
  pub faults : (e : DecodeError) → ElementFault w e rest → ElementFault w e body
  pub plains : Fueled w rest → Fueled w body

pub element_parted : (w : WireType) (body rest after : List ℕ) → Parted w body rest → rest ≢ [] → TakesPlain w rest after → Parted w body after
element_parted w body rest after x some taken = go rest x some taken
  where
    go : (rest : List ℕ) → Parted w body rest → rest ≢ [] → TakesPlain w rest after → Parted w body after
    go [] x some taken = absurd (some refl)
    go (b ∷ rest) x some taken = record {
      faults = λ e f. x.faults e (BehindElement taken.plain after taken.front taken.wire f);
      plains = λ more. x.plains (fueled more);
    }
      where
        fueled : Fueled w after → Fueled w (b ∷ rest)
        fueled more zero less = absurd (omega arith)
        fueled more (suc fuel) less =
            let shorter : length after < length (b ∷ rest) = plain_shorter taken.plain (b ∷ rest) after taken.front in
            more_plains fuel w b rest (record { plain = taken.plain; rest = after; front = taken.front; wire = taken.wire }) (more fuel (omega (arith, less, shorter)))

pub elements_end : (w : WireType) (body rest : List ℕ) → Parted w body rest → rest ≡ [] → AreElements w body
elements_end w body rest x none = go rest x none
  where
    go : (rest : List ℕ) → Parted w body rest → rest ≡ [] → AreElements w body
    go (b ∷ rest) x e = cc
    go [] x e = let all = x.plains ends (suc (length body)) (omega arith) in ap is_some all.found
      where
        ends : Fueled w []
        ends zero less = absurd (omega arith)
        ends (suc fuel) less = record { plains = []; found = refl }

pub element_refused : (w : WireType) (body rest : List ℕ) → Parted w body rest → rest ≢ [] → (e : DecodeError) → PlainFault e w rest → ElementFault w e body
element_refused w body rest x some e f = go rest x some f
  where
    go : (rest : List ℕ) → Parted w body rest → rest ≢ [] → PlainFault e w rest → ElementFault w e body
    go [] x some f = absurd (some refl)
    go (b ∷ rest) x some f = x.faults e (element_fault w b rest e f)
