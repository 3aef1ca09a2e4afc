-- The numbers of identities and of places. Assumes `Logic`.
use Rattle.std.proofs.Common.{◌≡◌, ℕ, zero, suc, ◌+◌, ◌<◌, ◌⊎◌, inl, inr, List, [], ◌∷◌, refl, ap, arith}
use seplogic.Ra.Ura.{Ura}
use base.Logic.{SProp, ent, sep, via, fst∗, snd∗}
use base.Stored.{Coded, coded_ℕ, coded×}
use native.Mathlib.Decide.{ℕ_discrete}
use Rattle.std.proofs.lemmas.Bool.{cases_order}
use contract.Monad.{fact, fact_mono, conj_i}
use types.Logic.{Logic, sem}
use types.Kit.{Item, Goal, Seq, Soaks, ‵, ◌$◌, move, fsplit}
use types.Tokens.{name_set, name_agree}
use Rattle.prost_reflect_identity.specs.Ownership.{stands_under, lone, triangle, place_number}

pub either_way {κ} : {X : Type κ} {P : Type 0} → Dec P → (P → X) → (¬ P → X) → X
either_way (yes holds) if_so if_not = if_so holds
either_way (no fails) if_so if_not = if_not fails

-- PLACES

triangle_below : (n m : ℕ) → n < m → triangle n + n < triangle m
unfolding triangle
triangle_below n zero below = absurd (omega arith)
triangle_below n (suc m) below =
    let next : triangle (suc m) ≡ triangle m + suc m = refl in
    either_way (ℕ_discrete n m)
    (λ equal. let same : triangle n + n ≡ triangle m + m = ap (λ k. triangle k + k) equal in omega arith)
    (λ differ. let fewer : triangle n + n < triangle m = triangle_below n m (omega arith) in omega arith)

-- places of one number are one
pub one_place : (b o b' o' : ℕ) → place_number b o ≡ place_number b' o' → (b ≡ b') × (o ≡ o')
one_place b o b' o' same = by_order (cases_order (b + o) (b' + o'))
  where
    by_order : (b + o ≡ b' + o') ⊎ ((b + o < b' + o') ⊎ (b' + o' < b + o)) → (b ≡ b') × (o ≡ o')
    by_order (inl sums) = let triangles : triangle (b + o) ≡ triangle (b' + o') = ap triangle sums in (omega arith, omega arith)
    by_order (inr (inl below)) = let fewer = triangle_below (b + o) (b' + o') below in absurd (omega arith)
    by_order (inr (inr above)) = let fewer = triangle_below (b' + o') (b + o) above in absurd (omega arith)

-- IDENTITIES

-- under one number stands one thing
pub one_value : {M : Type 1} {𝓤 : Ura M} (𝓛 : Logic 𝓤) {X : Type 0} (c : Coded X) (number : ℕ) (x y : ℕ × X)
    → ent 𝓤 (sep 𝓤 (sem 𝓛 (stands_under c ((number, x.0), x.1))) (sem 𝓛 (stands_under c ((number, y.0), y.1)))) (fact 𝓤 (x ≡ y))
one_value {𝓤 = 𝓤} 𝓛 c number x y =
    let pairs = coded× coded_ℕ c in
    let first : SProp 𝓤 = sem 𝓛 (stands_under c ((number, x.0), x.1)) in
    let second : SProp 𝓤 = sem 𝓛 (stands_under c ((number, y.0), y.1)) in
    let both = conj_i 𝓤 first second (fst∗ 𝓤 first second) (snd∗ 𝓤 first second) in
    via 𝓤 _ (via 𝓤 _ both (𝓛.names.res_one number (pairs.code x) (pairs.code y))) (fact_mono 𝓤 (pairs.code x ≡ pairs.code y) (x ≡ y) (pairs.inj x y))

module _ {M : Type 1} {𝓤 : Ura M} {𝓛 : Logic 𝓤} {K : Type 0} {Γ : List (Item 𝓤)} {G : Goal 𝓤 𝓛.H} where
  -- a number that is had once is not had twice
  pub never_twice : K → Soaks G → (number : ℕ) → Seq K 𝓛 (‵ (lone number) ∷ ‵ (lone number) ∷ Γ) G
  never_twice t soaks number =
      fsplit t $ name_set t soaks (coded_ℕ.code 1) $ move t (2 ∷ []) $ fsplit t $ move t (2 ∷ 1 ∷ []) $
      name_agree t coded_ℕ (λ (equal : 1 ≡ 0). absurd (omega arith))
