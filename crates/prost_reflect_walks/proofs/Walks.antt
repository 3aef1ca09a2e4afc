-- What holds of each step of a walk holds of what it gives.
use Rattle.std.specs.Prelude.{◌≡◌, ◌∷◌}
use Rattle.prost_reflect_walks.proofs.Common.{ℕ, zero, suc, List, [], Option, Some, Bor, sym, subst, ap, ◌∙◌, Result, IfOk, IfSome, slice_get, AllByRecursion, All, recursion_from_All, AllocError, Global, Ok, Err, GivesNext, places_left, EachGiven, EachTaken, GivesEach, descriptor_steps}
use Rattle.std.specs.Iterator.{Yields}
use Rattle.std.specs.Iterator.Runs.{EachRunFrom, AllItems}
use Rattle.std.specs.Vec.Iter.{into_iter_items, into_iter_steps}
use Rattle.std.specs.declared.vec.IntoIter.{IntoIter}
use Rattle.std.proofs.iter.runs.Made.{took, each}
use Rattle.prost_reflect_walks.specs.declared.descriptors.Placed.{Ghosts}
use Rattle.prost_reflect_walks.specs.declared.descriptors.Descriptors.{Descriptors}

everywhere : {X : Type 0} (P : X → Type 0) (xs : List X) → AllByRecursion P xs → (k : ℕ) → IfSome (slice_get xs k) P
everywhere P [] h k = tt
everywhere P (x ∷ xs) h zero = h.0
everywhere P (x ∷ xs) h (suc k) = everywhere P xs h.1 k

module _ {A S : Type 0} (steps : S → Option A → S → Type 0) (Holds : S → Type 0) (Given : A → Type 0) (one : (s t : S) (x : A) → Holds s → steps s (Some x) t → Given x × Holds t) where
  along : (xs : List A) (s t : S) → Holds s → Yields steps s xs t → AllByRecursion Given xs
  along [] s t h y = tt
  along (x ∷ xs) s t h y = let n : Given x × Holds y.0 = one s y.0 x h y.1 in (n.0, along xs y.0 t n.1 y.2)

  gives_all : (it : S) → Holds it → EachRunFrom steps it (λ p. AllItems p Given)
  gives_all it h p _ is = each p Given (everywhere Given p.items (along p.items p.from (took p).0 (subst Holds (sym is) h) (took p).1))

pub gives : {A S : Type 0} (steps : S → Option (Result A AllocError) → S → Type 0) (Holds : S → Type 0) (Given : A → Type 0) → ((s t : S) (x : Result A AllocError) → Holds s → steps s (Some x) t → IfOk x Given × Holds t) → (it : S) → Holds it
    → EachGiven steps Given it
gives steps Holds Given = gives_all steps Holds (λ r. IfOk r Given)

-- TAKEN LISTS

next_taken : {A : Type 0} (Taken : A → Type 0) (s t : IntoIter A Global) (x : A) → AllByRecursion Taken (into_iter_items s) → into_iter_steps s (Some x) t → Taken x × AllByRecursion Taken (into_iter_items t)
next_taken Taken s t x h g = subst (AllByRecursion Taken) g.0 h

-- what holds of the items of a list holds of each that is taken of it
pub each_taken : {A : Type 0} (Taken : A → Type 0) (it : IntoIter A Global) → All Taken (into_iter_items it) → EachTaken Taken it
each_taken Taken it all = gives_all into_iter_steps (λ s. AllByRecursion Taken (into_iter_items s)) Taken (next_taken Taken) it (recursion_from_All Taken (into_iter_items it) all)

-- DESCRIPTORS

next_given : {P D : Type 0} (stands : P → ℕ → D → Type 0) (At : ℕ → Type 0) (Given : D → Type 0) (parent now : P) → ((i : ℕ) (x : D) → At i → stands parent i x → Given x) → now ≡ parent
    → (old new : List ℕ) (x : Result D AllocError) → AllByRecursion At old → GivesNext (stands now) old (Some x) new → IfOk x Given × AllByRecursion At new
next_given stands At Given parent now one is [] new x h g = absurd g
next_given stands At Given parent now one is (i ∷ old) new (Ok d) h g = (one i d h.0 (subst (λ q. stands q i d) is g.1), subst (AllByRecursion At) (sym g.0) h.1)
next_given stands At Given parent now one is (i ∷ old) new (Err e) h g = (tt, subst (AllByRecursion At) (sym g.0) h.1)

-- of a walk over places that have a property
pub each_given : {P D : Type 0} {g : Ghosts D P} (it : Descriptors P D g) (parent : P) (At : ℕ → Type 0) (Given : D → Type 0) → ((i : ℕ) (x : D) → At i → g.stands parent i x → Given x) → it.parent.now ≡ parent
    → AllByRecursion At (places_left it.places) → GivesEach Given it
each_given {P} {D} {g} it parent At Given one is at =
    gives descriptor_steps (λ (s : Descriptors P D g). (s.parent.now ≡ parent) × AllByRecursion At (places_left s.places)) Given
    (λ s t x h st.
    let n : IfOk x Given × AllByRecursion At (places_left t.places) = next_given g.stands At Given parent s.parent.now one h.0 (places_left s.places) (places_left t.places) x h.1 st.0 in
    (n.0, (ap (λ (b : Bor P). b.now) st.1 ∙ h.0, n.1))) it (is, at)

anywhere : (xs : List ℕ) → AllByRecursion (λ _. Unit {0}) xs
anywhere [] = tt
anywhere (x ∷ xs) = (tt, anywhere xs)

-- and over any places
pub each_stands : {P D : Type 0} {g : Ghosts D P} (it : Descriptors P D g) (parent : P) (Given : D → Type 0) → ((i : ℕ) (x : D) → g.stands parent i x → Given x) → it.parent.now ≡ parent → GivesEach Given it
each_stands it parent Given one is = each_given it parent (λ _. Unit {0}) Given (λ i x u. one i x) is (anywhere (places_left it.places))
