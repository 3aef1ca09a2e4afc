-- What walks over descriptors, and over what a message has, give.
use Rattle.std.specs.Prelude.{◌≡◌, Option, Result, IfOk}
use Rattle.std.specs.Iterator.Runs.{EachRunFrom, AllItems}
use Rattle.std.specs.Vec.Iter.{into_iter_steps}
use Rattle.std.specs.declared.alloc.AllocError.{AllocError}
use Rattle.std.specs.declared.alloc.Global.{Global}
use Rattle.std.specs.declared.vec.IntoIter.{IntoIter}
use Rattle.prost_reflect_walks.specs.Places.{places_left, GivesNext}
use Rattle.prost_reflect_walks.specs.declared.descriptors.Placed.{Ghosts}
use Rattle.prost_reflect_walks.specs.declared.descriptors.Descriptors.{Descriptors}

-- Whatever the list gives, as its items are taken one by one, has the property.
abbrev pub EachTaken : {A : Type 0} → (A → Type 0) → IntoIter A Global → Type 0
EachTaken Taken it = EachRunFrom into_iter_steps it (λ p. AllItems p Taken)

-- Whatever the walk gives has the property; a refusal has none.
abbrev pub EachGiven : {S A : Type 0} → (S → Option (Result A AllocError) → S → Type 0) → (A → Type 0) → S → Type 0
EachGiven steps Given it = EachRunFrom steps it (λ p. AllItems p (λ r. IfOk r Given))

module _ {P D : Type 0} {g : Ghosts D P} where
  -- One call of `next`.
  abbrev pub descriptor_steps : Descriptors P D g → Option (Result D AllocError) → Descriptors P D g → Type 0
  descriptor_steps old given new = GivesNext (g.stands old.parent.now) (places_left old.places) given
      (places_left new.places)
      × (new.parent ≡ old.parent)

  -- Each descriptor that is given has the property.
  abbrev pub GivesEach : (D → Type 0) → Descriptors P D g → Type 0
  GivesEach Given it = EachGiven descriptor_steps Given it
