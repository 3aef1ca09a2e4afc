-- How deep values nest: the depth of a value is `size-Value`, that of a message `size-DynamicMessage`.
use Rattle.std.specs.Prelude.{◌≡◌, ◌<◌, ◌≤◌, ℕ, true, Option, Result}
use Rattle.std.specs.Borrow.{Bor}
use Rattle.std.specs.Cow.{cow_value, IsBorrowed}
use Rattle.std.specs.declared.alloc.AllocError.{AllocError}
use Rattle.std.specs.declared.borrow.Cow.{Cow}
use Rattle.prost_reflect_wire.specs.Schema.{passes}
use Rattle.prost_reflect_dynamic.specs.Access.{has_at, left_if}
use Rattle.prost_reflect_dynamic.specs.View.{content_of}
use Rattle.prost_reflect_walks.specs.Walks.{EachGiven}
use Rattle.prost_reflect_dynamic.specs.declared.message.DynamicMessage.{DynamicMessage, size-DynamicMessage}
use Rattle.prost_reflect_dynamic.specs.declared.value.Value.{Value, size-Value}

-- Each value that the walk gives nests less deep than the message.
abbrev pub GivesInside : {S D : Type 0} → (S → Option (Result (D × Bor Value) AllocError) → S → Type 0) → DynamicMessage → S → Type 0
GivesInside steps m it = EachGiven steps (λ pair. size-Value pair.1.now < size-DynamicMessage m) it

-- A value that is shown as the message stores it, lent, nests less deep than the message; a default, which is owned, may nest as deep.
abbrev pub ShownInside : DynamicMessage → Cow Value → Type 0
ShownInside m shown = IsBorrowed shown → size-Value (cow_value shown) < size-DynamicMessage m

-- What is lent at a number that is found nests less deep than the message that has the number; a default may nest as deep. Where what is left nests less deep than the message, the message is no deeper.
pub record LendsInside (found : Option ℕ) (m : DynamicMessage) (lent : Value) : Type 0 where
  pub less : passes found (λ n. has_at n (content_of m)) ≡ true → size-Value lent < size-DynamicMessage m
  pub left : (v : Value) → size-Value v < size-DynamicMessage m → size-DynamicMessage (left_if found m v) ≤ size-DynamicMessage m
