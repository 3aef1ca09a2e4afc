-- What is set where a path of numbers leads (the encoding guide, "Submessages", for what is in what).
use Rattle.std.specs.Prelude.{◌≡◌, ℕ, List, Option, Some}
use Rattle.prost_reflect_wire.specs.Content.{Content, Value, MessageValue, schema_of, type_of}
use Rattle.prost_reflect_wire.specs.Typing.{kept, WellStored}
use Rattle.prost_reflect_wire.specs.Edit.{set_at, PathTo}
use Rattle.prost_reflect_wire.specs.Decoding.{Holds}
use Rattle.prost_reflect_dynamic.specs.View.{content_of}
use Rattle.prost_reflect_dynamic.specs.declared.message.DynamicMessage.{DynamicMessage}

-- The value is set at the path in what was stored, which is of the same type and well-stored.
pub record IsSetAt (path : List ℕ) (v : Value) (old new : Content) : Type 0 where
  pub set : kept new ≡ set_at path v (kept old)
  pub holds : Holds old new

-- A value holds a message, well-stored, in which the path leads to a field that takes the value.
pub record HeldPath (path : List ℕ) (v : Value) (held : Option DynamicMessage) : Type 0 where
  pub message : DynamicMessage
  pub is : held ≡ Some message
  pub sound : WellStored (content_of message)
  pub leads : PathTo (schema_of (content_of message)) (type_of (content_of message)) path v

-- It was set in the message that was held, and the value is what came of it.
pub record SetInHeld (path : List ℕ) (v : Value) (held : Option DynamicMessage) (new : Value) : Type 0 where
  pub before : DynamicMessage
  pub after : DynamicMessage
  pub was : held ≡ Some before
  pub is : new ≡ MessageValue (content_of after)
  pub set : IsSetAt path v (content_of before) (content_of after)
