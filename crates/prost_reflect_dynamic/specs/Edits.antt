-- What the edits of a message keep: what it holds for others, and that it stays encodable, well-stored and typed; and what of that the values that it gives keep.
use Rattle.std.specs.Prelude.{◌≡◌, ◌≢◌, ◌≤◌, ℕ, true, false, not, Option, Some, None, IfSome}
use Rattle.prost_reflect_wire.specs.Schema.{field_of, passes}
use Rattle.prost_reflect_wire.specs.Content as contents
use Rattle.prost_reflect_wire.specs.Content.{Content, entries_of, value_at, value_ordered}
use Rattle.prost_reflect_wire.specs.Typing.{kept, kind_for, encodable, fit_test, alone_test, value_passes, ValueTyped, WellStored}
use Rattle.prost_reflect_wire.specs.Edit.{set_field, in_field}
use Rattle.prost_reflect_pool.specs.MessageTypes.{schema_at}
use Rattle.prost_reflect_pool.specs.declared.pooled_type.PooledType.{PooledType}
use Rattle.prost_reflect_fields.specs.FieldSlots.{stored_at}
use Rattle.prost_reflect_fields.specs.Known.{known_of, are_siblings}
use Rattle.prost_reflect_dynamic.specs.Access.{IsOwnField, has_at, number_of, takes_at, left_if, says_nothing}
use Rattle.prost_reflect_dynamic.specs.Contents.{set_if}
use Rattle.prost_reflect_dynamic.specs.DeepTypes.{all_typed}
use Rattle.prost_reflect_dynamic.specs.ExtensionAccess.{IsOwnExtension, extension_number}
use Rattle.prost_reflect_dynamic.specs.Stored.{message_stored, value_stored}
use Rattle.prost_reflect_dynamic.specs.TypedSteps.{typed_at}
use Rattle.prost_reflect_dynamic.specs.View.{value_of, content_of, message_type_of, stored_in}
use Rattle.prost_reflect_dynamic.specs.declared.descriptor.extension.ExtensionDescriptor.{ExtensionDescriptor}
use Rattle.prost_reflect_dynamic.specs.declared.descriptor.field.FieldDescriptor.{FieldDescriptor}
use Rattle.prost_reflect_dynamic.specs.declared.value.Value.{Value}
use Rattle.prost_reflect_dynamic.specs.declared.value.Value as values
use Rattle.prost_reflect_dynamic.specs.declared.message.DynamicMessage.{DynamicMessage, size-DynamicMessage}

-- VALUES

-- Each message in the value is well-stored and of the type of the number's field, and keys ascend. So is a value without messages.
pub record IsWhole (t : PooledType) (n : ℕ) (v : Value) : Type 0 where
  pub fits : value_passes fit_test (value_of v) ≡ true
  pub types : ValueTyped (schema_at t) (kind_for (field_of (known_of t) n) (value_of v)) (value_of v)
  pub order : value_ordered (value_of v) ≡ true
  pub members : value_passes alone_test (value_of v) ≡ true

-- So is it in each message type that the field, or the extension, is of.
abbrev pub IsWholeFor : FieldDescriptor → Value → Type 0
IsWholeFor field v = (t : PooledType) → IsOwnField t field → IsWhole t (number_of field) v

abbrev pub IsWholeForExtension : ExtensionDescriptor → Value → Type 0
IsWholeForExtension x v = (t : PooledType) → IsOwnExtension t x → IsWhole t (extension_number x) v

-- A value of a message's field of a number is as the message is. Where the message can be written, the value fits the field, and the messages in it can be written; where the message is well-stored, the value is whole; and where each message inside the message is of its field's type, so is each in the value.
pub record IsPart (m : DynamicMessage) (n : ℕ) (v : Value) : Type 0 where
  pub valid : encodable (content_of m) ≡ true → takes_at (message_type_of m) n v ≡ true
  pub encodable : encodable (content_of m) ≡ true → value_passes fit_test (value_of v) ≡ true
  pub sound : WellStored (content_of m) → IsWhole (message_type_of m) n v
  pub typed : all_typed (message_stored m) ≡ true → typed_at (message_type_of m) n (value_stored v) ≡ true

-- What is held for others where a value was set: the siblings' values are gone, and a default without presence is none.
abbrev pub held_set : ℕ → contents.Value → Content → Content
held_set n v c = in_field n (λ schema fields f es. set_field fields f v es) c

-- WHAT WRITING ASKS FOR

-- If the old message can be written, so can the new one; likewise if it is well-stored, and if each message inside is of its field's type.
abbrev pub KeepsEncodable : DynamicMessage → DynamicMessage → Type 0
KeepsEncodable old new = encodable (content_of old) ≡ true → encodable (content_of new) ≡ true

abbrev pub KeepsSound : DynamicMessage → DynamicMessage → Type 0
KeepsSound old new = WellStored (content_of old) → WellStored (content_of new)

abbrev pub KeepsTyped : DynamicMessage → DynamicMessage → Type 0
KeepsTyped old new = all_typed (message_stored old) ≡ true → all_typed (message_stored new) ≡ true

-- What the message holds for others at any other number is as it was.
abbrev pub StaysBeside : ℕ → DynamicMessage → DynamicMessage → Type 0
StaysBeside n old new = (k : ℕ) → k ≢ n → value_at k (entries_of (kept (content_of new))) ≡ value_at k (entries_of (kept (content_of old)))

-- REMOVING

-- What is stored, and what is held for others, was changed alike; what writing asks for was kept; and the message nests no deeper.
pub record Removes (change : Content → Content) (old new : DynamicMessage) : Type 0 where
  pub message_type : message_type_of new ≡ message_type_of old
  pub content : content_of new ≡ change (content_of old)
  pub held : kept (content_of new) ≡ change (kept (content_of old))
  pub sound : KeepsSound old new
  pub encodable : KeepsEncodable old new
  pub typed : KeepsTyped old new
  pub depth : size-DynamicMessage new ≤ size-DynamicMessage old

-- SETTING

-- A number, if one is found, got the value.
pub record Sets (found : Option ℕ) (v : Value) (old new : DynamicMessage) : Type 0 where
  pub message_type : message_type_of new ≡ message_type_of old
  pub content : content_of new ≡ set_if found (value_of v) (content_of old)
  pub held : kept (content_of new) ≡ elim found [ None ↦ kept (content_of old) | Some n ↦ held_set n (value_of v) (kept (content_of old)) ]
  pub sound : IfSome found (λ n. IsWhole (message_type_of old) n v) → KeepsSound old new
  pub encodable : value_passes fit_test (value_of v) ≡ true → KeepsEncodable old new
  pub typed : IfSome found (λ n. typed_at (message_type_of old) n (value_stored v) ≡ true) → KeepsTyped old new
  pub stored : IfSome found (λ n. stored_at (stored_in new) n ≡ Some v)
  pub has : IfSome found (λ n. has_at n (content_of new) ≡ not (says_nothing (known_of (message_type_of old)) n v))
  pub others : IfSome found (λ n. (k : ℕ) → k ≢ n → are_siblings (known_of (message_type_of old)) n k ≡ false → value_at k (entries_of (kept (content_of new))) ≡ value_at k (entries_of (kept (content_of old))))

-- Whatever fits the field and is left behind the reference that was lent is set. What is held for others is as behind a set, whatever is left.
pub record LeavesSet (found : Option ℕ) (m : DynamicMessage) : Type 0 where
  pub each : (v : Value) → passes found (λ n. takes_at (message_type_of m) n v) ≡ true → Sets found v m (left_if found m v)
  pub held : (v : Value) → kept (content_of (left_if found m v)) ≡ elim found [ None ↦ kept (content_of m) | Some n ↦ held_set n (value_of v) (kept (content_of m)) ]

-- Where a message is lent, and one of its type is left there that keeps what writing asks for, so does the message around it.
pub record LeavesMessage (found : Option ℕ) (m : DynamicMessage) (lent : Value) : Type 0 where
  pub sound : (a b : DynamicMessage) → lent ≡ values.Message a → message_type_of b ≡ message_type_of a → KeepsSound a b
      → KeepsSound m (left_if found m (values.Message b))
  pub encodable : (a b : DynamicMessage) → lent ≡ values.Message a → KeepsEncodable a b
      → KeepsEncodable m (left_if found m (values.Message b))
  pub typed : (a b : DynamicMessage) → lent ≡ values.Message a → message_type_of b ≡ message_type_of a → KeepsTyped a b
      → KeepsTyped m (left_if found m (values.Message b))
