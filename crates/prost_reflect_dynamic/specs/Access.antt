-- What a message has at a number, and which fields are its own (the guide on field presence).
use Rattle.std.specs.Prelude.{◌≡◌, ◌≢◌, ℕ, Bool, if◌then◌else◌, List, Option, Some, None, is_some, option_map, option_and_then, unwrap_or, slice_get, true, false, IfSome}
use Rattle.std.specs.Cow.{cow_value, IsBorrowed}
use Rattle.std.specs.declared.borrow.Cow.{Cow}
use Rattle.prost_reflect_wire.specs.Schema.{Field, field_of, passes}
use Rattle.prost_reflect_wire.specs.Content as contents
use Rattle.prost_reflect_wire.specs.Content.{Content, value_at, entries_of}
use Rattle.prost_reflect_wire.specs.Edit.{default_value, value_or_default}
use Rattle.prost_reflect_wire.specs.Typing.{kept, kept_inside, is_field_default, value_valid}
use Rattle.prost_reflect_tables.specs.Places.{row_of}
use Rattle.prost_reflect_pool.specs.Lookups.{named_field}
use Rattle.prost_reflect_pool.specs.MessageTypes.{schema_at, fields_of}
use Rattle.prost_reflect_pool.specs.declared.pooled_type.PooledType.{PooledType}
use Rattle.prost_reflect_maps.specs.Items.{IsAscending}
use Rattle.prost_reflect_fields.specs.Known.{known_of, are_siblings}
use Rattle.prost_reflect_fields.specs.FieldSlots.{stored_at}
use Rattle.prost_reflect_dynamic.specs.Named.{NamesEqual}
use Rattle.prost_reflect_dynamic.specs.NamedField.{row_at}
use Rattle.prost_reflect_dynamic.specs.NamedFields as named
use Rattle.prost_reflect_dynamic.specs.NamedFields.{is_declared}
use Rattle.prost_reflect_rows.specs.Paths.{declared_place}
use Rattle.prost_reflect_dynamic.specs.RowLaws.{takes_by_row}
use Rattle.prost_reflect_dynamic.specs.View.{value_of, content_of, message_type_of, stored_in, written_at}
use Rattle.prost_reflect_dynamic.specs.declared.descriptor.message.MessageDescriptor.{MessageDescriptor}
use Rattle.prost_reflect_dynamic.specs.declared.descriptor.field.FieldDescriptor.{FieldDescriptor}
use Rattle.prost_reflect_dynamic.specs.declared.value.Value.{Value}
use Rattle.prost_reflect_dynamic.specs.declared.message.DynamicMessage.{DynamicMessage}

-- FIELDS

-- The field is one of the message type: of a pool whose files hold the same, and of the message type at the same place.
abbrev pub IsOwnField : PooledType → FieldDescriptor → Type 0
IsOwnField t field = NamesEqual field.message t

abbrev pub number_of : FieldDescriptor → ℕ
number_of field = unwrap_or (option_map (λ f. f.number) (row_at field)) 0

-- The number is that of a field, and no extension's.
abbrev pub is_field_number : PooledType → ℕ → Bool
is_field_number t n = is_declared (row_of (fields_of t) n)

-- The number, if it is that of a field.
abbrev pub number_declared : PooledType → ℕ → Option ℕ
number_declared t n = if is_field_number t n then Some n else None

-- The number of the field of a name; an extension is no field.
abbrev pub number_named : PooledType → List ℕ → Option ℕ
number_named t name = option_and_then (λ i. option_map (λ f. f.number) (slice_get (fields_of t) i)) (named_field (fields_of t) name)

-- The value fits the field, by its form and its kind.
abbrev pub takes : FieldDescriptor → Value → Bool
takes field v = takes_by_row field.message.pool (row_at field) v

-- The value fits the field of the number.
abbrev pub takes_at : PooledType → ℕ → Value → Bool
takes_at t n v = passes (field_of (known_of t) n) (λ f. value_valid f (value_of v))

-- WHAT IS HAD

-- The content has the number: a stored default without presence, an empty list and an empty map are no values.
abbrev pub has_at : ℕ → Content → Bool
has_at n c = is_some (value_at n (entries_of (kept c)))

-- The value that is stored at the number, if the message has the number.
abbrev pub had_at : ℕ → DynamicMessage → Option Value
had_at n m = if has_at n (content_of m) then stored_at (stored_in m) n else None

-- A value is what the field of the number has where nothing is stored.
abbrev pub says_nothing : List Field → ℕ → Value → Bool
says_nothing fields n v = passes (field_of fields n) (λ f. is_field_default f (kept_inside (value_of v)))

-- A value at a number of these fields, unless it says nothing.
abbrev pub saying : List Field → ℕ → Value → Option Value
saying fields n v = if says_nothing fields n v then None else Some v

-- WHAT IS GOT

-- The value is what the field of the number has where nothing is stored.
abbrev pub IsDefaultAt : PooledType → ℕ → Value → Type 0
IsDefaultAt t n v = IfSome (field_of (known_of t) n) (λ f. value_of v ≡ default_value (schema_at t) f.form f.value_type)

-- The value that is stored is lent; where none is, one with the property is given.
abbrev pub ShowsOr : (Value → Type 0) → Option Value → Cow Value → Type 0
ShowsOr Default (Some v) shown = (cow_value shown ≡ v) × IsBorrowed shown
ShowsOr Default None shown = Default (cow_value shown)

-- What a message shows at the number of a field: what it stores, or else the default.
abbrev pub Shows : DynamicMessage → ℕ → Cow Value → Type 0
Shows m n shown = ShowsOr (IsDefaultAt (message_type_of m) n) (stored_at (stored_in m) n) shown

-- It is shown where the number is a field's, and nothing where it is not.
abbrev pub ShowsIf : Bool → DynamicMessage → ℕ → Option (Cow Value) → Type 0
ShowsIf b m n None = b ≡ false
ShowsIf b m n (Some shown) = (b ≡ true) × Shows m n shown

-- It is shown where a number is found, and nothing where none is.
abbrev pub ShowsFound : Option ℕ → DynamicMessage → Option (Cow Value) → Type 0
ShowsFound None m shown = shown ≡ None
ShowsFound (Some n) m None = ⊥
ShowsFound (Some n) m (Some shown) = Shows m n shown

-- Without defaults that have no presence it is what the message holds for others at the number, or else the default.
abbrev pub ShowsHeld : DynamicMessage → ℕ → Cow Value → Type 0
ShowsHeld m n shown = IfSome (field_of (known_of (message_type_of m)) n) (λ f. kept_inside (value_of (cow_value shown)) ≡ elim (value_at n (entries_of (kept (content_of m)))) [ None ↦ default_value (schema_at (message_type_of m)) f.form f.value_type | Some v ↦ v ])

-- WHAT IS LENT FOR WRITING

abbrev pub IsStoredOr : PooledType → ℕ → Option contents.Value → contents.Value → Type 0
IsStoredOr t n (Some v) lent = lent ≡ v
IsStoredOr t n None lent = IfSome (field_of (known_of t) n) (λ f. lent ≡ default_value (schema_at t) f.form f.value_type)

-- The value is what the message stores at the number of a field, or else the field's default.
abbrev pub IsLentOf : DynamicMessage → ℕ → Value → Type 0
IsLentOf m n lent = IsStoredOr (message_type_of m) n (value_at n (entries_of (content_of m))) (value_of lent)

-- The message in which the value was left behind the reference: in the place of what is stored there, or else set.
abbrev pub left_at : DynamicMessage → ℕ → Value → DynamicMessage
left_at m n v = written_at m n v v

-- The same at a number that is found; where none is, nothing changes.
abbrev pub left_if : Option ℕ → DynamicMessage → Value → DynamicMessage
left_if None m v = m
left_if (Some n) m v = left_at m n v

-- It is lent where a number is found.
abbrev pub IsLentIf : Option ℕ → DynamicMessage → Value → Type 0
IsLentIf None m lent = ⊥
IsLentIf (Some n) m lent = IsLentOf m n lent

-- LAWS

-- Of the members of a oneof a message has one at most.
abbrev pub HasOneMember : DynamicMessage → Type 0
HasOneMember m = (k n : ℕ) → are_siblings (known_of (message_type_of m)) k n ≡ true → has_at k (content_of m) ≡ true
    → has_at n (content_of m) ≡ false

-- So of two fields of the message's own type, of other numbers and of one oneof, it has one at most. Oneofs are told by their places.
abbrev pub HasOneField : DynamicMessage → Type 0
HasOneField m = (a b : FieldDescriptor) (j k n o : ℕ) → IsOwnField (message_type_of m) a
    → IsOwnField (message_type_of m) b
    → option_map (λ f. f.oneof) (row_at a) ≡ Some (Some j)
    → option_map (λ f. f.oneof) (row_at b) ≡ Some (Some k)
    → k ≡ j
    → option_map (λ f. f.number) (row_at a) ≡ Some n
    → option_map (λ f. f.number) (row_at b) ≡ Some o
    → o ≢ n
    → has_at (number_of a) (content_of m) ≡ true
    → has_at (number_of b) (content_of m) ≡ false

-- What is shown is in the content: the value of the number, or else the field's default.
abbrev pub ShownContent : Type 0
ShownContent = (m : DynamicMessage) (n : ℕ) (f : Field) (shown : Cow Value) → IsAscending (stored_in m)
    → field_of (known_of (message_type_of m)) n ≡ Some f
    → Shows m n shown
    → kept_inside (value_of (cow_value shown))
    ≡ value_or_default (schema_at (message_type_of m)) f (entries_of (kept (content_of m)))

-- What a message has is what its content has, as it is stored.
abbrev pub HadContent : Type 0
HadContent = (m : DynamicMessage) (n : ℕ) → IsAscending (stored_in m)
    → option_map (λ v. kept_inside (value_of v)) (had_at n m) ≡ value_at n (entries_of (kept (content_of m)))

-- The field that the look-up of a number finds is known by that number; where it finds none, the number is no field's.
abbrev pub NumberFound : Type 0
NumberFound = (t : PooledType) (field : FieldDescriptor) (n : ℕ) → IsOwnField t field
    → declared_place (named.descriptor_fields field.message) n ≡ Some field.index
    → (number_of field ≡ n) × (is_field_number t n ≡ true)

abbrev pub NumberMissing : Type 0
NumberMissing = (t : PooledType) (d : MessageDescriptor) (n : ℕ) → NamesEqual d t
    → declared_place (named.descriptor_fields d) n ≡ None
    → is_field_number t n ≡ false

-- The same of the look-up of a name.
abbrev pub NameFound : Type 0
NameFound = (t : PooledType) (field : FieldDescriptor) (name : List ℕ) → IsOwnField t field
    → named_field (named.descriptor_fields field.message) name ≡ Some field.index
    → number_named t name ≡ Some (number_of field)

abbrev pub NameMissing : Type 0
NameMissing = (t : PooledType) (d : MessageDescriptor) (name : List ℕ) → NamesEqual d t
    → named_field (named.descriptor_fields d) name ≡ None
    → number_named t name ≡ None

-- An own field takes what the message type's field of its number takes.
abbrev pub TakesFound : Type 0
TakesFound = (t : PooledType) (field : FieldDescriptor) (n : ℕ) (v : Value) → IsOwnField t field
    → option_map (λ f. f.number) (row_at field) ≡ Some n
    → takes field v ≡ takes_at t n v
