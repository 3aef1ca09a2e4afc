-- Which contents fit their types, and what is kept of what is stored (the guide on field presence).
use Rattle.std.specs.Prelude.{◌≡◌, ◌∷◌}
use Rattle.prost_reflect_laws.specs.Common.{true, false, pos, [], I32, Int32, ScalarOf, MessageOf, Singular, Repeated, MapFrom, schema_valid, field_valid, ContentOf, NoEntries, Stored, Unknown, ScalarValue, MessageValue, MapValue, NoPairs, Pair, ordered, element_valid, value_valid, encodable, exclusive, filled, without_defaults, kept, Typed, Fitting, WellTyped}
use Rattle.prost_reflect_laws.specs.Laws.{Writable}
use Rattle.prost_reflect_laws.specs.Examples.Schemas.{examples, other_examples, foreign_list, field, list, member, int32, text, required_int32, message_value_type, my_message, unpacked_list, packed_list, maps, choice}
use Rattle.prost_reflect_laws.specs.Examples.Words.{content, int, ascii, inner, list_of, varint, Writes}

pub record Schemas : Type 0 where
  -- The example types pass the checks.
  pub examples_valid : schema_valid examples ≡ true
  -- A list's elements have no presence.
  pub list_with_presence : field_valid examples (field 1 (Repeated false) (int32 true)) ≡ false
  -- Nor a label.
  pub list_with_label : field_valid examples (list 1 false required_int32) ≡ false
  -- A list without either is valid.
  pub list_valid : field_valid examples (list 1 false (int32 true)) ≡ true
  -- No texts are packed.
  pub packed_texts : field_valid examples (list 1 true (text false)) ≡ false
  -- A message has presence.
  pub message_without_presence : field_valid examples
      (field 1 Singular (record (message_value_type (MessageOf my_message)) { presence = false }))
      ≡ false
  -- A map's message value has presence.
  pub value_without_presence : field_valid examples
      (field 1 (MapFrom (int32 false)) (record (message_value_type (MessageOf my_message)) { presence = false }))
      ≡ false
  -- A message is no key.
  pub message_key : field_valid examples (field 1 (MapFrom (message_value_type (MessageOf my_message))) (int32 false)) ≡ false
  -- Members of a oneof have presence.
  pub member_without_presence : field_valid examples (member 1 (int32 false)) ≡ false

pub record Validity : Type 0 where
  -- An int32 takes an int32.
  pub number : value_valid (field 1 Singular (int32 false)) (int 5) ≡ true
  -- It takes no text.
  pub text_for_number : value_valid (field 1 Singular (int32 false)) (ScalarValue (ascii "a")) ≡ false
  -- A list of int32 takes no lone int32,
  pub lone_for_list : value_valid (list 1 false (int32 false)) (int 5) ≡ false
  -- but a list of them,
  pub list_for_list : value_valid (list 1 false (int32 false)) (list_of (int 5 ∷ [])) ≡ true
  -- also an empty one.
  pub empty_list : value_valid (list 1 false (int32 false)) (list_of []) ≡ true
  -- A single field takes no list.
  pub list_for_one : value_valid (field 1 Singular (int32 false)) (list_of (int 5 ∷ [])) ≡ false
  -- A map takes keys and values of its kinds.
  pub map : value_valid (field 1 (MapFrom (text false)) (int32 false)) (MapValue (Pair (ascii "a") (int 1) NoPairs)) ≡ true
  -- A key of another kind.
  pub other_key : value_valid (field 1 (MapFrom (text false)) (int32 false)) (MapValue (Pair (I32 (pos 1)) (int 1) NoPairs)) ≡ false
  -- A message alone is no map.
  pub message_for_map : value_valid (field 1 (MapFrom (text false)) (int32 false)) (inner my_message NoEntries) ≡ false
  -- Any message is valid for a message field, whatever it holds: here a text in the place of a number,
  pub any_message : value_valid (field 1 Singular (message_value_type (MessageOf my_message))) (inner my_message (Stored 1 (ScalarValue (ascii "a")) NoEntries)) ≡ true
  -- or a message of another type.
  pub other_message : value_valid (field 1 Singular (message_value_type (MessageOf my_message))) (inner maps NoEntries) ≡ true
  -- One value of a kind is never a list.
  pub list_for_kind : element_valid (ScalarOf Int32) (list_of []) ≡ false

pub record Encodable : Type 0 where
  -- A text in the place of a number.
  pub text_in_number : encodable (content my_message (Stored 1 (ScalarValue (ascii "a")) NoEntries)) ≡ false
  -- In a message inside.
  pub text_inside : encodable (content my_message (Stored 3 (inner my_message (Stored 1 (ScalarValue (ascii "a")) NoEntries)) NoEntries)) ≡ false
  -- In a list.
  pub text_in_list : encodable (content unpacked_list (Stored 1 (list_of (int 1 ∷ ScalarValue (ascii "a") ∷ [])) NoEntries)) ≡ false
  -- A value at a number that is not known.
  pub unknown_number : encodable (content my_message (Stored 9 (int 1) NoEntries)) ≡ false
  -- An unknown record at a number that is known.
  pub known_number : encodable (content my_message (Unknown 1 (varint 1) NoEntries)) ≡ false
  -- A message of another type is encodable.
  pub other_type : encodable
      (content my_message (Stored 3 (inner unpacked_list (Stored 1 (list_of (int 1 ∷ [])) NoEntries)) NoEntries))
      ≡ true
  -- It is not typed.
  pub other_type_untyped : Typed
      (content my_message (Stored 3 (inner unpacked_list (Stored 1 (list_of (int 1 ∷ [])) NoEntries)) NoEntries))
      → ⊥
  -- It is written by its own type.
  pub other_type_written : Writes my_message (Stored 3 (inner unpacked_list (Stored 1 (list_of (int 1 ∷ [])) NoEntries)) NoEntries) "1a020801"
  -- A message of another schema is encodable too,
  pub other_schema : encodable
      (content my_message
      (Stored 3
      (MessageValue (ContentOf other_examples foreign_list (Stored 1 (list_of (int 1 ∷ [])) NoEntries)))
      NoEntries))
      ≡ true
  -- not typed,
  pub other_schema_untyped : Typed
      (content my_message
      (Stored 3
      (MessageValue (ContentOf other_examples foreign_list (Stored 1 (list_of (int 1 ∷ [])) NoEntries)))
      NoEntries))
      → ⊥
  -- and written by its own.
  pub other_schema_written : Writes my_message (Stored 3 (MessageValue (ContentOf other_examples foreign_list (Stored 1 (list_of (int 1 ∷ [])) NoEntries))) NoEntries) "1a020801"
  -- The typed content that has the same bytes.
  pub same_bytes : Writable (content my_message (Stored 3 (inner my_message (Stored 1 (int 1) NoEntries)) NoEntries))
  -- Its bytes.
  pub same_bytes_written : Writes my_message (Stored 3 (inner my_message (Stored 1 (int 1) NoEntries)) NoEntries) "1a020801"
  -- A text in the place of a number is typed: typed speaks of messages alone.
  pub text_typed : Typed (content my_message (Stored 1 (ScalarValue (ascii "a")) NoEntries))
  -- A message alone at a map field is of no field's type, though it is of the value's.
  pub message_at_map : Typed (content maps (Stored 2 (inner my_message NoEntries) NoEntries)) → ⊥
  -- A message in the map is of the value's type.
  pub message_in_map : Typed (content maps (Stored 2 (MapValue (Pair (I32 (pos 0)) (inner my_message NoEntries) NoPairs)) NoEntries))

pub record WellTypedContents : Type 0 where
  -- A content that fits in each way.
  pub well : WellTyped (content my_message (Stored 3 (inner my_message (Stored 1 (int 5) (Stored 2 (int 66) NoEntries))) NoEntries))
  -- Numbers ascend.
  pub numbers_descend : ordered (content my_message (Stored 2 (int 1) (Stored 1 (int 1) NoEntries))) ≡ false
  -- No number has two values.
  pub number_twice : ordered (content my_message (Stored 1 (int 1) (Stored 1 (int 2) NoEntries))) ≡ false
  -- Keys ascend.
  pub keys_descend : ordered (content maps (Stored 1 (MapValue (Pair (ascii "b") (int 1) (Pair (ascii "a") (int 1) NoPairs))) NoEntries)) ≡ false
  -- No key stands twice.
  pub key_twice : ordered (content maps (Stored 1 (MapValue (Pair (ascii "a") (int 1) (Pair (ascii "a") (int 1) NoPairs))) NoEntries)) ≡ false
  -- Two members of a oneof have values.
  pub two_members : exclusive (content choice (Stored 1 (int 1) (Stored 2 (inner my_message NoEntries) NoEntries))) ≡ false
  -- Such a content fits its type all the same,
  pub two_members_fit : Fitting (content choice (Stored 1 (int 1) (Stored 2 (inner my_message NoEntries) NoEntries)))
  -- and so does one with a stored default.
  pub stored_default_fits : Fitting (content my_message (Stored 1 (int 0) NoEntries))
  -- An empty list is stored.
  pub empty_list : filled (content packed_list (Stored 1 (list_of []) NoEntries)) ≡ false
  -- Nor an empty map.
  pub empty_map : filled (content maps (Stored 1 (MapValue NoPairs) NoEntries)) ≡ false
  -- A default without presence is stored.
  pub stored_default : without_defaults (content my_message (Stored 1 (int 0) NoEntries)) ≡ false
  -- One with presence may stand,
  pub member_default : without_defaults (content my_message (Stored 2 (int 0) NoEntries)) ≡ true
  -- and one in a map.
  pub map_default : without_defaults (content maps (Stored 1 (MapValue (Pair (ascii "") (int 0) NoPairs)) NoEntries)) ≡ true

pub record Kept : Type 0 where
  -- A default without presence goes, at each depth; one with presence and an empty message stay.
  pub defaults : kept
      (content my_message
      (Stored 1 (int 0)
      (Stored 2 (int 0) (Stored 3 (inner my_message (Stored 1 (int 0) NoEntries)) NoEntries))))
      ≡ content my_message (Stored 2 (int 0) (Stored 3 (inner my_message NoEntries) NoEntries))
  -- An empty list goes.
  pub empty_list : kept (content unpacked_list (Stored 1 (list_of []) NoEntries)) ≡ content unpacked_list NoEntries
  -- An empty map goes.
  pub empty_map : kept (content maps (Stored 1 (MapValue NoPairs) NoEntries)) ≡ content maps NoEntries
  -- A default in a list or a map stays, and so does an unknown record.
  pub elements : kept (content unpacked_list (Stored 1 (list_of (int 0 ∷ [])) (Unknown 2 (varint 0) NoEntries)))
      ≡ content unpacked_list (Stored 1 (list_of (int 0 ∷ [])) (Unknown 2 (varint 0) NoEntries))
  -- A message in a map loses its defaults.
  pub in_map : kept
      (content maps
      (Stored 2 (MapValue (Pair (I32 (pos 0)) (inner my_message (Stored 1 (int 0) NoEntries)) NoPairs))
      NoEntries))
      ≡ content maps (Stored 2 (MapValue (Pair (I32 (pos 0)) (inner my_message NoEntries) NoPairs)) NoEntries)
