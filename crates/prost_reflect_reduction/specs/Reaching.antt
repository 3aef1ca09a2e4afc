-- Reduction by the pairs of types that are reached: what is asked of one pair, and which pairs it asks for. For private contracts, but for what `Faults` cites.
use Rattle.std.specs.Prelude.{◌≡◌, ℕ, Bool, true, false, ◌&&◌, List, [], ◌∷◌, flat_map, Option, Some, None}
use Rattle.std.specs.Bool.{beq}
use Rattle.std.specs.List.{list_all}
use Rattle.prost_reflect_wire.specs.Schema.{Kind, ScalarOf, MessageOf, GroupOf, ValueType, FieldForm, Singular, Repeated, MapFrom, Field, MessageType, Schema, message_type, field_of, passes}
use Rattle.prost_reflect_wire.specs.Reduction.{TypePairs, holds, same_scalar_kind, same_default, value_types_match, same_siblings, has_no_fellow, entries_whole, all_match}

-- Of two message types nothing is asked here.
abbrev pub kinds_alike : Kind → Kind → Bool
kinds_alike (ScalarOf k) (ScalarOf l) = same_scalar_kind k l
kinds_alike (MessageOf A) (MessageOf B) = true
kinds_alike (GroupOf A) (GroupOf B) = true
kinds_alike k l = false

abbrev pub kinds_ask : Kind → Kind → TypePairs
kinds_ask (MessageOf A) (MessageOf B) = (A, B) ∷ []
kinds_ask (GroupOf A) (GroupOf B) = (A, B) ∷ []
kinds_ask k l = []

abbrev pub values_alike : ValueType → ValueType → Bool
values_alike s t = kinds_alike s.kind t.kind && beq s.required t.required && beq s.presence t.presence
    && same_default s.kind s.default t.default

-- A map's key is no message.
abbrev pub forms_alike : FieldForm → FieldForm → Bool
forms_alike Singular Singular = true
forms_alike (Repeated p) (Repeated q) = true
forms_alike (MapFrom s) (MapFrom t) = value_types_match [] s t
forms_alike c d = false

abbrev pub fields_alike : Field → Field → Bool
fields_alike f g = beq f.is_extension g.is_extension && forms_alike f.form g.form && values_alike f.value_type g.value_type

abbrev pub has_alike : List Field → List Field → Field → Bool
has_alike older newer f = passes (field_of newer f.number) (λ g. fields_alike f g && same_siblings older newer f g)

abbrev pub asked_beside : Field → Option Field → TypePairs
asked_beside f None = []
asked_beside f (Some g) = kinds_ask f.value_type.kind g.value_type.kind

abbrev pub field_asks : List Field → Field → TypePairs
field_asks newer f = asked_beside f (field_of newer f.number)

-- What is asked of one pair of types by itself.
abbrev pub types_alike : MessageType → MessageType → Bool
types_alike older newer = entries_whole older newer && list_all (has_alike older.known newer.known) older.known
    && list_all (has_no_fellow older.known newer.known) newer.known

-- The pairs that fields of the same numbers lead to.
abbrev pub types_ask : MessageType → MessageType → TypePairs
types_ask older newer = flat_map (field_asks newer.known) older.known

abbrev pub all_held : TypePairs → TypePairs → Bool
all_held pairs asked = list_all (λ q. holds pairs q.0 q.1) asked

unfoldable pub all_alike : Schema → Schema → TypePairs → Bool
all_alike older newer pairs = list_all (λ p. types_alike (message_type older p.0) (message_type newer p.1)) pairs

unfoldable pub all_ask : Schema → Schema → TypePairs → TypePairs
all_ask older newer pairs = flat_map (λ p. types_ask (message_type older p.0) (message_type newer p.1)) pairs

-- Whatever pairs show that A reduces B, these are among them.
pub record Needed (older : Schema) (A : ℕ) (newer : Schema) (B : ℕ) (pairs : TypePairs) : Type 0 where
  pub each : (others : TypePairs) → all_match others older newer ≡ true → holds others A B ≡ true → all_held others pairs ≡ true

-- So far these pairs are done, and those are seen.
pub record Walked (older : Schema) (A : ℕ) (newer : Schema) (B : ℕ) (done seen : TypePairs) : Type 0 where
  pub first : holds seen A B ≡ true
  pub needed : Needed older A newer B seen
  pub alike : all_alike older newer done ≡ true
  pub asked : all_held seen (all_ask older newer done) ≡ true
