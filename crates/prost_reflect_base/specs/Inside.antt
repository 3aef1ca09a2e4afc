-- What stands in message types and services, by the own names of its definitions. For private contracts alone.
use Rattle.std.specs.Prelude.{ℕ, ◌==◌, Bool, false, ◌&&◌, ◌||◌, List, [], ◌∷◌, ◌++◌, map, find, Option, Some, None}
use Rattle.std.specs.List.{list_any}
use Rattle.std.specs.Str.{bytes_eq}
use Rattle.prost_reflect_types.specs.declared.FieldDescriptorProto.{FieldDescriptorProto}
use Rattle.prost_reflect_types.specs.declared.OneofDescriptorProto.{OneofDescriptorProto}
use Rattle.prost_reflect_types.specs.declared.MethodDescriptorProto.{MethodDescriptorProto}
use Rattle.prost_reflect_tables.specs.Names.{text_or_empty}
use Rattle.prost_reflect_tables.specs.Flat.{DefinitionRow, FlatMessageRow, FlatServiceRow, FlatRows}

-- OWN NAMES

abbrev pub field_text : DefinitionRow FieldDescriptorProto → List ℕ
field_text d = text_or_empty d.proto.name

abbrev pub oneof_text : DefinitionRow OneofDescriptorProto → List ℕ
oneof_text d = text_or_empty d.proto.name

abbrev pub method_text : DefinitionRow MethodDescriptorProto → List ℕ
method_text d = text_or_empty d.proto.name

-- Those of a message type's fields and oneofs.
abbrev pub member_texts : FlatMessageRow → List (List ℕ)
member_texts m = map field_text m.fields ++ map oneof_text m.oneofs

abbrev pub method_texts : FlatServiceRow → List (List ℕ)
method_texts s = map method_text s.methods

-- WHAT A SCOPE HOLDS

-- Nothing stands in what is not there.
abbrev pub texts_in : {X : Type 0} → (X → List (List ℕ)) → Option X → List (List ℕ)
texts_in texts None = []
texts_in texts (Some x) = texts x

-- The first item of the scope's name holds the name.
abbrev pub holds_name : {X : Type 0} → (X → List ℕ) → (X → List (List ℕ)) → List X → (scope name : List ℕ) → Bool
holds_name full_name texts xs scope name = list_any (bytes_eq name) (texts_in texts (find (λ x. bytes_eq (full_name x) scope) xs))

abbrev pub message_name : FlatMessageRow → List ℕ
message_name m = m.definition.full_name

abbrev pub service_name : FlatServiceRow → List ℕ
service_name s = s.definition.full_name

-- A message type has a field or a oneof of the name.
abbrev pub has_member : FlatRows → (scope name : List ℕ) → Bool
has_member rows scope name = holds_name message_name member_texts rows.messages scope name

-- A service has a method of the name.
abbrev pub has_method : FlatRows → (scope name : List ℕ) → Bool
has_method rows scope name = holds_name service_name method_texts rows.services scope name

abbrev pub has_inside : FlatRows → (scope name : List ℕ) → Bool
has_inside rows scope name = has_member rows scope name || has_method rows scope name

-- CUTS

-- The text is a scope, a dot and a name that pass the test, where the scope begins with the first text. Names may hold dots.
abbrev pub cut_at_a_dot : (List ℕ → List ℕ → Bool) → (front : List ℕ) → List ℕ → Bool
cut_at_a_dot test front [] = false
cut_at_a_dot test front (b ∷ rest) = (b == 46 && test front rest) || cut_at_a_dot test (front ++ b ∷ []) rest
