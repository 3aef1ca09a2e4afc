-- The flat lists without where they lie in memory.
use Rattle.std.specs.Prelude.{ℕ, List, map, string_bytes}
use denote.Bor.{Bor}
use Rattle.prost_reflect_types.specs.declared.FileDescriptorProto.{FileDescriptorProto}
use Rattle.prost_reflect_types.specs.declared.DescriptorProto.TheViews.{out-DescriptorProto}
use Rattle.prost_reflect_flat.specs.declared.definitions.Scope.{Scope}
use Rattle.prost_reflect_flat.specs.declared.definitions.Definition.{Definition}
use Rattle.prost_reflect_flat.specs.declared.definitions.DefinitionRef.{DefinitionRef}
use Rattle.prost_reflect_flat.specs.declared.definitions.FlatMessage.{FlatMessage}
use Rattle.prost_reflect_flat.specs.declared.definitions.FlatEnum.{FlatEnum}
use Rattle.prost_reflect_flat.specs.declared.definitions.FlatService.{FlatService}
use Rattle.prost_reflect_flat.specs.declared.definitions.Flat.{Flat}
use Rattle.prost_reflect_tables.specs.Flat.{ScopeRow, DefinitionRow, FlatMessageRow, FlatEnumRow, FlatServiceRow, FlatRows, message_parts}

abbrev pub scope_row : Scope → ScopeRow
scope_row s = record { name = s.name.now; path = s.path.now; file = s.file; is_proto3 = s.is_proto3; parent = s.parent }

abbrev pub definition_row : {R : Type 0} → Definition R → DefinitionRow R
definition_row d = record { full_name = string_bytes d.full_name; path = d.path.items; file = d.file; is_proto3 = d.is_proto3; parent = d.parent; proto = d.proto.now }

abbrev pub lent_row : {R : Type 0} → DefinitionRef R → DefinitionRow R
lent_row d = record { full_name = d.full_name.now; path = d.path.now; file = d.file; is_proto3 = d.is_proto3; parent = d.parent; proto = d.proto.now }

abbrev pub message_row : FlatMessage → FlatMessageRow
message_row m = record {
  definition = record {
    full_name = string_bytes m.definition.full_name;
    path = m.definition.path.items;
    file = m.definition.file;
    is_proto3 = m.definition.is_proto3;
    parent = m.definition.parent;
    proto = message_parts (out-DescriptorProto m.definition.proto.now);
  };
  fields = map definition_row m.fields.items;
  oneofs = map definition_row m.oneofs.items;
}

abbrev pub enum_row : FlatEnum → FlatEnumRow
enum_row e = record { definition = definition_row e.definition; values = map definition_row e.values.items }

abbrev pub service_row : FlatService → FlatServiceRow
service_row s = record { definition = definition_row s.definition; methods = map definition_row s.methods.items }

abbrev pub flat_rows : Flat → FlatRows
flat_rows f = record {
  messages = map message_row f.messages.items;
  enums = map enum_row f.enums.items;
  extensions = map definition_row f.extensions.items;
  services = map service_row f.services.items;
}

-- Files and texts that are lent.
abbrev pub file_list : List (Bor FileDescriptorProto) → List FileDescriptorProto
file_list files = map (λ f. f.now) files

abbrev pub text_list : List (Bor (List ℕ)) → List (List ℕ)
text_list texts = map (λ t. t.now) texts
