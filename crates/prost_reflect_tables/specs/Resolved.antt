-- Fields and extensions with what their texts mean, each text looked up once.
use Rattle.std.specs.Prelude.{ℕ, Option}
use Rattle.prost_reflect_types.specs.declared.FieldDescriptorProto.{FieldDescriptorProto}
use Rattle.prost_reflect_wire.specs.Scalar.{Scalar}
use Rattle.prost_reflect_tables.specs.declared.tables.TableKind.{TableKind}
use Rattle.prost_reflect_tables.specs.Flat.{DefinitionRow}
use Rattle.prost_reflect_tables.specs.Faults.{place_named}
use Rattle.prost_reflect_tables.specs.Linking.{Links, extended_place, linked_kind, linked_default}

-- A definition, the places of the messages and the enum that its texts name, its kind and its default.
pub record ResolvedRow : Type 0 where
  pub definition : DefinitionRow FieldDescriptorProto
  pub extendee : Option ℕ
  pub message : Option ℕ
  pub enumeration : Option ℕ
  pub kind : TableKind
  pub default : Option Scalar

unfoldable pub resolve : Links → DefinitionRow FieldDescriptorProto → ResolvedRow
resolve links d = record {
  definition = d;
  extendee = extended_place links d;
  message = place_named links.messages d.proto.type_name;
  enumeration = place_named links.enums d.proto.type_name;
  kind = linked_kind links d.proto;
  default = linked_default links (linked_kind links d.proto) d.proto.default_value;
}
