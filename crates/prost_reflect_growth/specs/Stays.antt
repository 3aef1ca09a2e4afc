-- What the definitions of files that pass all checks mean, stays where files are added.
use Rattle.std.specs.Prelude.{◌≡◌, Bool, false}
use Rattle.prost_reflect_types.specs.declared.FieldDescriptorProto.{FieldDescriptorProto}
use Rattle.prost_reflect_tables.specs.Flat.{DefinitionRow, FlatRows, behind}
use Rattle.prost_reflect_tables.specs.Faults.{type_missing, type_unknown, extendee_unknown}
use Rattle.prost_reflect_tables.specs.Linking.{links_of, linked_field, extended_place}

-- A field whose type is there is linked as before.
abbrev pub FieldStays : Type 0
FieldStays =
    (old new : FlatRows) (is_extension : Bool) (d : DefinitionRow FieldDescriptorProto) →
    type_missing d ≡ false → type_unknown old d ≡ false →
    linked_field (links_of (behind old new)) is_extension d ≡ linked_field (links_of old) is_extension d

-- An extension whose message is there extends the same.
abbrev pub ExtendeeStays : Type 0
ExtendeeStays =
    (old new : FlatRows) (d : DefinitionRow FieldDescriptorProto) → extendee_unknown old d ≡ false →
    extended_place (links_of (behind old new)) d ≡ extended_place (links_of old) d
