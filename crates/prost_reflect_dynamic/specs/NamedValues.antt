-- What the descriptor of an enum's value names.
use Rattle.std.specs.Prelude.{◌≡◌, Option, slice_get}
use Rattle.prost_reflect_tables.specs.Rows.{EnumValueRow}
use Rattle.prost_reflect_dynamic.specs.NamedEnums.{SameEnum}
use Rattle.prost_reflect_dynamic.specs.NamedLists.{values_of}
use Rattle.prost_reflect_dynamic.specs.declared.descriptor.enum_value.EnumValueDescriptor.{EnumValueDescriptor}

abbrev pub value_row_named : EnumValueDescriptor → Option EnumValueRow
value_row_named v = slice_get (values_of v.parent) v.index

-- Two descriptors of one value.
abbrev pub SameValue : EnumValueDescriptor → EnumValueDescriptor → Type 0
SameValue a b = SameEnum a.parent b.parent × (b.index ≡ a.index)
