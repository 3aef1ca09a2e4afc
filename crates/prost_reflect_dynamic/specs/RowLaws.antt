-- What is said of fields and extensions alike, each by its pool and by its row there; and their laws.
use Rattle.std.specs.Prelude.{◌≡◌, ◌<◌, ◌^◌, ◌⊎◌, Bool, true, false, Option, is_some, option_map, IsSomeAnd}
use Rattle.prost_reflect_wire.specs.Schema.{FieldForm, is_list, is_singular, passes}
use Rattle.prost_reflect_wire.specs.Typing.{value_valid}
use Rattle.prost_reflect_tables.specs.Linking.{is_packable}
use Rattle.prost_reflect_tables.specs.Rows.{FieldRow}
use Rattle.prost_reflect_tables.specs.Shown.{schema_field}
use Rattle.prost_reflect_pool.specs.SharedPools.{pool_rows}
use Rattle.prost_reflect_dynamic.specs.Defaults.{row_default, IsRowDefault}
use Rattle.prost_reflect_dynamic.specs.View.{value_of}
use Rattle.prost_reflect_dynamic.specs.declared.descriptor.pool.DescriptorPool.{DescriptorPool}
use Rattle.prost_reflect_dynamic.specs.declared.value.Value.{Value}

-- VALUES

-- The value fits, by the form and the kind.
abbrev pub takes_by_row : DescriptorPool → Option FieldRow → Value → Bool
takes_by_row pool row v = passes (option_map (schema_field (pool_rows pool.inner)) row) (λ f. value_valid f (value_of v))

-- There is presence, or the value is not the default.
abbrev pub HasByRow : DescriptorPool → Option FieldRow → Value → Type 0
HasByRow pool row v = IsSomeAnd row (λ f. (f.supports_presence ≡ true) ⊎ (¬ IsRowDefault pool.inner f v))

-- LAWS

abbrev pub row_form : DescriptorPool → FieldRow → FieldForm
row_form pool f = (schema_field (pool_rows pool.inner) f).form

abbrev pub NumberInRange : FieldRow → Type 0
NumberInRange f = (0 < f.number) × (f.number < 2 ^ 29)

-- The default fits.
abbrev pub DefaultFits : DescriptorPool → FieldRow → Type 0
DefaultFits pool f = value_valid (schema_field (pool_rows pool.inner) f) (row_default (pool_rows pool.inner) f) ≡ true

-- A list or a map has no presence.
abbrev pub RepeatedWithoutPresence : DescriptorPool → FieldRow → Type 0
RepeatedWithoutPresence pool f = is_singular (row_form pool f) ≡ false → f.supports_presence ≡ false

-- What is packed is a list of a packable kind.
abbrev pub PackedAsList : DescriptorPool → FieldRow → Type 0
PackedAsList pool f = f.is_packed ≡ true → (is_packable f.kind ≡ true) × (is_list (row_form pool f) ≡ true)

-- A member of a oneof has presence, and is neither a list nor a map.
abbrev pub MemberWithPresence : DescriptorPool → FieldRow → Type 0
MemberWithPresence pool f = is_some f.oneof ≡ true → (f.supports_presence ≡ true) × (is_singular (row_form pool f) ≡ true)
