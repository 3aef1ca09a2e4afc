-- Which extensions are a message's own.
use Rattle.std.specs.Prelude.{◌≡◌, ℕ, Bool, Some, option_map, unwrap_or}
use Rattle.prost_reflect_pool.specs.SharedPools.{pool_contents}
use Rattle.prost_reflect_pool.specs.declared.pooled_type.PooledType.{PooledType}
use Rattle.prost_reflect_dynamic.specs.NamedExtensions.{extension_named, extension_row_named}
use Rattle.prost_reflect_dynamic.specs.RowLaws.{takes_by_row}
use Rattle.prost_reflect_dynamic.specs.declared.descriptor.extension.ExtensionDescriptor.{ExtensionDescriptor}
use Rattle.prost_reflect_dynamic.specs.declared.value.Value.{Value}

-- The extension extends the message type: it is of a pool whose files hold the same, and extends the message type at the same place.
abbrev pub IsOwnExtension : PooledType → ExtensionDescriptor → Type 0
IsOwnExtension t x = (pool_contents x.pool.inner ≡ pool_contents t.pool) × (option_map (λ e. e.message) (extension_named x) ≡ Some t.index)

abbrev pub extension_number : ExtensionDescriptor → ℕ
extension_number x = unwrap_or (option_map (λ f. f.number) (extension_row_named x)) 0

-- The value fits the extension, by its form and its kind.
abbrev pub extension_takes : ExtensionDescriptor → Value → Bool
extension_takes x v = takes_by_row x.pool (extension_row_named x) v
