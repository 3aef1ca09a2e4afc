-- What kinds have where nothing is stored.
use Rattle.std.specs.Prelude.{◌≡◌}
use Rattle.prost_reflect_tables.proofs.Common.{ℕ, Bool, List, None, refl, IsSome, IsSomeAnd, Scalar, kind_default, TableKind, EnumRow, schema_default, schema_kind, plain_kind}
use Rattle.prost_reflect_tables.specs.declared.tables.TableKind.TheVariants as kinds

pub scalar_kind : (kind : TableKind) → ((T : ℕ) → kind ≡ kinds.Message T → ⊥) → IsSome (plain_kind kind)
scalar_kind (kinds.Message T) other = absurd (other T refl)
scalar_kind kind other = refl

-- zero, false or empty, by a kind that is none of enums
pub zero_is : (enums : List EnumRow) (kind : TableKind) (s : Scalar) → IsSomeAnd (plain_kind kind) (λ k. s ≡ kind_default k) → ((E : ℕ) → kind ≡ kinds.Enum E → ⊥) → (g : Bool) → s ≡ schema_default None (schema_kind enums kind g)
zero_is enums (kinds.Message T) s is other g = absurd is
zero_is enums (kinds.Enum E) s is other g = absurd (other E refl)
zero_is enums kind s is other g = is
