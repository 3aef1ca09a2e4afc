-- The default of a kind is one of its values.
use Rattle.std.specs.Prelude.{◌≡◌, ◌||◌, ◌∷◌}
use Rattle.prost_reflect_dynamic.proofs.Common.{ℤ, Bool, true, false, cond, List, [], length, map, nat_lt, IsTrue, Option, Some, None, refl, ap, sym, ◌∙◌, true≢false, IsSome, IsSomeAnd, is_utf8, chars, and_from, Decides-int_eq, int_eq, list_any, Scalar, Closed, Open, kind_default, in_i32, ScalarOf, ScalarValue, kind_takes, EnumRow, EnumValueRow, enum_kind, first_number, first_of, numbers_or_none, values_or_none, pool_rows, kind_named, table_kind, plain_kind, IsScalar}
use Rattle.prost_reflect_wire.specs.Scalar as scalars
use Rattle.prost_reflect_wire.specs.Scalar.{is_declared}
use Rattle.prost_reflect_dynamic.specs.NamedDefaults.{default_named}
use Rattle.prost_reflect_dynamic.specs.NamedEnums.{enum_row_at}
use Rattle.prost_reflect_dynamic.specs.declared.descriptor.enums.EnumDescriptor.{EnumDescriptor}
use Rattle.prost_reflect_dynamic.specs.declared.descriptor.kind.Kind.{Kind}
use Rattle.prost_reflect_dynamic.specs.declared.descriptor.kind.Kind.TheVariants as kinds
use Rattle.prost_reflect_dynamic.proofs.OwnRows.{first_there}

-- ENUMS

-- an enum declares its first number
first_declared : (e : EnumDescriptor) → is_declared (numbers_or_none (enum_row_at e)) (first_of (enum_row_at e)) ≡ true
first_declared e = of (enum_row_at e) (first_there (pool_rows e.pool.inner) e.index e.pool.inner.value.tables.linked e.in_range)
  where
    either : (a b : Bool) → a ≡ true → (a || b) ≡ true
    either true b h = refl
    either false b h = absurd (true≢false (sym h))

    among : (closed : Bool) (values : List EnumValueRow) → nat_lt 0 (length values) ≡ true →
        is_declared (cond closed (Closed (map (λ (v : EnumValueRow). v.number) values)) Open) (first_number (map (λ (v : EnumValueRow). v.number) values)) ≡ true
    among false values some = refl
    among true [] some = absurd (true≢false (sym some))
    among true (v ∷ values) some = either (int_eq v.number v.number) (list_any (int_eq v.number) (map (λ (v : EnumValueRow). v.number) values)) ((Decides-int_eq v.number v.number).1 refl)

    of : (o : Option EnumRow) → IsTrue (nat_lt 0 (length (values_or_none o))) → is_declared (numbers_or_none o) (first_of o) ≡ true
    of None some = refl
    of (Some row) some = among row.is_closed row.values some

number_taken : (o : Option EnumRow) (z : ℤ) → in_i32 z ≡ true → is_declared (numbers_or_none o) z ≡ true → kind_takes (ScalarOf (enum_kind o)) (scalars.EnumNumber z) ≡ true
number_taken None z range declared = and_from (in_i32 z) true range refl
number_taken (Some row) z range declared = and_from (in_i32 z) (is_declared (numbers_or_none (Some row)) z) range declared

pub first_taken : (e : EnumDescriptor) (z : ℤ) → z ≡ first_of (enum_row_at e) → in_i32 z ≡ true → kind_takes (kind_named (kinds.Enum e)) (scalars.EnumNumber z) ≡ true
first_taken e z is range = number_taken (enum_row_at e) z range (ap (is_declared (numbers_or_none (enum_row_at e))) is ∙ first_declared e)

-- OTHER KINDS

-- zero, false or empty, by a kind that is none of enums
pub record ZeroOf (kind : Kind) (s : Scalar) : Type 0 where
  pub named : ScalarValue s ≡ default_named kind
  pub taken : kind_takes (kind_named kind) s ≡ true

pub zero_of : (kind : Kind) (s : Scalar) → IsSomeAnd (plain_kind (table_kind kind)) (λ k. s ≡ kind_default k) → ((e : EnumDescriptor) → kind ≡ kinds.Enum e → ⊥) → ZeroOf kind s
unfolding is_utf8 chars
zero_of (kinds.Message message) s is other = absurd is
zero_of (kinds.Enum e) s is other = absurd (other e refl)
zero_of kind s is other = record { named = ap ScalarValue is; taken = ap (kind_takes (kind_named kind)) is }

pub scalar_kind : (kind : Kind) → IsScalar (default_named kind) → IsSome (plain_kind (table_kind kind))
scalar_kind (kinds.Message message) h = absurd h
scalar_kind kind h = refl
