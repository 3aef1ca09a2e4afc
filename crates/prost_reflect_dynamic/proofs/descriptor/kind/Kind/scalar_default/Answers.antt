use Rattle.std.specs.Prelude.{◌≡◌}
use Rattle.prost_reflect_dynamic.proofs.Common.{rules, subst, sym, IsSome, IsSomeAnd, kind_default, TableKind, plain_kind, scalar_of}
use Rattle.prost_reflect_dynamic.proofs.KindDefaults.{first_taken, scalar_kind, zero_of}
use Rattle.prost_reflect_dynamic.proofs.descriptor.kind.Kind.scalar_default.Goals as goal

pub zero-requires : goal.zero-requires
zero-requires c = subst (λ (k : TableKind). IsSome (plain_kind k)) (sym c.to_table.ensures) (scalar_kind c.args.self.now c.requires)

pub returns-in_default-clause-default : goal.returns-in_default-clause-default
returns-in_default-clause-default c =
    (zero_of c.args.self.now (scalar_of c.zero.result) (subst (λ (k : TableKind). IsSomeAnd (plain_kind k) (λ s. scalar_of c.zero.result ≡ kind_default s)) c.to_table.ensures c.zero.ensures) c.in_default.not-Enum).named

pub returns-in_default-clause-valid : goal.returns-in_default-clause-valid
returns-in_default-clause-valid c =
    (zero_of c.args.self.now (scalar_of c.zero.result) (subst (λ (k : TableKind). IsSomeAnd (plain_kind k) (λ s. scalar_of c.zero.result ≡ kind_default s)) c.to_table.ensures c.zero.ensures) c.in_default.not-Enum).taken

pub returns-in-Enum-clause-valid : goal.returns-in-Enum-clause-valid
returns-in-Enum-clause-valid c = let t = first_taken c.in-Enum.e c.first_number.result c.first_number.ensures.first c.first_number.ensures.range in rw c.in-Enum.is (search rules)
