use Rattle.prost_reflect_reduction.proofs.Common.{ap₂, sym, ◌∙◌, same_scalar_kind, rows_of, enum_kind}
use Rattle.prost_reflect_reduction.proofs.Enums.{pair_noted, pair_more}
use Rattle.prost_reflect_reduction.proofs.kinds.enums_same.Goals as goal

pub returns-then-contains-clause-same : goal.returns-then-contains-clause-same
returns-then-contains-clause-same c = pair_noted c.args.same_enums.now (rows_of c.args.older.now).enums (rows_of c.args.newer.now).enums (c.args.older_place, c.args.newer_place) c.requires.enums (sym c.contains.ensures ∙ c.if-contains.true)

pub returns-clause-enums : goal.returns-clause-enums
returns-clause-enums c =
    let same = sym c.if-not-branch.false ∙ (c.in_ok-same_enum_or_none.ensures ∙ ap₂ (λ x y. same_scalar_kind (enum_kind x) (enum_kind y)) c.enum_at.ensures c.enum_at-2.ensures) in
    pair_more c.args.same_enums.now c.insert.new.self (rows_of c.args.older.now).enums (rows_of c.args.newer.now).enums (c.args.older_place, c.args.newer_place) c.requires.enums same c.in_ok-insert.ensures.updates.0
