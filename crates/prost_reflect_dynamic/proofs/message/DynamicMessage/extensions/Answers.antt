use Rattle.prost_reflect_dynamic.proofs.Common.{rules, true, had_pairs, IsPart}
use Rattle.prost_reflect_dynamic.proofs.Depths.{extensions_hold, extensions_inside, extensions_own}
use Rattle.prost_reflect_dynamic.proofs.Parts.{pairs_part}
use Rattle.prost_reflect_dynamic.proofs.message.DynamicMessage.extensions.Goals as goal

pub returns-clause-inside : goal.returns-clause-inside
returns-clause-inside c = extensions_inside c.args.self.now _ (search rules)

pub returns-clause-own : goal.returns-clause-own
returns-clause-own c = extensions_own c.args.self.now _ (search rules)

pub returns-clause-parts : goal.returns-clause-parts
returns-clause-parts c =
    let m = c.args.self.now in
    extensions_hold (IsPart m) _ (had_pairs true m) (search rules) (pairs_part m c.had_values.ensures.ascending true)
