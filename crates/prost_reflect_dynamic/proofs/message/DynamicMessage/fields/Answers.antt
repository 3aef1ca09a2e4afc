use Rattle.prost_reflect_dynamic.proofs.Common.{rules, false, had_pairs, IsPart}
use Rattle.prost_reflect_dynamic.proofs.Depths.{fields_hold, fields_inside, fields_own}
use Rattle.prost_reflect_dynamic.proofs.Parts.{pairs_part}
use Rattle.prost_reflect_dynamic.proofs.message.DynamicMessage.fields.Goals as goal

pub returns-clause-inside : goal.returns-clause-inside
returns-clause-inside c = fields_inside c.args.self.now _ (search rules)

pub returns-clause-own : goal.returns-clause-own
returns-clause-own c = fields_own c.args.self.now _ (search rules)

pub returns-clause-parts : goal.returns-clause-parts
returns-clause-parts c =
    let m = c.args.self.now in
    fields_hold (IsPart m) _ (had_pairs false m) (search rules) (pairs_part m c.had_values.ensures.ascending false)
