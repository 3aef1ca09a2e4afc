use Rattle.prost_reflect_dynamic.proofs.Common.{rules, ◌∙◌, field_row}
use Rattle.prost_reflect_dynamic.proofs.OwnExtensions.{own_extension_takes}
use Rattle.prost_reflect_dynamic.proofs.value.Value.is_valid_for_extension.Goals as goal

pub returns-clause-fits : goal.returns-clause-fits
returns-clause-fits c = search rules

pub returns-clause-by_number : goal.returns-clause-by_number
returns-clause-by_number c = λ t own. returns-clause-fits c ∙ own_extension_takes t c.args.extension.now (field_row c.table.result.now) c.args.self.now own c.table.ensures.row
