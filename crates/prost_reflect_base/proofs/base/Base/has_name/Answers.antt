use Rattle.std.specs.Prelude.{◌||◌}
use Rattle.std.proofs.Common.{ap, sym, ◌∙◌}
use Rattle.prost_reflect_base.specs.Below.{rows_below}
use Rattle.prost_reflect_base.proofs.FullNames.{all_told, among_values}
use Rattle.prost_reflect_base.proofs.base.Base.has_name.Goals as goal

pub returns-then-has_name_but_of_values : goal.returns-then-has_name_but_of_values
returns-then-has_name_but_of_values c =
    let name = c.args.full_name.now in
    let told = all_told c.args.self.now.pool.now name ∙ ap (λ b. b || among_values name (rows_below c.args.self.now)) (sym c.has_name_but_of_values.ensures ∙ c.if-has_name_but_of_values.true) in
    c.if-has_name_but_of_values.true ∙ sym told

pub returns-else-has_name_but_of_values : goal.returns-else-has_name_but_of_values
returns-else-has_name_but_of_values c =
    let name = c.args.full_name.now in
    let told = all_told c.args.self.now.pool.now name ∙ ap (λ b. b || among_values name (rows_below c.args.self.now)) (sym c.has_name_but_of_values.ensures ∙ c.if-has_name_but_of_values.false) in
    c.has_value.ensures ∙ sym told
