use Rattle.std.proofs.Common.{refl, ap, sym, [], ◌∙◌, option_map}
use Rattle.prost_reflect_tables.specs.Rows.{written_scalar}
use Rattle.protorelay_commands.proofs.Paths.{number_read, number_missing}
use Rattle.protorelay_commands.proofs.path.number_of.Goals as goal

pub returns-in-Some : goal.returns-in-Some
returns-in-Some c = c.number_in.ensures ∙ number_read c.args.digits.now c.in-Some.default (sym (ap (option_map written_scalar) c.in-Some.is) ∙ c.in_ok-read.ensures [] refl)

pub returns-in-None : goal.returns-in-None
returns-in-None c = number_missing c.args.digits.now (sym (ap (option_map written_scalar) c.in-None.is) ∙ c.in_ok-read.ensures [] refl)
