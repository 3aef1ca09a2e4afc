use Rattle.std.proofs.Common.{◌+◌, ◌*◌}
use Rattle.prototool_commands.proofs.print.unknown.+guessing.Given as goal

abbrev pub decreases-push_unknown : goal.decreases-push_unknown
decreases-push_unknown l = 2 * l.guesses

abbrev pub decreases-push_fields : goal.decreases-push_fields
decreases-push_fields l = 2 * l.guesses + 1
