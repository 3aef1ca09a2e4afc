use Rattle.std.proofs.Common.{◌+◌, ◌*◌}
use Rattle.prototool_commands.proofs.print.fields.+reading.Given as goal

abbrev pub decreases-read_fields : goal.decreases-read_fields
decreases-read_fields l = 2 * l.levels + 1

abbrev pub decreases-read_value : goal.decreases-read_value
decreases-read_value l = 2 * l.levels
