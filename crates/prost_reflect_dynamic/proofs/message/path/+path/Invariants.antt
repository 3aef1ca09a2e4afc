use Rattle.std.specs.Prelude.{◌+◌, ◌*◌}
use Rattle.prost_reflect_dynamic.proofs.Common.{length}
use Rattle.prost_reflect_dynamic.proofs.message.path.+path.Given as goal

abbrev pub decreases-set_at_path : goal.decreases-set_at_path
decreases-set_at_path l = 2 * length l.path.now

abbrev pub decreases-set_in_held : goal.decreases-set_in_held
decreases-set_in_held l = 2 * length l.path.now + 1
