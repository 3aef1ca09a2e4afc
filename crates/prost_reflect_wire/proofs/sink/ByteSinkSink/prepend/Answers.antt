use Rattle.std.proofs.Common.{rules}
use Rattle.prost_reflect_wire.proofs.ByteLists.{bytes_by_index}
use Rattle.prost_reflect_wire.proofs.SinkSteps.{step_added}
use Rattle.prost_reflect_wire.proofs.sink.ByteSinkSink.prepend.Goals as goal

pub returns-else-is_ok-clause-bytes : goal.returns-else-is_ok-clause-bytes
returns-else-is_ok-clause-bytes c = bytes_by_index _ c.type_inv.front

pub returns-then-is_ok-clause-bytes : goal.returns-then-is_ok-clause-bytes
returns-then-is_ok-clause-bytes c = bytes_by_index _ c.type_inv.front

pub returns-then-is_ok-clause-added : goal.returns-then-is_ok-clause-added
returns-then-is_ok-clause-added c = step_added c.args.self.now _ c.args.front.now (search rules) c.prepend-self.ensures
