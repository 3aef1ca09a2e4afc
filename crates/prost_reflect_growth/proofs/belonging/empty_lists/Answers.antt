use Rattle.prost_reflect_tables.proofs.Grouping.{empty_pushed}
use Rattle.prost_reflect_growth.proofs.belonging.empty_lists.Goals as goal

pub loop-preserved : goal.loop-preserved
loop-preserved g c = empty_pushed c.loop.counter c.loop.lists.items c.push.new.self.items c.new.result c.in_ok-push.ensures.items c.new.ensures.items c.loop.invariant
