use Rattle.std.specs.Prelude.{◌≤◌}
use Rattle.prost_reflect_pool.proofs.Common.{length, arith, length-map, files_of}
use Rattle.prost_reflect_pool.proofs.PathWalks.{unfiled}
use Rattle.prost_reflect_pool.proofs.pool.LinkedPool.record_of.Goals as goal

pub returns-in-None : goal.returns-in-None
returns-in-None c =
    let past : length (files_of c.args.self.now) ≤ c.args.id.now.file = grind (arith, length-map, c.in-None.ensures.lookup) in
    unfiled (files_of c.args.self.now) c.args.id.now.file c.args.id.now.path.items past
