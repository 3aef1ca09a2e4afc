use Rattle.prost_reflect_pool.proofs.NoFiles.{none_listed}
use Rattle.prost_reflect_pool.proofs.pool.empty_catalog.Goals as goal

pub returns : goal.returns
returns c = none_listed c.new.result c.new-2.result c.new-3.result c.new-4.result c.new-5.result c.new-6.result c.new-7.result c.new-8.result c.new-9.result c.new-10.result c.new-11.result
    c.new.ensures c.new-2.ensures c.new-3.ensures c.new-4.ensures c.new-5.ensures c.new-6.ensures c.new-7.ensures c.new-8.ensures c.new-9.ensures c.new-10.ensures c.new-11.ensures
