use Rattle.prost_reflect_pool.proofs.Common.{rules, to_z-of_z}
use Rattle.prost_reflect_pool.specs.RecordViews.{record_view}
use Rattle.prost_reflect_pool.proofs.PathWalks.{walked_on, walked_off}
use Rattle.prost_reflect_pool.proofs.records.+record_below.Goals as goal

pub returns-in-Some : goal.returns-in-Some
returns-in-Some t c = walked_on (record_view c.args.start) (record_view c.in-Some.inner) c.args.path.now _ c.in-len2-up.len_at_least (search (rules, to_z-of_z)) (search (rules, to_z-of_z)) c.in-Some.ensures c.record_below.ensures

pub returns-in-None : goal.returns-in-None
returns-in-None t c = walked_off (record_view c.args.start) c.args.path.now c.in-len2-up.len_at_least (search (rules, to_z-of_z)) (search (rules, to_z-of_z)) c.in-None.ensures
