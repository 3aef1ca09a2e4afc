use Rattle.prost_reflect_growth.proofs.Common.{ltb, rules}
use Rattle.std.proofs.lemmas.List.Sorted.{IsPartitionPoint-from_clause, IsPartitionedBy-ltb}
use Rattle.prost_reflect_tables.proofs.Grouping.{smaller_count}
use Rattle.prost_reflect_growth.proofs.rows.smaller.Goals as goal

pub returns : goal.returns
returns c =
    let parted = IsPartitionedBy-ltb (λ f. f.number) c.args.rows.now c.args.number c.requires in
    let point = IsPartitionPoint-from_clause (λ f. ltb f.number c.args.number) c.args.rows.now c.partition_point.result c.partition_point.ensures.partitioned parted (λ a r q k. search rules) in
    smaller_count c.args.number c.partition_point.result c.args.rows.now c.partition_point.ensures.bound point
