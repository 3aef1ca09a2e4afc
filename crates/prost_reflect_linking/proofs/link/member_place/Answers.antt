use Rattle.prost_reflect_linking.proofs.Common.{◌∙◌, ap, ltb, rules, map, length, filter, nat_lt, IsPartitionPoint-from_clause, IsPartitionedBy-ltb, FieldRow, field_row, smaller_count}
use Rattle.prost_reflect_linking.proofs.link.member_place.Goals as goal

pub returns : goal.returns
returns c =
    let number = c.natural_or_zero-number.result in
    let parted = IsPartitionedBy-ltb (λ f. f.number) c.args.fields.now number c.requires in
    let point = IsPartitionPoint-from_clause (λ f. ltb f.number number) c.args.fields.now c.partition_point.result c.partition_point.ensures.partitioned parted (λ a r q k. search rules) in
    smaller_count number c.partition_point.result c.args.fields.now c.partition_point.ensures.bound point
    ∙ ap (λ n. length (filter (λ (r : FieldRow). nat_lt r.number n) (map field_row c.args.fields.now))) c.natural_or_zero-number.ensures
