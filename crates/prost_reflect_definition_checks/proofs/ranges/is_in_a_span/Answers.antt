use Rattle.prost_reflect_definition_checks.proofs.Common.{ℕ, leb, rules, sym, subst, arith, Splits, in_no_span, in_last_span}
use Rattle.std.proofs.lemmas.List.Sorted.{IsPartitionPoint-from_clause, IsPartitionedBy-leb}
use Rattle.prost_reflect_definition_checks.proofs.ranges.is_in_a_span.Goals as goal

pub returns-then-count-eq0 : goal.returns-then-count-eq0
returns-then-count-eq0 c =
    let number = c.args.number in
    let spans = c.args.spans.now in
    let parted = IsPartitionedBy-leb (λ (s : ℕ × ℕ). s.0) spans number c.requires.starts in
    let point = IsPartitionPoint-from_clause (λ (s : ℕ × ℕ). leb s.0 number) spans c.partition_point-count.result c.partition_point-count.ensures.partitioned parted (λ a r q k. search rules) in
    sym (in_no_span number spans (subst (Splits number spans) c.if-count-eq0.true point))

pub returns : goal.returns
returns c =
    let number = c.args.number in
    let spans = c.args.spans.now in
    let parted = IsPartitionedBy-leb (λ (s : ℕ × ℕ). s.0) spans number c.requires.starts in
    let point = IsPartitionPoint-from_clause (λ (s : ℕ × ℕ). leb s.0 number) spans c.partition_point-count.result c.partition_point-count.ensures.partitioned parted (λ a r q k. search rules) in
    in_last_span number c.partition_point-count.result spans (0, 0) (omega (arith, c.if-count-eq0.false)) c.partition_point-count.ensures.bound point c.requires.ends
