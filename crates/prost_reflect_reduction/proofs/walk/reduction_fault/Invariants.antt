use Rattle.std.specs.Prelude.{◌-◌}
use Rattle.prost_reflect_reduction.proofs.Common.{length, rows_of, schema_of, all_pairs, AreSameEnums, IsSetOf, Walking, IsPairAt, AreSources}
use Rattle.prost_reflect_reduction.proofs.walk.reduction_fault.Given as goal

abbrev pub invariant-loop-next : goal.invariant-loop-next
invariant-loop-next l = record {
  set : IsSetOf l.set l.pairs.items;
  enums : AreSameEnums l.same_enums (rows_of l.older).enums (rows_of l.newer).enums;
  walking : Walking (schema_of l.older) l.older_place (schema_of l.newer) l.newer_place l.next l.pairs.items;
  first : IsPairAt l.pairs.items 0 l.older_place l.newer_place;
  sources : AreSources (schema_of l.older) (schema_of l.newer) l.pairs.items l.sources.items;
}

abbrev pub decreases-loop-next : goal.decreases-loop-next
decreases-loop-next l = length (all_pairs (schema_of l.older) (schema_of l.newer)) - l.next
