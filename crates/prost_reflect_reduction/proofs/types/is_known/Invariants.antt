use Rattle.std.specs.Prelude.{◌≡◌}
use Rattle.prost_reflect_reduction.proofs.Common.{drop, is_known, shown_fields}
use Rattle.prost_reflect_reduction.proofs.types.is_known.Given as goal

abbrev pub invariant-loop-field : goal.invariant-loop-field
invariant-loop-field l = is_known (shown_fields l.tables l.fields) l.number ≡ is_known (shown_fields l.tables (drop l.field-index l.fields)) l.number
