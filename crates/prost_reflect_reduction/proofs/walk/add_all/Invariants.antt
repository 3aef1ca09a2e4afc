use Rattle.std.specs.Prelude.{◌≡◌}
use Rattle.prost_reflect_reduction.proofs.Common.{ℕ, true, map, drop, flat_map, known, numbers_differ, field_row, schema_field, rows_of, schema_of, field_asks, joined, IsSetOf, IsPairAt, AreSources}
use Rattle.prost_reflect_reduction.proofs.walk.add_all.Given as goal

abbrev pub invariant-loop-field : goal.invariant-loop-field
invariant-loop-field l = record {
  set : IsSetOf l.set l.pairs.items;
  left : joined l.pairs.items (flat_map (field_asks (known (schema_of l.newer) l.newer_place)) (map (schema_field (rows_of l.older)) (map field_row (drop l.field-index l.fields))))
      ≡ joined l.fn.pairs.items (flat_map (field_asks (known (schema_of l.newer) l.newer_place)) (map (schema_field (rows_of l.older)) (map field_row l.fields)));
  sources : (older_place : ℕ) → IsPairAt l.fn.pairs.items l.pair older_place l.newer_place → map (schema_field (rows_of l.older)) (map field_row l.fields) ≡ known (schema_of l.older) older_place → numbers_differ (known (schema_of l.older) older_place) ≡ true →
      AreSources (schema_of l.older) (schema_of l.newer) l.fn.pairs.items l.fn.sources.items → IsPairAt l.pairs.items l.pair older_place l.newer_place × AreSources (schema_of l.older) (schema_of l.newer) l.pairs.items l.sources.items;
}
