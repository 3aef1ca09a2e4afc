use Rattle.std.specs.Prelude.{◌≡◌, ◌++◌}
use Rattle.prost_reflect_building.proofs.Common.{map, drop, field_view, scalar_view}
use Rattle.prost_reflect_building.proofs.builtin.scalar_fields.Given as goal

abbrev pub invariant-loop-code : goal.invariant-loop-code
invariant-loop-code l = map field_view l.fields.items ++ map (λ f. scalar_view f.0 f.1.now) (drop l.code-index l.list) ≡ map (λ f. scalar_view f.0 f.1.now) l.list
