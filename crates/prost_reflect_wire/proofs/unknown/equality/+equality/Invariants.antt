use Rattle.std.specs.Prelude.{◌≡◌}
use Rattle.prost_reflect_wire.proofs.Common.{drop, map, body_of, unknown_record, unknown_fields_of, records_eq, set_eq}
use Rattle.prost_reflect_wire.proofs.unknown.equality.+equality.Given as goal

-- the sets are equal exactly if what is left of them is
abbrev pub invariant-equal_sets-loop-index : goal.invariant-equal_sets-loop-index
invariant-equal_sets-loop-index l = records_eq (body_of (map unknown_record (drop l.index (unknown_fields_of l.a)))) (body_of (map unknown_record (drop l.index (unknown_fields_of l.b)))) ≡ set_eq l.a l.b
