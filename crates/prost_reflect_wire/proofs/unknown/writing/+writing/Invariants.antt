use Rattle.std.specs.Prelude.{◌≡◌}
use Rattle.prost_reflect_wire.proofs.Common.{true, drop, map, spelled, body_of, valid, unknown_record, unknown_fields_of}
use Rattle.prost_reflect_wire.specs.Sinks.{Adds}
use Rattle.prost_reflect_wire.proofs.unknown.writing.+writing.Given as goal

-- the fields from the index on are written
abbrev pub invariant-write_fields-loop-index : goal.invariant-write_fields-loop-index
invariant-write_fields-loop-index g l = record {
  written : Adds g.S.Sink.added l.fn.sink l.sink (spelled (map unknown_record (drop l.index (unknown_fields_of l.fields))));
  spellable : valid (body_of (map unknown_record (drop l.index (unknown_fields_of l.fields)))) ≡ true;
}
