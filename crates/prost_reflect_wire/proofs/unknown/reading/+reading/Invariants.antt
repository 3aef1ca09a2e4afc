use Rattle.std.specs.Prelude.{◌+◌, ◌*◌, ◌<◌}
use Rattle.prost_reflect_wire.proofs.Common.{length, body_of, raw_levels, RecordsFront, records_of}
use Rattle.prost_reflect_wire.proofs.unknown.reading.+reading.Given as goal

abbrev pub decreases-decode_group : goal.decreases-decode_group
decreases-decode_group l = 2 * l.levels

abbrev pub decreases-decode_payload : goal.decreases-decode_payload
decreases-decode_payload l = 2 * l.levels + 1

-- the records so far are a front of the bytes
abbrev pub invariant-decode_group-loop-fields : goal.invariant-decode_group-loop-fields
invariant-decode_group-loop-fields l = record {
  front : RecordsFront (body_of (records_of l.fields)) l.bytes l.rest;
  within : raw_levels (body_of (records_of l.fields)) < l.levels;
}

abbrev pub decreases-decode_group-loop-fields : goal.decreases-decode_group-loop-fields
decreases-decode_group-loop-fields l = length l.rest
