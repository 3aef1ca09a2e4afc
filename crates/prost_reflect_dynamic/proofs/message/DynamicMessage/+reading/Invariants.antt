use Rattle.std.specs.Prelude.{◌≡◌, ◌+◌, ◌*◌, ◌-◌}
use Rattle.prost_reflect_dynamic.proofs.Common.{length, Progress, ReadsNestedEntry, content_of, message_type_of, StaysTyped}
use Rattle.prost_reflect_dynamic.proofs.message.DynamicMessage.+reading.Given as goal

abbrev pub decreases-merge_into : goal.decreases-merge_into
decreases-merge_into l = 6 * l.levels + 2

abbrev pub decreases-merge_records : goal.decreases-merge_records
decreases-merge_records l = 6 * l.levels + 5

abbrev pub decreases-merge_to_end : goal.decreases-merge_to_end
decreases-merge_to_end l = 6 * l.levels + 5

abbrev pub decreases-merge_record : goal.decreases-merge_record
decreases-merge_record l = 6 * l.levels + 4

abbrev pub decreases-merge_message : goal.decreases-merge_message
decreases-merge_message l = 6 * l.levels + 3

abbrev pub decreases-merge_first : goal.decreases-merge_first
decreases-merge_first l = 6 * l.levels + 2

abbrev pub decreases-merge_records-loop-rest : goal.decreases-merge_records-loop-rest
decreases-merge_records-loop-rest l = length l.rest

abbrev pub invariant-merge_records-loop-rest : goal.invariant-merge_records-loop-rest
invariant-merge_records-loop-rest l = record {
  progress : Progress l.levels (content_of l.fn.self) (content_of l.self) l.bytes l.rest;
  message_type : message_type_of l.self ≡ message_type_of l.fn.self;
  typed : StaysTyped l.fn.self l.self;
}

abbrev pub decreases-merge_to_end-loop-key : goal.decreases-merge_to_end-loop-key
decreases-merge_to_end-loop-key l = length l.rest

abbrev pub invariant-merge_to_end-loop-key : goal.invariant-merge_to_end-loop-key
invariant-merge_to_end-loop-key l = record {
  progress : Progress l.levels (content_of l.fn.self) (content_of l.self) l.bytes l.rest;
  message_type : message_type_of l.self ≡ message_type_of l.fn.self;
  typed : StaysTyped l.fn.self l.self;
}

abbrev pub decreases-merge_element : goal.decreases-merge_element
decreases-merge_element l = 6 * l.levels + 3

abbrev pub decreases-merge_nested : goal.decreases-merge_nested
decreases-merge_nested l = 6 * l.levels + 1

abbrev pub decreases-merge_entry : goal.decreases-merge_entry
decreases-merge_entry l = 6 * l.levels + 3

abbrev pub decreases-merge_entry_body : goal.decreases-merge_entry_body
decreases-merge_entry_body l = 6 * l.levels + 2

abbrev pub decreases-merge_entry_body-loop-rest : goal.decreases-merge_entry_body-loop-rest
decreases-merge_entry_body-loop-rest l = length l.rest

abbrev pub invariant-merge_entry_body-loop-rest : goal.invariant-merge_entry_body-loop-rest
invariant-merge_entry_body-loop-rest l = record {
  read : ReadsNestedEntry (l.levels - 1) l.key_kind l.key (content_of l.fn.self) (content_of l.self) l.body l.rest;
  message_type : message_type_of l.self ≡ message_type_of l.fn.self;
  typed : StaysTyped l.fn.self l.self;
}
