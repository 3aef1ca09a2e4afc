use Rattle.std.proofs.Common.{◌≡◌, ◌+◌, ◌*◌, length, map}
use Rattle.prost_reflect_wire.specs.Content.{values_from}
use Rattle.prost_reflect_dynamic.specs.View.{value_of}
use Rattle.prototool_commands.specs.Redacting.{AreWell, cleared_along}
use Rattle.prototool_commands.proofs.ClearedCalls.{EntriesCleared}
use Rattle.prototool_commands.proofs.ClearedLists.{in_first}
use Rattle.prototool_commands.proofs.redact.clearing.+clearing.Given as goal

abbrev pub decreases-clear_along : goal.decreases-clear_along
decreases-clear_along l = 6 * length l.path.now

abbrev pub decreases-clear_through : goal.decreases-clear_through
decreases-clear_through l = 6 * length l.rest.now + 5

abbrev pub decreases-clear_in_extension : goal.decreases-clear_in_extension
decreases-clear_in_extension l = 6 * length l.path.now + 4

abbrev pub decreases-clear_in_field : goal.decreases-clear_in_field
decreases-clear_in_field l = 6 * length l.path.now + 4

abbrev pub decreases-clear_inside : goal.decreases-clear_inside
decreases-clear_inside l = 6 * length l.path.now + 3

abbrev pub decreases-clear_elements : goal.decreases-clear_elements
decreases-clear_elements l = 6 * length l.path.now + 2

abbrev pub decreases-clear_entries : goal.decreases-clear_entries
decreases-clear_entries l = 6 * length l.path.now + 2

abbrev pub decreases-clear_element : goal.decreases-clear_element
decreases-clear_element l = 6 * length l.path.now + 1

-- the elements in front were cleared, and the others stand as they did
abbrev pub invariant-clear_elements-loop-value : goal.invariant-clear_elements-loop-value
invariant-clear_elements-loop-value l =
    AreWell (values_from (map value_of l.fn.values.items)) → values_from (map value_of l.value-items) ≡ in_first (cleared_along l.path) l.value-index (values_from (map value_of l.fn.values.items))

abbrev pub invariant-clear_entries-loop-key : goal.invariant-clear_entries-loop-key
invariant-clear_entries-loop-key l = EntriesCleared l.path l.fn.entries.entries l.key-iterator l.entries.entries
