use Rattle.std.specs.Prelude.{◌≡◌, ◌++◌}
use Rattle.prost_reflect_dynamic.proofs.Common.{ℕ, List, map, take, items_left, FieldSlot, stored_in, MapKey, Value, pairs_seen, value_stored}
use Rattle.prost_reflect_dynamic.proofs.Copied.{parts_of}
use Rattle.prost_reflect_dynamic.proofs.message.copy.+copy.Given as goal

abbrev pub invariant-copy_message-loop-number : goal.invariant-copy_message-loop-number
invariant-copy_message-loop-number l = (done : List (ℕ × FieldSlot Value)) × (stored_in l.message ≡ done ++ items_left l.number-iterator) × (parts_of l.fields.0 ≡ parts_of done)

abbrev pub invariant-copy_pairs-loop-key : goal.invariant-copy_pairs-loop-key
invariant-copy_pairs-loop-key l = (done : List (MapKey × Value)) × (l.pairs.entries ≡ done ++ l.key-iterator) × (pairs_seen l.copied.entries ≡ pairs_seen done)

abbrev pub invariant-copy_values-loop-value : goal.invariant-copy_values-loop-value
invariant-copy_values-loop-value l = map value_stored l.copied.items ≡ map value_stored (take l.value-index l.value-items)
