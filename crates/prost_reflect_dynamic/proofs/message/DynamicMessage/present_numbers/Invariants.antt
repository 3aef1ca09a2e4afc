use Rattle.std.specs.Prelude.{◌≡◌, ◌++◌}
use Rattle.prost_reflect_dynamic.proofs.Common.{flat_map, known_of, message_type_of, stored_in, items_left, entry_present}
use Rattle.prost_reflect_dynamic.proofs.message.DynamicMessage.present_numbers.Given as goal

-- what is present in all entries was found, or is in those that are left
abbrev pub invariant-loop-number : goal.invariant-loop-number
invariant-loop-number l =
    flat_map (λ e. entry_present (known_of (message_type_of l.self)) e.0 e.1) (stored_in l.self) ≡ l.numbers.items ++ flat_map (λ e. entry_present (known_of (message_type_of l.self)) e.0 e.1) (items_left l.number-iterator)
