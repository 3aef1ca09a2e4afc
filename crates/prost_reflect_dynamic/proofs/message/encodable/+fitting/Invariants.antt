use Rattle.std.specs.Prelude.{◌≡◌, ◌++◌}
use Rattle.prost_reflect_dynamic.proofs.Common.{ℕ, List, drop, fit_test, value_passes, encodable, known_of, items_left, FieldSlot, Value, fits_at, slots_pass, items_pass, entries_pass, value_arranged, content_of, message_type_of, stored_in}
use Rattle.prost_reflect_dynamic.proofs.message.encodable.+fitting.Given as goal

-- all fit, and are in order, where those that are left are
abbrev pub invariant-message_fits-loop-number : goal.invariant-message_fits-loop-number
invariant-message_fits-loop-number l =
    (slots_pass (fits_at (known_of (message_type_of l.message))) (items_left l.number-iterator) ≡ encodable (content_of l.message)) ×
    (slots_pass (λ n v. value_arranged v) (items_left l.number-iterator) ≡ slots_pass (λ n v. value_arranged v) (stored_in l.message)) ×
    ((done : List (ℕ × FieldSlot Value)) × (stored_in l.message ≡ done ++ items_left l.number-iterator))

abbrev pub invariant-items_fit-loop-value : goal.invariant-items_fit-loop-value
invariant-items_fit-loop-value l =
    (items_pass (value_passes fit_test) (drop l.value-index l.value-items) ≡ items_pass (value_passes fit_test) l.values.items) ×
    (items_pass value_arranged (drop l.value-index l.value-items) ≡ items_pass value_arranged l.values.items)

abbrev pub invariant-entries_fit-loop-value : goal.invariant-entries_fit-loop-value
invariant-entries_fit-loop-value l =
    (entries_pass (value_passes fit_test) l.value-iterator ≡ entries_pass (value_passes fit_test) l.pairs.entries) ×
    (entries_pass value_arranged l.value-iterator ≡ entries_pass value_arranged l.pairs.entries)
