use Rattle.std.specs.Prelude.{◌≡◌}
use Rattle.prost_reflect_fields.proofs.Common.{[], items_left, known_of}
use Rattle.prost_reflect_fields.proofs.AllNoted.{notes_of}
use Rattle.prost_reflect_fields.proofs.noting.noted_members.Given as goal

-- what is noted, with the notes of what is left, is what all slots give
abbrev pub invariant-loop-number : goal.invariant-loop-number
invariant-loop-number g l = notes_of (known_of l.message_type) l.notes.entries (items_left l.number-iterator) ≡ notes_of (known_of l.message_type) [] (items_left l.fn.slots)
