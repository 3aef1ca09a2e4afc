use Rattle.std.proofs.Common.{◌≡◌}
use Rattle.std.specs.List.{list_any}
use Rattle.prost_reflect.specs.Edits.{is_message}
use Rattle.prost_reflect_dynamic.specs.View.{value_of}
use Rattle.prost_reflect.proofs.relaying.edit.any_message_in.Given as goal

-- one is a message where one of those that are left is
abbrev pub invariant-loop-value : goal.invariant-loop-value
invariant-loop-value l = list_any (λ e. is_message (value_of e.1)) l.pairs.entries ≡ list_any (λ e. is_message (value_of e.1)) l.value-iterator
