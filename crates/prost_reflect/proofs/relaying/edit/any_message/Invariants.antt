use Rattle.std.proofs.Common.{◌≡◌, drop}
use Rattle.std.specs.List.{list_any}
use Rattle.prost_reflect.specs.Edits.{is_message}
use Rattle.prost_reflect_dynamic.specs.View.{value_of}
use Rattle.prost_reflect.proofs.relaying.edit.any_message.Given as goal

-- one is a message where one of those that are left is
abbrev pub invariant-loop-value : goal.invariant-loop-value
invariant-loop-value l = list_any (λ v. is_message (value_of v)) l.values ≡ list_any (λ v. is_message (value_of v)) (drop l.value-index l.values)
