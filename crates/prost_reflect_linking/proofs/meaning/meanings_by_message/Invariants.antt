use Rattle.std.specs.Prelude.{◌≡◌, ◌++◌}
use Rattle.std.specs.Vec.Iter.{into_iter_items}
use Rattle.prost_reflect_linking.proofs.Common.{map, resolved_lists}
use Rattle.prost_reflect_linking.specs.Meanings.{meaning_lists, meant}
use Rattle.prost_reflect_linking.proofs.meaning.meanings_by_message.Given as goal

abbrev pub invariant-loop-own : goal.invariant-loop-own
invariant-loop-own l = meaning_lists l.lists.items ++ map (λ rs. map meant rs) (resolved_lists (into_iter_items l.own-iterator)) ≡ map (λ rs. map meant rs) (resolved_lists l.fn.fields.items)
