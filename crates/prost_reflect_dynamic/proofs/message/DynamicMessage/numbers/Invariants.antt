use Rattle.std.specs.Prelude.{◌≡◌, ◌++◌}
use Rattle.prost_reflect_dynamic.proofs.Common.{drop, flat_map, number_listed}
use Rattle.prost_reflect_dynamic.proofs.message.DynamicMessage.numbers.Given as goal

-- the numbers of all were listed, or are in what is left
abbrev pub invariant-loop-item : goal.invariant-loop-item
invariant-loop-item l = flat_map (number_listed l.of_extensions) l.item-items ≡ l.numbers.items ++ flat_map (number_listed l.of_extensions) (drop l.item-index l.item-items)
