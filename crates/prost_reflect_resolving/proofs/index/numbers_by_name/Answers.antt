use Rattle.std.proofs.Common.{arith}
use Rattle.std.proofs.lemmas.Map.Text.{text_keys}
use Rattle.prost_reflect_resolving.proofs.EnumNumbers.{number_more}
use Rattle.prost_reflect_resolving.proofs.index.numbers_by_name.Goals as goal

pub loop-value-preserved : goal.loop-value-preserved
loop-value-preserved c = λ name. grind (arith, text_keys, c.loop-value.invariant name, number_more name c.args.values.now c.loop-value.value-index c.value-item.result c.loop-value-test.true c.value-item.is)
