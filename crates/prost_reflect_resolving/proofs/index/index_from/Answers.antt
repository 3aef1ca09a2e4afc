use Rattle.std.proofs.Common.{[], arith}
use Rattle.std.proofs.lemmas.Map.Text.{text_keys}
use Rattle.prost_reflect_resolving.proofs.NamePlaces.{place_more}
use Rattle.prost_reflect_resolving.proofs.index.index_from.Goals as goal

pub loop-offset-preserved : goal.loop-offset-preserved
loop-offset-preserved c = λ name. grind (arith, text_keys, c.loop-offset.invariant name, place_more c.args.first name c.args.names.now c.loop-offset.offset (record { ref_ptr = (0, 0); now = [] }) c.loop-offset-test.true)
