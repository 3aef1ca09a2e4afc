use Rattle.std.proofs.Common.{◌-◌, ap, ◌∙◌}
use Rattle.prost_reflect_wire.proofs.SinkSteps.{length_added}
use Rattle.prost_reflect_wire.proofs.sink.ByteSinkSink.prepend_len_since.Goals as goal

pub returns : goal.returns
returns c = λ start mid done body h m b. length_added start mid _ _ done body _ _ h m b (c.saturating_sub-len.ensures ∙ ap (λ n. n - c.args.before) c.len.ensures) c.prepend_varint.ensures
