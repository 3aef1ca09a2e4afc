use Rattle.prost_reflect_wire.proofs.SinkSteps.{counted_alone}
use Rattle.prost_reflect_wire.proofs.sink.LengthSink.total.Goals as goal

pub returns : goal.returns
returns c = λ start front h adds. counted_alone start c.args.self front h adds
