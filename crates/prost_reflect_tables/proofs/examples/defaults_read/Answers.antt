use Rattle.prost_reflect_tables.proofs.WorkedDefaults.{integers, floats, others, escapes}
use Rattle.prost_reflect_tables.proofs.examples.defaults_read.Goals as goal

pub returns : goal.returns
returns c = record { integers = integers; floats = floats; others = others; escapes = escapes }
