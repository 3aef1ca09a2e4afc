use Rattle.prost_reflect_tables.proofs.WorkedDefaults.{no_integers, no_floats, no_others, no_escapes}
use Rattle.prost_reflect_tables.proofs.examples.defaults_refused.Goals as goal

pub returns : goal.returns
returns c = record { integers = no_integers; floats = no_floats; others = no_others; escapes = no_escapes }
