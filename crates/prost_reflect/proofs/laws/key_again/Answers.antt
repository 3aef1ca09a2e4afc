use Rattle.prost_reflect_dynamic.proofs.Keys.{keys_again, keys_same}
use Rattle.prost_reflect.proofs.laws.key_again.Goals as goal

pub returns : goal.returns
returns c = record { again = keys_again; equal = keys_same }
