use Rattle.prost_reflect_dynamic.proofs.Keys.{keys_compared, keys_equal, keys_hashed, keys_alike}
use Rattle.prost_reflect.proofs.laws.key_order.Goals as goal

pub returns : goal.returns
returns c = record { order = keys_compared; equality = keys_equal; hash = keys_hashed; alike = keys_alike }
