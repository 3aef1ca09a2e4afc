use Rattle.prost_reflect_laws.proofs.Declared.{read_valid}
use Rattle.prost_reflect_laws.proofs.laws.read_is_valid.Goals as goal

pub returns : goal.returns
returns c = read_valid
