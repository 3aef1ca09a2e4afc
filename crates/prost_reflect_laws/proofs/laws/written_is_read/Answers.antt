use Rattle.prost_reflect_laws.proofs.Table.{read_back}
use Rattle.prost_reflect_laws.proofs.laws.written_is_read.Goals as goal

pub returns : goal.returns
returns c = read_back
