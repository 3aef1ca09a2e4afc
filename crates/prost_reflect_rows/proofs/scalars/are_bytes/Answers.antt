use Rattle.prost_reflect_rows.proofs.Valid.{bytes_fit}
use Rattle.prost_reflect_rows.proofs.scalars.are_bytes.Goals as goal

pub returns-clause-range : goal.returns-clause-range
returns-clause-range c = bytes_fit c.args._bytes.now c.type_inv._bytes
