use Rattle.prost_reflect_growth.proofs.ChecksGrow.{checks_grow}
use Rattle.prost_reflect_growth.proofs.laws.checks_grow.Goals as goal

pub returns : goal.returns
returns c = checks_grow
