use Rattle.prost_reflect_growth.proofs.CatalogGrow.{messages_grow}
use Rattle.prost_reflect_growth.proofs.laws.messages_grow.Goals as goal

pub returns : goal.returns
returns c = messages_grow
