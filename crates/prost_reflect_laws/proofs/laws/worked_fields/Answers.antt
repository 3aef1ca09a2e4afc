use Rattle.prost_reflect_laws.proofs.Examples.Computed.{scalars, texts, messages, oneofs, extensions}
use Rattle.prost_reflect_laws.proofs.laws.worked_fields.Goals as goal

pub returns : goal.returns
returns c = record { scalars = scalars; texts = texts; messages = messages; oneofs = oneofs; extensions = extensions }
