use Rattle.prost_reflect_laws.proofs.Examples.ComputedContents.{schemas, validity, encodable, well_typed_contents, kept}
use Rattle.prost_reflect_laws.proofs.laws.worked_contents.Goals as goal

pub returns : goal.returns
returns c = record { schemas = schemas; validity = validity; encodable = encodable; well_typed_contents = well_typed_contents; kept = kept }
