use Rattle.prost_reflect_laws.proofs.Examples.Passages.{passages, edit_passages, tested, failed_passages, extension_against_field}
use Rattle.prost_reflect_laws.proofs.passage.worked_passages.Goals as goal

pub returns : goal.returns
returns c = record { passages = passages; edit_passages = edit_passages; tested = tested; failed_passages = failed_passages; extension_against_field = extension_against_field }
