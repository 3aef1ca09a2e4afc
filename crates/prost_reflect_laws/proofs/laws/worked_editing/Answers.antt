use Rattle.prost_reflect_laws.proofs.Examples.ComputedContents.{merging, one_number, access, paths}
use Rattle.prost_reflect_laws.proofs.laws.worked_editing.Goals as goal

pub returns : goal.returns
returns c = record { merging = merging; one_number = one_number; access = access; paths = paths }
