use Rattle.prost_reflect_laws.proofs.Examples.Computed.{varints, zigzag, kinds, kind_ranges, plain_fields}
use Rattle.prost_reflect_laws.proofs.laws.worked_numbers.Goals as goal

pub returns : goal.returns
returns c = record { varints = varints; zigzag = zigzag; kinds = kinds; kind_ranges = kind_ranges; plain_fields = plain_fields }
