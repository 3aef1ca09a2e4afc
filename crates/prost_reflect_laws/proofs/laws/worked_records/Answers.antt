use Rattle.prost_reflect_laws.proofs.Examples.Computed.{records, unreadable, raw_levels}
use Rattle.prost_reflect_laws.proofs.laws.worked_records.Goals as goal

pub returns : goal.returns
returns c = record { records = records; unreadable = unreadable; raw_levels = raw_levels }
