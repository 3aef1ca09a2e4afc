use Rattle.prost_reflect_wire.proofs.Shortest.{short_spells}
use Rattle.prost_reflect_wire.proofs.WrittenRecords.{on_ok}
use Rattle.prost_reflect_wire.proofs.unknown.UnknownFieldSet.encode.Goals as goal

pub returns-clause-spells : goal.returns-clause-spells
returns-clause-spells c = on_ok _ (short_spells _ c.write_fields.ensures.valid)
