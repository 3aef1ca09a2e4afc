use Rattle.std.proofs.Common.{sym}
use Rattle.prost_reflect_tables.specs.Rows.{field_row}
use Rattle.prost_reflect_tables.specs.Schema.{rows_of}
use Rattle.prost_reflect_faults.proofs.Rows.{list_is}
use Rattle.prost_reflect_faults.proofs.inside.known_as.Goals as goal

pub returns-in-None : goal.returns-in-None
returns-in-None c = list_is (rows_of c.args.tables.now) (field_row c.args.field.now) c.in-Repeated.is (sym c.in-None.ensures)
