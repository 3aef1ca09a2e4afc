use Rattle.prost_reflect_tables.specs.Schema.{rows_of}
use Rattle.prost_reflect_tables.proofs.Keeping.{fields_ascend}
use Rattle.prost_reflect_tables.proofs.tables.Tables.field_place.Goals as goal

pub place_among-requires : goal.place_among-requires
place_among-requires c = rw c.field_tables.ensures (fields_ascend (rows_of c.args.self.now) c.args.message c.args.self.now.linked)
