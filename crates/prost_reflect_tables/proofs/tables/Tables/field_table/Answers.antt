use Rattle.prost_reflect_tables.proofs.Common.{sym, ◌∙◌, rows_of}
use Rattle.prost_reflect_tables.proofs.Keeping.{fields_ascend}
use Rattle.prost_reflect_tables.proofs.Fields.{found, missing}
use Rattle.prost_reflect_tables.proofs.tables.Tables.field_table.Goals as goal

pub place_among-requires : goal.place_among-requires
place_among-requires c = rw c.field_tables-fields.ensures (fields_ascend (rows_of c.args.self.now) c.args.message c.args.self.now.linked)

pub returns-in-Some-clause-row : goal.returns-in-Some-clause-row
returns-in-Some-clause-row c = (found (rows_of c.args.self.now) c.args.message c.args.number c.in-Some.place c.field_tables-fields.result.now c.index-fields-place.result c.field_tables-fields.ensures c.index-fields-place.is (sym c.in-Some.is ∙ c.place_among.ensures)).row

pub returns-in-Some-clause-field : goal.returns-in-Some-clause-field
returns-in-Some-clause-field c = (found (rows_of c.args.self.now) c.args.message c.args.number c.in-Some.place c.field_tables-fields.result.now c.index-fields-place.result c.field_tables-fields.ensures c.index-fields-place.is (sym c.in-Some.is ∙ c.place_among.ensures)).field

pub returns-in-None-clause-row : goal.returns-in-None-clause-row
returns-in-None-clause-row c = (missing (rows_of c.args.self.now) c.args.message c.args.number c.field_tables-fields.result.now c.field_tables-fields.ensures (sym c.in-None.is ∙ c.place_among.ensures)).row

pub returns-in-None-clause-field : goal.returns-in-None-clause-field
returns-in-None-clause-field c = (missing (rows_of c.args.self.now) c.args.message c.args.number c.field_tables-fields.result.now c.field_tables-fields.ensures (sym c.in-None.is ∙ c.place_among.ensures)).field
