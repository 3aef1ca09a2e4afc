use Rattle.std.proofs.Common.{refl, sym}
use Rattle.prost_reflect_wire.specs.Fault.{entry_field}
use Rattle.prost_reflect_tables.specs.Schema.{rows_of}
use Rattle.prost_reflect_faults.specs.Searching.{type_of_row}
use Rattle.prost_reflect_faults.proofs.Rows.{field_known}
use Rattle.prost_reflect_faults.proofs.inside.known_inside.Goals as goal

pub returns-in-Some : goal.returns-in-Some
returns-in-Some c =
    rw c.in-Message.is (field_known (rows_of c.args.tables.now) c.args.tables.now.linked c.in-Message.place c.args.number _ c.known_as.result (sym c.in-Some.ensures.field) c.known_as.ensures)

pub returns-in-1 : goal.returns-in-1
returns-in-1 c = let there = rw c.in-Entry.is at c.requires in
    rw (c.in-Entry.is, c.in-1.is) (record { field = entry_field 1 (type_of_row (rows_of c.args.tables.now) c.in-Entry.key.now); found = refl; is = (refl, refl); there = there.0 })

pub returns-in-2 : goal.returns-in-2
returns-in-2 c = let there = rw c.in-Entry.is at c.requires in
    rw (c.in-Entry.is, c.in-2.is) (record { field = entry_field 2 (type_of_row (rows_of c.args.tables.now) c.in-Entry.value.now); found = refl; is = (refl, refl); there = there.1 })
