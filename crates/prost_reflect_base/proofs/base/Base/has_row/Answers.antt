use Rattle.std.specs.Prelude.{◌==◌}
use Rattle.std.specs.List.{list_any}
use Rattle.std.specs.Option.{is_some}
use Rattle.std.proofs.Common.{ap, sym, ◌∙◌, arith, le-ltb}
use Rattle.std.proofs.lemmas.Option.{slice_get_past}
use Rattle.prost_reflect_tables.specs.Places.{fields_at, fields_or_none, place_of}
use Rattle.prost_reflect_tables.specs.Rows.{FieldRow, TableRows}
use Rattle.prost_reflect_pool.specs.Pools.{pool_rows}
use Rattle.prost_reflect_base.proofs.Lists.{some_place}
use Rattle.prost_reflect_base.proofs.base.Base.has_row.Goals as goal

pub returns-then-place-message_count : goal.returns-then-place-message_count
returns-then-place-message_count c =
    let pool = c.args.self.now.pool.now in
    c.is_some.ensures
    ∙ (ap is_some c.field_place.ensures
    ∙ (ap (λ (rows : TableRows). is_some (place_of (fields_at rows c.args.place) c.args.number)) c.tables.ensures ∙ some_place (λ (f : FieldRow). f.number == c.args.number) (fields_at (pool_rows pool) c.args.place)))

pub returns-else-place-message_count : goal.returns-else-place-message_count
returns-else-place-message_count c =
    let pool = c.args.self.now.pool.now in
    le-ltb c.args.place c.message_count.result c.if-place-message_count.false ∙ sym (ap (λ o. list_any (λ (f : FieldRow). f.number == c.args.number) (fields_or_none o)) (slice_get_past (pool_rows pool).messages c.args.place (omega (arith, c.message_count.ensures))))
