use Rattle.std.specs.List.{list_any}
use Rattle.std.specs.Option.{is_some}
use Rattle.std.specs.Prelude.{◌||◌}
use Rattle.std.specs.Str.{bytes_eq}
use Rattle.std.proofs.Common.{List, map, ap, sym, ◌∙◌}
use Rattle.prost_reflect_tables.specs.Rows.{OneofRow, message_row, oneof_row}
use Rattle.prost_reflect_tables.specs.declared.tables.OneofTable.{OneofTable}
use Rattle.prost_reflect_base.proofs.FullNames.{message_within, member_there, field_there, no_member}
use Rattle.prost_reflect_base.proofs.base.Base.has_member.Goals as goal

pub field_place_by_name-requires : goal.field_place_by_name-requires
field_place_by_name-requires c = message_within c.args.self.now.pool.now c.in-Some.place c.args.scope.now c.in-Some.ensures

pub message_table-requires : goal.message_table-requires
message_table-requires c = message_within c.args.self.now.pool.now c.in-Some.place c.args.scope.now c.in-Some.ensures

pub returns-then-is_some : goal.returns-then-is_some
returns-then-is_some c =
    c.if-is_some.true ∙ field_there c.args.self.now.pool.now c.in-Some.place c.args.scope.now c.args.name.now c.in-Some.ensures (sym (c.is_some.ensures ∙ ap is_some c.field_place_by_name.ensures) ∙ c.if-is_some.true)

pub returns-else-is_some : goal.returns-else-is_some
returns-else-is_some c =
    let t = c.message_table.result.now in
    let fields = sym (c.is_some.ensures ∙ ap is_some c.field_place_by_name.ensures) ∙ c.if-is_some.false in
    c.is_oneof_name.ensures
    ∙ (ap (λ (os : List OneofTable). list_any (λ (o : OneofRow). bytes_eq c.args.name.now o.id.name) (map oneof_row os)) c.as_slice.ensures.value
    ∙ (sym (ap (λ b. b || list_any (λ (o : OneofRow). bytes_eq c.args.name.now o.id.name) (message_row t).oneofs) fields)
    ∙ member_there c.args.self.now.pool.now c.in-Some.place c.args.scope.now c.args.name.now (message_row t) c.in-Some.ensures c.message_table.ensures.row))

pub returns-in-None : goal.returns-in-None
returns-in-None c = no_member c.args.self.now.pool.now c.args.scope.now c.args.name.now c.in-None.ensures
