use Rattle.prost_reflect_dynamic.proofs.Common.{sym, ◌∙◌, ap, field_row, pool_rows, value_stored}
use Rattle.prost_reflect_dynamic.proofs.DeepTypes.{is_stored_map, map_place, map_none, lone_place, no_stored_map}
use Rattle.prost_reflect_dynamic.proofs.StoredViews.{stored_map}
use Rattle.prost_reflect_dynamic.proofs.message.typed.place_of.Goals as goal

pub returns-in-Map : goal.returns-in-Map
returns-in-Map c =
    c.named_place.ensures ∙ sym (map_place (pool_rows c.args.message_type.now.pool) (field_row c.args.field.now) _ (field_row c.in-Some.part.now) (value_stored c.args.value.now) (sym c.in-Some.ensures) (ap is_stored_map (ap value_stored c.in-Map.is ∙ stored_map _)))

pub returns-in_default : goal.returns-in_default
returns-in_default c =
    sym (map_none (pool_rows c.args.message_type.now.pool) (field_row c.args.field.now) _ (field_row c.in-Some.part.now) (value_stored c.args.value.now) (sym c.in-Some.ensures) (no_stored_map c.args.value.now c.in_default.not-Map))

pub returns-in-None : goal.returns-in-None
returns-in-None c =
    c.named_place-in-None.ensures ∙ sym (lone_place (pool_rows c.args.message_type.now.pool) (field_row c.args.field.now) (value_stored c.args.value.now) c.args.message_type.now.pool.value.tables.linked (sym c.in-None.ensures))
