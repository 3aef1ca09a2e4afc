use Rattle.prost_reflect_dynamic.proofs.Common.{sym, ◌∙◌, field_row, pool_rows}
use Rattle.prost_reflect_dynamic.proofs.FieldDefaults.{place_in_range}
use Rattle.prost_reflect_dynamic.proofs.value.defaults.default_value.Goals as goal

pub empty_message-requires : goal.empty_message-requires
empty_message-requires c = place_in_range (pool_rows c.args.pool.now) (field_row c.args.field.now) c.in-Message.place c.requires (sym c.is_repeated.ensures ∙ c.if-is_repeated.false) c.in-Message.is
