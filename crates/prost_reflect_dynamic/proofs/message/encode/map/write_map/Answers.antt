use Rattle.prost_reflect_dynamic.proofs.Common.{sym, adds_same, field_row}
use Rattle.prost_reflect_dynamic.proofs.MapRows.{rows_written, map_value_bytes}
use Rattle.prost_reflect_dynamic.proofs.message.encode.map.write_map.Goals as goal

pub write_pairs-requires : goal.write_pairs-requires
write_pairs-requires g c = (rows_written c.args.message_type.now c.args.number (field_row c.args.key_field.now) (field_row c.args.value_field.now) c.args.value.now c.in-Map.pairs c.requires.rows c.requires.valid c.in-Map.is).takes

pub returns : goal.returns
returns g c =
    adds_same g.S.Sink.added _ _ _ _
    (sym (map_value_bytes c.args.message_type.now c.args.number (field_row c.args.key_field.now) (field_row c.args.value_field.now) c.args.value.now c.in-Map.pairs c.in-Map.is
    (rows_written c.args.message_type.now c.args.number (field_row c.args.key_field.now) (field_row c.args.value_field.now) c.args.value.now c.in-Map.pairs c.requires.rows c.requires.valid c.in-Map.is)))
    c.write_pairs.ensures
