use Rattle.prost_reflect_dynamic.proofs.Common.{ap, ◌∙◌, bytes_eq, fields_at, FieldRow, json_named_field, LinkedPool, descriptor_fields}
use Rattle.prost_reflect_pool.specs.Pools.{pool_rows}
use Rattle.prost_reflect_dynamic.proofs.OwnRows.{fields_found}
use Rattle.prost_reflect_dynamic.proofs.descriptor.message.MessageDescriptor.get_field_by_json_name.Goals as goal

pub field_at-requires : goal.field_at-requires
field_at-requires c =
    fields_found (λ (f : FieldRow). bytes_eq f.json_name c.args.json_name.now) (descriptor_fields c.args.self.now) _
    (c.field_place_by_json_name.ensures ∙ ap (λ (pool : LinkedPool). json_named_field (fields_at (pool_rows pool) c.args.self.now.index) c.args.json_name.now) c.deref.ensures)
