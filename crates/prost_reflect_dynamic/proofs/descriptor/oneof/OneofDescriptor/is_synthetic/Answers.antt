use Rattle.std.specs.Prelude.{◌<◌}
use Rattle.prost_reflect_dynamic.proofs.Common.{length, get_or, ap, arith, descriptor_fields}
use Rattle.prost_reflect_dynamic.proofs.OwnRows.{first_member}
use Rattle.prost_reflect_dynamic.proofs.descriptor.oneof.OneofDescriptor.is_synthetic.Goals as goal

pub field_record-requires-clause-field : goal.field_record-requires-clause-field
field_record-requires-clause-field c =
    let there : get_or c.table.result.now.fields.items 0 0 < length (descriptor_fields c.args.self.now.message) = first_member (descriptor_fields c.args.self.now.message) c.table.result.now.fields.items c.table.ensures.members (omega (arith, c.in-len1.len_at_least, ap length c.as_slice.ensures.value)) in
    rw (c.as_slice.ensures.value, c.index.ensures, c.deref.ensures, c.parent_pool.ensures) there
