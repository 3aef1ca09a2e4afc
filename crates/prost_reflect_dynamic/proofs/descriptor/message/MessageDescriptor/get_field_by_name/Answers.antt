use Rattle.prost_reflect_dynamic.proofs.Common.{rules, ap, ◌∙◌, bytes_eq, fields_at, FieldRow, named_field, LinkedPool, descriptor_fields}
use Rattle.prost_reflect_pool.specs.Pools.{pool_rows}
use Rattle.prost_reflect_dynamic.proofs.OwnFields.{names_found}
use Rattle.prost_reflect_dynamic.proofs.OwnRows.{fields_found}
use Rattle.prost_reflect_dynamic.proofs.descriptor.message.MessageDescriptor.get_field_by_name.Goals as goal

pub field_at-requires : goal.field_at-requires
field_at-requires c =
    fields_found (λ (f : FieldRow). bytes_eq f.id.name c.args.name.now) (descriptor_fields c.args.self.now) _
    (c.field_place_by_name.ensures ∙ ap (λ (pool : LinkedPool). named_field (fields_at (pool_rows pool) c.args.self.now.index) c.args.name.now) c.deref.ensures)

pub returns-clause-found : goal.returns-clause-found
returns-clause-found c = search rules

pub returns-clause-name : goal.returns-clause-name
returns-clause-name c = names_found c.args.self.now c.args.name.now c.field_at.result (returns-clause-found c) c.field_at.ensures.message
