use Rattle.std.specs.Prelude.{◌∷◌}
use Rattle.prost_reflect_proto.proofs.Common.{refl, sym, subst, [], map, err_from_is_err_and, Fields, all_found, of_file, of_records}
use Rattle.prost_reflect_types.specs.declared.table.RecordType.TheVariants as types
use Rattle.prost_reflect_proto.proofs.DescriptorContents.{record_read}
use Rattle.prost_reflect_proto.proofs.DescriptorFaults.{nested_stands}
use Rattle.prost_reflect_proto.proofs.body.FileDescriptorSetOwnedProto.from_body.Goals as goal

pub returns-in_err-records-clause-fault : goal.returns-in_err-records-clause-fault
returns-in_err-records-clause-fault c =
    let p = err_from_is_err_and c.from_residual-in_err-records.result c.from_residual-in_err-records.ensures.1 in
    rw (p.1, p.2) (λ ne. nested_stands c.args.levels types.FileSet types.File 1 _ (all_found c.as_slice-fields.result.now) c.args.body.now
    (subst (λ fields. Fields c.args.levels types.FileSet (all_found fields) c.args.body.now []) (sym c.as_slice-fields.ensures.value) c.in_ok-fields.ensures.ok)
    refl (c.in_err-records.ensures.fault ne))

pub returns-clause-ok : goal.returns-clause-ok
returns-clause-ok c =
    record_read c.args.levels types.FileSet (all_found c.as_slice-fields.result.now) c.args.body.now
    ((1, of_records (map of_file c.in_ok-records.field-0.items)) ∷ [])
    (subst (λ fields. Fields c.args.levels types.FileSet (all_found fields) c.args.body.now []) (sym c.as_slice-fields.ensures.value) c.in_ok-fields.ensures.ok)
    (refl, ((map of_file c.in_ok-records.field-0.items, c.in_ok-records.ensures.ok, refl), tt))
