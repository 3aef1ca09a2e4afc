use Rattle.std.specs.Prelude.{◌∷◌}
use Rattle.prost_reflect_proto.proofs.Common.{refl, sym, subst, [], map, err_from_is_err_and, Fields, all_found, of_bytes, of_enum, of_field, of_message, of_numbers, of_records, of_service, of_text, of_texts}
use Rattle.prost_reflect_types.specs.declared.table.RecordType.TheVariants as types
use Rattle.prost_reflect_proto.proofs.DescriptorContents.{record_read}
use Rattle.prost_reflect_proto.proofs.DescriptorFaults.{nested_stands}
use Rattle.prost_reflect_proto.proofs.body.FileDescriptorProtoOwnedProto.from_body.Goals as goal

pub returns-in_err-records-clause-fault : goal.returns-in_err-records-clause-fault
returns-in_err-records-clause-fault c =
    let p = err_from_is_err_and c.from_residual-in_err-records.result c.from_residual-in_err-records.ensures.1 in
    rw (p.1, p.2) (λ ne. nested_stands c.args.levels types.File types.Message 4 _ (all_found c.as_slice-fields.result.now) c.args.body.now
    (subst (λ fields. Fields c.args.levels types.File (all_found fields) c.args.body.now []) (sym c.as_slice-fields.ensures.value) c.in_ok-fields.ensures.ok)
    refl (c.in_err-records.ensures.fault ne))

pub returns-in_err-records-2-clause-fault : goal.returns-in_err-records-2-clause-fault
returns-in_err-records-2-clause-fault c =
    let p = err_from_is_err_and c.from_residual-in_err-records-2.result c.from_residual-in_err-records-2.ensures.1 in
    rw (p.1, p.2) (λ ne. nested_stands c.args.levels types.File types.Enum 5 _ (all_found c.as_slice-fields.result.now) c.args.body.now
    (subst (λ fields. Fields c.args.levels types.File (all_found fields) c.args.body.now []) (sym c.as_slice-fields.ensures.value) c.in_ok-fields.ensures.ok)
    refl (c.in_err-records-2.ensures.fault ne))

pub returns-in_err-records-3-clause-fault : goal.returns-in_err-records-3-clause-fault
returns-in_err-records-3-clause-fault c =
    let p = err_from_is_err_and c.from_residual-in_err-records-3.result c.from_residual-in_err-records-3.ensures.1 in
    rw (p.1, p.2) (λ ne. nested_stands c.args.levels types.File types.Service 6 _ (all_found c.as_slice-fields.result.now) c.args.body.now
    (subst (λ fields. Fields c.args.levels types.File (all_found fields) c.args.body.now []) (sym c.as_slice-fields.ensures.value) c.in_ok-fields.ensures.ok)
    refl (c.in_err-records-3.ensures.fault ne))

pub returns-in_err-records-4-clause-fault : goal.returns-in_err-records-4-clause-fault
returns-in_err-records-4-clause-fault c =
    let p = err_from_is_err_and c.from_residual-in_err-records-4.result c.from_residual-in_err-records-4.ensures.1 in
    rw (p.1, p.2) (λ ne. nested_stands c.args.levels types.File types.Field 7 _ (all_found c.as_slice-fields.result.now) c.args.body.now
    (subst (λ fields. Fields c.args.levels types.File (all_found fields) c.args.body.now []) (sym c.as_slice-fields.ensures.value) c.in_ok-fields.ensures.ok)
    refl (c.in_err-records-4.ensures.fault ne))

pub returns-clause-ok : goal.returns-clause-ok
returns-clause-ok c =
    record_read c.args.levels types.File (all_found c.as_slice-fields.result.now) c.args.body.now
    ((1, of_text c.in_ok-text.field-0) ∷ (2, of_text c.in_ok-text-2.field-0) ∷ (3, of_texts c.in_ok-texts.field-0) ∷ (4, of_records (map of_message c.in_ok-records.field-0.items)) ∷ (5, of_records (map of_enum c.in_ok-records-2.field-0.items)) ∷ (6, of_records (map of_service c.in_ok-records-3.field-0.items)) ∷ (7, of_records (map of_field c.in_ok-records-4.field-0.items)) ∷ (8, of_bytes c.in_ok-bytes.field-0) ∷ (9, of_bytes c.in_ok-bytes-2.field-0) ∷ (10, of_numbers c.in_ok-numbers.field-0) ∷ (11, of_numbers c.in_ok-numbers-2.field-0) ∷ (12, of_text c.in_ok-text-3.field-0) ∷ [])
    (subst (λ fields. Fields c.args.levels types.File (all_found fields) c.args.body.now []) (sym c.as_slice-fields.ensures.value) c.in_ok-fields.ensures.ok)
    (refl, (c.in_ok-text.ensures, (refl, (c.in_ok-text-2.ensures, (refl, (c.in_ok-texts.ensures, (refl, ((map of_message c.in_ok-records.field-0.items, c.in_ok-records.ensures.ok, refl), (refl, ((map of_enum c.in_ok-records-2.field-0.items, c.in_ok-records-2.ensures.ok, refl), (refl, ((map of_service c.in_ok-records-3.field-0.items, c.in_ok-records-3.ensures.ok, refl), (refl, ((map of_field c.in_ok-records-4.field-0.items, c.in_ok-records-4.ensures.ok, refl), (refl, (c.in_ok-bytes.ensures, (refl, (c.in_ok-bytes-2.ensures, (refl, (c.in_ok-numbers.ensures, (refl, (c.in_ok-numbers-2.ensures, (refl, (c.in_ok-text-3.ensures, tt))))))))))))))))))))))))
