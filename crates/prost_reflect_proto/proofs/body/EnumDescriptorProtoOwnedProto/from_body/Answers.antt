use Rattle.std.specs.Prelude.{◌∷◌}
use Rattle.prost_reflect_proto.proofs.Common.{refl, sym, subst, [], map, err_from_is_err_and, Fields, all_found, of_bytes, of_enum_reserved_range, of_enum_value, of_records, of_text, of_texts}
use Rattle.prost_reflect_types.specs.declared.table.RecordType.TheVariants as types
use Rattle.prost_reflect_proto.proofs.DescriptorContents.{record_read}
use Rattle.prost_reflect_proto.proofs.DescriptorFaults.{nested_stands}
use Rattle.prost_reflect_proto.proofs.body.EnumDescriptorProtoOwnedProto.from_body.Goals as goal

pub returns-in_err-records-clause-fault : goal.returns-in_err-records-clause-fault
returns-in_err-records-clause-fault c =
    let p = err_from_is_err_and c.from_residual-in_err-records.result c.from_residual-in_err-records.ensures.1 in
    rw (p.1, p.2) (λ ne. nested_stands c.args.levels types.Enum types.EnumValue 2 _ (all_found c.as_slice-fields.result.now) c.args.body.now
    (subst (λ fields. Fields c.args.levels types.Enum (all_found fields) c.args.body.now []) (sym c.as_slice-fields.ensures.value) c.in_ok-fields.ensures.ok)
    refl (c.in_err-records.ensures.fault ne))

pub returns-in_err-records-2-clause-fault : goal.returns-in_err-records-2-clause-fault
returns-in_err-records-2-clause-fault c =
    let p = err_from_is_err_and c.from_residual-in_err-records-2.result c.from_residual-in_err-records-2.ensures.1 in
    rw (p.1, p.2) (λ ne. nested_stands c.args.levels types.Enum types.EnumReservedRange 4 _ (all_found c.as_slice-fields.result.now) c.args.body.now
    (subst (λ fields. Fields c.args.levels types.Enum (all_found fields) c.args.body.now []) (sym c.as_slice-fields.ensures.value) c.in_ok-fields.ensures.ok)
    refl (c.in_err-records-2.ensures.fault ne))

pub returns-clause-ok : goal.returns-clause-ok
returns-clause-ok c =
    record_read c.args.levels types.Enum (all_found c.as_slice-fields.result.now) c.args.body.now
    ((1, of_text c.in_ok-text.field-0) ∷ (2, of_records (map of_enum_value c.in_ok-records.field-0.items)) ∷ (3, of_bytes c.in_ok-bytes.field-0) ∷ (4, of_records (map of_enum_reserved_range c.in_ok-records-2.field-0.items)) ∷ (5, of_texts c.in_ok-texts.field-0) ∷ [])
    (subst (λ fields. Fields c.args.levels types.Enum (all_found fields) c.args.body.now []) (sym c.as_slice-fields.ensures.value) c.in_ok-fields.ensures.ok)
    (refl, (c.in_ok-text.ensures, (refl, ((map of_enum_value c.in_ok-records.field-0.items, c.in_ok-records.ensures.ok, refl), (refl, (c.in_ok-bytes.ensures, (refl, ((map of_enum_reserved_range c.in_ok-records-2.field-0.items, c.in_ok-records-2.ensures.ok, refl), (refl, (c.in_ok-texts.ensures, tt))))))))))
