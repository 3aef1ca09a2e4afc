use Rattle.std.specs.Prelude.{◌∷◌}
use Rattle.prost_reflect_proto.proofs.Common.{refl, sym, subst, [], Fields, all_found, of_bytes, of_flag, of_number, of_text}
use Rattle.prost_reflect_types.specs.declared.table.RecordType.TheVariants as types
use Rattle.prost_reflect_proto.proofs.DescriptorContents.{record_read}
use Rattle.prost_reflect_proto.proofs.body.FieldDescriptorProtoOwnedProto.from_body.Goals as goal

pub returns-clause-ok : goal.returns-clause-ok
returns-clause-ok c =
    record_read c.args.levels types.Field (all_found c.as_slice-fields.result.now) c.args.body.now
    ((1, of_text c.in_ok-text.field-0) ∷ (2, of_text c.in_ok-text-2.field-0) ∷ (3, of_number c.number.result) ∷ (4, of_number c.number-2.result) ∷ (5, of_number c.number-3.result) ∷ (6, of_text c.in_ok-text-3.field-0) ∷ (7, of_text c.in_ok-text-4.field-0) ∷ (8, of_bytes c.in_ok-bytes.field-0) ∷ (9, of_number c.number-4.result) ∷ (10, of_text c.in_ok-text-5.field-0) ∷ (17, of_flag c.flag.result) ∷ [])
    (subst (λ fields. Fields c.args.levels types.Field (all_found fields) c.args.body.now []) (sym c.as_slice-fields.ensures.value) c.in_ok-fields.ensures.ok)
    (refl, (c.in_ok-text.ensures, (refl, (c.in_ok-text-2.ensures, (refl, (c.number.ensures, (refl, (c.number-2.ensures, (refl, (c.number-3.ensures, (refl, (c.in_ok-text-3.ensures, (refl, (c.in_ok-text-4.ensures, (refl, (c.in_ok-bytes.ensures, (refl, (c.number-4.ensures, (refl, (c.in_ok-text-5.ensures, (refl, (c.flag.ensures, tt))))))))))))))))))))))
