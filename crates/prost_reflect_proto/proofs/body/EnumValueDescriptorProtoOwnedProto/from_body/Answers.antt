use Rattle.std.specs.Prelude.{◌∷◌}
use Rattle.prost_reflect_proto.proofs.Common.{refl, sym, subst, [], Fields, all_found, of_bytes, of_number, of_text}
use Rattle.prost_reflect_types.specs.declared.table.RecordType.TheVariants as types
use Rattle.prost_reflect_proto.proofs.DescriptorContents.{record_read}
use Rattle.prost_reflect_proto.proofs.body.EnumValueDescriptorProtoOwnedProto.from_body.Goals as goal

pub returns-clause-ok : goal.returns-clause-ok
returns-clause-ok c =
    record_read c.args.levels types.EnumValue (all_found c.as_slice-fields.result.now) c.args.body.now
    ((1, of_text c.in_ok-text.field-0) ∷ (2, of_number c.number.result) ∷ (3, of_bytes c.in_ok-bytes.field-0) ∷ [])
    (subst (λ fields. Fields c.args.levels types.EnumValue (all_found fields) c.args.body.now []) (sym c.as_slice-fields.ensures.value) c.in_ok-fields.ensures.ok)
    (refl, (c.in_ok-text.ensures, (refl, (c.number.ensures, (refl, (c.in_ok-bytes.ensures, tt))))))
