use Rattle.std.specs.Prelude.{◌∷◌}
use Rattle.prost_reflect_proto.proofs.Common.{refl, sym, subst, [], Fields, all_found, of_number}
use Rattle.prost_reflect_types.specs.declared.table.RecordType.TheVariants as types
use Rattle.prost_reflect_proto.proofs.DescriptorContents.{record_read}
use Rattle.prost_reflect_proto.proofs.body.EnumReservedRangeOwnedProto.from_body.Goals as goal

pub returns-clause-ok : goal.returns-clause-ok
returns-clause-ok c =
    record_read c.args.levels types.EnumReservedRange (all_found c.as_slice-fields.result.now) c.args.body.now
    ((1, of_number c.number.result) ∷ (2, of_number c.number-2.result) ∷ [])
    (subst (λ fields. Fields c.args.levels types.EnumReservedRange (all_found fields) c.args.body.now []) (sym c.as_slice-fields.ensures.value) c.in_ok-fields.ensures.ok)
    (refl, (c.number.ensures, (refl, (c.number-2.ensures, tt))))
