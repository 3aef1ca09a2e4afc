use Rattle.std.specs.Prelude.{◌∷◌}
use Rattle.prost_reflect_proto.proofs.Common.{refl, sym, ap, ◌∙◌, Some, [], map, err_from_is_err_and, all_found, of_text, of_bytes, of_texts, of_records, of_message, of_field, of_enum, of_extension_range, of_oneof, of_reserved_range}
use Rattle.prost_reflect_types.specs.declared.table.RecordType.TheVariants as types
use Rattle.prost_reflect_proto.proofs.DescriptorContents.{record_read}
use Rattle.prost_reflect_proto.proofs.DescriptorFaults.{nested_stands}
use Rattle.prost_reflect_types.proofs.MessageViews.{of_message_roll}
use Rattle.prost_reflect_proto.proofs.body.message_of.Goals as goal

pub returns-in_err-records-clause-fault : goal.returns-in_err-records-clause-fault
returns-in_err-records-clause-fault c =
    let p = err_from_is_err_and c.from_residual-in_err-records.result c.from_residual-in_err-records.ensures.1 in
    rw (p.1, p.2) (λ ne body f. nested_stands c.args.levels types.Message types.Field 2 _ (all_found c.args.fields.now) body f refl (c.in_err-records.ensures.fault ne))

pub returns-in_err-records-2-clause-fault : goal.returns-in_err-records-2-clause-fault
returns-in_err-records-2-clause-fault c =
    let p = err_from_is_err_and c.from_residual-in_err-records-2.result c.from_residual-in_err-records-2.ensures.1 in
    rw (p.1, p.2) (λ ne body f. nested_stands c.args.levels types.Message types.Enum 4 _ (all_found c.args.fields.now) body f refl (c.in_err-records-2.ensures.fault ne))

pub returns-in_err-records-3-clause-fault : goal.returns-in_err-records-3-clause-fault
returns-in_err-records-3-clause-fault c =
    let p = err_from_is_err_and c.from_residual-in_err-records-3.result c.from_residual-in_err-records-3.ensures.1 in
    rw (p.1, p.2) (λ ne body f. nested_stands c.args.levels types.Message types.ExtensionRange 5 _ (all_found c.args.fields.now) body f refl (c.in_err-records-3.ensures.fault ne))

pub returns-in_err-records-4-clause-fault : goal.returns-in_err-records-4-clause-fault
returns-in_err-records-4-clause-fault c =
    let p = err_from_is_err_and c.from_residual-in_err-records-4.result c.from_residual-in_err-records-4.ensures.1 in
    rw (p.1, p.2) (λ ne body f. nested_stands c.args.levels types.Message types.Field 6 _ (all_found c.args.fields.now) body f refl (c.in_err-records-4.ensures.fault ne))

pub returns-in_err-records-5-clause-fault : goal.returns-in_err-records-5-clause-fault
returns-in_err-records-5-clause-fault c =
    let p = err_from_is_err_and c.from_residual-in_err-records-5.result c.from_residual-in_err-records-5.ensures.1 in
    rw (p.1, p.2) (λ ne body f. nested_stands c.args.levels types.Message types.Oneof 8 _ (all_found c.args.fields.now) body f refl (c.in_err-records-5.ensures.fault ne))

pub returns-in_err-records-6-clause-fault : goal.returns-in_err-records-6-clause-fault
returns-in_err-records-6-clause-fault c =
    let p = err_from_is_err_and c.from_residual-in_err-records-6.result c.from_residual-in_err-records-6.ensures.1 in
    rw (p.1, p.2) (λ ne body f. nested_stands c.args.levels types.Message types.ReservedRange 9 _ (all_found c.args.fields.now) body f refl (c.in_err-records-6.ensures.fault ne))

pub returns-clause-ok : goal.returns-clause-ok
returns-clause-ok c = λ body f.
    record_read c.args.levels types.Message (all_found c.args.fields.now) body
    ((1, of_text c.in_ok-text.field-0) ∷ (2, of_records (map of_field c.in_ok-records.field-0.items)) ∷ (3, of_records (map of_message c.args.nested_type.items)) ∷ (4, of_records (map of_enum c.in_ok-records-2.field-0.items)) ∷ (5, of_records (map of_extension_range c.in_ok-records-3.field-0.items)) ∷ (6, of_records (map of_field c.in_ok-records-4.field-0.items)) ∷ (7, of_bytes c.in_ok-bytes.field-0) ∷ (8, of_records (map of_oneof c.in_ok-records-5.field-0.items)) ∷ (9, of_records (map of_reserved_range c.in_ok-records-6.field-0.items)) ∷ (10, of_texts c.in_ok-texts.field-0) ∷ [])
    f
    (refl, (c.in_ok-text.ensures, (refl, ((map of_field c.in_ok-records.field-0.items, c.in_ok-records.ensures.ok, refl), (refl, ((map of_message c.args.nested_type.items, c.requires, refl), (refl, ((map of_enum c.in_ok-records-2.field-0.items, c.in_ok-records-2.ensures.ok, refl), (refl, ((map of_extension_range c.in_ok-records-3.field-0.items, c.in_ok-records-3.ensures.ok, refl), (refl, ((map of_field c.in_ok-records-4.field-0.items, c.in_ok-records-4.ensures.ok, refl), (refl, (c.in_ok-bytes.ensures, (refl, ((map of_oneof c.in_ok-records-5.field-0.items, c.in_ok-records-5.ensures.ok, refl), (refl, ((map of_reserved_range c.in_ok-records-6.field-0.items, c.in_ok-records-6.ensures.ok, refl), (refl, (c.in_ok-texts.ensures, tt))))))))))))))))))))
    ∙ ap Some (sym (of_message_roll _))
