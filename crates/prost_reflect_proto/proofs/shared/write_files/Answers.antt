use Rattle.std.specs.Prelude.{◌≡◌}
use Rattle.prost_reflect_proto.proofs.Common.{arith, subst, sym, ap, ◌∙◌, FieldSound, of_file, of_records, field_bytes}
use Rattle.prost_reflect_types.specs.declared.table.FieldKind.TheVariants as kinds
use Rattle.prost_reflect_types.specs.declared.table.RecordType.TheVariants as types
use Rattle.prost_reflect_proto.proofs.FieldBytes.{adds_same, records_field}
use Rattle.prost_reflect_proto.proofs.SoundFields.{records_sound}
use Rattle.std.proofs.lemmas.Simd.{map-map}
use Rattle.prost_reflect_proto.proofs.shared.write_files.Goals as goal

pub returns-clause-added : goal.returns-clause-added
returns-clause-added g c = let first : c.loop-index.index ≡ 0 = omega arith in
    adds_same g.S.Sink.added _ _ _ _
    (records_field c.args.number types.File (λ f. of_file f.value) c.args.files.now
    ∙ ap (λ cs. field_bytes c.args.number (kinds.Records types.File) (of_records cs)) (sym (map-map of_file (λ f. f.value) c.args.files.now)))
    (rw first at c.loop-index.invariant.added)

pub returns-clause-sound : goal.returns-clause-sound
returns-clause-sound g c = let first : c.loop-index.index ≡ 0 = omega arith in
    subst (λ cs. FieldSound (kinds.Records types.File) (of_records cs)) (sym (map-map of_file (λ f. f.value) c.args.files.now)) (records_sound types.File _ (rw first at c.loop-index.invariant.sound))
