use Rattle.std.specs.Prelude.{◌∷◌}
use Rattle.prost_reflect_proto.proofs.Common.{refl, [], map, of_file, of_records, shared_files}
use Rattle.prost_reflect_types.specs.declared.table.RecordType.TheVariants as types
use Rattle.prost_reflect_proto.proofs.RecordBytes.{record_adds}
use Rattle.prost_reflect_proto.proofs.SoundRecords.{record_sound}
use Rattle.prost_reflect_proto.proofs.shared.SharedFilesWriteProto.write.Goals as goal

pub returns-clause-added : goal.returns-clause-added
returns-clause-added g c = record_adds g.S.Sink.added _ _ types.FileSet ((1, of_records (map of_file (shared_files c.args.self.now.files.now))) ∷ []) (refl, tt) (λ start done h. c.write_files.ensures.added _ _ h)

pub returns-clause-sound : goal.returns-clause-sound
returns-clause-sound g c = record_sound types.FileSet ((1, of_records (map of_file (shared_files c.args.self.now.files.now))) ∷ []) (refl, tt) refl (c.write_files.ensures.sound, tt)
