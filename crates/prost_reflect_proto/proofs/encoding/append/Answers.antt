use Rattle.std.specs.Prelude.{◌≡◌, ◌^◌, ◌<◌, ◌≤◌}
use Rattle.prost_reflect_proto.proofs.Common.{ℕ, List, length, Some, on_ok_weaker, Content, LEVEL_LIMIT, encoded, Adds, written_since, HasNoBytes, record_decoded, RecordSound, RecordType}
use Rattle.prost_reflect_wire.specs.Levels.{levels}
use Rattle.prost_reflect_wire.specs.declared.sink.ByteSink.{ByteSink}
use Rattle.prost_reflect_proto.proofs.SoundRecords.{reads_back}
use Rattle.prost_reflect_proto.proofs.encoding.append.Goals as goal

-- what fits is read back
fits_reads : (t : RecordType) (m : Content) (new written : ByteSink) → RecordSound t m → HasNoBytes new → Adds written_since new written (encoded m) →
    ((start : ByteSink) (front : List ℕ) → HasNoBytes start → Adds written_since start written front → length front < 2 ^ 64) → levels m ≤ LEVEL_LIMIT → record_decoded LEVEL_LIMIT t (encoded m) ≡ Some m
fits_reads t m new written sound empty added fits low = reads_back t m sound (fits new (encoded m) empty added) low

pub returns-clause-reads : goal.returns-clause-reads
returns-clause-reads g c = on_ok_weaker _ (fits_reads g.P.WriteProto.record_type _ _ c.write.new.sink c.write.ensures.sound c.new-sink.ensures c.write.ensures.added) c.append_to.ensures.fits
