-- The records that a path can name, without where they lie in memory. For private contracts alone.
use Rattle.prost_reflect_pool.specs.declared.records.AnyRecord.{AnyRecord}
use Rattle.prost_reflect_pool.specs.declared.records.AnyRecord.TheVariants.{File, Message, Field, Oneof, Enum, Value, Service, Method}
use Rattle.prost_reflect_pool.specs.RecordPaths as paths
use Rattle.prost_reflect_pool.specs.RecordPaths.{FileRecord, MessageRecord, FieldRecord, OneofRecord, EnumRecord, ValueRecord, ServiceRecord, MethodRecord}

abbrev pub record_view : AnyRecord → paths.AnyRecord
record_view (File f) = FileRecord f.now
record_view (Message m) = MessageRecord m.now
record_view (Field f) = FieldRecord f.now
record_view (Oneof o) = OneofRecord o.now
record_view (Enum e) = EnumRecord e.now
record_view (Value v) = ValueRecord v.now
record_view (Service s) = ServiceRecord s.now
record_view (Method m) = MethodRecord m.now
