-- The options of definitions (descriptor.proto, "Options"): the bytes that a definition's record stores, the message type that they are read by, and what reading them answers.
use Rattle.std.specs.Prelude.{◌≡◌, ◌≢◌, ℕ, true, List, Option, Some, None, Result, Ok, Err, codes, ⊤}
use Rattle.std.specs.declared.alloc.Global.{Global}
use Rattle.std.specs.declared.rc.Rc.{Rc}
use Rattle.prost_reflect_types.specs.declared.DescriptorProto.TheViews.{out-DescriptorProto}
use Rattle.prost_reflect_wire.specs.declared.error.DecodeError.{DecodeError}
use Rattle.prost_reflect_wire.specs.declared.error.DecodeError.TheVariants as decode_errors
use Rattle.prost_reflect_wire.specs.Grammar.{LEVEL_LIMIT}
use Rattle.prost_reflect_wire.specs.Meaning.{decoded}
use Rattle.prost_reflect_wire.specs.Typing.{kept, WellStored}
use Rattle.prost_reflect_tables.specs.Places.{message_place}
use Rattle.prost_reflect_tables.specs.Shown.{schema_from}
use Rattle.prost_reflect_pool.specs.RecordPaths.{AnyRecord, FileRecord, MessageRecord, FieldRecord, OneofRecord, EnumRecord, ValueRecord, ServiceRecord, MethodRecord}
use Rattle.prost_reflect_pool.specs.SharedPools.{pool_rows}
use Rattle.prost_reflect_pool.specs.declared.pool.LinkedPool.{LinkedPool}
use Rattle.prost_reflect_rows.specs.Options.{bytes_or_none}
use Rattle.prost_reflect_dynamic.specs.DeepTypes.{all_typed}
use Rattle.prost_reflect_dynamic.specs.ReadBack.{IsFaulty}
use Rattle.prost_reflect_dynamic.specs.Stored.{message_stored}
use Rattle.prost_reflect_dynamic.specs.View.{content_of, message_type_of}
use Rattle.prost_reflect_dynamic.specs.declared.descriptor.options.OptionsError.{OptionsError}
use Rattle.prost_reflect_dynamic.specs.declared.descriptor.options.OptionsError.TheVariants.{NoOptionsMessage, Decode, OutOfMemory}
use Rattle.prost_reflect_dynamic.specs.declared.message.DynamicMessage.{DynamicMessage}

-- WHAT A RECORD STORES

abbrev pub option_bytes : AnyRecord → List ℕ
option_bytes (FileRecord f) = bytes_or_none f.options
option_bytes (MessageRecord m) = bytes_or_none (out-DescriptorProto m).options
option_bytes (FieldRecord f) = bytes_or_none f.options
option_bytes (OneofRecord o) = bytes_or_none o.options
option_bytes (EnumRecord e) = bytes_or_none e.options
option_bytes (ValueRecord v) = bytes_or_none v.options
option_bytes (ServiceRecord s) = bytes_or_none s.options
option_bytes (MethodRecord m) = bytes_or_none m.options

-- The full name of the message type of a record's options. Extensions have the records of fields.
abbrev pub options_name : AnyRecord → List ℕ
options_name (FileRecord f) = codes "google.protobuf.FileOptions"
options_name (MessageRecord m) = codes "google.protobuf.MessageOptions"
options_name (FieldRecord f) = codes "google.protobuf.FieldOptions"
options_name (OneofRecord o) = codes "google.protobuf.OneofOptions"
options_name (EnumRecord e) = codes "google.protobuf.EnumOptions"
options_name (ValueRecord v) = codes "google.protobuf.EnumValueOptions"
options_name (ServiceRecord s) = codes "google.protobuf.ServiceOptions"
options_name (MethodRecord m) = codes "google.protobuf.MethodOptions"

-- WHAT READING ANSWERS

-- The message is of the message type at a place of the pool, and stores what the bytes mean to that; each message inside is of its field's type.
pub record IsRead (pool : Rc LinkedPool Global) (T : ℕ) (bytes : List ℕ) (message : DynamicMessage) : Type 0 where
  pub of_pool : (message_type_of message).pool.value ≡ pool.value
  pub of_type : (message_type_of message).index ≡ T
  pub means : decoded (schema_from (pool_rows pool)) LEVEL_LIMIT T bytes ≡ Some (kept (content_of message))
  pub sound : WellStored (content_of message)
  pub typed : all_typed (message_stored message) ≡ true

-- Being out of memory is no fault of the bytes.
abbrev pub options_refusal : DecodeError → OptionsError
options_refusal decode_errors.OutOfMemory = OutOfMemory
options_refusal e = Decode e

-- What is answered where the message type stands at a place of the pool, and where it stands at none.
abbrev pub AnswersAt : Rc LinkedPool Global → Option ℕ → List ℕ → Result DynamicMessage OptionsError → Type 0
AnswersAt pool None bytes result = result ≡ Err NoOptionsMessage
AnswersAt pool (Some T) bytes (Ok message) = IsRead pool T bytes message
AnswersAt pool (Some T) bytes (Err NoOptionsMessage) = ⊥
AnswersAt pool (Some T) bytes (Err (Decode e)) = (e ≢ decode_errors.OutOfMemory) × IsFaulty (schema_from (pool_rows pool)) T e bytes
AnswersAt pool (Some T) bytes (Err OutOfMemory) = ⊤

-- What is answered by the message type of a full name.
abbrev pub AnswersBy : Rc LinkedPool Global → List ℕ → List ℕ → Result DynamicMessage OptionsError → Type 0
AnswersBy pool name bytes result = AnswersAt pool (message_place (pool_rows pool) name) bytes result

-- What is answered of a definition's record, which is there.
abbrev pub OptionsOf : Rc LinkedPool Global → Option AnyRecord → Result DynamicMessage OptionsError → Type 0
OptionsOf pool None result = ⊥
OptionsOf pool (Some r) result = AnswersBy pool (options_name r) (option_bytes r) result
