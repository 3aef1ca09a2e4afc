-- The records of definitions that descriptors name, each found by the path of its row in its file.
use Rattle.std.specs.Prelude.{ℕ, ℤ, Bool, false, List, Option, Some, None, map, option_and_then, slice_get, unwrap_or, string_bytes}
use Rattle.prost_reflect_types.specs.declared.DescriptorProto.TheViews.{out-DescriptorProto}
use Rattle.prost_reflect_types.specs.declared.FileDescriptorProto.{FileDescriptorProto}
use Rattle.prost_reflect_pool.specs.RecordPaths.{AnyRecord, MessageRecord, EnumRecord, MethodRecord, record_of}
use Rattle.prost_reflect_pool.specs.SharedPools.{files_of}
use Rattle.prost_reflect_dynamic.specs.Named.{message_row_named}
use Rattle.prost_reflect_dynamic.specs.NamedEnums.{enum_row_at}
use Rattle.prost_reflect_walks.specs.Reserved.{reserved, extensible, enum_reserved}
use Rattle.prost_reflect_dynamic.specs.declared.descriptor.message.MessageDescriptor.{MessageDescriptor}
use Rattle.prost_reflect_dynamic.specs.declared.descriptor.enums.EnumDescriptor.{EnumDescriptor}

-- The record of the file that declares the message type.
abbrev pub file_of_message : MessageDescriptor → Option FileDescriptorProto
file_of_message d = option_and_then (λ m. slice_get (files_of d.pool.inner) m.id.file) (message_row_named d)

abbrev pub message_record_named : MessageDescriptor → Option AnyRecord
message_record_named d = option_and_then (λ m. record_of (files_of d.pool.inner) m.id) (message_row_named d)

abbrev pub enum_record_named : EnumDescriptor → Option AnyRecord
enum_record_named e = option_and_then (λ row. record_of (files_of e.pool.inner) row.id) (enum_row_at e)

-- WHAT RECORDS SAY

abbrev pub reserved_in : Option AnyRecord → Option (List (ℕ × ℕ))
reserved_in (Some (MessageRecord m)) = Some (map reserved (out-DescriptorProto m).reserved_range.items)
reserved_in r = None

abbrev pub extensible_in : Option AnyRecord → Option (List (ℕ × ℕ))
extensible_in (Some (MessageRecord m)) = Some (map extensible (out-DescriptorProto m).extension_range.items)
extensible_in r = None

abbrev pub enum_reserved_in : Option AnyRecord → Option (List (ℤ × ℤ))
enum_reserved_in (Some (EnumRecord e)) = Some (map enum_reserved e.reserved_range.items)
enum_reserved_in r = None

abbrev pub names_in : Option AnyRecord → Option (List (List ℕ))
names_in (Some (MessageRecord m)) = Some (map string_bytes (out-DescriptorProto m).reserved_name.items)
names_in (Some (EnumRecord e)) = Some (map string_bytes e.reserved_name.items)
names_in r = None

-- Whether a method's record says that its client, or its server, sends more than one message.
abbrev pub client_streams : Option AnyRecord → Option Bool
client_streams (Some (MethodRecord m)) = Some (unwrap_or m.client_streaming false)
client_streams r = None

abbrev pub server_streams : Option AnyRecord → Option Bool
server_streams (Some (MethodRecord m)) = Some (unwrap_or m.server_streaming false)
server_streams r = None
