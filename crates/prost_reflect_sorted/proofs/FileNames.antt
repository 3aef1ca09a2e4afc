-- The names of files, old and added ones.
use Rattle.std.specs.Prelude.{◌≡◌, ◌++◌}
use Rattle.std.proofs.lemmas.List.{map-append}
use Rattle.prost_reflect_sorted.proofs.Common.{List, length, sym, length-map, file_names}
use Rattle.prost_reflect_tables.specs.Names.{text_or_empty}
use Rattle.prost_reflect_types.specs.declared.FileDescriptorProto.{FileDescriptorProto}

pub names_both : (old new : List FileDescriptorProto) → file_names (old ++ new) ≡ file_names old ++ file_names new
names_both old new = map-append (λ (f : FileDescriptorProto). text_or_empty f.name) old new

pub files_count : (files : List FileDescriptorProto) → length files ≡ length (file_names files)
files_count files = sym (length-map files (λ (f : FileDescriptorProto). text_or_empty f.name))
