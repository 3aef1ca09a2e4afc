-- Worked examples of equal contents and equal tables.
use Rattle.std.specs.Prelude.{◌≡◌, ◌∷◌}
use Rattle.prost_reflect_tables.proofs.Common.{ℕ, List, [], map, Some, None, String, string_bytes, Vec, refl, ap, Global, FileDescriptorProto, EnumDescriptorProto, of_text, of_bytes, of_records, of_enum, of_file, SameFile, file_same}
use Rattle.prost_reflect_tables.specs.FileLaws.{SameContents}
use Rattle.prost_reflect_tables.specs.FileExamples.{ContentsAndTables}

one_file : (f g : FileDescriptorProto) → SameContents (f ∷ []) (g ∷ []) → SameFile f g
one_file f g e = let h : of_file f ≡ of_file g = cc in file_same f g h

text_alike : (s t : String Global) → string_bytes s ≡ string_bytes t → of_text (Some s) ≡ of_text (Some t)
unfolding of_text
text_alike s t e = rw e

bytes_alike : (v w : Vec ℕ Global) → v.items ≡ w.items → of_bytes (Some v) ≡ of_bytes (Some w)
unfolding of_bytes
bytes_alike v w e = rw e

enums_alike : (v w : Vec EnumDescriptorProto Global) → v.items ≡ w.items → of_records (map of_enum v.items) ≡ of_records (map of_enum w.items)
enums_alike v w e = ap (λ (es : List EnumDescriptorProto). of_records (map of_enum es)) e

pub contents_and_tables : ContentsAndTables
contents_and_tables = record {
  text = λ f s t e. let same = text_alike s t e in rw same;
  bytes = λ f v w e. let same = bytes_alike v w e in rw same;
  list = λ f v w e. let same = enums_alike v w e in rw same;
  absent = λ f s e. let h = (one_file (record f { syntax = Some s }) (record f { syntax = None }) e).syntax in cc;
  unread = λ f o. refl;
  unlike = λ f v e. let h = (one_file (record f { options = Some v }) (record f { options = None }) e).options in cc;
  fewer = λ f e. cc;
}
