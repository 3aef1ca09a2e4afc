-- Files of equal contents give equal tables, and are refused for the same reasons.
use Rattle.std.specs.Prelude.{◌≡◌, ◌↔◌, ◌∷◌}
use Rattle.prost_reflect_tables.proofs.Common.{IsTrue, List, [], map, refl, sym, ap, ap₂, ◌∙◌, true≢false, AllZip, pointwise, and_parts, and_from, FileDescriptorProto, of_file, SameFile, file_same, zip_same, PoolError, FlatRows, flattened, has_fault}
use Rattle.prost_reflect_wire.specs.Content.{Content}
use Rattle.prost_reflect_wire.specs.ContentEquality.{content_eq, content_same, content_refl}
use Rattle.prost_reflect_tables.specs.declared.error.PoolError.TheVariants.{BadMapEntry, BadOptions, BadDefault, FloatDefault, MissingName, UnknownSyntax, MissingDependency, BadIndex, BadNumber, BadRange, MissingType, BadLabel, BadOneof, EmptyEnum, DuplicateName, UnknownType, DuplicateNumber, OutsideRange}
use Rattle.prost_reflect_tables.specs.FileLaws.{SameContents, EqualTables, EqualChecks, EqualRefusals}
use Rattle.prost_reflect_tables.proofs.SameRows.{SameRows}
use Rattle.prost_reflect_tables.proofs.SameFlat.{flattened_same}
use Rattle.prost_reflect_tables.proofs.SameLinked.{rows_linked}
use Rattle.prost_reflect_tables.proofs.SameChecks.{missing_name_same, unknown_syntax_same, bad_index_same, bad_number_same, bad_range_same, missing_type_same, bad_label_same, bad_oneof_same, empty_enum_same, duplicate_name_same, missing_dependency_same, unknown_type_same, outside_range_same, duplicate_number_same}
use Rattle.prost_reflect_tables.proofs.SameOptions.{bad_map_entry_same, bad_options_same, bad_default_same, float_default_same}

files_same : (a b : List FileDescriptorProto) → SameContents a b → AllZip SameFile a b
files_same = zip_same of_file SameFile file_same

pub rows_same : (a b : List FileDescriptorProto) → SameContents a b → SameRows (flattened a) (flattened b)
rows_same a b e = flattened_same a b (files_same a b e)

pub equal_tables : EqualTables
equal_tables a b e = rows_linked (flattened a) (flattened b) (rows_same a b e)

-- FAULTS

fault_same : (e : PoolError) (fs gs : List FileDescriptorProto) (a b : FlatRows) → AllZip SameFile fs gs → SameRows a b → has_fault e fs a ≡ has_fault e gs b
fault_same MissingName fs gs a b files h = missing_name_same fs gs a b files h
fault_same UnknownSyntax fs gs a b files h = unknown_syntax_same fs gs files
fault_same MissingDependency fs gs a b files h = missing_dependency_same fs gs files
fault_same BadIndex fs gs a b files h = bad_index_same fs gs a b files h
fault_same BadNumber fs gs a b files h = bad_number_same a b h
fault_same BadRange fs gs a b files h = bad_range_same a b h
fault_same MissingType fs gs a b files h = missing_type_same a b h
fault_same BadLabel fs gs a b files h = bad_label_same a b h
fault_same BadOneof fs gs a b files h = bad_oneof_same a b h
fault_same EmptyEnum fs gs a b files h = empty_enum_same a b h
fault_same DuplicateName fs gs a b files h = duplicate_name_same a b h
fault_same UnknownType fs gs a b files h = unknown_type_same a b h
fault_same DuplicateNumber fs gs a b files h = duplicate_number_same a b h
fault_same OutsideRange fs gs a b files h = outside_range_same a b h
fault_same BadMapEntry fs gs a b files h = bad_map_entry_same a b h
fault_same BadOptions fs gs a b files h = bad_options_same a b h
fault_same BadDefault fs gs a b files h = bad_default_same a b h
fault_same FloatDefault fs gs a b files h = float_default_same a b h
fault_same e fs gs a b files h = refl

fault_equal : (e : PoolError) (a b : List FileDescriptorProto) → SameContents a b → has_fault e a (flattened a) ≡ has_fault e b (flattened b)
fault_equal e a b same = fault_same e a b (flattened a) (flattened b) (files_same a b same) (rows_same a b same)

pub equal_checks : EqualChecks
equal_checks a b same = (λ c e. sym (fault_equal e a b same) ∙ c e, λ c e. fault_equal e a b same ∙ c e)

pub equal_refusals : EqualRefusals
equal_refusals e a b same = (λ s. sym (fault_equal e a b same) ∙ s, λ s. fault_equal e a b same ∙ s)

-- EQUALITY

-- Contents are equal one by one exactly where `==` of the files says so.
pub contents_decided : (a b : List FileDescriptorProto) → IsTrue (pointwise (λ f g. content_eq (of_file f) (of_file g)) a b) ↔ SameContents a b
contents_decided [] [] = (λ yes. refl, λ e. refl)
contents_decided [] (g ∷ gs) = (λ yes. absurd (true≢false (sym yes)), λ e. cc)
contents_decided (f ∷ fs) [] = (λ yes. absurd (true≢false (sym yes)), λ e. cc)
contents_decided (f ∷ fs) (g ∷ gs) = (
  λ yes. let (one, more) = and_parts (content_eq (of_file f) (of_file g)) (pointwise (λ f g. content_eq (of_file f) (of_file g)) fs gs) yes in
      ap₂ (λ (c : Content) (cs : List Content). c ∷ cs) (content_same (of_file f) (of_file g) one) ((contents_decided fs gs).0 more),
  λ e. let one : of_file f ≡ of_file g = cc in
      let more : map of_file fs ≡ map of_file gs = cc in
      and_from _ _ (ap (content_eq (of_file f)) (sym one) ∙ content_refl (of_file f)) ((contents_decided fs gs).1 more),
)
