-- The parts of the catalog grow.
use Rattle.std.specs.Prelude.{◌≡◌, ◌+◌, ◌<◌, ◌≤◌, ◌∷◌, ◌++◌}
use Rattle.prost_reflect_growth.proofs.Common.{list_any, IfSome, Global, ℕ, Bool, true, false, cond, List, [], length, map, Option, Some, None, refl, ap, ap₂, ◌∙◌, arith, append-nil, zero-add, string_bytes, String, unwrap_or, is_none, or_parts, ltb-true, lt-ltb, ne_eqb, map-append, FileDescriptorProto, MethodDescriptorProto, MethodRow, ServiceRow, Checked, any_field, dependency_missing, name_place, file_names, message_names, names_nothing, type_unknown, extendee_unknown, method_type_unknown, DefinitionRow, FlatMessageRow, FlatEnumRow, FlatServiceRow, FlatRows, behind, flattened, places_from, each_from, top_file, file_place, dependency_places, import_at, linked_file, linked_lists, enum_lists, linked_method, linked_service, links_of, is_place, linked_identity, extended_place, linked_rows, linked_field, text_or_empty, MessageRow, TableRows}
use Rattle.prost_reflect_tables.specs.declared.error.PoolError.TheVariants as errors
use Rattle.prost_reflect_tables.proofs.CatalogParts.{same_file, same_lists}
use Rattle.prost_reflect_tables.proofs.CatalogRanges.{each_length}
use Rattle.prost_reflect_tables.proofs.FlatRanges as within
use Rattle.prost_reflect_tables.proofs.FlatRanges.{flattened_within}
use Rattle.prost_reflect_tables.proofs.Linkwell.Items.{messages_length}
use Rattle.prost_reflect_tables.proofs.Linkwell.Premises.{three}
use Rattle.prost_reflect_growth.specs.CatalogGrow.{added_file, FilesGrow, ServicesGrow, further_places, grown_lists, ListsGrow, ListsStay, added_lists, ListsAdded, grown_lists_from, MessagesGrow, EnumsGrow}
use Rattle.prost_reflect_growth.specs.Growth.{added_rows, or_behind}
use Rattle.prost_reflect_growth.specs.RowsGrow.{grown_message, further, added_messages}
use Rattle.prost_reflect_growth.proofs.Lists.{each_from_both, places_both, none_placed, front_only, none_front, behind_only}
use Rattle.prost_reflect_growth.proofs.Places.{places_grow}
use Rattle.prost_reflect_growth.proofs.Ranges.{FieldFrom, MessageFrom, EnumFrom, ServiceFrom, FlatFrom, files_on}
use Rattle.prost_reflect_growth.proofs.RowsGrow.{none_extended, rows_grow}
use Rattle.prost_reflect_growth.proofs.Stays.{FieldDef, message_stays, extendee_stays}
use Rattle.prost_reflect_growth.proofs.Untouched.{untouched_stays}

-- WHAT STANDS ELSEWHERE

above : (T n : ℕ) (p : Option ℕ) → T < n → IfSome p (λ k. n ≤ k) → is_place T p ≡ false
above T n None less h = refl
above T n (Some k) less h = ne_eqb T k (λ same. absurd (omega arith))

below : (T n : ℕ) (p : Option ℕ) → n ≤ T → IfSome p (λ k. k < n) → is_place T p ≡ false
below T n None le h = refl
below T n (Some k) le h = ne_eqb T k (λ same. absurd (omega arith))

top_above : {R : Type 0} (F n : ℕ) (d : DefinitionRow R) → F < n → n ≤ d.file → is_place F (top_file d) ≡ false
top_above F n d less h = go (is_none d.parent)
  where
    go : (b : Bool) → is_place F (cond b (Some d.file) None) ≡ false
    go true = ne_eqb F d.file (λ same. absurd (omega arith))
    go false = refl

top_below : {R : Type 0} (F n : ℕ) (d : DefinitionRow R) → n ≤ F → d.file < n → is_place F (top_file d) ≡ false
top_below F n d le h = go (is_none d.parent)
  where
    go : (b : Bool) → is_place F (cond b (Some d.file) None) ≡ false
    go true = ne_eqb F d.file (λ same. absurd (omega arith))
    go false = refl

-- FILES

dependencies_stay : (xs ys : List (List ℕ)) (f : FileDescriptorProto) → dependency_missing xs f ≡ false →
    dependency_places (xs ++ ys) f ≡ dependency_places xs f
dependencies_stay xs ys f h = go f.dependency.items h
  where
    one : (d : String Global) → is_none (name_place xs (string_bytes d)) ≡ false →
        file_place (xs ++ ys) (string_bytes d) ≡ file_place xs (string_bytes d)
    one d e = ap (λ (p : Option ℕ). unwrap_or p 0) (places_grow xs ys (string_bytes d)) ∙ at (name_place xs (string_bytes d)) e
      where
        at : (p : Option ℕ) → is_none p ≡ false → unwrap_or (or_behind p (length xs) (name_place ys (string_bytes d))) 0 ≡ unwrap_or p 0
        at None e = absurd cc
        at (Some i) e = refl

    go : (ds : List (String Global)) → list_any (λ d. is_none (name_place xs (string_bytes d))) ds ≡ false →
        map (λ d. file_place (xs ++ ys) (string_bytes d)) ds ≡ map (λ d. file_place xs (string_bytes d)) ds
    go [] e = refl
    go (d ∷ ds) e =
        let parts = or_parts (is_none (name_place xs (string_bytes d))) (list_any (λ d. is_none (name_place xs (string_bytes d))) ds) e in
        ap₂ (λ x l. x ∷ l) (one d parts.0) (go ds parts.1)

module _ (files added : List FileDescriptorProto) where
  abbrev olds : FlatRows
  olds = flattened files

  abbrev news : FlatRows
  news = added_rows files added

  new_from : FlatFrom (length files) (length olds.messages) news
  new_from = files_on (length files) (length olds.messages) added (length files) (length olds.messages) (omega arith) (omega arith)

  abbrev old_within : within.FlatWithin (length files) (length olds.messages) olds
  old_within = flattened_within files (length olds.messages) refl

  old_file : (F : ℕ) (f : FileDescriptorProto) → F < length files → dependency_missing (file_names files) f ≡ false →
      linked_file (file_names files ++ file_names added) (behind olds news) F f ≡ linked_file (file_names files) olds F f
  old_file F f less found =
      let deps = dependencies_stay (file_names files) (file_names added) f found in
      same_file _ _
      (front_only (λ (m : FlatMessageRow). is_place F (top_file m.definition)) (MessageFrom (length files) (length olds.messages)) (λ m h. top_above F (length files) m.definition less h.definition.file) olds.messages news.messages new_from.messages)
      (front_only (λ (e : FlatEnumRow). is_place F (top_file e.definition)) (EnumFrom (length files) (length olds.messages)) (λ e h. top_above F (length files) e.definition less h.file) olds.enums news.enums new_from.enums)
      (front_only (λ (d : FieldDef). is_place F (top_file d)) (FieldFrom (length files) (length olds.messages)) (λ d h. top_above F (length files) d less h.file) olds.extensions news.extensions new_from.extensions)
      (front_only (λ (s : FlatServiceRow). is_place F (top_file s.definition)) (ServiceFrom (length files) (length olds.messages)) (λ s h. top_above F (length files) s.definition less h.file) olds.services news.services new_from.services)
      deps (ap (λ ds. map (import_at ds) f.public_dependency.items) deps) refl

  new_file : (names : List (List ℕ)) (F : ℕ) (f : FileDescriptorProto) → length files ≤ F →
      linked_file names (behind olds news) F f ≡ added_file names olds news F f
  new_file names F f le =
      same_file _ _
      (behind_only (λ (m : FlatMessageRow). is_place F (top_file m.definition)) (within.MessageWithin (length files) (length olds.messages)) (λ m h. top_below F (length files) m.definition le h.definition.file) olds.messages news.messages old_within.messages)
      (behind_only (λ (e : FlatEnumRow). is_place F (top_file e.definition)) (within.EnumWithin (length files) (length olds.messages)) (λ e h. top_below F (length files) e.definition le h.file) olds.enums news.enums old_within.enums)
      (behind_only (λ (d : FieldDef). is_place F (top_file d)) (within.FieldWithin (length files) (length olds.messages)) (λ d h. top_below F (length files) d le h.file) olds.extensions news.extensions old_within.extensions)
      (behind_only (λ (s : FlatServiceRow). is_place F (top_file s.definition)) (within.ServiceWithin (length files) (length olds.messages)) (λ s h. top_below F (length files) s.definition le h.file) olds.services news.services old_within.services)
      refl refl refl

  old_files : (F : ℕ) (fs : List FileDescriptorProto) → F + length fs ≤ length files →
      list_any (dependency_missing (file_names files)) fs ≡ false →
      each_from (linked_file (file_names files ++ file_names added) (behind olds news)) F fs
      ≡ each_from (linked_file (file_names files) olds) F fs
  old_files F [] le found = refl
  old_files F (f ∷ fs) le found =
      let parts = or_parts (dependency_missing (file_names files) f) (list_any (dependency_missing (file_names files)) fs) found in
      ap₂ (λ x l. x ∷ l) (old_file F f (omega arith) parts.0) (old_files (F + 1) fs (omega arith) parts.1)

  new_files : (names : List (List ℕ)) (F : ℕ) (fs : List FileDescriptorProto) → length files ≤ F →
      each_from (linked_file names (behind olds news)) F fs ≡ each_from (added_file names olds news) F fs
  new_files names F [] le = refl
  new_files names F (f ∷ fs) le = ap₂ (λ x l. x ∷ l) (new_file names F f le) (new_files names (F + 1) fs (omega arith))

pub files_grow : FilesGrow
files_grow files added checked =
    let names : file_names (files ++ added) ≡ file_names files ++ file_names added = map-append (λ (f : FileDescriptorProto). text_or_empty f.name) files added in
    let all = file_names (files ++ added) in
    let o = flattened files in
    let n = added_rows files added in
    each_from_both (linked_file all (behind o n)) 0 files added
    ∙ ap₂ (λ x y. x ++ y)
    (ap (λ ns. each_from (linked_file ns (behind o n)) 0 files) names ∙ old_files files added 0 files (omega arith) (checked errors.MissingDependency))
    (ap (λ k. each_from (linked_file all (behind o n)) k added) (zero-add (length files)) ∙ new_files files added all (length files) added (omega arith))

-- SERVICES

method_stays : (old new : FlatRows) (d : DefinitionRow MethodDescriptorProto) → method_type_unknown old d ≡ false →
    linked_method (links_of (behind old new)) d ≡ linked_method (links_of old) d
method_stays old new d h =
    let parts = or_parts (names_nothing (message_names old) d.proto.input_type) (names_nothing (message_names old) d.proto.output_type) h in
    ap₂ (λ (a b : Option ℕ). record { id = linked_identity d.proto.name d; input = unwrap_or a 0; output = unwrap_or b 0 }) (message_stays old new d.proto.input_type parts.0) (message_stays old new d.proto.output_type parts.1)

services_stay : (old new : FlatRows) (ss : List FlatServiceRow) →
    list_any (λ (s : FlatServiceRow). list_any (method_type_unknown old) s.methods) ss ≡ false →
    map (linked_service (links_of (behind old new))) ss ≡ map (linked_service (links_of old)) ss
services_stay old new [] h = refl
services_stay old new (s ∷ ss) h =
    let parts = or_parts (list_any (method_type_unknown old) s.methods) (list_any (λ (s : FlatServiceRow). list_any (method_type_unknown old) s.methods) ss) h in
    ap₂ (λ (ms : List MethodRow) (l : List ServiceRow). record { id = linked_identity s.definition.proto.name s.definition; methods = ms } ∷ l) (methods s.methods parts.0) (services_stay old new ss parts.1)
  where
    methods : (ds : List (DefinitionRow MethodDescriptorProto)) → list_any (method_type_unknown old) ds ≡ false →
        map (linked_method (links_of (behind old new))) ds ≡ map (linked_method (links_of old)) ds
    methods [] h = refl
    methods (d ∷ ds) h =
        let parts = or_parts (method_type_unknown old d) (list_any (method_type_unknown old) ds) h in
        ap₂ (λ x l. x ∷ l) (method_stays old new d parts.0) (methods ds parts.1)

pub services_grow : ServicesGrow
services_grow files added checked =
    let o = flattened files in
    let n = added_rows files added in
    map-append (linked_service (links_of (behind o n))) o.services n.services
    ∙ ap (λ l. l ++ map (linked_service (links_of (behind o n))) n.services)
    (services_stay o n o.services (three (any_field (type_unknown o) o) (list_any (extendee_unknown o) o.extensions) _ (checked errors.UnknownType)).2)

-- THE LISTS OF AN OLD MESSAGE

extending_stays : (old new : FlatRows) (T i : ℕ) (ds : List (FieldDef)) → list_any (extendee_unknown old) ds ≡ false →
    places_from (λ (d : FieldDef). is_place T (extended_place (links_of (behind old new)) d)) i ds ≡ places_from (λ (d : FieldDef). is_place T (extended_place (links_of old) d)) i ds
extending_stays old new T i [] h = refl
extending_stays old new T i (d ∷ ds) h =
    let parts = or_parts (extendee_unknown old d) (list_any (extendee_unknown old) ds) h in
    ap₂ (λ (p : Option ℕ) (l : List ℕ). cond (is_place T p) (i ∷ l) l) (extendee_stays old new d parts.0) (extending_stays old new T (i + 1) ds parts.1)

pub lists_grow : ListsGrow
lists_grow files added T before after checked inside =
    let o = flattened files in
    let n = added_rows files added in
    let F = length files in
    let M = length o.messages in
    let less : T < M = ltb-true T M inside in
    let from = new_from files added in
    let test = λ (d : FieldDef). is_place T (extended_place (links_of (behind o n)) d) in
    same_lists _ _
    (front_only (λ (m : FlatMessageRow). is_place T m.definition.parent) (MessageFrom F M) (λ m h. above T M m.definition.parent less h.definition.parent) o.messages n.messages from.messages)
    (front_only (λ (e : FlatEnumRow). is_place T e.definition.parent) (EnumFrom F M) (λ e h. above T M e.definition.parent less h.parent) o.enums n.enums from.enums)
    (front_only (λ (d : FieldDef). is_place T d.parent) (FieldFrom F M) (λ d h. above T M d.parent less h.parent) o.extensions n.extensions from.extensions)
    (places_both test 0 o.extensions n.extensions ∙ ap₂ (λ x y. x ++ y) (extending_stays o n T 0 o.extensions (three _ _ _ (checked errors.UnknownType)).1) (ap (λ k. places_from test k n.extensions) (zero-add (length o.extensions))))
    refl refl refl

pub lists_stay : ListsStay
lists_stay old new T m at none =
    let lists = linked_lists old T m in
    let links = links_of (behind old new) in
    let row : grown_message (further old new T) m ≡ m = ap (λ more. grown_message more m) none ∙ untouched_stays old T m at in
    let nowhere : further_places old new T ≡ [] = none_placed (linked_field links true) (λ (d : FieldDef). is_place T (extended_place links d)) (length old.extensions) new.extensions none in
    ap (λ r. grown_lists old new T r lists) row
    ∙ ap (λ (places : List ℕ). record lists { extending = places }) (ap (λ l. lists.extending ++ l) nowhere ∙ append-nil lists.extending)

-- THE LISTS OF AN ADDED MESSAGE

pub lists_added : ListsAdded
lists_added files added T m checked le =
    let o = flattened files in
    let n = added_rows files added in
    let F = length files in
    let M = length o.messages in
    let stands = old_within files added in
    let links = links_of (behind o n) in
    let test = λ (d : FieldDef). is_place T (extended_place links d) in
    let none : places_from test 0 o.extensions ≡ [] = none_placed (linked_field links true) test 0 o.extensions (ap (map (linked_field links true)) (none_extended o n T o.extensions (three _ _ _ (checked errors.UnknownType)).1 le)) in
    same_lists _ _
    (behind_only (λ (m : FlatMessageRow). is_place T m.definition.parent) (within.MessageWithin F M) (λ m h. below T M m.definition.parent le h.definition.parent) o.messages n.messages stands.messages)
    (behind_only (λ (e : FlatEnumRow). is_place T e.definition.parent) (within.EnumWithin F M) (λ e h. below T M e.definition.parent le h.parent) o.enums n.enums stands.enums)
    (behind_only (λ (d : FieldDef). is_place T d.parent) (within.FieldWithin F M) (λ d h. below T M d.parent le h.parent) o.extensions n.extensions stands.extensions)
    (none_front test o.extensions n.extensions none)
    refl refl refl

-- THE LISTS OF ALL MESSAGES

module _ (files added : List FileDescriptorProto) (checked : Checked files (flattened files)) where
  old_lists : (T : ℕ) (ms : List MessageRow) → T + length ms ≤ length (flattened files).messages →
      each_from (linked_lists (behind (flattened files) (added_rows files added))) T (each_from (λ T m. grown_message (further (flattened files) (added_rows files added) T) m) T ms)
      ≡ grown_lists_from (flattened files) (added_rows files added) T ms (each_from (linked_lists (flattened files)) T ms)
  old_lists T [] le = refl
  old_lists T (m ∷ ms) le =
      let M = length (flattened files).messages in
      ap₂ (λ x l. x ∷ l)
      (lists_grow files added T m (grown_message (further (flattened files) (added_rows files added) T) m) checked (lt-ltb T M (omega arith)))
      (old_lists (T + 1) ms (omega arith))

  new_lists : (T : ℕ) (ms : List MessageRow) → length (flattened files).messages ≤ T →
      each_from (linked_lists (behind (flattened files) (added_rows files added))) T ms ≡ each_from (added_lists (flattened files) (added_rows files added)) T ms
  new_lists T [] le = refl
  new_lists T (m ∷ ms) le = ap₂ (λ x l. x ∷ l) (lists_added files added T m checked le) (new_lists (T + 1) ms (omega arith))

pub messages_grow : MessagesGrow
messages_grow files added checked linked =
    let o = flattened files in
    let n = added_rows files added in
    let ms = (linked_rows o).messages in
    let grown = λ (T : ℕ) (m : MessageRow). grown_message (further o n T) m in
    let lists = linked_lists (behind o n) in
    let size : length ms ≡ length o.messages = messages_length (links_of o) o.extensions 0 o.messages in
    let count : 0 + length (each_from grown 0 ms) ≡ length o.messages = omega (arith, each_length grown 0 ms, size) in
    ap (λ (r : TableRows). each_from lists 0 r.messages) (rows_grow files o n checked linked)
    ∙ (each_from_both lists 0 (each_from grown 0 ms) (added_messages o n)
    ∙ ap₂ (λ x y. x ++ y) (old_lists files added checked 0 ms (omega (arith, size)))
    (ap (λ k. each_from lists k (added_messages o n)) count ∙ new_lists files added checked (length o.messages) (added_messages o n) (omega arith)))

-- ENUMS

pub enums_grow : EnumsGrow
enums_grow files added old new = map-append enum_lists old.enums new.enums
