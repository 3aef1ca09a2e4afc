-- What the catalog of checked files names is there: the rows of extensions, the message types of methods, and the files that files import.
use Rattle.std.specs.Prelude.{◌≡◌, ◌+◌, ◌<◌, ◌∷◌, ◌++◌}
use Rattle.prost_reflect_tables.proofs.Common.{ℕ, zero, suc, ℤ, pos, negsuc, Bool, true, false, cond, List, [], length, map, get_or, Option, Some, None, is_none, unwrap_or, refl, sym, ap, ◌∙◌, subst, arith, slice_get, bytes_eq, nat_le, String, string_bytes, All, list_any, or_parts, eq-eqb, leb-false, ltb-true, length-map, slice_get-get_or, slice_get_within, unwrap_or-slice_get, FileDescriptorProto, FieldDescriptorProto, MethodDescriptorProto, Catalog, text_or_empty, FieldRow, TableRows, fields_at, fields_or_none, is_linked, DefinitionRow, FlatMessageRow, FlatServiceRow, FlatRows, flattened, any_field, name_place, place_named, file_names, message_names, names_nothing, extendee_missing, extendee_unknown, type_missing, type_unknown, method_type_missing, method_type_unknown, dependency_missing, import_outside, has_oneof_outside, is_outside, Checked, Links, links_of, natural_or_zero, place_or_first, is_place, extended_place, belonging, linked_field, declared_fields, fields_of_message, linked_message, put_in_order, in_order, linked_rows, AreTablesOf, FileRow, ExtensionRow, MethodRow, ServiceRow, CatalogRows, catalog_row, each_from, file_place, import_at, dependency_places, linked_file, linked_extension, linked_method, linked_service, linked_catalog, IsCatalogOf}
use Rattle.std.proofs.Common.{Global}
use Rattle.prost_reflect_tables.specs.declared.error.PoolError.TheVariants as errors
use Rattle.prost_reflect_tables.specs.Places as places
use Rattle.prost_reflect_tables.proofs.Ascending.{place_found}
use Rattle.prost_reflect_tables.proofs.Keeping.{fields_ascend}
use Rattle.prost_reflect_tables.proofs.Linkwell.Items.{none_at}
use Rattle.prost_reflect_tables.proofs.Linkwell.Premises.{three}
use Rattle.prost_reflect_tables.proofs.Linkwell.Kinds.{FoundIn, found_in, first_place, message_name, position_at}
use Rattle.prost_reflect_tables.proofs.Linkwell.Fields.{number_shown, linked_there, message_there}

-- ITEMS

every : {X : Type 0} (P : X → Type 0) (xs : List X) → ((i : ℕ) (x : X) → slice_get xs i ≡ Some x → P x) → All P xs
every P xs h k d within = h k (get_or xs k d) (slice_get-get_or xs k d within)

-- What stands in a list that was mapped is made of what stands there.
pub mapped_at : {X Y : Type 0} (v : X → Y) (xs : List X) (i : ℕ) (y : Y) → slice_get (map v xs) i ≡ Some y → (x : X) × (slice_get xs i ≡ Some x) × (v x ≡ y)
mapped_at v [] i y e = absurd cc
mapped_at v (x ∷ xs) zero y e = (x, refl, cc)
mapped_at v (x ∷ xs) (suc i) y e = mapped_at v xs i y e

made_at : {X Y : Type 0} (v : ℕ → X → Y) (p : ℕ) (xs : List X) (i : ℕ) (y : Y) → slice_get (each_from v p xs) i ≡ Some y → (x : X) × (slice_get xs i ≡ Some x) × (v (p + i) x ≡ y)
made_at v p [] i y e = absurd cc
made_at v p (x ∷ xs) zero y e =
    let first : p + 0 ≡ p = omega arith in
    let same : v p x ≡ y = cc in
    (x, refl, ap (λ (n : ℕ). v n x) first ∙ same)
made_at v p (x ∷ xs) (suc i) y e =
    let found = made_at v (p + 1) xs i y e in
    let next : p + suc i ≡ (p + 1) + i = omega arith in
    (found.0, found.1, ap (λ (n : ℕ). v n found.0) next ∙ found.2)

-- NAMES

-- The message type that a text names.
named_there : (rows : FlatRows) (o : Option (String Global)) → is_none o ≡ false → names_nothing (message_names rows) o ≡ false → place_or_first (message_names rows) o < length (linked_rows rows).messages
named_there rows o some found =
    let f : FoundIn message_name rows.messages o = found_in message_name rows.messages o some found in
    let place : place_or_first (message_names rows) o ≡ f.place = first_place message_name rows.messages o f in
    omega (arith, place, ltb-true f.place (length (linked_rows rows).messages) (message_there rows f.place f.item f.at))

-- The place of a name is one of the list that has the names.
place_within : {X : Type 0} (name_of : X → List ℕ) (xs : List X) (name : List ℕ) → is_none (name_place (map name_of xs) name) ≡ false → unwrap_or (name_place (map name_of xs) name) 0 < length xs
place_within name_of xs name some = go (name_place (map name_of xs) name) refl some
  where
    go : (o : Option ℕ) → name_place (map name_of xs) name ≡ o → is_none o ≡ false → unwrap_or o 0 < length xs
    go None e none = absurd cc
    go (Some p) e none =
        let found = position_at (bytes_eq name) name_of 0 xs p e in
        omega (arith, found.2, slice_get_within xs found.0 found.1 found.3)

-- WHERE FIELDS STAND

-- A row of the fields, at some place.
abbrev pub HasRow : List FieldRow → FieldRow → Type 0
HasRow fields f = (i : ℕ) × (slice_get fields i ≡ Some f)

put_there : (f : FieldRow) (fields : List FieldRow) → HasRow (put_in_order f fields) f
put_there f [] = (0, refl)
put_there f (g ∷ fields) = go (nat_le f.number g.number) (put_there f fields)
  where
    go : (b : Bool) → HasRow (put_in_order f fields) f → HasRow (cond b (f ∷ g ∷ fields) (g ∷ put_in_order f fields)) f
    go true more = (0, refl)
    go false more = (suc more.0, more.1)

put_keeps : (f h : FieldRow) (fields : List FieldRow) (i : ℕ) → slice_get fields i ≡ Some h → HasRow (put_in_order f fields) h
put_keeps f h [] i at = absurd cc
put_keeps f h (g ∷ fields) zero at = go (nat_le f.number g.number)
  where
    go : (b : Bool) → HasRow (cond b (f ∷ g ∷ fields) (g ∷ put_in_order f fields)) h
    go true = (1, at)
    go false = (0, at)
put_keeps f h (g ∷ fields) (suc i) at = go (nat_le f.number g.number) (put_keeps f h fields i at)
  where
    go : (b : Bool) → HasRow (put_in_order f fields) h → HasRow (cond b (f ∷ g ∷ fields) (g ∷ put_in_order f fields)) h
    go true more = (suc (suc i), at)
    go false more = (suc more.0, more.1)

pub order_keeps : (fields : List FieldRow) (h : FieldRow) (i : ℕ) → slice_get fields i ≡ Some h → HasRow (in_order fields) h
order_keeps [] h i at = absurd cc
order_keeps (f ∷ fields) h zero at = let same : f ≡ h = cc in subst (HasRow (put_in_order f (in_order fields))) same (put_there f (in_order fields))
order_keeps (f ∷ fields) h (suc i) at =
    let found = order_keeps fields h i at in
    put_keeps f h (in_order fields) found.0 found.1

-- Behind the fields of a message stand those that belong to it.
behind_has : (xs ys : List FieldRow) (h : FieldRow) → HasRow ys h → HasRow (xs ++ ys) h
behind_has [] ys h at = at
behind_has (x ∷ xs) ys h at = let more = behind_has xs ys h at in (suc more.0, more.1)

belonging_has : (links : Links) (T : ℕ) (ds : List (DefinitionRow FieldDescriptorProto)) (i : ℕ) (d : DefinitionRow FieldDescriptorProto) → slice_get ds i ≡ Some d → is_place T (extended_place links d) ≡ true →
    HasRow (map (linked_field links true) (belonging (extended_place links) ds T)) (linked_field links true d)
belonging_has links T [] i d at is = absurd cc
belonging_has links T (x ∷ ds) zero d at is =
    let same : x ≡ d = cc in
    let first : is_place T (extended_place links x) ≡ true = ap (λ (y : DefinitionRow FieldDescriptorProto). is_place T (extended_place links y)) same ∙ is in
    rw first (0, ap (λ (y : DefinitionRow FieldDescriptorProto). Some (linked_field links true y)) same)
belonging_has links T (x ∷ ds) (suc i) d at is = go (is_place T (extended_place links x)) (belonging_has links T ds i d at is)
  where
    go : (b : Bool) → HasRow (map (linked_field links true) (belonging (extended_place links) ds T)) (linked_field links true d) → HasRow (map (linked_field links true) (cond b (x ∷ belonging (extended_place links) ds T) (belonging (extended_place links) ds T))) (linked_field links true d)
    go true more = (suc more.0, more.1)
    go false more = more

pub fields_shown : (fields : List FieldRow) (m : FlatMessageRow) → (linked_message fields m).fields ≡ in_order fields
unfolding linked_message
fields_shown fields m = refl

-- EXTENSIONS

-- The row of an extension stands among the fields of the message type of the place.
extension_stands : (rows : FlatRows) (T : ℕ) (m : FlatMessageRow) (i : ℕ) (d : DefinitionRow FieldDescriptorProto) → slice_get rows.messages T ≡ Some m → slice_get rows.extensions i ≡ Some d → extended_place (links_of rows) d ≡ Some T →
    HasRow (fields_at (linked_rows rows) T) (linked_field (links_of rows) true d)
extension_stands rows T m i d at there extended =
    let links = links_of rows in
    let is : is_place (0 + T) (extended_place links d) ≡ true = ap (is_place (0 + T)) extended ∙ eq-eqb (0 + T) T (omega arith) in
    let own = behind_has (declared_fields links m.fields) (map (linked_field links true) (belonging (extended_place links) rows.extensions (0 + T))) (linked_field links true d) (belonging_has links (0 + T) rows.extensions i d there is) in
    let fields : fields_at (linked_rows rows) T ≡ in_order (fields_of_message links rows.extensions (0 + T) m) = ap fields_or_none (linked_there rows T m at) ∙ fields_shown (fields_of_message links rows.extensions (0 + T) m) m in
    subst (λ (l : List FieldRow). HasRow l (linked_field links true d)) (sym fields) (order_keeps (fields_of_message links rows.extensions (0 + T) m) (linked_field links true d) own.0 own.1)

-- A row is found by its number.
row_found : (rows : TableRows) (T n : ℕ) (f : FieldRow) → is_linked rows ≡ true → HasRow (fields_at rows T) f → f.number ≡ n → slice_get (fields_at rows T) (unwrap_or (places.place_of (fields_at rows T) n) 0) ≡ Some f
row_found rows T n f linked has is = ap (λ (o : Option ℕ). slice_get (fields_at rows T) (unwrap_or o 0)) (place_found n (fields_at rows T) has.0 f (fields_ascend rows T linked) has.1 is) ∙ has.1

-- What an extension extends, and its row there.
pub record ExtensionThere (flat : FlatRows) (rows : TableRows) (i : ℕ) (x : ExtensionRow) : Type 0 where
  pub definition : DefinitionRow FieldDescriptorProto
  pub declared : slice_get flat.extensions i ≡ Some definition
  pub message : x.message < length rows.messages
  pub at : slice_get (fields_at rows x.message) x.field ≡ Some (linked_field (links_of flat) true definition)

pub extension_linked : (files : List FileDescriptorProto) (flat : FlatRows) (i : ℕ) (d : DefinitionRow FieldDescriptorProto) → Checked files flat → is_linked (linked_rows flat) ≡ true → slice_get flat.extensions i ≡ Some d →
    ExtensionThere flat (linked_rows flat) i (linked_extension (links_of flat) (linked_rows flat) d)
extension_linked files flat i d checked linked there =
    let missing : is_none d.proto.extendee ≡ false = none_at extendee_missing flat.extensions i d (three _ _ _ (checked errors.MissingType)).1 there in
    let unknown : names_nothing (message_names flat) d.proto.extendee ≡ false = none_at (extendee_unknown flat) flat.extensions i d (three _ _ _ (checked errors.UnknownType)).1 there in
    let f : FoundIn message_name flat.messages d.proto.extendee = found_in message_name flat.messages d.proto.extendee missing unknown in
    let place : place_or_first (message_names flat) d.proto.extendee ≡ f.place = first_place message_name flat.messages d.proto.extendee f in
    let extended : extended_place (links_of flat) d ≡ Some f.place = ap (place_named (message_names flat)) f.is ∙ f.found in
    let row = linked_field (links_of flat) true d in
    let has : HasRow (fields_at (linked_rows flat) (place_or_first (message_names flat) d.proto.extendee)) row = subst (λ (T : ℕ). HasRow (fields_at (linked_rows flat) T) row) (sym place) (extension_stands flat f.place f.item i d f.at there extended) in
    record {
      definition = d;
      declared = there;
      message = named_there flat d.proto.extendee missing unknown;
      at = row_found (linked_rows flat) (place_or_first (message_names flat) d.proto.extendee) (natural_or_zero d.proto.number) row linked has (number_shown (links_of flat) true d);
    }

catalog_is : (files : List FileDescriptorProto) (catalog : Catalog) → IsCatalogOf files catalog → catalog_row catalog ≡ linked_catalog files (flattened files)
unfolding IsCatalogOf
catalog_is files catalog is = is

pub extension_there : (files : List FileDescriptorProto) (rows : TableRows) (catalog : Catalog) (i : ℕ) (x : ExtensionRow) → AreTablesOf files rows → is_linked rows ≡ true → IsCatalogOf files catalog → slice_get (catalog_row catalog).extensions i ≡ Some x → ExtensionThere (flattened files) rows i x
extension_there files rows catalog i x built linked listed at =
    let flat = flattened files in
    let is = catalog_is files catalog listed in
    let found = mapped_at (linked_extension (links_of flat) (linked_rows flat)) flat.extensions i x (ap (λ (c : CatalogRows). slice_get c.extensions i) (sym is) ∙ at) in
    let there = extension_linked files flat i found.0 built.0 (ap is_linked (sym built.1) ∙ linked) found.1 in
    subst (λ (r : TableRows). ExtensionThere flat r i x) (sym built.1) (subst (ExtensionThere flat (linked_rows flat) i) found.2 there)

pub marked_extension : (links : Links) (d : DefinitionRow FieldDescriptorProto) → (linked_field links true d).is_extension ≡ true
unfolding linked_field
marked_extension links d = refl

-- SERVICES

-- The message types of a method are there.
pub record MethodThere (rows : TableRows) (m : MethodRow) : Type 0 where
  pub input : m.input < length rows.messages
  pub output : m.output < length rows.messages

method_linked : (files : List FileDescriptorProto) (flat : FlatRows) (i j : ℕ) (s : FlatServiceRow) (d : DefinitionRow MethodDescriptorProto) → Checked files flat → slice_get flat.services i ≡ Some s → slice_get s.methods j ≡ Some d → MethodThere (linked_rows flat) (linked_method (links_of flat) d)
method_linked files flat i j s d checked at there =
    let missing : method_type_missing d ≡ false = none_at method_type_missing s.methods j d (none_at (λ (s : FlatServiceRow). list_any method_type_missing s.methods) flat.services i s (three (any_field type_missing flat) (list_any extendee_missing flat.extensions) _ (checked errors.MissingType)).2 at) there in
    let unknown : method_type_unknown flat d ≡ false = none_at (method_type_unknown flat) s.methods j d (none_at (λ (s : FlatServiceRow). list_any (method_type_unknown flat) s.methods) flat.services i s (three (any_field (type_unknown flat) flat) (list_any (extendee_unknown flat) flat.extensions) _ (checked errors.UnknownType)).2 at) there in
    let named = or_parts (is_none d.proto.input_type) (is_none d.proto.output_type) missing in
    let found = or_parts (names_nothing (message_names flat) d.proto.input_type) (names_nothing (message_names flat) d.proto.output_type) unknown in
    record { input = named_there flat d.proto.input_type named.0 found.0; output = named_there flat d.proto.output_type named.1 found.1 }

-- The service of a place, and its methods.
pub methods_there : (files : List FileDescriptorProto) (rows : TableRows) (catalog : Catalog) (i : ℕ) (s : ServiceRow) → AreTablesOf files rows → IsCatalogOf files catalog → slice_get (catalog_row catalog).services i ≡ Some s → All (MethodThere rows) s.methods
methods_there files rows catalog i s built listed at =
    let flat = flattened files in
    let is = catalog_is files catalog listed in
    let found = mapped_at (linked_service (links_of flat)) flat.services i s (ap (λ (c : CatalogRows). slice_get c.services i) (sym is) ∙ at) in
    every (MethodThere rows) s.methods (λ j m there.
    let method = mapped_at (linked_method (links_of flat)) found.0.methods j m (ap (λ (r : ServiceRow). slice_get r.methods j) found.2 ∙ there) in
    subst (λ (r : TableRows). MethodThere r m) (sym built.1) (subst (MethodThere (linked_rows flat)) method.2 (method_linked files flat i j found.0 method.0 built.0 found.1 method.1)))

-- FILES

dependencies_linked : (files : List FileDescriptorProto) (flat : FlatRows) (i : ℕ) (f : FileDescriptorProto) → Checked files flat → slice_get files i ≡ Some f → All (λ d. d < length files) (dependency_places (file_names files) f)
dependencies_linked files flat i f checked at =
    let missing : dependency_missing (file_names files) f ≡ false = none_at (dependency_missing (file_names files)) files i f (checked errors.MissingDependency) at in
    every (λ (d : ℕ). d < length files) (dependency_places (file_names files) f) (λ j d there.
    let found = mapped_at (λ (t : String Global). file_place (file_names files) (string_bytes t)) f.dependency.items j d there in
    let some : is_none (name_place (file_names files) (string_bytes found.0)) ≡ false = none_at (λ (t : String Global). is_none (name_place (file_names files) (string_bytes t))) f.dependency.items j found.0 missing found.1 in
    omega (arith, found.2, place_within (λ (x : FileDescriptorProto). text_or_empty x.name) files (string_bytes found.0) some))

-- An import that is not outside is the one at its place.
import_within : (P : ℕ → Type 0) (ds : List ℕ) (count : ℕ) (z : ℤ) → length ds ≡ count → is_outside count z ≡ false → All P ds → P (import_at ds z)
import_within P ds count (pos n) all_there inside holds = subst P (sym (unwrap_or-slice_get ds n 0)) (holds n 0 (omega (arith, all_there, leb-false count n inside)))
import_within P ds count (negsuc n) all_there inside holds = absurd cc

imports_linked : (files : List FileDescriptorProto) (flat : FlatRows) (i : ℕ) (f : FileDescriptorProto) → Checked files flat → slice_get files i ≡ Some f → All (λ d. d < length files) (map (import_at (dependency_places (file_names files) f)) f.public_dependency.items)
imports_linked files flat i f checked at =
    let ds = dependency_places (file_names files) f in
    let count = length f.dependency.items in
    let outside : import_outside f ≡ false = none_at import_outside files i f (or_parts (list_any import_outside files) (list_any has_oneof_outside flat.messages) (checked errors.BadIndex)).0 at in
    let imports : list_any (is_outside count) f.public_dependency.items ≡ false = (or_parts (list_any (is_outside count) f.public_dependency.items) (list_any (is_outside count) f.weak_dependency.items) outside).0 in
    every (λ (d : ℕ). d < length files) (map (import_at ds) f.public_dependency.items) (λ j d there.
    let found = mapped_at (import_at ds) f.public_dependency.items j d there in
    subst (λ (p : ℕ). p < length files) found.2 (import_within (λ (p : ℕ). p < length files) ds count found.0 (length-map f.dependency.items (λ (t : String Global). file_place (file_names files) (string_bytes t)))
    (none_at (is_outside count) f.public_dependency.items j found.0 imports found.1) (dependencies_linked files flat i f checked at)))

-- The files that a file imports, and those that it imports publicly, are there.
pub record ImportsThere (files : List FileDescriptorProto) (f : FileRow) : Type 0 where
  pub dependencies : All (λ d. d < length files) f.dependencies
  pub public_dependencies : All (λ d. d < length files) f.public_dependencies

pub imports_there : (files : List FileDescriptorProto) (rows : TableRows) (catalog : Catalog) (i : ℕ) (f : FileRow) → AreTablesOf files rows → IsCatalogOf files catalog → slice_get (catalog_row catalog).files i ≡ Some f → ImportsThere files f
imports_there files rows catalog i f built listed at =
    let flat = flattened files in
    let is = catalog_is files catalog listed in
    let found = made_at (linked_file (file_names files) flat) 0 files i f (ap (λ (c : CatalogRows). slice_get c.files i) (sym is) ∙ at) in
    subst (ImportsThere files) found.2 (record { dependencies = dependencies_linked files flat i found.0 built.0 found.1; public_dependencies = imports_linked files flat i found.0 built.0 found.1 })
