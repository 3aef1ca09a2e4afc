-- What the catalog of a pool names is there.
use Rattle.std.specs.Prelude.{◌≡◌, ◌<◌, ◌≤◌, ◌∷◌, [], zero, suc}
use Rattle.prost_reflect_pool.proofs.Common.{ℕ, true, List, Option, None, Some, length, map, get_or, refl, sym, ap, ◌∙◌, subst, arith, slice_get, option_map, All, list_all, length-map, same_Some, slice_get-get_or, slice_get-map, slice_get_read, get_or_from_slice_get, FileRow, ExtensionRow, method_table_row, service_table_row, links_of, linked_field, flattened, fields_at, fields_or_none, is_declared_at, FieldRow, OneofRow, MessageRow, passes_at, ExtensionThere, extension_there, marked_extension, MethodThere, methods_there, ImportsThere, imports_there, files_of, pool_rows, pool_catalog, oneofs_at, oneofs_or_none, LinkedPool}
use Rattle.prost_reflect_tables.specs.declared.catalog.MethodTable.{MethodTable}
use Rattle.prost_reflect_tables.specs.declared.catalog.ServiceTable.{ServiceTable}
use Rattle.prost_reflect_tables.proofs.DeclaredFields.{members_declared, oneof_members}

-- The row of an item that was read.
pub row_read : {X Y : Type 0} (v : X → Y) (xs : List X) (i : ℕ) (x : X) → i < length (map v xs) → x ≡ get_or xs i x → slice_get (map v xs) i ≡ Some (v x)
row_read v xs i x within read = slice_get-map v xs i ∙ ap (option_map v) (slice_get_read xs (length xs) i x refl (omega (arith, within, length-map xs v)) read)

-- The same in a list of rows that is these items'.
pub row_in : {X Y : Type 0} (v : X → Y) (xs : List X) (ys : List Y) (i : ℕ) (x : X) → map v xs ≡ ys → i < length ys → x ≡ get_or xs i x → slice_get ys i ≡ Some (v x)
row_in v xs ys i x rows within read = ap (λ l. slice_get l i) (sym rows) ∙ row_read v xs i x (omega (arith, within, ap length rows)) read

-- What holds of each row holds of each item.
of_rows : {X Y : Type 0} (P : Y → Type 0) (v : X → Y) (xs : List X) → All P (map v xs) → All (λ x. P (v x)) xs
of_rows P v xs h k d within =
    let x = get_or xs k d in
    let at : slice_get (map v xs) k ≡ Some (v x) = slice_get-map v xs k ∙ ap (option_map v) (slice_get-get_or xs k d within) in
    subst P (get_or_from_slice_get (map v xs) k (v x) (v d) at) (h k (v d) (omega (arith, within, length-map xs v)))

-- What the members of a oneof are.
pub members_of : (pool : LinkedPool) (T i : ℕ) (o : OneofRow) → slice_get (oneofs_at (pool_rows pool) T) i ≡ Some o → list_all (is_declared_at (fields_at (pool_rows pool) T)) o.fields ≡ true
members_of pool T i o found = of (slice_get (pool_rows pool).messages T) refl found
  where
    of : (m : Option MessageRow) → slice_get (pool_rows pool).messages T ≡ m → slice_get (oneofs_or_none m) i ≡ Some o → list_all (is_declared_at (fields_or_none m)) o.fields ≡ true
    of None at e = absurd cc
    of (Some m) at e = passes_at (λ (r : OneofRow). list_all (is_declared_at m.fields) r.fields) m.oneofs i o (passes_at members_declared (pool_rows pool).messages T m (oneof_members (files_of pool) (pool_rows pool) pool.built pool.tables.linked) at) e

pub extension_of : (pool : LinkedPool) (i : ℕ) (x : ExtensionRow) → slice_get (pool_catalog pool).extensions i ≡ Some x → ExtensionThere (flattened (files_of pool)) (pool_rows pool) i x
extension_of pool i x at = extension_there (files_of pool) (pool_rows pool) pool.catalog i x pool.built pool.tables.linked pool.listed at

pub extension_marked : (pool : LinkedPool) (i : ℕ) (x : ExtensionRow) (f : FieldRow) → slice_get (pool_catalog pool).extensions i ≡ Some x → slice_get (fields_at (pool_rows pool) x.message) x.field ≡ Some f → f.is_extension ≡ true
extension_marked pool i x f at there =
    let e = extension_of pool i x at in
    let same : f ≡ linked_field (links_of (flattened (files_of pool))) true e.definition = same_Some f (linked_field (links_of (flattened (files_of pool))) true e.definition) (sym there ∙ e.at) in
    ap (λ (r : FieldRow). r.is_extension) same ∙ marked_extension (links_of (flattened (files_of pool))) e.definition

pub methods_of : (pool : LinkedPool) (i : ℕ) (s : ServiceTable) → slice_get (pool_catalog pool).services i ≡ Some (service_table_row s) → All (λ (m : MethodTable). MethodThere (pool_rows pool) (method_table_row m)) s.methods.items
methods_of pool i s at = of_rows (MethodThere (pool_rows pool)) method_table_row s.methods.items (methods_there (files_of pool) (pool_rows pool) pool.catalog i (service_table_row s) pool.built pool.listed at)

pub imports_of : (pool : LinkedPool) (i : ℕ) (f : FileRow) → slice_get (pool_catalog pool).files i ≡ Some f → ImportsThere (files_of pool) f
imports_of pool i f at = imports_there (files_of pool) (pool_rows pool) pool.catalog i f pool.built pool.listed at

-- PLACES BEHIND A LIST

pub nothing_past : {X : Type 0} (xs : List X) (k : ℕ) → slice_get xs k ≡ None → length xs ≤ k
nothing_past [] k none = omega arith
nothing_past (x ∷ xs) zero none = absurd cc
nothing_past (x ∷ xs) (suc k) none = let rest = nothing_past xs k none in omega arith
