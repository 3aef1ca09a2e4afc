-- Which full name stands at a place.
use Rattle.std.specs.Prelude.{◌≡◌, ◌≤◌, ◌∷◌, option_map, slice_get, unwrap_or}
use Rattle.std.specs.Option.{option_and_then}
use Rattle.std.proofs.Common.{ℕ, List, [], length, map, Option, None, Some, refl, sym, ap, ◌∙◌}
use Rattle.std.proofs.lemmas.Option.{slice_get-map, slice_get_past}
use Rattle.prost_reflect_tables.specs.Faults.{names_of}
use Rattle.prost_reflect_tables.specs.Flat.{FlatEnumRow}
use Rattle.prost_reflect_tables.specs.LinkedCatalog.{value_full_names}
use Rattle.prost_reflect_tables.specs.Linking.{linked_enum, linked_value}
use Rattle.prost_reflect_tables.specs.Orders.{text_at, text_in}
use Rattle.prost_reflect_tables.specs.CatalogRows.{ExtensionRow}
use Rattle.prost_reflect_tables.specs.Places.{fields_at}
use Rattle.prost_reflect_tables.specs.Rows.{FieldRow, EnumRow, TableRows}
use Rattle.prost_reflect_pool.specs.Listed.{extension_row_at}
use Rattle.prost_reflect_pool.specs.Lookups.{extension_name, full_name_or_empty}
use Rattle.prost_reflect_pool.specs.Pools.{pool_catalog, pool_rows}
use Rattle.prost_reflect_pool.specs.declared.pool.LinkedPool.{LinkedPool}
use Rattle.prost_reflect_pool.proofs.InCatalog.{map_twice, value_full_name}
use Rattle.prost_reflect_base.proofs.Linked.{flat_of, rows_are, extensions_named}

row_named : {X Y Z : Type 0} (row : X → Y) (name : Y → Z) (xs : List X) (ys : List Y) (names : List Z) (i : ℕ) → map row xs ≡ ys → map name ys ≡ names → slice_get names i ≡ option_map (λ x. name (row x)) (slice_get xs i)
row_named row name xs ys names i rows named =
    ap (λ (l : List _). slice_get l i) (sym named ∙ ap (map name) (sym rows)) ∙ (slice_get-map name (map row xs) i ∙ (ap (option_map name) (slice_get-map row xs i) ∙ twice (slice_get xs i)))
  where
    twice : (o : Option _) → option_map name (option_map row o) ≡ option_map (λ x. name (row x)) o
    twice None = refl
    twice (Some x) = refl

-- What has the name stands at the place, or nothing does.
pub name_there : {X Y : Type 0} (row : X → Y) (name : Y → List ℕ) (xs : List X) (ys : List Y) (names : List (List ℕ)) (i : ℕ) (x : X) → map row xs ≡ ys → map name ys ≡ names → slice_get xs i ≡ Some x → name (row x) ≡ text_at names i
name_there row name xs ys names i x rows named at = sym (ap (λ (o : Option (List ℕ)). unwrap_or o []) (row_named row name xs ys names i rows named ∙ ap (option_map (λ x. name (row x))) at))

pub no_name : {X Y : Type 0} (row : X → Y) (name : Y → List ℕ) (xs : List X) (ys : List Y) (names : List (List ℕ)) (i : ℕ) → map row xs ≡ ys → map name ys ≡ names → slice_get xs i ≡ None → [] ≡ text_at names i
no_name row name xs ys names i rows named at = sym (ap (λ (o : Option (List ℕ)). unwrap_or o []) (row_named row name xs ys names i rows named ∙ ap (option_map (λ x. name (row x))) at))

pub name_past : (names : List (List ℕ)) (i : ℕ) → length names ≤ i → [] ≡ text_at names i
name_past names i h = sym (ap (λ (o : Option (List ℕ)). unwrap_or o []) (slice_get_past names i h))

-- The same in lists.
pub value_there : {X Y : Type 0} (row : X → Y) (texts : Y → List (List ℕ)) (xs : List X) (ys : List Y) (names : List (List (List ℕ))) (p : ℕ × ℕ) (x : X) → map row xs ≡ ys → map texts ys ≡ names → slice_get xs p.0 ≡ Some x → text_at (texts (row x)) p.1 ≡ text_in names p
value_there row texts xs ys names p x rows named at = sym (ap (λ (o : Option (List (List ℕ))). text_at (unwrap_or o []) p.1) (row_named row texts xs ys names p.0 rows named ∙ ap (option_map (λ x. texts (row x))) at))

pub no_value : {X Y : Type 0} (row : X → Y) (texts : Y → List (List ℕ)) (xs : List X) (ys : List Y) (names : List (List (List ℕ))) (p : ℕ × ℕ) → map row xs ≡ ys → map texts ys ≡ names → slice_get xs p.0 ≡ None → [] ≡ text_in names p
no_value row texts xs ys names p rows named at = sym (ap (λ (o : Option (List (List ℕ))). text_at (unwrap_or o []) p.1) (row_named row texts xs ys names p.0 rows named ∙ ap (option_map (λ x. texts (row x))) at))

-- VALUES OF ENUMS

abbrev pub names_in : EnumRow → List (List ℕ)
names_in e = map value_full_name e.values

names_linked : (enums : List FlatEnumRow) → map names_in (map linked_enum enums) ≡ map (λ (e : FlatEnumRow). names_of e.values) enums
names_linked [] = refl
names_linked (e ∷ enums) =
    ap (λ (names : List (List ℕ)). names ∷ map names_in (map linked_enum enums)) (map_twice value_full_name linked_value e.values)
    ∙ ap (λ (lists : List (List (List ℕ))). names_of e.values ∷ lists) (names_linked enums)

pub values_named : (pool : LinkedPool) → map names_in (pool_rows pool).enums ≡ value_full_names (flat_of pool)
values_named pool = ap (λ (r : TableRows). map names_in r.enums) (rows_are pool) ∙ names_linked (flat_of pool).enums

-- EXTENSIONS

pub extension_there : (pool : LinkedPool) (i : ℕ) (f : FieldRow) → extension_row_at pool i ≡ Some f → f.id.full_name ≡ text_at (names_of (flat_of pool).extensions) i
extension_there pool i f at =
    let name = extension_name (pool_rows pool) in
    sym (ap (λ names. text_at names i) (sym (extensions_named pool)) ∙ (ap (λ (o : Option (List ℕ)). unwrap_or o []) (slice_get-map name (pool_catalog pool).extensions i) ∙ of (slice_get (pool_catalog pool).extensions i) at))
  where
    of : (o : Option ExtensionRow) → option_and_then (λ (x : ExtensionRow). slice_get (fields_at (pool_rows pool) x.message) x.field) o ≡ Some f → unwrap_or (option_map (extension_name (pool_rows pool)) o) [] ≡ f.id.full_name
    of None e = absurd cc
    of (Some x) e = ap full_name_or_empty e
