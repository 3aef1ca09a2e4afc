-- Files behind those of a pool: what is found of the added definitions is found of all.
use Rattle.std.specs.Prelude.{◌≡◌, ◌+◌, ◌∷◌, ◌++◌, ◌&&◌, ◌||◌, is_some}
use Rattle.std.specs.List.{position_from}
use Rattle.std.proofs.Common.{cond}
use Rattle.prost_reflect_pool.specs.Lookups.{file_place}
use Rattle.std.proofs.lemmas.Iterator.Adapters.{position_from-zero}
use Rattle.std.proofs.lemmas.List.Folds.{list_any-append}
use Rattle.std.proofs.lemmas.Slice.Eq.{bytes_eq-Decides}
use Rattle.prost_reflect_building.proofs.Common.{ℕ, Bool, List, [], Some, length, nat_eq, not, true, false, refl, ap, ap₂, sym, subst, ◌∙◌, bytes_eq, list_any, FileDescriptorProto, PoolError, TableRows, Checked, has_fault, FlatRows, behind, files_from, flattened, is_linked, have_one_name, is_named, is_there, is_unnamed, text_or_empty}
use Rattle.prost_reflect_growth.specs.ChecksGrow.{added_fault}
use Rattle.prost_reflect_growth.specs.GrownCatalog.{grown_catalog}
use Rattle.prost_reflect_growth.specs.RowsGrow.{grown_rows}
use Rattle.prost_reflect_growth.proofs.ChecksGrow.{checks_grow}
use Rattle.prost_reflect_growth.proofs.Flats.{flat_grows}
use Rattle.prost_reflect_growth.proofs.GrownCatalog.{grown_is_catalog}
use Rattle.prost_reflect_growth.proofs.TablesGrow.{tables_grow}
use Rattle.prost_reflect_tables.proofs.LinksWell.{links_well}
use Rattle.prost_reflect_tables.specs.Built.{AreTablesOf}
use Rattle.prost_reflect_tables.specs.CatalogRows.{catalog_row}
use Rattle.prost_reflect_tables.specs.Checked.{Stands}
use Rattle.prost_reflect_tables.specs.InRange.{in_range}
use Rattle.prost_reflect_tables.specs.LinkedCatalog.{IsCatalogOf}
use Rattle.prost_reflect_tables.specs.declared.catalog.Catalog.{Catalog}

-- The flat lists of added files, as they stand behind those of the others.
abbrev pub IsBehind : (files added : List FileDescriptorProto) → FlatRows → Type 0
IsBehind files added new = new ≡ files_from added (length files) (length (flattened files).messages)

module _ (files added : List FileDescriptorProto) (new : FlatRows) (is : IsBehind files added new) where
  pub all_refused : Checked files (flattened files) → (e : PoolError) → added_fault e files added (flattened files) new ≡ true → Stands e (files ++ added) (flattened (files ++ added))
  all_refused checked e stands =
      ap (has_fault e (files ++ added)) (flat_grows files added ∙ ap (behind (flattened files)) (sym is)) ∙ (checks_grow files added (flattened files) new checked e ∙ stands)

  module _ (rows : TableRows) (built : AreTablesOf files rows) (linked : is_linked rows ≡ true) where
    -- The grown rows are the tables of all files.
    pub all_built : ((e : PoolError) → added_fault e files added (flattened files) new ≡ false) → AreTablesOf (files ++ added) (grown_rows (flattened files) new rows)
    all_built none =
        subst (λ (n : FlatRows). AreTablesOf (files ++ added) (grown_rows (flattened files) n rows)) (sym is)
        (tables_grow files added rows built linked (λ e. ap (added_fault e files added (flattened files)) (sym is) ∙ none e))

    -- The grown catalog is that of all files.
    pub all_listed : (catalog grown : Catalog) → IsCatalogOf files catalog →
        catalog_row grown ≡ grown_catalog files added (flattened files) new rows (catalog_row catalog) → IsCatalogOf (files ++ added) grown
    all_listed catalog grown listed e =
        grown_is_catalog files added rows catalog grown built linked listed (e ∙ ap (λ (n : FlatRows). grown_catalog files added (flattened files) n rows (catalog_row catalog)) is)

-- The tables of files are linked.
pub tables_linked : (files : List FileDescriptorProto) (rows : TableRows) → AreTablesOf files rows → in_range rows ≡ true → is_linked rows ≡ true
tables_linked files rows built range = ap is_linked built.1 ∙ links_well (flattened files) (record { checked = built.0; range = ap in_range (sym built.1) ∙ range })

-- NAMES

-- A text that is no empty one is the name of those that it is the text of.
name_is : (name : List ℕ) (f : FileDescriptorProto) → nat_eq (length name) 0 ≡ false → bytes_eq (text_or_empty f.name) name ≡ is_named name f
name_is name f some = go (bytes_eq (text_or_empty f.name) name) refl
  where
    go : (b : Bool) → bytes_eq (text_or_empty f.name) name ≡ b → bytes_eq (text_or_empty f.name) name ≡ (not (is_unnamed f.name) && bytes_eq (text_or_empty f.name) name)
    go true e =
        let same : text_or_empty f.name ≡ name = (bytes_eq-Decides (text_or_empty f.name) name).0 e in
        let named : is_unnamed f.name ≡ false = ap (λ l. nat_eq (length l) 0) same ∙ some in
        rw (e, named) refl
    go false e = let none : (not (is_unnamed f.name) && false) ≡ false = elim (is_unnamed f.name) as (λ b. (not b && false) ≡ false) [ true ↦ refl | false ↦ refl ] in rw e (sym none)

pub named_there : (name : List ℕ) (files : List FileDescriptorProto) → nat_eq (length name) 0 ≡ false → list_any (λ f. bytes_eq (text_or_empty f.name) name) files ≡ list_any (is_named name) files
named_there name [] some = refl
named_there name (f ∷ files) some = ap₂ (λ b c. b || c) (name_is name f some) (named_there name files some)

some_from : {X : Type 0} (p : X → Bool) (i : ℕ) (xs : List X) → is_some (position_from p i xs) ≡ list_any p xs
some_from p i [] = refl
some_from {X} p i (x ∷ xs) = go (p x) (some_from p (i + 1) xs)
  where
    go : (b : Bool) → is_some (position_from p (i + 1) xs) ≡ list_any p xs → is_some (cond b (Some i) (position_from p (i + 1) xs)) ≡ (b || list_any p xs)
    go true e = refl
    go false e = e

-- Where a file has the name, some file is found by it.
pub found_there : (files : List FileDescriptorProto) (name : List ℕ) → nat_eq (length name) 0 ≡ false → is_some (file_place files name) ≡ list_any (is_named name) files
found_there files name some =
    let p = λ (f : FileDescriptorProto). bytes_eq (text_or_empty f.name) name in
    ap is_some (position_from-zero p files) ∙ (some_from p 0 files ∙ named_there name files some)

-- Among files and further ones.
pub there_both : (files more : List FileDescriptorProto) (f : FileDescriptorProto) → is_there (files ++ more) f ≡ (is_there files f || is_there more f)
there_both files more f = list_any-append (λ g. have_one_name g f) files more
