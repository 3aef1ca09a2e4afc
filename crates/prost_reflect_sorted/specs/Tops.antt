-- What stands at the top of files, while a catalog is made. For contracts of this crate alone.
use Rattle.std.specs.Prelude.{◌≡◌, ℕ, length}
use Rattle.prost_reflect_growth.specs.GatheredFrom.{gathered_from, list_items}
use Rattle.prost_reflect_sorted.specs.declared.files.TopPlaces.{TopPlaces}
use Rattle.prost_reflect_tables.specs.Flat.{FlatRows}
use Rattle.prost_reflect_tables.specs.LinkedCatalog.{top_file}

-- What stands at the top of so many added files, the first of which is at the place F.
pub record AreTops (tops : TopPlaces) (F : ℕ) (old new : FlatRows) (n : ℕ) : Type 0 where
  pub messages : list_items tops.messages ≡ gathered_from (λ m. top_file m.definition) (length old.messages) new.messages F n
  pub enums : list_items tops.enums ≡ gathered_from (λ e. top_file e.definition) (length old.enums) new.enums F n
  pub extensions : list_items tops.extensions ≡ gathered_from top_file (length old.extensions) new.extensions F n
  pub services : list_items tops.services ≡ gathered_from (λ s. top_file s.definition) (length old.services) new.services F n
