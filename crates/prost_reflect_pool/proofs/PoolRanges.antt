-- What stands at a place of a pool names places that are there.
use Rattle.std.specs.Prelude.{◌≡◌, ◌<◌, ◌∷◌}
use Rattle.prost_reflect_pool.proofs.Common.{ℕ, zero, suc, List, [], map, length, get_or, Option, None, Some, option_map, refl, ap, ◌∙◌, arith, slice_get, length-map, slice_get_read, slice_get-map, EnumRow, message_row, enum_row, file_table_row, message_lists_row, enum_lists_row, CatalogWithin, IdentityWithin, MessageRowWithin, EnumRowWithin, FileRowWithin, ListsWithin, EnumListsWithin, holds_at, catalog_within, values_at, values_or_none, files_of, pool_rows, pool_catalog, LinkedPool}
use Rattle.prost_reflect_tables.specs.declared.tables.MessageTable.{MessageTable}
use Rattle.prost_reflect_tables.specs.declared.tables.EnumTable.{EnumTable}
use Rattle.prost_reflect_tables.specs.declared.catalog.FileTable.{FileTable}
use Rattle.prost_reflect_tables.specs.declared.catalog.MessageLists.{MessageLists}
use Rattle.prost_reflect_tables.specs.declared.catalog.EnumLists.{EnumLists}

pub pool_within : (pool : LinkedPool) → CatalogWithin (files_of pool) (pool_rows pool) (pool_catalog pool)
pool_within pool = catalog_within (files_of pool) (pool_rows pool) pool.catalog pool.built pool.listed

-- Something stands at a place that is there.
pub slice_get_missing : {X : Type 0} (xs : List X) (k : ℕ) → k < length xs → slice_get xs k ≡ None → ⊥
slice_get_missing [] k there none = omega arith
slice_get_missing (x ∷ xs) zero there none = cc
slice_get_missing (x ∷ xs) (suc k) there none = slice_get_missing xs k (omega arith) none

-- The row of what stands at a place.
pub row_at : {X Y : Type 0} (row : X → Y) (xs : List X) (k : ℕ) (x : X) → k < length xs → x ≡ get_or xs k x → slice_get (map row xs) k ≡ Some (row x)
row_at row xs k x there is = slice_get-map row xs k ∙ ap (option_map row) (slice_get_read xs (length xs) k x refl there is)

-- IDENTITIES

pub message_stands : (pool : LinkedPool) (T : ℕ) (m : MessageTable) → T < length (pool_rows pool).messages → m ≡ get_or pool.tables.messages T m → IdentityWithin (length (files_of pool)) (length (pool_rows pool).messages) (message_row m).id
message_stands pool T m there is =
    let within : T < length pool.tables.messages = omega (arith, length-map pool.tables.messages message_row) in
    (holds_at (MessageRowWithin (length (files_of pool)) (length (pool_rows pool).messages)) (pool_rows pool).messages T (message_row m) (pool_within pool).messages (row_at message_row pool.tables.messages T m within is)).id

pub enum_stands : (pool : LinkedPool) (E : ℕ) (e : EnumTable) → E < length (pool_rows pool).enums → e ≡ get_or pool.tables.enums E e → IdentityWithin (length (files_of pool)) (length (pool_rows pool).messages) (enum_row e).id
enum_stands pool E e there is =
    let within : E < length pool.tables.enums = omega (arith, length-map pool.tables.enums enum_row) in
    holds_at (EnumRowWithin (length (files_of pool)) (length (pool_rows pool).messages)) (pool_rows pool).enums E (enum_row e) (pool_within pool).enums (row_at enum_row pool.tables.enums E e within is)

-- FILES

pub file_listed : (pool : LinkedPool) (F : ℕ) → F < length (files_of pool) → F < length pool.catalog.files
file_listed pool F there = omega (arith, (pool_within pool).file_count, length-map pool.catalog.files file_table_row)

pub file_at : (pool : LinkedPool) (F : ℕ) (f : FileTable) → F < length (files_of pool) → f ≡ get_or pool.catalog.files F f → slice_get (pool_catalog pool).files F ≡ Some (file_table_row f)
file_at pool F f there is = row_at file_table_row pool.catalog.files F f (file_listed pool F there) is

pub file_within : (pool : LinkedPool) (F : ℕ) (f : FileTable) → F < length (files_of pool) → f ≡ get_or pool.catalog.files F f → FileRowWithin (pool_rows pool) (pool_catalog pool) (file_table_row f)
file_within pool F f there is = holds_at (FileRowWithin (pool_rows pool) (pool_catalog pool)) (pool_catalog pool).files F (file_table_row f) (pool_within pool).file_rows (file_at pool F f there is)

-- MESSAGES AND ENUMS

pub message_listed : (pool : LinkedPool) (T : ℕ) → T < length (pool_rows pool).messages → T < length pool.catalog.messages
message_listed pool T there = omega (arith, (pool_within pool).message_count, length-map pool.catalog.messages message_lists_row)

pub lists_at : (pool : LinkedPool) (T : ℕ) (m : MessageLists) → T < length (pool_rows pool).messages → m ≡ get_or pool.catalog.messages T m → slice_get (pool_catalog pool).messages T ≡ Some (message_lists_row m)
lists_at pool T m there is = row_at message_lists_row pool.catalog.messages T m (message_listed pool T there) is

pub lists_within : (pool : LinkedPool) (T : ℕ) (m : MessageLists) → T < length (pool_rows pool).messages → m ≡ get_or pool.catalog.messages T m → ListsWithin (pool_rows pool) (pool_catalog pool) T (message_lists_row m)
lists_within pool T m there is = (pool_within pool).lists T (message_lists_row m) (lists_at pool T m there is)

pub enum_listed : (pool : LinkedPool) (E : ℕ) → E < length (pool_rows pool).enums → E < length pool.catalog.enums
enum_listed pool E there = omega (arith, (pool_within pool).enum_count, length-map pool.catalog.enums enum_lists_row)

pub enum_lists_at : (pool : LinkedPool) (E : ℕ) (e : EnumLists) → E < length (pool_rows pool).enums → e ≡ get_or pool.catalog.enums E e → slice_get (pool_catalog pool).enums E ≡ Some (enum_lists_row e)
enum_lists_at pool E e there is = row_at enum_lists_row pool.catalog.enums E e (enum_listed pool E there) is

pub enum_lists_within : (pool : LinkedPool) (E : ℕ) (e : EnumLists) → E < length (pool_rows pool).enums → e ≡ get_or pool.catalog.enums E e → EnumListsWithin (length (values_at (pool_rows pool) E)) (enum_lists_row e)
enum_lists_within pool E e there is = of (slice_get (pool_rows pool).enums E) refl
  where
    of : (o : Option EnumRow) → slice_get (pool_rows pool).enums E ≡ o → EnumListsWithin (length (values_or_none o)) (enum_lists_row e)
    of None at = absurd (slice_get_missing (pool_rows pool).enums E there at)
    of (Some r) at = (pool_within pool).enum_lists E (enum_lists_row e) r (enum_lists_at pool E e there is) at
