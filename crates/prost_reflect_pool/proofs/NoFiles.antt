-- The tables without rows are linked, and the catalog without rows is that of no files.
use Rattle.std.specs.Prelude.{◌≡◌}
use Rattle.prost_reflect_pool.proofs.Common.{true, List, [], refl, ℕ, IsCatalogOf, is_linked, rows_from}
use Rattle.prost_reflect_tables.specs.declared.tables.MessageTable.{MessageTable}
use Rattle.prost_reflect_tables.specs.declared.tables.EnumTable.{EnumTable}
use Rattle.prost_reflect_tables.specs.declared.catalog.FileTable.{FileTable}
use Rattle.prost_reflect_tables.specs.declared.catalog.MessageLists.{MessageLists}
use Rattle.prost_reflect_tables.specs.declared.catalog.EnumLists.{EnumLists}
use Rattle.prost_reflect_tables.specs.declared.catalog.ExtensionTable.{ExtensionTable}
use Rattle.prost_reflect_tables.specs.declared.catalog.ServiceTable.{ServiceTable}
use Rattle.prost_reflect_tables.specs.Shown.{schema_from}

pub none_linked : (messages : List MessageTable) (enums : List EnumTable) → messages ≡ [] → enums ≡ [] → is_linked (rows_from messages enums) ≡ true
unfolding schema_from
none_linked messages enums m e = rw (m, e) refl

pub none_listed : (files : List FileTable) (messages : List MessageLists) (enums : List EnumLists) (extensions : List ExtensionTable) (services : List ServiceTable) (f2 m2 e2 x2 s2 : List ℕ) (v2 : List (ℕ × ℕ)) →
    files ≡ [] → messages ≡ [] → enums ≡ [] → extensions ≡ [] → services ≡ [] → f2 ≡ [] → m2 ≡ [] → e2 ≡ [] → x2 ≡ [] → s2 ≡ [] → v2 ≡ [] →
    IsCatalogOf [] (record { files = files; messages = messages; enums = enums; extensions = extensions; services = services; by_name = record { files = f2; messages = m2; enums = e2; extensions = x2; services = s2; values = v2 } })
unfolding IsCatalogOf
none_listed files messages enums extensions services f2 m2 e2 x2 s2 v2 a b c d e f g h i j k = rw (a, b, c, d, e, f, g, h, i, j, k) refl
