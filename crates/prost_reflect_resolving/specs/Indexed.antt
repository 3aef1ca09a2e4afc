-- What the indices of added definitions say.
use Rattle.std.specs.Prelude.{◌≡◌, ⊤, ℕ, ℤ, length, List, [], ◌∷◌, Option, String}
use Rattle.std.specs.BTreeMap.{BTreeMap, get_by_text}
use Rattle.std.specs.List.{position_from}
use Rattle.std.specs.Str.{bytes_eq}
use Rattle.std.specs.declared.alloc.Global.{Global}
use Rattle.prost_reflect_base.specs.declared.Base.{Base}
use Rattle.prost_reflect_base.specs.Below.{rows_below}
use Rattle.prost_reflect_tables.specs.Rows.{EnumValueRow}
use Rattle.prost_reflect_tables.specs.WrittenDefaults.{number_named}
use Rattle.prost_reflect_tables.specs.Flat.{FlatRows, behind}
use Rattle.prost_reflect_tables.specs.Faults.{message_names, enum_names}
use Rattle.prost_reflect_tables.specs.Linking.{links_of}
use Rattle.prost_reflect_resolving.specs.declared.index.Index.{Index}

-- The definitions of the files that are there, and the added ones behind them.
abbrev pub all_rows : Base → FlatRows → FlatRows
all_rows base new = behind (rows_below base) new

-- The place of the first of a name, where the first of the names is at the place.
abbrev pub place_from : ℕ → List (List ℕ) → List ℕ → Option ℕ
place_from first names name = position_from (λ n. bytes_eq name n) first names

-- Looking a name up gives that place.
abbrev pub IsIndexFrom : ℕ → BTreeMap (String Global) ℕ → List (List ℕ) → Type 0
IsIndexFrom first index names = (name : List ℕ) → get_by_text index name ≡ place_from first names name

-- Looking a name up gives the number of the first value of that name.
abbrev pub IsNumbersOf : BTreeMap (String Global) ℤ → List EnumValueRow → Type 0
IsNumbersOf numbers values = (name : List ℕ) → get_by_text numbers name ≡ number_named values name

-- The same for each enum of a list, at its place.
abbrev pub AreNumbersOf : List (BTreeMap (String Global) ℤ) → List (List EnumValueRow) → Type 0
AreNumbersOf [] [] = ⊤
AreNumbersOf (numbers ∷ more) (values ∷ rest) = IsNumbersOf numbers values × AreNumbersOf more rest
AreNumbersOf more rest = ⊥

-- The index of added definitions, whose places are behind those of the pool.
pub record IsIndex (index : Index) (new : FlatRows) : Type 0 where
  pub messages : IsIndexFrom (length (rows_below index.base).messages) index.messages (message_names new)
  pub enums : IsIndexFrom (length (rows_below index.base).enums) index.enums (enum_names new)
  pub numbers : AreNumbersOf index.numbers.items (links_of new).values
