-- The codes of kinds in descriptors, the numbers of enums, and enums that are the same. For private contracts alone.
use Rattle.std.specs.Prelude.{◌≡◌, ℕ, ℤ, true, List, map, slice_get}
use Rattle.std.specs.List.{list_any}
use Rattle.std.specs.Ordering.{nat_cmp, int_cmp, int_eq, ordering_then}
use Rattle.std.specs.BTreeSet.{BTreeSet, contains}
use Rattle.prost_reflect_wire.specs.Schema.{Kind, ScalarOf}
use Rattle.prost_reflect_wire.specs.Reduction.{type_code, same_scalar_kind}
use Rattle.prost_reflect_tables.specs.declared.tables.EnumValueTable.{EnumValueTable}
use Rattle.prost_reflect_tables.specs.Rows.{EnumRow, enum_value_row}
use Rattle.prost_reflect_tables.specs.Shown.{enum_kind}

-- The code of a kind; a group's is here that of a message.
abbrev pub kind_code : Kind → ℕ
kind_code (ScalarOf k) = type_code k
kind_code k = 11

-- The numbers of an enum's values.
abbrev pub table_numbers : List EnumValueTable → List ℤ
table_numbers values = map (λ v. v.number) (map enum_value_row values)

-- The set has these numbers.
unfoldable pub HasNumbers : BTreeSet ℤ → List ℤ → Type 0
HasNumbers set numbers = (z : ℤ) → contains int_cmp set z ≡ list_any (int_eq z) numbers

-- Of each pair in the set, the enums at these places of the older and the newer rows are the same.
unfoldable pub AreSameEnums : BTreeSet (ℕ × ℕ) → List EnumRow → List EnumRow → Type 0
AreSameEnums set older newer = (q : ℕ × ℕ)
    → contains (λ x y. ordering_then (nat_cmp x.0 y.0) (nat_cmp x.1 y.1)) set q ≡ true
    → same_scalar_kind (enum_kind (slice_get older q.0)) (enum_kind (slice_get newer q.1)) ≡ true
