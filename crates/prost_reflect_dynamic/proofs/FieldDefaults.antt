-- What a field has where nothing is stored, by its row.
use Rattle.std.specs.Prelude.{◌≡◌, ◌<◌, ◌↔◌}
use Rattle.prost_reflect_dynamic.proofs.Common.{ℕ, Bool, true, false, cond, IsTrue, Option, Some, None, length, refl, ap, sym, ◌∙◌, subst, true≢false, ltb-true, and_parts, length-map, IsSome, Global, Rc, ValueType, FieldForm, Singular, Repeated, MapFrom, Schema, kind_valid, field_valid, is_singular, ScalarValue, MessageValue, ListValue, MapValue, NoValues, Item, NoPairs, Pair, default_of, default_value, is_empty_value, checked_field, Cardinality, TableKind, is_repeated, FieldRow, MessageRow, TableRows, schema_from, schema_field, schema_kind, own_type, form_of, map_entry, pool_rows, LinkedPool, row_default, single_place, place_named, IsDefaultBy, IsRowDefault, plain_kind, value_of}
use Rattle.prost_reflect_wire.specs.Content.{Value}
use Rattle.prost_reflect_tables.specs.declared.tables.Cardinality.TheVariants.{Optional, Required, Repeated as RepeatedLabel}
use Rattle.prost_reflect_tables.specs.declared.tables.TableKind.TheVariants as kinds
pub use Rattle.prost_reflect_dynamic.specs.RowLawProofs.{row_checked, default_fits}
use Rattle.prost_reflect_dynamic.specs.declared.value.Value.{Value as Owned}
use Rattle.prost_reflect_rows.proofs.PlainKinds.{single_row, own_of}

-- LISTS AND MAPS

-- ONE VALUE

module _ (schema : Schema) (rows : TableRows) (row : FieldRow) (single : is_repeated row.cardinality ≡ false) where
  by_own : default_value schema (schema_field rows row).form (schema_field rows row).value_type ≡ default_of schema (own_type rows.enums row) (schema_kind rows.enums row.kind row.is_group)
  by_own = λ i. default_value schema (single_row rows row single i) (own_of rows row (single_row rows row single) i)

  pub scalar_default : IsSome (plain_kind row.kind) → default_value schema (schema_field rows row).form (schema_field rows row).value_type ≡ ScalarValue (own_type rows.enums row).default
  scalar_default some = by_own ∙ go (own_type rows.enums row) row.kind some
    where
      go : (t : ValueType) (kind : TableKind) → IsSome (plain_kind kind) → default_of schema t (schema_kind rows.enums kind row.is_group) ≡ ScalarValue t.default
      go t (kinds.Message T) some = absurd (true≢false (sym some))
      go t kind some = refl

-- the message type that a field of one message names stands in the rows
pub place_in_range : (rows : TableRows) (row : FieldRow) (T : ℕ) → field_valid (schema_from rows) (schema_field rows row) ≡ true → is_repeated row.cardinality ≡ false → row.kind ≡ kinds.Message T → T < length rows.messages
unfolding schema_from
place_in_range rows row T valid single is =
    let checked = checked_field (schema_from rows) (schema_field rows row) valid in
    let within : T < length (schema_from rows) = go row.is_group
    (ap (λ kind. kind_valid (schema_from rows) (schema_kind rows.enums kind row.is_group)) (sym is)
    ∙ ap (λ (v : ValueType). kind_valid (schema_from rows) v.kind) (sym (own_of rows row (single_row rows row single))) ∙ checked.kind) in
    rw length-map at within
  where
    go : (g : Bool) → kind_valid (schema_from rows) (schema_kind rows.enums (kinds.Message T) g) ≡ true → T < length (schema_from rows)
    go true h = ltb-true T (length (schema_from rows)) (and_parts _ _ h).0
    go false h = ltb-true T (length (schema_from rows)) (and_parts _ _ h).0

-- A ROW'S DEFAULT

-- an empty value is the default of a list or a map
pub empty_is : (schema : Schema) (form : FieldForm) (t : ValueType) (v : Value) → is_singular form ≡ false → IsTrue (is_empty_value form v) ↔ (v ≡ default_value schema form t)
empty_is schema Singular t v h = absurd (true≢false h)
empty_is schema (Repeated packed) t (ListValue NoValues) h = (λ yes. refl, λ is. refl)
empty_is schema (Repeated packed) t (ListValue (Item v vs)) h = (λ yes. absurd (true≢false (sym yes)), λ is. cc)
empty_is schema (Repeated packed) t (MapValue NoPairs) h = (λ yes. absurd (true≢false (sym yes)), λ is. cc)
empty_is schema (Repeated packed) t (MapValue (Pair k v ps)) h = (λ yes. absurd (true≢false (sym yes)), λ is. cc)
empty_is schema (Repeated packed) t (ScalarValue s) h = (λ yes. absurd (true≢false (sym yes)), λ is. cc)
empty_is schema (Repeated packed) t (MessageValue c) h = (λ yes. absurd (true≢false (sym yes)), λ is. cc)
empty_is schema (MapFrom key) t (ListValue NoValues) h = (λ yes. absurd (true≢false (sym yes)), λ is. cc)
empty_is schema (MapFrom key) t (ListValue (Item v vs)) h = (λ yes. absurd (true≢false (sym yes)), λ is. cc)
empty_is schema (MapFrom key) t (MapValue NoPairs) h = (λ yes. refl, λ is. refl)
empty_is schema (MapFrom key) t (MapValue (Pair k v ps)) h = (λ yes. absurd (true≢false (sym yes)), λ is. cc)
empty_is schema (MapFrom key) t (ScalarValue s) h = (λ yes. absurd (true≢false (sym yes)), λ is. cc)
empty_is schema (MapFrom key) t (MessageValue c) h = (λ yes. absurd (true≢false (sym yes)), λ is. cc)

pub many_form : (rows : TableRows) (row : FieldRow) → is_repeated row.cardinality ≡ true → is_singular (schema_field rows row).form ≡ false
many_form rows row many = go row.cardinality (map_entry rows.messages row row.cardinality) many
  where
    go : (c : Cardinality) (entry : Option MessageRow) → is_repeated c ≡ true → is_singular (form_of rows.enums row c entry) ≡ false
    go Optional entry many = absurd (true≢false (sym many))
    go Required entry many = absurd (true≢false (sym many))
    go RepeatedLabel None many = refl
    go RepeatedLabel (Some m) many = refl

-- WHICH VALUES ARE A ROW'S DEFAULT

module _ (pool : Rc LinkedPool Global) (row : FieldRow) (v : Owned) where
  abbrev By : Option ℕ → Type 0
  By o = IsDefaultBy pool o (row_default (pool_rows pool) row) v

  many_place : is_repeated row.cardinality ≡ true → single_place row ≡ None
  many_place many = ap (λ b. cond b None (place_named row.kind)) many

  -- made
  pub elements_are : is_repeated row.cardinality ≡ true → value_of v ≡ row_default (pool_rows pool) row → IsRowDefault pool row v
  elements_are many is = subst By (sym (many_place many)) is

  -- tested
  pub elements_tested : (b : Bool) → is_repeated row.cardinality ≡ true → b ≡ is_empty_value (schema_field (pool_rows pool) row).form (value_of v) → IsTrue b ↔ IsRowDefault pool row v
  elements_tested b many is =
      let rows = pool_rows pool in
      let test = empty_is (schema_from rows) (schema_field rows row).form (schema_field rows row).value_type (value_of v) (many_form rows row many) in
      (λ yes. elements_are many (test.0 (sym is ∙ yes)), λ h. is ∙ test.1 (subst By (many_place many) h))
