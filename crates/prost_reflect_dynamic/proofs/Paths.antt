-- The descriptor of the field that a path leads to, and values that it takes.
use Rattle.std.specs.Prelude.{◌≡◌, ◌∷◌}
use Rattle.prost_reflect_dynamic.proofs.Common.{ℕ, true, false, List, [], Option, Some, None, refl, ap, sym, ◌∙◌, true≢false, slice_get, or_parts, and_from, ◌>>=◌, Kind, Field, Schema, known, ScalarValue, MessageValue, ListValue, MapValue, Values, NoValues, Item, Pairs, NoPairs, Pair, value_ordered, EntryTest, value_passes, values_pass, pairs_pass, fit_test, alone_test, value_valid, ValueTyped, ValuesTyped, PairsTyped, ValueStored, kind_for, message_of_kind, PathTo, holds_message, values_hold_message, pairs_hold_message, fields_at, pool_rows, LinkedPool, row_at, MessageDescriptor, FieldDescriptor, own_field, message_inside, field_at, path_place, row_led}
use Rattle.prost_reflect_wire.specs.Content.{Value}
use Rattle.prost_reflect_tables.specs.Schema.{rows_of}
use Rattle.prost_reflect_rows.proofs.PathPlaces.{own_is, inside_is}

-- DESCRIPTORS

-- a descriptor of the field there
module _ (m : MessageDescriptor) (pool : LinkedPool) (T : ℕ) (path : List ℕ) (same : pool ≡ m.pool.inner.value) (there : T ≡ m.index) where
  to_row : (o : Option (ℕ × ℕ)) → path_place (rows_of pool.tables) T path ≡ o → (o >>= λ p. slice_get (fields_at (pool_rows m.pool.inner) p.0) p.1) ≡ row_led (pool_rows m.pool.inner) m.index path
  to_row o e = ap (λ (o : Option (ℕ × ℕ)). o >>= λ p. slice_get (fields_at (pool_rows m.pool.inner) p.0) p.1) (sym e ∙ λ i. path_place (rows_of (same i).tables) (there i) path)

  pub led_to_none : path_place (rows_of pool.tables) T path ≡ None → None ≡ row_led (pool_rows m.pool.inner) m.index path
  led_to_none e = to_row None e

  pub led_to : (field : FieldDescriptor) (message index : ℕ) → path_place (rows_of pool.tables) T path ≡ Some (message, index) → field.message.pool.inner.value ≡ m.pool.inner.value → field.message.index ≡ message → field.index ≡ index → row_at field ≡ row_led (pool_rows m.pool.inner) m.index path
  led_to field message index e own of at = (λ i. slice_get (fields_at (rows_of (own i).tables) (of i)) (at i)) ∙ to_row (Some (message, index)) e

-- VALUES WITHOUT MESSAGES

mutual
  passes_plain : (test : EntryTest) (v : Value) → holds_message v ≡ false → value_passes test v ≡ true
  passes_plain test (ScalarValue v) h = refl
  passes_plain test (MessageValue c) h = absurd (true≢false h)
  passes_plain test (ListValue vs) h = all_pass test vs h
  passes_plain test (MapValue ps) h = all_pairs_pass test ps h

  all_pass : (test : EntryTest) (vs : Values) → values_hold_message vs ≡ false → values_pass test vs ≡ true
  all_pass test NoValues h = refl
  all_pass test (Item v vs) h = let (one, more) = or_parts (holds_message v) (values_hold_message vs) h in and_from _ _ (passes_plain test v one) (all_pass test vs more)

  all_pairs_pass : (test : EntryTest) (ps : Pairs) → pairs_hold_message ps ≡ false → pairs_pass test ps ≡ true
  all_pairs_pass test NoPairs h = refl
  all_pairs_pass test (Pair k v ps) h = let (one, more) = or_parts (holds_message v) (pairs_hold_message ps) h in and_from _ _ (passes_plain test v one) (all_pairs_pass test ps more)

mutual
  typed_plain : (schema : Schema) (kind : Option Kind) (v : Value) → holds_message v ≡ false → ValueTyped schema kind v
  typed_plain schema kind (ScalarValue v) h = tt
  typed_plain schema kind (MessageValue c) h = absurd (true≢false h)
  typed_plain schema kind (ListValue vs) h = all_typed schema kind vs h
  typed_plain schema kind (MapValue ps) h = all_pairs_typed schema kind ps h

  all_typed : (schema : Schema) (kind : Option Kind) (vs : Values) → values_hold_message vs ≡ false → ValuesTyped schema kind vs
  all_typed schema kind NoValues h = tt
  all_typed schema kind (Item v vs) h = let (one, more) = or_parts (holds_message v) (values_hold_message vs) h in (typed_plain schema kind v one, all_typed schema kind vs more)

  all_pairs_typed : (schema : Schema) (kind : Option Kind) (ps : Pairs) → pairs_hold_message ps ≡ false → PairsTyped schema kind ps
  all_pairs_typed schema kind NoPairs h = tt
  all_pairs_typed schema kind (Pair k v ps) h = let (one, more) = or_parts (holds_message v) (pairs_hold_message ps) h in (typed_plain schema kind v one, all_pairs_typed schema kind ps more)

pub stored_plain : (schema : Schema) (f : Field) (v : Value) → value_valid f v ≡ true → holds_message v ≡ false → value_ordered v ≡ true → ValueStored schema f v
stored_plain schema f v valid plain order = record { valid = valid; fits = passes_plain fit_test v plain; types = typed_plain schema (kind_for (Some f) v) v plain; order = order; members = passes_plain alone_test v plain }

-- PATHS

pub path_to : (schema : Schema) (T : ℕ) (path : List ℕ) (v : Value) (f : Field) → field_at schema T path ≡ Some f → ValueStored schema f v → PathTo schema T path v
path_to schema T [] v f e s = absurd cc
path_to schema T (n ∷ []) v f e s = (f, own_is (known schema T) n f e, s)
path_to schema T (n ∷ m ∷ path) v f e s = go (own_field (known schema T) n) refl e (λ U e. path_to schema U (m ∷ path) v f e s)
  where
    inside : (g : Field) → own_field (known schema T) n ≡ Some g → (o : Option ℕ) → message_inside g ≡ o → (o >>= λ U. field_at schema U (m ∷ path)) ≡ Some f → ((U : ℕ) → field_at schema U (m ∷ path) ≡ Some f → PathTo schema U (m ∷ path) v) → PathTo schema T (n ∷ m ∷ path) v
    inside g h None i e more = absurd cc
    inside g h (Some U) i e more = let (single, names) = inside_is g.form (message_of_kind g.value_type.kind) U i in (g, own_is (known schema T) n g h, single, (U, names, more U e))

    go : (o : Option Field) → own_field (known schema T) n ≡ o → (o >>= λ g. message_inside g >>= λ U. field_at schema U (m ∷ path)) ≡ Some f → ((U : ℕ) → field_at schema U (m ∷ path) ≡ Some f → PathTo schema U (m ∷ path) v) → PathTo schema T (n ∷ m ∷ path) v
    go None h e more = absurd cc
    go (Some g) h e more = inside g h (message_inside g) refl e more
