-- The field that a path leads to, and where it stands.
use Rattle.std.specs.Prelude.{◌≡◌, ◌<◌, ◌∷◌}
use Rattle.prost_reflect_rows.proofs.Common.{ℕ, Bool, true, false, cond, not, List, [], length, nat_eq, nat_le, Option, Some, None, option_map, refl, ap, sym, ◌∙◌, true≢false, slice_get, option_and_then, eqb-true, ◌>>=◌, FieldForm, Singular, Repeated, MapFrom, Field, known, field_of, is_singular, message_of_kind, TableKind, Cardinality, is_linked, is_repeated, fields_at, row_of, place_of, FieldRow, MessageRow, TableRows, schema_from, schema_kind, schema_field, map_entry, form_of, value_type_of, single_place, place_named, declared_place, is_declared, is_declared_at, PATH_LIMIT, own_field, message_inside, field_at, field_led, type_inside, place_behind, path_place, row_led, field_of_number, row_at_place, no_row}
use Rattle.prost_reflect_tables.specs.declared.tables.TableKind.TheVariants as kinds
use Rattle.prost_reflect_tables.specs.declared.tables.Cardinality.TheVariants.{Optional, Required, Repeated as RepeatedLabel}
use Rattle.prost_reflect_rows.proofs.Described.{named_below}

-- FIELDS

pub not_empty : (n : ℕ) (rest : List ℕ) → nat_eq (length (n ∷ rest)) 0 ≡ true → ⊥
not_empty n rest h = let none : length (n ∷ rest) ≡ 0 = eqb-true (length (n ∷ rest)) 0 h in cc

inside_of : (rows : TableRows) (f : FieldRow) → message_inside (schema_field rows f) ≡ single_place f
inside_of rows f = go f.cardinality
  where
    single : (kind : TableKind) (g : Bool) → message_of_kind (schema_kind rows.enums kind g) ≡ place_named kind
    single (kinds.Message T) true = refl
    single (kinds.Message T) false = refl
    single kind g = refl

    repeated : (o : Option MessageRow) → cond (is_singular (form_of rows.enums f RepeatedLabel o)) (message_of_kind (value_type_of rows.enums f o).kind) None ≡ None
    repeated None = refl
    repeated (Some e) = refl

    go : (c : Cardinality) → cond (is_singular (form_of rows.enums f c (map_entry rows.messages f c))) (message_of_kind (value_type_of rows.enums f (map_entry rows.messages f c)).kind) None ≡ cond (is_repeated c) None (place_named f.kind)
    go Optional = single f.kind f.is_group
    go Required = single f.kind f.is_group
    go RepeatedLabel = repeated (map_entry rows.messages f RepeatedLabel)

pub own_is : (fields : List Field) (n : ℕ) (f : Field) → own_field fields n ≡ Some f → field_of fields n ≡ Some f
own_is fields n f e = go (field_of fields n) e
  where
    either : (g : Field) (b : Bool) → cond b None (Some g) ≡ Some f → Some g ≡ Some f
    either g true e = cc
    either g false e = e

    go : (o : Option Field) → (o >>= λ g. cond g.is_extension None (Some g)) ≡ Some f → o ≡ Some f
    go None e = cc
    go (Some g) e = either g g.is_extension e

pub inside_is : (form : FieldForm) (o : Option ℕ) (U : ℕ) → cond (is_singular form) o None ≡ Some U → (form ≡ Singular) × (o ≡ Some U)
inside_is Singular o U e = (refl, e)
inside_is (Repeated packed) o U e = absurd cc
inside_is (MapFrom key) o U e = absurd cc

-- THEIR PLACES

abbrev unextended : FieldRow → Option FieldRow
unextended f = cond f.is_extension None (Some f)

declared_row : (o : Option FieldRow) → is_declared o ≡ true → (o >>= unextended) ≡ o
declared_row None h = absurd (true≢false (sym h))
declared_row (Some f) h = go f.is_extension h
  where
    go : (b : Bool) → not b ≡ true → cond b None (Some f) ≡ Some f
    go true h = absurd (true≢false (sym h))
    go false h = refl

undeclared_row : (o : Option FieldRow) → is_declared o ≡ false → (o >>= unextended) ≡ None
undeclared_row None h = refl
undeclared_row (Some f) h = go f.is_extension h
  where
    go : (b : Bool) → not b ≡ false → cond b None (Some f) ≡ None
    go true h = refl
    go false h = absurd (true≢false h)

own_row : (fields : List FieldRow) (n : ℕ) → (row_of fields n >>= unextended) ≡ (declared_place fields n >>= slice_get fields)
own_row fields n = go (place_of fields n) refl
  where
    at : (i : ℕ) → place_of fields n ≡ Some i → (b : Bool) → is_declared_at fields i ≡ b → (row_of fields n >>= unextended) ≡ (cond b (Some i) None >>= slice_get fields)
    at i place true d = ap (λ o. o >>= unextended) (sym (row_at_place fields n i place)) ∙ declared_row (slice_get fields i) d
    at i place false d = ap (λ o. o >>= unextended) (sym (row_at_place fields n i place)) ∙ undeclared_row (slice_get fields i) d

    go : (o : Option ℕ) → place_of fields n ≡ o → (row_of fields n >>= unextended) ≡ (option_and_then (λ i. cond (is_declared_at fields i) (Some i) None) o >>= slice_get fields)
    go None place = ap (λ o. o >>= unextended) (no_row fields n place)
    go (Some i) place = at i place (is_declared_at fields i) refl

-- the row at a place, as the schema shows it
abbrev shown_at : TableRows → ℕ × ℕ → Option Field
shown_at rows p = option_map (schema_field rows) (slice_get (fields_at rows p.0) p.1)

own_shown : (rows : TableRows) (T n : ℕ) → own_field (known (schema_from rows) T) n ≡ (declared_place (fields_at rows T) n >>= λ i. shown_at rows (T, i))
own_shown rows T n = ap (λ (o : Option Field). o >>= λ f. cond f.is_extension None (Some f)) (field_of_number rows T n) ∙ of (row_of (fields_at rows T) n) ∙ ap (option_map (schema_field rows)) (own_row (fields_at rows T) n) ∙ behind (declared_place (fields_at rows T) n)
  where
    either : (f : FieldRow) (b : Bool) → cond b None (Some (schema_field rows f)) ≡ option_map (schema_field rows) (cond b None (Some f))
    either f true = refl
    either f false = refl

    of : (o : Option FieldRow) → (option_map (schema_field rows) o >>= λ f. cond f.is_extension None (Some f)) ≡ option_map (schema_field rows) (o >>= unextended)
    of None = refl
    of (Some f) = either f f.is_extension

    behind : (o : Option ℕ) → option_map (schema_field rows) (o >>= slice_get (fields_at rows T)) ≡ (o >>= λ i. shown_at rows (T, i))
    behind None = refl
    behind (Some i) = refl

type_shown : (rows : TableRows) (T n : ℕ) → (own_field (known (schema_from rows) T) n >>= message_inside) ≡ type_inside rows T n
type_shown rows T n = ap (λ (o : Option Field). o >>= message_inside) (own_shown rows T n) ∙ go (declared_place (fields_at rows T) n)
  where
    at : (o : Option FieldRow) → (option_map (schema_field rows) o >>= message_inside) ≡ (o >>= single_place)
    at None = refl
    at (Some f) = inside_of rows f

    go : (o : Option ℕ) → ((o >>= λ i. shown_at rows (T, i)) >>= message_inside) ≡ (o >>= λ i. slice_get (fields_at rows T) i >>= single_place)
    go None = refl
    go (Some i) = at (slice_get (fields_at rows T) i)

abbrev placed : ℕ → Option ℕ → Option (ℕ × ℕ)
placed T o = option_map (λ i. (T, i)) o

behind_shown : (rows : TableRows) (T : ℕ) (path : List ℕ) → field_at (schema_from rows) T path ≡ (place_behind rows T path >>= shown_at rows)
behind_shown rows T [] = refl
behind_shown rows T (n ∷ []) = own_shown rows T n ∙ go (declared_place (fields_at rows T) n)
  where
    go : (o : Option ℕ) → (o >>= λ i. shown_at rows (T, i)) ≡ (placed T o >>= shown_at rows)
    go None = refl
    go (Some i) = refl
behind_shown rows T (n ∷ m ∷ path) =
    both (own_field (known (schema_from rows) T) n)
    ∙ ap (λ (o : Option ℕ). o >>= λ U. field_at (schema_from rows) U (m ∷ path)) (type_shown rows T n)
    ∙ go (type_inside rows T n) (λ U. behind_shown rows U (m ∷ path))
  where
    both : (o : Option Field) → (o >>= λ f. message_inside f >>= λ U. field_at (schema_from rows) U (m ∷ path)) ≡ ((o >>= message_inside) >>= λ U. field_at (schema_from rows) U (m ∷ path))
    both None = refl
    both (Some f) = refl

    go : (o : Option ℕ) → ((U : ℕ) → field_at (schema_from rows) U (m ∷ path) ≡ (place_behind rows U (m ∷ path) >>= shown_at rows)) → (o >>= λ U. field_at (schema_from rows) U (m ∷ path)) ≡ ((o >>= λ U. place_behind rows U (m ∷ path)) >>= shown_at rows)
    go None more = refl
    go (Some U) more = more U

-- the field that a path leads to is the row at the place, shown
place_shown : (rows : TableRows) (T : ℕ) (path : List ℕ) → field_led (schema_from rows) T path ≡ (path_place rows T path >>= shown_at rows)
place_shown rows T path = go (nat_le (length path) PATH_LIMIT)
  where
    go : (b : Bool) → cond b (field_at (schema_from rows) T path) None ≡ (cond b (place_behind rows T path) None >>= shown_at rows)
    go true = behind_shown rows T path
    go false = refl

pub none_led : (rows : TableRows) (T : ℕ) (path : List ℕ) → path_place rows T path ≡ None → None ≡ field_led (schema_from rows) T path
none_led rows T path e = sym (place_shown rows T path ∙ ap (λ (o : Option (ℕ × ℕ)). o >>= shown_at rows) e)

pub one_led : (rows : TableRows) (T : ℕ) (path : List ℕ) (message index : ℕ) (f : FieldRow) → path_place rows T path ≡ Some (message, index) → slice_get (fields_at rows message) index ≡ Some f → Some (schema_field rows f) ≡ field_led (schema_from rows) T path
one_led rows T path message index f e at = sym (place_shown rows T path ∙ ap (λ (o : Option (ℕ × ℕ)). o >>= shown_at rows) e ∙ ap (option_map (schema_field rows)) at)

pub row_shown : (rows : TableRows) (T : ℕ) (path : List ℕ) → field_led (schema_from rows) T path ≡ option_map (schema_field rows) (row_led rows T path)
row_shown rows T path = place_shown rows T path ∙ go (path_place rows T path)
  where
    go : (o : Option (ℕ × ℕ)) → (o >>= shown_at rows) ≡ option_map (schema_field rows) (o >>= λ p. slice_get (fields_at rows p.0) p.1)
    go None = refl
    go (Some p) = refl

behind_one : (rows : TableRows) (T n : ℕ) (path rest : List ℕ) → path ≡ n ∷ rest → nat_eq (length rest) 0 ≡ true → place_behind rows T path ≡ placed T (declared_place (fields_at rows T) n)
behind_one rows T n path [] e h = ap (place_behind rows T) e
behind_one rows T n path (m ∷ rest) e h = absurd (not_empty m rest h)

behind_more : (rows : TableRows) (T n : ℕ) (path rest : List ℕ) → path ≡ n ∷ rest → nat_eq (length rest) 0 ≡ false → place_behind rows T path ≡ (type_inside rows T n >>= λ U. place_behind rows U rest)
behind_more rows T n path [] e h = absurd (true≢false h)
behind_more rows T n path (m ∷ rest) e h = ap (place_behind rows T) e

module _ (rows : TableRows) (T n : ℕ) (path rest : List ℕ) (is : path ≡ n ∷ rest) where
  pub last_found : (o : Option ℕ) → nat_eq (length rest) 0 ≡ true → o ≡ declared_place (fields_at rows T) n → option_map (λ i. (T, i)) o ≡ place_behind rows T path
  last_found o last e = ap (placed T) e ∙ sym (behind_one rows T n path rest is last)

  pub none_inside : nat_eq (length rest) 0 ≡ false → None ≡ type_inside rows T n → None ≡ place_behind rows T path
  none_inside more e = ap (λ (o : Option ℕ). o >>= λ U. place_behind rows U rest) e ∙ sym (behind_more rows T n path rest is more)

  pub more_inside : (U : ℕ) → nat_eq (length rest) 0 ≡ false → Some U ≡ type_inside rows T n → place_behind rows U rest ≡ place_behind rows T path
  more_inside U more e = ap (λ (o : Option ℕ). o >>= λ U. place_behind rows U rest) e ∙ sym (behind_more rows T n path rest is more)

-- the message type is one of the rows
inside_below : (rows : TableRows) → is_linked rows ≡ true → (T n : ℕ) (f : Field) (U : ℕ) → own_field (known (schema_from rows) T) n ≡ Some f → message_inside f ≡ Some U → U < length rows.messages
inside_below rows linked T n f U own inside = named_below rows linked T n f U (own_is (known (schema_from rows) T) n f own) (inside_is f.form (message_of_kind f.value_type.kind) U inside).1

pub type_below : (rows : TableRows) → is_linked rows ≡ true → (T n U : ℕ) → type_inside rows T n ≡ Some U → U < length rows.messages
type_below rows linked T n U h = go (own_field (known (schema_from rows) T) n) refl (type_shown rows T n ∙ h)
  where
    go : (o : Option Field) → own_field (known (schema_from rows) T) n ≡ o → (o >>= message_inside) ≡ Some U → U < length rows.messages
    go None own e = absurd cc
    go (Some f) own e = inside_below rows linked T n f U own e
