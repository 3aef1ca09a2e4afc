-- The numbers of fields and extensions are found among the rows of their message types.
use Rattle.std.specs.Prelude.{◌≡◌, ◌+◌, ◌<◌, ◌≤◌, ◌^◌, ◌==◌, ◌&&◌, ◌||◌, ◌∷◌}
use Rattle.std.specs.List.{list_any, position_from}
use Rattle.std.specs.Ordering.{int_eq}
use Rattle.std.specs.Int.{FitsUnsignedBits}
use Rattle.std.specs.Prelude.{nat_eq, nat_le, nat_lt, slice_get, unsigned_abs}
use Rattle.std.specs.Str.{bytes_eq}
use Rattle.std.proofs.Common.{ℕ, zero, suc, ℤ, pos, negsuc, Bool, true, false, cond, not, List, [], length, map, Option, Some, None, String, string_bytes, refl, sym, ap, ap₂, ◌∙◌, arith, true≢false, ⊎_elim}
use Rattle.std.specs.declared.alloc.Global.{Global}
use Rattle.std.proofs.Math.Bool.{and-false, or-false}
use Rattle.std.proofs.lemmas.Bool.{cases_lt, ne_eqb, eq-eqb, le-ltb, or_parts, eqb-true}
use Rattle.std.proofs.lemmas.Bool.Decides.{Decides-int_eq}
use Rattle.std.proofs.lemmas.List.{length-map}
use Rattle.std.proofs.lemmas.List.Folds.{list_any-append}
use Rattle.prost_reflect_types.specs.declared.FieldDescriptorProto.{FieldDescriptorProto}
use Rattle.prost_reflect_types.specs.declared.FileDescriptorProto.{FileDescriptorProto}
use Rattle.prost_reflect_tables.specs.Checked.{Checked}
use Rattle.prost_reflect_tables.specs.Faults.{Numbered, same_numbered, number_or_zero, numbered_fields, numbered_in, numbered_at, numbered_extensions, all_numbered, is_field_number, number_bad, message_names, place_named}
use Rattle.prost_reflect_tables.specs.Flat.{DefinitionRow, FlatMessageRow, FlatRows}
use Rattle.prost_reflect_tables.specs.Linking.{Links, links_of, natural_or_zero, is_place, put_in_order, in_order, linked_field, belonging, extended_place, declared_fields, fields_of_message, linked_message, messages_from, linked_rows}
use Rattle.prost_reflect_tables.specs.Names.{without_dot}
use Rattle.prost_reflect_tables.specs.Places.{fields_at, fields_or_none}
use Rattle.prost_reflect_tables.specs.Rows.{FieldRow, TableRows}
use Rattle.prost_reflect_tables.specs.declared.error.PoolError.TheVariants as errors
use Rattle.prost_reflect_tables.proofs.Ascending.{numbers_above}
use Rattle.prost_reflect_tables.proofs.Keeping.{fields_ascend}
use Rattle.prost_reflect_pool.specs.Pools.{files_of, pool_rows}
use Rattle.prost_reflect_pool.specs.declared.pool.LinkedPool.{LinkedPool}
use Rattle.prost_reflect_base.proofs.Lists.{any_where, Passing}
use Rattle.prost_reflect_base.proofs.Linked.{flat_of, rows_are}

abbrev FieldDef : Type 0
FieldDef = DefinitionRow FieldDescriptorProto

-- ROWS IN ORDER

turn : (a b c : Bool) → (a || (b || c)) ≡ (b || (a || c))
turn true true c = refl
turn true false c = refl
turn false b c = refl

any_put : (p : FieldRow → Bool) (f : FieldRow) (fields : List FieldRow) → list_any p (put_in_order f fields) ≡ (p f || list_any p fields)
any_put p f [] = refl
any_put p f (g ∷ fields) = go (nat_le f.number g.number) (any_put p f fields)
  where
    go : (b : Bool) → list_any p (put_in_order f fields) ≡ (p f || list_any p fields) → list_any p (cond b (f ∷ g ∷ fields) (g ∷ put_in_order f fields)) ≡ (p f || (p g || list_any p fields))
    go true e = refl
    go false e = ap (λ c. p g || c) e ∙ turn (p g) (p f) (list_any p fields)

pub any_ordered : (p : FieldRow → Bool) (fields : List FieldRow) → list_any p (in_order fields) ≡ list_any p fields
any_ordered p [] = refl
any_ordered p (f ∷ fields) = any_put p f (in_order fields) ∙ ap (λ c. p f || c) (any_ordered p fields)

-- PLACES OF NAMES

place_from : (t : List ℕ → Bool) (i : ℕ) (names : List (List ℕ)) (k : ℕ) → position_from t i names ≡ Some k → k < i + length names
place_from t i [] k e = absurd cc
place_from t i (n ∷ names) k e = go (t n) e (place_from t (i + 1) names k)
  where
    go : (b : Bool) → cond b (Some i) (position_from t (i + 1) names) ≡ Some k → (position_from t (i + 1) names ≡ Some k → k < (i + 1) + length names) → k < i + length (n ∷ names)
    go true e more = let same : i ≡ k = cc in omega arith
    go false e more = let less = more e in omega arith

named_within : (rows : FlatRows) (text : Option (String Global)) (k : ℕ) → place_named (message_names rows) text ≡ Some k → k < length rows.messages
named_within rows None k e = absurd cc
named_within rows (Some text) k e =
    let less = place_from (bytes_eq (without_dot (string_bytes text))) 0 (message_names rows) k e in
    let size = length-map rows.messages (λ (m : FlatMessageRow). m.definition.full_name) in
    omega arith

-- ONE MESSAGE AND ONE NUMBER

module _ (T n : ℕ) (some : 0 < n) where
  abbrev one : Numbered
  one = record { message = T; number = pos n }

  abbrev has : FieldRow → Bool
  has f = f.number == n

  abbrev is_its : FieldDef → Bool
  is_its d = int_eq (pos n) (number_or_zero d.proto.number)

  same_number : (o : Option ℤ) → int_eq (pos n) (number_or_zero o) ≡ nat_eq (natural_or_zero o) n
  same_number None = grind (arith, Decides-int_eq (pos n) (pos 0))
  same_number (Some (pos m)) = grind (arith, Decides-int_eq (pos n) (pos m))
  same_number (Some (negsuc m)) = ne_number m ∙ sym (ne_eqb 0 n (λ same. absurd (omega arith)))
    where
      ne_number : (m : ℕ) → int_eq (pos n) (negsuc m) ≡ false
      ne_number m = grind (arith, Decides-int_eq (pos n) (negsuc m))

  linked_has : (links : Links) (x : Bool) (d : FieldDef) → has (linked_field links x d) ≡ is_its d
  unfolding linked_field
  linked_has links x d = sym (same_number d.proto.number)

  declared_has : (links : Links) (ds : List FieldDef) → list_any has (declared_fields links ds) ≡ list_any is_its ds
  declared_has links [] = refl
  declared_has links (d ∷ ds) = ap₂ (λ a b. a || b) (linked_has links false d) (declared_has links ds)

  -- The fields of the message at a place.
  own_numbers : (i : ℕ) (ds : List FieldDef) → list_any (same_numbered one) (numbered_fields i ds) ≡ (nat_eq T i && list_any is_its ds)
  own_numbers i [] = sym (and-false (nat_eq T i))
  own_numbers i (d ∷ ds) = ap (λ c. (nat_eq T i && is_its d) || c) (own_numbers i ds) ∙ go (nat_eq T i) (is_its d) (list_any is_its ds)
    where
      go : (a b c : Bool) → ((a && b) || (a && c)) ≡ (a && (b || c))
      go true b c = refl
      go false b c = refl

  fields_of_place : Option FlatMessageRow → List FieldDef
  fields_of_place None = []
  fields_of_place (Some m) = m.fields

  later_numbers : (i : ℕ) (ms : List FlatMessageRow) → T < i → list_any (same_numbered one) (numbered_in i ms) ≡ false
  later_numbers i [] less = refl
  later_numbers i (m ∷ ms) less =
      list_any-append (same_numbered one) (numbered_fields i m.fields) (numbered_in (i + 1) ms)
      ∙ ap₂ (λ a b. a || b) (own_numbers i m.fields ∙ ap (λ b. b && list_any is_its m.fields) (ne_eqb T i (λ same. absurd (omega arith)))) (later_numbers (i + 1) ms (omega arith))

  in_numbers : (i k : ℕ) (ms : List FlatMessageRow) → T ≡ i + k → list_any (same_numbered one) (numbered_in i ms) ≡ list_any is_its (fields_of_place (slice_get ms k))
  unfolding fields_of_place
  in_numbers i k [] e = refl
  in_numbers i zero (m ∷ ms) e =
      list_any-append (same_numbered one) (numbered_fields i m.fields) (numbered_in (i + 1) ms)
      ∙ (ap₂ (λ a b. a || b) (own_numbers i m.fields ∙ ap (λ b. b && list_any is_its m.fields) (eq-eqb T i (omega (arith, e)))) (later_numbers (i + 1) ms (omega (arith, e)))
      ∙ or-false (list_any is_its m.fields))
  in_numbers i (suc k) (m ∷ ms) e =
      list_any-append (same_numbered one) (numbered_fields i m.fields) (numbered_in (i + 1) ms)
      ∙ ap₂ (λ a b. a || b) (own_numbers i m.fields ∙ ap (λ b. b && list_any is_its m.fields) (ne_eqb T i (λ same. absurd (omega (arith, e))))) (in_numbers (i + 1) k ms (omega (arith, e)))

  -- The extensions of the message.
  extension_numbers : (rows : FlatRows) (ds : List FieldDef) → list_any (same_numbered one) (numbered_extensions rows ds) ≡ list_any has (map (linked_field (links_of rows) true) (belonging (extended_place (links_of rows)) ds T))
  extension_numbers rows [] = refl
  extension_numbers rows (d ∷ ds) =
      list_any-append (same_numbered one) (numbered_at (number_or_zero d.proto.number) (extended_place (links_of rows) d)) (numbered_extensions rows ds)
      ∙ (ap (λ b. list_any (same_numbered one) (numbered_at (number_or_zero d.proto.number) (extended_place (links_of rows) d)) || b) (extension_numbers rows ds)
      ∙ go (extended_place (links_of rows) d) (belonging (extended_place (links_of rows)) ds T))
    where
      inner : (b : Bool) (rest : List FieldDef) → ((b && int_eq (pos n) (number_or_zero d.proto.number)) || false) || list_any has (map (linked_field (links_of rows) true) rest) ≡ list_any has (map (linked_field (links_of rows) true) (cond b (d ∷ rest) rest))
      inner true rest = ap (λ c. c || list_any has (map (linked_field (links_of rows) true) rest)) (or-false (int_eq (pos n) (number_or_zero d.proto.number)) ∙ sym (linked_has (links_of rows) true d))
      inner false rest = refl

      go : (p : Option ℕ) (rest : List FieldDef) → list_any (same_numbered one) (numbered_at (number_or_zero d.proto.number) p) || list_any has (map (linked_field (links_of rows) true) rest) ≡ list_any has (map (linked_field (links_of rows) true) (cond (is_place T p) (d ∷ rest) rest))
      go None rest = refl
      go (Some k) rest = inner (nat_eq T k) rest

  -- No extension extends a message that is not there.
  extensions_past : (rows : FlatRows) (ds : List FieldDef) → length rows.messages ≤ T → list_any (same_numbered one) (numbered_extensions rows ds) ≡ false
  extensions_past rows [] past = refl
  extensions_past rows (d ∷ ds) past =
      list_any-append (same_numbered one) (numbered_at (number_or_zero d.proto.number) (extended_place (links_of rows) d)) (numbered_extensions rows ds)
      ∙ ap₂ (λ a b. a || b) (go (extended_place (links_of rows) d) refl) (extensions_past rows ds past)
    where
      go : (p : Option ℕ) → extended_place (links_of rows) d ≡ p → list_any (same_numbered one) (numbered_at (number_or_zero d.proto.number) p) ≡ false
      go None at = refl
      go (Some k) at =
          let within = named_within rows d.proto.extendee k at in
          ap (λ b. (b && int_eq (pos n) (number_or_zero d.proto.number)) || false) (ne_eqb T k (λ same. absurd (omega arith)))

  fields_there : (links : Links) (extensions : List FieldDef) (i k : ℕ) (ms : List FlatMessageRow) (m : FlatMessageRow) → T ≡ i + k → slice_get ms k ≡ Some m →
      list_any has (fields_or_none (slice_get (messages_from links extensions i ms) k)) ≡ list_any has (fields_of_message links extensions T m)
  unfolding linked_message
  fields_there links extensions i k [] m e at = absurd cc
  fields_there links extensions i zero (x ∷ ms) m e at =
      let same : x ≡ m = cc in
      let place : i ≡ T = omega (arith, e) in
      any_ordered has (fields_of_message links extensions i x) ∙ ap₂ (λ j y. list_any has (fields_of_message links extensions j y)) place same
  fields_there links extensions i (suc k) (x ∷ ms) m e at = fields_there links extensions (i + 1) k ms m (omega (arith, e)) at

  none_there : (links : Links) (extensions : List FieldDef) (i k : ℕ) (ms : List FlatMessageRow) → slice_get ms k ≡ None → slice_get (messages_from links extensions i ms) k ≡ None
  none_there links extensions i k [] e = refl
  none_there links extensions i zero (x ∷ ms) e = absurd cc
  none_there links extensions i (suc k) (x ∷ ms) e = none_there links extensions (i + 1) k ms e

  known_at : (rows : FlatRows) (o : Option FlatMessageRow) → slice_get rows.messages T ≡ o → list_any (same_numbered one) (all_numbered rows) ≡ list_any has (fields_at (linked_rows rows) T)
  unfolding fields_of_place
  known_at rows None at =
      list_any-append (same_numbered one) (numbered_in 0 rows.messages) (numbered_extensions rows rows.extensions)
      ∙ (ap₂ (λ a b. a || b) (in_numbers 0 T rows.messages (omega arith) ∙ ap (λ (o : Option FlatMessageRow). list_any is_its (fields_of_place o)) at) (extensions_past rows rows.extensions (past rows.messages T at))
      ∙ ap (λ o. list_any has (fields_or_none o)) (sym (none_there (links_of rows) rows.extensions 0 T rows.messages at)))
    where
      past : {X : Type 0} (xs : List X) (k : ℕ) → slice_get xs k ≡ None → length xs ≤ k
      past [] k e = omega arith
      past (x ∷ xs) zero e = absurd cc
      past (x ∷ xs) (suc k) e = let more = past xs k e in omega arith
  known_at rows (Some m) at =
      list_any-append (same_numbered one) (numbered_in 0 rows.messages) (numbered_extensions rows rows.extensions)
      ∙ (ap₂ (λ a b. a || b)
      (in_numbers 0 T rows.messages (omega arith) ∙ (ap (λ (o : Option FlatMessageRow). list_any is_its (fields_of_place o)) at ∙ sym (declared_has (links_of rows) m.fields)))
      (extension_numbers rows rows.extensions)
      ∙ (sym (list_any-append has (declared_fields (links_of rows) m.fields) (map (linked_field (links_of rows) true) (belonging (extended_place (links_of rows)) rows.extensions T)))
      ∙ sym (fields_there (links_of rows) rows.extensions 0 T rows.messages m (omega arith) at)))

-- Whether a message has a number is told by its row.
numbers_known : (rows : FlatRows) (T n : ℕ) → 0 < n → list_any (same_numbered (record { message = T; number = pos n })) (all_numbered rows) ≡ list_any (λ f. f.number == n) (fields_at (linked_rows rows) T)
numbers_known rows T n some = known_at T n some rows (slice_get rows.messages T) refl

-- NUMBERS OF NO FIELD

module _ (T : ℕ) (z : ℤ) (bad : is_field_number z ≡ false) where
  abbrev this : Numbered
  this = record { message = T; number = z }

  abbrev is_this : FieldDef → Bool
  is_this d = int_eq z (number_or_zero d.proto.number)

  not_this : (d : FieldDef) → number_bad d ≡ false → is_this d ≡ false
  not_this d good = go (is_this d) refl
    where
      go : (b : Bool) → is_this d ≡ b → is_this d ≡ false
      go true is =
          let same : z ≡ number_or_zero d.proto.number = (Decides-int_eq z (number_or_zero d.proto.number)).0 is in
          absurd (true≢false (ap not (sym bad ∙ ap is_field_number same) ∙ good))
      go false is = is

  none_of_place : (i : ℕ) (ds : List FieldDef) → list_any number_bad ds ≡ false → list_any (same_numbered this) (numbered_fields i ds) ≡ false
  none_of_place i [] good = refl
  none_of_place i (d ∷ ds) good =
      let parts = or_parts (number_bad d) (list_any number_bad ds) good in
      ap₂ (λ a b. (nat_eq T i && a) || b) (not_this d parts.0) (none_of_place i ds parts.1) ∙ ap (λ b. b || false) (and-false (nat_eq T i))

  none_in : (i : ℕ) (ms : List FlatMessageRow) → list_any (λ m. list_any number_bad m.fields) ms ≡ false → list_any (same_numbered this) (numbered_in i ms) ≡ false
  none_in i [] good = refl
  none_in i (m ∷ ms) good =
      let parts = or_parts (list_any number_bad m.fields) (list_any (λ m. list_any number_bad m.fields) ms) good in
      list_any-append (same_numbered this) (numbered_fields i m.fields) (numbered_in (i + 1) ms) ∙ ap₂ (λ a b. a || b) (none_of_place i m.fields parts.0) (none_in (i + 1) ms parts.1)

  none_extends : (rows : FlatRows) (ds : List FieldDef) → list_any number_bad ds ≡ false → list_any (same_numbered this) (numbered_extensions rows ds) ≡ false
  none_extends rows [] good = refl
  none_extends rows (d ∷ ds) good =
      let parts = or_parts (number_bad d) (list_any number_bad ds) good in
      list_any-append (same_numbered this) (numbered_at (number_or_zero d.proto.number) (place_named (message_names rows) d.proto.extendee)) (numbered_extensions rows ds)
      ∙ ap₂ (λ a b. a || b) (go (place_named (message_names rows) d.proto.extendee) (not_this d parts.0)) (none_extends rows ds parts.1)
    where
      go : (p : Option ℕ) → is_this d ≡ false → list_any (same_numbered this) (numbered_at (number_or_zero d.proto.number) p) ≡ false
      go None other = refl
      go (Some k) other = ap (λ b. (nat_eq T k && b) || false) other ∙ ap (λ b. b || false) (and-false (nat_eq T k))

  -- Where files are checked, no field has a number that is none of a field.
  no_field : (files : List FileDescriptorProto) (rows : FlatRows) → Checked files rows → list_any (same_numbered this) (all_numbered rows) ≡ false
  no_field files rows checked =
      let parts = or_parts (list_any (λ (m : FlatMessageRow). list_any number_bad m.fields) rows.messages) (list_any number_bad rows.extensions) (checked errors.BadNumber) in
      list_any-append (same_numbered this) (numbered_in 0 rows.messages) (numbered_extensions rows rows.extensions) ∙ ap₂ (λ a b. a || b) (none_in 0 rows.messages parts.0) (none_extends rows rows.extensions parts.1)

-- THE ROWS OF A POOL

no_zero : (pool : LinkedPool) (T : ℕ) → list_any (λ f. f.number == 0) (fields_at (pool_rows pool) T) ≡ false
no_zero pool T = go (list_any (λ f. f.number == 0) (fields_at (pool_rows pool) T)) refl
  where
    go : (b : Bool) → list_any (λ f. f.number == 0) (fields_at (pool_rows pool) T) ≡ b → list_any (λ f. f.number == 0) (fields_at (pool_rows pool) T) ≡ false
    go true is =
        let there : Passing (λ (f : FieldRow). f.number == 0) (fields_at (pool_rows pool) T) = any_where (λ (f : FieldRow). f.number == 0) (fields_at (pool_rows pool) T) is in
        let above = numbers_above 0 (fields_at (pool_rows pool) T) there.place there.it (fields_ascend (pool_rows pool) T pool.tables.linked) there.at in
        let zero_is = eqb-true there.it.number 0 there.passes in
        absurd (omega arith)
    go false is = is

number_there : (pool : LinkedPool) (T n : ℕ) → list_any (λ f. f.number == n) (fields_at (pool_rows pool) T) ≡ list_any (same_numbered (record { message = T; number = pos n })) (all_numbered (flat_of pool))
number_there pool T zero = no_zero pool T ∙ sym (no_field T (pos zero) refl (files_of pool) (flat_of pool) pool.built.0)
number_there pool T (suc n) = ap (λ (r : TableRows). list_any (λ f. f.number == suc n) (fields_at r T)) (rows_are pool) ∙ sym (numbers_known (flat_of pool) T (suc n) (omega arith))

-- A number that is not negative is asked of the rows,
pub number_read : (pool : LinkedPool) (T n : ℕ) (z : ℤ) → FitsUnsignedBits 32 z → n ≡ unsigned_abs z → list_any (λ f. f.number == n) (fields_at (pool_rows pool) T) ≡ list_any (same_numbered (record { message = T; number = z })) (all_numbered (flat_of pool))
number_read pool T n (pos m) fits is = ap (λ k. list_any (λ f. f.number == k) (fields_at (pool_rows pool) T)) is ∙ number_there pool T m
number_read pool T n (negsuc m) fits is = absurd fits

far : (m : ℕ) → (m < 2 ^ 32 → ⊥) → is_field_number (pos m) ≡ false
far m unfit =
    let above : 2 ^ 29 ≤ m = ⊎_elim (λ less. absurd (unfit less)) (λ more. omega arith) (cases_lt m (2 ^ 32)) in
    ap (λ b. nat_lt 0 m && b) (le-ltb m (2 ^ 29) above) ∙ and-false (nat_lt 0 m)

-- and no field has another one.
pub number_unread : (pool : LinkedPool) (T : ℕ) (z : ℤ) → (FitsUnsignedBits 32 z → ⊥) → false ≡ list_any (same_numbered (record { message = T; number = z })) (all_numbered (flat_of pool))
number_unread pool T (pos m) unfit = sym (no_field T (pos m) (far m unfit) (files_of pool) (flat_of pool) pool.built.0)
number_unread pool T (negsuc m) unfit = sym (no_field T (negsuc m) refl (files_of pool) (flat_of pool) pool.built.0)
