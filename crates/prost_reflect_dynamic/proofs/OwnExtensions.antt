-- Extensions of a message's own type, and what their numbers are to it.
use Rattle.std.specs.Prelude.{◌≡◌, ◌∷◌}
use Rattle.prost_reflect_dynamic.proofs.Common.{ℕ, suc, Bool, true, List, [], Option, Some, None, refl, ap, sym, ◌∙◌, AllByRecursion, option_map, option_and_then, unwrap_or, is_some, slice_get, IfOk, IfSome, Result, AllocError, same_Some, field_of, passes, value_valid, fields_at, FieldRow, schema_field, extending_or_none, extension_where, fields_of, pool_rows, PooledType, rows_same, known_of, is_known, takes_at, IsOwnExtension, extension_number, extension_takes, extension_named, extension_row_named, Extends, value_of, ExtensionDescriptor, MessageDescriptor, Value}
use Rattle.prost_reflect_tables.specs.CatalogRows.{ExtensionRow, MessageListsRow}
use Rattle.prost_reflect_pool.specs.Pools.{pool_catalog}
use Rattle.prost_reflect_pool.proofs.ExtensionPlaces.{FoundExtension, extension_found as place_found, extending_there}
use Rattle.prost_reflect_rows.proofs.Described.{known_of_row}
use Rattle.prost_reflect_dynamic.proofs.OwnFields.{and_ok}

-- The row of an own extension is one of the message type's, which knows it by its number.
pub extension_found : (t : PooledType) (x : ExtensionDescriptor) (n : ℕ) → IsOwnExtension t x → option_map (λ f. f.number) (extension_row_named x) ≡ Some n
    → field_of (known_of t) n ≡ option_map (schema_field (pool_rows x.pool.inner)) (extension_row_named x)
extension_found t x n own h = of (extension_named x) own.1 h
  where
    known : (i : ℕ) (o : Option FieldRow) → slice_get (fields_of t) i ≡ o → option_map (λ (f : FieldRow). f.number) o ≡ Some n → field_of (known_of t) n ≡ option_map (schema_field (pool_rows x.pool.inner)) o
    known i None at h = absurd cc
    known i (Some f) at h =
        let same : f.number ≡ n = cc in
        ap (field_of (known_of t)) (sym same) ∙ known_of_row t i f at ∙ ap (λ rows. Some (schema_field rows f)) (sym (rows_same x.pool.inner t.pool own.0))

    of : (o : Option ExtensionRow) → option_map (λ (e : ExtensionRow). e.message) o ≡ Some t.index → option_map (λ (f : FieldRow). f.number) (option_and_then (λ (e : ExtensionRow). slice_get (fields_at (pool_rows x.pool.inner) e.message) e.field) o) ≡ Some n
        → field_of (known_of t) n ≡ option_map (schema_field (pool_rows x.pool.inner)) (option_and_then (λ (e : ExtensionRow). slice_get (fields_at (pool_rows x.pool.inner) e.message) e.field) o)
    of None extends h = absurd cc
    of (Some e) extends h =
        let place : e.message ≡ t.index = cc in
        let rows : slice_get (fields_of t) e.field ≡ slice_get (fields_at (pool_rows x.pool.inner) e.message) e.field = λ i. slice_get (fields_at (sym (rows_same x.pool.inner t.pool own.0) i) (sym place i)) e.field in
        known e.field (slice_get (fields_at (pool_rows x.pool.inner) e.message) e.field) rows h

pub extension_known : (t : PooledType) (x : ExtensionDescriptor) (n : ℕ) → IsOwnExtension t x → option_map (λ f. f.number) (extension_row_named x) ≡ Some n → is_known (known_of t) n ≡ true
extension_known t x n own h = ap is_some (extension_found t x n own h) ∙ there (extension_row_named x) h
  where
    there : (o : Option FieldRow) → option_map (λ (f : FieldRow). f.number) o ≡ Some n → is_some (option_map (schema_field (pool_rows x.pool.inner)) o) ≡ true
    there None h = absurd cc
    there (Some f) h = refl

-- It takes what the message type's field of its number takes.
pub extension_takes_found : (t : PooledType) (x : ExtensionDescriptor) (n : ℕ) (v : Value) → IsOwnExtension t x → option_map (λ f. f.number) (extension_row_named x) ≡ Some n → extension_takes x v ≡ takes_at t n v
extension_takes_found t x n v own h = ap (λ o. passes o (λ f. value_valid f (value_of v))) (sym (extension_found t x n own h))

-- So it does at the extension's number.
pub own_extension_takes : (t : PooledType) (x : ExtensionDescriptor) (f : FieldRow) (v : Value) → IsOwnExtension t x → extension_row_named x ≡ Some f → extension_takes x v ≡ takes_at t (extension_number x) v
own_extension_takes t x f v own at = extension_takes_found t x (extension_number x) v own (ap (option_map (λ f. f.number)) at ∙ ap (λ o. Some (unwrap_or (option_map (λ f. f.number) o) 0)) (sym at))

-- WHAT LOOK-UPS AND WALKS ANSWER

found_extends : (d : MessageDescriptor) (test : FieldRow → Bool) (place : Option ℕ) → place ≡ extension_where d.pool.inner.value d.index test → (found : Option ExtensionDescriptor) → option_map (λ x. x.index) found ≡ place
    → IfSome found (λ x. x.pool.inner.value ≡ d.pool.inner.value) → IfSome found (Extends d)
found_extends d test place is None e s = tt
found_extends d test place is (Some x) e s =
    let f : FoundExtension x.pool.inner.value d.index test x.index = place_found x.pool.inner.value d.index test x.index ((λ i. extension_where (s i) d.index test) ∙ sym is ∙ sym e) in (s, f.extends)

pub extensions_found : (d : MessageDescriptor) (test : FieldRow → Bool) (place : Option ℕ) → place ≡ extension_where d.pool.inner.value d.index test → (r : Result (Option ExtensionDescriptor) AllocError) → IfOk r (λ found. option_map (λ x. x.index) found ≡ place)
    → IfOk r (λ found. IfSome found (λ x. x.pool.inner.value ≡ d.pool.inner.value)) → IfOk r (λ found. IfSome found (Extends d))
extensions_found d test place is = and_ok _ _ _ (found_extends d test place is)

-- the place is that of an extension of the message type
abbrev pub ExtendsAt : MessageDescriptor → ℕ → Type 0
ExtendsAt d i = option_map (λ (e : ExtensionRow). e.message) (slice_get (pool_catalog d.pool.inner.value).extensions i) ≡ Some d.index

at_each : (Q : ℕ → Type 0) (xs : List ℕ) → ((k i : ℕ) → slice_get xs k ≡ Some i → Q i) → AllByRecursion Q xs
at_each Q [] h = tt
at_each Q (x ∷ xs) h = (h 0 x refl, at_each Q xs (λ k i e. h (suc k) i e))

pub each_extends : (d : MessageDescriptor) (places : List ℕ) → option_map (λ lists. lists.extending) (slice_get (pool_catalog d.pool.inner.value).messages d.index) ≡ Some places → AllByRecursion (ExtendsAt d) places
each_extends d places is = at_each (ExtendsAt d) places (λ k i e. extending_there d.pool.inner.value d.index k i (ap (λ l. slice_get l k) (listed (slice_get (pool_catalog d.pool.inner.value).messages d.index) is) ∙ e))
  where
    listed : (o : Option MessageListsRow) → option_map (λ (lists : MessageListsRow). lists.extending) o ≡ Some places → extending_or_none o ≡ places
    listed None e = absurd cc
    listed (Some lists) e = same_Some lists.extending places e

pub stands_extending : (d : MessageDescriptor) (i : ℕ) (x : ExtensionDescriptor) → ExtendsAt d i → (x.pool.inner.value ≡ d.pool.inner.value) × (x.index ≡ i) → Extends d x
stands_extending d i x at s = (s.0, (λ j. option_map (λ (e : ExtensionRow). e.message) (slice_get (pool_catalog (s.0 j)).extensions (s.1 j))) ∙ at)
