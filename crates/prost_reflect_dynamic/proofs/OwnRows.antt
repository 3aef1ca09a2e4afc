-- What linked rows say of a message type's own fields, of the oneofs of fields, and of the first values of enums.
use Rattle.std.specs.Prelude.{◌≡◌, ◌+◌, ◌-◌, ◌<◌, ◌≤◌, ◌&&◌, ◌||◌, ◌∷◌}
use Rattle.prost_reflect_dynamic.proofs.Common.{ℕ, suc, Bool, true, false, not, cond, List, [], length, get_or, nat_lt, Option, Some, None, IsTrue, refl, sym, ap, subst, ◌∙◌, arith, nat_eq, bytes_eq, find, option_and_then, option_map, slice_get, position, IfSome, list_all, position_from, and_parts, eqb-true, same_Some, slice_get_within, has_entry_numbers, is_linked, message_linked, field_linked, enum_linked, oneof_in_range, fields_at, fields_or_none, FieldRow, MessageRow, EnumRow, EnumValueRow, TableRows, entry_keeps, passes_at, values_at, values_or_none, named_value, LinkedPool, declared_place, is_declared, is_declared_at, some_there}
use Rattle.std.proofs.lemmas.Iterator.Adapters.{position_from-zero}
use Rattle.prost_reflect_tables.specs.Gathered.{places_from}
use Rattle.prost_reflect_tables.specs.LinkedCatalog.{own_fields}
use Rattle.prost_reflect_tables.specs.WrittenDefaults.{number_named}
use Rattle.prost_reflect_tables.proofs.DeclaredFields.{entry_declared, entry_fields_declared}
use Rattle.prost_reflect_pool.specs.Pools.{files_of, pool_rows}
use Rattle.prost_reflect_pool.specs.RecordPaths.{oneofs_at, oneofs_or_none}

own_from : (all : List FieldRow) (i : ℕ) (xs : List FieldRow) → ((k : ℕ) (x : FieldRow) → slice_get xs k ≡ Some x → slice_get all (i + k) ≡ Some x) → list_all (is_declared_at all) (places_from (λ f. not f.is_extension) i xs) ≡ true
own_from all i [] h = refl
own_from all i (x ∷ xs) h = go (not x.is_extension) refl (own_from all (i + 1) xs (λ k y e. subst (λ n. slice_get all n ≡ Some y) (omega arith) (h (suc k) y e)))
  where
    at : slice_get all i ≡ Some x
    at = subst (λ n. slice_get all n ≡ Some x) (omega arith) (h 0 x refl)

    go : (b : Bool) → not x.is_extension ≡ b → list_all (is_declared_at all) (places_from (λ f. not f.is_extension) (i + 1) xs) ≡ true → list_all (is_declared_at all) (cond b (i ∷ places_from (λ f. not f.is_extension) (i + 1) xs) (places_from (λ f. not f.is_extension) (i + 1) xs)) ≡ true
    go true e more = rw (at, e) more
    go false e more = more

-- At the places of a message type's own fields stand fields, and no extensions.
pub own_declared : (fields : List FieldRow) (places : List ℕ) → places ≡ own_fields fields → IsTrue (list_all (is_declared_at fields) places)
own_declared fields places same = rw same (own_from fields 0 fields (λ k x e. subst (λ n. slice_get fields n ≡ Some x) (omega arith) e))

-- The oneof of a field is one of its message type's.
pub oneof_there : (rows : TableRows) (T i : ℕ) (f : FieldRow) (o : ℕ) → is_linked rows ≡ true → slice_get (fields_at rows T) i ≡ Some f → f.oneof ≡ Some o → IsTrue (nat_lt o (length (oneofs_at rows T)))
oneof_there rows T i f o linked found member = of (slice_get rows.messages T) refl found
  where
    of : (m : Option MessageRow) → slice_get rows.messages T ≡ m → slice_get (fields_or_none m) i ≡ Some f → nat_lt o (length (oneofs_or_none m)) ≡ true
    of None at e = absurd cc
    of (Some m) at e =
        let keeps = passes_at (message_linked (length rows.messages) (length rows.enums)) rows.messages T m (and_parts _ _ (and_parts _ _ linked).0).0 at in
        let field = passes_at (field_linked (length rows.messages) (length rows.enums) (length m.oneofs)) m.fields i f (and_parts _ _ (and_parts _ _ (and_parts _ _ keeps).0).0).1 e in
        ap (oneof_in_range (length m.oneofs)) (sym member) ∙ (and_parts _ _ field).1

-- The first place of members of a oneof is that of a field.
pub first_member : (fields : List FieldRow) (places : List ℕ) → IsTrue (list_all (is_declared_at fields) places) → 1 ≤ length places → get_or places 0 0 < length fields
first_member fields [] declared some = absurd (omega arith)
first_member fields (i ∷ places) declared some = go (slice_get fields i) refl (and_parts _ _ declared).0
  where
    go : (o : Option FieldRow) → slice_get fields i ≡ o → is_declared o ≡ true → i < length fields
    go None at is = absurd cc
    go (Some f) at is = slice_get_within fields i f at

-- An enum has a first value.
pub first_there : (rows : TableRows) (E : ℕ) → is_linked rows ≡ true → E < length rows.enums → IsTrue (nat_lt 0 (length (values_at rows E)))
first_there rows E linked less = of (slice_get rows.enums E) refl
  where
    of : (e : Option EnumRow) → slice_get rows.enums E ≡ e → nat_lt 0 (length (values_or_none e)) ≡ true
    of None at = absurd (some_there rows.enums E less at)
    of (Some e) at = passes_at enum_linked rows.enums E e (and_parts _ _ (and_parts _ _ linked).0).1 at

-- The key and the value of an entry are its two fields.
pub record EntryPlaces (fields : List FieldRow) : Type 0 where
  pub key : declared_place fields 1 ≡ Some 0
  pub value : declared_place fields 2 ≡ Some 1
  pub key_declared : is_declared_at fields 0 ≡ true
  pub value_declared : is_declared_at fields 1 ≡ true

entry_shown : (fields : List FieldRow) → has_entry_numbers fields ≡ true → is_declared_at fields 0 && is_declared_at fields 1 ≡ true → EntryPlaces fields
entry_shown [] numbers declared = absurd cc
entry_shown (k ∷ []) numbers declared = absurd cc
entry_shown (k ∷ v ∷ f ∷ fields) numbers declared = absurd cc
entry_shown (k ∷ v ∷ []) numbers declared =
    let is = and_parts (nat_eq k.number 1) (nat_eq v.number 2) numbers in
    let own = and_parts (not k.is_extension) (not v.is_extension) declared in
    let one : k.number ≡ 1 = eqb-true k.number 1 is.0 in
    let two : v.number ≡ 2 = eqb-true v.number 2 is.1 in
    record { key = rw (one, own.0) refl; value = rw (one, two, own.1) refl; key_declared = own.0; value_declared = own.1 }

pub entry_there : (pool : LinkedPool) (T : ℕ) → option_map (λ (m : MessageRow). m.is_map_entry) (slice_get (pool_rows pool).messages T) ≡ Some true → EntryPlaces (fields_at (pool_rows pool) T)
entry_there pool T is = of (slice_get (pool_rows pool).messages T) refl is
  where
    of : (m : Option MessageRow) → slice_get (pool_rows pool).messages T ≡ m → option_map (λ (m : MessageRow). m.is_map_entry) m ≡ Some true → EntryPlaces (fields_or_none m)
    of None at is = absurd cc
    of (Some m) at is =
        let entry : m.is_map_entry ≡ true = same_Some m.is_map_entry true is in
        let declared = passes_at entry_declared (pool_rows pool).messages T m (entry_fields_declared (files_of pool) (pool_rows pool) pool.built) at in
        entry_shown m.fields (entry_keeps (pool_rows pool) T m pool.tables.linked at entry) (ap (λ (b : Bool). not b || (is_declared_at m.fields 0 && is_declared_at m.fields 1)) (sym entry) ∙ declared)

-- LOOK-UPS

passing_from : {X : Type 0} (p : X → Bool) (k : ℕ) (xs : List X) (i : ℕ) → position_from p k xs ≡ Some i → (j : ℕ) × (x : X) × (i ≡ k + j) × (slice_get xs j ≡ Some x) × (p x ≡ true)
passing_from p k [] i e = absurd cc
passing_from p k (x ∷ xs) i e = go (p x) refl e (passing_from p (k + 1) xs i)
  where
    go : (b : Bool) → p x ≡ b → cond b (Some k) (position_from p (k + 1) xs) ≡ Some i → (position_from p (k + 1) xs ≡ Some i → (j : ℕ) × (y : _) × (i ≡ (k + 1) + j) × (slice_get xs j ≡ Some y) × (p y ≡ true)) →
        (j : ℕ) × (y : _) × (i ≡ k + j) × (slice_get (x ∷ xs) j ≡ Some y) × (p y ≡ true)
    go true is e more = let same : k ≡ i = cc in (0, x, omega (arith, same), refl, is)
    go false is e more = let found = more e in (suc found.0, found.1, omega (arith, found.2), found.3, found.4)

-- What stands at the first place that passes.
first_passing : {X : Type 0} (p : X → Bool) (xs : List X) (i : ℕ) → position p xs ≡ Some i → (x : X) × (slice_get xs i ≡ Some x) × (p x ≡ true)
first_passing p xs i e =
    let found = passing_from p 0 xs i (sym (position_from-zero p xs) ∙ e) in
    let same : found.0 ≡ i = omega (arith, found.2) in
    (found.1, ap (slice_get xs) (sym same) ∙ found.3, found.4)

-- A look-up that passes by extensions finds a field.
pub fields_found : (q : FieldRow → Bool) (fields : List FieldRow) (r : Option ℕ) → r ≡ position (λ f. not f.is_extension && q f) fields → IfSome r (λ i. IsTrue (is_declared_at fields i))
fields_found q fields None e = tt
fields_found q fields (Some i) e =
    let found = first_passing (λ (f : FieldRow). not f.is_extension && q f) fields i (sym e) in
    ap is_declared found.1 ∙ (and_parts (not found.0.is_extension) (q found.0) found.2).0

found_from : {X : Type 0} (p : X → Bool) (k : ℕ) (xs : List X) → option_and_then (λ i. slice_get xs (i - k)) (position_from p k xs) ≡ find p xs
found_from p k [] = refl
found_from p k (x ∷ xs) = go (p x) (found_from p (k + 1) xs)
  where
    step : (o : Option ℕ) → position_from p (k + 1) xs ≡ o → option_and_then (λ i. slice_get (x ∷ xs) (i - k)) o ≡ option_and_then (λ i. slice_get xs (i - (k + 1))) o
    step None e = refl
    step (Some i) e =
        let found = passing_from p (k + 1) xs i e in
        let next : i - k ≡ suc (i - (k + 1)) = omega (arith, found.2) in
        ap (slice_get (x ∷ xs)) next

    go : (b : Bool) → option_and_then (λ i. slice_get xs (i - (k + 1))) (position_from p (k + 1) xs) ≡ find p xs → option_and_then (λ i. slice_get (x ∷ xs) (i - k)) (cond b (Some k) (position_from p (k + 1) xs)) ≡ cond b (Some x) (find p xs)
    go true more = let none : k - k ≡ 0 = omega arith in ap (slice_get (x ∷ xs)) none
    go false more = step (position_from p (k + 1) xs) refl ∙ more

-- The number of the value that the look-up of a name finds.
pub number_found : (values : List EnumValueRow) (name : List ℕ) (o : Option ℕ) → o ≡ named_value values name → option_map (λ (v : EnumValueRow). v.number) (option_and_then (slice_get values) o) ≡ number_named values name
number_found values name o e =
    let p = λ (v : EnumValueRow). bytes_eq v.id.name name in
    ap (λ o. option_map (λ (v : EnumValueRow). v.number) (option_and_then (slice_get values) o)) (e ∙ position_from-zero p values) ∙ ap (option_map (λ (v : EnumValueRow). v.number)) (sym (whole (position_from p 0 values)) ∙ found_from p 0 values)
  where
    whole : (o : Option ℕ) → option_and_then (λ i. slice_get values (i - 0)) o ≡ option_and_then (slice_get values) o
    whole None = refl
    whole (Some i) = let same : i - 0 ≡ i = omega arith in ap (slice_get values) same
