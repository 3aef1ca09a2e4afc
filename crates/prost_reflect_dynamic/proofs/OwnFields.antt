-- Fields of a message's own type, and what their numbers are to it.
use Rattle.std.specs.Prelude.{◌≡◌, ◌≢◌}
use Rattle.prost_reflect_dynamic.proofs.Common.{ℕ, Bool, true, false, not, cond, and_from, eq-eqb, ne_eqb, Field, field_number, is_sibling, are_siblings, List, Option, Some, None, refl, ap, sym, ◌∙◌, unwrap_or, true≢false, option_map, option_and_then, is_some, slice_get, IfOk, IfSome, Result, AllocError, Ok, Err, bytes_eq, field_of, passes, value_valid, FieldRow, fields_at, row_of, place_of, schema_field, named_field, pool_rows, fields_of, PooledType, rows_same, known_of, is_known, row_at_number, row_at_place, row_of_number, no_row, fields_ascend, IsOwnField, is_field_number, number_named, number_of, takes, takes_at, NumberFound, NumberMissing, NameFound, NameMissing, TakesFound, NamesEqual, NamesSame, MessageDescriptor, row_at, is_declared, is_declared_at, declared_place, FieldDescriptor, value_of, Value}
use Rattle.std.specs.Bool.{beq}
use Rattle.prost_reflect_wire.specs.Schema.{same_oneof}
use Rattle.prost_reflect_fields.specs.Known.{is_listed}
use Rattle.prost_reflect_tables.specs.Schema.{rows_of}
use Rattle.prost_reflect_dynamic.specs.Named.{SameMessage}
use Rattle.prost_reflect_dynamic.specs.NamedFields as named
use Rattle.prost_reflect_rows.proofs.Described.{known_of_row, field_at_number}
use Rattle.prost_reflect_dynamic.proofs.OwnRows.{fields_found}
use Rattle.prost_reflect_fields.proofs.Siblings.{passes_found}

-- the row of an own field is one of the message type's
own_row : (t : PooledType) (field : FieldDescriptor) → IsOwnField t field → row_at field ≡ slice_get (fields_of t) field.index
own_row t field own = (λ i. slice_get (fields_at (rows_same field.message.pool.inner t.pool own.0 i) (own.1 i)) field.index)

-- and it is known by its number
pub own_found : (t : PooledType) (field : FieldDescriptor) (n : ℕ) → IsOwnField t field → option_map (λ f. f.number) (row_at field) ≡ Some n
    → field_of (known_of t) n ≡ option_map (schema_field (pool_rows field.message.pool.inner)) (row_at field)
own_found t field n own h = go (row_at field) refl h
  where
    go : (o : Option FieldRow) → row_at field ≡ o → option_map (λ f. f.number) o ≡ Some n → field_of (known_of t) n ≡ option_map (schema_field (pool_rows field.message.pool.inner)) o
    go None at h = cc
    go (Some f) at h =
        let same : f.number ≡ n = cc in
        ap (field_of (known_of t)) (sym same) ∙ known_of_row t field.index f (sym (own_row t field own) ∙ at)
        ∙ ap (λ rows. Some (schema_field rows f)) (sym (rows_same field.message.pool.inner t.pool own.0))

some_known : {A B : Type 0} (f : A → B) (o : Option A) (p : Option B) → p ≡ option_map f o → is_some o ≡ true → is_some p ≡ true
some_known f None p e h = absurd (true≢false (sym h))
some_known f (Some x) p e h = ap is_some e

numbered : (o : Option FieldRow) (n : ℕ) → option_map (λ f. f.number) o ≡ Some n → is_some o ≡ true
numbered None n h = cc
numbered (Some f) n h = refl

pub own_known : (t : PooledType) (field : FieldDescriptor) (n : ℕ) → IsOwnField t field → option_map (λ f. f.number) (row_at field) ≡ Some n → is_known (known_of t) n ≡ true
own_known t field n own h = some_known (schema_field (pool_rows field.message.pool.inner)) (row_at field) (field_of (known_of t) n) (own_found t field n own h) (numbered (row_at field) n h)

-- the number of a field is known
pub number_known : (t : PooledType) (n : ℕ) → is_field_number t n ≡ true → is_known (known_of t) n ≡ true
number_known t n h = some_known (schema_field (pool_rows t.pool)) (row_of (fields_of t) n) (field_of (known_of t) n) (field_at_number t n) (declared (row_of (fields_of t) n) h)
  where
    declared : (o : Option FieldRow) → is_declared o ≡ true → is_some o ≡ true
    declared None h = absurd (true≢false (sym h))
    declared (Some f) h = refl

-- and it is listed among those of fields
pub number_listed : (t : PooledType) (n : ℕ) → is_field_number t n ≡ true → is_listed false (known_of t) n ≡ true
number_listed t n h = ap (λ o. passes o (λ f. beq false f.is_extension)) (field_at_number t n) ∙ declared (row_of (fields_of t) n) h
  where
    apart : (b : Bool) → not b ≡ true → beq false b ≡ true
    apart true h = absurd (true≢false (sym h))
    apart false h = refl

    declared : (o : Option FieldRow) → is_declared o ≡ true → passes (option_map (schema_field (pool_rows t.pool)) o) (λ f. beq false f.is_extension) ≡ true
    declared None h = absurd (true≢false (sym h))
    declared (Some f) h = apart f.is_extension h

-- so is that of a field that a name finds
pub named_known : (t : PooledType) (name : List ℕ) (n : ℕ) → number_named t name ≡ Some n → is_known (known_of t) n ≡ true
named_known t name n h = go (named_field (fields_of t) name) h
  where
    there : (i : ℕ) (o : Option FieldRow) → slice_get (fields_of t) i ≡ o → option_map (λ f. f.number) o ≡ Some n → is_known (known_of t) n ≡ true
    there i None at e = cc
    there i (Some f) at e =
        let same : f.number ≡ n = cc in
        ap is_some (ap (field_of (known_of t)) (sym same) ∙ known_of_row t i f at)

    go : (o : Option ℕ) → option_and_then (λ i. option_map (λ f. f.number) (slice_get (fields_of t) i)) o ≡ Some n → is_known (known_of t) n ≡ true
    go None e = cc
    go (Some i) e = there i (slice_get (fields_of t) i) refl e

-- which is no extension
pub named_declared : (t : PooledType) (name : List ℕ) (n : ℕ) → number_named t name ≡ Some n → is_field_number t n ≡ true
named_declared t name n h = go (named_field (fields_of t) name) refl h
  where
    there : (i : ℕ) (o : Option FieldRow) → slice_get (fields_of t) i ≡ o → is_declared o ≡ true → option_map (λ f. f.number) o ≡ Some n → is_declared (row_of (fields_of t) n) ≡ true
    there i None at d e = cc
    there i (Some f) at d e =
        let same : f.number ≡ n = cc in
        ap is_declared (ap (row_of (fields_of t)) (sym same) ∙ row_at_number (fields_of t) i f (fields_ascend (pool_rows t.pool) t.index t.pool.value.tables.linked) at) ∙ d

    go : (o : Option ℕ) → named_field (fields_of t) name ≡ o → option_and_then (λ i. option_map (λ f. f.number) (slice_get (fields_of t) i)) o ≡ Some n → is_declared (row_of (fields_of t) n) ≡ true
    go None at e = cc
    go (Some i) at e = there i (slice_get (fields_of t) i) refl (fields_found (λ (f : FieldRow). bytes_eq f.id.name name) (fields_of t) (Some i) (sym at)) e

-- LOOKING UP

found_declared : (fields : List FieldRow) (n : ℕ) → is_some (declared_place fields n) ≡ is_declared (row_of fields n)
found_declared fields n = go (place_of fields n) refl
  where
    test : (b : Bool) (i : ℕ) → is_some (cond b (Some i) None) ≡ b
    test true i = refl
    test false i = refl

    go : (o : Option ℕ) → place_of fields n ≡ o → is_some (option_and_then (λ i. cond (is_declared_at fields i) (Some i) None) o) ≡ is_declared (row_of fields n)
    go None at = sym (ap is_declared (no_row fields n at))
    go (Some i) at = test (is_declared_at fields i) i ∙ ap is_declared (row_at_place fields n i at)

found_place : (fields : List FieldRow) (n i : ℕ) → declared_place fields n ≡ Some i → place_of fields n ≡ Some i
found_place fields n i h = go (place_of fields n) h
  where
    test : (b : Bool) (j : ℕ) → cond b (Some j) None ≡ Some i → Some j ≡ Some i
    test true j h = h
    test false j h = cc

    go : (o : Option ℕ) → option_and_then (λ j. cond (is_declared_at fields j) (Some j) None) o ≡ Some i → o ≡ Some i
    go None h = cc
    go (Some j) h = test (is_declared_at fields j) j h

numbered_at : (fields : List FieldRow) (n i : ℕ) → declared_place fields n ≡ Some i → unwrap_or (option_map (λ f. f.number) (slice_get fields i)) 0 ≡ n
numbered_at fields n i h = go (slice_get fields i) refl
  where
    declared : is_declared (slice_get fields i) ≡ true
    declared = ap is_declared (row_at_place fields n i (found_place fields n i h)) ∙ sym (found_declared fields n) ∙ ap is_some h

    go : (o : Option FieldRow) → slice_get fields i ≡ o → unwrap_or (option_map (λ f. f.number) o) 0 ≡ n
    go None at = absurd (true≢false (sym declared ∙ ap is_declared at))
    go (Some f) at = row_of_number fields n i f (found_place fields n i h) at

own_fields : (d : MessageDescriptor) (t : PooledType) → NamesEqual d t → named.descriptor_fields d ≡ fields_of t
own_fields d t own = λ i. fields_at (rows_same d.pool.inner t.pool own.0 i) (own.1 i)

pub number_found : NumberFound
number_found t field n own h = (
  numbered_at (named.descriptor_fields field.message) n field.index h,
  ap (λ fields. is_declared (row_of fields n)) (sym (own_fields field.message t own)) ∙ sym (found_declared (named.descriptor_fields field.message) n) ∙ ap is_some h,
)

pub number_missing : NumberMissing
number_missing t d n own h = ap (λ fields. is_declared (row_of fields n)) (sym (own_fields d t own)) ∙ sym (found_declared (named.descriptor_fields d) n) ∙ ap is_some h

abbrev number_there : (t : PooledType) → Option ℕ → Option ℕ
number_there t found = option_and_then (λ i. option_map (λ f. f.number) (slice_get (fields_of t) i)) found

pub name_found : NameFound
name_found t field name own h =
    let at : named_field (fields_of t) name ≡ Some field.index = ap (λ fields. named_field fields name) (sym (own_fields field.message t own)) ∙ h in
    ap (number_there t) at
    ∙ got (slice_get (fields_of t) field.index) (fields_found (λ (f : FieldRow). bytes_eq f.id.name name) (fields_of t) (Some field.index) (sym at))
    ∙ ap (λ o. Some (unwrap_or (option_map (λ f. f.number) o) 0)) (sym (own_row t field own))
  where
    got : (o : Option FieldRow) → is_declared o ≡ true → option_map (λ f. f.number) o ≡ Some (unwrap_or (option_map (λ f. f.number) o) 0)
    got None d = absurd (true≢false (sym d))
    got (Some f) d = refl

pub name_missing : NameMissing
name_missing t d name own h = ap (number_there t) (ap (λ fields. named_field fields name) (sym (own_fields d t own)) ∙ h)

pub takes_found : TakesFound
takes_found t field n v own h = ap (λ o. passes o (λ f. value_valid f (value_of v))) (sym (own_found t field n own h))

-- The look-up in a descriptor of the message type itself.
same_fields : (d : MessageDescriptor) (t : PooledType) → NamesSame d t → named.descriptor_fields d ≡ fields_of t
same_fields d t names = λ i. fields_at (rows_of (names.0 i).tables) (names.1 i)

pub field_there : (t : PooledType) (d : MessageDescriptor) (n : ℕ) → NamesSame d t → is_field_number t n ≡ true → None ≡ declared_place (named.descriptor_fields d) n → ⊥
field_there t d n names is none =
    true≢false (sym is ∙ ap (λ fields. is_declared (row_of fields n)) (sym (same_fields d t names)) ∙ sym (found_declared (named.descriptor_fields d) n) ∙ ap is_some (sym none))

-- A field takes a value where its own message type takes it at its number.
pub own_takes : (t : PooledType) (field : FieldDescriptor) (f : FieldRow) (v : Value) → IsOwnField t field → row_at field ≡ Some f → takes field v ≡ takes_at t (number_of field) v
own_takes t field f v own at = takes_found t field (number_of field) v own (ap (option_map (λ f. f.number)) at ∙ ap (λ o. Some (unwrap_or (option_map (λ f. f.number) o) 0)) (sym at))

-- WHAT A LOOK-UP ANSWERS

pub and_ok : {X E : Type 0} (P Q R : X → Type 0) → ((x : X) → P x → Q x → R x) → (r : Result X E) → IfOk r P → IfOk r Q → IfOk r R
and_ok P Q R f (Ok x) p q = f x p q
and_ok P Q R f (Err e) p q = tt

found_number : (d : MessageDescriptor) (n : ℕ) (found : Option FieldDescriptor) → option_map (λ field. field.index) found ≡ declared_place (named.descriptor_fields d) n → IfSome found (λ field. SameMessage d field.message)
    → IfSome found (λ field. number_of field ≡ n)
found_number d n None e s = tt
found_number d n (Some field) e s =
    let same : named.descriptor_fields field.message ≡ named.descriptor_fields d = λ i. fields_at (rows_of (s.0 i).tables) (s.1 i) in
    numbered_at (named.descriptor_fields field.message) n field.index (ap (λ fields. declared_place fields n) same ∙ sym e)

pub numbers_found : (d : MessageDescriptor) (n : ℕ) (r : Result (Option FieldDescriptor) AllocError) → IfOk r (λ found. option_map (λ field. field.index) found ≡ declared_place (named.descriptor_fields d) n)
    → IfOk r (λ found. IfSome found (λ field. SameMessage d field.message)) → IfOk r (λ found. IfSome found (λ field. number_of field ≡ n))
numbers_found d n = and_ok _ _ _ (found_number d n)

found_name : (d : MessageDescriptor) (name : List ℕ) (found : Option FieldDescriptor) → option_map (λ field. field.index) found ≡ named_field (named.descriptor_fields d) name → IfSome found (λ field. SameMessage d field.message)
    → IfSome found (λ field. (t : PooledType) → IsOwnField t field → number_named t name ≡ Some (number_of field))
found_name d name None e s = tt
found_name d name (Some field) e s =
    let same : named.descriptor_fields field.message ≡ named.descriptor_fields d = λ i. fields_at (rows_of (s.0 i).tables) (s.1 i) in
    λ t own. name_found t field name own (ap (λ fields. named_field fields name) same ∙ sym e)

pub names_found : (d : MessageDescriptor) (name : List ℕ) (r : Result (Option FieldDescriptor) AllocError) → IfOk r (λ found. option_map (λ field. field.index) found ≡ named_field (named.descriptor_fields d) name)
    → IfOk r (λ found. IfSome found (λ field. SameMessage d field.message)) → IfOk r (λ found. IfSome found (λ field. (t : PooledType) → IsOwnField t field → number_named t name ≡ Some (number_of field)))
names_found d name = and_ok _ _ _ (found_name d name)

-- MEMBERS OF ONE ONEOF

-- fields of other numbers whose oneof is one are siblings
members_siblings : (fields : List Field) (n k : ℕ) (f g : Field) → field_of fields n ≡ Some f → field_of fields k ≡ Some g → k ≢ n → same_oneof g.oneof f.oneof ≡ true → are_siblings fields n k ≡ true
members_siblings fields n k f g at there apart same =
    ap (λ (o : Option Field). passes o (λ f. is_sibling fields f k)) at
    ∙ and_from _ _ (ap not (ne_eqb k f.number (λ e. apart (e ∙ field_number fields n f at)))) (passes_found k (λ h. same_oneof h.oneof f.oneof) fields g there same)

pub own_siblings : (t : PooledType) (a b : FieldDescriptor) (j k n o : ℕ) → IsOwnField t a → IsOwnField t b → option_map (λ f. f.oneof) (row_at a) ≡ Some (Some j) → option_map (λ f. f.oneof) (row_at b) ≡ Some (Some k) → k ≡ j
    → option_map (λ f. f.number) (row_at a) ≡ Some n → option_map (λ f. f.number) (row_at b) ≡ Some o → o ≢ n → are_siblings (known_of t) (number_of a) (number_of b) ≡ true
own_siblings t a b j k n o own other in_one in_other same numbered numbered_other apart = go (row_at a) (row_at b) refl refl in_one in_other numbered numbered_other
  where
    go : (x y : Option FieldRow) → row_at a ≡ x → row_at b ≡ y → option_map (λ f. f.oneof) x ≡ Some (Some j) → option_map (λ f. f.oneof) y ≡ Some (Some k) → option_map (λ f. f.number) x ≡ Some n → option_map (λ f. f.number) y ≡ Some o
        → are_siblings (known_of t) (number_of a) (number_of b) ≡ true
    go None y at there i h e g = cc
    go (Some x) None at there i h e g = cc
    go (Some x) (Some y) at there i h e g =
        let n_is : number_of a ≡ n = ap (λ (r : Option ℕ). unwrap_or r 0) (ap (option_map (λ f. f.number)) at ∙ e) in
        let o_is : number_of b ≡ o = ap (λ (r : Option ℕ). unwrap_or r 0) (ap (option_map (λ f. f.number)) there ∙ g) in
        let of_a = own_found t a (number_of a) own (ap (option_map (λ f. f.number)) at ∙ e ∙ ap Some (sym n_is)) ∙ ap (option_map (schema_field (pool_rows a.message.pool.inner))) at in
        let of_b = own_found t b (number_of b) other (ap (option_map (λ f. f.number)) there ∙ g ∙ ap Some (sym o_is)) ∙ ap (option_map (schema_field (pool_rows b.message.pool.inner))) there in
        let member : x.oneof ≡ Some j = cc in
        let other_member : y.oneof ≡ Some k = cc in
        members_siblings (known_of t) (number_of a) (number_of b) (schema_field (pool_rows a.message.pool.inner) x) (schema_field (pool_rows b.message.pool.inner) y) of_a of_b (λ z. apart (sym o_is ∙ z ∙ n_is))
        ((λ i. same_oneof (other_member i) (member i)) ∙ eq-eqb k j same)
