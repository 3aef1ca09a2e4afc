-- The descriptors that are found by numbers of fields and extensions which a message type lists.
use Rattle.std.specs.Prelude.{◌≡◌, ◌==◌}
use Rattle.prost_reflect_dynamic.proofs.Common.{ℕ, Bool, true, false, not, Option, Some, None, refl, sym, ap, ◌∙◌, unwrap_or, true≢false, beq, eqb-true, option_map, is_some, passes, fields_at, row_of, is_declared, FieldRow, schema_field, extension_where, fields_of, pool_rows, PooledType, known_of, is_listed, IsOwnField, number_of, is_field_number, IsOwnExtension, extension_number, NamesEqual, NamesSame, Extends, declared_place, ExtensionDescriptor, FieldDescriptor, MessageDescriptor}
use Rattle.prost_reflect_pool.specs.Pools.{pool_rows as rows_in, pool_contents as contents_in}
use Rattle.prost_reflect_dynamic.specs.Named.{SameMessage}
use Rattle.prost_reflect_dynamic.specs.NamedFields as named
use Rattle.prost_reflect_rows.proofs.Described.{field_at_number}
use Rattle.prost_reflect_pool.proofs.ExtensionPlaces.{FoundExtension, extension_found, extension_there}
use Rattle.prost_reflect_dynamic.proofs.OwnFields.{number_found, number_missing}

listed_row : (x : Bool) (t : PooledType) (n : ℕ) → is_listed x (known_of t) n ≡ passes (row_of (fields_of t) n) (λ f. beq x f.is_extension)
listed_row x t n = ap (λ o. passes o (λ f. beq x f.is_extension)) (field_at_number t n) ∙ go (row_of (fields_of t) n)
  where
    go : (o : Option FieldRow) → passes (option_map (schema_field (pool_rows t.pool)) o) (λ f. beq x f.is_extension) ≡ passes o (λ f. beq x f.is_extension)
    go None = refl
    go (Some f) = refl

-- FIELDS

declared_listed : (o : Option FieldRow) → passes o (λ f. beq false f.is_extension) ≡ is_declared o
declared_listed None = refl
declared_listed (Some f) = unlike f.is_extension
  where
    unlike : (b : Bool) → beq false b ≡ not b
    unlike true = refl
    unlike false = refl

pub field_listed : (t : PooledType) (n : ℕ) → is_listed false (known_of t) n ≡ true → is_field_number t n ≡ true
field_listed t n h = sym (declared_listed (row_of (fields_of t) n)) ∙ sym (listed_row false t n) ∙ h

names_equal : (d : MessageDescriptor) (t : PooledType) → NamesSame d t → NamesEqual d t
names_equal d t same = (ap contents_in same.0, same.1)

pub field_there : (t : PooledType) (d : MessageDescriptor) (n : ℕ) → NamesSame d t → is_listed false (known_of t) n ≡ true → declared_place (named.descriptor_fields d) n ≡ None → ⊥
field_there t d n same h none = true≢false (sym (field_listed t n h) ∙ number_missing t d n (names_equal d t same) none)

pub field_found : (t : PooledType) (d : MessageDescriptor) (field : FieldDescriptor) (n : ℕ) → NamesSame d t → SameMessage d field.message → declared_place (named.descriptor_fields d) n ≡ Some field.index → IsOwnField t field × (number_of field ≡ n)
field_found t d field n same s at = (own, (number_found t field n own there).0)
  where
    own : IsOwnField t field
    own = (ap contents_in (s.0 ∙ same.0), s.1 ∙ same.1)

    there : declared_place (named.descriptor_fields field.message) n ≡ Some field.index
    there = (λ i. declared_place (fields_at (rows_in (s.0 i)) (s.1 i)) n) ∙ at

-- EXTENSIONS

where_same : (t : PooledType) (d : MessageDescriptor) (n : ℕ) → NamesSame d t → extension_where d.pool.inner.value d.index (λ f. f.number == n) ≡ extension_where t.pool.value t.index (λ f. f.number == n)
where_same t d n same = λ i. extension_where (same.0 i) (same.1 i) (λ f. f.number == n)

pub extension_missed : (t : PooledType) (d : MessageDescriptor) (n : ℕ) → NamesSame d t → is_listed true (known_of t) n ≡ true → extension_where d.pool.inner.value d.index (λ f. f.number == n) ≡ None → ⊥
extension_missed t d n same h none = of (row_of (fields_of t) n) refl (sym (listed_row true t n) ∙ h)
  where
    marked : (b : Bool) → beq true b ≡ true → b ≡ true
    marked true e = refl
    marked false e = absurd (true≢false (sym e))

    of : (o : Option FieldRow) → row_of (fields_of t) n ≡ o → passes o (λ f. beq true f.is_extension) ≡ true → ⊥
    of None at is = true≢false (sym is)
    of (Some f) at is = true≢false (sym (extension_there t.pool.value t.index n f at (marked f.is_extension is)) ∙ ap is_some (sym (where_same t d n same) ∙ none))

pub extension_own : (t : PooledType) (d : MessageDescriptor) (x : ExtensionDescriptor) (n : ℕ) → NamesSame d t → Extends d x → extension_where d.pool.inner.value d.index (λ f. f.number == n) ≡ Some x.index → IsOwnExtension t x × (extension_number x ≡ n)
extension_own t d x n same own at =
    let e : FoundExtension x.pool.inner.value d.index (λ f. f.number == n) x.index = extension_found x.pool.inner.value d.index (λ f. f.number == n) x.index ((λ i. extension_where (own.0 i) d.index (λ f. f.number == n)) ∙ at) in (
      (ap contents_in (own.0 ∙ same.0), own.1 ∙ ap Some same.1),
      ap (λ (o : Option FieldRow). unwrap_or (option_map (λ f. f.number) o) 0) e.stands ∙ eqb-true e.row.number n e.passing,
    )
