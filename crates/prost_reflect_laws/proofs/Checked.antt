-- What the checks of a schema say of its fields.
use Rattle.std.specs.Prelude.{◌≡◌, ◌&&◌, ◌||◌, ◌∷◌}
use Rattle.prost_reflect_laws.proofs.Common.{ℕ, zero, suc, Bool, true, false, cond, not, List, [], nat_eq, Option, Some, None, refl, ap, sym, ◌∙◌, list_all, is_some, and_parts, number_valid, ValueType, Repeated, MapFrom, Field, MessageType, Schema, known, field_of, is_key_kind, has_kind_default, is_group, is_packable_kind, is_bare, message_has_presence, kind_valid, default_valid, form_valid, oneof_valid, field_valid, numbers_differ, schema_valid, field_number}

pub known_valid : (schema : Schema) (T : ℕ) → schema_valid schema ≡ true → list_all (field_valid schema) (known schema T) ≡ true
known_valid schema T h = go schema T h
  where
    go : (types : List MessageType) (T : ℕ) → list_all (λ (m : MessageType). numbers_differ m.known && list_all (field_valid schema) m.known) types ≡ true → list_all (field_valid schema) (known types T) ≡ true
    go [] T h = refl
    go (m ∷ types) zero h = (and_parts (numbers_differ m.known) (list_all (field_valid schema) m.known) (and_parts (numbers_differ m.known && list_all (field_valid schema) m.known) (list_all (λ (m : MessageType). numbers_differ m.known && list_all (field_valid schema) m.known) types) h).0).1
    go (m ∷ types) (suc T) h = go types T (and_parts (numbers_differ m.known && list_all (field_valid schema) m.known) (list_all (λ (m : MessageType). numbers_differ m.known && list_all (field_valid schema) m.known) types) h).1

pub known_differ : (schema : Schema) (T : ℕ) → schema_valid schema ≡ true → numbers_differ (known schema T) ≡ true
known_differ schema T h = go schema T h
  where
    go : (types : List MessageType) (T : ℕ) → list_all (λ (m : MessageType). numbers_differ m.known && list_all (field_valid schema) m.known) types ≡ true → numbers_differ (known types T) ≡ true
    go [] T h = refl
    go (m ∷ types) zero h = (and_parts (numbers_differ m.known) (list_all (field_valid schema) m.known) (and_parts (numbers_differ m.known && list_all (field_valid schema) m.known) (list_all (λ (m : MessageType). numbers_differ m.known && list_all (field_valid schema) m.known) types) h).0).0
    go (m ∷ types) (suc T) h = go types T (and_parts (numbers_differ m.known && list_all (field_valid schema) m.known) (list_all (λ (m : MessageType). numbers_differ m.known && list_all (field_valid schema) m.known) types) h).1

pub found_valid : (schema : Schema) (fields : List Field) (n : ℕ) (f : Field) → list_all (field_valid schema) fields ≡ true → field_of fields n ≡ Some f → field_valid schema f ≡ true
found_valid schema [] n f h e = cc
found_valid schema (g ∷ fields) n f h e = go (nat_eq g.number n) (and_parts (field_valid schema g) (list_all (field_valid schema) fields) h) e (found_valid schema fields n f)
  where
    go : (b : Bool) → (field_valid schema g ≡ true) × (list_all (field_valid schema) fields ≡ true) → cond b (Some g) (field_of fields n) ≡ Some f →
        (list_all (field_valid schema) fields ≡ true → field_of fields n ≡ Some f → field_valid schema f ≡ true) → field_valid schema f ≡ true
    go true h e more = ap (field_valid schema) (ap (λ (o : Option Field). elim o [ None ↦ f | Some x ↦ x ]) (sym e)) ∙ h.0
    go false h e more = more h.1 e

-- what the check of a field says
pub record CheckedField (schema : Schema) (f : Field) : Type 0 where
  pub number : number_valid f.number ≡ true
  pub kind : kind_valid schema f.value_type.kind ≡ true
  pub default : default_valid f.value_type.kind f.value_type.default ≡ true
  pub form : form_valid f f.form ≡ true
  pub oneof : oneof_valid f ≡ true

pub checked_field : (schema : Schema) (f : Field) → field_valid schema f ≡ true → CheckedField schema f
checked_field schema f h =
    let (abcd, e) = and_parts (number_valid f.number && kind_valid schema f.value_type.kind && default_valid f.value_type.kind f.value_type.default && form_valid f f.form) (oneof_valid f) h in
    let (abc, d) = and_parts (number_valid f.number && kind_valid schema f.value_type.kind && default_valid f.value_type.kind f.value_type.default) (form_valid f f.form) abcd in
    let (ab, c) = and_parts (number_valid f.number && kind_valid schema f.value_type.kind) (default_valid f.value_type.kind f.value_type.default) abc in
    let (a, b) = and_parts (number_valid f.number) (kind_valid schema f.value_type.kind) ab in
    record { number = a; kind = b; default = c; form = d; oneof = e }

-- what it says of a list
pub record CheckedList (f : Field) (packed : Bool) : Type 0 where
  pub alone : not (is_some f.oneof) ≡ true
  pub bare : is_bare f.value_type ≡ true
  pub packable : (not packed || is_packable_kind f.value_type.kind) ≡ true

pub checked_list : (schema : Schema) (f : Field) (packed : Bool) → CheckedField schema f → f.form ≡ Repeated packed → CheckedList f packed
checked_list schema f packed checked e =
    let h : form_valid f (Repeated packed) ≡ true = ap (form_valid f) (sym e) ∙ checked.form in
    let (ab, c) = and_parts (not (is_some f.oneof) && is_bare f.value_type) (not packed || is_packable_kind f.value_type.kind) h in
    let (a, b) = and_parts (not (is_some f.oneof)) (is_bare f.value_type) ab in
    record { alone = a; bare = b; packable = c }

-- what it says of a map
pub record CheckedMap (f : Field) (key : ValueType) : Type 0 where
  pub alone : not (is_some f.oneof) ≡ true
  pub keyed : is_key_kind key.kind ≡ true
  pub key_default : has_kind_default key ≡ true
  pub value_default : has_kind_default f.value_type ≡ true
  pub presence : message_has_presence f.value_type ≡ true
  pub no_group : not (is_group f.value_type.kind) ≡ true

pub checked_map : (schema : Schema) (f : Field) (key : ValueType) → CheckedField schema f → f.form ≡ MapFrom key → CheckedMap f key
checked_map schema f key checked e =
    let h : form_valid f (MapFrom key) ≡ true = ap (form_valid f) (sym e) ∙ checked.form in
    let a : Bool = not (is_some f.oneof) in
    let b : Bool = is_key_kind key.kind in
    let c : Bool = has_kind_default key in
    let d : Bool = has_kind_default f.value_type in
    let p : Bool = message_has_presence f.value_type in
    let g : Bool = not (is_group f.value_type.kind) in
    let (h5, six) = and_parts (a && b && c && d && p) g h in
    let (h4, five) = and_parts (a && b && c && d) p h5 in
    let (h3, four) = and_parts (a && b && c) d h4 in
    let (h2, three) = and_parts (a && b) c h3 in
    let (one, two) = and_parts a b h2 in
    record { alone = one; keyed = two; key_default = three; value_default = four; presence = five; no_group = six }

-- the number of a known field
pub known_number : (schema : Schema) (fields : List Field) (n : ℕ) (f : Field) → list_all (field_valid schema) fields ≡ true → field_of fields n ≡ Some f → number_valid n ≡ true
known_number schema fields n f h e = ap number_valid (sym (field_number fields n f e)) ∙ (checked_field schema f (found_valid schema fields n f h e)).number
