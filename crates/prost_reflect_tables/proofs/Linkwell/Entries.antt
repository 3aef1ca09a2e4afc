-- An entry that passes the checks has a key and a value, the numbers 1 and 2, and no extension.
use Rattle.std.specs.Prelude.{◌⊎◌, ◌≡◌, ◌+◌, ◌&&◌, ◌∷◌, ◌++◌}
use Rattle.prost_reflect_tables.proofs.Common.{inl, inr, ℕ, suc, ℤ, pos, negsuc, Bool, true, false, cond, not, List, [], map, length, Option, Some, None, is_some, is_none, refl, sym, ap, ◌∙◌, arith, slice_get, nat_eq, option_and_then, list_any, and_parts, or_cases, not-true, not-false, eqb-true, TableKind, kind_valid, is_key_kind, is_group, FieldDescriptorProto, FieldRow, EnumRow, has_entry_numbers, schema_kind, schema_from, DefinitionRow, FlatMessageRow, FlatEnumRow, FlatRows, number_or_zero, is_code, is_member, message_names, place_named, message_named, is_in_range, is_out_of, extension_outside, is_entry, is_key_type, is_plain, is_entry_key, is_entry_value, is_key_and_value, entry_bad, is_of_entry, wrongly_of_entry, Links, links_of, natural_or_zero, is_place, is_group_code, belonging, extended_place, kind_of_code, linked_field, linked_rows, in_order, declared_fields, fields_of_message, place_or_first}
use Rattle.prost_reflect_types.specs.declared.ExtensionRange.{ExtensionRange}
use Rattle.prost_reflect_tables.specs.Faults as faults
use Rattle.prost_reflect_tables.proofs.Linkwell.Premises.{FieldChecked, EnumChecked}
use Rattle.prost_reflect_tables.proofs.Linkwell.Kinds.{Below, below_at, TypeCode, type_code, FieldKind}
use Rattle.prost_reflect_tables.proofs.Linkwell.Shapes.{own_kind, EntrySound}
use Rattle.prost_reflect_tables.proofs.Linkwell.Fields.{number_shown, repeated_shown, no_default, no_group, unwritten_default, row_sound, type_shown_valid, kind_row}

-- NO EXTENSION

belonging_none : {X : Type 0} (place : X → Option ℕ) (T : ℕ) (xs : List X) → ((i : ℕ) (x : X) → slice_get xs i ≡ Some x → is_place T (place x) ≡ true → ⊥) → belonging place xs T ≡ []
belonging_none place T [] h = refl
belonging_none place T (x ∷ xs) h = go (is_place T (place x)) refl (belonging_none place T xs (λ i. h (suc i)))
  where
    go : (b : Bool) → is_place T (place x) ≡ b → belonging place xs T ≡ [] → cond b (x ∷ belonging place xs T) (belonging place xs T) ≡ []
    go true is e = absurd (h 0 x refl is)
    go false is e = e

placed_at : (T : ℕ) (o : Option ℕ) → is_place T o ≡ true → o ≡ Some T
placed_at T None h = absurd cc
placed_at T (Some p) h = ap Some (sym (eqb-true T p h))

no_range : (ranges : List ExtensionRange) (number : ℤ) → nat_eq (length ranges) 0 ≡ true → list_any (is_in_range number) ranges ≡ false
no_range [] number h = refl
no_range (r ∷ ranges) number h = absurd (omega (arith, eqb-true (length (r ∷ ranges)) 0 h))

not_extended : (rows : FlatRows) (T : ℕ) (m : FlatMessageRow) (d : DefinitionRow FieldDescriptorProto) → slice_get rows.messages T ≡ Some m → nat_eq (length m.definition.proto.extension_range) 0 ≡ true → extension_outside rows d ≡ false → is_place (0 + T) (extended_place (links_of rows) d) ≡ true → ⊥
not_extended rows T m d at none inside is =
    let zeroth : 0 + T ≡ T = omega arith in
    let place : place_named (message_names rows) d.proto.extendee ≡ Some T = placed_at (0 + T) (place_named (message_names rows) d.proto.extendee) is ∙ ap (λ (n : ℕ). Some n) zeroth in
    let named : message_named rows d.proto.extendee ≡ Some m = ap (λ (o : Option ℕ). option_and_then (λ (p : ℕ). slice_get rows.messages p) o) place ∙ at in
    let outside : extension_outside rows d ≡ true = ap (is_out_of (number_or_zero d.proto.number)) named ∙ ap not (no_range m.definition.proto.extension_range (number_or_zero d.proto.number) none) in
    let no : true ≡ false = sym outside ∙ inside in
    absurd cc

-- THE KEY AND THE VALUE

code_is : (n : ℕ) (o : Option ℤ) → is_code n o ≡ true → o ≡ Some (pos n)
code_is n (Some (pos k)) h = ap (λ (i : ℕ). Some (pos i)) (eqb-true k n h)
code_is n _ h = absurd cc

pub record EntryFields (rows : FlatRows) (T : ℕ) (m : FlatMessageRow) : Type 0 where
  pub key : DefinitionRow FieldDescriptorProto
  pub value : DefinitionRow FieldDescriptorProto
  pub key_place : ℕ
  pub value_place : ℕ
  pub key_at : slice_get m.fields key_place ≡ Some key
  pub value_at : slice_get m.fields value_place ≡ Some value
  pub is_key : is_entry_key key ≡ true
  pub is_value : is_entry_value value ≡ true
  pub shown : in_order (fields_of_message (links_of rows) rows.extensions (0 + T) m) ≡ linked_field (links_of rows) false key ∷ linked_field (links_of rows) false value ∷ []

key_number : (links : Links) (d : DefinitionRow FieldDescriptorProto) → is_entry_key d ≡ true → (linked_field links false d).number ≡ 1
key_number links d h = number_shown links false d ∙ ap natural_or_zero (code_is 1 d.proto.number (and_parts (is_code 1 d.proto.number) _ (and_parts (is_code 1 d.proto.number && is_plain d) (is_key_type d.proto.type_) h).0).0)

value_number : (links : Links) (d : DefinitionRow FieldDescriptorProto) → is_entry_value d ≡ true → (linked_field links false d).number ≡ 2
value_number links d h = number_shown links false d ∙ ap natural_or_zero (code_is 2 d.proto.number (and_parts (is_code 2 d.proto.number) _ (and_parts (is_code 2 d.proto.number && is_plain d) (not (is_code 10 d.proto.type_)) h).0).0)

in_front : (f g : FieldRow) → f.number ≡ 1 → g.number ≡ 2 → in_order (f ∷ g ∷ []) ≡ f ∷ g ∷ []
in_front f g one two = rw (one, two) refl

turned : (f g : FieldRow) → f.number ≡ 1 → g.number ≡ 2 → in_order (g ∷ f ∷ []) ≡ f ∷ g ∷ []
turned f g one two = rw (one, two) refl

pub entry_fields : (rows : FlatRows) (T : ℕ) (m : FlatMessageRow) → slice_get rows.messages T ≡ Some m → entry_bad m ≡ false → is_entry m ≡ true → ((i : ℕ) (d : DefinitionRow FieldDescriptorProto) → slice_get rows.extensions i ≡ Some d → extension_outside rows d ≡ false) → EntryFields rows T m
entry_fields rows T m at bad is inside =
    let good : (is_key_and_value m.fields && nat_eq (length m.definition.proto.extension_range) 0) ≡ true = not-false _ (ap (λ b. b && not (is_key_and_value m.fields && nat_eq (length m.definition.proto.extension_range) 0)) (sym is) ∙ bad) in
    let parts = and_parts (is_key_and_value m.fields) (nat_eq (length m.definition.proto.extension_range) 0) good in
    let none = belonging_none (extended_place (links_of rows)) (0 + T) rows.extensions (λ i d there place. not_extended rows T m d at parts.1 (inside i d there) place) in
    let alone : fields_of_message (links_of rows) rows.extensions (0 + T) m ≡ declared_fields (links_of rows) m.fields ++ [] = ap (λ ds. declared_fields (links_of rows) m.fields ++ map (linked_field (links_of rows) true) ds) none in
    by_fields m.fields refl parts.0 alone
  where
    shown_as : (fields : List (DefinitionRow FieldDescriptorProto)) (l : List FieldRow) → m.fields ≡ fields → fields_of_message (links_of rows) rows.extensions (0 + T) m ≡ declared_fields (links_of rows) m.fields ++ [] → in_order (declared_fields (links_of rows) fields ++ []) ≡ l →
        in_order (fields_of_message (links_of rows) rows.extensions (0 + T) m) ≡ l
    shown_as fields l is alone e = ap in_order alone ∙ (ap (λ ds. in_order (declared_fields (links_of rows) ds ++ [])) is ∙ e)

    two : (a b : DefinitionRow FieldDescriptorProto) → m.fields ≡ a ∷ b ∷ [] → fields_of_message (links_of rows) rows.extensions (0 + T) m ≡ declared_fields (links_of rows) m.fields ++ [] →
        (is_entry_key a && is_entry_value b ≡ true) ⊎ (is_entry_value a && is_entry_key b ≡ true) → EntryFields rows T m
    two a b is alone (inl h) =
        let parts = and_parts (is_entry_key a) (is_entry_value b) h in
        record {
          key = a;
          value = b;
          key_place = 0;
          value_place = 1;
          key_at = ap (λ ds. slice_get ds 0) is;
          value_at = ap (λ ds. slice_get ds 1) is;
          is_key = parts.0;
          is_value = parts.1;
          shown = shown_as (a ∷ b ∷ []) _ is alone (in_front (linked_field (links_of rows) false a) (linked_field (links_of rows) false b) (key_number (links_of rows) a parts.0) (value_number (links_of rows) b parts.1));
        }
    two a b is alone (inr h) =
        let parts = and_parts (is_entry_value a) (is_entry_key b) h in
        record {
          key = b;
          value = a;
          key_place = 1;
          value_place = 0;
          key_at = ap (λ ds. slice_get ds 1) is;
          value_at = ap (λ ds. slice_get ds 0) is;
          is_key = parts.1;
          is_value = parts.0;
          shown = shown_as (a ∷ b ∷ []) _ is alone (turned (linked_field (links_of rows) false b) (linked_field (links_of rows) false a) (key_number (links_of rows) b parts.1) (value_number (links_of rows) a parts.0));
        }

    by_fields : (fields : List (DefinitionRow FieldDescriptorProto)) → m.fields ≡ fields → is_key_and_value fields ≡ true → fields_of_message (links_of rows) rows.extensions (0 + T) m ≡ declared_fields (links_of rows) m.fields ++ [] → EntryFields rows T m
    by_fields (a ∷ b ∷ []) is h alone = two a b is alone (or_cases (is_entry_key a && is_entry_value b) (is_entry_value a && is_entry_key b) h)
    by_fields _ is h alone = absurd cc

pub entry_numbers : (rows : FlatRows) (T : ℕ) (m : FlatMessageRow) → EntryFields rows T m → has_entry_numbers (in_order (fields_of_message (links_of rows) rows.extensions (0 + T) m)) ≡ true
entry_numbers rows T m e = ap has_entry_numbers e.shown ∙ rw (key_number (links_of rows) e.key e.is_key, value_number (links_of rows) e.value e.is_value) refl

-- WHAT THEY SHOW

plain_parts : (d : DefinitionRow FieldDescriptorProto) → is_plain d ≡ true → (faults.has_repeated_label d ≡ false) × (is_some d.proto.default_value ≡ false) × (is_member d ≡ false)
plain_parts d h =
    let member = and_parts (not (faults.has_repeated_label d) && is_none d.proto.default_value) (not (is_member d)) h in
    let one = and_parts (not (faults.has_repeated_label d)) (is_none d.proto.default_value) member.0 in
    (not-true (faults.has_repeated_label d) one.0, none_is d.proto.default_value one.1, not-true (is_member d) member.1)
  where
    none_is : {X : Type 0} (o : Option X) → is_none o ≡ true → is_some o ≡ false
    none_is None h = refl
    none_is (Some x) h = absurd cc

key_plain : (d : DefinitionRow FieldDescriptorProto) → is_entry_key d ≡ true → is_plain d ≡ true
key_plain d h = (and_parts (is_code 1 d.proto.number) (is_plain d) (and_parts (is_code 1 d.proto.number && is_plain d) (is_key_type d.proto.type_) h).0).1

value_plain : (d : DefinitionRow FieldDescriptorProto) → is_entry_value d ≡ true → is_plain d ≡ true
value_plain d h = (and_parts (is_code 2 d.proto.number) (is_plain d) (and_parts (is_code 2 d.proto.number && is_plain d) (not (is_code 10 d.proto.type_)) h).0).1

abbrev KeyCode : List EnumRow → ℕ → ℕ → Bool → ℕ → Type 0
KeyCode es message enum g code = is_key_type (Some (pos code)) ≡ true → is_key_kind (schema_kind es (kind_of_code message enum code) g) ≡ true

each_key : (es : List EnumRow) (message enum : ℕ) (g : Bool) → Below (KeyCode es message enum g) 19
each_key es message enum g = (
  λ h. refl,
  (
    λ h. refl,
    (
      λ h. refl,
      (
        λ h. refl,
        (
          λ h. absurd cc,
          (
            λ h. refl,
            (
              λ h. absurd cc,
              (
                λ h. absurd cc,
                (
                  λ h. absurd cc,
                  (λ h. refl, (λ h. refl, (λ h. refl, (λ h. refl, (λ h. refl, (λ h. refl, (λ h. refl, (λ h. absurd cc, (λ h. absurd cc, (λ h. absurd cc, tt)))))))))),
                ),
              ),
            ),
          ),
        ),
      ),
    ),
  ),
)

key_kind : (rows : FlatRows) (d : DefinitionRow FieldDescriptorProto) → TypeCode d → is_key_type d.proto.type_ ≡ true → is_key_kind (own_kind (linked_rows rows) (linked_field (links_of rows) false d)) ≡ true
unfolding linked_field
key_kind rows d c h =
    let links = links_of rows in
    let g = is_group_code (natural_or_zero d.proto.type_) in
    let es = (linked_rows rows).enums in
    let code : is_key_type (Some (pos c.code)) ≡ true = ap is_key_type (sym c.is) ∙ h in
    ap (λ (t : Option ℤ). is_key_kind (schema_kind es (kind_of_code (place_or_first links.messages d.proto.type_name) (place_or_first links.enums d.proto.type_name) (natural_or_zero t)) g)) c.is
    ∙ below_at (KeyCode es (place_or_first links.messages d.proto.type_name) (place_or_first links.enums d.proto.type_name) g) 19 c.code (each_key es (place_or_first links.messages d.proto.type_name) (place_or_first links.enums d.proto.type_name) g) (omega (arith, c.top)) code

ten : (o : Option ℤ) → is_code 10 o ≡ false → is_group_code (natural_or_zero o) ≡ false
ten None h = refl
ten (Some (pos n)) h = h
ten (Some (negsuc n)) h = refl

pub group_row : (links : Links) (x : Bool) (d : DefinitionRow FieldDescriptorProto) → is_code 10 d.proto.type_ ≡ false → (linked_field links x d).is_group ≡ false
unfolding linked_field
group_row links x d h = ten d.proto.type_ h

pub no_group_row : (rows : FlatRows) (x : Bool) (d : DefinitionRow FieldDescriptorProto) → is_code 10 d.proto.type_ ≡ false → is_group (own_kind (linked_rows rows) (linked_field (links_of rows) x d)) ≡ false
no_group_row rows x d h =
    ap (λ (g : Bool). is_group (schema_kind (linked_rows rows).enums (linked_field (links_of rows) x d).kind g)) (group_row (links_of rows) x d h)
    ∙ no_group (linked_rows rows).enums (linked_field (links_of rows) x d).kind

-- A single field of an entry would be wrong.
single_no_entry : (rows : FlatRows) (d : DefinitionRow FieldDescriptorProto) → wrongly_of_entry rows d ≡ false → faults.has_repeated_label d ≡ false → is_of_entry rows d ≡ false
single_no_entry rows d h one = go (is_of_entry rows d) (faults.has_repeated_label d) h one
  where
    go : (a b : Bool) → (a && not (b && is_code 11 d.proto.type_)) ≡ false → b ≡ false → a ≡ false
    go false b h one = refl
    go true _ h one = absurd cc

pub entry_sound : (rows : FlatRows) (T : ℕ) (m : FlatMessageRow) (e : EntryFields rows T m) → FieldChecked rows e.key → FieldChecked rows e.value → FieldKind rows e.key → FieldKind rows e.value → ((E : ℕ) (x : FlatEnumRow) → slice_get rows.enums E ≡ Some x → EnumChecked x) →
    EntrySound (schema_from (linked_rows rows)) (linked_rows rows) (linked_field (links_of rows) false e.key) (linked_field (links_of rows) false e.value)
entry_sound rows T m e key value key_type value_type enums =
    let links = links_of rows in
    let es = (linked_rows rows).enums in
    let v = linked_field links false e.value in
    let key_is = plain_parts e.key (key_plain e.key e.is_key) in
    let value_is = plain_parts e.value (value_plain e.value e.is_value) in
    let sound = row_sound (schema_from (linked_rows rows)) rows false e.value value value_type (λ h. absurd cc) enums in
    record {
      key_kind = key_kind rows e.key (type_code e.key key.type_there) (and_parts (is_code 1 e.key.proto.number && is_plain e.key) (is_key_type e.key.proto.type_) e.is_key).1;
      key_default = unwritten_default es (linked_field links false e.key) (no_default links false e.key key_is.1);
      value_kind = ap (λ (k : TableKind). kind_valid (schema_from (linked_rows rows)) (schema_kind es k v.is_group)) (kind_row links false e.value) ∙ type_shown_valid rows e.value v.is_group value_type (single_no_entry rows e.value value.entry value_is.0) enums;
      value_valid = sound.default;
      value_default = unwritten_default es v (no_default links false e.value value_is.1);
      value_presence = sound.single (repeated_shown links false e.value ∙ value_is.0);
      value_no_group = no_group_row rows false e.value (not-true (is_code 10 e.value.proto.type_) (and_parts (is_code 2 e.value.proto.number && is_plain e.value) (not (is_code 10 e.value.proto.type_)) e.is_value).1);
    }
