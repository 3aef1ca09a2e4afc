-- Fields of each kind can be read back.
use Rattle.std.specs.Prelude.{◌≡◌, ◌∷◌}
use Rattle.prost_reflect_proto.proofs.Common.{ℕ, Bool, true, ℤ, List, [], map, Option, Some, None, String, string_bytes, Vec, refl, sym, ap, ap₂, ◌∙◌, subst, ⊤, Global, is_utf8, eq-eqb, and_from, are_bytes, I32, Text, in_i32, MessageOf, Content, Value, ScalarValue, MessageValue, ListValue, Values, Item, values_from, values_ordered, present_list, record_schema, type_place, value_type_of, values_gathered, of_text, of_number, of_flag, of_bytes, of_texts, of_numbers, of_records, sound_test, RecordSound, FieldSound, RecordType}
use Rattle.std.proofs.lemmas.Str.{IsUtf8-string_bytes, is_utf8-from_IsUtf8}
use Rattle.prost_reflect_wire.specs.Typing.{values_pass, elements_valid, ValuesTyped}
use Rattle.prost_reflect_types.specs.declared.table.FieldKind.TheVariants as kinds

pub text_valid : (t : String Global) → is_utf8 (string_bytes t) ≡ true
text_valid t = is_utf8-from_IsUtf8 (string_bytes t) (IsUtf8-string_bytes t)

-- ONE VALUE

pub text_sound : (o : Option (String Global)) → FieldSound kinds.Text (of_text o)
unfolding of_text
text_sound None = tt
text_sound (Some t) = record { fits = text_valid t; nonempty = refl; says = refl; passes = refl; types = tt; order = refl; whole = refl }

pub flag_sound : (o : Option Bool) → FieldSound kinds.Flag (of_flag o)
unfolding of_flag
flag_sound None = tt
flag_sound (Some b) = record { fits = refl; nonempty = refl; says = refl; passes = refl; types = tt; order = refl; whole = refl }

number_here : (z : ℤ) → in_i32 z ≡ true → FieldSound kinds.Number (of_number (Some z))
unfolding of_number
number_here z h = record { fits = h; nonempty = refl; says = refl; passes = refl; types = tt; order = refl; whole = refl }

pub number_sound : (o : Option ℤ) (z : ℤ) → o ≡ Some z → in_i32 z ≡ true → FieldSound kinds.Number (of_number o)
number_sound o z is h = subst (λ o. FieldSound kinds.Number (of_number o)) (sym is) (number_here z h)

pub number_absent : (o : Option ℤ) → o ≡ None → FieldSound kinds.Number (of_number o)
unfolding of_number
number_absent o is = subst (λ o. FieldSound kinds.Number (of_number o)) (sym is) tt

raw_here : (b : Vec ℕ Global) → are_bytes b.items ≡ true → FieldSound kinds.Bytes (of_bytes (Some b))
unfolding of_bytes
raw_here b h = record { fits = and_from _ _ h refl; nonempty = refl; says = refl; passes = refl; types = (tt, tt); order = refl; whole = refl }

pub raw_sound : (o : Option (Vec ℕ Global)) (b : Vec ℕ Global) (payload : List ℕ) → o ≡ Some b → payload ≡ b.items → are_bytes payload ≡ true → FieldSound kinds.Bytes (of_bytes o)
raw_sound o b payload is e h = subst (λ o. FieldSound kinds.Bytes (of_bytes o)) (sym is) (raw_here b (ap are_bytes (sym e) ∙ h))

pub raw_absent : (o : Option (Vec ℕ Global)) → o ≡ None → FieldSound kinds.Bytes (of_bytes o)
unfolding of_bytes
raw_absent o is = subst (λ o. FieldSound kinds.Bytes (of_bytes o)) (sym is) tt

-- LISTS

abbrev text_value : String Global → Value
text_value t = ScalarValue (Text (string_bytes t))

pub texts_sound : (texts : Vec (String Global) Global) → FieldSound kinds.Texts (of_texts texts)
unfolding of_texts
texts_sound texts = go texts.items
  where
    fits : (ts : List (String Global)) → elements_valid (value_type_of kinds.Texts).kind (values_from (map text_value ts)) ≡ true
    fits [] = refl
    fits (t ∷ ts) = and_from _ _ (text_valid t) (fits ts)

    passes : (ts : List (String Global)) → values_pass sound_test (values_from (map text_value ts)) ≡ true
    passes [] = refl
    passes (t ∷ ts) = passes ts

    order : (ts : List (String Global)) → values_ordered (values_from (map text_value ts)) ≡ true
    order [] = refl
    order (t ∷ ts) = order ts

    types : (ts : List (String Global)) → ValuesTyped record_schema (Some (value_type_of kinds.Texts).kind) (values_from (map text_value ts))
    types [] = tt
    types (t ∷ ts) = (tt, types ts)

    whole : (ts : List (String Global)) → values_gathered (values_from (map text_value ts)) ≡ values_from (map text_value ts)
    whole [] = refl
    whole (t ∷ ts) = ap (Item (text_value t)) (whole ts)

    go : (ts : List (String Global)) → FieldSound kinds.Texts (present_list (values_from (map text_value ts)))
    go [] = tt
    go (t ∷ ts) = record { fits = fits (t ∷ ts); nonempty = refl; says = refl; passes = passes (t ∷ ts); types = types (t ∷ ts); order = order (t ∷ ts); whole = ap ListValue (whole (t ∷ ts)) }

abbrev number_value : ℤ → Value
number_value z = ScalarValue (I32 z)

abbrev pub InRange : List ℤ → Type 0
InRange [] = ⊤
InRange (z ∷ zs) = (in_i32 z ≡ true) × InRange zs

pub numbers_sound : (numbers : Vec ℤ Global) → InRange numbers.items → FieldSound kinds.Numbers (of_numbers numbers)
unfolding of_numbers
numbers_sound numbers = go numbers.items
  where
    fits : (ts : List ℤ) → InRange ts → elements_valid (value_type_of kinds.Numbers).kind (values_from (map number_value ts)) ≡ true
    fits [] h = refl
    fits (t ∷ ts) h = and_from _ _ h.0 (fits ts h.1)

    passes : (ts : List ℤ) → values_pass sound_test (values_from (map number_value ts)) ≡ true
    passes [] = refl
    passes (t ∷ ts) = passes ts

    order : (ts : List ℤ) → values_ordered (values_from (map number_value ts)) ≡ true
    order [] = refl
    order (t ∷ ts) = order ts

    types : (ts : List ℤ) → ValuesTyped record_schema (Some (value_type_of kinds.Numbers).kind) (values_from (map number_value ts))
    types [] = tt
    types (t ∷ ts) = (tt, types ts)

    whole : (ts : List ℤ) → values_gathered (values_from (map number_value ts)) ≡ values_from (map number_value ts)
    whole [] = refl
    whole (t ∷ ts) = ap (Item (number_value t)) (whole ts)

    go : (ts : List ℤ) → InRange ts → FieldSound kinds.Numbers (present_list (values_from (map number_value ts)))
    go [] h = tt
    go (t ∷ ts) h = record { fits = fits (t ∷ ts) h; nonempty = refl; says = refl; passes = passes (t ∷ ts); types = types (t ∷ ts); order = order (t ∷ ts); whole = ap ListValue (whole (t ∷ ts)) }

abbrev pub AllSound : RecordType → List Content → Type 0
AllSound t [] = ⊤
AllSound t (c ∷ cs) = RecordSound t c × AllSound t cs

pub records_sound : (t : RecordType) (cs : List Content) → AllSound t cs → FieldSound (kinds.Records t) (of_records cs)
unfolding of_records
records_sound t = go
  where
    fits : (cs : List Content) → elements_valid (MessageOf (type_place t)) (values_from (map MessageValue cs)) ≡ true
    fits [] = refl
    fits (c ∷ cs) = fits cs

    passes : (cs : List Content) → AllSound t cs → values_pass sound_test (values_from (map MessageValue cs)) ≡ true
    passes [] h = refl
    passes (c ∷ cs) h = and_from _ _ h.0.passes (passes cs h.1)

    order : (cs : List Content) → AllSound t cs → values_ordered (values_from (map MessageValue cs)) ≡ true
    order [] h = refl
    order (c ∷ cs) h = and_from _ _ h.0.order (order cs h.1)

    types : (cs : List Content) → AllSound t cs → ValuesTyped record_schema (Some (MessageOf (type_place t))) (values_from (map MessageValue cs))
    types [] h = tt
    types (c ∷ cs) h = (((h.0.own_schema, eq-eqb _ _ h.0.own_type), h.0.types), types cs h.1)

    whole : (cs : List Content) → AllSound t cs → values_gathered (values_from (map MessageValue cs)) ≡ values_from (map MessageValue cs)
    whole [] h = refl
    whole (c ∷ cs) h = ap₂ (λ (c : Content) (vs : Values). Item (MessageValue c) vs) h.0.whole (whole cs h.1)

    go : (cs : List Content) → AllSound t cs → FieldSound (kinds.Records t) (present_list (values_from (map MessageValue cs)))
    go [] h = tt
    go (c ∷ cs) h = record { fits = fits (c ∷ cs); nonempty = refl; says = refl; passes = passes (c ∷ cs) h; types = types (c ∷ cs) h; order = order (c ∷ cs) h; whole = ap ListValue (whole (c ∷ cs) h) }
