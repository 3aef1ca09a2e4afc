-- What is written of a field of each kind.
use Rattle.std.specs.Prelude.{◌≡◌, ◌∷◌, ◌++◌}
use Rattle.prost_reflect_proto.proofs.Common.{ℕ, Bool, false, cond, ℤ, List, [], map, Option, Some, None, String, string_bytes, Vec, refl, sym, ap, ◌∙◌, subst, Global, w64, cast_unsigned, Flat, Len, Var, record_at, spelled, I32, Text, FieldForm, Repeated, Content, Value, ScalarValue, MessageValue, values_from, present_list, element_payloads, list_payloads, form_of, value_type_of, of_text, of_number, of_flag, of_bytes, of_texts, of_numbers, of_records, field_bytes, Adds, FieldKind, RecordType}
use Rattle.prost_reflect_types.specs.declared.table.FieldKind.TheVariants as kinds

-- STEPS

module _ {A : Type 0} (added : A → A → List ℕ → Type 0) where
  pub adds_same : (old new : A) (f h : List ℕ) → f ≡ h → Adds added old new f → Adds added old new h
  adds_same old new f h e a = λ start done s. subst (λ (l : List ℕ). added start new (l ++ done)) e (a start done s)

  pub adds_none : (old : A) (f : List ℕ) → f ≡ [] → Adds added old old f
  adds_none old f e = λ start done s. subst (λ (l : List ℕ). added start old (l ++ done)) (sym e) s

-- ONE VALUE

pub text_bytes : (n : ℕ) (o : Option (String Global)) (t : String Global) (payload : List ℕ) → o ≡ Some t → payload ≡ string_bytes t → spelled (record_at n (Flat (Len payload)) ∷ []) ≡ field_bytes n kinds.Text (of_text o)
unfolding field_bytes of_text
text_bytes n o t payload is e = ap (λ (l : List ℕ). spelled (record_at n (Flat (Len l)) ∷ [])) e ∙ ap (λ o. field_bytes n kinds.Text (of_text o)) (sym is)

pub no_text : (n : ℕ) (o : Option (String Global)) → o ≡ None → field_bytes n kinds.Text (of_text o) ≡ []
unfolding field_bytes of_text
no_text n o is = ap (λ o. field_bytes n kinds.Text (of_text o)) is

pub number_bytes : (n : ℕ) (o : Option ℤ) (z : ℤ) (v : ℕ) → o ≡ Some z → v ≡ cast_unsigned w64 z → spelled (record_at n (Flat (Var v)) ∷ []) ≡ field_bytes n kinds.Number (of_number o)
unfolding field_bytes of_number
number_bytes n o z v is e = ap (λ v. spelled (record_at n (Flat (Var v)) ∷ [])) e ∙ ap (λ o. field_bytes n kinds.Number (of_number o)) (sym is)

pub no_number : (n : ℕ) (o : Option ℤ) → o ≡ None → field_bytes n kinds.Number (of_number o) ≡ []
unfolding field_bytes of_number
no_number n o is = ap (λ o. field_bytes n kinds.Number (of_number o)) is

pub flag_bytes : (n : ℕ) (o : Option Bool) (b : Bool) (v : ℕ) → o ≡ Some b → v ≡ cond b 1 0 → spelled (record_at n (Flat (Var v)) ∷ []) ≡ field_bytes n kinds.Flag (of_flag o)
unfolding field_bytes of_flag
flag_bytes n o b v is e = ap (λ v. spelled (record_at n (Flat (Var v)) ∷ [])) e ∙ ap (λ o. field_bytes n kinds.Flag (of_flag o)) (sym is)

pub no_flag : (n : ℕ) (o : Option Bool) → o ≡ None → field_bytes n kinds.Flag (of_flag o) ≡ []
unfolding field_bytes of_flag
no_flag n o is = ap (λ o. field_bytes n kinds.Flag (of_flag o)) is

pub raw_bytes : (n : ℕ) (o : Option (Vec ℕ Global)) (b : Vec ℕ Global) (payload : List ℕ) → o ≡ Some b → payload ≡ b.items → spelled (record_at n (Flat (Len payload)) ∷ []) ≡ field_bytes n kinds.Bytes (of_bytes o)
unfolding field_bytes of_bytes
raw_bytes n o b payload is e = ap (λ (l : List ℕ). spelled (record_at n (Flat (Len l)) ∷ [])) e ∙ ap (λ o. field_bytes n kinds.Bytes (of_bytes o)) (sym is)

pub no_bytes : (n : ℕ) (o : Option (Vec ℕ Global)) → o ≡ None → field_bytes n kinds.Bytes (of_bytes o) ≡ []
unfolding field_bytes of_bytes
no_bytes n o is = ap (λ o. field_bytes n kinds.Bytes (of_bytes o)) is

-- LISTS

abbrev pub list_bytes : ℕ → FieldKind → List Value → List ℕ
list_bytes n kind vs = spelled (map (record_at n) (element_payloads (value_type_of kind).kind (values_from vs)))

list_field : (n : ℕ) (kind : FieldKind) (vs : List Value) → form_of kind ≡ Repeated false → list_bytes n kind vs ≡ field_bytes n kind (present_list (values_from vs))
unfolding field_bytes
list_field n kind [] e = refl
list_field n kind (v ∷ vs) e = ap (λ (form : FieldForm). spelled (map (record_at n) (list_payloads form (element_payloads (value_type_of kind).kind (values_from (v ∷ vs)))))) (sym e)

pub texts_field : (n : ℕ) (texts : Vec (String Global) Global) → list_bytes n kinds.Texts (map (λ t. ScalarValue (Text (string_bytes t))) texts.items) ≡ field_bytes n kinds.Texts (of_texts texts)
unfolding of_texts
texts_field n texts = list_field n kinds.Texts (map (λ t. ScalarValue (Text (string_bytes t))) texts.items) refl

pub numbers_field : (n : ℕ) (numbers : Vec ℤ Global) → list_bytes n kinds.Numbers (map (λ z. ScalarValue (I32 z)) numbers.items) ≡ field_bytes n kinds.Numbers (of_numbers numbers)
unfolding of_numbers
numbers_field n numbers = list_field n kinds.Numbers (map (λ z. ScalarValue (I32 z)) numbers.items) refl

map_twice : {E : Type 0} (f : E → Content) (items : List E) → map (λ x. MessageValue (f x)) items ≡ map MessageValue (map f items)
map_twice f [] = refl
map_twice f (x ∷ items) = ap (λ (vs : List Value). MessageValue (f x) ∷ vs) (map_twice f items)

pub records_field : {E : Type 0} (n : ℕ) (t : RecordType) (f : E → Content) (items : List E) → list_bytes n (kinds.Records t) (map (λ x. MessageValue (f x)) items) ≡ field_bytes n (kinds.Records t) (of_records (map f items))
unfolding of_records
records_field n t f items = ap (list_bytes n (kinds.Records t)) (map_twice f items) ∙ list_field n (kinds.Records t) (map MessageValue (map f items)) refl
