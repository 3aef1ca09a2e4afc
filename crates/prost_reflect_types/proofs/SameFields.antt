-- When two fields of a kind hold the same, as their copies do.
use Rattle.std.specs.Prelude.{◌≡◌, ◌↔◌, ◌<◌, ◌≤◌, ◌∷◌}
use Rattle.prost_reflect_types.proofs.Common.{ℕ, zero, suc, Bool, ℤ, List, [], map, take, length, get_or, Option, Some, None, String, string_bytes, Vec, Result, Ok, Err, IfOk, IsTrue, nat_eq, option_map, refl, sym, ap, ap₂, ◌∙◌, arith, true≢false, Global, AllZip, option_eq, take_all, and_parts, and_from, Boolean, I32, Text, Bytes, Content, Value, ScalarValue, MessageValue, ListValue, NoValues, Item, values_from, present_list, of_text, of_number, of_flag, of_bytes, of_texts, of_numbers, of_records}
use Rattle.std.specs.Ordering.{int_eq}
use Rattle.std.specs.Result.{MatchResult}
use Rattle.std.specs.String.{string_eq}
use Rattle.std.specs.Cmp.Lexicographic.{pointwise, same_text}
use Rattle.std.specs.Cmp.{signed_Decides, booleans_Decides}
use Rattle.std.proofs.Math.Bool.{beq}
use Rattle.std.proofs.lemmas.Cmp.{nat_list_eq_equiv}

-- OPTIONS AND LISTS

options_agree : {A : Type 0} (E : A → A → Bool) (view : A → Value) → ((x y : A) → IsTrue (E x y) ↔ (view x ≡ view y)) → (a b : Option A) (r : Bool) → r ≡ option_eq E a b → IsTrue r ↔ (option_map view a ≡ option_map view b)
options_agree E view each None None r is = (λ _. refl, λ _. is)
options_agree E view each None (Some y) r is = (λ yes. absurd (true≢false (sym yes ∙ is)), λ e. cc)
options_agree E view each (Some x) None r is = (λ yes. absurd (true≢false (sym yes ∙ is)), λ e. cc)
options_agree E view each (Some x) (Some y) r is = (λ yes. ap Some ((each x y).0 (sym is ∙ yes)), λ e. let h : view x ≡ view y = cc in is ∙ (each x y).1 h)

pointwise_agree : {A : Type 0} (E : A → A → Bool) (view : A → Value) → ((x y : A) → IsTrue (E x y) ↔ (view x ≡ view y)) → (xs ys : List A) → IsTrue (pointwise E xs ys) ↔ (map view xs ≡ map view ys)
pointwise_agree E view each [] [] = (λ _. refl, λ _. refl)
pointwise_agree E view each [] (y ∷ ys) = (λ yes. absurd (true≢false (sym yes)), λ e. cc)
pointwise_agree E view each (x ∷ xs) [] = (λ yes. absurd (true≢false (sym yes)), λ e. cc)
pointwise_agree E view each (x ∷ xs) (y ∷ ys) = (
  λ yes. let (a, b) = and_parts (E x y) (pointwise E xs ys) yes in ap₂ (λ (v : Value) (vs : List Value). v ∷ vs) ((each x y).0 a) ((pointwise_agree E view each xs ys).0 b),
  λ e. let h : view x ≡ view y = cc in let t : map view xs ≡ map view ys = cc in and_from _ _ ((each x y).1 h) ((pointwise_agree E view each xs ys).1 t),
)

values_same : (vs ws : List Value) → values_from vs ≡ values_from ws → vs ≡ ws
values_same [] [] e = refl
values_same [] (w ∷ ws) e = cc
values_same (v ∷ vs) [] e = cc
values_same (v ∷ vs) (w ∷ ws) e = let h : v ≡ w = cc in let t : values_from vs ≡ values_from ws = cc in ap₂ (λ (v : Value) (vs : List Value). v ∷ vs) h (values_same vs ws t)

pub listed_same : (vs ws : List Value) → present_list (values_from vs) ≡ present_list (values_from ws) → vs ≡ ws
listed_same [] [] e = refl
listed_same [] (w ∷ ws) e = cc
listed_same (v ∷ vs) [] e = cc
listed_same (v ∷ vs) (w ∷ ws) e = let h : values_from (v ∷ vs) ≡ values_from (w ∷ ws) = cc in values_same (v ∷ vs) (w ∷ ws) h

lists_agree : {A : Type 0} (E : A → A → Bool) (view : A → Value) → ((x y : A) → IsTrue (E x y) ↔ (view x ≡ view y)) → (xs ys : List A) (r : Bool) → r ≡ pointwise E xs ys → IsTrue r ↔ (present_list (values_from (map view xs)) ≡ present_list (values_from (map view ys)))
lists_agree E view each xs ys r is = (
  λ yes. ap (λ (vs : List Value). present_list (values_from vs)) ((pointwise_agree E view each xs ys).0 (sym is ∙ yes)),
  λ e. is ∙ (pointwise_agree E view each xs ys).1 (listed_same (map view xs) (map view ys) e),
)

-- FIELDS

bytes_agree : (x y : List ℕ) → IsTrue (pointwise nat_eq x y) ↔ (x ≡ y)
bytes_agree x y = (λ yes. same_text x y (sym yes), λ e. ap (λ (l : List ℕ). pointwise nat_eq x l) (sym e) ∙ nat_list_eq_equiv.refl x)

text_agrees : (x y : String Global) → IsTrue (string_eq x y) ↔ (ScalarValue (Text (string_bytes x)) ≡ ScalarValue (Text (string_bytes y)))
text_agrees x y = (λ yes. ap (λ (l : List ℕ). ScalarValue (Text l)) ((bytes_agree (string_bytes x) (string_bytes y)).0 yes), λ e. let h : string_bytes x ≡ string_bytes y = cc in (bytes_agree (string_bytes x) (string_bytes y)).1 h)

number_agrees : (x y : ℤ) → IsTrue (int_eq x y) ↔ (ScalarValue (I32 x) ≡ ScalarValue (I32 y))
number_agrees x y = (λ yes. ap (λ z. ScalarValue (I32 z)) ((signed_Decides x y).0 yes), λ e. let h : x ≡ y = cc in (signed_Decides x y).1 h)

pub texts_decided : (a b : Option (String Global)) (r : Bool) → r ≡ option_eq string_eq a b → IsTrue r ↔ (of_text a ≡ of_text b)
unfolding of_text
texts_decided a b r is = options_agree string_eq (λ t. ScalarValue (Text (string_bytes t))) text_agrees a b r is

pub number_decided : (a b : Option ℤ) (r : Bool) → r ≡ option_eq int_eq a b → IsTrue r ↔ (of_number a ≡ of_number b)
unfolding of_number
number_decided a b r is = options_agree int_eq (λ z. ScalarValue (I32 z)) number_agrees a b r is

pub flag_decided : (a b : Option Bool) (r : Bool) → r ≡ option_eq beq a b → IsTrue r ↔ (of_flag a ≡ of_flag b)
unfolding of_flag
flag_decided a b r is = options_agree beq (λ b. ScalarValue (Boolean b)) (λ x y. (λ yes. ap (λ b. ScalarValue (Boolean b)) ((booleans_Decides x y).0 yes), λ e. let h : x ≡ y = cc in (booleans_Decides x y).1 h)) a b r is

pub raw_decided : (a b : Option (Vec ℕ Global)) (r : Bool) → r ≡ option_eq (λ x y. pointwise nat_eq x.items y.items) a b → IsTrue r ↔ (of_bytes a ≡ of_bytes b)
unfolding of_bytes
raw_decided a b r is = options_agree (λ x y. pointwise nat_eq x.items y.items) (λ b. ListValue (Item (ScalarValue (Bytes b.items)) NoValues))
    (λ x y. (λ yes. ap (λ (l : List ℕ). ListValue (Item (ScalarValue (Bytes l)) NoValues)) ((bytes_agree x.items y.items).0 yes), λ e. let h : x.items ≡ y.items = cc in (bytes_agree x.items y.items).1 h)) a b r is

pub text_list_decided : (a b : Vec (String Global) Global) (r : Bool) → r ≡ pointwise string_eq a.items b.items → IsTrue r ↔ (of_texts a ≡ of_texts b)
unfolding of_texts
text_list_decided a b r is = lists_agree string_eq (λ t. ScalarValue (Text (string_bytes t))) text_agrees a.items b.items r is

pub number_list_decided : (a b : Vec ℤ Global) (r : Bool) → r ≡ pointwise int_eq a.items b.items → IsTrue r ↔ (of_numbers a ≡ of_numbers b)
unfolding of_numbers
number_list_decided a b r is = lists_agree int_eq (λ z. ScalarValue (I32 z)) number_agrees a.items b.items r is

-- RECORDS

contents_same : (xs ys : List Content) → map MessageValue xs ≡ map MessageValue ys → xs ≡ ys
contents_same [] [] e = refl
contents_same [] (y ∷ ys) e = cc
contents_same (x ∷ xs) [] e = cc
contents_same (x ∷ xs) (y ∷ ys) e = let h : x ≡ y = cc in let t : map MessageValue xs ≡ map MessageValue ys = cc in ap₂ (λ (c : Content) (cs : List Content). c ∷ cs) h (contents_same xs ys t)

pub records_same : (xs ys : List Content) → of_records xs ≡ of_records ys → xs ≡ ys
unfolding of_records
records_same xs ys e = contents_same xs ys (listed_same (map MessageValue xs) (map MessageValue ys) e)

length_same : {E : Type 0} (f : E → Content) (xs ys : List E) → map f xs ≡ map f ys → length xs ≡ length ys
length_same f [] [] e = refl
length_same f [] (y ∷ ys) e = cc
length_same f (x ∷ xs) [] e = cc
length_same f (x ∷ xs) (y ∷ ys) e = let t : map f xs ≡ map f ys = cc in ap suc (length_same f xs ys t)

element_same : {E : Type 0} (f : E → Content) (xs ys : List E) (i : ℕ) (x y : E) → i < length xs → i < length ys → x ≡ get_or xs i x → y ≡ get_or ys i y → map f xs ≡ map f ys → f x ≡ f y
element_same f [] ys i x y l m isx isy e = absurd (omega arith)
element_same f (v ∷ xs) [] i x y l m isx isy e = absurd (omega arith)
element_same f (v ∷ xs) (w ∷ ys) zero x y l m isx isy e = let h : f v ≡ f w = cc in ap f isx ∙ h ∙ ap f (sym isy)
element_same f (v ∷ xs) (w ∷ ys) (suc i) x y l m isx isy e = let t : map f xs ≡ map f ys = cc in element_same f xs ys i x y (omega arith) (omega arith) isx isy t

-- lists of different lengths, or with different elements at a place, differ
pub lengths_apart : {E : Type 0} (f : E → Content) (xs ys : List E) → (length xs ≡ length ys → ⊥) → of_records (map f xs) ≡ of_records (map f ys) → ⊥
lengths_apart f xs ys other e = other (length_same f xs ys (records_same (map f xs) (map f ys) e))

pub elements_apart : {E : Type 0} (f : E → Content) (xs ys : List E) (i : ℕ) (x y : E) → i < length xs → i < length ys → x ≡ get_or xs i x → y ≡ get_or ys i y → (f x ≡ f y → ⊥) → of_records (map f xs) ≡ of_records (map f ys) → ⊥
elements_apart f xs ys i x y l m isx isy other e = other (element_same f xs ys i x y l m isx isy (records_same (map f xs) (map f ys) e))

-- COPIES

zip_views : {A : Type 0} (R : A → A → Type 0) (view : A → Value) (xs ys : List A) → ((x y : A) → R x y → view y ≡ view x) → AllZip R xs ys → map view ys ≡ map view xs
zip_views R view [] [] each z = refl
zip_views R view [] (y ∷ ys) each z = absurd z
zip_views R view (x ∷ xs) [] each z = absurd z
zip_views R view (x ∷ xs) (y ∷ ys) each z = ap₂ (λ (v : Value) (vs : List Value). v ∷ vs) (each x y z.0) (zip_views R view xs ys each z.1)

pub texts_copied : (R : String Global → String Global → Type 0) (a b : Vec (String Global) Global) → ((x y : String Global) → R x y → string_bytes y ≡ string_bytes x) → AllZip R a.items b.items → of_texts b ≡ of_texts a
unfolding of_texts
texts_copied R a b each z = ap (λ (vs : List Value). present_list (values_from vs)) (zip_views R (λ t. ScalarValue (Text (string_bytes t))) a.items b.items (λ x y h. ap (λ (l : List ℕ). ScalarValue (Text l)) (each x y h)) z)

pub numbers_copied : (R : ℤ → ℤ → Type 0) (a b : Vec ℤ Global) → ((x y : ℤ) → R x y → y ≡ x) → AllZip R a.items b.items → of_numbers b ≡ of_numbers a
unfolding of_numbers
numbers_copied R a b each z = ap (λ (vs : List Value). present_list (values_from vs)) (zip_views R (λ z. ScalarValue (I32 z)) a.items b.items (λ x y h. ap (λ z. ScalarValue (I32 z)) (each x y h)) z)

pub text_copied : (o : Option (String Global)) (a b : String Global) → o ≡ Some a → string_bytes b ≡ string_bytes a → of_text (Some b) ≡ of_text o
unfolding of_text
text_copied o a b is e = ap (λ (l : List ℕ). Some (ScalarValue (Text l))) e ∙ ap of_text (sym is)

pub raw_copied : (o : Option (Vec ℕ Global)) (a b : Vec ℕ Global) → o ≡ Some a → b.items ≡ a.items → of_bytes (Some b) ≡ of_bytes o
unfolding of_bytes
raw_copied o a b is e = ap (λ (l : List ℕ). Some (ListValue (Item (ScalarValue (Bytes l)) NoValues))) e ∙ ap of_bytes (sym is)

pub records_whole : {E : Type 0} (f : E → Content) (xs ys : List E) (n : ℕ) → length xs ≤ n → length ys ≤ n → map f (take n xs) ≡ map f (take n ys) → of_records (map f xs) ≡ of_records (map f ys)
records_whole {E} f xs ys n l m e = ap of_records (ap (λ (zs : List E). map f zs) (sym (take_all n xs l)) ∙ e ∙ ap (λ (zs : List E). map f zs) (take_all n ys m))

pub if_copied : {T : Type 0} {E : Type 0} (r : Result T E) (P G : T → Type 0) (Q : E → Type 0) → MatchResult r P Q → ((w : T) → P w → G w) → IfOk r G
if_copied (Ok w) P G Q h each = each w h
if_copied (Err e) P G Q h each = tt
