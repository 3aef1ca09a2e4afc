-- Tests that decide equality. For tests of equality alone.
use Rattle.std.specs.Prelude.{◌≡◌, ℕ, Bool, true, false, nat_eq, List, Option, Some, None, refl}
use Rattle.std.specs.Bool.{Decides}
use Rattle.std.specs.Option.{option_eq}
use Rattle.std.specs.Ordering.{nat_cmp, eq_by_cmp}
use Rattle.std.specs.Cmp.{IsEquivalence, both_ways, unsigned_Decides, signed_Decides, unsigned_ties}
use Rattle.std.specs.Cmp.Lexicographic.{pointwise, slice_cmp, texts_ties}
use Rattle.std.proofs.Common.{sym, ap, ◌∙◌, true≢false}
use Rattle.std.proofs.lemmas.Slice.Eq.{slice_eq-Decides}
use Rattle.prost_reflect_wire.specs.Scalar.{Scalar, Boolean, I32, I64, U32, U64, F32, F64, Text, Bytes, EnumNumber, scalar_eq}

-- A test that holds of equals alone, and of each value and itself.
pub decided : {K : Type 0} (E : K → K → Bool) → ((x y : K) → E x y ≡ true → x ≡ y) → ((x : K) → E x x ≡ true)
    → (x y : K)
    → Decides (E x y) (x ≡ y)
decided {K} E same itself x y = (same x y, λ e. ap (λ (z : K). E z y) e ∙ itself y)

-- A test that decides equality is an equivalence.
pub equivalence : {K : Type 0} (E : K → K → Bool) → ((x y : K) → Decides (E x y) (x ≡ y)) → IsEquivalence E
equivalence {K} E decides = record {
  refl = λ x. (decides x x).1 refl;
  symm = λ x y. both_ways (E x y) (E y x) (λ h. (decides y x).1 (sym ((decides x y).0 h))) (λ h. (decides x y).1 (sym ((decides y x).0 h)));
  congr = λ x y z h. ap (λ (w : K). E w z) ((decides x y).0 h);
}

-- LISTS AND OPTIONS

pub list_decides : {A : Type 0} {E : A → A → Bool} → ((a b : A) → Decides (E a b) (a ≡ b)) → (xs ys : List A)
    → Decides (pointwise E xs ys) (xs ≡ ys)
list_decides {E} each xs ys = slice_eq-Decides each xs ys (pointwise E xs ys) refl

pub option_decides : {A : Type 0} {E : A → A → Bool} → ((a b : A) → Decides (E a b) (a ≡ b)) → (o p : Option A)
    → Decides (option_eq E o p) (o ≡ p)
option_decides {A} {E} each = decided (option_eq E) same itself
  where
    same : (o p : Option A) → option_eq E o p ≡ true → o ≡ p
    same None None h = refl
    same (Some a) (Some b) h = ap Some ((each a b).0 h)
    same o p h = absurd (true≢false (sym h))

    itself : (o : Option A) → option_eq E o o ≡ true
    itself None = refl
    itself (Some a) = (each a a).1 refl

pub text_decides : (xs ys : List ℕ) → Decides (pointwise nat_eq xs ys) (xs ≡ ys)
text_decides = list_decides unsigned_Decides

-- SCALARS

number_same : (a b : ℕ) → eq_by_cmp nat_cmp a b ≡ true → a ≡ b
number_same a b h = (unsigned_Decides a b).0 (unsigned_ties a b ∙ h)

number_itself : (a : ℕ) → eq_by_cmp nat_cmp a a ≡ true
number_itself a = sym (unsigned_ties a a) ∙ (unsigned_Decides a a).1 refl

text_same : (x y : List ℕ) → eq_by_cmp (slice_cmp nat_cmp) x y ≡ true → x ≡ y
text_same x y h = (text_decides x y).0 (texts_ties x y ∙ h)

text_itself : (x : List ℕ) → eq_by_cmp (slice_cmp nat_cmp) x x ≡ true
text_itself x = sym (texts_ties x x) ∙ (text_decides x x).1 refl

scalar_same : (a b : Scalar) → scalar_eq a b ≡ true → a ≡ b
scalar_same (Boolean true) (Boolean true) h = refl
scalar_same (Boolean false) (Boolean false) h = refl
scalar_same (I32 a) (I32 b) h = ap I32 ((signed_Decides a b).0 h)
scalar_same (I64 a) (I64 b) h = ap I64 ((signed_Decides a b).0 h)
scalar_same (U32 a) (U32 b) h = ap U32 (number_same a b h)
scalar_same (U64 a) (U64 b) h = ap U64 (number_same a b h)
scalar_same (F32 a) (F32 b) h = ap F32 (number_same a b h)
scalar_same (F64 a) (F64 b) h = ap F64 (number_same a b h)
scalar_same (Text x) (Text y) h = ap Text (text_same x y h)
scalar_same (Bytes x) (Bytes y) h = ap Bytes (text_same x y h)
scalar_same (EnumNumber a) (EnumNumber b) h = ap EnumNumber ((signed_Decides a b).0 h)
scalar_same a b h = absurd (true≢false (sym h))

scalar_itself : (a : Scalar) → scalar_eq a a ≡ true
scalar_itself (Boolean true) = refl
scalar_itself (Boolean false) = refl
scalar_itself (I32 a) = (signed_Decides a a).1 refl
scalar_itself (I64 a) = (signed_Decides a a).1 refl
scalar_itself (U32 a) = number_itself a
scalar_itself (U64 a) = number_itself a
scalar_itself (F32 a) = number_itself a
scalar_itself (F64 a) = number_itself a
scalar_itself (Text x) = text_itself x
scalar_itself (Bytes x) = text_itself x
scalar_itself (EnumNumber a) = (signed_Decides a a).1 refl

pub scalar_decides : (a b : Scalar) → Decides (scalar_eq a b) (a ≡ b)
scalar_decides = decided scalar_eq scalar_same scalar_itself
