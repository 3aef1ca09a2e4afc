-- A default that a text gives is a value of its kind.
use Rattle.std.specs.Prelude.{◌≡◌, ◌+◌, ◌-◌, ◌*◌, ◌/◌, ◌^◌, ◌<◌, ◌≤◌, ◌||◌, ◌∷◌}
use Rattle.prost_reflect_tables.proofs.Common.{ℕ, zero, suc, ℤ, pos, negsuc, neg_ℤ, Bool, true, false, cond, List, [], map, length, Option, Some, None, option_map, option_and_then, refl, sym, ap, subst, arith, find, bytes_eq, codes, nat_eq, nat_le, nat_lt, list_any, list_all, int_eq, and_from, and_parts, or_left, or_right, leb-true, leb-false, lt-ltb, ltb-true, Decides-int_eq, in_i32, in_i64, up_to, whole_number, signed, is_negative, greatest_exponent, bits_at, whole_bits, magnitude_bits, float_bits, FloatFormat, binary32, binary64, Front, front, is_octal, octal_digit, octal, letter, escaped, front_byte, unescaped_in, unescaped, number_named, are_bytes, EnumValueDescriptorProto, text_or_empty, EnumValueRow, DefinitionRow, value_number, linked_value}
use Rattle.std.proofs.lemmas.Nat.{pow_pos, div_below}
use Rattle.std.proofs.Math.Nat.{pow-succ', mul-lt-mul_of_pos_right, mul-le-mul_right, mul_comm}
use Rattle.prost_reflect_tables.specs.WrittenDefaults.{behind}

-- WHOLE NUMBERS

pub up_to_limit : (limit : ℕ) (o : Option ℕ) (n : ℕ) → up_to limit o ≡ Some n → n ≤ limit
up_to_limit limit None n e = cc
up_to_limit limit (Some k) n e = go (nat_le k limit) refl e
  where
    go : (b : Bool) → nat_le k limit ≡ b → cond b (Some k) None ≡ Some n → n ≤ limit
    go true is e = let same : k ≡ n = cc in omega (arith, leb-true k limit is)
    go false is e = cc

-- From -limit to limit - 1.
pub Within : ℕ → ℤ → Type 0
Within limit (pos n) = n < limit
Within limit (negsuc n) = n < limit

negated : (limit n : ℕ) → 0 < limit → n ≤ limit → Within limit (neg_ℤ (pos n))
unfolding Within
negated limit zero some le = some
negated limit (suc n) some le = omega arith

signed_within : (limit : ℕ) (text : List ℕ) (z : ℤ) → 0 < limit → signed limit text ≡ Some z → Within limit z
unfolding Within
signed_within limit text z some e = go (is_negative text) e
  where
    below : (o : Option ℕ) → up_to limit (whole_number (behind text)) ≡ o → option_map (λ n. neg_ℤ (pos n)) o ≡ Some z → Within limit z
    below None is e = cc
    below (Some n) is e = let same : neg_ℤ (pos n) ≡ z = cc in subst (Within limit) same (negated limit n some (up_to_limit limit (whole_number (behind text)) n is))

    above : (o : Option ℕ) → up_to (limit - 1) (whole_number text) ≡ o → option_map pos o ≡ Some z → Within limit z
    above None is e = cc
    above (Some n) is e =
        let same : pos n ≡ z = cc in
        let le = up_to_limit (limit - 1) (whole_number text) n is in
        let less : n < limit = omega arith in
        subst (Within limit) same less

    go : (b : Bool) → cond b (option_map (λ n. neg_ℤ (pos n)) (up_to limit (whole_number (behind text)))) (option_map pos (up_to (limit - 1) (whole_number text))) ≡ Some z → Within limit z
    go true e = below (up_to limit (whole_number (behind text))) refl e
    go false e = above (up_to (limit - 1) (whole_number text)) refl e

pub signed_i32 : (text : List ℕ) (z : ℤ) → signed (2 ^ 31) text ≡ Some z → in_i32 z ≡ true
unfolding Within
signed_i32 text z e = go z (signed_within (2 ^ 31) text z (omega arith) e)
  where
    go : (z : ℤ) → Within (2 ^ 31) z → in_i32 z ≡ true
    go (pos n) h = lt-ltb n (2 ^ 31) h
    go (negsuc n) h = lt-ltb n (2 ^ 31) h

pub signed_i64 : (text : List ℕ) (z : ℤ) → signed (2 ^ 63) text ≡ Some z → in_i64 z ≡ true
unfolding Within
signed_i64 text z e = go z (signed_within (2 ^ 63) text z (omega arith) e)
  where
    go : (z : ℤ) → Within (2 ^ 63) z → in_i64 z ≡ true
    go (pos n) h = lt-ltb n (2 ^ 63) h
    go (negsuc n) h = lt-ltb n (2 ^ 63) h

-- FLOATING-POINT NUMBERS

greatest_top : (limit n : ℕ) → greatest_exponent limit n ≤ limit
unfolding greatest_exponent
greatest_top zero n = omega arith
greatest_top (suc e) n = go (nat_le (2 ^ (suc e)) n) (greatest_top e n)
  where
    go : (b : Bool) → greatest_exponent e n ≤ e → cond b (suc e) (greatest_exponent e n) ≤ suc e
    go true le = omega arith
    go false le = omega arith

greatest_above : (limit n : ℕ) → n < 2 * 2 ^ limit → n < 2 * 2 ^ (greatest_exponent limit n)
unfolding greatest_exponent
greatest_above zero n h = h
greatest_above (suc e) n h = go (nat_le (2 ^ (suc e)) n) refl (greatest_above e n)
  where
    go : (b : Bool) → nat_le (2 ^ (suc e)) n ≡ b → (n < 2 * 2 ^ e → n < 2 * 2 ^ (greatest_exponent e n)) → n < 2 * 2 ^ (cond b (suc e) (greatest_exponent e n))
    go true is more = h
    go false is more = let less : n < 2 ^ (suc e) = leb-false (2 ^ (suc e)) n is in more (omega (arith, pow-succ' 2 e))

bits_below : (f bias n e : ℕ) → e ≤ f + 1 → n < 2 * 2 ^ e → bits_at f bias n e < (f + 1 + bias) * 2 ^ f + 2 ^ f
bits_below f bias n e le h =
    let some_f : 0 < 2 ^ f = pow_pos f in
    let some_e : 0 < 2 ^ e = pow_pos e in
    let less : n - 2 ^ e < 2 ^ e = omega arith in
    let product : (n - 2 ^ e) * 2 ^ f < 2 ^ e * 2 ^ f = mul-lt-mul_of_pos_right less some_f in
    let turned : (n - 2 ^ e) * 2 ^ f < 2 ^ f * 2 ^ e = omega (arith, mul_comm (2 ^ e) (2 ^ f)) in
    let fraction : (n - 2 ^ e) * 2 ^ f / 2 ^ e < 2 ^ f = div_below ((n - 2 ^ e) * 2 ^ f) (2 ^ e) (2 ^ f) some_e turned in
    let exponent : (e + bias) * 2 ^ f ≤ (f + 1 + bias) * 2 ^ f = mul-le-mul_right {m = e + bias} {n = f + 1 + bias} (2 ^ f) (omega arith) in
    omega arith

whole_below : (f bias n : ℕ) → n ≤ 2 ^ (f + 1) → whole_bits f bias n < (f + 1 + bias) * 2 ^ f + 2 ^ f
whole_below f bias n le = go (nat_eq n 0)
  where
    some : bits_at f bias n (greatest_exponent (f + 1) n) < (f + 1 + bias) * 2 ^ f + 2 ^ f
    some =
        let positive : 0 < 2 ^ (f + 1) = pow_pos (f + 1) in
        bits_below f bias n (greatest_exponent (f + 1) n) (greatest_top (f + 1) n) (greatest_above (f + 1) n (omega arith))

    go : (b : Bool) → cond b 0 (bits_at f bias n (greatest_exponent (f + 1) n)) < (f + 1 + bias) * 2 ^ f + 2 ^ f
    go true = let positive : 0 < 2 ^ f = pow_pos f in omega arith
    go false = some

-- A format whose numbers without a sign are below the sign, and a NaN too.
pub record FormatSound (format : FloatFormat) : Type 0 where
  pub infinity : format.infinity < format.sign
  pub whole : (format.fraction_bits + 1 + format.bias) * 2 ^ format.fraction_bits + 2 ^ format.fraction_bits ≤ format.sign
  pub nan : format.nan < 2 * format.sign

magnitude_below : (format : FloatFormat) (text : List ℕ) (n : ℕ) → FormatSound format → magnitude_bits format text ≡ Some n → n < format.sign
magnitude_below format text n s e = go (bytes_eq text (codes "inf")) e
  where
    whole : (o : Option ℕ) → up_to (2 ^ (format.fraction_bits + 1)) (whole_number text) ≡ o → option_map (whole_bits format.fraction_bits format.bias) o ≡ Some n → n < format.sign
    whole None is e = cc
    whole (Some k) is e =
        let same : whole_bits format.fraction_bits format.bias k ≡ n = cc in
        omega (arith, same, s.whole, whole_below format.fraction_bits format.bias k (up_to_limit (2 ^ (format.fraction_bits + 1)) (whole_number text) k is))

    go : (b : Bool) → cond b (Some format.infinity) (option_map (whole_bits format.fraction_bits format.bias) (up_to (2 ^ (format.fraction_bits + 1)) (whole_number text))) ≡ Some n → n < format.sign
    go true e = let same : format.infinity ≡ n = cc in omega (arith, s.infinity)
    go false e = whole (up_to (2 ^ (format.fraction_bits + 1)) (whole_number text)) refl e

float_below : (format : FloatFormat) (text : List ℕ) (n : ℕ) → FormatSound format → float_bits format text ≡ Some n → n < 2 * format.sign
float_below format text n s e = go (bytes_eq text (codes "nan")) (is_negative text) e
  where
    below : (o : Option ℕ) → magnitude_bits format (behind text) ≡ o → option_map (λ n. format.sign + n) o ≡ Some n → n < 2 * format.sign
    below None is e = cc
    below (Some k) is e = let same : format.sign + k ≡ n = cc in omega (arith, magnitude_below format (behind text) k s is)

    go : (b c : Bool) → cond b (Some format.nan) (cond c (option_map (λ n. format.sign + n) (magnitude_bits format (behind text))) (magnitude_bits format text)) ≡ Some n → n < 2 * format.sign
    go true c e = let same : format.nan ≡ n = cc in omega (arith, s.nan)
    go false true e = below (magnitude_bits format (behind text)) refl e
    go false false e = omega (arith, magnitude_below format text n s e)

pub float_32 : (text : List ℕ) (n : ℕ) → float_bits binary32 text ≡ Some n → nat_lt n (2 ^ 32) ≡ true
float_32 text n e = let less : n < 2 * 2 ^ 31 = float_below binary32 text n (record { infinity = omega arith; whole = omega arith; nan = omega arith }) e in lt-ltb n (2 ^ 32) (omega arith)

pub float_64 : (text : List ℕ) (n : ℕ) → float_bits binary64 text ≡ Some n → nat_lt n (2 ^ 64) ≡ true
float_64 text n e = let less : n < 2 * 2 ^ 63 = float_below binary64 text n (record { infinity = omega arith; whole = omega arith; nan = omega arith }) e in lt-ltb n (2 ^ 64) (omega arith)

-- BYTES

digit_rest : (digits : Front) (text : List ℕ) → are_bytes digits.rest ≡ true → are_bytes text ≡ true → are_bytes (octal_digit digits text).rest ≡ true
unfolding octal_digit
digit_rest digits [] h k = h
digit_rest digits (b ∷ text) h k = go (is_octal b) (and_parts (nat_lt b 256) (are_bytes text) k).1
  where
    go : (c : Bool) → are_bytes text ≡ true → are_bytes (cond c (front (8 * digits.value + (b - 48)) text) digits).rest ≡ true
    go true more = more
    go false more = h

octal_rest : (text : List ℕ) → are_bytes text ≡ true → are_bytes (octal text).rest ≡ true
octal_rest text h =
    let first = octal_digit (front 0 text) text in
    let second = octal_digit first first.rest in
    let one : are_bytes first.rest ≡ true = digit_rest (front 0 text) text h h in
    let two : are_bytes second.rest ≡ true = digit_rest first first.rest one one in
    digit_rest second second.rest two two

-- A byte, and bytes behind it.
abbrev pub FrontSound : Front → Type 0
FrontSound f = (f.value < 256) × (are_bytes f.rest ≡ true)

lettered_sound : (b : ℕ) (text : List ℕ) (f : Front) → b < 256 → are_bytes text ≡ true → option_map (λ byte. front byte text) (letter b) ≡ Some f → FrontSound f
lettered_sound b text f small more e = go (nat_eq b 110) (nat_eq b 114) (nat_eq b 116) (nat_eq b 34 || nat_eq b 39 || nat_eq b 92) e
  where
    made : (n : ℕ) → n < 256 → Some (front n text) ≡ Some f → FrontSound f
    made n less e = let same : front n text ≡ f = cc in subst FrontSound same (less, more)

    go : (i j k l : Bool) → option_map (λ byte. front byte text) (cond i (Some 10) (cond j (Some 13) (cond k (Some 9) (cond l (Some b) None)))) ≡ Some f → FrontSound f
    go true j k l e = made 10 (omega arith) e
    go false true k l e = made 13 (omega arith) e
    go false false true l e = made 9 (omega arith) e
    go false false false true e = made b small e
    go false false false false e = cc

escaped_sound : (text : List ℕ) (f : Front) → are_bytes text ≡ true → escaped text ≡ Some f → FrontSound f
escaped_sound [] f h e = cc
escaped_sound (b ∷ text) f h e = go (is_octal b) e
  where
    small : b < 256
    small = ltb-true b 256 (and_parts (nat_lt b 256) (are_bytes text) h).0

    digits : (c : Bool) → nat_le (octal (b ∷ text)).value 255 ≡ c → cond c (Some (octal (b ∷ text))) None ≡ Some f → FrontSound f
    digits true is e =
        let same : octal (b ∷ text) ≡ f = cc in
        let less : (octal (b ∷ text)).value < 256 = omega (arith, leb-true (octal (b ∷ text)).value 255 is) in
        subst FrontSound same (less, octal_rest (b ∷ text) h)
    digits false is e = cc

    go : (c : Bool) → cond c (cond (nat_le (octal (b ∷ text)).value 255) (Some (octal (b ∷ text))) None) (option_map (λ byte. front byte text) (letter b)) ≡ Some f → FrontSound f
    go true e = digits (nat_le (octal (b ∷ text)).value 255) refl e
    go false e = lettered_sound b text f small (and_parts (nat_lt b 256) (are_bytes text) h).1 e

front_sound : (b : ℕ) (text : List ℕ) (f : Front) → are_bytes (b ∷ text) ≡ true → front_byte b text ≡ Some f → FrontSound f
front_sound b text f h e = go (nat_eq b 92) e (and_parts (nat_lt b 256) (are_bytes text) h)
  where
    go : (c : Bool) → cond c (escaped text) (Some (front b text)) ≡ Some f → (nat_lt b 256 ≡ true) × (are_bytes text ≡ true) → FrontSound f
    go true e parts = escaped_sound text f parts.1 e
    go false e parts = let same : front b text ≡ f = cc in subst FrontSound same (ltb-true b 256 parts.0, parts.1)

unescaped_bytes : (steps : ℕ) (text bytes : List ℕ) → are_bytes text ≡ true → unescaped_in steps text ≡ Some bytes → are_bytes bytes ≡ true
unfolding unescaped_in
unescaped_bytes steps [] bytes h e = let same : [] ≡ bytes = cc in ap are_bytes (sym same)
unescaped_bytes zero (b ∷ text) bytes h e = cc
unescaped_bytes (suc steps) (b ∷ text) bytes h e = go (front_byte b text) refl e (λ (rest : List ℕ) (more : List ℕ). unescaped_bytes steps rest more)
  where
    behind_it : (f : Front) (o : Option (List ℕ)) → FrontSound f → option_map (λ bytes. f.value ∷ bytes) o ≡ Some bytes → ((more : List ℕ) → o ≡ Some more → are_bytes more ≡ true) → are_bytes bytes ≡ true
    behind_it f None s e k = cc
    behind_it f (Some more) s e k = let same : f.value ∷ more ≡ bytes = cc in subst (λ (l : List ℕ). are_bytes l ≡ true) same (and_from (nat_lt f.value 256) (are_bytes more) (lt-ltb f.value 256 s.0) (k more refl))

    go : (o : Option Front) → front_byte b text ≡ o → option_and_then (λ (first : Front). option_map (λ bytes. first.value ∷ bytes) (unescaped_in steps first.rest)) o ≡ Some bytes →
        ((rest more : List ℕ) → are_bytes rest ≡ true → unescaped_in steps rest ≡ Some more → are_bytes more ≡ true) → are_bytes bytes ≡ true
    go None is e again = cc
    go (Some f) is e again = let s = front_sound b text f h is in behind_it f (unescaped_in steps f.rest) s e (λ more. again f.rest more s.1)

pub unescaped_are_bytes : (text bytes : List ℕ) → are_bytes text ≡ true → unescaped text ≡ Some bytes → are_bytes bytes ≡ true
unescaped_are_bytes text bytes h e = unescaped_bytes (length text) text bytes h e

-- ENUM VALUES

abbrev pub numbers_of : List (DefinitionRow EnumValueDescriptorProto) → List ℤ
numbers_of vs = map (λ (v : EnumValueRow). v.number) (map linked_value vs)

-- A number of a value that has a name is among the numbers.
pub named_number : (name : List ℕ) (vs : List (DefinitionRow EnumValueDescriptorProto)) (z : ℤ) → list_all (λ v. in_i32 (value_number v)) vs ≡ true → number_named (map linked_value vs) name ≡ Some z → (in_i32 z ≡ true) × (list_any (int_eq z) (numbers_of vs) ≡ true)
named_number name [] z h e = cc
named_number name (v ∷ vs) z h e = go (bytes_eq (text_or_empty v.proto.name) name) e (and_parts (in_i32 (value_number v)) (list_all (λ v. in_i32 (value_number v)) vs) h) (λ more rest. named_number name vs z more rest)
  where
    go : (b : Bool) → option_map (λ (w : EnumValueRow). w.number) (cond b (Some (linked_value v)) (find (λ (w : EnumValueRow). bytes_eq w.id.name name) (map linked_value vs))) ≡ Some z → (in_i32 (value_number v) ≡ true) × (list_all (λ v. in_i32 (value_number v)) vs ≡ true) →
        (list_all (λ v. in_i32 (value_number v)) vs ≡ true → number_named (map linked_value vs) name ≡ Some z → (in_i32 z ≡ true) × (list_any (int_eq z) (numbers_of vs) ≡ true)) →
        (in_i32 z ≡ true) × (list_any (int_eq z) (numbers_of (v ∷ vs)) ≡ true)
    go true e parts more =
        let same : value_number v ≡ z = cc in
        (subst (λ (y : ℤ). in_i32 y ≡ true) same parts.0, or_left (int_eq z (value_number v)) (list_any (int_eq z) (numbers_of vs)) (grind (arith, Decides-int_eq z (value_number v))))
    go false e parts more = let rest = more parts.1 e in (rest.0, or_right (int_eq z (value_number v)) (list_any (int_eq z) (numbers_of vs)) rest.1)
