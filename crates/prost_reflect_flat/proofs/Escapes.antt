-- Bytes that a text writes with escapes, byte by byte.
use Rattle.std.specs.Prelude.{◌≡◌, ◌+◌, ◌-◌, ◌*◌, ◌≤◌, ◌∷◌, ◌++◌}
use Rattle.prost_reflect_flat.proofs.Common.{ℕ, zero, suc, Bool, true, false, cond, List, [], length, Option, Some, None, refl, sym, ap, ◌∙◌, arith, append_assoc, append-nil, nat_le, nat_eq, option_map, option_and_then, Front, front, is_octal, octal_digit, octal, letter, escaped, front_byte, unescaped_in, unescaped}

digit_shorter : (digits : Front) (text : List ℕ) → digits.rest ≡ text → length (octal_digit digits text).rest ≤ length text
unfolding octal_digit
digit_shorter digits [] is = omega (arith, ap length is)
digit_shorter digits (b ∷ text) is =
    elim (is_octal b) as (λ v. length (cond v (front (8 * digits.value + (b - 48)) text) digits).rest ≤ length (b ∷ text)) [
      | true ↦ omega arith
      | false ↦ omega (arith, ap length is)
    ]

first_digit : (b : ℕ) (text : List ℕ) → is_octal b ≡ true → length (octal_digit (front 0 (b ∷ text)) (b ∷ text)).rest ≤ length text
unfolding octal_digit
first_digit b text is = rw is (omega arith)

-- An octal digit and those behind it.
octal_shorter : (b : ℕ) (text : List ℕ) → is_octal b ≡ true → length (octal (b ∷ text)).rest ≤ length text
octal_shorter b text is =
    let first = octal_digit (front 0 (b ∷ text)) (b ∷ text) in
    let second = octal_digit first first.rest in
    let one : length first.rest ≤ length text = first_digit b text is in
    let two : length second.rest ≤ length first.rest = digit_shorter first first.rest refl in
    let three : length (octal_digit second second.rest).rest ≤ length second.rest = digit_shorter second second.rest refl in
    omega arith

chosen : (test : Bool) (f g : Front) → cond test (Some g) None ≡ Some f → g ≡ f
chosen true f g e = cc
chosen false f g e = cc

lettered : (o : Option ℕ) (text : List ℕ) (f : Front) → option_map (λ byte. front byte text) o ≡ Some f → length f.rest ≡ length text
lettered None text f e = cc
lettered (Some byte) text f e = let same : front byte text ≡ f = cc in ap (λ (x : Front). length x.rest) (sym same)

escaped_shorter : (text : List ℕ) (f : Front) → escaped text ≡ Some f → length f.rest ≤ length text
escaped_shorter [] f e = cc
escaped_shorter (b ∷ text) f e = by_digit (is_octal b) refl e
  where
    by_digit : (v : Bool) → is_octal b ≡ v → cond v (cond (nat_le (octal (b ∷ text)).value 255) (Some (octal (b ∷ text))) None) (option_map (λ byte. front byte text) (letter b)) ≡ Some f → length f.rest ≤ length (b ∷ text)
    by_digit true is e = omega (arith, octal_shorter b text is, ap (λ (x : Front). length x.rest) (chosen (nat_le (octal (b ∷ text)).value 255) f (octal (b ∷ text)) e))
    by_digit false is e = omega (arith, lettered (letter b) text f e)

pub front_shorter : (b : ℕ) (text : List ℕ) (f : Front) → front_byte b text ≡ Some f → length f.rest ≤ length text
front_shorter b text f e = by_escape (nat_eq b 92) e
  where
    by_escape : (v : Bool) → cond v (escaped text) (Some (front b text)) ≡ Some f → length f.rest ≤ length text
    by_escape true e = escaped_shorter text f e
    by_escape false e = let same : front b text ≡ f = cc in omega (arith, ap (λ (x : Front). length x.rest) same)

-- What the byte in front means, and those behind it by so many steps.
with_front : ℕ → Option Front → Option (List ℕ)
unfolding unescaped_in
with_front steps o = option_and_then (λ (f : Front). option_map (λ bytes. f.value ∷ bytes) (unescaped_in steps f.rest)) o

one_step : (steps b : ℕ) (text : List ℕ) → unescaped_in (suc steps) (b ∷ text) ≡ with_front steps (front_byte b text)
unfolding unescaped_in with_front
one_step steps b text = refl

same_front : (m n : ℕ) (text : List ℕ) (o : Option Front) → ((f : Front) → o ≡ Some f → unescaped_in m f.rest ≡ unescaped_in n f.rest) → with_front m o ≡ with_front n o
unfolding with_front
same_front m n text None h = refl
same_front m n text (Some f) h = ap (option_map (λ bytes. f.value ∷ bytes)) (h f refl)

-- As many steps as characters are enough.
enough : (m n : ℕ) (text : List ℕ) → length text ≤ m → length text ≤ n → unescaped_in m text ≡ unescaped_in n text
unfolding unescaped_in
enough zero zero [] p q = refl
enough zero (suc n) [] p q = refl
enough (suc m) zero [] p q = refl
enough (suc m) (suc n) [] p q = refl
enough (suc m) (suc n) (b ∷ text) p q =
    one_step m b text ∙ (same_front m n text (front_byte b text) (λ f is. enough m n f.rest (omega (arith, front_shorter b text f is)) (omega (arith, front_shorter b text f is))) ∙ sym (one_step n b text))
enough _ _ (b ∷ text) p q = absurd (omega arith)

-- THE LOOP

-- The bytes so far, and those that a text means behind them.
pub first_byte : (done rest text : List ℕ) (b : ℕ) (f : Front) → rest ≡ b ∷ text → front_byte b text ≡ Some f → option_map (λ bytes. done ++ bytes) (unescaped rest) ≡ option_map (λ bytes. (done ++ f.value ∷ []) ++ bytes) (unescaped f.rest)
unfolding with_front
first_byte done rest text b f is here =
    let step : unescaped rest ≡ with_front (length text) (front_byte b text) = ap unescaped is ∙ one_step (length text) b text in
    let fewer : unescaped_in (length text) f.rest ≡ unescaped f.rest = enough (length text) (length f.rest) f.rest (front_shorter b text f here) (omega arith) in
    rw (step, here, fewer) (joined (unescaped f.rest))
  where
    joined : (o : Option (List ℕ)) → option_map (λ bytes. done ++ bytes) (option_map (λ bytes. f.value ∷ bytes) o) ≡ option_map (λ bytes. (done ++ f.value ∷ []) ++ bytes) o
    joined None = refl
    joined (Some bytes) = ap Some (sym (append_assoc done (f.value ∷ []) bytes))

pub no_byte : (done rest text : List ℕ) (b : ℕ) → rest ≡ b ∷ text → front_byte b text ≡ None → option_map (λ bytes. done ++ bytes) (unescaped rest) ≡ None
unfolding with_front
no_byte done rest text b is here = rw (ap unescaped is ∙ one_step (length text) b text, here) refl

pub no_text : (done rest : List ℕ) → length rest ≡ 0 → option_map (λ bytes. done ++ bytes) (unescaped rest) ≡ Some done
unfolding unescaped_in
no_text done [] e = ap Some (append-nil done)
no_text done (b ∷ rest) e = absurd (omega arith)
