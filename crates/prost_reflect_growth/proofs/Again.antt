-- Whether an item of a list stands among those before it: the order of the list is all one.
use Rattle.std.specs.Prelude.{◌≡◌, ◌||◌, ◌∷◌, ◌++◌}
use Rattle.prost_reflect_growth.proofs.Common.{list_any, Bool, true, false, List, [], refl, sym, ap, ap₂, ◌∙◌, append_assoc, append-nil, or_assoc, or_comm, list_any-append, repeats_by}

-- One of these is among those.
abbrev pub meets : {X : Type 0} → (X → X → Bool) → (before : List X) → List X → Bool
meets eq before ns = list_any (λ n. list_any (eq n) before) ns

pub or_swap : (a b c : Bool) → (a || (b || c)) ≡ (b || (a || c))
or_swap true true c = refl
or_swap true false c = refl
or_swap false b c = refl

or_pairs : (a b c d : Bool) → ((a || b) || (c || d)) ≡ ((a || c) || (b || d))
or_pairs true b c d = refl
or_pairs false b c d = or_swap b c d

or_last : (p q r : Bool) → ((p || q) || r) ≡ ((p || r) || q)
or_last true q r = refl
or_last false q r = or_comm q r

module _ {X : Type 0} (eq : X → X → Bool) where
  -- Only what is among those before counts.
  again_alike : (b c ns : List X) → ((n : X) → list_any (eq n) b ≡ list_any (eq n) c) → repeats_by eq b ns ≡ repeats_by eq c ns
  again_alike b c [] h = refl
  again_alike b c (n ∷ ns) h =
      ap₂ (λ p q. p || q) (h n)
      (again_alike (b ++ n ∷ []) (c ++ n ∷ []) ns
      (λ m. list_any-append (eq m) b (n ∷ []) ∙ (ap (λ p. p || list_any (eq m) (n ∷ [])) (h m) ∙ sym (list_any-append (eq m) c (n ∷ [])))))

  again_append : (b xs ys : List X) → repeats_by eq b (xs ++ ys) ≡ repeats_by eq b xs || repeats_by eq (b ++ xs) ys
  again_append b [] ys = ap (λ c. repeats_by eq c ys) (sym (append-nil b))
  again_append b (x ∷ xs) ys =
      ap (λ p. list_any (eq x) b || p) (again_append (b ++ x ∷ []) xs ys ∙ ap (λ c. repeats_by eq (b ++ x ∷ []) xs || repeats_by eq c ys) (append_assoc b (x ∷ []) xs))
      ∙ sym (or_assoc (list_any (eq x) b) (repeats_by eq (b ++ x ∷ []) xs) (repeats_by eq (b ++ x ∷ xs) ys))

  -- Those before in two parts.
  again_parts : (b xs ys : List X) → repeats_by eq (b ++ xs) ys ≡ repeats_by eq b ys || meets eq xs ys
  again_parts b xs [] = refl
  again_parts b xs (y ∷ ys) =
      ap₂ (λ p q. p || q) (list_any-append (eq y) b xs) (again_alike ((b ++ xs) ++ y ∷ []) ((b ++ y ∷ []) ++ xs) ys shuffled ∙ again_parts (b ++ y ∷ []) xs ys)
      ∙ or_pairs (list_any (eq y) b) (list_any (eq y) xs) (repeats_by eq (b ++ y ∷ []) ys) (meets eq xs ys)
    where
      shuffled : (n : X) → list_any (eq n) ((b ++ xs) ++ y ∷ []) ≡ list_any (eq n) ((b ++ y ∷ []) ++ xs)
      shuffled n =
          list_any-append (eq n) (b ++ xs) (y ∷ [])
          ∙ (ap (λ p. p || list_any (eq n) (y ∷ [])) (list_any-append (eq n) b xs)
          ∙ (or_last (list_any (eq n) b) (list_any (eq n) xs) (list_any (eq n) (y ∷ []))
          ∙ sym (list_any-append (eq n) (b ++ y ∷ []) xs ∙ ap (λ p. p || list_any (eq n) xs) (list_any-append (eq n) b (y ∷ [])))))

  -- In front of further ones, the same.
  pub again_under : (b p xs ys : List X) → ((c : List X) → repeats_by eq c xs ≡ repeats_by eq c ys) →
      repeats_by eq b (p ++ xs) ≡ repeats_by eq b (p ++ ys)
  again_under b p xs ys h = again_append b p xs ∙ (ap (λ q. repeats_by eq b p || q) (h (b ++ p)) ∙ sym (again_append b p ys))

  module _ (turned : (a b : X) → eq a b ≡ eq b a) where
    meets_cons : (x : X) (xs ys : List X) → meets eq (x ∷ xs) ys ≡ list_any (eq x) ys || meets eq xs ys
    meets_cons x xs [] = refl
    meets_cons x xs (y ∷ ys) =
        ap (λ p. (eq y x || list_any (eq y) xs) || p) (meets_cons x xs ys)
        ∙ (or_pairs (eq y x) (list_any (eq y) xs) (list_any (eq x) ys) (meets eq xs ys)
        ∙ ap (λ p. (p || list_any (eq x) ys) || (list_any (eq y) xs || meets eq xs ys)) (turned y x))

    meets_none : (ys : List X) → meets eq [] ys ≡ false
    meets_none [] = refl
    meets_none (y ∷ ys) = meets_none ys

    meets_turned : (xs ys : List X) → meets eq xs ys ≡ meets eq ys xs
    meets_turned [] ys = meets_none ys
    meets_turned (x ∷ xs) ys = meets_cons x xs ys ∙ ap (λ p. list_any (eq x) ys || p) (meets_turned xs ys)

    -- Two parts change places.
    pub again_swap : (b xs ys zs : List X) → repeats_by eq b (xs ++ (ys ++ zs)) ≡ repeats_by eq b (ys ++ (xs ++ zs))
    again_swap b xs ys zs =
        opened xs ys
        ∙ (shuffle (repeats_by eq b xs) (repeats_by eq b ys) (meets eq xs ys) (repeats_by eq ((b ++ xs) ++ ys) zs)
        ∙ (ap₂ (λ p q. repeats_by eq b ys || ((repeats_by eq b xs || p) || q)) (meets_turned xs ys) (again_alike ((b ++ xs) ++ ys) ((b ++ ys) ++ xs) zs both)
        ∙ sym (opened ys xs)))
      where
        opened : (us vs : List X) →
            repeats_by eq b (us ++ (vs ++ zs))
            ≡ repeats_by eq b us || ((repeats_by eq b vs || meets eq us vs) || repeats_by eq ((b ++ us) ++ vs) zs)
        opened us vs =
            again_append b us (vs ++ zs)
            ∙ ap (λ p. repeats_by eq b us || p) (again_append (b ++ us) vs zs ∙ ap (λ p. p || repeats_by eq ((b ++ us) ++ vs) zs) (again_parts b us vs))

        shuffle : (p q r s : Bool) → (p || ((q || r) || s)) ≡ (q || ((p || r) || s))
        shuffle true true r s = refl
        shuffle true false r s = refl
        shuffle false true r s = refl
        shuffle false false r s = refl

        both : (n : X) → list_any (eq n) ((b ++ xs) ++ ys) ≡ list_any (eq n) ((b ++ ys) ++ xs)
        both n =
            list_any-append (eq n) (b ++ xs) ys
            ∙ (ap (λ p. p || list_any (eq n) ys) (list_any-append (eq n) b xs)
            ∙ (or_last (list_any (eq n) b) (list_any (eq n) xs) (list_any (eq n) ys)
            ∙ sym (list_any-append (eq n) (b ++ ys) xs ∙ ap (λ p. p || list_any (eq n) xs) (list_any-append (eq n) b ys))))

    -- Behind items none of which stands twice.
    pub again_behind : (xs ys : List X) → repeats_by eq [] xs ≡ false → repeats_by eq [] (xs ++ ys) ≡ meets eq xs ys || repeats_by eq [] ys
    again_behind xs ys none =
        again_append [] xs ys
        ∙ (ap (λ p. p || repeats_by eq xs ys) none ∙ (again_parts [] xs ys ∙ or_comm (repeats_by eq [] ys) (meets eq xs ys)))
