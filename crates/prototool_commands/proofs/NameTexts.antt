-- The first name of a path, and what stands behind it.
use Rattle.std.proofs.Common.{◌≡◌, ◌≢◌, ◌<◌, ℕ, zero, suc, List, [], ◌∷◌, ◌++◌, Contains, length, get_or, Option, Some, None, refl, ap, sym, ◌∙◌, subst, arith, append-nil}
use Rattle.std.specs.Prelude.{⊤}
use Rattle.prototool_commands.specs.Naming.{PathName, Own, Full, written, IsClear, behind_dot, BeginsWith}

-- WHAT A LIST CONTAINS

contains_behind : (x c : ℕ) (xs : List ℕ) → Contains xs c → Contains (x ∷ xs) c
contains_behind x c xs h = (suc h.0, omega (arith, h.1), h.2)

contains_first : (x c : ℕ) (xs : List ℕ) → x ≡ c → Contains (x ∷ xs) c
contains_first x c xs e = (zero, omega arith, e)

contains_after : (xs ys : List ℕ) (c : ℕ) → Contains (xs ++ (c ∷ ys)) c
contains_after [] ys c = contains_first c c ys refl
contains_after (x ∷ xs) ys c = contains_behind x c (xs ++ (c ∷ ys)) (contains_after xs ys c)

-- an element does not hang on what is had past the end
same_within : (xs : List ℕ) (i d e : ℕ) → i < length xs → get_or xs i d ≡ get_or xs i e
same_within [] i d e less = absurd (omega (arith, less))
same_within (x ∷ xs) zero d e less = refl
same_within (x ∷ xs) (suc i) d e less = same_within xs i d e (omega (arith, less))

lacks : (xs : List ℕ) (c : ℕ) → ((i : ℕ) → i < length xs → get_or xs i 0 ≢ c) → ¬ Contains xs c
lacks xs c none h = none h.0 h.1 (same_within xs h.0 0 c h.1 ∙ h.2)

-- WHERE A LIST IS CUT

-- it ends, or goes on with the element
abbrev Stops : ℕ → List ℕ → Type 0
Stops c [] = ⊤
Stops c (x ∷ xs) = x ≡ c

-- two cuts before the first such element are one
one_cut : (c : ℕ) (xs ys us vs : List ℕ) → ¬ Contains xs c → ¬ Contains ys c → Stops c us → Stops c vs → xs ++ us ≡ ys ++ vs → (xs ≡ ys) × (us ≡ vs)
one_cut c [] [] us vs p q s t e = (refl, e)
one_cut c [] (y ∷ ys) [] vs p q s t e = absurd (cc)
one_cut c [] (y ∷ ys) (u ∷ us) vs p q s t e = let same : u ≡ y = cc in absurd (q (contains_first y c ys (sym same ∙ s)))
one_cut c (x ∷ xs) [] us [] p q s t e = absurd (cc)
one_cut c (x ∷ xs) [] us (v ∷ vs) p q s t e = let same : x ≡ v = cc in absurd (p (contains_first x c xs (same ∙ t)))
one_cut c (x ∷ xs) (y ∷ ys) us vs p q s t e =
    let head : x ≡ y = cc in
    let tail : xs ++ us ≡ ys ++ vs = cc in
    let rest = one_cut c xs ys us vs (λ h. p (contains_behind x c xs h)) (λ h. q (contains_behind y c ys h)) s t tail in
    let front = rest.0 in
    let both : x ∷ xs ≡ y ∷ ys = cc in
    (both, rest.1)

bracket_cut : (xs ys us vs : List ℕ) → ¬ Contains xs 93 → ¬ Contains ys 93 → xs ++ (93 ∷ us) ≡ ys ++ (93 ∷ vs) → (xs ≡ ys) × (us ≡ vs)
bracket_cut xs ys us vs p q e =
    let cut = one_cut 93 xs ys (93 ∷ us) (93 ∷ vs) p q refl refl e in
    let behind = cut.1 in
    let same : us ≡ vs = cc in
    (cut.0, same)

stops_at_dot : (rest : Option (List ℕ)) → Stops 46 (behind_dot rest)
stops_at_dot None = tt
stops_at_dot (Some rest) = refl

one_rest : (a b : Option (List ℕ)) → behind_dot a ≡ behind_dot b → a ≡ b
one_rest None None e = refl
one_rest None (Some s) e = absurd (cc)
one_rest (Some r) None e = absurd (cc)
one_rest (Some r) (Some s) e = let same : r ≡ s = cc in ap Some same

not_behind : (behind : List ℕ) → behind ≢ [] → ((rest : List ℕ) → behind ≢ 46 ∷ rest) → (rest : Option (List ℕ)) → behind ≢ behind_dot rest
not_behind behind some undotted None e = some e
not_behind behind some undotted (Some rest) e = undotted rest e

-- THE FIRST NAME

-- a field's begins with no bracket, nor does what stands behind it
no_bracket : (name : List ℕ) (rest : Option (List ℕ)) (other : List ℕ) → IsClear (Own name) → name ++ behind_dot rest ≡ 91 ∷ other → ⊥
no_bracket [] None other clear e = cc
no_bracket [] (Some rest) other clear e = let same : ◌≡◌ {A = ℕ} 46 91 = cc in omega (arith, same)
no_bracket (x ∷ name) rest other clear e = let same : x ≡ 91 = cc in clear.1 name (ap (λ y. y ∷ name) same)

-- a path has one first name
one_name : (a b : PathName) (r s : Option (List ℕ)) → IsClear a → IsClear b → written a (behind_dot r) ≡ written b (behind_dot s) → (a ≡ b) × (r ≡ s)
one_name (Own a) (Own b) r s p q e = let cut = one_cut 46 a b (behind_dot r) (behind_dot s) p.0 q.0 (stops_at_dot r) (stops_at_dot s) e in (ap Own cut.0, one_rest r s cut.1)
one_name (Own a) (Full b) r s p q e = absurd (no_bracket a r (b ++ (93 ∷ behind_dot s)) p e)
one_name (Full a) (Own b) r s p q e = absurd (no_bracket b s (a ++ (93 ∷ behind_dot r)) q (sym e))
one_name (Full a) (Full b) r s p q e =
    let inside : a ++ (93 ∷ behind_dot r) ≡ b ++ (93 ∷ behind_dot s) = cc in
    let cut = bracket_cut a b (behind_dot r) (behind_dot s) p q inside in
    (ap Full cut.0, one_rest r s cut.1)

pub one_first : (path : List ℕ) (a b : PathName) (r s : Option (List ℕ)) → BeginsWith path a r → BeginsWith path b s → (a ≡ b) × (r ≡ s)
one_first path a b r s h k = one_name a b r s h.clear k.clear (sym h.text ∙ k.text)

-- WHAT CUTS SAY

module _ (path : List ℕ) (plain : (rest : List ℕ) → path ≢ 91 ∷ rest) where
  pub own_cut : (name rest : List ℕ) → path ≡ name ++ (46 ∷ rest) → ((i : ℕ) → i < length name → get_or name i 0 ≢ 46) → BeginsWith path (Own name) (Some rest)
  own_cut name rest e none = record { clear = (lacks name 46 none, λ other is. plain (other ++ (46 ∷ rest)) (e ∙ ap (λ front. front ++ (46 ∷ rest)) is)); text = e }

  pub own_whole : ((i : ℕ) → i < length path → get_or path i 0 ≢ 46) → BeginsWith path (Own path) None
  own_whole none = record { clear = (lacks path 46 none, plain); text = sym (append-nil path) }

module _ (text : List ℕ) where
  pub full_cut : (name behind : List ℕ) (rest : Option (List ℕ)) → text ≡ name ++ (93 ∷ behind) → ((i : ℕ) → i < length name → get_or name i 0 ≢ 93) → behind ≡ behind_dot rest → BeginsWith (91 ∷ text) (Full name) rest
  full_cut name behind rest e none is = record { clear = lacks name 93 none; text = ap (λ t. 91 ∷ t) (e ∙ ap (λ b. name ++ (93 ∷ b)) is) }

  pub full_open : ((i : ℕ) → i < length text → get_or text i 0 ≢ 93) → (name : PathName) (rest : Option (List ℕ)) → ¬ BeginsWith (91 ∷ text) name rest
  full_open none (Own name) rest h = no_bracket name rest text h.clear (sym h.text)
  full_open none (Full name) rest h =
      let same = h.text in
      let inside : text ≡ name ++ (93 ∷ behind_dot rest) = cc in
      let there : Contains (name ++ (93 ∷ behind_dot rest)) 93 = contains_after name (behind_dot rest) 93 in
      lacks text 93 none (subst (λ t. Contains t 93) (sym inside) there)

  pub full_wrong : (name behind : List ℕ) → text ≡ name ++ (93 ∷ behind) → ((i : ℕ) → i < length name → get_or name i 0 ≢ 93) → behind ≢ [] → ((rest : List ℕ) → behind ≢ 46 ∷ rest) → (other : PathName) (rest : Option (List ℕ)) → ¬ BeginsWith (91 ∷ text) other rest
  full_wrong name behind e none some undotted (Own other) rest h = no_bracket other rest text h.clear (sym h.text)
  full_wrong name behind e none some undotted (Full other) rest h =
      let same = h.text in
      let inside : other ++ (93 ∷ behind_dot rest) ≡ name ++ (93 ∷ behind) = cc in
      let cut = bracket_cut other name (behind_dot rest) behind h.clear (lacks name 93 none) inside in
      not_behind behind some undotted rest (sym cut.1)
