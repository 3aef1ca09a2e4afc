-- Files are added one by one.
use Rattle.std.specs.Prelude.{◌≡◌, ◌&&◌, ◌||◌, ◌∷◌, ◌++◌}
use Rattle.prost_reflect_tables.proofs.Common.{ℕ, Bool, true, false, not, cond, List, [], length, nat_eq, filter, String, refl, sym, ap, ◌∙◌, true≢false, append_assoc, append-nil, arith, list_any, Global, FileDescriptorProto, text_or_empty, is_unnamed}
use Rattle.std.specs.Bool.{◌==◌}
use Rattle.std.specs.Str.{bytes_eq}
use Rattle.std.specs.BTreeSet.{BTreeSet, contains_text}
use Rattle.std.proofs.lemmas.Slice.Eq.{bytes_eq-Decides}
use Rattle.prost_reflect_tables.specs.Adding.{is_named, have_one_name, first_of_name, is_there, unskipped, added, AreNamesOf}

list_any_push : {X : Type 0} (p : X → Bool) (xs : List X) (x : X) → list_any p (xs ++ x ∷ []) ≡ list_any p xs || p x
list_any_push p [] x = elim (p x) as (λ b. (b || false) ≡ b) [ true ↦ refl | false ↦ refl ]
list_any_push p (y ∷ xs) x = elim (p y) as (λ b. (b || list_any p (xs ++ x ∷ [])) ≡ ((b || list_any p xs) || p x)) [ true ↦ refl | false ↦ list_any_push p xs x ]

pub no_length : (l : List ℕ) → (length l == 0) ≡ true → l ≡ []
no_length [] e = refl
no_length (b ∷ l) e = absurd (grind arith)

-- FILTERS

filter_both : {X : Type 0} (p q r : X → Bool) (xs : List X) → ((x : X) → r x ≡ (p x && q x)) → filter p (filter q xs) ≡ filter r xs
filter_both p q r [] e = refl
filter_both p q r (x ∷ xs) e = go (p x) (q x) refl refl (filter_both p q r xs e)
  where
    go : (a b : Bool) → p x ≡ a → q x ≡ b → filter p (filter q xs) ≡ filter r xs → filter p (cond b (x ∷ filter q xs) (filter q xs)) ≡ cond (r x) (x ∷ filter r xs) (filter r xs)
    go true true ep eq rest = rw (e x, ep, eq) (ap (λ l. x ∷ l) rest)
    go false true ep eq rest = rw (e x, ep) rest
    go true false ep eq rest = rw (e x, ep, eq) rest
    go false false ep eq rest = rw (e x, ep) rest

-- NAMES

abbrev name_of : FileDescriptorProto → List ℕ
name_of f = text_or_empty f.name

-- what has the name of one has that of the other
name_passed : (f g h : FileDescriptorProto) → have_one_name g f ≡ true → have_one_name f h ≡ true → have_one_name g h ≡ true
name_passed f g h a b = grind (arith, bytes_eq-Decides (name_of g) (name_of f), bytes_eq-Decides (name_of f) (name_of h), bytes_eq-Decides (name_of g) (name_of h))

there_passed : (files : List FileDescriptorProto) (f h : FileDescriptorProto) → is_there files f ≡ true → have_one_name f h ≡ true → is_there files h ≡ true
there_passed [] f h a b = a
there_passed (g ∷ files) f h a b = go (have_one_name g f) refl (λ x. there_passed files f h x b)
  where
    go : (c : Bool) → have_one_name g f ≡ c → (is_there files f ≡ true → is_there files h ≡ true) → (have_one_name g h || is_there files h) ≡ true
    go true e rest = rw (name_passed f g h e b) refl
    go false e rest = rw (rest (rw e at a)) (elim (have_one_name g h) as (λ c. (c || true) ≡ true) [ true ↦ refl | false ↦ refl ])

-- ONE FILE MORE

-- a file that is there is skipped
pub skipped : (files batch : List FileDescriptorProto) (f : FileDescriptorProto) → is_there files f ≡ true → added files (f ∷ batch) ≡ added files batch
skipped files batch f e = rw e (ap (λ l. files ++ l) (filter_both (λ h. not (is_there files h)) (λ h. not (have_one_name f h)) (λ h. not (is_there files h)) (first_of_name batch) each))
  where
    each : (h : FileDescriptorProto) → not (is_there files h) ≡ (not (is_there files h) && not (have_one_name f h))
    each h = go (is_there files h) (have_one_name f h) refl refl
      where
        go : (a b : Bool) → is_there files h ≡ a → have_one_name f h ≡ b → not a ≡ (not a && not b)
        go true b x y = refl
        go false false x y = refl
        go false true x y = absurd (true≢false (sym (there_passed files f h e y) ∙ x))

-- and one that is not there is taken
pub taken : (files batch : List FileDescriptorProto) (f : FileDescriptorProto) → is_there files f ≡ false → added files (f ∷ batch) ≡ added (files ++ f ∷ []) batch
taken files batch f e = rw e
    (ap (λ l. files ++ f ∷ l) (filter_both (λ h. not (is_there files h)) (λ h. not (have_one_name f h)) (λ h. not (is_there (files ++ f ∷ []) h)) (first_of_name batch) each)
    ∙ sym (append_assoc files (f ∷ []) (unskipped (files ++ f ∷ []) batch)))
  where
    each : (h : FileDescriptorProto) → not (is_there (files ++ f ∷ []) h) ≡ (not (is_there files h) && not (have_one_name f h))
    each h = rw (list_any_push (λ g. have_one_name g h) files f) (elim (is_there files h) as (λ a. not (a || have_one_name f h) ≡ (not a && not (have_one_name f h))) [ true ↦ refl | false ↦ refl ])

pub none_added : (files : List FileDescriptorProto) → added files [] ≡ files
none_added files = append-nil files

-- NAMES OF FILES

pub named_more : (files : List FileDescriptorProto) (f : FileDescriptorProto) (name : List ℕ) → list_any (is_named name) (files ++ f ∷ []) ≡ (list_any (is_named name) files || is_named name f)
named_more files f name = list_any_push (is_named name) files f

-- the name of a file that is there adds nothing
pub named_again : (files : List FileDescriptorProto) (f : FileDescriptorProto) (name : List ℕ) → is_there files f ≡ true → list_any (is_named name) (files ++ f ∷ []) ≡ list_any (is_named name) files
named_again files f name there = named_more files f name ∙ go (is_named name f) refl
  where
    go : (b : Bool) → is_named name f ≡ b → (list_any (is_named name) files || b) ≡ list_any (is_named name) files
    go false e = elim (list_any (is_named name) files) as (λ c. (c || false) ≡ c) [ true ↦ refl | false ↦ refl ]
    go true e =
        let same : text_or_empty f.name ≡ name = grind (arith, bytes_eq-Decides (text_or_empty f.name) name) in
        rw (rw same at there) refl

-- an empty name is nobody's
not_named : (g : FileDescriptorProto) → is_named [] g ≡ false
not_named g = go (text_or_empty g.name)
  where
    go : (l : List ℕ) → (not (nat_eq (length l) 0) && bytes_eq l []) ≡ false
    go [] = refl
    go (b ∷ l) = other (bytes_eq (b ∷ l) []) refl
      where
        other : (c : Bool) → bytes_eq (b ∷ l) [] ≡ c → (not (nat_eq (length (b ∷ l)) 0) && c) ≡ false
        other false e = grind arith
        other true e = absurd (grind (arith, bytes_eq-Decides (b ∷ l) []))

none_named : (files : List FileDescriptorProto) → list_any (is_named []) files ≡ false
none_named [] = refl
none_named (g ∷ files) = rw (not_named g, none_named files) refl

module _ (files : List FileDescriptorProto) (f : FileDescriptorProto) where
  pub unnamed_new : text_or_empty f.name ≡ [] → is_there files f ≡ false
  unnamed_new e = ap (λ (name : List ℕ). list_any (is_named name) files) e ∙ none_named files

  pub name_new : (names : BTreeSet (String Global)) (key : List ℕ) (b : Bool) → key ≡ text_or_empty f.name → b ≡ not (contains_text names key) → AreNamesOf files names → b ≡ not (is_there files f)
  name_new names key b e is h = is ∙ ap not (ap (contains_text names) e ∙ h (text_or_empty f.name))

  pub name_more : (old new : BTreeSet (String Global)) (key : List ℕ) → key ≡ text_or_empty f.name → is_unnamed f.name ≡ false →
      ((name : List ℕ) → contains_text new name ≡ cond (bytes_eq key name) true (contains_text old name)) → AreNamesOf files old → AreNamesOf (files ++ f ∷ []) new
  name_more old new key e named more h = λ name.
      more name
      ∙ (ap (λ (k : List ℕ). cond (bytes_eq k name) true (contains_text old name)) e
      ∙ (ap (cond (bytes_eq (text_or_empty f.name) name) true) (h name)
      ∙ (sides (bytes_eq (text_or_empty f.name) name) (list_any (is_named name) files)
      ∙ sym (named_more files f name ∙ rw named refl))))
    where
      sides : (b c : Bool) → cond b true c ≡ (c || b)
      sides true true = refl
      sides true false = refl
      sides false true = refl
      sides false false = refl

  -- where the name of a file is not new, the names stay
  pub names_stay : (names : BTreeSet (String Global)) → is_there files f ≡ true → AreNamesOf (files ++ f ∷ []) names → AreNamesOf files names
  names_stay names there h = λ name. h name ∙ named_again files f name there
