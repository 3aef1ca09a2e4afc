-- Items that have full names, with names inside them: the full name of what stands in an item is the item's, a dot and an own name.
use Rattle.std.specs.Prelude.{◌≡◌, ◌==◌, ◌&&◌, ◌||◌, ◌∷◌, ◌++◌}
use Rattle.std.specs.List.{list_any}
use Rattle.std.specs.Prelude.{find, option_map, slice_get}
use Rattle.std.specs.Str.{bytes_eq}
use Rattle.std.proofs.Common.{ℕ, zero, suc, Bool, true, false, cond, List, [], map, Option, Some, None, refl, sym, ap, ◌∙◌, append_assoc, append-nil}
use Rattle.std.proofs.Math.Bool.{or-true}
use Rattle.std.proofs.lemmas.Bool.{eqb-true, or_parts}
use Rattle.std.proofs.lemmas.List.Folds.{list_any-append}
use Rattle.std.proofs.lemmas.Option.{same_Some, slice_get-map}
use Rattle.std.proofs.lemmas.Slice.Eq.{bytes_eq-Decides}
use Rattle.prost_reflect_tables.specs.Faults.{repeats}
use Rattle.prost_reflect_tables.specs.Names.{joined}
use Rattle.prost_reflect_pool.proofs.ExtensionPlaces.{found_at}
use Rattle.prost_reflect_pool.proofs.UniqueNames.{back_alone}
use Rattle.prost_reflect_base.specs.Inside.{texts_in, holds_name, cut_at_a_dot}
use Rattle.prost_reflect_base.proofs.Lists.{same_answers, turned, any_at, Passing, any_where}

-- NAMES ONE BEHIND ANOTHER

-- A name among names that do not repeat stands not among those before them.
not_before : (before names : List (List ℕ)) (n : List ℕ) → repeats before names ≡ false → list_any (bytes_eq n) names ≡ true → list_any (bytes_eq n) before ≡ false
not_before before [] n h some = absurd cc
not_before before (m ∷ names) n h some =
    let parts = or_parts (list_any (bytes_eq m) before) (repeats (before ++ m ∷ []) names) h in
    go parts.0 (λ later. not_before (before ++ m ∷ []) names n parts.1 later) (bytes_eq n m) refl some
  where
    go : list_any (bytes_eq m) before ≡ false → (list_any (bytes_eq n) names ≡ true → list_any (bytes_eq n) (before ++ m ∷ []) ≡ false) → (b : Bool) → bytes_eq n m ≡ b → (b || list_any (bytes_eq n) names) ≡ true → list_any (bytes_eq n) before ≡ false
    go new more true same some = ap (λ k. list_any (bytes_eq k) before) ((bytes_eq-Decides n m).0 same) ∙ new
    go new more false other some = (or_parts (list_any (bytes_eq n) before) (list_any (bytes_eq n) (m ∷ [])) (sym (list_any-append (bytes_eq n) before (m ∷ [])) ∙ more some)).0

-- The full names of items, and behind each those inside it.
abbrev pub all_names : {X : Type 0} → (X → List ℕ) → (X → List (List ℕ)) → List X → List (List ℕ)
all_names full_name inside [] = []
all_names full_name inside (x ∷ xs) = full_name x ∷ (inside x ++ all_names full_name inside xs)

moved : (a b c d : Bool) → (a || (b || (c || d))) ≡ ((a || c) || (b || d))
moved true b c d = refl
moved false true true d = refl
moved false true false d = refl
moved false false c d = refl

module _ {X : Type 0} (full_name : X → List ℕ) (inside : X → List (List ℕ)) where
  -- Of all names it is that of an item, or one inside an item.
  pub any_of_all : (n : List ℕ) (xs : List X) → list_any (bytes_eq n) (all_names full_name inside xs) ≡ (list_any (λ x. bytes_eq n (full_name x)) xs || list_any (λ x. list_any (bytes_eq n) (inside x)) xs)
  any_of_all n [] = refl
  any_of_all n (x ∷ xs) =
      ap (λ b. bytes_eq n (full_name x) || b) (list_any-append (bytes_eq n) (inside x) (all_names full_name inside xs) ∙ ap (λ b. list_any (bytes_eq n) (inside x) || b) (any_of_all n xs))
      ∙ moved (bytes_eq n (full_name x)) (list_any (bytes_eq n) (inside x)) (list_any (λ x. bytes_eq n (full_name x)) xs) (list_any (λ x. list_any (bytes_eq n) (inside x)) xs)

  named_among : (xs : List X) (i : ℕ) (x : X) → slice_get xs i ≡ Some x → list_any (bytes_eq (full_name x)) (all_names full_name inside xs) ≡ true
  named_among xs i x at =
      any_of_all (full_name x) xs ∙ ap (λ b. b || list_any (λ y. list_any (bytes_eq (full_name x)) (inside y)) xs) (any_at (λ y. bytes_eq (full_name x) (full_name y)) xs i x at ((bytes_eq-Decides (full_name x) (full_name x)).1 refl))

  -- Where no name repeats, an item is the first of its name.
  first_is : (before : List (List ℕ)) (xs : List X) (i : ℕ) (x : X) → repeats before (all_names full_name inside xs) ≡ false → slice_get xs i ≡ Some x → find (λ y. bytes_eq (full_name y) (full_name x)) xs ≡ Some x
  first_is before [] i x h at = absurd cc
  first_is before (y ∷ xs) zero x h at =
      let same : y ≡ x = same_Some y x at in
      ap (λ b. cond b (Some y) (find (λ y. bytes_eq (full_name y) (full_name x)) xs)) ((bytes_eq-Decides (full_name y) (full_name x)).1 (ap full_name same)) ∙ ap Some same
  first_is before (y ∷ xs) (suc i) x h at =
      let rest : repeats (before ++ full_name y ∷ []) (inside y ++ all_names full_name inside xs) ≡ false = (or_parts (list_any (bytes_eq (full_name y)) before) (repeats (before ++ full_name y ∷ []) (inside y ++ all_names full_name inside xs)) h).1 in
      let alone : repeats ((before ++ full_name y ∷ []) ++ inside y) (all_names full_name inside xs) ≡ false = back_alone (before ++ full_name y ∷ []) (inside y) (all_names full_name inside xs) rest in
      let new : list_any (bytes_eq (full_name x)) ((before ++ full_name y ∷ []) ++ inside y) ≡ false = not_before ((before ++ full_name y ∷ []) ++ inside y) (all_names full_name inside xs) (full_name x) alone (named_among xs i x at) in
      let front : list_any (bytes_eq (full_name x)) (before ++ full_name y ∷ []) ≡ false = (or_parts (list_any (bytes_eq (full_name x)) (before ++ full_name y ∷ [])) (list_any (bytes_eq (full_name x)) (inside y)) (sym (list_any-append (bytes_eq (full_name x)) (before ++ full_name y ∷ []) (inside y)) ∙ new)).0 in
      let last : list_any (bytes_eq (full_name x)) (full_name y ∷ []) ≡ false = (or_parts (list_any (bytes_eq (full_name x)) before) (list_any (bytes_eq (full_name x)) (full_name y ∷ [])) (sym (list_any-append (bytes_eq (full_name x)) before (full_name y ∷ [])) ∙ front)).1 in
      let other : bytes_eq (full_name y) (full_name x) ≡ false = turned (full_name y) (full_name x) ∙ (or_parts (bytes_eq (full_name x) (full_name y)) false last).0 in
      ap (λ b. cond b (Some y) (find (λ y. bytes_eq (full_name y) (full_name x)) xs)) other ∙ first_is ((before ++ full_name y ∷ []) ++ inside y) xs i x alone at

-- CUTS AT DOTS

cut_found : (test : List ℕ → List ℕ → Bool) (front scope name : List ℕ) → test (front ++ scope) name ≡ true → cut_at_a_dot test front (scope ++ 46 ∷ name) ≡ true
cut_found test front [] name is = ap (λ b. b || cut_at_a_dot test (front ++ 46 ∷ []) name) (ap (λ f. test f name) (sym (append-nil front)) ∙ is)
cut_found test front (b ∷ scope) name is =
    ap (λ c. (b == 46 && test front (scope ++ 46 ∷ name)) || c) (cut_found test (front ++ b ∷ []) scope name (ap (λ f. test f name) (append_assoc front (b ∷ []) scope) ∙ is))
    ∙ or-true (b == 46 && test front (scope ++ 46 ∷ name))

record Cut (test : List ℕ → List ℕ → Bool) (front text : List ℕ) : Type 0 where
  scope : List ℕ
  name : List ℕ
  whole : text ≡ scope ++ 46 ∷ name
  passes : test (front ++ scope) name ≡ true

cut_where : (test : List ℕ → List ℕ → Bool) (front text : List ℕ) → cut_at_a_dot test front text ≡ true → Cut test front text
cut_where test front [] e = absurd cc
cut_where test front (b ∷ text) e = go (b == 46) (test front text) refl refl e (cut_where test (front ++ b ∷ []) text)
  where
    later : Cut test (front ++ b ∷ []) text → Cut test front (b ∷ text)
    later cut = record { scope = b ∷ cut.scope; name = cut.name; whole = ap (λ l. b ∷ l) cut.whole; passes = ap (λ f. test f cut.name) (sym (append_assoc front (b ∷ []) cut.scope)) ∙ cut.passes }

    go : (c d : Bool) → (b == 46) ≡ c → test front text ≡ d → ((c && d) || cut_at_a_dot test (front ++ b ∷ []) text) ≡ true → (cut_at_a_dot test (front ++ b ∷ []) text ≡ true → Cut test (front ++ b ∷ []) text) → Cut test front (b ∷ text)
    go true true dot is e more = record { scope = []; name = text; whole = ap (λ x. x ∷ text) (eqb-true b 46 dot); passes = ap (λ f. test f text) (append-nil front) ∙ is }
    go true false dot is e more = later (more e)
    go false d dot is e more = later (more e)

either : (a b c d : Bool) → ((a || b) || (c || d)) ≡ ((a || c) || (b || d))
either true b c d = refl
either false true true d = refl
either false true false d = refl
either false false c d = refl

-- A cut that passes one of two tests.
pub cut_either : (p q : List ℕ → List ℕ → Bool) (front text : List ℕ) → cut_at_a_dot (λ a b. p a b || q a b) front text ≡ (cut_at_a_dot p front text || cut_at_a_dot q front text)
cut_either p q front [] = refl
cut_either p q front (b ∷ text) =
    ap (λ c. (b == 46 && (p front text || q front text)) || c) (cut_either p q (front ++ b ∷ []) text)
    ∙ go (b == 46) (p front text) (q front text) (cut_at_a_dot p (front ++ b ∷ []) text) (cut_at_a_dot q (front ++ b ∷ []) text)
  where
    go : (dot x y c d : Bool) → ((dot && (x || y)) || (c || d)) ≡ (((dot && x) || c) || ((dot && y) || d))
    go true x y c d = either x y c d
    go false x y c d = refl

-- WHAT STANDS IN ITEMS

-- The names inside an item are its own full name, which is not empty, a dot and an own name.
pub record Scoped {X : Type 0} (full_name : X → List ℕ) (inside texts : X → List (List ℕ)) (x : X) : Type 0 where
  pub some : full_name x ≡ [] → ⊥
  pub joins : inside x ≡ map (joined (full_name x)) (texts x)

joined_is : (scope name : List ℕ) → (scope ≡ [] → ⊥) → joined scope name ≡ scope ++ 46 ∷ name
joined_is [] name some = absurd (some refl)
joined_is (b ∷ scope) name some = refl

module _ {X : Type 0} (full_name : X → List ℕ) (inside texts : X → List (List ℕ)) where
  abbrev AreScoped : List X → Type 0
  AreScoped xs = (i : ℕ) (x : X) → slice_get xs i ≡ Some x → Scoped full_name inside texts x

  held : (xs : List X) (text scope name : List ℕ) (o : Option X) → AreScoped xs → text ≡ scope ++ 46 ∷ name → find (λ x. bytes_eq (full_name x) scope) xs ≡ o → list_any (bytes_eq name) (texts_in texts o) ≡ true →
      list_any (λ x. list_any (bytes_eq text) (inside x)) xs ≡ true
  held xs text scope name None each whole found is = absurd cc
  held xs text scope name (Some x) each whole found is =
      let there = found_at (λ x. bytes_eq (full_name x) scope) xs x found in
      let own = each there.0 x there.1 in
      let same : full_name x ≡ scope = (bytes_eq-Decides (full_name x) scope).0 there.2 in
      let t : Passing (bytes_eq name) (texts x) = any_where (bytes_eq name) (texts x) is in
      let text_is : text ≡ joined (full_name x) t.it =
      whole ∙ (ap (λ s. s ++ 46 ∷ name) (sym same) ∙ (ap (λ n. full_name x ++ 46 ∷ n) ((bytes_eq-Decides name t.it).0 t.passes) ∙ sym (joined_is (full_name x) t.it own.some))) in
      let stands : slice_get (inside x) t.place ≡ Some (joined (full_name x) t.it) =
      ap (λ l. slice_get l t.place) own.joins ∙ (slice_get-map (joined (full_name x)) (texts x) t.place ∙ ap (option_map (joined (full_name x))) t.at) in
      any_at (λ x. list_any (bytes_eq text) (inside x)) xs there.0 x there.1 (any_at (bytes_eq text) (inside x) t.place (joined (full_name x) t.it) stands ((bytes_eq-Decides text (joined (full_name x) t.it)).1 text_is))

  holds : (before : List (List ℕ)) (xs : List X) (text : List ℕ) → AreScoped xs → repeats before (all_names full_name inside xs) ≡ false → list_any (λ x. list_any (bytes_eq text) (inside x)) xs ≡ true → cut_at_a_dot (holds_name full_name texts xs) [] text ≡ true
  holds before xs text each alone is =
      let there : Passing (λ x. list_any (bytes_eq text) (inside x)) xs = any_where (λ x. list_any (bytes_eq text) (inside x)) xs is in
      let x = there.it in
      let own = each there.place x there.at in
      let t : Passing (bytes_eq text) (map (joined (full_name x)) (texts x)) = any_where (bytes_eq text) (map (joined (full_name x)) (texts x)) (ap (list_any (bytes_eq text)) (sym own.joins) ∙ there.passes) in
      let n = made (joined (full_name x)) (texts x) t.place t.it t.at in
      let text_is : text ≡ full_name x ++ 46 ∷ n.0 = (bytes_eq-Decides text t.it).0 t.passes ∙ (sym n.2 ∙ joined_is (full_name x) n.0 own.some) in
      let first : find (λ y. bytes_eq (full_name y) (full_name x)) xs ≡ Some x = first_is full_name inside before xs there.place x alone there.at in
      let has : list_any (bytes_eq n.0) (texts x) ≡ true = any_at (bytes_eq n.0) (texts x) t.place n.0 n.1 ((bytes_eq-Decides n.0 n.0).1 refl) in
      ap (cut_at_a_dot (holds_name full_name texts xs) []) text_is
      ∙ cut_found (holds_name full_name texts xs) [] (full_name x) n.0 (ap (λ o. list_any (bytes_eq n.0) (texts_in texts o)) first ∙ has)
    where
      made : (f : List ℕ → List ℕ) (ns : List (List ℕ)) (i : ℕ) (y : List ℕ) → slice_get (map f ns) i ≡ Some y → (n : List ℕ) × (slice_get ns i ≡ Some n) × (f n ≡ y)
      made f [] i y e = absurd cc
      made f (n ∷ ns) zero y e = (n, refl, same_Some (f n) y e)
      made f (n ∷ ns) (suc i) y e = made f ns i y e

  -- A name inside an item is cut at a dot into the item's full name and an own name in it.
  pub inside_cut : (before : List (List ℕ)) (xs : List X) (text : List ℕ) → AreScoped xs → repeats before (all_names full_name inside xs) ≡ false → cut_at_a_dot (holds_name full_name texts xs) [] text ≡ list_any (λ x. list_any (bytes_eq text) (inside x)) xs
  inside_cut before xs text each alone =
      same_answers (cut_at_a_dot (holds_name full_name texts xs) [] text) (list_any (λ x. list_any (bytes_eq text) (inside x)) xs) (
      λ e.
      let cut : Cut (holds_name full_name texts xs) [] text = cut_where (holds_name full_name texts xs) [] text e in
      held xs text cut.scope cut.name (find (λ x. bytes_eq (full_name x) cut.scope) xs) each cut.whole refl cut.passes
      ) (λ e. holds before xs text each alone e)
