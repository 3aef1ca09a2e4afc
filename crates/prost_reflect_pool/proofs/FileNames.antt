-- No two files of a pool have one name, so all of them are taken where they are added to none.
use Rattle.std.specs.Prelude.{◌≡◌, ◌&&◌, ◌||◌, ◌∷◌, ◌++◌}
use Rattle.prost_reflect_pool.proofs.Common.{Bool, true, false, not, List, [], filter, length, nat_eq, refl, ap, ap₂, ◌∙◌, bytes_eq, AllZip, list_any, and_parts, not-true, FileDescriptorProto, have_one_name, first_of_name, is_there, added, names_differ}
use Rattle.prost_reflect_types.proofs.EqualContents.{SameFile}
use Rattle.prost_reflect_tables.proofs.SameRows.{zip_any, text_same}

pub none_differ : names_differ [] ≡ true
unfolding names_differ
none_differ = refl

-- ONE FILE MORE

neither : (a b : Bool) → (a || b) ≡ false → (a ≡ false) × (b ≡ false)
neither true b e = cc
neither false b e = (refl, e)

any_push : {X : Type 0} (p : X → Bool) (xs : List X) (x : X) → list_any p xs ≡ false → p x ≡ false → list_any p (xs ++ x ∷ []) ≡ false
any_push p [] x none last = rw last refl
any_push p (y ∷ ys) x none last = let (first, rest) = neither (p y) (list_any p ys) none in rw (first, any_push p ys x rest last) refl

pub differ_more : (files : List FileDescriptorProto) (f : FileDescriptorProto) → is_there files f ≡ false → names_differ files ≡ true → names_differ (files ++ f ∷ []) ≡ true
unfolding names_differ
differ_more [] f new h = refl
differ_more (g ∷ files) f new h =
    let (alone, rest) = and_parts _ _ h in
    let (other, new_behind) = neither (have_one_name g f) (is_there files f) new in
    rw (any_push (have_one_name g) files f (not-true _ alone) other) (differ_more files f new_behind rest)

-- ALL ARE TAKEN

none_left_out : {X : Type 0} (p : X → Bool) (xs : List X) → list_any p xs ≡ false → filter (λ x. not (p x)) xs ≡ xs
none_left_out p [] none = refl
none_left_out p (x ∷ xs) none = let (first, rest) = neither (p x) (list_any p xs) none in rw first (ap (λ l. x ∷ l) (none_left_out p xs rest))

none_there : (files : List FileDescriptorProto) → list_any (is_there []) files ≡ false
none_there [] = refl
none_there (f ∷ files) = none_there files

all_first : (files : List FileDescriptorProto) → names_differ files ≡ true → first_of_name files ≡ files
unfolding names_differ
all_first [] h = refl
all_first (f ∷ files) h =
    let (alone, rest) = and_parts _ _ h in
    ap (λ l. f ∷ filter (λ g. not (have_one_name f g)) l) (all_first files rest)
    ∙ ap (λ l. f ∷ l) (none_left_out (have_one_name f) files (not-true _ alone))

pub all_taken : (files : List FileDescriptorProto) → names_differ files ≡ true → added [] files ≡ files
all_taken files h =
    ap (filter (λ f. not (is_there [] f))) (all_first files h) ∙ none_left_out (is_there []) files (none_there files)

-- EQUAL FILES

one_name_same : (f g x y : FileDescriptorProto) → SameFile f g → SameFile x y → have_one_name f x ≡ have_one_name g y
one_name_same f g x y own other =
    let own_text = text_same f.name g.name own.name in
    let other_text = text_same x.name y.name other.name in
    λ i. not (nat_eq (length (own_text i)) 0) && bytes_eq (own_text i) (other_text i)

pub differ_same : (a b : List FileDescriptorProto) → AllZip SameFile a b → names_differ a ≡ names_differ b
unfolding names_differ
differ_same [] [] h = refl
differ_same [] (g ∷ b) h = absurd h
differ_same (f ∷ a) [] h = absurd h
differ_same (f ∷ a) (g ∷ b) h =
    ap₂ (λ p q. not p && q) (zip_any SameFile (have_one_name f) (have_one_name g) (λ x y e. one_name_same f g x y h.0 e) a b h.1) (differ_same a b h.1)
