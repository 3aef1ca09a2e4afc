-- No two definitions of files that pass the checks have one full name.
use Rattle.std.specs.Prelude.{◌≡◌, ◌≢◌, ◌||◌, ◌∷◌, ◌++◌}
use Rattle.prost_reflect_pool.proofs.Common.{ℕ, zero, suc, false, List, [], Some, refl, sym, ap, ◌∙◌, true≢false, slice_get, option_map, list_any, bytes_eq, or_parts, or_from, append-nil, append_assoc, same_Some, slice_get-map, FieldDescriptorProto, FileDescriptorProto, Checked, names_of, names_in_messages, names_in_enums, names_in_services, repeats, DefinitionRow, FlatRows}
use Rattle.std.proofs.lemmas.List.Folds.{list_any-append}
use Rattle.std.proofs.lemmas.Slice.Eq.{bytes_eq-Decides}
use Rattle.prost_reflect_tables.specs.declared.error.PoolError.TheVariants as errors

-- NAMES THAT DO NOT REPEAT

head_parts : (before names : List (List ℕ)) (m : List ℕ) → repeats before (m ∷ names) ≡ false → (list_any (bytes_eq m) before ≡ false) × (repeats (before ++ m ∷ []) names ≡ false)
head_parts before names m h = or_parts (list_any (bytes_eq m) before) (repeats (before ++ m ∷ []) names) h

-- A name that does not stand among names with one more behind them stands not among them, and is not that one.
apart : (before : List (List ℕ)) (m n : List ℕ) → list_any (bytes_eq n) (before ++ m ∷ []) ≡ false → (list_any (bytes_eq n) before ≡ false) × (bytes_eq n m ≡ false)
apart before m n h =
    let parts = or_parts (list_any (bytes_eq n) before) (bytes_eq n m || false) (sym (list_any-append (bytes_eq n) before (m ∷ [])) ∙ h) in
    (parts.0, (or_parts (bytes_eq n m) false parts.1).0)

none_before : (before names : List (List ℕ)) (i : ℕ) (n : List ℕ) → repeats before names ≡ false → slice_get names i ≡ Some n → list_any (bytes_eq n) before ≡ false
none_before before [] i n h at = absurd cc
none_before before (m ∷ names) zero n h at = ap (λ k. list_any (bytes_eq k) before) (sym (same_Some m n at)) ∙ (head_parts before names m h).0
none_before before (m ∷ names) (suc i) n h at = (apart before m n (none_before (before ++ m ∷ []) names i n (head_parts before names m h).1 at)).0

none_behind : (before names : List (List ℕ)) (m n : List ℕ) (i : ℕ) → repeats before (m ∷ names) ≡ false → slice_get names i ≡ Some n → m ≢ n
none_behind before names m n i h at same =
    let differ = (apart before m n (none_before (before ++ m ∷ []) names i n (head_parts before names m h).1 at)).1 in
    true≢false (sym ((bytes_eq-Decides n m).1 (sym same)) ∙ differ)

once : (before names : List (List ℕ)) (i j : ℕ) (n : List ℕ) → repeats before names ≡ false → slice_get names i ≡ Some n → slice_get names j ≡ Some n → i ≡ j
once before [] i j n h at there = absurd cc
once before (m ∷ names) zero zero n h at there = refl
once before (m ∷ names) zero (suc j) n h at there = absurd (none_behind before names m n j h there (same_Some m n at))
once before (m ∷ names) (suc i) zero n h at there = absurd (none_behind before names m n i h at (same_Some m n there))
once before (m ∷ names) (suc i) (suc j) n h at there = ap suc (once (before ++ m ∷ []) names i j n (head_parts before names m h).1 at there)

-- PARTS OF A LIST

pub front_alone : (before xs ys : List (List ℕ)) → repeats before (xs ++ ys) ≡ false → repeats before xs ≡ false
front_alone before [] ys h = refl
front_alone before (x ∷ xs) ys h =
    let parts = head_parts before (xs ++ ys) x h in
    or_from (list_any (bytes_eq x) before) (repeats (before ++ x ∷ []) xs) parts.0 (front_alone (before ++ x ∷ []) xs ys parts.1)

pub back_alone : (before xs ys : List (List ℕ)) → repeats before (xs ++ ys) ≡ false → repeats (before ++ xs) ys ≡ false
back_alone before [] ys h = ap (λ l. repeats l ys) (append-nil before) ∙ h
back_alone before (x ∷ xs) ys h =
    ap (λ l. repeats l ys) (sym (append_assoc before (x ∷ []) xs)) ∙ back_alone (before ++ x ∷ []) xs ys (head_parts before (xs ++ ys) x h).1

-- EXTENSIONS

-- Extensions of one full name stand at one place.
pub one_place : (files : List FileDescriptorProto) (flat : FlatRows) → Checked files flat → (i j : ℕ) (d e : DefinitionRow FieldDescriptorProto) → slice_get flat.extensions i ≡ Some d → slice_get flat.extensions j ≡ Some e → d.full_name ≡ e.full_name → i ≡ j
one_place files flat checked i j d e at there same =
    let messages = names_in_messages flat.messages in
    let enums = names_in_enums flat.enums in
    let extensions = names_of flat.extensions in
    let services = names_in_services flat.services in
    let front = front_alone [] (messages ++ enums ++ extensions) services (checked errors.DuplicateName) in
    let alone = back_alone [] (messages ++ enums) extensions front in
    once ([] ++ (messages ++ enums)) extensions i j e.full_name alone (named i d at ∙ ap Some same) (named j e there)
  where
    named : (k : ℕ) (x : DefinitionRow FieldDescriptorProto) → slice_get flat.extensions k ≡ Some x → slice_get (names_of flat.extensions) k ≡ Some x.full_name
    named k x found = slice_get-map (λ (d : DefinitionRow FieldDescriptorProto). d.full_name) flat.extensions k ∙ ap (option_map (λ (d : DefinitionRow FieldDescriptorProto). d.full_name)) found
