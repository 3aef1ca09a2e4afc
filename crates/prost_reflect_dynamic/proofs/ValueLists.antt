-- The values of a message's fields, and those of its extensions, slot by slot.
use Rattle.std.specs.Prelude.{◌≡◌, ◌∷◌, ◌++◌}
use Rattle.prost_reflect_dynamic.proofs.Common.{ℕ, Bool, true, false, cond, List, [], length, map, Option, Some, None, refl, ap, ap₂, sym, ◌∙◌, append_assoc, append-nil, true≢false, beq, keys_of, is_some, option_and_then, option_to_list, flat_map, zip, All, All-nil, All-cons, All-head, All-tail, Payload, Field, field_of, passes, kept_inside, kept_value, is_field_default, FieldSlot, value_in, stored_at, numbered, values_where, IsAscending, item_at, known_of, is_known, is_listed, IsSound, had_at, saying, value_present, unknown_present, number_listed, had_pairs, had_in, had_values, said, value_of, message_type_of, stored_in, payloads_of, DynamicMessage, PresentNumber, Value, records_of}
use Rattle.prost_reflect_wire.specs.Content as contents
use Rattle.prost_reflect_fields.specs.declared.slot.FieldSlot.TheVariants as entries
use Rattle.prost_reflect_dynamic.specs.declared.message.present.PresentNumber.TheVariants.{Field as FieldNumber, Extension as ExtensionNumber}
use Rattle.prost_reflect_dynamic.proofs.Had.{had_found}
use Rattle.prost_reflect_dynamic.proofs.PresentNumbers.{by_keys, present_of_item, present_items}

-- LISTS

pub flat_append : {A B : Type 0} (f : A → List B) (xs ys : List A) → flat_map f (xs ++ ys) ≡ flat_map f xs ++ flat_map f ys
flat_append f [] ys = refl
flat_append f (x ∷ xs) ys = ap (λ l. f x ++ l) (flat_append f xs ys) ∙ sym (append_assoc (f x) (flat_map f xs) (flat_map f ys))

pub flat_flat : {A B C : Type 0} (f : B → List C) (g : A → List B) (xs : List A) → flat_map f (flat_map g xs) ≡ flat_map (λ x. flat_map f (g x)) xs
flat_flat f g [] = refl
flat_flat f g (x ∷ xs) = flat_append f (g x) (flat_map g xs) ∙ ap (λ l. flat_map f (g x) ++ l) (flat_flat f g xs)

pub flat_same : {A B : Type 0} (f g : A → List B) (xs : List A) → ((x : A) → f x ≡ g x) → flat_map f xs ≡ flat_map g xs
flat_same f g xs h = λ i. flat_map (λ x. h x i) xs

-- ONE NUMBER

-- what a value is listed as, by whether the number is an extension's
abbrev pub row_lists : Bool → ℕ → Option contents.Value → List PresentNumber
row_lists b n None = []
row_lists b n (Some w) = cond b (ExtensionNumber n) (FieldNumber n) ∷ []

pub present_lists : (fields : List Field) (n : ℕ) (o : Option contents.Value) → option_to_list (value_present fields n o) ≡ row_lists (passes (field_of fields n) (λ f. f.is_extension)) n o
present_lists fields n None = refl
present_lists fields n (Some w) = refl

unknown_lists : (x : Bool) (n : ℕ) (ps : List Payload) → flat_map (number_listed x) (option_to_list (unknown_present n ps)) ≡ []
unknown_lists true n [] = refl
unknown_lists true n (p ∷ ps) = refl
unknown_lists false n [] = refl
unknown_lists false n (p ∷ ps) = refl

module _ (n : ℕ) (v : Value) (w : contents.Value) (here : ℕ → List (ℕ × Value)) (says : Value → Option Value) where
  -- by what the row says: whether it is an extension's, and whether the value says nothing
  by_row : (x b d : Bool) → says v ≡ cond d None (Some v) → here n ≡ numbered n (says v)
      → flat_map here (flat_map (number_listed x) (row_lists b n (cond d None (Some w)))) ≡ numbered n (option_and_then says (cond (beq x b) (Some v) None))
  by_row true true true s h = sym (ap (numbered n) s)
  by_row true true false s h = append-nil (here n) ∙ h
  by_row true false true s h = refl
  by_row true false false s h = refl
  by_row false true true s h = refl
  by_row false true false s h = refl
  by_row false false true s h = sym (ap (numbered n) s)
  by_row false false false s h = append-nil (here n) ∙ h

module _ (x : Bool) (fields : List Field) (n : ℕ) (here : ℕ → List (ℕ × Value)) where
  by_field : (v : Value) (o : Option Field) → is_some o ≡ true → here n ≡ numbered n (cond (passes o (λ f. is_field_default f (kept_inside (value_of v)))) None (Some v))
      → flat_map here (flat_map (number_listed x) (row_lists (passes o (λ f. f.is_extension)) n (kept_value o (kept_inside (value_of v)))))
      ≡ numbered n (option_and_then (λ v. cond (passes o (λ f. is_field_default f (kept_inside (value_of v)))) None (Some v)) (cond (passes o (λ f. beq x f.is_extension)) (Some v) None))
  by_field v None known h = absurd (true≢false (sym known))
  by_field v (Some f) known h = by_row n v (kept_inside (value_of v)) here (λ v. cond (is_field_default f (kept_inside (value_of v))) None (Some v)) x f.is_extension (is_field_default f (kept_inside (value_of v))) refl h

  value_listed : (v : Value) → is_known fields n ≡ true → here n ≡ numbered n (saying fields n v)
      → flat_map here (flat_map (number_listed x) (option_to_list (value_present fields n (kept_value (field_of fields n) (kept_inside (value_of v))))))
      ≡ numbered n (option_and_then (saying fields n) (cond (is_listed x fields n) (Some v) None))
  value_listed v known h =
      ap (λ l. flat_map here (flat_map (number_listed x) l)) (present_lists fields n (kept_value (field_of fields n) (kept_inside (value_of v))))
      ∙ by_field v (field_of fields n) known h

  no_value : (b : Bool) → [] ≡ numbered n (option_and_then (saying fields n) (cond b None None))
  no_value true = refl
  no_value false = refl

  -- what a number has is listed of its item
  pub item_listed : (o : Option (FieldSlot Value)) → (is_some (option_and_then value_in o) ≡ true → is_known fields n ≡ true) → here n ≡ numbered n (option_and_then (saying fields n) (option_and_then value_in o))
      → flat_map here (flat_map (number_listed x) (present_of_item fields n o)) ≡ numbered n (option_and_then (had_in x fields n) o)
  item_listed None known h = refl
  item_listed (Some (entries.Value v)) known h =
      ap (λ l. flat_map here (flat_map (number_listed x) l)) (append-nil (option_to_list (value_present fields n (kept_value (field_of fields n) (kept_inside (value_of v))))))
      ∙ value_listed v (known refl) h
  item_listed (Some (entries.Unknown u)) known h =
      ap (flat_map here) (unknown_lists x n (payloads_of (records_of u)))
      ∙ no_value (is_listed x fields n)
  item_listed (Some (entries.Both v u)) known h =
      ap (flat_map here)
      (flat_append (number_listed x) (option_to_list (value_present fields n (kept_value (field_of fields n) (kept_inside (value_of v))))) (option_to_list (unknown_present n (payloads_of (records_of u))))
      ∙ ap (λ l. flat_map (number_listed x) (option_to_list (value_present fields n (kept_value (field_of fields n) (kept_inside (value_of v))))) ++ l) (unknown_lists x n (payloads_of (records_of u)))
      ∙ append-nil (flat_map (number_listed x) (option_to_list (value_present fields n (kept_value (field_of fields n) (kept_inside (value_of v)))))))
      ∙ value_listed v (known refl) h

-- ALL NUMBERS

pub had_listed : (x : Bool) (m : DynamicMessage) → IsAscending (stored_in m) → IsSound (message_type_of m) (stored_in m) → had_values x (known_of (message_type_of m)) (stored_in m) ≡ had_pairs x m
had_listed x m s sound =
    sym (by_keys (λ n o. numbered n (option_and_then (had_in x fields n) o)) es s)
    ∙ sym (flat_same (λ n. flat_map here (flat_map (number_listed x) (present_of_item fields n (item_at es n)))) (λ n. numbered n (option_and_then (had_in x fields n) (item_at es n))) (keys_of es)
    (λ n. item_listed x fields n here (item_at es n) (sound.0 n) (ap (numbered n) (had_found m n (stored_at es n) s refl))))
    ∙ sym (flat_flat here (λ n. flat_map (number_listed x) (present_of_item fields n (item_at es n))) (keys_of es))
    ∙ ap (flat_map here) (sym (flat_flat (number_listed x) (λ n. present_of_item fields n (item_at es n)) (keys_of es)))
    ∙ ap (λ l. flat_map here (flat_map (number_listed x) l)) (sym (present_items m s))
  where
    es : List (ℕ × FieldSlot Value)
    es = stored_in m

    fields : List Field
    fields = known_of (message_type_of m)

    here : ℕ → List (ℕ × Value)
    here n = numbered n (had_at n m)

-- SLOT BY SLOT

module _ (x : Bool) (fields : List Field) where
  -- the next slot has a value
  pub had_here : (e : ℕ × FieldSlot Value) (v : Value) (items rest : List (ℕ × FieldSlot Value)) (whole : List (ℕ × Value)) → items ≡ e ∷ rest → Some v ≡ had_in x fields e.0 e.1 → had_values x fields items ≡ whole
      → whole ≡ (e.0, v) ∷ had_values x fields rest
  had_here e v items rest whole first is h = sym h ∙ ap (had_values x fields) first ∙ ap (λ o. numbered e.0 o ++ had_values x fields rest) (sym is)

-- TAKING

one_said : (fields : List Field) (n : ℕ) (o : Option Value) → flat_map (λ p. numbered p.0 (saying fields p.0 p.1)) (numbered n o) ≡ numbered n (option_and_then (saying fields n) o)
one_said fields n None = refl
one_said fields n (Some v) = append-nil (numbered n (saying fields n v))

-- those of the taken values that say something are what the slots have
pub said_taken : (x : Bool) (fields : List Field) (es : List (ℕ × FieldSlot Value)) → said fields (values_where (is_listed x fields) es) ≡ had_values x fields es
said_taken x fields [] = refl
said_taken x fields (e ∷ es) =
    flat_append (λ p. numbered p.0 (saying fields p.0 p.1)) (numbered e.0 (cond (is_listed x fields e.0) (value_in e.1) None)) (values_where (is_listed x fields) es)
    ∙ ap₂ (λ xs ys. xs ++ ys) (one_said fields e.0 (cond (is_listed x fields e.0) (value_in e.1) None)) (said_taken x fields es)

-- PAIRS

none_zipped : {D : Type 0} (ds : List D) → zip {K = D} {X = Value} ds [] ≡ []
none_zipped [] = refl
none_zipped (d ∷ ds) = refl

-- where no value is left, all pairs were made
pub all_paired : {D : Type 0} (ds : List D) (fields : List Field) (items : List (ℕ × Value)) (front all : List (D × Value)) → length items ≡ 0 → front ++ zip ds (map (λ p. p.1) (said fields items)) ≡ all → front ≡ all
all_paired ds fields [] front all none h = sym (append-nil front) ∙ ap (λ l. front ++ l) (sym (none_zipped ds)) ∙ h
all_paired ds fields (p ∷ items) front all none h = cc

module _ {D : Type 0} (number : D → ℕ) where
  pub numbers_zipped : (ds : List D) (ps : List (ℕ × Value)) → map number ds ≡ map (λ p. p.0) ps → map (λ p. (number p.0, p.1)) (zip ds (map (λ p. p.1) ps)) ≡ ps
  numbers_zipped [] [] h = refl
  numbers_zipped [] (p ∷ ps) h = cc
  numbers_zipped (d ∷ ds) [] h = cc
  numbers_zipped (d ∷ ds) (p ∷ ps) h =
      let first : number d ≡ p.0 = cc in
      let rest : map number ds ≡ map (λ p. p.0) ps = cc in
      ap₂ (λ n l. (n, p.1) ∷ l) first (numbers_zipped ds ps rest)

pub all_zipped : {D V : Type 0} (P : D → Type 0) (ds : List D) (vs : List V) → All P ds → All (λ p. P p.0) (zip ds vs)
all_zipped P [] vs h = All-nil (λ p. P p.0)
all_zipped P (d ∷ ds) [] h = All-nil (λ p. P p.0)
all_zipped P (d ∷ ds) (v ∷ vs) h = All-cons (λ p. P p.0) (d, v) (zip ds vs) (All-head P d ds h) (all_zipped P ds vs (All-tail P d ds h))
