-- What a message has as one list, slot by slot, and what a walk over it gives.
use Rattle.std.specs.Prelude.{◌≡◌, ◌∷◌, ◌++◌}
use Rattle.prost_reflect_dynamic.proofs.Common.{ℕ, Bool, true, false, cond, List, [], Option, Some, None, Bor, refl, ap, ap₂, sym, subst, ◌∙◌, append-nil, true≢false, and_parts, beq, AllByRecursion, keys_of, is_some, option_and_then, option_map, option_to_list, flat_map, Result, IfOk, IfSome, AllocError, Ok, Err, Record, Field, field_of, passes, kept, kept_inside, kept_value, is_field_default, records_of, UnknownFieldSet, PooledType, FieldSlot, records_in, stored_at, unknown_at, unknown_in, value_in, IsAscending, item_at, known_of, is_known, is_listed, all_kept, are_records_of, IsSound, unknown_kept, has_at, had_at, saying, GivesNext, present_in, unknown_present, value_present, PresentItem, FieldItem, ExtensionItem, UnknownItem, items_of, present_items, unknown_items, value_or, value_items, slot_items, all_items, present_left, present_steps, waiting_items, IsItem, IsOwn, NestsInside, value_of, content_of, message_type_of, stored_in, payloads_of, EachGiven, DynamicMessage, PresentNumber, Value}
use Rattle.prost_reflect_wire.specs.Content as contents
use Rattle.prost_reflect_fields.specs.declared.slot.FieldSlot.TheVariants as entries
use Rattle.prost_reflect_dynamic.specs.declared.message.lists.present_items.Present.{Present}
use Rattle.prost_reflect_dynamic.specs.declared.message.lists.present_items.Present.TheVariants as given
use Rattle.prost_reflect_dynamic.specs.declared.message.lists.present_items.PresentItems.{PresentItems}
use Rattle.prost_reflect_dynamic.specs.declared.message.present.PresentNumber.TheVariants.{Field as FieldNumber, Extension as ExtensionNumber, Unknown as UnknownNumber}
use Rattle.prost_reflect_dynamic.proofs.Depths.{Small, flat, had_small}
use Rattle.prost_reflect_dynamic.proofs.Had.{had_found}
use Rattle.prost_reflect_dynamic.proofs.PresentNumbers.{by_keys, present_of_item, present_items as numbers_of_items}
use Rattle.prost_reflect_dynamic.proofs.ValueLists.{flat_append, flat_flat, flat_same, row_lists, present_lists}
use Rattle.prost_reflect_walks.proofs.Walks.{gives}

-- ONE NUMBER

module _ (m : DynamicMessage) (n : ℕ) where
  -- by what the row says: whether it is an extension's, and whether the value says nothing
  by_row : (v : Value) (w : contents.Value) (says : Value → Option Value) (b d : Bool) → says v ≡ cond d None (Some v) → had_at n m ≡ says v
      → flat_map (items_of m) (row_lists b n (cond d None (Some w))) ≡ value_or n (option_and_then says (cond (beq false b) (Some v) None)) (option_and_then says (cond (beq true b) (Some v) None))
  by_row v w says true true s h = sym (ap (λ o. option_to_list (option_map (ExtensionItem n) o)) s)
  by_row v w says true false s h = append-nil (option_to_list (option_map (ExtensionItem n) (had_at n m))) ∙ ap (λ o. option_to_list (option_map (ExtensionItem n) o)) h
  by_row v w says false true s h = sym (ap (λ o. value_or n o None) s)
  by_row v w says false false s h =
      append-nil (option_to_list (option_map (FieldItem n) (had_at n m)))
      ∙ ap (λ o. option_to_list (option_map (FieldItem n) o)) (h ∙ s)
      ∙ sym (ap (λ o. value_or n o None) s)

  by_field : (v : Value) (o : Option Field) → is_some o ≡ true → had_at n m ≡ cond (passes o (λ f. is_field_default f (kept_inside (value_of v)))) None (Some v)
      → flat_map (items_of m) (row_lists (passes o (λ f. f.is_extension)) n (kept_value o (kept_inside (value_of v))))
      ≡ value_or n
      (option_and_then (λ v. cond (passes o (λ f. is_field_default f (kept_inside (value_of v)))) None (Some v)) (cond (passes o (λ f. beq false f.is_extension)) (Some v) None))
      (option_and_then (λ v. cond (passes o (λ f. is_field_default f (kept_inside (value_of v)))) None (Some v)) (cond (passes o (λ f. beq true f.is_extension)) (Some v) None))
  by_field v None known h = absurd (true≢false (sym known))
  by_field v (Some f) known h = by_row v (kept_inside (value_of v)) (λ v. cond (is_field_default f (kept_inside (value_of v))) None (Some v)) f.is_extension (is_field_default f (kept_inside (value_of v))) refl h

  module _ (fields : List Field) where
    abbrev listed_value : Value → List PresentNumber
    listed_value v = option_to_list (value_present fields n (kept_value (field_of fields n) (kept_inside (value_of v))))

    value_here : (v : Value) → is_known fields n ≡ true → had_at n m ≡ saying fields n v
        → flat_map (items_of m) (listed_value v)
        ≡ value_or n (option_and_then (saying fields n) (cond (is_listed false fields n) (Some v) None)) (option_and_then (saying fields n) (cond (is_listed true fields n) (Some v) None))
    value_here v known h =
        ap (flat_map (items_of m)) (present_lists fields n (kept_value (field_of fields n) (kept_inside (value_of v))))
        ∙ by_field v (field_of fields n) known h

    no_value : (x y : Bool) → value_or n (option_and_then (saying fields n) (cond x None None)) (option_and_then (saying fields n) (cond y None None)) ≡ []
    no_value true true = refl
    no_value true false = refl
    no_value false true = refl
    no_value false false = refl

    unknown_here : (u : UnknownFieldSet) (rs : List Record) → unknown_kept fields n (Some rs) ≡ true → unknown_at (stored_in m) n ≡ Some u
        → flat_map (items_of m) (option_to_list (unknown_present n (payloads_of rs))) ≡ UnknownItem n u ∷ []
    unknown_here u [] k h = absurd (true≢false (sym (and_parts (all_kept fields n []) (are_records_of n []) k).1))
    unknown_here u (r ∷ rs) k h = append-nil (unknown_items n (unknown_at (stored_in m) n)) ∙ ap (unknown_items n) h

    abbrev at_item : Option (FieldSlot Value) → List PresentItem
    at_item None = []
    at_item (Some slot) = slot_items fields (n, slot)

    -- what is present at a number is what its item has
    item_here : (o : Option (FieldSlot Value)) → (is_some (option_and_then value_in o) ≡ true → is_known fields n ≡ true) → unknown_kept fields n (option_and_then records_in o) ≡ true
        → had_at n m ≡ option_and_then (saying fields n) (option_and_then value_in o) → unknown_at (stored_in m) n ≡ option_and_then unknown_in o
        → flat_map (items_of m) (present_of_item fields n o) ≡ at_item o
    item_here None known k h u = refl
    item_here (Some (entries.Value v)) known k h u =
        ap (flat_map (items_of m)) (append-nil (listed_value v))
        ∙ value_here v (known refl) h
        ∙ sym (append-nil (value_items fields n (entries.Value v)))
    item_here (Some (entries.Unknown set)) known k h u =
        unknown_here set (records_of set) k u
        ∙ sym (ap (λ l. l ++ (UnknownItem n set ∷ [])) (no_value (is_listed false fields n) (is_listed true fields n)))
    item_here (Some (entries.Both v set)) known k h u =
        flat_append (items_of m) (listed_value v) (option_to_list (unknown_present n (payloads_of (records_of set))))
        ∙ ap₂ (λ xs ys. xs ++ ys) (value_here v (known refl) h) (unknown_here set (records_of set) k u)

-- ALL NUMBERS

pub all_listed : (m : DynamicMessage) → IsAscending (stored_in m) → IsSound (message_type_of m) (stored_in m) → all_items (known_of (message_type_of m)) (stored_in m) ≡ present_items m
all_listed m s sound =
    sym (by_keys (λ n o. at_item m n fields o) es s)
    ∙ sym (flat_same (λ n. flat_map (items_of m) (present_of_item fields n (item_at es n))) (λ n. at_item m n fields (item_at es n)) (keys_of es)
    (λ n. item_here m n fields (item_at es n) (sound.0 n) (sound.1 n) (had_found m n (stored_at es n) s refl) refl))
    ∙ sym (flat_flat (items_of m) (λ n. present_of_item fields n (item_at es n)) (keys_of es))
    ∙ ap (flat_map (items_of m)) (sym (numbers_of_items m s))
  where
    es : List (ℕ × FieldSlot Value)
    es = stored_in m

    fields : List Field
    fields = known_of (message_type_of m)

-- SLOT BY SLOT

value_first : (t : PooledType) (vs us rest : List PresentItem) (x : Result Present AllocError) → GivesNext (IsItem t) vs (Some x) [] → GivesNext (IsItem t) ((vs ++ us) ++ rest) (Some x) (us ++ rest)
value_first t [] us rest x g = absurd g
value_first t (v ∷ vs) us rest x g = (ap (λ l. (l ++ us) ++ rest) g.0, g.1)

-- the value of the next slot is given in front of all that is left
pub value_given : (t now : PooledType) (waiting unknown : Option (ℕ × Bor UnknownFieldSet)) (e : ℕ × FieldSlot Value) (items rest : List (ℕ × FieldSlot Value)) (whole : List PresentItem) (x : Result Present AllocError)
    → now ≡ t → waiting ≡ None → items ≡ e ∷ rest → waiting_items unknown ≡ unknown_items e.0 (unknown_in e.1) → waiting_items waiting ++ all_items (known_of now) items ≡ whole
    → GivesNext (IsItem now) (value_items (known_of now) e.0 e.1) (Some x) [] → GivesNext (IsItem t) whole (Some x) (waiting_items unknown ++ all_items (known_of now) rest)
value_given t now waiting unknown e items rest whole x same none first us is g =
    subst (λ l. GivesNext (IsItem t) l (Some x) (waiting_items unknown ++ behind)) laid
    (value_first t (value_items (known_of now) e.0 e.1) (waiting_items unknown) behind x (subst (λ q. GivesNext (IsItem q) (value_items (known_of now) e.0 e.1) (Some x) []) same g))
  where
    behind : List PresentItem
    behind = all_items (known_of now) rest

    laid : (value_items (known_of now) e.0 e.1 ++ waiting_items unknown) ++ behind ≡ whole
    laid =
        ap (λ l. (value_items (known_of now) e.0 e.1 ++ l) ++ behind) us
        ∙ ap (all_items (known_of now)) (sym first)
        ∙ ap (λ w. waiting_items w ++ all_items (known_of now) items) (sym none)
        ∙ is

-- WHAT A WALK GIVES

module _ (m : DynamicMessage) where
  abbrev SmallItem : PresentItem → Type 0
  SmallItem (FieldItem n v) = Small m v
  SmallItem (ExtensionItem n v) = Small m v
  SmallItem (UnknownItem n u) = Unit {0}

  listed_small : (item : Value → PresentItem) → ((v : Value) → Small m v → SmallItem (item v)) → (o : Option Value) → IfSome o (Small m) → AllByRecursion SmallItem (option_to_list (option_map item o))
  listed_small item small None h = tt
  listed_small item small (Some v) h = (small v h, tt)

  unknown_small : (n : ℕ) (o : Option UnknownFieldSet) → AllByRecursion SmallItem (unknown_items n o)
  unknown_small n None = tt
  unknown_small n (Some u) = (tt, tt)

  number_small : (p : PresentNumber) → AllByRecursion SmallItem (items_of m p)
  number_small (FieldNumber n) = listed_small (FieldItem n) (λ v h. h) (had_at n m) (had_small m n (has_at n (content_of m)))
  number_small (ExtensionNumber n) = listed_small (ExtensionItem n) (λ v h. h) (had_at n m) (had_small m n (has_at n (content_of m)))
  number_small (UnknownNumber n count) = unknown_small n (unknown_at (stored_in m) n)

  all_small : AllByRecursion SmallItem (present_items m)
  all_small = flat SmallItem (items_of m) number_small (present_in (kept (content_of m)))

  given_small : (t : PooledType) (item : PresentItem) (x : Present) → SmallItem item → IsItem t item x → NestsInside m x
  given_small t (FieldItem n v) (given.Field field value) s h = subst (Small m) (sym h.2) s
  given_small t (FieldItem n v) (given.Extension extension value) s h = absurd h
  given_small t (FieldItem n v) (given.Unknown number unknown) s h = tt
  given_small t (ExtensionItem n v) (given.Field field value) s h = absurd h
  given_small t (ExtensionItem n v) (given.Extension extension value) s h = subst (Small m) (sym h.2) s
  given_small t (ExtensionItem n v) (given.Unknown number unknown) s h = tt
  given_small t (UnknownItem n u) (given.Field field value) s h = absurd h
  given_small t (UnknownItem n u) (given.Extension extension value) s h = absurd h
  given_small t (UnknownItem n u) (given.Unknown number unknown) s h = tt

  next_small : (t : PooledType) (old new : List PresentItem) (x : Result Present AllocError) → AllByRecursion SmallItem old → GivesNext (IsItem t) old (Some x) new → IfOk x (NestsInside m) × AllByRecursion SmallItem new
  next_small t [] new x h g = absurd g
  next_small t (item ∷ old) new (Ok x) h g = (given_small t item x h.0 g.1, subst (AllByRecursion SmallItem) (sym g.0) h.1)
  next_small t (item ∷ old) new (Err e) h g = (tt, subst (AllByRecursion SmallItem) (sym g.0) h.1)

  pub present_inside : (it : PresentItems) → present_left it ≡ present_items m → EachGiven present_steps (NestsInside m) it
  present_inside it is = gives present_steps (λ s. AllByRecursion SmallItem (present_left s)) (NestsInside m)
      (λ s t x h g. next_small s.message_type.now (present_left s) (present_left t) x h g.0) it (subst (AllByRecursion SmallItem) (sym is) all_small)

  given_own : (t : PooledType) (item : PresentItem) (x : Present) → IsItem t item x → IsOwn t x
  given_own t (FieldItem n v) (given.Field field value) h = h.0
  given_own t (FieldItem n v) (given.Extension extension value) h = absurd h
  given_own t (FieldItem n v) (given.Unknown number unknown) h = tt
  given_own t (ExtensionItem n v) (given.Field field value) h = absurd h
  given_own t (ExtensionItem n v) (given.Extension extension value) h = h.0
  given_own t (ExtensionItem n v) (given.Unknown number unknown) h = tt
  given_own t (UnknownItem n u) (given.Field field value) h = absurd h
  given_own t (UnknownItem n u) (given.Extension extension value) h = absurd h
  given_own t (UnknownItem n u) (given.Unknown number unknown) h = tt

  next_own : (t : PooledType) (old new : List PresentItem) (x : Result Present AllocError) → t ≡ message_type_of m → GivesNext (IsItem t) old (Some x) new → IfOk x (IsOwn (message_type_of m))
  next_own t [] new x is g = absurd g
  next_own t (item ∷ old) new (Ok x) is g = subst (λ d. IsOwn d x) is (given_own t item x g.1)
  next_own t (item ∷ old) new (Err e) is g = tt

  pub present_own : (it : PresentItems) → it.message_type.now ≡ message_type_of m → EachGiven present_steps (IsOwn (message_type_of m)) it
  present_own it is = gives present_steps (λ s. s.message_type.now ≡ message_type_of m) (IsOwn (message_type_of m))
      (λ s t x h g. (next_own s.message_type.now (present_left s) (present_left t) x h g.0, ap (λ (b : Bor PooledType). b.now) g.1 ∙ h)) it is
