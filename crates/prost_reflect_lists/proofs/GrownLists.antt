-- The lists of a pool's messages, where files are added.
use Rattle.std.specs.Prelude.{◌≡◌, ◌+◌, ◌<◌, ◌≤◌, ◌∷◌, ◌++◌}
use Rattle.std.specs.List.{list_any}
use Rattle.std.specs.Prelude.{slice_get, slice_set, option_map}
use Rattle.std.proofs.Common.{zero, suc, Bool, Some, None, ap₂, add-one, length-append}
use Rattle.std.proofs.lemmas.Bool.{or_parts}
use Rattle.std.proofs.lemmas.Option.{slice_get-get_or, slice_get-map, slice_get_within, same_Some}
use Rattle.prost_reflect_lists.proofs.Common.{ℕ, true, false, cond, List, [], map, length, drop, get_or, Option, refl, sym, ap, ◌∙◌, arith, length-map, Vec, Global, places_from, filter, extended_place, links_of, linked_field, each_from, linked_lists, ResolvedRow, DefinitionRow, TableRows}
use Rattle.prost_reflect_base.specs.Below.{rows_below, tables_below, catalog_below}
use Rattle.prost_reflect_base.specs.declared.Base.{Base}
use Rattle.prost_reflect_base.proofs.Linked.{catalog_is, rows_are}
use Rattle.prost_reflect_growth.proofs.CatalogGrow.{lists_stay}
use Rattle.prost_reflect_growth.proofs.FirstPlaces.{elsewhere}
use Rattle.prost_reflect_growth.specs.CatalogGrow.{further_places, grown_lists, grown_lists_from}
use Rattle.prost_reflect_growth.specs.FirstPlaces.{is_below}
use Rattle.prost_reflect_growth.specs.RowsGrow.{grown_message, further, added_messages, grown_rows}
use Rattle.prost_reflect_tables.specs.CatalogRows.{MessageListsRow, CatalogRows}
use Rattle.prost_reflect_tables.specs.Flat.{FlatRows, behind}
use Rattle.prost_reflect_tables.specs.Linking.{Links, is_place, linked_rows}
use Rattle.prost_reflect_tables.specs.Resolved.{resolve}
use Rattle.prost_reflect_tables.specs.Rows.{MessageRow, message_row}
use Rattle.prost_reflect_tables.specs.declared.tables.MessageTable.{MessageTable}
use Rattle.prost_reflect_tables.proofs.Linkwell.Items.{messages_length}
use Rattle.prost_reflect_tables.proofs.CatalogParts.{linked_length}
use Rattle.prost_reflect_types.specs.declared.FieldDescriptorProto.{FieldDescriptorProto}
use Rattle.prost_reflect_resolving.proofs.LookedUp.{slice_in_front}
use Rattle.prost_reflect_growth.specs.GatheredFrom.{gathered_from}
use Rattle.prost_reflect_lists.specs.GatheredLists.{with_further, AreFurther}

-- WHICH MESSAGES ARE EXTENDED

extends_same : (links : Links) (d : DefinitionRow FieldDescriptorProto) → (resolve links d).extendee ≡ extended_place links d
unfolding resolve
extends_same links d = refl

extending_row : (links : Links) (T i : ℕ) (ds : List (DefinitionRow FieldDescriptorProto)) → places_from (λ (r : ResolvedRow). is_place T r.extendee) i (map (resolve links) ds) ≡ places_from (λ d. is_place T (extended_place links d)) i ds
extending_row links T i [] = refl
extending_row links T i (d ∷ ds) =
    ap₂ (λ (p : Option ℕ) (l : List ℕ). cond (is_place T p) (i ∷ l) l) (extends_same links d) (extending_row links T (i + 1) ds)

-- What is resolved extends what the definitions extend.
pub extending_from : (links : Links) (i : ℕ) (ds : List (DefinitionRow FieldDescriptorProto)) (T n : ℕ) → gathered_from (λ (r : ResolvedRow). r.extendee) i (map (resolve links) ds) T n ≡ gathered_from (extended_place links) i ds T n
extending_from links i ds T zero = refl
extending_from links i ds T (suc n) = ap₂ (λ (l : List ℕ) (ls : List (List ℕ)). l ∷ ls) (extending_row links T i ds) (extending_from links i ds (T + 1) n)

-- None of the definitions extends one of the first messages.
pub none_below : (links : Links) (n T i : ℕ) (ds : List (DefinitionRow FieldDescriptorProto)) → list_any (λ (r : ResolvedRow). is_below n r.extendee) (map (resolve links) ds) ≡ false → T < n →
    places_from (λ d. is_place T (extended_place links d)) i ds ≡ []
none_below links n T i [] e h = refl
none_below links n T i (d ∷ ds) e h =
    let parts = or_parts (is_below n (resolve links d).extendee) (list_any (λ (r : ResolvedRow). is_below n r.extendee) (map (resolve links) ds)) e in
    let other : is_place T (extended_place links d) ≡ false = elsewhere n T (extended_place links d) (ap (is_below n) (sym (extends_same links d)) ∙ parts.0) h in
    ap (λ b. cond b (i ∷ places_from (λ d. is_place T (extended_place links d)) (i + 1) ds) (places_from (λ d. is_place T (extended_place links d)) (i + 1) ds)) other ∙ none_below links n T (i + 1) ds parts.1 h

gathered_length : {X : Type 0} (owner : X → Option ℕ) (i : ℕ) (xs : List X) (T n : ℕ) → length (gathered_from owner i xs T n) ≡ n
gathered_length owner i xs T zero = refl
gathered_length owner i xs T (suc n) = ap suc (gathered_length owner i xs (T + 1) n)

-- Lists of all old messages.
pub further_all : (old new : FlatRows) (lists : List (Vec ℕ Global)) (count : ℕ) → count ≡ length old.messages →
    map (λ (l : Vec ℕ Global). l.items) lists ≡ gathered_from (extended_place (links_of (behind old new))) (length old.extensions) new.extensions 0 count → AreFurther lists old new
further_all old new lists count all e =
    let owner = extended_place (links_of (behind old new)) in
    let long : length lists ≡ count = sym (length-map lists (λ (l : Vec ℕ Global). l.items)) ∙ (ap (λ (ls : List (List ℕ)). length ls) e ∙ gathered_length owner (length old.extensions) new.extensions 0 count) in
    record {
      places = e ∙ ap (gathered_from owner (length old.extensions) new.extensions 0) (sym long);
      few = omega (arith, long, all);
      rest = λ T past less. absurd (omega (arith, long, all, past, less));
    }

-- No lists, where no added extension extends an old message.
pub further_none : (old new : FlatRows) (lists : List (Vec ℕ Global)) (count : ℕ) → lists ≡ [] → count ≡ length old.messages →
    list_any (λ (r : ResolvedRow). is_below count r.extendee) (map (resolve (links_of (behind old new))) new.extensions) ≡ false → AreFurther lists old new
further_none old new lists count none all e =
    let links = links_of (behind old new) in
    let size : length lists ≡ 0 = ap (λ (l : List (Vec ℕ Global)). length l) none in
    record {
      places = ap (map (λ (l : Vec ℕ Global). l.items)) none ∙ ap (gathered_from (extended_place links) (length old.extensions) new.extensions 0) (sym size);
      few = omega (arith, size);
      rest = λ T past less. none_below links count T (length old.extensions) new.extensions e (omega (arith, less, all));
    }

-- Those of a message are the list at its place.
pub further_at : (old new : FlatRows) (lists : List (Vec ℕ Global)) (T : ℕ) (v : Vec ℕ Global) → AreFurther lists old new → T < length lists → v ≡ get_or lists T v → v.items ≡ further_places old new T
further_at old new lists T v all less at =
    let owner = extended_place (links_of (behind old new)) in
    let there : slice_get lists T ≡ Some v = slice_get-get_or lists T v less ∙ ap Some (sym at) in
    same_Some v.items (further_places old new T) (sym (slice_get-map (λ (l : Vec ℕ Global). l.items) lists T ∙ ap (option_map (λ (l : Vec ℕ Global). l.items)) there) ∙ (ap (λ (ls : List (List ℕ)). slice_get ls T) all.places ∙ (gathered_there owner (length old.extensions) new.extensions 0 (length lists) T less ∙ ap (λ U. Some (further_places old new U)) (omega arith))))
  where
    gathered_there : {X : Type 0} (owner : X → Option ℕ) (i : ℕ) (xs : List X) (T n k : ℕ) → k < n → slice_get (gathered_from owner i xs T n) k ≡ Some (places_from (λ x. is_place (T + k) (owner x)) i xs)
    gathered_there owner i xs T zero k h = absurd (omega (arith, h))
    gathered_there owner i xs T (suc n) zero h = ap (λ U. Some (places_from (λ x. is_place U (owner x)) i xs)) (omega arith)
    gathered_there owner i xs T (suc n) (suc k) h = gathered_there owner i xs (T + 1) n k (omega (arith, h)) ∙ ap (λ U. Some (places_from (λ x. is_place U (owner x)) i xs)) (omega arith)

-- LISTS THAT ARE CHANGED AT PLACES

-- The first so many items of one list, and the rest of another.
abbrev pub mixed : {X : Type 0} → ℕ → List X → List X → List X
mixed zero gs xs = xs
mixed (suc k) (g ∷ gs) (x ∷ xs) = g ∷ mixed k gs xs
mixed (suc k) gs xs = []

mixed_set : {X : Type 0} (k : ℕ) (gs xs : List X) (g : X) → slice_get gs k ≡ Some g → k < length xs → slice_set (mixed k gs xs) k g ≡ mixed (suc k) gs xs
mixed_set zero [] xs g e h = absurd cc
mixed_set zero (y ∷ gs) [] g e h = absurd (omega (arith, h))
mixed_set zero (y ∷ gs) (x ∷ xs) g e h = ap (λ z. z ∷ xs) (sym (same_Some y g e))
mixed_set (suc k) [] xs g e h = absurd cc
mixed_set (suc k) (y ∷ gs) [] g e h = absurd (omega (arith, h))
mixed_set (suc k) (y ∷ gs) (x ∷ xs) g e h = ap (λ l. y ∷ l) (mixed_set k gs xs g e (omega (arith, h)))

mixed_kept : {X : Type 0} (k : ℕ) (gs xs : List X) → slice_get gs k ≡ slice_get xs k → k < length xs → mixed k gs xs ≡ mixed (suc k) gs xs
mixed_kept zero gs [] e h = absurd (omega (arith, h))
mixed_kept zero [] (x ∷ xs) e h = absurd cc
mixed_kept zero (g ∷ gs) (x ∷ xs) e h = ap (λ z. z ∷ xs) (sym (same_Some g x e))
mixed_kept (suc k) gs [] e h = absurd (omega (arith, h))
mixed_kept (suc k) [] (x ∷ xs) e h = refl
mixed_kept (suc k) (g ∷ gs) (x ∷ xs) e h = ap (λ l. g ∷ l) (mixed_kept k gs xs e (omega (arith, h)))

mixed_long : {X : Type 0} (k : ℕ) (gs xs : List X) → length gs ≡ length xs → length (mixed k gs xs) ≡ length xs
mixed_long zero gs xs size = refl
mixed_long (suc k) [] [] size = refl
mixed_long (suc k) [] (x ∷ xs) size = absurd (omega (arith, size))
mixed_long (suc k) (g ∷ gs) [] size = absurd (omega (arith, size))
mixed_long (suc k) (g ∷ gs) (x ∷ xs) size = ap suc (mixed_long k gs xs (omega (arith, size)))

same_places : {X : Type 0} (gs xs : List X) → ((k : ℕ) → slice_get gs k ≡ slice_get xs k) → xs ≡ gs
same_places [] [] h = refl
same_places [] (x ∷ xs) h = let e = h 0 in absurd cc
same_places (g ∷ gs) [] h = let e = h 0 in absurd cc
same_places (g ∷ gs) (x ∷ xs) h = ap₂ (λ y ys. y ∷ ys) (sym (same_Some g x (h 0))) (same_places gs xs (λ k. h (suc k)))

mixed_all : {X : Type 0} (n : ℕ) (gs xs : List X) → ((k : ℕ) → n ≤ k → slice_get gs k ≡ slice_get xs k) → length gs ≡ length xs → mixed n gs xs ≡ gs
mixed_all zero gs xs h size = same_places gs xs (λ k. h k (omega arith))
mixed_all (suc n) [] [] h size = refl
mixed_all (suc n) [] (x ∷ xs) h size = absurd (omega (arith, size))
mixed_all (suc n) (g ∷ gs) [] h size = absurd (omega (arith, size))
mixed_all (suc n) (g ∷ gs) (x ∷ xs) h size = ap (λ l. g ∷ l) (mixed_all n gs xs (λ k le. h (suc k) (omega (arith, le))) (omega (arith, size)))

-- EACH ITEM WITH ITS PLACE

pub each_at : {X Y : Type 0} (f : ℕ → X → Y) (i : ℕ) (xs : List X) (k : ℕ) → slice_get (each_from f i xs) k ≡ option_map (f (i + k)) (slice_get xs k)
each_at f i [] k = refl
each_at f i (x ∷ xs) zero = ap (λ j. Some (f j x)) (omega arith)
each_at f i (x ∷ xs) (suc k) = each_at f (i + 1) xs k ∙ ap (λ j. option_map (f j) (slice_get xs k)) (omega arith)

pub each_long : {X Y : Type 0} (f : ℕ → X → Y) (i : ℕ) (xs : List X) → length (each_from f i xs) ≡ length xs
each_long f i [] = refl
each_long f i (x ∷ xs) = ap suc (each_long f (i + 1) xs)

-- THE LISTS

both : (old new : FlatRows) → ℕ → Option MessageRow → Option MessageListsRow → Option MessageListsRow
both old new T (Some m) (Some l) = Some (grown_lists old new T (grown_message (further old new T) m) l)
both old new T (Some m) None = None
both old new T None l = None

grown_get : (old new : FlatRows) (i : ℕ) (ms : List MessageRow) (ls : List MessageListsRow) (T : ℕ) → slice_get (grown_lists_from old new i ms ls) T ≡ both old new (i + T) (slice_get ms T) (slice_get ls T)
unfolding both
grown_get old new i [] ls T = refl
grown_get old new i (m ∷ ms) [] T = none (slice_get (m ∷ ms) T)
  where
    none : (o : Option MessageRow) → None ≡ both old new (i + T) o None
    none None = refl
    none (Some m) = refl
grown_get old new i (m ∷ ms) (l ∷ ls) zero = ap (λ U. Some (grown_lists old new U (grown_message (further old new U) m) l)) (omega arith)
grown_get old new i (m ∷ ms) (l ∷ ls) (suc T) = grown_get old new (i + 1) ms ls T ∙ ap (λ U. both old new U (slice_get ms T) (slice_get ls T)) (omega arith)

grown_long : (old new : FlatRows) (i : ℕ) (ms : List MessageRow) (ls : List MessageListsRow) → length ms ≡ length ls → length (grown_lists_from old new i ms ls) ≡ length ls
grown_long old new i [] [] e = refl
grown_long old new i [] (l ∷ ls) e = absurd (omega (arith, e))
grown_long old new i (m ∷ ms) [] e = absurd (omega (arith, e))
grown_long old new i (m ∷ ms) (l ∷ ls) e = ap suc (grown_long old new (i + 1) ms ls (omega (arith, e)))

no_further : {X Y : Type 0} (f : X → Y) (test : X → Bool) (i : ℕ) (xs : List X) → places_from test i xs ≡ [] → map f (filter test xs) ≡ []
no_further f test i [] e = refl
no_further f test i (x ∷ xs) e = go (test x) e (no_further f test (i + 1) xs)
  where
    go : (b : Bool) → cond b (i ∷ places_from test (i + 1) xs) (places_from test (i + 1) xs) ≡ [] → (places_from test (i + 1) xs ≡ [] → map f (filter test xs) ≡ []) → map f (cond b (x ∷ filter test xs) (filter test xs)) ≡ []
    go true e more = absurd cc
    go false e more = more e

pub further_empty : (old new : FlatRows) (T : ℕ) → further_places old new T ≡ [] → further old new T ≡ []
further_empty old new T e =
    let links = links_of (behind old new) in
    no_further (linked_field links true) (λ (d : DefinitionRow FieldDescriptorProto). is_place T (extended_place links d)) (length old.extensions) new.extensions e

module _ (base : Base) (new : FlatRows) where
  abbrev old : FlatRows
  old = rows_below base

  abbrev rows : List MessageRow
  rows = (tables_below base).messages

  abbrev lists : List MessageListsRow
  lists = (catalog_below base).messages

  abbrev grown : List MessageListsRow
  grown = grown_lists_from old new 0 rows lists

  lists_are : (T : ℕ) → slice_get lists T ≡ option_map (linked_lists old T) (slice_get rows T)
  lists_are T =
      ap (λ (c : CatalogRows). slice_get c.messages T) (catalog_is base.pool.now)
      ∙ (each_at (linked_lists old) 0 (linked_rows old).messages T
      ∙ (ap (λ U. option_map (linked_lists old U) (slice_get (linked_rows old).messages T)) (omega arith)
      ∙ ap (λ (r : TableRows). option_map (linked_lists old T) (slice_get r.messages T)) (sym (rows_are base.pool.now))))

  pub rows_long : length rows ≡ length old.messages
  rows_long = linked_length (tables_below base) old (rows_are base.pool.now)

  pub lists_long : length lists ≡ length old.messages
  lists_long = ap (λ (c : CatalogRows). length c.messages) (catalog_is base.pool.now) ∙ (each_long (linked_lists old) 0 (linked_rows old).messages ∙ (ap (λ (r : TableRows). length r.messages) (sym (rows_are base.pool.now)) ∙ rows_long))

  all_long : length grown ≡ length lists
  all_long = grown_long old new 0 rows lists (rows_long ∙ sym lists_long)

  -- Where no added extension extends the message.
  stays : (T : ℕ) → (T < length old.messages → further_places old new T ≡ []) → slice_get grown T ≡ slice_get lists T
  unfolding both
  stays T none =
      let zeroth : 0 + T ≡ T = omega arith in
      grown_get old new 0 rows lists T ∙ (ap (λ U. both old new U (slice_get rows T) (slice_get lists T)) zeroth ∙ (ap (both old new T (slice_get rows T)) (lists_are T) ∙ (at (slice_get rows T) refl ∙ sym (lists_are T))))
    where
      at : (o : Option MessageRow) → slice_get rows T ≡ o → both old new T o (option_map (linked_lists old T) o) ≡ option_map (linked_lists old T) o
      at None e = refl
      at (Some m) e =
          let there : slice_get (linked_rows old).messages T ≡ Some m = ap (λ (r : TableRows). slice_get r.messages T) (sym (rows_are base.pool.now)) ∙ e in
          let within : T < length old.messages = omega (arith, slice_get_within rows T m e, rows_long) in
          ap Some (lists_stay old new T m there (further_empty old new T (none within)))

  -- The lists of a message with its further extensions.
  there : (T : ℕ) (m : MessageRow) (l : MessageListsRow) → T < length old.messages → slice_get (grown_rows old new (tables_below base)).messages T ≡ Some m → slice_get lists T ≡ Some l →
      slice_get grown T ≡ Some (with_further (further_places old new T) m l)
  unfolding both
  there T m l less at is =
      let zeroth : 0 + T ≡ T = omega arith in
      let make = λ (T : ℕ) (m : MessageRow). grown_message (further old new T) m in
      let front : slice_get (grown_rows old new (tables_below base)).messages T ≡ option_map (make T) (slice_get rows T) =
      slice_in_front (each_from make 0 rows) (added_messages old new) T (omega (arith, less, each_long make 0 rows, rows_long)) ∙ (each_at make 0 rows T ∙ ap (λ U. option_map (make U) (slice_get rows T)) zeroth) in
      grown_get old new 0 rows lists T ∙ (ap (λ U. both old new U (slice_get rows T) (slice_get lists T)) zeroth ∙ (ap (both old new T (slice_get rows T)) is ∙ of (slice_get rows T) (sym front ∙ at)))
    where
      of : (o : Option MessageRow) → option_map (λ (m : MessageRow). grown_message (further old new T) m) o ≡ Some m → both old new T o (Some l) ≡ Some (with_further (further_places old new T) m l)
      of None e = absurd cc
      of (Some n) e = ap (λ r. Some (grown_lists old new T r l)) (same_Some (grown_message (further old new T) n) m e)

  -- One message more, with further extensions or without them.
  pub message_set : (T : ℕ) (m : MessageRow) (l made : MessageListsRow) (places : List ℕ) (before after : List MessageListsRow) → T < length old.messages →
      slice_get (grown_rows old new (tables_below base)).messages T ≡ Some m → slice_get lists T ≡ Some l → places ≡ further_places old new T → made ≡ with_further places m l →
      before ≡ mixed T grown lists → after ≡ slice_set before T made → after ≡ mixed (T + 1) grown lists
  message_set T m l made places before after less at is own e inv set =
      let made_is : made ≡ with_further (further_places old new T) m l = e ∙ ap (λ ps. with_further ps m l) own in
      set
      ∙ (ap (λ (xs : List MessageListsRow). slice_set xs T made) inv
      ∙ (mixed_set T grown lists made (there T m l less at is ∙ ap Some (sym made_is)) (omega (arith, less, lists_long)) ∙ ap (λ j. mixed j grown lists) (sym (add-one T))))

  pub message_kept : (T : ℕ) (places : List ℕ) (before : List MessageListsRow) → T < length old.messages → places ≡ further_places old new T → places ≡ [] → before ≡ mixed T grown lists → before ≡ mixed (T + 1) grown lists
  message_kept T places before less own none inv =
      inv ∙ (mixed_kept T grown lists (stays T (λ h. sym own ∙ none)) (omega (arith, less, lists_long)) ∙ ap (λ j. mixed j grown lists) (sym (add-one T)))

  pub messages_done : (n : ℕ) (made : List MessageListsRow) → ((T : ℕ) → n ≤ T → T < length old.messages → further_places old new T ≡ []) → made ≡ mixed n grown lists → made ≡ grown
  messages_done n made rest inv = inv ∙ mixed_all n grown lists (λ T le. stays T (rest T le)) all_long

  pub made_long : (n : ℕ) (made : List MessageListsRow) → made ≡ mixed n grown lists → length made ≡ length old.messages
  made_long n made inv = ap length inv ∙ (mixed_long n grown lists all_long ∙ lists_long)

  -- The rows of added messages stand behind the old ones.
  pub added_behind : drop (length old.messages) (grown_rows old new (tables_below base)).messages ≡ added_messages old new
  added_behind =
      let make = λ (T : ℕ) (m : MessageRow). grown_message (further old new T) m in
      dropped (each_from make 0 rows) (added_messages old new) (length old.messages) (each_long make 0 rows ∙ rows_long)
    where
      dropped : {X : Type 0} (xs ys : List X) (n : ℕ) → length xs ≡ n → drop n (xs ++ ys) ≡ ys
      dropped xs ys n e = ap (λ k. drop k (xs ++ ys)) (sym e) ∙ go xs
        where
          go : (zs : List _) → drop (length zs) (zs ++ ys) ≡ ys
          go [] = refl
          go (z ∷ zs) = go zs

  -- How many rows there are.
  pub rows_all : length (grown_rows old new (tables_below base)).messages ≡ length old.messages + length new.messages
  rows_all =
      let make = λ (T : ℕ) (m : MessageRow). grown_message (further old new T) m in
      length-append (each_from make 0 rows) (added_messages old new)
      ∙ (ap (λ n. n + length (added_messages old new)) (each_long make 0 rows ∙ rows_long)
      ∙ ap (λ n. length old.messages + n) (messages_length (links_of (behind old new)) new.extensions (length old.messages) new.messages))

  pub tables_long : (tables : List MessageTable) → map message_row tables ≡ (grown_rows old new (tables_below base)).messages → length tables ≡ length old.messages + length new.messages
  tables_long tables e = sym (length-map tables message_row) ∙ (ap (λ (l : List MessageRow). length l) e ∙ rows_all)

  pub row_at : (tables : List MessageTable) (T : ℕ) (m : MessageTable) → map message_row tables ≡ (grown_rows old new (tables_below base)).messages → slice_get tables T ≡ Some m → slice_get (grown_rows old new (tables_below base)).messages T ≡ Some (message_row m)
  row_at tables T m e at = ap (λ (l : List MessageRow). slice_get l T) (sym e) ∙ (slice_get-map message_row tables T ∙ ap (option_map message_row) at)

-- A list without items.
pub no_items : {X : Type 0} (xs : List X) → length xs ≡ 0 → xs ≡ []
no_items [] e = refl
no_items (x ∷ xs) e = absurd (omega (arith, e))
