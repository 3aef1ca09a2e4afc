-- The descriptors of a message type's numbers: each extension among its rows stands in the catalog as one that extends it.
use Rattle.std.specs.Prelude.{◌≡◌, ◌+◌, ◌==◌, ◌∷◌, ◌++◌}
use Rattle.prost_reflect_pool.proofs.Common.{ℕ, zero, suc, Bool, true, false, cond, List, [], map, Option, Some, None, refl, sym, ap, subst, ◌∙◌, unwrap_or, true≢false, arith, option_map, option_and_then, is_some, slice_get, find, filter, nat_le, eqb-true, same_Some, slice_get-map, FieldDescriptorProto, passes, ExtensionRow, CatalogRows, DefinitionRow, FlatMessageRow, FlatRows, flattened, places_from, IsCatalogOf, each_from, linked_lists, linked_extension, linked_catalog, Links, links_of, is_place, extended_place, belonging, linked_field, declared_fields, fields_of_message, messages_from, put_in_order, in_order, linked_rows, fields_at, fields_or_none, row_of, FieldRow, MessageRow, TableRows, HasRow, mapped_at, fields_shown, ExtensionThere, extending_or_none, extension_where, files_of, pool_rows, pool_catalog, LinkedPool}
use Rattle.prost_reflect_pool.specs.Listed.{extension_row_at}
use Rattle.prost_reflect_pool.proofs.PoolLinks.{extension_of}

-- ITEMS

-- an item that is found passes, and stands in the list
pub found_at : {X : Type 0} (test : X → Bool) (xs : List X) (x : X) → find test xs ≡ Some x → (i : ℕ) × (slice_get xs i ≡ Some x) × (test x ≡ true)
found_at test [] x e = absurd cc
found_at test (y ∷ xs) x e = go (test y) refl e (found_at test xs x)
  where
    go : (b : Bool) → test y ≡ b → cond b (Some y) (find test xs) ≡ Some x → (find test xs ≡ Some x → (i : ℕ) × (slice_get xs i ≡ Some x) × (test x ≡ true)) → (i : ℕ) × (slice_get (y ∷ xs) i ≡ Some x) × (test x ≡ true)
    go true is e more = (0, e, ap test (sym (same_Some y x e)) ∙ is)
    go false is e more = let found = more e in (suc found.0, found.1, found.2)

filtered_at : {X : Type 0} (test : X → Bool) (xs : List X) (i : ℕ) (x : X) → slice_get (filter test xs) i ≡ Some x → (j : ℕ) × (slice_get xs j ≡ Some x) × (test x ≡ true)
filtered_at test [] i x e = absurd cc
filtered_at test (y ∷ xs) i x e = go (λ i e. filtered_at test xs i x e) (test y) refl i e
  where
    go : ((i : ℕ) → slice_get (filter test xs) i ≡ Some x → (j : ℕ) × (slice_get xs j ≡ Some x) × (test x ≡ true))
        → (b : Bool) → test y ≡ b → (i : ℕ) → slice_get (cond b (y ∷ filter test xs) (filter test xs)) i ≡ Some x → (j : ℕ) × (slice_get (y ∷ xs) j ≡ Some x) × (test x ≡ true)
    go more true is zero e = (0, e, ap test (sym (same_Some y x e)) ∙ is)
    go more true is (suc i) e = let found = more i e in (suc found.0, found.1, found.2)
    go more false is i e = let found = more i e in (suc found.0, found.1, found.2)

each_there : {X Y : Type 0} (f : ℕ → X → Y) (p : ℕ) (xs : List X) (i : ℕ) (x : X) → slice_get xs i ≡ Some x → slice_get (each_from f p xs) i ≡ Some (f (p + i) x)
each_there f p [] i x e = absurd cc
each_there f p (y ∷ xs) zero x e =
    let first : p ≡ p + 0 = omega arith in
    ap Some (ap (f p) (same_Some y x e) ∙ ap (λ n. f n x) first)
each_there f p (y ∷ xs) (suc i) x e =
    let next : (p + 1) + i ≡ p + suc i = omega arith in
    each_there f (p + 1) xs i x e ∙ ap (λ n. Some (f n x)) next

-- the places of items that pass, searched
place_there : {X : Type 0} (p : X → Bool) (test : ℕ → Bool) (q : ℕ) (xs : List X) (i : ℕ) (x : X) → slice_get xs i ≡ Some x → p x ≡ true → test (q + i) ≡ true → is_some (find test (places_from p q xs)) ≡ true
place_there p test q [] i x e is passes = absurd cc
place_there p test q (y ∷ xs) zero x e is passes =
    let first : q + 0 ≡ q = omega arith in
    let here : p y ≡ true = ap p (same_Some y x e) ∙ is in
    let found : test q ≡ true = ap test (sym first) ∙ passes in
    rw (here, found) refl
place_there p test q (y ∷ xs) (suc i) x e is passes =
    let next : q + suc i ≡ (q + 1) + i = omega arith in
    go (p y) (test q) (place_there p test (q + 1) xs i x e is (ap test (sym next) ∙ passes))
  where
    go : (b t : Bool) → is_some (find test (places_from p (q + 1) xs)) ≡ true → is_some (find test (cond b (q ∷ places_from p (q + 1) xs) (places_from p (q + 1) xs))) ≡ true
    go true t more = ahead (test q) more
      where
        ahead : (t : Bool) → is_some (find test (places_from p (q + 1) xs)) ≡ true → is_some (cond t (Some q) (find test (places_from p (q + 1) xs))) ≡ true
        ahead true more = refl
        ahead false more = more
    go false t more = more

pub place_at : {X : Type 0} (p : X → Bool) (q : ℕ) (xs : List X) (k j : ℕ) → slice_get (places_from p q xs) k ≡ Some j → (i : ℕ) × (x : X) × (j ≡ q + i) × (slice_get xs i ≡ Some x) × (p x ≡ true)
place_at p q [] k j e = absurd cc
place_at p q (y ∷ xs) k j e = go (λ k e. later (place_at p (q + 1) xs k j e)) (p y) refl k e
  where
    later : (i : ℕ) × (x : _) × (j ≡ (q + 1) + i) × (slice_get xs i ≡ Some x) × (p x ≡ true) → (i : ℕ) × (x : _) × (j ≡ q + i) × (slice_get (y ∷ xs) i ≡ Some x) × (p x ≡ true)
    later found = (suc found.0, found.1, omega (arith, found.2), found.3, found.4)

    go : ((k : ℕ) → slice_get (places_from p (q + 1) xs) k ≡ Some j → (i : ℕ) × (x : _) × (j ≡ q + i) × (slice_get (y ∷ xs) i ≡ Some x) × (p x ≡ true))
        → (b : Bool) → p y ≡ b → (k : ℕ) → slice_get (cond b (q ∷ places_from p (q + 1) xs) (places_from p (q + 1) xs)) k ≡ Some j → (i : ℕ) × (x : _) × (j ≡ q + i) × (slice_get (y ∷ xs) i ≡ Some x) × (p x ≡ true)
    go more true is zero e = let same : q ≡ j = same_Some q j e in (0, y, omega (arith, same), refl, is)
    go more true is (suc k) e = more k e
    go more false is k e = more k e

-- ROWS

put_from : (f h : FieldRow) (fields : List FieldRow) (k : ℕ) → slice_get (put_in_order f fields) k ≡ Some h → HasRow (f ∷ fields) h
put_from f h [] k e = (k, e)
put_from f h (g ∷ fields) k e = go (λ k e. behind (put_from f h fields k e)) (nat_le f.number g.number) k e
  where
    behind : HasRow (f ∷ fields) h → HasRow (f ∷ g ∷ fields) h
    behind (zero, e) = (0, e)
    behind (suc j, e) = (suc (suc j), e)

    go : ((k : ℕ) → slice_get (put_in_order f fields) k ≡ Some h → HasRow (f ∷ g ∷ fields) h)
        → (b : Bool) (k : ℕ) → slice_get (cond b (f ∷ g ∷ fields) (g ∷ put_in_order f fields)) k ≡ Some h → HasRow (f ∷ g ∷ fields) h
    go more true k e = (k, e)
    go more false zero e = (1, e)
    go more false (suc k) e = more k e

order_from : (fields : List FieldRow) (h : FieldRow) (k : ℕ) → slice_get (in_order fields) k ≡ Some h → HasRow fields h
order_from [] h k e = absurd cc
order_from (f ∷ fields) h k e = of (λ j e. order_from fields h j e) (put_from f h (in_order fields) k e)
  where
    of : ((j : ℕ) → slice_get (in_order fields) j ≡ Some h → HasRow fields h) → HasRow (f ∷ in_order fields) h → HasRow (f ∷ fields) h
    of more (zero, e) = (0, e)
    of more (suc j, e) = let found = more j e in (suc found.0, found.1)

-- the rows of a message type in order are its own fields and its extensions
message_has : (links : Links) (extensions : List (DefinitionRow FieldDescriptorProto)) (p : ℕ) (ms : List FlatMessageRow) (T k : ℕ) (f : FieldRow) → slice_get (fields_or_none (slice_get (messages_from links extensions p ms) T)) k ≡ Some f
    → (m : FlatMessageRow) × HasRow (fields_of_message links extensions (p + T) m) f
message_has links extensions p [] T k f e = absurd cc
message_has links extensions p (m ∷ ms) zero k f e =
    let first : p ≡ p + 0 = omega arith in
    (m, subst (λ q. HasRow (fields_of_message links extensions q m) f) first (order_from (fields_of_message links extensions p m) f k (ap (λ l. slice_get l k) (sym (fields_shown (fields_of_message links extensions p m) m)) ∙ e)))
message_has links extensions p (m ∷ ms) (suc T) k f e =
    let found = message_has links extensions (p + 1) ms T k f e in
    let next : (p + 1) + T ≡ p + suc T = omega arith in
    (found.0, subst (λ q. HasRow (fields_of_message links extensions q found.0) f) next found.1)

unmarked : (links : Links) (d : DefinitionRow FieldDescriptorProto) → (linked_field links false d).is_extension ≡ false
unfolding linked_field
unmarked links d = refl

declared_unmarked : (links : Links) (ds : List (DefinitionRow FieldDescriptorProto)) (j : ℕ) (f : FieldRow) → slice_get (declared_fields links ds) j ≡ Some f → f.is_extension ≡ false
declared_unmarked links ds j f e =
    let found = mapped_at (linked_field links false) ds j f e in
    ap (λ (r : FieldRow). r.is_extension) (sym found.2) ∙ unmarked links found.0

behind_from : (xs ys : List FieldRow) (k : ℕ) (f : FieldRow) → ((j : ℕ) → slice_get xs j ≡ Some f → ⊥) → slice_get (xs ++ ys) k ≡ Some f → HasRow ys f
behind_from [] ys k f none e = (k, e)
behind_from (x ∷ xs) ys zero f none e = absurd (none 0 e)
behind_from (x ∷ xs) ys (suc k) f none e = behind_from xs ys k f (λ j at. none (suc j) at) e

-- An extension's row comes of a definition that extends the message type.
pub record Extends (flat : FlatRows) (T : ℕ) (f : FieldRow) : Type 0 where
  pub place : ℕ
  pub definition : DefinitionRow FieldDescriptorProto
  pub at : slice_get flat.extensions place ≡ Some definition
  pub extends : is_place T (extended_place (links_of flat) definition) ≡ true
  pub row : linked_field (links_of flat) true definition ≡ f

pub extension_from : (flat : FlatRows) (T k : ℕ) (f : FieldRow) → slice_get (fields_at (linked_rows flat) T) k ≡ Some f → f.is_extension ≡ true → Extends flat T f
extension_from flat T k f e marked =
    let links = links_of flat in
    let own = message_has links flat.extensions 0 flat.messages T k f e in
    let extensions = belonging (extended_place links) flat.extensions (0 + T) in
    let behind = behind_from (declared_fields links own.0.fields) (map (linked_field links true) extensions) own.1.0 f (λ j at. true≢false (sym marked ∙ declared_unmarked links own.0.fields j f at)) own.1.1 in
    let made = mapped_at (linked_field links true) extensions behind.0 f behind.1 in
    let found = filtered_at (λ x. is_place (0 + T) (extended_place links x)) flat.extensions behind.0 made.0 made.1 in
    let zero_first : 0 + T ≡ T = omega arith in
    record {
      place = found.0;
      definition = made.0;
      at = found.1;
      extends = ap (λ q. is_place q (extended_place links made.0)) (sym zero_first) ∙ found.2;
      row = made.2;
    }

-- THE CATALOG

catalog_is : (pool : LinkedPool) → pool_catalog pool ≡ linked_catalog (files_of pool) (flattened (files_of pool))
unfolding IsCatalogOf
catalog_is pool = pool.listed

-- the places of those that extend a message type
pub extending_at : (pool : LinkedPool) (T : ℕ) (m : MessageRow) → slice_get (pool_rows pool).messages T ≡ Some m
    → extending_or_none (slice_get (pool_catalog pool).messages T) ≡ places_from (λ x. is_place (0 + T) (extended_place (links_of (flattened (files_of pool))) x)) 0 (flattened (files_of pool)).extensions
extending_at pool T m at =
    let flat = flattened (files_of pool) in
    ap (λ (c : CatalogRows). extending_or_none (slice_get c.messages T)) (catalog_is pool)
    ∙ ap extending_or_none (each_there (linked_lists flat) 0 (linked_rows flat).messages T m (ap (λ (r : TableRows). slice_get r.messages T) (sym pool.built.1) ∙ at))

-- where a definition of an extension stands, the catalog has its row
pub extension_row : (pool : LinkedPool) (i : ℕ) (d : DefinitionRow FieldDescriptorProto) → slice_get (flattened (files_of pool)).extensions i ≡ Some d
    → slice_get (pool_catalog pool).extensions i ≡ Some (linked_extension (links_of (flattened (files_of pool))) (linked_rows (flattened (files_of pool))) d)
extension_row pool i d at =
    let flat = flattened (files_of pool) in
    ap (λ (c : CatalogRows). slice_get c.extensions i) (catalog_is pool)
    ∙ slice_get-map (linked_extension (links_of flat) (linked_rows flat)) flat.extensions i
    ∙ ap (option_map (linked_extension (links_of flat) (linked_rows flat))) at

pub row_stands : (pool : LinkedPool) (i : ℕ) (d : DefinitionRow FieldDescriptorProto) → slice_get (flattened (files_of pool)).extensions i ≡ Some d → extension_row_at pool i ≡ Some (linked_field (links_of (flattened (files_of pool))) true d)
row_stands pool i d at =
    let flat = flattened (files_of pool) in
    let row = extension_row pool i d at in
    let there : ExtensionThere flat (pool_rows pool) i (linked_extension (links_of flat) (linked_rows flat) d) = extension_of pool i (linked_extension (links_of flat) (linked_rows flat) d) row in
    let same : there.definition ≡ d = same_Some there.definition d (sym there.declared ∙ at) in
    ap (option_and_then (λ (x : ExtensionRow). slice_get (fields_at (pool_rows pool) x.message) x.field)) row
    ∙ there.at ∙ ap (λ (d : DefinitionRow FieldDescriptorProto). Some (linked_field (links_of flat) true d)) same

message_there : (rows : TableRows) (T k : ℕ) (f : FieldRow) → slice_get (fields_at rows T) k ≡ Some f → (m : MessageRow) × (slice_get rows.messages T ≡ Some m)
message_there rows T k f e = of (slice_get rows.messages T) refl e
  where
    of : (o : Option MessageRow) → slice_get rows.messages T ≡ o → slice_get (fields_or_none o) k ≡ Some f → (m : MessageRow) × (slice_get rows.messages T ≡ Some m)
    of None at e = absurd cc
    of (Some m) at e = (m, at)

-- LOOK-UPS

-- The number of an extension among the rows of a message type finds one.
pub extension_there : (pool : LinkedPool) (T n : ℕ) (f : FieldRow) → row_of (fields_at (pool_rows pool) T) n ≡ Some f → f.is_extension ≡ true → is_some (extension_where pool T (λ f. f.number == n)) ≡ true
extension_there pool T n f found marked =
    let flat = flattened (files_of pool) in
    let at = found_at (λ (f : FieldRow). f.number == n) (fields_at (pool_rows pool) T) f found in
    let m = message_there (pool_rows pool) T at.0 f at.1 in
    let x : Extends flat T f = extension_from flat T at.0 f (ap (λ (r : TableRows). slice_get (fields_at r T) at.0) (sym pool.built.1) ∙ at.1) marked in
    let test = λ (i : ℕ). passes (extension_row_at pool i) (λ f. f.number == n) in
    let first : 0 + x.place ≡ x.place = omega arith in
    let zero_first : 0 + T ≡ T = omega arith in
    let row : extension_row_at pool x.place ≡ Some f = row_stands pool x.place x.definition x.at ∙ ap Some x.row in
    ap (λ l. is_some (find test l)) (extending_at pool T m.0 m.1)
    ∙ place_there (λ d. is_place (0 + T) (extended_place (links_of flat) d)) test 0 flat.extensions x.place x.definition x.at
    (ap (λ q. is_place q (extended_place (links_of flat) x.definition)) zero_first ∙ x.extends)
    (ap test first ∙ ap (λ o. passes o (λ (f : FieldRow). f.number == n)) row ∙ at.2)

pub is_place_same : (T : ℕ) (o : Option ℕ) → is_place T o ≡ true → o ≡ Some T
is_place_same T None h = absurd (true≢false (sym h))
is_place_same T (Some U) h = ap Some (sym (eqb-true T U h))

-- Each of the places of those that extend a message type is that of an extension of it.
pub extending_there : (pool : LinkedPool) (T k i : ℕ) → slice_get (extending_or_none (slice_get (pool_catalog pool).messages T)) k ≡ Some i → option_map (λ (e : ExtensionRow). e.message) (slice_get (pool_catalog pool).extensions i) ≡ Some T
extending_there pool T k i found = listed (slice_get (pool_rows pool).messages T) refl
  where
    flat : FlatRows
    flat = flattened (files_of pool)

    among : (m : MessageRow) → slice_get (pool_rows pool).messages T ≡ Some m → option_map (λ (e : ExtensionRow). e.message) (slice_get (pool_catalog pool).extensions i) ≡ Some T
    among m at =
        let extends = λ (d : DefinitionRow FieldDescriptorProto). is_place (0 + T) (extended_place (links_of flat) d) in
        let place = place_at extends 0 flat.extensions k i (ap (λ l. slice_get l k) (sym (extending_at pool T m at)) ∙ found) in
        let same : i ≡ place.0 = omega (arith, place.2) in
        let there : slice_get flat.extensions i ≡ Some place.1 = ap (slice_get flat.extensions) same ∙ place.3 in
        let zero_first : 0 + T ≡ T = omega arith in
        ap (option_map (λ (e : ExtensionRow). e.message)) (extension_row pool i place.1 there)
        ∙ ap Some (ap (λ (o : Option ℕ). unwrap_or o 0) (is_place_same (0 + T) (extended_place (links_of flat) place.1) place.4) ∙ zero_first)

    listed : (o : Option MessageRow) → slice_get (pool_rows pool).messages T ≡ o → option_map (λ (e : ExtensionRow). e.message) (slice_get (pool_catalog pool).extensions i) ≡ Some T
    listed (Some m) at = among m at
    listed None at = absurd (nothing at)
      where
        no_lists : (xs : List MessageRow) (p T : ℕ) → slice_get xs T ≡ None → slice_get (each_from (linked_lists flat) p xs) T ≡ None
        no_lists [] p T e = refl
        no_lists (x ∷ xs) p zero e = absurd cc
        no_lists (x ∷ xs) p (suc T) e = no_lists xs (p + 1) T e

        nothing : slice_get (pool_rows pool).messages T ≡ None → ⊥
        nothing at =
            let none : slice_get (pool_catalog pool).messages T ≡ None = ap (λ (c : CatalogRows). slice_get c.messages T) (catalog_is pool) ∙ no_lists (linked_rows flat).messages 0 T (ap (λ (r : TableRows). slice_get r.messages T) (sym pool.built.1) ∙ at) in
            let lost : None ≡ Some i = sym (ap (λ o. slice_get (extending_or_none o) k) none) ∙ found in
            cc

-- What a look-up finds: an extension of the message type, whose row passes.
pub record FoundExtension (pool : LinkedPool) (T : ℕ) (test : FieldRow → Bool) (i : ℕ) : Type 0 where
  pub extends : option_map (λ (e : ExtensionRow). e.message) (slice_get (pool_catalog pool).extensions i) ≡ Some T
  pub row : FieldRow
  pub stands : extension_row_at pool i ≡ Some row
  pub passing : test row ≡ true

passing_row : (o : Option FieldRow) (test : FieldRow → Bool) → passes o test ≡ true → (f : FieldRow) × (o ≡ Some f) × (test f ≡ true)
passing_row None test h = absurd (true≢false (sym h))
passing_row (Some f) test h = (f, refl, h)

pub extension_found : (pool : LinkedPool) (T : ℕ) (test : FieldRow → Bool) (i : ℕ) → extension_where pool T test ≡ Some i → FoundExtension pool T test i
extension_found pool T test i found =
    let hit = found_at (λ (i : ℕ). passes (extension_row_at pool i) test) (extending_or_none (slice_get (pool_catalog pool).messages T)) i found in
    let row = passing_row (extension_row_at pool i) test hit.2 in
    record { extends = extending_there pool T hit.0 i hit.1; row = row.0; stands = row.1; passing = row.2 }
