-- Where the rows of a pool's extensions stand, where files are added.
use Rattle.std.specs.Prelude.{◌≡◌, ◌+◌, ◌<◌, ◌≤◌, ◌∷◌, ◌++◌}
use Rattle.std.specs.Prelude.{slice_get, slice_set, option_map, nat_lt, nat_eq, unwrap_or, is_none, String, string_bytes}
use Rattle.std.proofs.Common.{zero, suc, Bool, Some, None, ap₂}
use Rattle.std.proofs.lemmas.Bool.{ltb-true, ltb-false, lt-ltb, le-ltb, eqb-true, eqb-false}
use Rattle.std.proofs.Common.{length-append}
use Rattle.std.proofs.lemmas.List.{set_at, map-set}
use Rattle.prost_reflect_tables.proofs.Pushing.{front_at}
use Rattle.std.proofs.lemmas.Option.{slice_get-map, same_Some}
use Rattle.prost_reflect_lists.proofs.Common.{ℕ, true, false, cond, List, [], map, length, drop, get_or, Option, refl, sym, ap, ◌∙◌, arith, append_assoc, Global, places_from, extended_place, links_of, linked_field, linked_extension, each_from, linked_lists, DefinitionRow, TableRows}
use Rattle.prost_reflect_base.specs.Below.{rows_below, tables_below, catalog_below}
use Rattle.prost_reflect_base.specs.declared.Base.{Base}
use Rattle.prost_reflect_base.proofs.Linked.{catalog_is}
use Rattle.prost_reflect_growth.proofs.ExtensionsGrow.{extension_unmoved}
use Rattle.prost_reflect_growth.proofs.Moving.{places_move}
use Rattle.prost_reflect_growth.specs.CatalogGrow.{further_places}
use Rattle.prost_reflect_growth.specs.ExtensionsGrow.{grown_extension}
use Rattle.prost_reflect_growth.specs.RowsGrow.{grown_message, further, added_messages, grown_rows, number_of_row}
use Rattle.prost_reflect_pool.proofs.PoolLinks.{extension_of}
use Rattle.prost_reflect_tables.proofs.CatalogLinks.{ExtensionThere}
use Rattle.prost_reflect_tables.proofs.Keeping.{fields_ascend}
use Rattle.prost_reflect_tables.proofs.Linkwell.Items.{none_at}
use Rattle.prost_reflect_tables.proofs.Linkwell.Premises.{three}
use Rattle.prost_reflect_tables.specs.CatalogRows.{ExtensionRow, MessageListsRow, CatalogRows}
use Rattle.prost_reflect_tables.specs.Faults.{message_names, extendee_missing, extendee_unknown, place_named, names_nothing, name_place}
use Rattle.prost_reflect_tables.specs.Flat.{FlatRows}
use Rattle.prost_reflect_tables.specs.Linked.{is_linked}
use Rattle.prost_reflect_tables.specs.Linking.{is_place, linked_rows, place_or_first, in_order}
use Rattle.prost_reflect_tables.specs.Names.{without_dot}
use Rattle.prost_reflect_tables.specs.Places.{fields_at, fields_or_none, place_of}
use Rattle.prost_reflect_tables.specs.Rows.{MessageRow}
use Rattle.prost_reflect_tables.specs.declared.error.PoolError.TheVariants as errors
use Rattle.prost_reflect_types.specs.declared.FieldDescriptorProto.{FieldDescriptorProto}
use Rattle.prost_reflect_resolving.proofs.LookedUp.{slice_in_front}
use Rattle.prost_reflect_lists.specs.ExtendedRows.{found_again, again_at, made_anew}
use Rattle.prost_reflect_lists.proofs.GrownLists.{rows_long, each_at, each_long, further_empty}

abbrev FieldDef : Type 0
FieldDef = DefinitionRow FieldDescriptorProto

-- ITEMS THAT ARE MADE ANEW

module _ {D X : Type 0} (test : D → Bool) (p q : D → X) (make : ℕ → X) where
  anew_from : (front : List X) (i : ℕ) (ds : List D) → length front ≡ i → ((k : ℕ) (d : D) → slice_get ds k ≡ Some d → test d ≡ true → make (i + k) ≡ q d) →
      made_anew make (places_from test i ds) (front ++ map p ds) ≡ front ++ map (λ d. cond (test d) (q d) (p d)) ds
  anew_from front i [] size h = refl
  anew_from front i (d ∷ ds) size h = go (test d) refl (λ more long. anew_from more (i + 1) ds long (λ k e at is. ap make (omega arith) ∙ h (suc k) e at is))
    where
      done : List X
      done = map (λ d. cond (test d) (q d) (p d)) ds

      long : (x : X) → length (front ++ x ∷ []) ≡ i + 1
      long x = length-append front (x ∷ []) ∙ ap (λ k. k + 1) size

      go : (b : Bool) → test d ≡ b → ((more : List X) → length more ≡ i + 1 → made_anew make (places_from test (i + 1) ds) (more ++ map p ds) ≡ more ++ done) →
          made_anew make (cond b (i ∷ places_from test (i + 1) ds) (places_from test (i + 1) ds)) (front ++ p d ∷ map p ds) ≡ front ++ cond b (q d) (p d) ∷ done
      go true is rest =
          let here : make i ≡ q d = ap make (omega arith) ∙ h 0 d refl is in
          ap (made_anew make (places_from test (i + 1) ds)) (set_at front (p d) (map p ds) (make i) i size ∙ (ap (λ x. front ++ x ∷ map p ds) here ∙ sym (append_assoc front (q d ∷ []) (map p ds))))
          ∙ (rest (front ++ q d ∷ []) (long (q d)) ∙ append_assoc front (q d ∷ []) done)
      go false is rest =
          ap (made_anew make (places_from test (i + 1) ds)) (sym (append_assoc front (p d ∷ []) (map p ds)))
          ∙ (rest (front ++ p d ∷ []) (long (p d)) ∙ append_assoc front (p d ∷ []) done)

  anew_where : (ds : List D) → ((k : ℕ) (d : D) → slice_get ds k ≡ Some d → test d ≡ true → make k ≡ q d) →
      made_anew make (places_from test 0 ds) (map p ds) ≡ map (λ d. cond (test d) (q d) (p d)) ds
  anew_where ds h = anew_from [] 0 ds refl (λ k d at is. ap make (omega arith) ∙ h k d at is)

-- One place more.
pub anew_more : {A X : Type 0} (row : A → X) (make : ℕ → X) (places : List ℕ) (i d : ℕ) (old new : List A) (made : A) → i < length places → new ≡ slice_set old (get_or places i d) made → row made ≡ make (get_or places i d) →
    made_anew make (drop (i + 1) places) (map row new) ≡ made_anew make (drop i places) (map row old)
anew_more row make places i d old new made h e is =
    let place = get_or places i d in
    ap (made_anew make (drop (i + 1) places)) (ap (map row) e ∙ (map-set row old place made ∙ ap (slice_set (map row old) place) is))
    ∙ sym (ap (λ ps. made_anew make ps (map row old)) (front_at places i d h))

alike : {X Y : Type 0} (f g : X → Y) (xs : List X) → ((i : ℕ) (x : X) → slice_get xs i ≡ Some x → f x ≡ g x) → map f xs ≡ map g xs
alike f g [] h = refl
alike f g (x ∷ xs) h = ap₂ (λ y ys. y ∷ ys) (h 0 x refl) (alike f g xs (λ i. h (suc i)))

map_twice : {X Y Z : Type 0} (f : Y → Z) (g : X → Y) (xs : List X) → map f (map g xs) ≡ map (λ x. f (g x)) xs
map_twice f g [] = refl
map_twice f g (x ∷ xs) = ap (λ l. f (g x) ∷ l) (map_twice f g xs)

-- NUMBERS OF MESSAGES

one_more : {X : Type 0} (T m : ℕ) (x y : X) → cond (nat_eq T m) x (cond (nat_lt m T) x y) ≡ cond (nat_lt m (T + 1)) x y
one_more T m x y = go (nat_eq T m) refl (nat_lt m T) refl
  where
    go : (b : Bool) → nat_eq T m ≡ b → (c : Bool) → nat_lt m T ≡ c → cond b x (cond c x y) ≡ cond (nat_lt m (T + 1)) x y
    go true e c f = let same = eqb-true T m e in sym (ap (λ b. cond b x y) (lt-ltb m (T + 1) (omega (arith, same))))
    go false e true f = let less = ltb-true m T f in sym (ap (λ b. cond b x y) (lt-ltb m (T + 1) (omega (arith, less))))
    go false e false f =
        let past = ltb-false m T f in
        sym (ap (λ b. cond b x y) (le-ltb m (T + 1) (apart (eqb-false T m e) past)))
      where
        apart : (T ≡ m → ⊥) → T ≤ m → T + 1 ≤ m
        apart other le = omega (arith, other, le)

unless : {X : Type 0} (b c : Bool) (x y : X) → (c ≡ true → b ≡ false → x ≡ y) → (b ≡ true → c ≡ true) → cond b x y ≡ cond c x y
unless true true x y h k = refl
unless true false x y h k = let e = k refl in absurd cc
unless false true x y h k = sym (h refl refl)
unless false false x y h k = refl

module _ (base : Base) (new : FlatRows) (after : TableRows) (grown_is : after ≡ grown_rows (rows_below base) new (tables_below base)) where
  abbrev old : FlatRows
  old = rows_below base

  abbrev before : TableRows
  before = tables_below base

  abbrev catalog : List ExtensionRow
  catalog = (catalog_below base).extensions

  abbrev link : FieldDef → ExtensionRow
  link d = linked_extension (links_of old) (linked_rows old) d

  abbrev grown : ExtensionRow → ExtensionRow
  grown x = grown_extension old new before x

  abbrev again : ℕ → ExtensionRow
  again i = again_at before after catalog i

  -- Those of the first so many messages have moved.
  abbrev pub stage : ℕ → ExtensionRow → ExtensionRow
  stage T x = cond (nat_lt x.message T) (grown x) x

  catalog_linked : catalog ≡ map link old.extensions
  catalog_linked = ap (λ (c : CatalogRows). c.extensions) (catalog_is base.pool.now)

  stands : (i : ℕ) (d : FieldDef) → slice_get old.extensions i ≡ Some d → slice_get catalog i ≡ Some (link d)
  stands i d at = ap (λ (xs : List ExtensionRow). slice_get xs i) catalog_linked ∙ (slice_get-map link old.extensions i ∙ ap (option_map link) at)

  there : (i : ℕ) (x : ExtensionRow) → slice_get catalog i ≡ Some x → ExtensionThere old before i x
  there i x at = extension_of base.pool.now i x at

  linked : is_linked before ≡ true
  linked = base.pool.now.tables.linked

  -- The fields of an old message, and those of further extensions.
  fields_grown : (T : ℕ) → T < length before.messages → fields_at after T ≡ in_order (fields_at before T ++ further old new T)
  fields_grown T less =
      let make = λ (T : ℕ) (m : MessageRow). grown_message (further old new T) m in
      ap (λ (r : TableRows). fields_at r T) grown_is
      ∙ (ap fields_or_none (slice_in_front (each_from make 0 before.messages) (added_messages old new) T (omega (arith, less, each_long make 0 before.messages)) ∙ (each_at make 0 before.messages T ∙ ap (λ U. option_map (make U) (slice_get before.messages T)) (omega arith)))
      ∙ of (slice_get before.messages T) refl)
    where
      of : (o : Option MessageRow) → slice_get before.messages T ≡ o → fields_or_none (option_map (λ (m : MessageRow). grown_message (further old new T) m) o) ≡ in_order (fields_or_none o ++ further old new T)
      of None e = absurd (omega (arith, less, past before.messages T e))
        where
          past : {X : Type 0} (xs : List X) (k : ℕ) → slice_get xs k ≡ None → length xs ≤ k
          past [] k e = omega arith
          past (x ∷ xs) zero e = absurd cc
          past (x ∷ xs) (suc k) e = omega (arith, past xs k e)
      of (Some m) e = refl

  pub found : (i : ℕ) (x : ExtensionRow) → slice_get catalog i ≡ Some x → found_again before after x ≡ grown x
  found i x at =
      let e = there i x at in
      let fields = fields_at before x.message in
      let more = further old new x.message in
      let row = linked_field (links_of old) true e.definition in
      let number : number_of_row (slice_get fields x.field) ≡ row.number = ap number_of_row e.at in
      ap (λ (k : ℕ). record { message = x.message; field = k })
      (ap (λ l. unwrap_or (place_of l (number_of_row (slice_get fields x.field))) 0) (fields_grown x.message e.message)
      ∙ (ap (λ n. unwrap_or (place_of (in_order (fields ++ more)) n) 0) number
      ∙ ap (λ (o : Option ℕ). unwrap_or o 0) (places_move fields more x.field row (fields_ascend before x.message linked) e.at)))

  again_is : (i : ℕ) (x : ExtensionRow) → slice_get catalog i ≡ Some x → again i ≡ grown x
  again_is i x at = ap (λ (o : Option ExtensionRow). unwrap_or (option_map (found_again before after) o) (record { message = 0; field = 0 })) at ∙ found i x at

  -- An extension extends the message that its row names.
  known : (i : ℕ) (d : FieldDef) → slice_get old.extensions i ≡ Some d → extended_place (links_of old) d ≡ Some (link d).message
  known i d at =
      let checked = base.pool.now.built.0 in
      of d.proto.extendee
      (none_at extendee_missing old.extensions i d (three _ _ _ (checked errors.MissingType)).1 at)
      (none_at (extendee_unknown old) old.extensions i d (three _ _ _ (checked errors.UnknownType)).1 at)
    where
      of : (t : Option (String Global)) → is_none t ≡ false → names_nothing (message_names old) t ≡ false → place_named (message_names old) t ≡ Some (place_or_first (message_names old) t)
      of None e f = absurd cc
      of (Some text) e f = some (name_place (message_names old) (without_dot (string_bytes text))) f
        where
          some : (o : Option ℕ) → is_none o ≡ false → o ≡ Some (unwrap_or o 0)
          some None f = absurd cc
          some (Some k) f = refl

  -- What the lists of an old message have as its extensions is made anew.
  pub stage_more : (T : ℕ) (lists : MessageListsRow) (places : List ℕ) (xs : List ExtensionRow) → slice_get (catalog_below base).messages T ≡ Some lists → places ≡ lists.extending →
      xs ≡ map (stage T) catalog → made_anew again places xs ≡ map (stage (T + 1)) catalog
  stage_more T lists places xs at own inv =
      let test = λ (d : FieldDef). is_place T (extended_place (links_of old) d) in
      let p = λ (d : FieldDef). stage T (link d) in
      let q = λ (d : FieldDef). grown (link d) in
      let all : xs ≡ map p old.extensions = inv ∙ (ap (map (stage T)) catalog_linked ∙ map_twice (stage T) link old.extensions) in
      let where_is : places ≡ places_from test 0 old.extensions = own ∙ extending T lists at in
      ap (made_anew again places) all
      ∙ (ap (λ ps. made_anew again ps (map p old.extensions)) where_is
      ∙ (anew_where test p q again old.extensions (λ k d there is. again_is k (link d) (stands k d there))
      ∙ (alike (λ (d : FieldDef). cond (test d) (q d) (p d)) (λ (d : FieldDef). stage (T + 1) (link d)) old.extensions (λ i d there.
      ap (λ o. cond (is_place T o) (q d) (p d)) (known i d there) ∙ one_more T (link d).message (grown (link d)) (link d))
      ∙ sym (ap (map (stage (T + 1))) catalog_linked ∙ map_twice (stage (T + 1)) link old.extensions))))
    where
      extending : (T : ℕ) (lists : MessageListsRow) → slice_get (catalog_below base).messages T ≡ Some lists → lists.extending ≡ places_from (λ (d : FieldDef). is_place T (extended_place (links_of old) d)) 0 old.extensions
      extending T lists at = of (slice_get (linked_rows old).messages T) (sym (ap (λ (c : CatalogRows). slice_get c.messages T) (catalog_is base.pool.now) ∙ (each_at (linked_lists old) 0 (linked_rows old).messages T ∙ ap (λ U. option_map (linked_lists old U) (slice_get (linked_rows old).messages T)) (omega arith))) ∙ at)
        where
          of : (o : Option MessageRow) → option_map (linked_lists old T) o ≡ Some lists → lists.extending ≡ places_from (λ (d : FieldDef). is_place T (extended_place (links_of old) d)) 0 old.extensions
          of None e = absurd cc
          of (Some m) e = ap (λ (l : MessageListsRow). l.extending) (sym (same_Some (linked_lists old T m) lists e))

  unmoved : (i : ℕ) (x : ExtensionRow) → slice_get catalog i ≡ Some x → (x.message < length old.messages → further_places old new x.message ≡ []) → grown x ≡ x
  unmoved i x at none = extension_unmoved old new before x (further_empty old new x.message (none (omega (arith, (there i x at).message, rows_long base new))))

  pub stage_none : map (stage 0) catalog ≡ catalog
  stage_none = same catalog
    where
      same : (xs : List ExtensionRow) → map (stage 0) xs ≡ xs
      same [] = refl
      same (x ∷ xs) = ap₂ (λ y ys. y ∷ ys) (ap (λ b. cond b (grown x) x) (le-ltb x.message 0 (omega arith))) (same xs)

  -- Where no added extension extends the message.
  pub stage_kept : (T : ℕ) → further_places old new T ≡ [] → map (stage T) catalog ≡ map (stage (T + 1)) catalog
  stage_kept T none =
      alike (stage T) (stage (T + 1)) catalog (λ i x at.
      unless (nat_lt x.message T) (nat_lt x.message (T + 1)) (grown x) x
      (λ more less. unmoved i x at (λ h. ap (further_places old new) (here x more less) ∙ none))
      (λ less. lt-ltb x.message (T + 1) (omega (arith, ltb-true x.message T less))))
    where
      here : (x : ExtensionRow) → nat_lt x.message (T + 1) ≡ true → nat_lt x.message T ≡ false → x.message ≡ T
      here x more less = omega (arith, ltb-true x.message (T + 1) more, ltb-false x.message T less)

  pub stage_all : (n : ℕ) → ((T : ℕ) → n ≤ T → T < length old.messages → further_places old new T ≡ []) → map (stage n) catalog ≡ map grown catalog
  stage_all n rest = alike (stage n) grown catalog (λ i x at. of i x at (nat_lt x.message n) refl)
    where
      of : (i : ℕ) (x : ExtensionRow) → slice_get catalog i ≡ Some x → (b : Bool) → nat_lt x.message n ≡ b → cond b (grown x) x ≡ grown x
      of i x at true e = refl
      of i x at false e = sym (unmoved i x at (rest x.message (ltb-false x.message n e)))
