-- What was cleared along a path nests no deeper.
use Rattle.std.proofs.Common.{◌≡◌, ◌≤◌, ℕ, suc, max, Bool, true, false, cond, nat_eq, List, [], ◌∷◌, Option, Some, None, refl, ap, sym, ◌∙◌, subst, arith}
use Rattle.prost_reflect_wire.specs.Record.{Payload}
use Rattle.prost_reflect_wire.specs.Schema.{Kind, Field, Schema, known, field_of, schema_valid}
use Rattle.prost_reflect_wire.specs.Content.{Content, ContentOf, Entries, NoEntries, Stored, Unknown, Value, ScalarValue, MessageValue, ListValue, MapValue, Values, NoValues, Item, Pairs, NoPairs, Pair, Slot, slot_at, then_value, then_unknowns, store, table, numbers_in, schema_of}
use Rattle.prost_reflect_wire.specs.Levels.{levels, entries_levels, value_levels, values_levels, pairs_levels}
use Rattle.prost_reflect_wire.specs.Typing.{kind_for, WellStored}
use Rattle.prost_reflect_wire.specs.Edit.{with_value, clear_field, in_message}
use Rattle.prost_reflect_wire.proofs.Numbers.{empty_slot, slot_outside}
use Rattle.prost_reflect_laws.proofs.Rebuilt.{rebuilt}
use Rattle.prototool_commands.specs.Redacting.{in_values, in_pairs, in_messages, changed_at, cleared_along, cleared_all}
use Rattle.prototool_commands.proofs.ClearedAlong.{entries_sound, cleared_holds}
use Rattle.prototool_commands.proofs.ClearedThrough.{one_more}
use Rattle.prototool_commands.proofs.RedactedValues.{SoundValue, SoundEntries, message_sound, item_parts, pair_parts, front_parts, unknown_behind}

-- WITHOUT A NUMBER'S VALUE

abbrev without : ℕ → Entries → Entries
without n NoEntries = NoEntries
without n (Stored m v es) = cond (nat_eq m n) (without n es) (Stored m v (without n es))
without n (Unknown m p es) = Unknown m p (without n es)

abbrev cleared_slot : ℕ → ℕ → Slot → Slot
cleared_slot n m slot = cond (nat_eq m n) (with_value None slot) slot

without_unknowns : (n m : ℕ) (ps : List Payload) (es : Entries) → without n (then_unknowns m ps es) ≡ then_unknowns m ps (without n es)
without_unknowns n m [] es = refl
without_unknowns n m (p ∷ ps) es = ap (Unknown m p) (without_unknowns n m ps es)

without_value : (n m : ℕ) (o : Option Value) (es : Entries) → without n (then_value m o es) ≡ then_value m (cond (nat_eq m n) None o) (without n es)
without_value n m None es = go (nat_eq m n)
  where
    go : (b : Bool) → without n es ≡ then_value m (cond b None None) (without n es)
    go true = refl
    go false = refl
without_value n m (Some v) es = go (nat_eq m n)
  where
    go : (b : Bool) → cond b (without n es) (Stored m v (without n es)) ≡ then_value m (cond b None (Some v)) (without n es)
    go true = refl
    go false = refl

without_store : (n m : ℕ) (slot : Slot) (es : Entries) → without n (store m slot es) ≡ store m (cleared_slot n m slot) (without n es)
without_store n m slot es =
    without_value n m slot.value (then_unknowns m slot.unknowns es)
    ∙ ap (then_value m (cond (nat_eq m n) None slot.value)) (without_unknowns n m slot.unknowns es)
    ∙ go (nat_eq m n)
  where
    go : (b : Bool) → then_value m (cond b None slot.value) (then_unknowns m slot.unknowns (without n es)) ≡ store m (cond b (with_value None slot) slot) (without n es)
    go true = refl
    go false = refl

without_table : (n : ℕ) (at : ℕ → Slot) (ns : List ℕ) → without n (table at ns) ≡ table (λ m. cleared_slot n m (at m)) ns
without_table n at [] = refl
without_table n at (m ∷ ns) = without_store n m (at m) (table at ns) ∙ ap (store m (cleared_slot n m (at m))) (without_table n at ns)

cleared_is : (schema : Schema) (T n : ℕ) (es : Entries) → WellStored (ContentOf schema T es) → clear_field n es ≡ without n es
cleared_is schema T n es w =
    one_more (λ m. cleared_slot n m (slot_at es m)) n es (λ k out. ap (cleared_slot n k) (slot_outside es k out) ∙ still (nat_eq k n))
    ∙ sym (without_table n (slot_at es) (numbers_in es))
    ∙ ap (without n) (rebuilt es w.order)
  where
    still : (b : Bool) → cond b (with_value None empty_slot) empty_slot ≡ empty_slot
    still true = refl
    still false = refl

without_levels : (fields : List Field) (n : ℕ) (es : Entries) → entries_levels fields (without n es) ≤ entries_levels fields es
without_levels fields n NoEntries = omega arith
without_levels fields n (Unknown m p es) = let more = without_levels fields n es in omega (arith, more)
without_levels fields n (Stored m v es) = go (nat_eq m n) (without_levels fields n es)
  where
    go : (b : Bool) → entries_levels fields (without n es) ≤ entries_levels fields es → entries_levels fields (cond b (without n es) (Stored m v (without n es))) ≤ max (value_levels v) (entries_levels fields es)
    go true more = omega (arith, more)
    go false more = omega (arith, more)

-- MESSAGES CHANGED

abbrev LevelsBy : Schema → (Content → Content) → Type 0
LevelsBy schema F = (d : Content) → schema_of d ≡ schema → WellStored d → levels (F d) ≤ levels d

module _ (schema : Schema) (F : Content → Content) (by : LevelsBy schema F) where
  message_levels : (kind : Option Kind) (c : Content) → SoundValue schema kind (MessageValue c) → suc (levels (F c)) ≤ suc (levels c)
  message_levels kind c s = let (same, w) = message_sound schema kind c s in let less = by c same w in omega (arith, less)

  element_levels : (kind : Option Kind) (v : Value) → SoundValue schema kind v → value_levels (in_message v F) ≤ value_levels v
  element_levels kind (ScalarValue v) s = omega arith
  element_levels kind (MessageValue c) s = message_levels kind c s
  element_levels kind (ListValue vs) s = omega arith
  element_levels kind (MapValue ps) s = omega arith

  list_levels : (kind : Option Kind) (vs : Values) → SoundValue schema kind (ListValue vs) → values_levels (in_values F vs) ≤ values_levels vs
  list_levels kind NoValues s = omega arith
  list_levels kind (Item v vs) s =
      let (here, behind) = item_parts schema kind v vs s in
      let one = element_levels kind v here in
      let more = list_levels kind vs behind in
      omega (arith, one, more)

  map_levels : (kind : Option Kind) (ps : Pairs) → SoundValue schema kind (MapValue ps) → pairs_levels (in_pairs F ps) ≤ pairs_levels ps
  map_levels kind NoPairs s = omega arith
  map_levels kind (Pair k v ps) s =
      let (before, here, behind) = pair_parts schema kind k v ps s in
      let one = element_levels kind v here in
      let more = map_levels kind ps behind in
      omega (arith, one, more)

  inside_levels : (kind : Option Kind) (v : Value) → SoundValue schema kind v → value_levels (in_messages F v) ≤ value_levels v
  inside_levels kind (ScalarValue v) s = omega arith
  inside_levels kind (MessageValue c) s = message_levels kind c s
  inside_levels kind (ListValue vs) s = list_levels kind vs s
  inside_levels kind (MapValue ps) s = map_levels kind ps s

  changed_levels : (n : ℕ) (fields : List Field) (es : Entries) → SoundEntries schema fields es → entries_levels fields (changed_at n (in_messages F) es) ≤ entries_levels fields es
  changed_levels n fields NoEntries s = omega arith
  changed_levels n fields (Unknown m p es) s = let more = changed_levels n fields es (unknown_behind schema fields m p es s) in omega (arith, more)
  changed_levels n fields (Stored m v es) s =
      let parts = front_parts schema fields m v es s in
      go (nat_eq m n) parts.value (changed_levels n fields es parts.behind)
    where
      go : (b : Bool) → SoundValue schema (kind_for (field_of fields m) v) v → entries_levels fields (changed_at n (in_messages F) es) ≤ entries_levels fields es
          → max (value_levels (cond b (in_messages F v) v)) (entries_levels fields (changed_at n (in_messages F) es)) ≤ max (value_levels v) (entries_levels fields es)
      go true here more = let one = inside_levels (kind_for (field_of fields m) v) v here in omega (arith, one, more)
      go false here more = omega (arith, more)

-- ALONG PATHS

levels_along : (path : List ℕ) (c : Content) → schema_valid (schema_of c) ≡ true → WellStored c → levels (cleared_along path c) ≤ levels c
levels_along [] c checked w = omega arith
levels_along (n ∷ []) (ContentOf schema T es) checked w = subst (λ ds. entries_levels (known schema T) ds ≤ entries_levels (known schema T) es) (sym (cleared_is schema T n es w)) (without_levels (known schema T) n es)
levels_along (n ∷ m ∷ path) (ContentOf schema T es) checked w =
    changed_levels schema (cleared_along (m ∷ path)) (λ d same v. levels_along (m ∷ path) d (ap schema_valid same ∙ checked) v) n (known schema T) es (entries_sound schema T es w)

pub levels_all : (paths : List (List ℕ)) (c : Content) → schema_valid (schema_of c) ≡ true → WellStored c → levels (cleared_all paths c) ≤ levels c
levels_all [] c checked w = omega arith
levels_all (path ∷ paths) c checked w =
    let one = cleared_holds path c checked w in
    let less = levels_along path c checked w in
    let more = levels_all paths (cleared_along path c) (ap schema_valid one.schema ∙ checked) one.sound in
    omega (arith, less, more)
