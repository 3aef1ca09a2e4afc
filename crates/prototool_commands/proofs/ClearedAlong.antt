-- Contents cleared along paths.
use Rattle.std.proofs.Common.{◌≡◌, ℕ, Bool, true, false, cond, ◌&&◌, ◌||◌, nat_eq, List, [], ◌∷◌, Option, Some, None, option_map, refl, ap, sym, ◌∙◌}
use Rattle.prost_reflect_wire.specs.Schema.{Kind, Field, FieldForm, ValueType, Schema, known, field_of, schema_valid, is_singular}
use Rattle.prost_reflect_wire.specs.Content.{Content, ContentOf, Entries, NoEntries, Stored, Unknown, Value, ScalarValue, MessageValue, ListValue, MapValue, Values, NoValues, Item, Pairs, NoPairs, Pair, then_value, schema_of}
use Rattle.prost_reflect_wire.specs.Typing.{kept, kept_entries, kept_inside, kept_values, kept_pairs, kept_value, is_field_default, is_empty_value, kind_for, WellStored}
use Rattle.prost_reflect_wire.specs.Writing.{is_default_of}
use Rattle.prost_reflect_wire.specs.Edit.{in_message}
use Rattle.prost_reflect_wire.specs.Decoding.{Holds}
use Rattle.prost_reflect_laws.proofs.Checked.{known_differ}
use Rattle.prost_reflect_laws.proofs.Rebuilt.{rebuilt}
use Rattle.prost_reflect_dynamic.proofs.KeptSlots.{kept_after_clear}
use Rattle.prost_reflect_dynamic.proofs.Removals.{clear_holds}
use Rattle.prototool_commands.specs.Redacting.{in_values, in_pairs, in_messages, changed_at, cleared_along, cleared_all}
use Rattle.prototool_commands.proofs.RedactedValues.{SoundValue, SoundEntries, message_sound, item_parts, pair_parts, front_parts, unknown_behind, entries_kept}

pub entries_sound : (schema : Schema) (T : ℕ) (es : Entries) → WellStored (ContentOf schema T es) → SoundEntries schema (known schema T) es
entries_sound schema T es w = record { fits = w.fits; types = w.types; order = w.order; members = w.members }

-- what is stored holds still
pub cleared_holds : (path : List ℕ) (c : Content) → schema_valid (schema_of c) ≡ true → WellStored c → Holds c (cleared_along path c)
cleared_holds [] c checked w = record { schema = refl; type = refl; sound = w }
cleared_holds (n ∷ []) (ContentOf schema T es) checked w = record { schema = refl; type = refl; sound = clear_holds (ContentOf schema T es) n (known_differ schema T checked) w }
cleared_holds (n ∷ m ∷ path) (ContentOf schema T es) checked w =
    let more = entries_kept schema (cleared_along (m ∷ path)) (λ d same v. cleared_holds (m ∷ path) d (ap schema_valid same ∙ checked) v) n (known schema T) es (entries_sound schema T es w) in
    record { schema = refl; type = refl; sound = record { fits = more.fits; types = more.types; order = more.order; members = more.members } }

-- WHAT IS KEPT

abbrev KeptBy : Schema → (Content → Content) → Type 0
KeptBy schema F = (d : Content) → schema_of d ≡ schema → WellStored d → kept (F d) ≡ F (kept d)

module _ (schema : Schema) (F : Content → Content) (by : KeptBy schema F) where
  message_by : (kind : Option Kind) (c : Content) → SoundValue schema kind (MessageValue c) → kept (F c) ≡ F (kept c)
  message_by kind c s = let (same, w) = message_sound schema kind c s in by c same w

  element_by : (kind : Option Kind) (v : Value) → SoundValue schema kind v → kept_inside (in_message v F) ≡ in_message (kept_inside v) F
  element_by kind (ScalarValue v) s = refl
  element_by kind (MessageValue c) s = ap MessageValue (message_by kind c s)
  element_by kind (ListValue vs) s = refl
  element_by kind (MapValue ps) s = refl

  list_by : (kind : Option Kind) (vs : Values) → SoundValue schema kind (ListValue vs) → kept_values (in_values F vs) ≡ in_values F (kept_values vs)
  list_by kind NoValues s = refl
  list_by kind (Item v vs) s =
      let (here, behind) = item_parts schema kind v vs s in
      λ i. Item (element_by kind v here i) (list_by kind vs behind i)

  map_by : (kind : Option Kind) (ps : Pairs) → SoundValue schema kind (MapValue ps) → kept_pairs (in_pairs F ps) ≡ in_pairs F (kept_pairs ps)
  map_by kind NoPairs s = refl
  map_by kind (Pair k v ps) s =
      let (before, here, behind) = pair_parts schema kind k v ps s in
      λ i. Pair k (element_by kind v here i) (map_by kind ps behind i)

  value_by : (kind : Option Kind) (v : Value) → SoundValue schema kind v → kept_inside (in_messages F v) ≡ in_messages F (kept_inside v)
  value_by kind (ScalarValue v) s = refl
  value_by kind (MessageValue c) s = ap MessageValue (message_by kind c s)
  value_by kind (ListValue vs) s = ap ListValue (list_by kind vs s)
  value_by kind (MapValue ps) s = ap MapValue (map_by kind ps s)

-- what says nothing says nothing still, and nothing else does
module _ (F : Content → Content) where
  empty_same : (form : FieldForm) (v : Value) → is_empty_value form (in_messages F v) ≡ is_empty_value form v
  empty_same form (ScalarValue v) = refl
  empty_same form (MessageValue c) = refl
  empty_same form (ListValue NoValues) = refl
  empty_same form (ListValue (Item v vs)) = refl
  empty_same form (MapValue NoPairs) = refl
  empty_same form (MapValue (Pair k v ps)) = refl

  default_same : (t : ValueType) (v : Value) → is_default_of t (in_messages F v) ≡ is_default_of t v
  default_same t (ScalarValue v) = refl
  default_same t (MessageValue c) = refl
  default_same t (ListValue vs) = refl
  default_same t (MapValue ps) = refl

  nothing_same : (f : Field) (v : Value) → is_field_default f (in_messages F v) ≡ is_field_default f v
  nothing_same f v = λ i. empty_same f.form v i || (is_singular f.form && default_same f.value_type v i)

  kept_value_same : (o : Option Field) (v : Value) → kept_value o (in_messages F v) ≡ option_map (in_messages F) (kept_value o v)
  kept_value_same None v = refl
  kept_value_same (Some f) v = ap (λ b. cond b None (Some (in_messages F v))) (nothing_same f v) ∙ go (is_field_default f v)
    where
      go : (b : Bool) → cond b None (Some (in_messages F v)) ≡ option_map (in_messages F) (cond b None (Some v))
      go true = refl
      go false = refl

pub changed_then : (n m : ℕ) (change : Value → Value) (o : Option Value) (es : Entries) → changed_at n change (then_value m o es) ≡ then_value m (cond (nat_eq m n) (option_map change o) o) (changed_at n change es)
changed_then n m change None es = go (nat_eq m n)
  where
    go : (b : Bool) → changed_at n change es ≡ then_value m (cond b None None) (changed_at n change es)
    go true = refl
    go false = refl
changed_then n m change (Some v) es = go (nat_eq m n)
  where
    go : (b : Bool) → Stored m (cond b (change v) v) (changed_at n change es) ≡ then_value m (cond b (Some (change v)) (Some v)) (changed_at n change es)
    go true = refl
    go false = refl

module _ (schema : Schema) (F : Content → Content) (by : KeptBy schema F) (n : ℕ) where
  entries_by : (fields : List Field) (es : Entries) → SoundEntries schema fields es → kept_entries fields (changed_at n (in_messages F) es) ≡ changed_at n (in_messages F) (kept_entries fields es)
  entries_by fields NoEntries s = refl
  entries_by fields (Unknown m p es) s = ap (Unknown m p) (entries_by fields es (unknown_behind schema fields m p es s))
  entries_by fields (Stored m v es) s =
      let parts = front_parts schema fields m v es s in
      (λ i. then_value m (one (nat_eq m n) parts.value i) (entries_by fields es parts.behind i))
      ∙ sym (changed_then n m (in_messages F) (kept_value (field_of fields m) (kept_inside v)) (kept_entries fields es))
    where
      one : (b : Bool) → SoundValue schema (kind_for (field_of fields m) v) v → kept_value (field_of fields m) (kept_inside (cond b (in_messages F v) v)) ≡ cond b (option_map (in_messages F) (kept_value (field_of fields m) (kept_inside v))) (kept_value (field_of fields m) (kept_inside v))
      one true here = ap (kept_value (field_of fields m)) (value_by schema F by (kind_for (field_of fields m) v) v here) ∙ kept_value_same F (field_of fields m) (kept_inside v)
      one false here = refl

-- what is kept of a content that was cleared along a path is what was kept, cleared along it
pub kept_along : (path : List ℕ) (c : Content) → schema_valid (schema_of c) ≡ true → WellStored c → kept (cleared_along path c) ≡ cleared_along path (kept c)
kept_along [] c checked w = refl
kept_along (n ∷ []) (ContentOf schema T es) checked w = kept_after_clear (ContentOf schema T es) n (rebuilt es w.order)
kept_along (n ∷ m ∷ path) (ContentOf schema T es) checked w =
    ap (ContentOf schema T) (entries_by schema (cleared_along (m ∷ path)) (λ d same v. kept_along (m ∷ path) d (ap schema_valid same ∙ checked) v) n (known schema T) es (entries_sound schema T es w))

pub kept_all : (paths : List (List ℕ)) (c : Content) → schema_valid (schema_of c) ≡ true → WellStored c → kept (cleared_all paths c) ≡ cleared_all paths (kept c)
kept_all [] c checked w = refl
kept_all (path ∷ paths) c checked w =
    let one = cleared_holds path c checked w in
    kept_all paths (cleared_along path c) (ap schema_valid one.schema ∙ checked) one.sound ∙ ap (cleared_all paths) (kept_along path c checked w)
