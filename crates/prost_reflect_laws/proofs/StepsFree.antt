-- More levels than are left change nothing of what records make of a content.
use Rattle.std.specs.Prelude.{◌≡◌, ◌≤◌, ◌<◌, ◌^◌, ◌&&◌, ◌∷◌, ◌++◌}
use Rattle.prost_reflect_laws.proofs.Common.{ℕ, zero, suc, Bool, true, false, cond, List, [], length, map, nat_eq, nat_le, Option, Some, None, refl, ap, ap₂, sym, ◌∙◌, arith, true≢false, max, list_all, eqb-true, and_parts, ◌>>=◌, Payload, Record, body_of, valid, payload_valid, payload_levels, Kind, ScalarOf, MessageOf, GroupOf, FieldForm, Singular, Repeated, MapFrom, Field, Schema, known, field_of, is_sibling, is_message, numbers_differ, field_valid, schema_valid, passes, Content, ContentOf, Entries, Value, ScalarValue, MessageValue, ListValue, MapValue, Slot, schema_of, type_of, values_from, ◌and_then◌, slot_at, changed, insert_number, numbers_in, LEVEL_LIMIT, AllowsInside, body, records_in, is_len, is_group_payload, has_level, in_entry_allowed, field_allowed, record_allowed, nothing_inside, allows, value_payloads, unknown_payloads, MeansInside, JoinsInside, present_list, present_map, put, entry_key, content_in, values_in, pairs_in, one_joined, value_joined, value_step, value_steps, value_behind, slot_step, steps_by, empty_inside, joins_nothing, meaning, steps, levels, merged, records, encoded, is_of_type, WellTyped, passes_in, message_in, numbered_two, Agrees, element_agree, value_agree, source_allowed, allows_append, table_same, field_number, meaning_empty, same_behind, block, StaysWell, Writable}
use Rattle.prost_reflect_laws.proofs.Checked.{known_valid, known_differ}
use Rattle.prost_reflect_laws.proofs.Means.{first_valid}
use Rattle.prost_reflect_laws.proofs.Means.{records_mean}
use Rattle.prost_reflect_laws.proofs.Pieces.{pieces_join, allowed_within, levels_within}
use Rattle.prost_reflect_laws.proofs.Readable.{number_spelled, inside_spelled}
use Rattle.prost_reflect_laws.proofs.Slots.{well_good, GoodContent, GoodEntries, GoodSlots, slots_good}
use Rattle.prost_reflect_laws.proofs.GoodValues.{Inside, GoodInside, FieldGiven, NoStray, content_good}
use Rattle.prost_reflect_laws.proofs.GoodSteps.{source_good, given, one_behind, sources_good, entries_step, one_level, steps_good, meaning_good, meaning_typed}
use Rattle.prost_reflect_laws.proofs.NormalForms.{meaning_schema, meaning_type, merged_well}
use Rattle.prost_reflect_laws.proofs.Readings.{steps_behind}

-- what is read and joined one level down is the same with more levels, with which it stays well-typed
pub record SameInside (schema : Schema) (j : ℕ) (allow : AllowsInside) (inner : MeansInside) (further : JoinsInside) (wide : AllowsInside) (outer : MeansInside) (beyond : JoinsInside) : Type 0 where
  pub good : GoodInside schema j wide outer beyond
  pub widens : (T : ℕ) (rs : List Record) → allow T rs ≡ true → wide T rs ≡ true
  pub agrees : Agrees allow inner outer
  pub join : (T : ℕ) (c : Content) (rs : List Record) → Inside schema j T c → valid (body_of rs) ≡ true → allow T rs ≡ true → further c rs ≡ beyond c rs

content_same : (allow : AllowsInside) (inner outer : MeansInside) (T : ℕ) (old : Option Value) → Agrees allow inner outer → content_in inner T old ≡ content_in outer T old
content_same allow inner outer T None a = a.none T
content_same allow inner outer T (Some (ScalarValue v)) a = a.none T
content_same allow inner outer T (Some (ListValue vs)) a = a.none T
content_same allow inner outer T (Some (MapValue ps)) a = a.none T
content_same allow inner outer T (Some (MessageValue c)) a = refl

module _ (schema : Schema) (k j : ℕ) (allow : AllowsInside) (inner : MeansInside) (further : JoinsInside) (wide : AllowsInside) (outer : MeansInside) (beyond : JoinsInside) (fields : List Field) (same : SameInside schema j allow inner further wide outer beyond) (all : list_all (field_valid schema) fields ≡ true) (differ : numbers_differ fields ≡ true) where
  message_same : (f : Field) (old : Option Value) (T : ℕ) (rs : List Record) → FieldGiven schema j f old → f.form ≡ Singular → is_message f.value_type.kind ≡ true → ((U : ℕ) → is_of_type f.value_type.kind U ≡ true → U ≡ T) → valid (body_of rs) ≡ true → allow T rs ≡ true →
      further (content_in inner T old) rs ≡ beyond (content_in outer T old) rs
  message_same f old T rs given s m t v a =
      ap (λ c. further c rs) (content_same allow inner outer T old same.agrees)
      ∙ same.join T (content_in outer T old) rs (content_good schema j T wide outer beyond f old rs same.good s m t given.old_good (same.widens T rs a)) v a

  value_same : (f : Field) (old : Option Value) (p : Payload) → FieldGiven schema j f old → payload_valid p ≡ true → source_allowed k allow f.form f.value_type p ≡ true → value_joined inner further f.form f.value_type old p ≡ value_joined outer beyond f.form f.value_type old p
  value_same f old p given v a = go f.form refl a
    where
      one : f.form ≡ Singular → (kind : Kind) → f.value_type.kind ≡ kind → source_allowed k allow Singular (record f.value_type { kind = kind }) p ≡ true → one_joined inner further f.value_type kind old p ≡ one_joined outer beyond f.value_type kind old p
      one s (ScalarOf kind) e a = refl
      one s (MessageOf T) e a = ap (λ c. Some (MessageValue c)) (message_same f old T (records_in p) given s (ap is_message e) (λ U h. eqb-true U T (sym (ap (λ x. is_of_type x U) e) ∙ h)) (inside_spelled p v) (message_in allow T is_len p a))
      one s (GroupOf T) e a = ap (λ c. Some (MessageValue c)) (message_same f old T (records_in p) given s (ap is_message e) (λ U h. eqb-true U T (sym (ap (λ x. is_of_type x U) e) ∙ h)) (inside_spelled p v) (message_in allow T is_group_payload p a))

      go : (c : FieldForm) → f.form ≡ c → source_allowed k allow c f.value_type p ≡ true → value_joined inner further c f.value_type old p ≡ value_joined outer beyond c f.value_type old p
      go Singular s a = one s f.value_type.kind refl a
      go (Repeated packed) s a = ap (λ vs. present_list (values_in old and_then values_from vs)) (element_agree allow inner outer f.value_type.kind p same.agrees a)
      go (MapFrom key) s a =
          let inside : list_all (in_entry_allowed k allow key f.value_type) (records_in p) ≡ true =
          passes_in p (list_all (in_entry_allowed k allow key f.value_type)) (and_parts (is_len p && has_level k f.value_type.kind) (passes (body p) (list_all (in_entry_allowed k allow key f.value_type))) a).1 in
          ap (λ w. present_map (put (entry_key key (records_in p)) w (pairs_in old))) (value_agree allow inner outer f.value_type f.value_type.kind (records_in p) same.agrees (numbered_two k allow key f.value_type (records_in p) inside))

  -- the value at a number behind records of values
  abbrev behind : MeansInside → JoinsInside → (ℕ → Slot) → List Record → ℕ → Slot
  behind inner further at rs n = record { value = value_behind inner further fields n (at n).value rs; unknowns = (at n).unknowns }

  more : (inner : MeansInside) (further : JoinsInside) (at : ℕ → Slot) (r : Record) (rs : List Record) (n : ℕ) → behind inner further (behind inner further at (r ∷ [])) rs n ≡ behind inner further at (r ∷ rs) n
  more inner further at r rs n = ap (λ (o : Option Value). record { value = o; unknowns = (at n).unknowns }) (go (field_of fields n))
    where
      go : (o : Option Field) → (o >>= λ f. value_steps inner further fields f (o >>= λ f. value_step inner further fields f (at n).value r) rs) ≡ (o >>= λ f. value_steps inner further fields f (value_step inner further fields f (at n).value r) rs)
      go None = refl
      go (Some f) = refl

  one_same : (at : ℕ → Slot) (m : ℕ) (f : Field) (p : Payload) (n : ℕ) → GoodSlots schema fields j at → field_of fields m ≡ Some f → source_good k allow f.form f.value_type p ≡ true →
      behind inner further at (record { number = m; payload = p } ∷ []) n ≡ behind outer beyond at (record { number = m; payload = p } ∷ []) n
  one_same at m f p n g found s = ap (λ (o : Option Value). record { value = o; unknowns = (at n).unknowns }) (go (field_of fields n) refl)
    where
      its : (h : Field) → field_of fields n ≡ Some h → n ≡ m → h ≡ f
      its h e same = ap (λ (o : Option Field). elim o [ None ↦ h | Some x ↦ x ]) (sym e ∙ ap (field_of fields) same ∙ found)

      by : (h : Field) → field_of fields n ≡ Some h → (a : Bool) → nat_eq m h.number ≡ a → cond a (value_joined inner further h.form h.value_type (at n).value p) (cond (is_sibling fields h m) None (at n).value) ≡ cond a (value_joined outer beyond h.form h.value_type (at n).value p) (cond (is_sibling fields h m) None (at n).value)
      by h e false d = refl
      by h e true d =
          let own : h ≡ f = its h e (sym (field_number fields n h e) ∙ sym (eqb-true m h.number d)) in
          let source : source_good k allow h.form h.value_type p ≡ true = ap (λ (y : Field). source_good k allow y.form y.value_type p) own ∙ s in
          let (one, two) = and_parts (payload_valid p && source_allowed k allow h.form h.value_type p) (NoStray h.form h.value_type p) source in
          let (spelt, allowed) = and_parts (payload_valid p) (source_allowed k allow h.form h.value_type p) one in
          value_same h (at n).value p (given schema j wide outer beyond fields same.good all differ at n h g e) spelt allowed

      go : (o : Option Field) → field_of fields n ≡ o → (o >>= λ h. value_step inner further fields h (at n).value (record { number = m; payload = p })) ≡ (o >>= λ h. value_step outer beyond fields h (at n).value (record { number = m; payload = p }))
      go None e = refl
      go (Some h) e = by h e (nat_eq m h.number) refl

  block_same : (at : ℕ → Slot) (m : ℕ) (f : Field) (ps : List Payload) (n : ℕ) → GoodSlots schema fields j at → field_of fields m ≡ Some f → list_all (source_good k allow f.form f.value_type) ps ≡ true → list_all (source_good j wide f.form f.value_type) ps ≡ true →
      behind inner further at (block m ps) n ≡ behind outer beyond at (block m ps) n
  block_same at m f [] n g found s w = refl
  block_same at m f (p ∷ ps) n g found s w =
      let r : Record = record { number = m; payload = p } in
      let (one, rest) = and_parts (source_good k allow f.form f.value_type p) (list_all (source_good k allow f.form f.value_type) ps) s in
      let (wide_one, wide_rest) = and_parts (source_good j wide f.form f.value_type p) (list_all (source_good j wide f.form f.value_type) ps) w in
      sym (more inner further at r (block m ps) n)
      ∙ ap (λ (slot : Slot). record { value = value_behind inner further fields n slot.value (block m ps); unknowns = slot.unknowns }) (one_same at m f p n g found one)
      ∙ block_same (behind outer beyond at (r ∷ [])) m f ps n (one_behind schema j wide outer beyond fields same.good all differ at m f p g found wide_one) found rest wide_rest
      ∙ more outer beyond at r (block m ps) n

  slot_same : (at : ℕ → Slot) (r : Record) (n : ℕ) → GoodSlots schema fields j at → payload_valid r.payload ≡ true → record_allowed k allow fields r ≡ true → record_allowed j wide fields r ≡ true → slot_step inner further fields r n (at n) ≡ slot_step outer beyond fields r n (at n)
  slot_same at r n g v a w =
      ap (λ (slot : Slot). record { value = slot.value; unknowns = (at n).unknowns ++ cond (nat_eq r.number n) (unknown_payloads fields r) [] }) (go (field_of fields r.number) refl a w)
    where
      go : (o : Option Field) → field_of fields r.number ≡ o → (elim o [ None ↦ nat_le (payload_levels r.payload) k | Some f ↦ field_allowed k allow f.form f.value_type r.payload ]) ≡ true
          → (elim o [ None ↦ nat_le (payload_levels r.payload) j | Some f ↦ field_allowed j wide f.form f.value_type r.payload ]) ≡ true
          → behind inner further at (elim o [ None ↦ [] | Some f ↦ map (λ p. record { number = r.number; payload = p }) (value_payloads f.form f.value_type r.payload) ]) n
          ≡ behind outer beyond at (elim o [ None ↦ [] | Some f ↦ map (λ p. record { number = r.number; payload = p }) (value_payloads f.form f.value_type r.payload) ]) n
      go None e a w = refl
      go (Some f) e a w = block_same at r.number f (value_payloads f.form f.value_type r.payload) n g e (sources_good k allow f.form f.value_type r.payload v a) (sources_good j wide f.form f.value_type r.payload v w)

  pub entries_same : (es : Entries) (r : Record) → GoodEntries schema fields j es → payload_valid r.payload ≡ true → record_allowed k allow fields r ≡ true → record_allowed j wide fields r ≡ true → changed r.number (slot_step inner further fields r) es ≡ changed r.number (slot_step outer beyond fields r) es
  entries_same es r g v a w = table_same (λ n. slot_step inner further fields r n (slot_at es n)) (λ n. slot_step outer beyond fields r n (slot_at es n)) (insert_number r.number (numbers_in es)) (λ n. slot_same (slot_at es) r n (slots_good schema fields j es differ g) v a w)

-- CONTENTS

by_records : (schema : Schema) (k j T : ℕ) (allow : AllowsInside) (inner : MeansInside) (further : JoinsInside) (wide : AllowsInside) (outer : MeansInside) (beyond : JoinsInside) (es : Entries) (rs : List Record) → SameInside schema j allow inner further wide outer beyond → schema_valid schema ≡ true →
    GoodContent j (ContentOf schema T es) → valid (body_of rs) ≡ true → list_all (record_allowed k allow (known schema T)) rs ≡ true → list_all (record_allowed j wide (known schema T)) rs ≡ true → steps_by inner further (ContentOf schema T es) rs ≡ steps_by outer beyond (ContentOf schema T es) rs
by_records schema k j T allow inner further wide outer beyond es [] same h g v a w = refl
by_records schema k j T allow inner further wide outer beyond es (r ∷ rs) same h g v a w =
    let (one, more) = and_parts (record_allowed k allow (known schema T) r) (list_all (record_allowed k allow (known schema T)) rs) a in
    let (wide_one, wide_more) = and_parts (record_allowed j wide (known schema T) r) (list_all (record_allowed j wide (known schema T)) rs) w in
    let (spelt, rest) = first_valid r rs v in
    let all : list_all (field_valid schema) (known schema T) ≡ true = known_valid schema T h in
    let differ : numbers_differ (known schema T) ≡ true = known_differ schema T h in
    let old : GoodEntries schema (known schema T) j es = record { deep = g.deep; types = g.types; order = g.order; low = g.low } in
    let new : GoodEntries schema (known schema T) j (changed r.number (slot_step outer beyond (known schema T) r) es) =
    entries_step schema j wide outer beyond (known schema T) same.good all differ es r old (number_spelled r rs v) spelt wide_one in
    ap (λ es. steps_by inner further (ContentOf schema T es) rs) (entries_same schema k j allow inner further wide outer beyond (known schema T) same all differ es r old spelt one wide_one)
    ∙ by_records schema k j T allow inner further wide outer beyond (changed r.number (slot_step outer beyond (known schema T) r) es) rs same h (record { deep = new.deep; types = new.types; order = new.order; low = new.low }) rest more wide_more

-- with so many levels, and with those of the content where it has more
abbrev Free : ℕ → ℕ → Type 0
Free k j = (c : Content) (rs : List Record) → schema_valid (schema_of c) ≡ true → GoodContent j c → valid (body_of rs) ≡ true → allows (schema_of c) k (type_of c) rs ≡ true → k ≤ j → steps k c rs ≡ steps j c rs

no_level_same : (schema : Schema) (j : ℕ) → schema_valid schema ≡ true → SameInside schema (suc j) nothing_inside (empty_inside schema) joins_nothing (allows schema j) (meaning schema j) (steps j)
no_level_same schema j h = record {
  good = one_level schema j h (steps_good j);
  widens = λ T rs a. absurd (true≢false (sym a));
  agrees = record { same = λ T rs a. absurd (true≢false (sym a)); join = λ T xs ys a b. a; none = λ T. sym (meaning_empty schema j T) };
  join = λ T c rs i v a. absurd (true≢false (sym a));
}

level_same : (schema : Schema) (k j : ℕ) → schema_valid schema ≡ true → Free k j → k ≤ j → SameInside schema (suc j) (allows schema k) (meaning schema k) (steps k) (allows schema j) (meaning schema j) (steps j)
level_same schema k j h free l = record {
  good = one_level schema j h (steps_good j);
  widens = λ T rs a. allowed_within schema k j T rs a l;
  agrees = record { same = λ T rs a. levels_within schema k j T rs a l; join = allows_append schema k; none = λ T. meaning_empty schema k T ∙ sym (meaning_empty schema j T) };
  join = λ T c rs i v a. free c rs (ap schema_valid i.schema_same ∙ h) (record { deep = i.deep; types = i.types; order = i.order; low = pred (levels c) j i.low }) v (ap₂ (λ s t. allows s k t rs) i.schema_same i.type_same ∙ a) l;
}
  where
    pred : (a b : ℕ) → suc a ≤ suc b → a ≤ b
    pred a b l = omega arith

free : (k j : ℕ) → Free k j
unfolding steps allows
free zero zero c rs h g v a l = refl
free zero (suc j) (ContentOf schema T es) rs h g v a l =
    by_records schema 0 (suc j) T nothing_inside (empty_inside schema) joins_nothing (allows schema j) (meaning schema j) (steps j) es rs (no_level_same schema j h) h g v a (allowed_within schema 0 (suc j) T rs a l)
free (suc k) zero c rs h g v a l = absurd (omega (arith, l))
free (suc k) (suc j) (ContentOf schema T es) rs h g v a l =
    by_records schema (suc k) (suc j) T (allows schema k) (meaning schema k) (steps k) (allows schema j) (meaning schema j) (steps j) es rs (level_same schema k j h (free k j) (omega (arith, l))) h g v a (allowed_within schema (suc k) (suc j) T rs a l)

-- whatever levels the content has
within : (k m j : ℕ) (c : Content) (rs : List Record) → schema_valid (schema_of c) ≡ true → GoodContent j c → valid (body_of rs) ≡ true → allows (schema_of c) k (type_of c) rs ≡ true → k ≤ m → m ≤ j → steps k c rs ≡ steps m c rs
within k m j c rs h g v a l u = free k j c rs h g v a (omega arith) ∙ sym (free m j c rs h g v (allowed_within (schema_of c) k m (type_of c) rs a l) u)

pub steps_within : (k m : ℕ) (c : Content) (rs : List Record) → schema_valid (schema_of c) ≡ true → WellTyped c → valid (body_of rs) ≡ true → allows (schema_of c) k (type_of c) rs ≡ true → k ≤ m → steps k c rs ≡ steps m c rs
steps_within k m c rs h w v a l =
    let j : ℕ = max (levels c) m in
    within k m j c rs h (well_good j c w (omega arith)) v a l (omega arith)

pub pieces : (schema : Schema) (k m T : ℕ) (front behind : List Record) → schema_valid schema ≡ true → valid (body_of front) ≡ true → allows schema k T front ≡ true → valid (body_of behind) ≡ true → allows schema LEVEL_LIMIT T behind ≡ true → k ≤ m → LEVEL_LIMIT ≤ m →
    merged (meaning schema k T front) behind ≡ meaning schema m T (front ++ behind)
pieces schema k m T front behind h v a v' a' l l' =
    let c : Content = meaning schema k T front in
    let g : GoodContent k (meaning schema k T front) = meaning_good schema k T front h v a in
    let low : levels (meaning schema k T front) ≤ k = g.low in
    let j : ℕ = max (levels (meaning schema k T front)) LEVEL_LIMIT in
    steps_within j m (meaning schema k T front) behind (ap schema_valid (meaning_schema schema k T front) ∙ h) (meaning_typed schema k T front h v a) v'
    (ap₂ (λ s t. allows s j t behind) (meaning_schema schema k T front) (meaning_type schema k T front) ∙ allowed_within schema LEVEL_LIMIT j T behind a' (omega arith)) (omega arith)
    ∙ pieces_join schema k m T front behind a l

pub merges_join : (c : Content) (front behind : List Record) → schema_valid (schema_of c) ≡ true → WellTyped c → valid (body_of front) ≡ true → allows (schema_of c) LEVEL_LIMIT (type_of c) front ≡ true →
    valid (body_of behind) ≡ true → allows (schema_of c) LEVEL_LIMIT (type_of c) behind ≡ true → merged (merged c front) behind ≡ merged c (front ++ behind)
merges_join c front behind h w v a v' a' =
    let d : Content = merged c front in
    let s : StaysWell (max (levels c) LEVEL_LIMIT) c (merged c front) = merged_well c front h w v a in
    let low : levels (merged c front) ≤ max (levels c) LEVEL_LIMIT = s.low in
    let j : ℕ = max (levels (merged c front)) LEVEL_LIMIT in
    steps_within j (max (levels c) LEVEL_LIMIT) (merged c front) behind (ap schema_valid s.schema_same ∙ h) s.typed v'
    (ap₂ (λ s t. allows s j t behind) s.schema_same s.type_same ∙ allowed_within (schema_of c) LEVEL_LIMIT j (type_of c) behind a' (omega arith)) (omega arith)
    ∙ sym (steps_behind (max (levels c) LEVEL_LIMIT) c (merged c front) front behind refl s.schema_same)

pub written_pieces : (schema : Schema) (k m T : ℕ) (front behind : List Record) → schema_valid schema ≡ true → valid (body_of front) ≡ true → allows schema k T front ≡ true → length (encoded (meaning schema k T front)) < 2 ^ 64 → k ≤ m →
    meaning schema m T (records (meaning schema k T front) ++ behind) ≡ meaning schema m T (front ++ behind)
written_pieces schema k m T front behind h v a short l =
    let c : Content = meaning schema k T front in
    let g : GoodContent k (meaning schema k T front) = meaning_good schema k T front h v a in
    let low : levels (meaning schema k T front) ≤ k = g.low in
    let same : schema_of (meaning schema k T front) ≡ schema = meaning_schema schema k T front in
    let type : type_of (meaning schema k T front) ≡ T = meaning_type schema k T front in
    let writable : Writable (meaning schema k T front) = record { checked = ap schema_valid same ∙ h; typed = meaning_typed schema k T front h v a; length = short } in
    same_behind schema m T (records c) front behind (ap₂ (λ s t. meaning s m t (records c)) (sym same) (sym type) ∙ records_mean m c writable (omega arith) ∙ levels_within schema k m T front a l)
