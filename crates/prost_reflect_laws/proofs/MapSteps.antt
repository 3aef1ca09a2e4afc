-- An entry of a map, read into a content that holds: its key and its value are put among the pairs that are there.
use Rattle.std.specs.Prelude.{◌≡◌, ◌≢◌, ◌&&◌, ◌∷◌}
use Rattle.prost_reflect_laws.proofs.Common.{ℕ, Bool, true, false, cond, not, List, [], Option, Some, None, refl, ap, ap₂, sym, ◌∙◌, subst, append-nil, inl, inr, arith, true≢false, list_all, and_parts, and_from, WireType, DecodeError, ◌>>=◌, Len, Records, Payload, Flat, items, body_of, Spells, DelimitedFront, RecordsFront, PlainFault, Scalar, scalar_lt, scalar_eq, Kind, ValueType, MapFrom, Field, Schema, known, field_of, is_singular, numbers_differ, passes, is_list, Content, ContentOf, Entries, Value, ListValue, MapValue, Pairs, NoPairs, Pair, value_at, slot_at, changed, schema_of, type_of, entries_of, value_ordered, pairs_ordered, AllowsInside, body, or_none, is_stray_entry, value_payloads, stray_payloads, has_level, in_entry_allowed, field_allowed, MeansInside, entry_key, entry_value, put, present_map, pairs_in, value_joined, fit_test, alone_test, kind_takes, element_valid, pairs_valid, value_valid, value_passes, pairs_pass, kind_for, ValueTyped, PairsTyped, kept_inside, kept_pairs, WellStored, ValueStored, with_stored, Step, StandsBehindKey, OfType, Stands, Here, InEntry, takes, same_wire, IsMapped, EntryTo, EntryPlace, BodyFault, spelled_read, items_body, pairs_present, plain_stands}
use Rattle.prost_reflect_wire.specs.declared.key.WireType.TheVariants as wires
use Rattle.prost_reflect_wire.specs.declared.error.DecodeError.TheVariants as errors
use Rattle.prost_reflect_laws.proofs.Allowed.{inside}
use Rattle.prost_reflect_laws.proofs.Means.{below, further}
use Rattle.prost_reflect_laws.proofs.Arranged.{OrderedOption, put_ordered}
use Rattle.prost_reflect_laws.proofs.ValueCarried.{kept_map}
use Rattle.prost_reflect_laws.proofs.StoredSound.{inside_value}
use Rattle.prost_reflect_laws.proofs.StoredSteps.{value_in_order}
use Rattle.prost_reflect_laws.proofs.StoredPasses.{OptionPasses, SlotPasses, passes_slots}
use Rattle.prost_reflect_laws.proofs.StoredTyped.{OptionTyped, typed_values}
use Rattle.prost_reflect_laws.proofs.JoinedSteps.{kept_old, value_holds}

-- WHAT IS KEPT

-- what is kept of a pair put into a map is put into what is kept of the map
pub kept_put : (k : Scalar) (v : Value) (ps : Pairs) → kept_pairs (put k v ps) ≡ put k (kept_inside v) (kept_pairs ps)
kept_put k v NoPairs = refl
kept_put k v (Pair l w ps) = go (scalar_lt k l) (scalar_eq k l) ∙ ap (λ qs. cond (scalar_lt k l) (Pair k (kept_inside v) (Pair l (kept_inside w) (kept_pairs ps))) (cond (scalar_eq k l) (Pair k (kept_inside v) (kept_pairs ps)) (Pair l (kept_inside w) qs))) (kept_put k v ps)
  where
    go : (a b : Bool) → kept_pairs (cond a (Pair k v (Pair l w ps)) (cond b (Pair k v ps) (Pair l w (put k v ps))))
        ≡ cond a (Pair k (kept_inside v) (Pair l (kept_inside w) (kept_pairs ps))) (cond b (Pair k (kept_inside v) (kept_pairs ps)) (Pair l (kept_inside w) (kept_pairs (put k v ps))))
    go true b = refl
    go false true = refl
    go false false = refl

-- PAIRS THAT FIT

-- a key and a value that fit a map
pub record PairStored (schema : Schema) (key : ValueType) (kind : Kind) (k : Scalar) (v : Value) : Type 0 where
  pub key_taken : kind_takes key.kind k ≡ true
  pub valid : element_valid kind v ≡ true
  pub fits : value_passes fit_test v ≡ true
  pub types : ValueTyped schema (Some kind) v
  pub order : value_ordered v ≡ true
  pub members : value_passes alone_test v ≡ true

-- all of a map's pairs but their order
pub record PairsStored (schema : Schema) (key : ValueType) (kind : Kind) (ps : Pairs) : Type 0 where
  pub valid : pairs_valid (MapFrom key) kind ps ≡ true
  pub fits : pairs_pass fit_test ps ≡ true
  pub types : PairsTyped schema (Some kind) ps
  pub members : pairs_pass alone_test ps ≡ true

module _ (schema : Schema) (key : ValueType) (kind : Kind) where
  no_pairs_stored : PairsStored schema key kind NoPairs
  no_pairs_stored = record { valid = refl; fits = refl; types = tt; members = refl }

  first_stored : (k : Scalar) (v : Value) (ps : Pairs) → PairStored schema key kind k v → PairsStored schema key kind ps → PairsStored schema key kind (Pair k v ps)
  first_stored k v ps p s = record { valid = and_from _ _ (and_from _ _ p.key_taken p.valid) s.valid; fits = and_from _ _ p.fits s.fits; types = (p.types, s.types); members = and_from _ _ p.members s.members }

  put_stored : (k : Scalar) (v : Value) (ps : Pairs) → PairStored schema key kind k v → PairsStored schema key kind ps → PairsStored schema key kind (put k v ps)
  put_stored k v NoPairs p s = first_stored k v NoPairs p s
  put_stored k v (Pair l w ps) p s =
      let (own, valid) = and_parts (kind_takes key.kind l && element_valid kind w) (pairs_valid (MapFrom key) kind ps) s.valid in
      let (fit, fits) = and_parts (value_passes fit_test w) (pairs_pass fit_test ps) s.fits in
      let (member, members) = and_parts (value_passes alone_test w) (pairs_pass alone_test ps) s.members in
      let rest : PairsStored schema key kind ps = record { valid = valid; fits = fits; types = s.types.1; members = members } in
      let more : PairsStored schema key kind (put k v ps) = put_stored k v ps p rest in
      go (scalar_lt k l) (scalar_eq k l) rest
      (record { valid = and_from _ _ own more.valid; fits = and_from _ _ fit more.fits; types = (s.types.0, more.types); members = and_from _ _ member more.members })
    where
      go : (a b : Bool) → PairsStored schema key kind ps → PairsStored schema key kind (Pair l w (put k v ps)) → PairsStored schema key kind (cond a (Pair k v (Pair l w ps)) (cond b (Pair k v ps) (Pair l w (put k v ps))))
      go true b rest more = first_stored k v (Pair l w ps) p s
      go false true rest more = first_stored k v ps p rest
      go false false rest more = more

-- WHAT IS THERE

-- what is stored of a map
pub record StoredMap (schema : Schema) (key : ValueType) (kind : Kind) (o : Option Value) : Type 0 where
  pub mapped : IsMapped o
  pub pairs : PairsStored schema key kind (pairs_in o)
  pub order : pairs_ordered (pairs_in o) ≡ true

kept_mapped : (f : Field) (key : ValueType) (o : Option Value) → f.form ≡ MapFrom key → IsMapped o → pairs_in (kept_old f o) ≡ kept_pairs (pairs_in o)
kept_mapped f key None form m = refl
kept_mapped f key (Some (MapValue ps)) form m = ap pairs_in (kept_map f key (kept_pairs ps) form) ∙ pairs_present (kept_pairs ps)
kept_mapped f key _ form m = absurd m

module _ (schema : Schema) (f : Field) (key : ValueType) (form : f.form ≡ MapFrom key) where
  valid_map : (v : Value) → value_valid f v ≡ true → value_passes fit_test v ≡ true → ValueTyped schema (kind_for (Some f) v) v → value_ordered v ≡ true → value_passes alone_test v ≡ true → StoredMap schema key f.value_type.kind (Some v)
  valid_map (MapValue ps) h fits types o members = record {
    mapped = tt;
    pairs = record { valid = ap (λ form. pairs_valid form f.value_type.kind ps) (sym form) ∙ h; fits = fits; types = types; members = members };
    order = o;
  }
  valid_map (ListValue vs) h fits types o members = absurd (true≢false (sym (and_parts _ _ h).0 ∙ ap is_list form))
  valid_map _ h fits types o members = absurd (true≢false (sym (and_parts _ _ h).0 ∙ ap is_singular form))

  map_stored : (ps : Pairs) → PairsStored schema key f.value_type.kind ps → pairs_ordered ps ≡ true → ValueStored schema f (MapValue ps)
  map_stored ps s o = record { valid = ap (λ form. pairs_valid form f.value_type.kind ps) form ∙ s.valid; fits = s.fits; types = s.types; order = o; members = s.members }

module _ (schema : Schema) (T : ℕ) (es : Entries) (sound : WellStored (ContentOf schema T es)) where
  -- the map at the number of its field
  pub stored_map : (n : ℕ) (f : Field) (key : ValueType) → field_of (known schema T) n ≡ Some f → f.form ≡ MapFrom key → StoredMap schema key f.value_type.kind (value_at n es)
  stored_map n f key found form = go (value_at n es) refl
    where
      own : ℕ → Value → Bool
      own m w = passes (field_of (known schema T) m) (λ f. value_valid f w)

      fitting : SlotPasses fit_test (known schema T) own n (slot_at es n)
      fitting = passes_slots fit_test (known schema T) own (record { same = λ m w es. refl }) es n sound.fits

      go : (o : Option Value) → value_at n es ≡ o → StoredMap schema key f.value_type.kind o
      go None e = record { mapped = tt; pairs = no_pairs_stored schema key f.value_type.kind; order = refl }
      go (Some w) e =
          let fits = and_parts (own n w) (value_passes fit_test w) (subst (OptionPasses fit_test (known schema T) own n) e fitting.value) in
          let types : ValueTyped schema (kind_for (field_of (known schema T) n) w) w = subst (OptionTyped schema (known schema T) n) e (typed_values schema (known schema T) es n sound.types) in
          valid_map schema f key form w (ap (λ o. passes o (λ f. value_valid f w)) (sym found) ∙ fits.0) fits.1
          (subst (λ o. ValueTyped schema (kind_for o w) w) found types)
          (subst OrderedOption e (value_in_order n es sound.order))
          (inside_value alone_test (known schema T) es n w sound.members e)

-- ONE ENTRY MORE

-- the body of an entry that was read to its end
pub entry_records : (allow : AllowsInside) (inner : MeansInside) (levels : ℕ) (key value_type : ValueType) (k : Scalar) (v : Value) (bytes : List ℕ) → (done : EntryTo allow inner levels key value_type k v bytes []) → body (Flat (Len bytes)) ≡ Some done.records
entry_records allow inner levels key value_type k v bytes done =
    let front : RecordsFront (body_of done.records) bytes [] = done.front in
    ap (λ (o : Option Records). o >>= λ rs. Some (items rs)) (spelled_read (body_of done.records) bytes (subst (Spells (body_of done.records)) (sym (front.parts ∙ append-nil front.front)) front.spelled))
    ∙ ap Some (items_body done.records)

module _ (schema : Schema) (T : ℕ) (es : Entries) (sound : WellStored (ContentOf schema T es)) (differ : numbers_differ (known schema T) ≡ true) (f : Field) (found : field_of (known schema T) f.number ≡ Some f) (key : ValueType) (form : f.form ≡ MapFrom key) where
  old_map : StoredMap schema key f.value_type.kind (value_at f.number es)
  old_map = stored_map schema T es sound f.number f key found form

  -- an entry whose value is no undeclared number
  pub entry_holds : (k : ℕ) (x : Scalar) (v : Value) (inside_bytes bytes rest : List ℕ) → PairStored schema key f.value_type.kind x v → has_level k f.value_type.kind ≡ true →
      EntryTo (inside schema k) (below schema k) k key f.value_type x (kept_inside v) inside_bytes [] → is_stray_entry f.value_type (Flat (Len inside_bytes)) ≡ false → DelimitedFront inside_bytes bytes rest →
      Step k f.number wires.LengthDelimited (ContentOf schema T es) (ContentOf schema T (changed f.number (with_stored (known schema T) f (MapValue (put x v (pairs_in (value_at f.number es))))) es)) bytes rest
  entry_holds k x v inside_bytes bytes rest pair level done stays front =
      value_holds schema T es sound differ f found (MapValue (put x v (pairs_in (value_at f.number es))))
      (map_stored schema f key form (put x v (pairs_in (value_at f.number es))) (put_stored schema key f.value_type.kind x v (pairs_in (value_at f.number es)) pair old_map.pairs) (put_ordered x v (pairs_in (value_at f.number es)) pair.order old_map.order))
      k wires.LengthDelimited p bytes rest
      (record { wire = refl; front = record { front = front.front; spelled = front.spelled; parts = front.parts }; within = omega arith })
      (record {
        found = found;
        read = ap (λ form. value_payloads form f.value_type p) form ∙ ap (λ b. cond (not b) (p ∷ []) []) stays;
        stays = ap (λ form. stray_payloads form f.value_type p) form ∙ ap (λ b. cond b (p ∷ []) []) stays;
      })
      (ap (λ form. field_allowed k (inside schema k) form f.value_type p) form ∙ and_from _ _ level (ap (λ o. passes o (list_all (in_entry_allowed k (inside schema k) key f.value_type))) records ∙ done.allowed))
      (ap (λ form. value_joined (below schema k) (further k) form f.value_type (kept_old f (value_at f.number es)) p) form
      ∙ ap₂ (λ rs qs. present_map (put (entry_key key rs) (entry_value (below schema k) f.value_type f.value_type.kind rs) qs)) (ap or_none records) (kept_mapped f key (value_at f.number es) form old_map.mapped)
      ∙ ap₂ (λ x v. present_map (put x v (kept_pairs (pairs_in (value_at f.number es))))) done.key_is done.value_is
      ∙ ap present_map (sym (kept_put x v (pairs_in (value_at f.number es))))
      ∙ sym (kept_map f key (kept_pairs (put x v (pairs_in (value_at f.number es)))) form))
    where
      p : Payload
      p = Flat (Len inside_bytes)

      records : body (Flat (Len inside_bytes)) ≡ Some done.records
      records = entry_records (inside schema k) (below schema k) k key f.value_type x (kept_inside v) inside_bytes done

-- A FIELD

-- the field of a number is a map
pub record FoundMap (schema : Schema) (T n : ℕ) (key : ValueType) : Type 0 where
  pub field : Field
  pub found : field_of (known schema T) n ≡ Some field
  pub form : field.form ≡ MapFrom key

-- at the number of a map stands a map, or nothing yet
pub mapped_at : (c : Content) (n : ℕ) (key : ValueType) → FoundMap (schema_of c) (type_of c) n key → WellStored c → IsMapped (value_at n (entries_of c))
mapped_at (ContentOf schema T es) n key at sound = let s : StoredMap schema key at.field.value_type.kind (value_at n es) = stored_map schema T es sound n at.field key at.found at.form in s.mapped

-- REFUSALS

module _ (c : Content) (n : ℕ) (key : ValueType) (at : FoundMap (schema_of c) (type_of c) n key) where
  map_end : (levels : ℕ) (rest : List ℕ) → StandsBehindKey c levels n wires.EndGroup errors.EndGroup rest
  map_end levels rest = λ bytes opened front closes. Here (record { number = n; wire = wires.EndGroup; rest = rest; key = front; behind = (refl, closes refl) })

  -- another wire type
  map_wire : (levels : ℕ) (w : WireType) (rest : List ℕ) → w ≢ wires.EndGroup → same_wire w wires.LengthDelimited ≡ false → StandsBehindKey c levels n w errors.WireType rest
  map_wire levels w rest unended other = λ bytes opened front closes. Here (record {
    number = n;
    wire = w;
    field = at.field;
    rest = rest;
    key = front;
    found = at.found;
    behind = (unended, ap (λ form. takes form at.field.value_type.kind w) at.form ∙ other);
  })

  -- the entry is cut short
  map_plain : (levels : ℕ) (w : WireType) (e : DecodeError) (rest : List ℕ) → PlainFault e w rest → StandsBehindKey c levels n w e rest
  map_plain levels w e rest fault = λ bytes opened front closes. plain_stands (schema_of c) (record { bytes = bytes; inside = OfType (type_of c); levels = levels; open_group = opened }) e n w rest front fault

  -- no body stands there
  pub body_refused : (levels : ℕ) (w : WireType) (e : DecodeError) (rest : List ℕ) → BodyFault e w rest → StandsBehindKey c levels n w e rest
  body_refused levels w e rest (inl fault) = map_plain levels w e rest fault
  body_refused levels w e rest (inr (inl (name, end))) = subst (λ e. StandsBehindKey c levels n w e rest) (sym name) (subst (λ w. StandsBehindKey c levels n w errors.EndGroup rest) (sym end) (map_end levels rest))
  body_refused levels w e rest (inr (inr (name, unended, other))) = subst (λ e. StandsBehindKey c levels n w e rest) (sym name) (map_wire levels w rest unended other)

  -- a fault stands in the entry
  pub entry_stands : (levels : ℕ) (e : DecodeError) (inside_bytes rest after : List ℕ) → has_level levels at.field.value_type.kind ≡ true → DelimitedFront inside_bytes rest after →
      Stands (schema_of c) e (EntryPlace key at.field.value_type levels inside_bytes) → StandsBehindKey c levels n wires.LengthDelimited e rest
  entry_stands levels e inside_bytes rest after level front stands = λ bytes opened opens closes. InEntry n at.field key inside_bytes rest after at.found at.form level opens front stands
