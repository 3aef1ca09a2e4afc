-- An entry of a map whose value is a message: the records of number 2 are read into one message, one behind another and one level down, and what comes of it is put among the pairs that are there.
use Rattle.std.specs.Prelude.{◌≡◌, ◌≢◌, ◌∷◌, ◌++◌}
use Rattle.prost_reflect_laws.proofs.Common.{ℕ, suc, Bool, true, false, cond, List, [], nat_eq, nat_le, Option, Some, None, refl, ap, ap₂, sym, subst, ◌∙◌, append-nil, arith, list_all, is_some, le-leb, lt-ltb, none-some, DecodeError, WireType, AreBytes, ◌>>=◌, Len, Record, Records, Payload, Flat, record_at, body_of, items, payload_levels, KeyFront, DelimitedFront, KeyFault, Scalar, ScalarKind, kind_default, scalar_valid, Kind, ScalarOf, MessageOf, ValueType, MapFrom, Field, Schema, known, field_of, is_message, is_key_kind, field_valid, numbers_differ, passes, Content, ContentOf, Entries, MessageValue, MapValue, empty, value_at, changed, schema_of, type_of, payloads, numbered, last, fits, body, or_none, records_in, is_stray, is_stray_entry, one_allowed, has_level, allows, last_or, joined, entry_value, put, pairs_in, meaning, steps, kept, kind_takes, WellStored, message_of_kind, with_stored, Stands, Here, entry_field, opens_level, needs_level, ValueFault, Holds, Step, ScalarRead, ScalarFault, StandsBehindKey, EntryTo, EntryPlace, plain_type, flat_append, meaning_empty, meaning_steps, spelled_read, items_body, record_front, none_front, key_stands, value_stands, field_number}
use Rattle.prost_reflect_wire.specs.declared.error.DecodeError.TheVariants as errors
use Rattle.prost_reflect_wire.specs.declared.key.WireType.TheVariants as wires
use Rattle.prost_reflect_wire.specs.Unknown.{SkipsValue}
use Rattle.prost_reflect_wire.specs.MessageEntries.{nested_type, NestedEntryTo, NestedValueRead, NestedValueFault, StandsInNestedEntry}
use Rattle.prost_reflect_laws.proofs.Readings.{whole_spelled}
use Rattle.prost_reflect_laws.proofs.ScalarFaults.{scalar_stands}
use Rattle.prost_reflect_laws.proofs.Allowed.{inside}
use Rattle.prost_reflect_laws.proofs.Means.{below}
use Rattle.prost_reflect_laws.proofs.MessageSteps.{is_its_type}
use Rattle.prost_reflect_laws.proofs.EntryReads.{numbered_last, numbered_other, last_read, one_two, two_one, entry_more, entry_behind}
use Rattle.prost_reflect_laws.proofs.MapSteps.{PairStored, FoundMap, entry_holds}
use Rattle.prost_reflect_laws.proofs.ScalarEntries.{map_keyed, entry_key_valid}
use Rattle.prost_reflect_laws.proofs.BodyFronts.{delimited_bytes}

-- the records of one value more are read behind those of the others
joined_last : (n : ℕ) (rs : List Record) (r : Record) → nat_eq r.number n ≡ true → joined (numbered n (rs ++ r ∷ [])) ≡ joined (numbered n rs) ++ records_in r.payload
joined_last n rs r own =
    ap joined (numbered_last n rs r ∙ ap (λ b. numbered n rs ++ payloads (cond b (r ∷ []) [])) own) ∙ flat_append records_in (numbered n rs) (r.payload ∷ []) ∙ ap (λ qs. joined (numbered n rs) ++ qs) (append-nil (records_in r.payload))

one_content : {c d : Content} → MessageValue c ≡ MessageValue d → c ≡ d
one_content e = cc

-- ONE RECORD MORE

module _ (schema : Schema) (k U : ℕ) (key : ScalarKind) where
  pub nested_entry_nothing : (bytes : List ℕ) → NestedEntryTo schema k U key (kind_default key) (empty schema U) bytes bytes
  nested_entry_nothing bytes = record {
    read = record { records = []; front = none_front bytes; allowed = refl; key_is = refl; value_is = ap MessageValue (meaning_empty schema k U) };
    holds = record { schema = refl; type = refl; sound = record { fits = refl; types = tt; order = refl; members = refl } };
  }

  abbrev takes_in_entry : Bool → Bool → Payload → Bool
  takes_in_entry a b p = cond a (fits key p) (cond b (one_allowed (allows schema k) (MessageOf U) p) (nat_le (payload_levels p) (suc k)))

  module _ (x : Scalar) (c : Content) (bytes mid : List ℕ) (done : NestedEntryTo schema k U key x c bytes mid) where
    -- another record leaves the value as it is
    value_stays : (r : Record) → nat_eq r.number 2 ≡ false → entry_value (meaning schema k) (nested_type U) (MessageOf U) (done.read.records ++ r ∷ []) ≡ MessageValue (kept c)
    value_stays r other = ap (λ ps. MessageValue (meaning schema k U (joined ps))) (numbered_other 2 done.read.records r other) ∙ done.read.value_is

    -- what stands behind what was read stands in the entry
    behind_read : (e : DecodeError) (one two : ValueType) → Stands schema e (EntryPlace one two (suc k) mid) → Stands schema e (EntryPlace one two (suc k) bytes)
    behind_read e one two s = entry_behind (allows schema k) (meaning schema k) (suc k) (plain_type key) (nested_type U) schema e x (MessageValue (kept c)) bytes mid done.read one two s

    -- no key is there
    pub nested_no_key : (e : DecodeError) → mid ≢ [] → KeyFault e mid → StandsInNestedEntry schema (suc k) U key e bytes
    nested_no_key e some fault = λ one two a b. behind_read e one two (key_stands schema (EntryPlace one two (suc k) mid) e fault (λ none. absurd (some none)))

    module _ (n : ℕ) (w : WireType) (after : List ℕ) (front : KeyFront n w mid after) where
      -- a key
      pub nested_key_read : (y : Scalar) (rest : List ℕ) → nat_eq n 1 ≡ true → ScalarRead key w y after rest → NestedEntryTo schema k U key y c bytes rest
      nested_key_read y rest is read =
          let p : Payload = Flat read.plain in
          record {
            read = entry_more (allows schema k) (meaning schema k) (suc k) (plain_type key) (nested_type U) x y (MessageValue (kept c)) (MessageValue (kept c)) bytes mid rest done.read (record_at n p)
                (record_front n p mid after rest (subst (λ w. KeyFront n w mid after) (sym read.wire) front) read.front)
                (ap (λ b. takes_in_entry b (nat_eq n 2) p) is ∙ ap is_some read.value)
                (last_read key (kind_default key) 1 done.read.records (record_at n p) y is read.value)
                (value_stays (record_at n p) (one_two n is));
            holds = done.holds;
          }

      -- a value
      pub nested_value_read : (d : Content) (rest : List ℕ) → nat_eq n 2 ≡ true → NestedValueRead k w c d after rest → NestedEntryTo schema k U key x d bytes rest
      nested_value_read d rest is value =
          let p : Payload = Flat (Len value.body) in
          let old : Holds (empty schema U) c = done.holds in
          let new : Holds c d = value.progress.holds in
          let spelt : DelimitedFront value.body after rest = value.front in
          let records : body (Flat (Len value.body)) ≡ Some value.progress.read.records =
          ap (λ (o : Option Records). o >>= λ rs. Some (items rs)) (spelled_read (body_of value.progress.read.records) value.body (whole_spelled k c d value.body value.progress.read)) ∙ ap Some (items_body value.progress.read.records) in
          record {
            read = entry_more (allows schema k) (meaning schema k) (suc k) (plain_type key) (nested_type U) x x (MessageValue (kept c)) (MessageValue (kept d)) bytes mid rest done.read (record_at n p)
                (record_front n p mid after rest (subst (λ w. KeyFront n w mid after) value.wire front) (record { front = spelt.front; spelled = spelt.spelled; parts = spelt.parts }))
                (ap₂ (λ a b. takes_in_entry a b p) (two_one n is) is ∙ ap (λ o. passes o (allows schema k U)) records ∙ ap₂ (λ s T. allows s k T value.progress.read.records) (sym old.schema) (sym old.type) ∙ value.progress.read.allowed)
                (ap (last_or key (kind_default key)) (numbered_other 1 done.read.records (record_at n p) (two_one n is)) ∙ done.read.key_is)
                (ap (λ qs. MessageValue (meaning schema k U qs)) (joined_last 2 done.read.records (record_at n p) is ∙ ap (λ o. joined (numbered 2 done.read.records) ++ or_none o) records)
                ∙ ap MessageValue (meaning_steps schema k U (joined (numbered 2 done.read.records)) value.progress.read.records ∙ ap (λ b. steps k b value.progress.read.records) (one_content done.read.value_is) ∙ sym value.progress.read.means));
            holds = record { schema = new.schema ∙ old.schema; type = new.type ∙ old.type; sound = new.sound };
          }

      -- a record of another number
      pub nested_other_read : (rest : List ℕ) → nat_eq n 1 ≡ false → nat_eq n 2 ≡ false → SkipsValue n w (suc k) after rest → NestedEntryTo schema k U key x c bytes rest
      nested_other_read rest first second (p, f) = record {
        read = entry_more (allows schema k) (meaning schema k) (suc k) (plain_type key) (nested_type U) x x (MessageValue (kept c)) (MessageValue (kept c)) bytes mid rest done.read (record_at n p)
            (record_front n p mid after rest (subst (λ w. KeyFront n w mid after) (sym f.wire) front) f.front)
            (ap₂ (λ a b. takes_in_entry a b p) first second ∙ le-leb (payload_levels p) (suc k) f.within)
            (ap (last_or key (kind_default key)) (numbered_other 1 done.read.records (record_at n p) first) ∙ done.read.key_is)
            (value_stays (record_at n p) second);
        holds = done.holds;
      }

      -- what is refused of them
      pub nested_key_refused : (e : DecodeError) → nat_eq n 1 ≡ true → ScalarFault key w e after → StandsInNestedEntry schema (suc k) U key e bytes
      nested_key_refused e is fault = λ one two a b. behind_read e one two
          (scalar_stands schema e (EntryPlace one two (suc k) mid) n w after (entry_field 1 one) key front (ap (λ b. cond b (Some (entry_field 1 one)) (cond (nat_eq n 2) (Some (entry_field 2 two)) None)) is) refl a (λ _. none-some _) fault)

      pub nested_value_refused : (e : DecodeError) → nat_eq n 2 ≡ true → NestedValueFault schema (suc k) n U w e after → StandsInNestedEntry schema (suc k) U key e bytes
      nested_value_refused e is fault = λ one two a b. behind_read e one two
          (fault (EntryPlace one two (suc k) mid) (entry_field 2 two) refl (ap₂ (λ a b. cond a (Some (entry_field 1 one)) (cond b (Some (entry_field 2 two)) None)) (two_one n is) is) refl b front (λ _. none-some _))

      pub nested_other_refused : (e : DecodeError) → nat_eq n 1 ≡ false → nat_eq n 2 ≡ false → ValueFault e n w (suc k) after → StandsInNestedEntry schema (suc k) U key e bytes
      nested_other_refused e first second fault = λ one two a b. behind_read e one two
          (value_stands schema (EntryPlace one two (suc k) mid) e n w after (ap₂ (λ a b. cond a (Some (entry_field 1 one)) (cond b (Some (entry_field 2 two)) None)) first second) front (λ _. none-some _) fault)

-- ONE ENTRY MORE

-- its value has a level
pub nested_level : (kind : Kind) (U k : ℕ) → kind ≡ MessageOf U → has_level (suc k) kind ≡ true
nested_level kind U k is = ap (has_level (suc k)) is ∙ lt-ltb 0 (suc k) (omega arith)

module _ (schema : Schema) (key : ScalarKind) (U : ℕ) (key_type value_type : ValueType) (key_is : key_type.kind ≡ ScalarOf key) (value_is : value_type.kind ≡ MessageOf U) where
  -- as the field's types say it
  nested_typed : (k : ℕ) (x : Scalar) (c : Content) (bytes rest : List ℕ) → NestedEntryTo schema k U key x c bytes rest → EntryTo (inside schema (suc k)) (below schema (suc k)) (suc k) key_type value_type x (MessageValue (kept c)) bytes rest
  unfolding inside below
  nested_typed k x c bytes rest done = record {
    records = done.read.records;
    front = done.read.front;
    allowed = ap₂ (λ a b. list_all (λ (r : Record). cond (nat_eq r.number 1) (one_allowed (allows schema k) a r.payload) (cond (nat_eq r.number 2) (one_allowed (allows schema k) b r.payload) (nat_le (payload_levels r.payload) (suc k)))) done.read.records) key_is value_is ∙ done.read.allowed;
    key_is = ap (λ kind. elim kind [ ScalarOf kind ↦ last_or kind (kind_default kind) (numbered 1 done.read.records) | _ ↦ key_type.default ]) key_is ∙ done.read.key_is;
    value_is = ap (λ kind. entry_value (meaning schema k) value_type kind done.read.records) value_is ∙ done.read.value_is;
  }

  message_stays : (p : Payload) → is_stray_entry value_type p ≡ false
  message_stays p = go (last (numbered 2 (records_in p)))
    where
      go : (o : Option Payload) → (elim o [ None ↦ false | Some q ↦ is_stray value_type.kind q ]) ≡ false
      go None = refl
      go (Some q) = ap (λ kind. is_stray kind q) value_is

  nested_pair : (x : Scalar) (c : Content) → kind_takes key_type.kind x ≡ true → Holds (empty schema U) c → PairStored schema key_type value_type.kind x (MessageValue c)
  nested_pair x c taken holds = let w : WellStored c = holds.sound in record {
    key_taken = taken;
    valid = ap is_message value_is;
    fits = w.fits;
    types = ((holds.schema, is_its_type value_type.kind U (type_of c) (ap message_of_kind value_is) holds.type), w.types);
    order = w.order;
    members = w.members;
  }

module _ (schema : Schema) (T : ℕ) (es : Entries) (sound : WellStored (ContentOf schema T es)) (differ : numbers_differ (known schema T) ≡ true) (f : Field) (checked : field_valid schema f ≡ true) (key_type : ValueType) (form : f.form ≡ MapFrom key_type)
    (key : ScalarKind) (U : ℕ) (key_is : key_type.kind ≡ ScalarOf key) (value_is : f.value_type.kind ≡ MessageOf U) where
  nested_at_number : (k : ℕ) (x : Scalar) (c : Content) (inside_bytes bytes rest : List ℕ) → field_of (known schema T) f.number ≡ Some f → AreBytes bytes → NestedEntryTo schema k U key x c inside_bytes [] → DelimitedFront inside_bytes bytes rest →
      Step (suc k) f.number wires.LengthDelimited (ContentOf schema T es) (ContentOf schema T (changed f.number (with_stored (known schema T) f (MapValue (put x (MessageValue c) (pairs_in (value_at f.number es))))) es)) bytes rest
  nested_at_number k x c inside_bytes bytes rest found small done front =
      let keyed : is_key_kind (ScalarOf key) ≡ true = ap is_key_kind (sym key_is) ∙ map_keyed schema f key_type checked form in
      let taken : scalar_valid key x ≡ true = entry_key_valid (allows schema k) (meaning schema k) (suc k) key (nested_type U) x (MessageValue (kept c)) inside_bytes done.read (delimited_bytes inside_bytes bytes rest small front) keyed in
      entry_holds schema T es sound differ f found key_type form (suc k) x (MessageValue c) inside_bytes bytes rest
      (nested_pair schema key U key_type f.value_type key_is value_is x c (ap (λ kind. kind_takes kind x) key_is ∙ taken) done.holds)
      (nested_level f.value_type.kind U k value_is)
      (nested_typed schema key U key_type f.value_type key_is value_is k x c inside_bytes [] done)
      (message_stays schema key U key_type f.value_type key_is value_is (Flat (Len inside_bytes))) front

  -- an entry behind the key of a map of messages
  pub nested_entry_holds : (k n : ℕ) (x : Scalar) (c : Content) (inside_bytes bytes rest : List ℕ) → field_of (known schema T) n ≡ Some f → AreBytes bytes → NestedEntryTo schema k U key x c inside_bytes [] → DelimitedFront inside_bytes bytes rest →
      Step (suc k) n wires.LengthDelimited (ContentOf schema T es) (ContentOf schema T (changed f.number (with_stored (known schema T) f (MapValue (put x (MessageValue c) (pairs_in (value_at n es))))) es)) bytes rest
  nested_entry_holds k n x c inside_bytes bytes rest found small done front =
      let number : f.number ≡ n = field_number (known schema T) n f found in
      subst (λ m. Step (suc k) m wires.LengthDelimited (ContentOf schema T es) (ContentOf schema T (changed f.number (with_stored (known schema T) f (MapValue (put x (MessageValue c) (pairs_in (value_at m es))))) es)) bytes rest) number
      (nested_at_number k x c inside_bytes bytes rest (ap (field_of (known schema T)) number ∙ found) small done front)

-- REFUSALS

-- no level is left for the value
pub entry_depth : (c : Content) (n U : ℕ) (key : ValueType) (at : FoundMap (schema_of c) (type_of c) n key) → at.field.value_type.kind ≡ MessageOf U → (rest : List ℕ) → StandsBehindKey c 0 n wires.LengthDelimited errors.Depth rest
entry_depth c n U key at is rest = λ bytes opened front closes. Here (refl, record { number = n; wire = wires.LengthDelimited; rest = rest; key = front; behind = opens })
  where
    opens : opens_level (field_of (known (schema_of c) (type_of c)) n) wires.LengthDelimited ≡ true
    opens = ap (λ o. opens_level o wires.LengthDelimited) at.found ∙ ap₂ (λ form kind. needs_level form kind wires.LengthDelimited) at.form is
