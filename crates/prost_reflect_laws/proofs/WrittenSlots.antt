-- What an older type of a reduction writes number by number, the newer one reads number by number.
use Rattle.std.specs.Prelude.{◌≡◌, ◌+◌, ◌||◌, ◌∷◌, ◌++◌}
use Rattle.prost_reflect_laws.proofs.Common.{ℕ, Bool, true, false, cond, List, [], map, filter, flat_map, length, Option, Some, None, refl, ap, ap₂, sym, subst, ◌∙◌, arith, true≢false, append-nil, list_any, list_all, list_all-append, and_parts, and_from, ◌>>=◌, Payload, Record, body_of, number_valid, payload_valid, valid, Field, Schema, known, field_of, is_sibling, ContentOf, Value, Slot, table, AllowsInside, has_number, payloads, value_records, value_payloads, stray_payloads, unknown_payloads, field_allowed, record_allowed, MeansInside, record_numbers, survive, field_value, value_meaning, unknowns_meaning, meaning_at, meaning_by, record_at, entries_records, TypePairs, Ascending, Covers, numbers_ascending, table_same, table_covers, slots_same, field_number, survive_none, flat_append, surviving_value, meaning_covers, block}
use Rattle.prost_reflect_laws.proofs.Spelt.{SoundPayloads, Sound}
use Rattle.prost_reflect_laws.proofs.Readable.{numbered_valid}
use Rattle.prost_reflect_laws.proofs.Matches.{TypesMatch, Like, like}
use Rattle.prost_reflect_laws.proofs.Fellows.{lone, fellows, unknown_no_sibling}
use Rattle.prost_reflect_laws.proofs.ByNumber.{block_payloads, values_of_block, strays_of_block, filter_values, none_by_number, after_none, stored_payloads, slot_payloads, table_records, table_all, table_sound}
use Rattle.prost_reflect_laws.proofs.Again.{FieldReads, FieldAgain}
use Rattle.prost_reflect_laws.proofs.FieldAgain.{strays_stay, Strays}
use Rattle.prost_reflect_laws.proofs.Valid.{block_sound}
use Rattle.prost_reflect_laws.proofs.Allowed.{block_allowed}

-- LISTS

payloads_append : (ps qs : List Payload) → SoundPayloads ps → SoundPayloads qs → SoundPayloads (ps ++ qs)
payloads_append [] qs h k = k
payloads_append (p ∷ ps) qs (one, more) k = (one, payloads_append ps qs more k)

valid_sound : (ps : List Payload) → list_all payload_valid ps ≡ true → SoundPayloads ps
valid_sound [] h = tt
valid_sound (p ∷ ps) h = let (one, more) = and_parts (payload_valid p) (list_all payload_valid ps) h in (record { sound = λ l. one }, valid_sound ps more)

none_filtered : {A : Type 0} (test : A → Bool) (xs : List A) → filter test xs ≡ [] → list_any test xs ≡ false
none_filtered test [] e = refl
none_filtered test (x ∷ xs) e = go (test x) e (none_filtered test xs)
  where
    go : (b : Bool) → cond b (x ∷ filter test xs) (filter test xs) ≡ [] → (filter test xs ≡ [] → list_any test xs ≡ false) → (b || list_any test xs) ≡ false
    go true e more = cc
    go false e more = more e

never_any : {A : Type 0} (test : A → Bool) (xs : List A) → ((x : A) → test x ≡ false) → list_any test xs ≡ false
never_any test [] h = refl
never_any test (x ∷ xs) h = ap (λ b. b || list_any test xs) (h x) ∙ never_any test xs h

-- SLOTS OF BOTH TYPES

-- what the older type has at a number that both know, and what the newer one is to have there
pub record KnownSlot (k : ℕ) (a : AllowsInside) (j : MeansInside) (newer : List Field) (n : ℕ) (f g : Field) (s t : Slot) : Type 0 where
  pub found : field_of newer n ≡ Some g
  pub stored : FieldAgain k a j g.form g.value_type (stored_payloads (Some f) s.value) t.value
  pub strays : Strays k a g.form g.value_type s.unknowns
  pub same_strays : s.unknowns ≡ t.unknowns

-- likewise at a number that the older one does not know
pub record LackingSlot (k : ℕ) (a : AllowsInside) (j : MeansInside) (newer : List Field) (n : ℕ) (s t : Slot) : Type 0 where
  pub none : s.value ≡ None
  pub sound : Sound (map (record_at n) s.unknowns)
  pub allowed : list_all (record_allowed k a newer) (map (record_at n) s.unknowns) ≡ true
  pub value : (g : Field) → field_of newer n ≡ Some g → field_value j g.form g.value_type (flat_map (value_payloads g.form g.value_type) s.unknowns) ≡ t.value
  pub no_value : field_of newer n ≡ None → t.value ≡ None
  pub unknowns : flat_map (unknown_payloads newer) (map (record_at n) s.unknowns) ≡ t.unknowns

-- at every number, and of a oneof one member alone has a value
pub record BothSlots (pairs : TypePairs) (k : ℕ) (a : AllowsInside) (j : MeansInside) (older newer : List Field) (at by : ℕ → Slot) : Type 0 where
  pub match : TypesMatch pairs older newer
  pub number : (n : ℕ) (f : Field) → field_of older n ≡ Some f → number_valid n ≡ true
  pub known : (n : ℕ) (f g : Field) → field_of older n ≡ Some f → Like pairs older newer f g → KnownSlot k a j newer n f g (at n) (by n)
  pub lacking : (n : ℕ) → field_of older n ≡ None → LackingSlot k a j newer n (at n) (by n)
  pub alone : (n m : ℕ) (f : Field) (v : Value) → field_of older n ≡ Some f → is_sibling older f m ≡ true → (at n).value ≡ Some v → (at m).value ≡ None

-- the payloads that the older type writes at a number
abbrev pub written_at : List Field → (ℕ → Slot) → ℕ → List Payload
written_at fields at n = slot_payloads (field_of fields n) (at n)

-- a number that is not known has its unknown records alone
lacking_payloads : (older : List Field) (at : ℕ → Slot) (n : ℕ) → field_of older n ≡ None → (at n).value ≡ None → written_at older at n ≡ (at n).unknowns
lacking_payloads older at n e none = ap₂ (λ (o : Option Field) (v : Option Value). stored_payloads o v ++ (at n).unknowns) e none

pub slot_sound : (pairs : TypePairs) (k : ℕ) (a : AllowsInside) (j : MeansInside) (older newer : List Field) (at by : ℕ → Slot) (n : ℕ) → BothSlots pairs k a j older newer at by → Sound (map (record_at n) (written_at older at n))
slot_sound pairs k a j older newer at by n b = go (field_of older n) refl
  where
    go : (o : Option Field) → field_of older n ≡ o → Sound (map (record_at n) (slot_payloads o (at n)))
    go None e = let l : LackingSlot k a j newer n (at n) (by n) = b.lacking n e in subst (λ (o : Option Value). Sound (map (record_at n) (stored_payloads None o ++ (at n).unknowns))) (sym l.none) l.sound
    go (Some f) e =
        let (g, l) = like pairs older newer n f b.match e in
        let s : KnownSlot k a j newer n f g (at n) (by n) = b.known n f g e l in
        block_sound n (slot_payloads (Some f) (at n)) (b.number n f e) (payloads_append (stored_payloads (Some f) (at n).value) (at n).unknowns s.stored.sound (valid_sound (at n).unknowns s.strays.valid))

pub slot_allowed : (pairs : TypePairs) (k : ℕ) (a : AllowsInside) (j : MeansInside) (older newer : List Field) (at by : ℕ → Slot) (n : ℕ) → BothSlots pairs k a j older newer at by → list_all payload_valid (written_at older at n) ≡ true →
    list_all (record_allowed k a newer) (map (record_at n) (written_at older at n)) ≡ true
slot_allowed pairs k a j older newer at by n b = go (field_of older n) refl
  where
    go : (o : Option Field) → field_of older n ≡ o → list_all payload_valid (slot_payloads o (at n)) ≡ true → list_all (record_allowed k a newer) (map (record_at n) (slot_payloads o (at n))) ≡ true
    go None e ok = let l : LackingSlot k a j newer n (at n) (by n) = b.lacking n e in ap (λ (o : Option Value). list_all (record_allowed k a newer) (map (record_at n) (stored_payloads None o ++ (at n).unknowns))) l.none ∙ l.allowed
    go (Some f) e ok =
        let (g, l) = like pairs older newer n f b.match e in
        let s : KnownSlot k a j newer n f g (at n) (by n) = b.known n f g e l in
        let stored : List Payload = stored_payloads (Some f) (at n).value in
        let (ok', ok'') = and_parts (list_all payload_valid stored) (list_all payload_valid (at n).unknowns) (sym (list_all-append payload_valid stored (at n).unknowns) ∙ ok) in
        block_allowed k a newer n g (slot_payloads (Some f) (at n)) s.found
        ∙ list_all-append (field_allowed k a g.form g.value_type) stored (at n).unknowns ∙ and_from _ _ (s.stored.read ok').allowed s.strays.allowed

-- what the newer type takes of what is written at a known number
record Taken (j : MeansInside) (f g : Field) (s t : Slot) : Type 0 where
  values : flat_map (value_payloads g.form g.value_type) (slot_payloads (Some f) s) ≡ flat_map (value_payloads g.form g.value_type) (stored_payloads (Some f) s.value)
  strays : flat_map (stray_payloads g.form g.value_type) (slot_payloads (Some f) s) ≡ t.unknowns
  means : field_value j g.form g.value_type (flat_map (value_payloads g.form g.value_type) (stored_payloads (Some f) s.value)) ≡ t.value

taken : (k : ℕ) (a : AllowsInside) (j : MeansInside) (newer : List Field) (n : ℕ) (f g : Field) (s t : Slot) → KnownSlot k a j newer n f g s t → list_all payload_valid (slot_payloads (Some f) s) ≡ true → Taken j f g s t
taken k a j newer n f g s t b ok =
    let stored : List Payload = stored_payloads (Some f) s.value in
    let (ok', ok'') = and_parts (list_all payload_valid stored) (list_all payload_valid s.unknowns) (sym (list_all-append payload_valid stored s.unknowns) ∙ ok) in
    let r : FieldReads k a j g.form g.value_type (stored_payloads (Some f) s.value) t.value = b.stored.read ok' in
    let (stay, gone) = strays_stay g.form g.value_type s.unknowns b.strays.are in
    record {
      values = flat_append (value_payloads g.form g.value_type) stored s.unknowns ∙ ap (λ l. flat_map (value_payloads g.form g.value_type) stored ++ l) gone ∙ append-nil (flat_map (value_payloads g.form g.value_type) stored);
      strays = flat_append (stray_payloads g.form g.value_type) stored s.unknowns ∙ ap₂ ◌++◌ r.strays stay ∙ b.same_strays;
      means = r.value;
    }

-- READING

-- records with these payloads at each number
pub record Numbered (older : List Field) (at : ℕ → Slot) (ws : List Record) : Type 0 where
  pub each : (n : ℕ) → filter (has_number n) ws ≡ map (record_at n) (written_at older at n)
  pub spelt : (n : ℕ) → list_all payload_valid (written_at older at n) ≡ true

pub table_numbered : (older : List Field) (at : ℕ → Slot) (ns : List ℕ) → Ascending 0 ns → Covers at 0 ns → valid (body_of (entries_records older (table at ns))) ≡ true → Numbered older at (entries_records older (table at ns))
table_numbered older at ns a covers ok = record {
  each = λ n. table_records older at ns n a covers;
  spelt = λ n. ap (list_all payload_valid) (sym (ap payloads (table_records older at ns n a covers) ∙ block_payloads n (written_at older at n))) ∙ numbered_valid n (entries_records older (table at ns)) ok;
}

known_taken : (k : ℕ) (a : AllowsInside) (j : MeansInside) (older newer : List Field) (at : ℕ → Slot) (ws : List Record) (n : ℕ) (f g : Field) (t : Slot) → Numbered older at ws → field_of older n ≡ Some f → KnownSlot k a j newer n f g (at n) t →
    (filter (has_number n) (flat_map (value_records newer) ws) ≡ block n (flat_map (value_payloads g.form g.value_type) (stored_payloads (Some f) (at n).value))) × Taken j f g (at n) t
known_taken k a j older newer at ws n f g t w found s =
    let t : Taken j f g (at n) t = taken k a j newer n f g (at n) t s (ap (λ o. list_all payload_valid (slot_payloads o (at n))) (sym found) ∙ w.spelt n) in (
      filter_values newer n ws ∙ ap (flat_map (value_records newer)) (w.each n) ∙ ap (λ o. flat_map (value_records newer) (map (record_at n) (slot_payloads o (at n)))) found
          ∙ values_of_block newer n g (slot_payloads (Some f) (at n)) s.found ∙ ap (block n) t.values,
      t,
    )

-- where a member has a value, nothing is taken of what is written of a sibling
no_sibling : (pairs : TypePairs) (k : ℕ) (a : AllowsInside) (j : MeansInside) (older newer : List Field) (at by : ℕ → Slot) (ws : List Record) (n m : ℕ) (f g : Field) (v : Value) → BothSlots pairs k a j older newer at by → Numbered older at ws →
    field_of older n ≡ Some f → Like pairs older newer f g → (at n).value ≡ Some v → is_sibling newer g m ≡ true → filter (has_number m) (flat_map (value_records newer) ws) ≡ []
no_sibling pairs k a j older newer at by ws n m f g v b w found l some h = go (field_of older m) refl
  where
    sibling : is_sibling older f m ≡ true
    sibling = sym (fellows pairs older newer f g m b.match l) ∙ h

    go : (o : Option Field) → field_of older m ≡ o → filter (has_number m) (flat_map (value_records newer) ws) ≡ []
    go None e = absurd (true≢false (sym sibling ∙ unknown_no_sibling older f m e))
    go (Some x) e =
        let (y, l') = like pairs older newer m x b.match e in
        let (mine, t) = known_taken k a j older newer at ws m x y (by m) w e (b.known m x y e l') in
        mine ∙ ap (λ o. block m (flat_map (value_payloads y.form y.value_type) (stored_payloads (Some x) o))) (b.alone n m f v found sibling some)

known_value : (pairs : TypePairs) (k : ℕ) (a : AllowsInside) (j : MeansInside) (older newer : List Field) (at by : ℕ → Slot) (ws : List Record) (n : ℕ) (f g : Field) → BothSlots pairs k a j older newer at by → Numbered older at ws →
    field_of older n ≡ Some f → Like pairs older newer f g → surviving_value j newer g (flat_map (value_records newer) ws) ≡ (by n).value
known_value pairs k a j older newer at by ws n f g b w found l =
    let s : KnownSlot k a j newer n f g (at n) (by n) = b.known n f g found l in
    let (mine, t) = known_taken k a j older newer at ws n f g (by n) w found s in
    ap (λ l. field_value j g.form g.value_type (payloads l)) (go (field_number newer n g s.found) (at n).value refl mine)
    ∙ ap (field_value j g.form g.value_type) (block_payloads n (flat_map (value_payloads g.form g.value_type) (stored_payloads (Some f) (at n).value))) ∙ t.means
  where
    taken_of : List Record
    taken_of = flat_map (value_records newer) ws

    sibling : Record → Bool
    sibling r = is_sibling newer g r.number

    go : g.number ≡ n → (o : Option Value) → (at n).value ≡ o → filter (has_number n) (flat_map (value_records newer) ws) ≡ block n (flat_map (value_payloads g.form g.value_type) (stored_payloads (Some f) o)) →
        survive newer g (flat_map (value_records newer) ws) ≡ block n (flat_map (value_payloads g.form g.value_type) (stored_payloads (Some f) o))
    go number None e mine = survive_none sibling (has_number g.number) taken_of (ap (λ (k : ℕ). list_any (has_number k) taken_of) number ∙ none_filtered (has_number n) taken_of mine)
    go number (Some v) e mine =
        ap (filter (has_number g.number)) (after_none sibling taken_of (none_by_number (is_sibling newer g) taken_of (λ m. no_sibling pairs k a j older newer at by ws n m f g v b w found l e)))
        ∙ ap (λ (k : ℕ). filter (has_number k) taken_of) number ∙ mine

-- the records of a lone field all survive
pub lone_survivors : (pairs : TypePairs) (older newer : List Field) (n : ℕ) (g : Field) (xs : List Record) → TypesMatch pairs older newer → field_of older n ≡ None → field_of newer n ≡ Some g →
    survive newer g (flat_map (value_records newer) xs) ≡ flat_map (value_records newer) (filter (has_number n) xs)
lone_survivors pairs older newer n g xs m e found =
    ap (filter (has_number g.number)) (after_none (λ r. is_sibling newer g r.number) (flat_map (value_records newer) xs) (never_any (λ (r : Record). is_sibling newer g r.number) (flat_map (value_records newer) xs) (λ r. lone pairs older newer n r.number g m e found)))
    ∙ ap (λ (k : ℕ). filter (has_number k) (flat_map (value_records newer) xs)) (field_number newer n g found) ∙ filter_values newer n xs

module _ (pairs : TypePairs) (k : ℕ) (a : AllowsInside) (j : MeansInside) (older newer : List Field) (at by : ℕ → Slot) where
  slot_value : (ws : List Record) (n : ℕ) → BothSlots pairs k a j older newer at by → Numbered older at ws → value_meaning j newer ws n ≡ (by n).value
  slot_value ws n b w = go (field_of older n) refl
    where
      value : Option Field → Option Value
      value o = o >>= λ g. surviving_value j newer g (flat_map (value_records newer) ws)

      lacking : field_of older n ≡ None → (o : Option Field) → field_of newer n ≡ o → value o ≡ (by n).value
      lacking e None d = sym ((b.lacking n e).no_value d)
      lacking e (Some g) d =
          let l : LackingSlot k a j newer n (at n) (by n) = b.lacking n e in
          ap (λ l. field_value j g.form g.value_type (payloads l)) (lone_survivors pairs older newer n g ws b.match e d ∙ ap (flat_map (value_records newer)) (w.each n ∙ ap (map (record_at n)) (lacking_payloads older at n e l.none)) ∙ values_of_block newer n g (at n).unknowns d)
          ∙ ap (field_value j g.form g.value_type) (block_payloads n (flat_map (value_payloads g.form g.value_type) (at n).unknowns)) ∙ l.value g d

      go : (o : Option Field) → field_of older n ≡ o → value (field_of newer n) ≡ (by n).value
      go None e = lacking e (field_of newer n) refl
      go (Some f) e =
          let (g, l) = like pairs older newer n f b.match e in
          let s : KnownSlot k a j newer n f g (at n) (by n) = b.known n f g e l in
          ap value s.found ∙ known_value pairs k a j older newer at by ws n f g b w e l

  slot_unknowns : (ws : List Record) (n : ℕ) → BothSlots pairs k a j older newer at by → Numbered older at ws → unknowns_meaning newer ws n ≡ (by n).unknowns
  slot_unknowns ws n b w = ap (flat_map (unknown_payloads newer)) (w.each n) ∙ go (field_of older n) refl
    where
      go : (o : Option Field) → field_of older n ≡ o → flat_map (unknown_payloads newer) (map (record_at n) (written_at older at n)) ≡ (by n).unknowns
      go None e = let l : LackingSlot k a j newer n (at n) (by n) = b.lacking n e in ap (λ ps. flat_map (unknown_payloads newer) (map (record_at n) ps)) (lacking_payloads older at n e l.none) ∙ l.unknowns
      go (Some f) e =
          let (g, l) = like pairs older newer n f b.match e in
          let s : KnownSlot k a j newer n f g (at n) (by n) = b.known n f g e l in
          let t : Taken j f g (at n) (by n) = taken k a j newer n f g (at n) (by n) s (ap (λ o. list_all payload_valid (slot_payloads o (at n))) (sym e) ∙ w.spelt n) in
          ap (λ o. flat_map (unknown_payloads newer) (map (record_at n) (slot_payloads o (at n)))) e ∙ strays_of_block newer n g (slot_payloads (Some f) (at n)) s.found ∙ t.strays

  -- ALL NUMBERS

  -- entries that the older type writes
  pub both_sound : (ns : List ℕ) → BothSlots pairs k a j older newer at by → Sound (entries_records older (table at ns))
  both_sound ns b = table_sound older at ns (λ n. slot_sound pairs k a j older newer at by n b)

  pub both_allowed : (ns : List ℕ) → BothSlots pairs k a j older newer at by → Numbered older at (entries_records older (table at ns)) →
      list_all (record_allowed k a newer) (entries_records older (table at ns)) ≡ true
  both_allowed ns b w = table_all (record_allowed k a newer) older at ns (λ n. slot_allowed pairs k a j older newer at by n b (w.spelt n))

-- are read by the newer type as what it is to have
pub both_read : (pairs : TypePairs) (k : ℕ) (a : AllowsInside) (j : MeansInside) (older : List Field) (schema : Schema) (B : ℕ) (at by : ℕ → Slot) (ws : List Record) (ms : List ℕ) → BothSlots pairs k a j older (known schema B) at by → Numbered older at ws → Ascending 0 ms → Covers by 0 ms →
    meaning_by j schema B ws ≡ ContentOf schema B (table by ms)
both_read pairs k a j older schema B at by ws ms b w asc covers = ap (ContentOf schema B)
    (table_same (meaning_at j (known schema B) ws) by (record_numbers ws) same
    ∙ table_covers by (length (record_numbers ws) + length ms) 0 (record_numbers ws) ms (omega arith) (numbers_ascending ws) asc (λ n l out. sym (same n) ∙ meaning_covers j (known schema B) ws n l out) covers)
  where
    same : (n : ℕ) → meaning_at j (known schema B) ws n ≡ by n
    same n = slots_same (meaning_at j (known schema B) ws n) (by n) (slot_value pairs k a j older (known schema B) at by ws n b w) (slot_unknowns pairs k a j older (known schema B) at by ws n b w)
