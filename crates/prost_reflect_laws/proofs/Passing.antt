-- Passage through a reduction, at all levels.
use Rattle.std.specs.Prelude.{◌≡◌, ◌^◌, ◌<◌}
use Rattle.prost_reflect_laws.proofs.Common.{ℕ, zero, suc, true, List, length, Option, Some, refl, ap, sym, subst, ◌∙◌, true≢false, list_all, same_Some, AreBytes, guard, ◌>>=◌, Record, Records, Spells, items, read, body_of, valid, Schema, known, schema_valid, Content, AllowsInside, record_allowed, nothing_inside, allows, Accepts, MeansInside, record_numbers, meaning_at, meaning_by, empty_inside, meaning, decoded, records, encoded, TypePairs, holds, numbers_ascending, meaning_covers, all_append, spelled_read, short_spells, items_body}
use Rattle.prost_reflect_laws.proofs.SpelledValid.{spelled_valid}
use Rattle.prost_reflect_laws.proofs.Checked.{known_valid, known_differ}
use Rattle.prost_reflect_laws.proofs.Spelt.{Sound, valid_if}
use Rattle.prost_reflect_laws.proofs.Older.{allows_smaller}
use Rattle.prost_reflect_laws.proofs.Matches.{AllMatch, Relates}
use Rattle.prost_reflect_laws.proofs.Readable.{body_items}
use Rattle.prost_reflect_laws.proofs.Again.{Carries}
use Rattle.prost_reflect_laws.proofs.WrittenSlots.{BothSlots, Numbered, table_numbered, both_sound, both_allowed, both_read}
use Rattle.prost_reflect_laws.proofs.Relaying.{Step, meaning_slots}

step_of : (pairs : TypePairs) (k : ℕ) (i : MeansInside) (a : AllowsInside) (j : MeansInside) (older newer : Schema) (A B : ℕ) (rs : List Record) → schema_valid older ≡ true → AllMatch pairs older newer → Carries pairs k i a j → holds pairs A B ≡ true → valid (body_of rs) ≡ true →
    list_all (record_allowed k a (known newer B)) rs ≡ true → Step pairs k i a j older newer A B rs
step_of pairs k i a j older newer A B rs checked all c h ok e = record {
  carries = c;
  match = all A B h;
  checked = known_valid older A checked;
  differ = known_differ older A checked;
  spelt = ok;
  allowed = e;
}

next_level : (pairs : TypePairs) (k : ℕ) (i : MeansInside) (a : AllowsInside) (j : MeansInside) (older newer : Schema) → schema_valid older ≡ true → AllMatch pairs older newer → Carries pairs k i a j →
    Carries pairs (suc k) (meaning_by i older) (λ B rs. list_all (record_allowed k a (known newer B)) rs) (meaning_by j newer)
next_level pairs k i a j older newer checked all c = record {
  sound = λ A B rs h ok e. both_sound pairs k a j (known older A) (known newer B) (meaning_at i (known older A) rs) (meaning_at j (known newer B) rs) (record_numbers rs) (both A B rs h ok e);
  allowed = λ A B rs h ok e spelt. both_allowed pairs k a j (known older A) (known newer B) (meaning_at i (known older A) rs) (meaning_at j (known newer B) rs) (record_numbers rs) (both A B rs h ok e) (written A rs spelt);
  same = λ A B rs h ok e spelt. both_read pairs k a j (known older A) newer B (meaning_at i (known older A) rs) (meaning_at j (known newer B) rs) (records (meaning_by i older A rs)) (record_numbers rs) (both A B rs h ok e) (written A rs spelt)
      (numbers_ascending rs) (meaning_covers j (known newer B) rs);
  join = λ B xs ys h e. all_append (record_allowed k a (known newer B)) xs ys h e;
  nothing = λ B h. refl;
}
  where
    both : (A B : ℕ) (rs : List Record) → holds pairs A B ≡ true → valid (body_of rs) ≡ true → list_all (record_allowed k a (known newer B)) rs ≡ true → BothSlots pairs k a j (known older A) (known newer B) (meaning_at i (known older A) rs) (meaning_at j (known newer B) rs)
    both A B rs h ok e = meaning_slots pairs k i a j older newer A B rs (step_of pairs k i a j older newer A B rs checked all c h ok e)

    written : (A : ℕ) (rs : List Record) → valid (body_of (records (meaning_by i older A rs))) ≡ true → Numbered (known older A) (meaning_at i (known older A) rs) (records (meaning_by i older A rs))
    written A rs spelt = table_numbered (known older A) (meaning_at i (known older A) rs) (record_numbers rs) (numbers_ascending rs) (meaning_covers i (known older A) rs) spelt

-- below the last level nothing is allowed
no_level : (pairs : TypePairs) (i j : MeansInside) → Carries pairs 0 i nothing_inside j
no_level pairs i j = record {
  sound = λ A B rs h ok e. absurd (true≢false (sym e));
  allowed = λ A B rs h ok e spelt. absurd (true≢false (sym e));
  same = λ A B rs h ok e spelt. absurd (true≢false (sym e));
  join = λ B xs ys h e. absurd (true≢false (sym h));
  nothing = λ B h. absurd (true≢false (sym h));
}

module _ (pairs : TypePairs) (older newer : Schema) where
  pub carried : (k : ℕ) → schema_valid older ≡ true → AllMatch pairs older newer → Carries pairs (suc k) (meaning older k) (allows newer k) (meaning newer k)
  unfolding meaning allows
  carried zero checked all = next_level pairs 0 (empty_inside older) nothing_inside (empty_inside newer) older newer checked all (no_level pairs (empty_inside older) (empty_inside newer))
  carried (suc k) checked all = next_level pairs (suc k) (meaning older k) (allows newer k) (meaning newer k) older newer checked all (carried k checked all)

  -- records that are allowed at the last level, and above it
  pub step_zero : (A B : ℕ) (rs : List Record) → schema_valid older ≡ true → AllMatch pairs older newer → holds pairs A B ≡ true → valid (body_of rs) ≡ true → allows newer 0 B rs ≡ true →
      Step pairs 0 (empty_inside older) nothing_inside (empty_inside newer) older newer A B rs
  unfolding allows
  step_zero A B rs checked all h ok e = step_of pairs 0 (empty_inside older) nothing_inside (empty_inside newer) older newer A B rs checked all (no_level pairs (empty_inside older) (empty_inside newer)) h ok e

  pub step_next : (k A B : ℕ) (rs : List Record) → schema_valid older ≡ true → AllMatch pairs older newer → holds pairs A B ≡ true → valid (body_of rs) ≡ true → allows newer (suc k) B rs ≡ true →
      Step pairs (suc k) (meaning older k) (allows newer k) (meaning newer k) older newer A B rs
  unfolding allows
  step_next k A B rs checked all h ok e = step_of pairs (suc k) (meaning older k) (allows newer k) (meaning newer k) older newer A B rs checked all (carried k checked all) h ok e

-- BYTES

pub decoded_spelled : (schema : Schema) (k T : ℕ) (rs : Records) (bytes : List ℕ) → Spells rs bytes → decoded schema k T bytes ≡ guard (allows schema k T (items rs)) (meaning schema k T (items rs))
decoded_spelled schema k T rs bytes s = ap (λ (o : Option Records). o >>= λ rs. guard (allows schema k T (items rs)) (meaning schema k T (items rs))) (spelled_read rs bytes s)

pub accepted_decoded : (schema : Schema) (k T : ℕ) (bytes : List ℕ) (a : Accepts schema k T bytes) → decoded schema k T bytes ≡ Some (meaning schema k T (items a.records))
accepted_decoded schema k T bytes a = decoded_spelled schema k T a.records bytes a.spelled ∙ ap (λ b. guard b (meaning schema k T (items a.records))) a.allowed

-- what the older type decodes of them
pub older_decoded : (older newer : Schema) (k A B : ℕ) (bytes : List ℕ) (r : Relates older A newer B) (a : Accepts newer k B bytes) → decoded older k A bytes ≡ Some (meaning older k A (items a.records))
older_decoded older newer k A B bytes r a =
    decoded_spelled older k A a.records bytes a.spelled ∙ ap (λ b. guard b (meaning older k A (items a.records))) (allows_smaller r.pairs older newer k A B (items a.records) r.all r.first a.allowed)

pub accepted_valid : (schema : Schema) (k T : ℕ) (bytes : List ℕ) (a : Accepts schema k T bytes) → AreBytes bytes → valid (body_of (items a.records)) ≡ true
accepted_valid schema k T bytes a small = ap valid (body_items a.records) ∙ spelled_valid a.records bytes small a.spelled

-- what is written is read, if it is short
pub written_read : (schema : Schema) (k T : ℕ) (c d : Content) → Sound (records c) → (valid (body_of (records c)) ≡ true → allows schema k T (records c) ≡ true) → (valid (body_of (records c)) ≡ true → meaning schema k T (records c) ≡ d) → length (encoded c) < 2 ^ 64 →
    Accepts schema k T (encoded c) × (decoded schema k T (encoded c) ≡ Some d)
written_read schema k T c d sound allowed same short =
    let spelt : valid (body_of (records c)) ≡ true = valid_if (records c) sound short in
    let spells : Spells (body_of (records c)) (encoded c) = short_spells (body_of (records c)) spelt in
    let a : Accepts schema k T (encoded c) = record { records = body_of (records c); spelled = spells; allowed = ap (allows schema k T) (items_body (records c)) ∙ allowed spelt } in
    (a, accepted_decoded schema k T (encoded c) a ∙ ap (λ rs. Some (meaning schema k T rs)) (items_body (records c)) ∙ ap Some (same spelt))

pub passage_related : (older newer : Schema) (k A B : ℕ) (bytes : List ℕ) (c : Content) → schema_valid older ≡ true → AreBytes bytes → Relates older A newer B → Accepts newer k B bytes →
    decoded older k A bytes ≡ Some c → length (encoded c) < 2 ^ 64 → Accepts newer k B (encoded c) × (decoded newer k B (encoded c) ≡ decoded newer k B bytes)
passage_related older newer k A B bytes c checked small r a e short =
    let same : meaning older k A (items a.records) ≡ c = same_Some _ _ (sym (older_decoded older newer k A B bytes r a) ∙ e) in
    subst (λ (c : Content). Accepts newer k B (encoded c) × (decoded newer k B (encoded c) ≡ decoded newer k B bytes)) same (relayed (subst (λ (c : Content). length (encoded c) < 2 ^ 64) (sym same) short))
  where
    carries : Carries r.pairs (suc k) (meaning older k) (allows newer k) (meaning newer k)
    carries = carried r.pairs older newer k checked r.all

    ok : valid (body_of (items a.records)) ≡ true
    ok = accepted_valid newer k B bytes a small

    relayed : length (encoded (meaning older k A (items a.records))) < 2 ^ 64 → Accepts newer k B (encoded (meaning older k A (items a.records))) × (decoded newer k B (encoded (meaning older k A (items a.records))) ≡ decoded newer k B bytes)
    relayed short =
        let (again, read) = written_read newer k B (meaning older k A (items a.records)) (meaning newer k B (items a.records)) (carries.sound A B (items a.records) r.first ok a.allowed) (carries.allowed A B (items a.records) r.first ok a.allowed) (carries.same A B (items a.records) r.first ok a.allowed) short in
        (again, read ∙ sym (accepted_decoded newer k B bytes a))
