-- What was read and is written is read as the same; what is merged stays well-typed.
use Rattle.std.specs.Prelude.{◌≡◌, ◌≤◌, ◌<◌, ◌^◌}
use Rattle.prost_reflect_laws.proofs.Common.{ℕ, zero, suc, true, List, length, Some, refl, ap, ap₂, sym, ◌∙◌, subst, arith, max, AreBytes, guard, Records, Record, items, body_of, read, valid, Schema, schema_valid, Content, schema_of, type_of, LEVEL_LIMIT, allows, meaning, decoded, steps, encoded, levels, WellTyped, merged, bind_ok, guard_ok, read_spells, StaysWell}
use Rattle.prost_reflect_laws.proofs.Pieces.{allowed_within}
use Rattle.prost_reflect_laws.proofs.Readable.{body_items}
use Rattle.prost_reflect_laws.proofs.SpelledValid.{spelled_valid}
use Rattle.prost_reflect_laws.proofs.RoundTrip.{written_decoded}
use Rattle.prost_reflect_laws.proofs.Slots.{well_good, good_well}
use Rattle.prost_reflect_laws.proofs.GoodSteps.{Stepped, steps_good, meaning_typed, meaning_levels}

-- the records behind what was decoded
pub record DecodedFrom (schema : Schema) (k T : ℕ) (bytes : List ℕ) (c : Content) : Type 0 where
  pub records : Records
  pub found : read bytes ≡ Some records
  pub spelled : valid (body_of (items records)) ≡ true
  pub allowed : allows schema k T (items records) ≡ true
  pub means : meaning schema k T (items records) ≡ c

pub decoded_from : (schema : Schema) (k T : ℕ) (bytes : List ℕ) (c : Content) → AreBytes bytes → decoded schema k T bytes ≡ Some c → DecodedFrom schema k T bytes c
decoded_from schema k T bytes c small e =
    let (rs, found, f) = bind_ok (λ rs. guard (allows schema k T (items rs)) (meaning schema k T (items rs))) (read bytes) c e in
    let (allowed, means) = guard_ok (allows schema k T (items rs)) (meaning schema k T (items rs)) c f in
    record { records = rs; found = found; spelled = ap valid (body_items rs) ∙ spelled_valid rs bytes small (read_spells bytes rs small found); allowed = allowed; means = means }

-- a meaning is of its schema and type
pub meaning_schema : (schema : Schema) (k T : ℕ) (rs : List Record) → schema_of (meaning schema k T rs) ≡ schema
unfolding meaning
meaning_schema schema zero T rs = refl
meaning_schema schema (suc k) T rs = refl

pub meaning_type : (schema : Schema) (k T : ℕ) (rs : List Record) → type_of (meaning schema k T rs) ≡ T
unfolding meaning
meaning_type schema zero T rs = refl
meaning_type schema (suc k) T rs = refl

pub decoded_well : (schema : Schema) (k T : ℕ) (bytes : List ℕ) (c : Content) → AreBytes bytes → schema_valid schema ≡ true → decoded schema k T bytes ≡ Some c → WellTyped c × (levels c ≤ k)
decoded_well schema k T bytes c small h e =
    let d : DecodedFrom schema k T bytes c = decoded_from schema k T bytes c small e in
    (subst WellTyped d.means (meaning_typed schema k T (items d.records) h d.spelled d.allowed), subst (λ (x : Content). levels x ≤ k) d.means (meaning_levels schema k T (items d.records) h d.spelled d.allowed))

pub normal_form : (schema : Schema) (k T : ℕ) (bytes : List ℕ) (c : Content) → AreBytes bytes → schema_valid schema ≡ true → decoded schema k T bytes ≡ Some c → length (encoded c) < 2 ^ 64 → decoded schema k T (encoded c) ≡ Some c
normal_form schema k T bytes c small h e l =
    let d : DecodedFrom schema k T bytes c = decoded_from schema k T bytes c small e in
    let same : schema_of c ≡ schema = ap schema_of (sym d.means) ∙ meaning_schema schema k T (items d.records) in
    let type : type_of c ≡ T = ap type_of (sym d.means) ∙ meaning_type schema k T (items d.records) in
    let (typed, low) = decoded_well schema k T bytes c small h e in
    ap₂ (λ s t. decoded s k t (encoded c)) (sym same) (sym type)
    ∙ written_decoded k c (record { checked = ap schema_valid same ∙ h; typed = typed; length = l }) low

-- MERGING

pub steps_well : (k : ℕ) (c : Content) (rs : List Record) → schema_valid (schema_of c) ≡ true → WellTyped c → levels c ≤ k → valid (body_of rs) ≡ true → allows (schema_of c) k (type_of c) rs ≡ true → StaysWell k c (steps k c rs)
steps_well k c rs h w l v a =
    let s : Stepped k c (steps k c rs) = steps_good k c rs h (well_good k c w l) v a in
    record { schema_same = s.schema_same; type_same = s.type_same; typed = good_well k (steps k c rs) s.good; low = s.good.low }

pub merged_well : (c : Content) (rs : List Record) → schema_valid (schema_of c) ≡ true → WellTyped c → valid (body_of rs) ≡ true → allows (schema_of c) LEVEL_LIMIT (type_of c) rs ≡ true → StaysWell (max (levels c) LEVEL_LIMIT) c (merged c rs)
merged_well c rs h w v a = steps_well (max (levels c) LEVEL_LIMIT) c rs h w (omega arith) v (allowed_within (schema_of c) LEVEL_LIMIT (max (levels c) LEVEL_LIMIT) (type_of c) rs a (omega arith))
