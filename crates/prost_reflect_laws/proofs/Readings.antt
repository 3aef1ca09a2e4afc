-- Records read one behind another from bytes.
use Rattle.std.specs.Prelude.{◌≡◌, ◌∷◌, ◌++◌}
use Rattle.prost_reflect_laws.proofs.Common.{ℕ, zero, suc, List, [], Option, Some, refl, ap, ap₂, sym, ◌∙◌, append-nil, subst, guard, ◌>>=◌, Record, Records, items, body_of, Spells, WireType, KeyFront, ValueFront, RecordsFront, Schema, Content, empty, schema_of, type_of, Accepts, allows, MeansInside, JoinsInside, meaning, decoded, step_by, steps_by, steps, record_at, kept, ReadTo, RecordRead, allows_append, meaning_steps, meaning_empty, record_front, last_front, spelled_read, items_body}
use Rattle.prost_reflect_laws.proofs.Allowed.{allows_inside}
use Rattle.prost_reflect_laws.proofs.Means.{below, further}
use Rattle.prost_reflect_laws.proofs.Kept.{kept_schema}

-- STEPS

pub steps_level : (k : ℕ) (c : Content) (rs : List Record) → steps k c rs ≡ steps_by (below (schema_of c) k) (further k) c rs
unfolding steps below further
steps_level zero c rs = refl
steps_level (suc k) c rs = refl

steps_append : (inner : MeansInside) (join : JoinsInside) (c : Content) (rs qs : List Record) → steps_by inner join c (rs ++ qs) ≡ steps_by inner join (steps_by inner join c rs) qs
steps_append inner join c [] qs = refl
steps_append inner join c (r ∷ rs) qs = steps_append inner join (step_by inner join c r) rs qs

-- one more record makes one more step
pub steps_one : (k : ℕ) (c : Content) (rs : List Record) (r : Record) → steps k c (rs ++ (r ∷ [])) ≡ step_by (below (schema_of c) k) (further k) (steps k c rs) r
steps_one k c rs r =
    steps_level k c (rs ++ (r ∷ [])) ∙ steps_append (below (schema_of c) k) (further k) c rs (r ∷ [])
    ∙ ap (λ d. step_by (below (schema_of c) k) (further k) d r) (sym (steps_level k c rs))

-- PROGRESS

pub read_nothing : (k : ℕ) (c : Content) (bytes : List ℕ) → ReadTo k c c bytes bytes
read_nothing k c bytes = record {
  records = [];
  front = record { front = []; spelled = refl; parts = refl };
  allowed = allows_inside (schema_of c) k (type_of c) [];
  means = sym (steps_level k (kept c) []);
}

-- steps behind others
pub steps_behind : (k : ℕ) (c d : Content) (rs qs : List Record) → d ≡ steps k c rs → schema_of d ≡ schema_of c → steps k c (rs ++ qs) ≡ steps k d qs
steps_behind k c d rs qs is same =
    steps_level k c (rs ++ qs) ∙ steps_append (below (schema_of c) k) (further k) c rs qs
    ∙ ap₂ (λ schema x. steps_by (below schema k) (further k) x qs) (sym same) (sym (is ∙ steps_level k c rs)) ∙ sym (steps_level k d qs)

-- one record more
pub read_record : (k n : ℕ) (w : WireType) (old mid new : Content) (bytes rest after end : List ℕ) → ReadTo k old mid bytes rest → KeyFront n w rest after → RecordRead k n w mid new after end →
    schema_of mid ≡ schema_of old → type_of mid ≡ type_of old → ReadTo k old new bytes end
read_record k n w old mid new bytes rest after end done key next schema type = record {
  records = done.records ++ (r ∷ []);
  front = last_front done.records r bytes rest end done.front
      (record_front n next.payload rest after end (subst (λ v. KeyFront n v rest after) (sym value.wire) key) value.front);
  allowed = allows_append (schema_of old) k (type_of old) done.records (r ∷ []) done.allowed
      (ap₂ (λ s T. allows s k T (r ∷ [])) (sym schema) (sym type) ∙ next.allowed);
  means = next.means ∙ sym (steps_behind k (kept old) (kept mid) done.records (r ∷ []) done.means (kept_schema mid ∙ schema ∙ sym (kept_schema old)));
}
  where
    r : Record
    r = record_at n next.payload

    value : ValueFront n w k next.payload after end
    value = next.value

-- all bytes are spelled by the records that were read
pub whole_spelled : (levels : ℕ) (old new : Content) (bytes : List ℕ) → (done : ReadTo levels old new bytes []) → Spells (body_of done.records) bytes
whole_spelled levels old new bytes done = let f : RecordsFront (body_of done.records) bytes [] = done.front in subst (Spells (body_of done.records)) (sym (f.parts ∙ append-nil f.front)) f.spelled

-- a whole message, read into nothing
pub read_decoded : (schema : Schema) (k T : ℕ) (new : Content) (bytes : List ℕ) → ReadTo k (empty schema T) new bytes [] → decoded schema k T bytes ≡ Some (kept new)
read_decoded schema k T new bytes done =
    ap (λ (o : Option Records). o >>= λ rs. guard (allows schema k T (items rs)) (meaning schema k T (items rs))) (spelled_read (body_of done.records) bytes (whole_spelled k (empty schema T) new bytes done))
    ∙ ap (λ rs. guard (allows schema k T rs) (meaning schema k T rs)) (items_body done.records)
    ∙ ap (λ b. guard b (meaning schema k T done.records)) done.allowed
    ∙ ap Some (meaning_steps schema k T [] done.records ∙ ap (λ c. steps k c done.records) (meaning_empty schema k T) ∙ sym done.means)

pub read_accepts : (schema : Schema) (k T : ℕ) (new : Content) (bytes : List ℕ) → ReadTo k (empty schema T) new bytes [] → Accepts schema k T bytes
read_accepts schema k T new bytes done = record {
  records = body_of done.records;
  spelled = whole_spelled k (empty schema T) new bytes done;
  allowed = ap (allows schema k T) (items_body done.records) ∙ done.allowed;
}
