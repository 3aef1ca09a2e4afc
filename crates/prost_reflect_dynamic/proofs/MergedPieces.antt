-- Records that are merged into a content mean, behind any records of it, what is made of it; and so do bytes behind bytes.
use Rattle.std.specs.Prelude.{◌≡◌, ◌≤◌, ◌∷◌, ◌++◌}
use Rattle.prost_reflect_dynamic.proofs.Common.{ℕ, true, List, [], Option, Some, refl, ap, sym, ◌∙◌, subst, append-nil, arith, max, guard, ◌>>=◌, Records, Record, Spells, items, body_of, valid, RecordsFront, Schema, schema_valid, Content, schema_of, type_of, LEVEL_LIMIT, Accepts, allows, meaning, decoded, steps, levels, merged, WellTyped, items_body, first_front, first_parts}
use Rattle.prost_reflect_wire.proofs.Deeper.{allows_append}
use Rattle.prost_reflect_wire.proofs.Reading.{spelled_read}
use Rattle.prost_reflect_wire.proofs.Sound.{guard_ok}
use Rattle.prost_reflect_laws.proofs.Pieces.{allowed_within, pieces_join}
use Rattle.prost_reflect_laws.proofs.Readable.{body_items}
use Rattle.prost_reflect_laws.proofs.StepsFree.{steps_within}

-- BYTES ONE BEHIND ANOTHER

fronts_append : (rs qs : List Record) (bytes mid rest : List ℕ) → RecordsFront (body_of rs) bytes mid → RecordsFront (body_of qs) mid rest → RecordsFront (body_of (rs ++ qs)) bytes rest
fronts_append [] qs bytes mid rest f g =
    let same : bytes ≡ mid = f.parts ∙ ap (λ (l : List ℕ). l ++ mid) f.spelled in
    subst (λ (l : List ℕ). RecordsFront (body_of qs) l rest) (sym same) g
fronts_append (r ∷ rs) qs bytes mid rest f g =
    let h = first_parts r (body_of rs) bytes mid f in
    first_front r (body_of (rs ++ qs)) bytes h.mid rest h.first (fronts_append rs qs h.mid mid rest h.others g)

pub spells_append : (rs qs : List Record) (front behind : List ℕ) → Spells (body_of rs) front → Spells (body_of qs) behind → Spells (body_of (rs ++ qs)) (front ++ behind)
spells_append rs qs front behind s t =
    let f = fronts_append rs qs (front ++ behind) behind [] (record { front = front; spelled = s; parts = refl }) (record { front = behind; spelled = t; parts = sym (append-nil behind) }) in
    subst (Spells (body_of (rs ++ qs))) (sym (f.parts ∙ append-nil f.front)) f.spelled

-- what is spelled and allowed is decoded
spelled_decoded : (schema : Schema) (k T : ℕ) (rs : List Record) (bytes : List ℕ) → Spells (body_of rs) bytes → allows schema k T rs ≡ true → decoded schema k T bytes ≡ Some (meaning schema k T rs)
spelled_decoded schema k T rs bytes s a =
    ap (λ (o : Option Records). o >>= λ rs. guard (allows schema k T (items rs)) (meaning schema k T (items rs))) (spelled_read (body_of rs) bytes s)
    ∙ ap (λ rs. guard (allows schema k T rs) (meaning schema k T rs)) (items_body rs)
    ∙ ap (λ b. guard b (meaning schema k T rs)) a

-- the records of accepted bytes mean what is decoded
accepted_means : (schema : Schema) (k T : ℕ) (bytes : List ℕ) (c : Content) → (a : Accepts schema k T bytes) → decoded schema k T bytes ≡ Some c → meaning schema k T (items a.records) ≡ c
accepted_means schema k T bytes c a e =
    (guard_ok (allows schema k T (items a.records)) (meaning schema k T (items a.records)) c
    (sym (ap (λ (o : Option Records). o >>= λ rs. guard (allows schema k T (items rs)) (meaning schema k T (items rs))) (spelled_read a.records bytes a.spelled)) ∙ e)).1

-- MERGING

module _ (c : Content) (its : List Record) (checked : schema_valid (schema_of c) ≡ true) (well : WellTyped c) (spelt : valid (body_of its) ≡ true) (allowed : allows (schema_of c) LEVEL_LIMIT (type_of c) its ≡ true) where
  -- with any levels from the limit on
  merged_within : (m : ℕ) → LEVEL_LIMIT ≤ m → merged c its ≡ steps m c its
  merged_within m l =
      sym (steps_within LEVEL_LIMIT (max (levels c) LEVEL_LIMIT) c its checked well spelt allowed (omega arith)) ∙ steps_within LEVEL_LIMIT m c its checked well spelt allowed l

  pub behind_records : (k m : ℕ) (front : List Record) → allows (schema_of c) k (type_of c) front ≡ true → meaning (schema_of c) k (type_of c) front ≡ c → k ≤ m → LEVEL_LIMIT ≤ m →
      meaning (schema_of c) m (type_of c) (front ++ its) ≡ merged c its
  behind_records k m front a e l l' = sym (merged_within m l' ∙ ap (λ d. steps m d its) (sym e) ∙ pieces_join (schema_of c) k m (type_of c) front its a l)

  pub behind_allowed : (k m : ℕ) (front : List Record) → allows (schema_of c) k (type_of c) front ≡ true → k ≤ m → LEVEL_LIMIT ≤ m → allows (schema_of c) m (type_of c) (front ++ its) ≡ true
  behind_allowed k m front a l l' =
      allows_append (schema_of c) m (type_of c) front its (allowed_within (schema_of c) k m (type_of c) front a l) (allowed_within (schema_of c) LEVEL_LIMIT m (type_of c) its allowed l')

  module _ (bytes : List ℕ) (spelled : Spells (body_of its) bytes) (k : ℕ) (limit : LEVEL_LIMIT ≤ k) (front : List ℕ) (first : Accepts (schema_of c) k (type_of c) front) (means : decoded (schema_of c) k (type_of c) front ≡ Some c) where
    abbrev joined : List Record
    joined = items first.records ++ its

    joined_spelled : Spells (body_of joined) (front ++ bytes)
    joined_spelled = spells_append (items first.records) its front bytes (subst (λ rs. Spells rs front) (sym (body_items first.records)) first.spelled) spelled

    joined_allowed : allows (schema_of c) k (type_of c) joined ≡ true
    joined_allowed = behind_allowed k k (items first.records) first.allowed (omega arith) limit

    pub behind_accepts : Accepts (schema_of c) k (type_of c) (front ++ bytes)
    behind_accepts = record { records = body_of joined; spelled = joined_spelled; allowed = ap (allows (schema_of c) k (type_of c)) (items_body joined) ∙ joined_allowed }

    pub behind_decoded : decoded (schema_of c) k (type_of c) (front ++ bytes) ≡ Some (merged c its)
    behind_decoded = spelled_decoded (schema_of c) k (type_of c) joined (front ++ bytes) joined_spelled joined_allowed
        ∙ ap Some (behind_records k k (items first.records) first.allowed (accepted_means (schema_of c) k (type_of c) front c first means) (omega arith) limit)
