-- Records merged into a content are read behind it; pieces of one message join.
use Rattle.std.specs.Prelude.{◌≡◌, ◌+◌, ◌-◌, ◌≤◌, ◌++◌}
use Rattle.prost_reflect_laws.proofs.Common.{ℕ, zero, suc, true, List, refl, ap, sym, ◌∙◌, arith, max, Record, Schema, Content, schema_of, type_of, LEVEL_LIMIT, allows, meaning, steps, records, levels, merged, levels_free, allowed_further, meaning_steps, Writable}
use Rattle.prost_reflect_laws.proofs.Means.{records_mean}

pub merged_means : (c : Content) (behind : List Record) → Writable c → merged c behind ≡ meaning (schema_of c) (max (levels c) LEVEL_LIMIT) (type_of c) (records c ++ behind)
merged_means c behind w =
    let m : ℕ = max (levels c) LEVEL_LIMIT in
    ap (λ c. steps m c behind) (sym (records_mean m c w (omega arith))) ∙ sym (meaning_steps (schema_of c) m (type_of c) (records c) behind)

-- any number of further levels
more_levels : (schema : Schema) (k d m T : ℕ) (rs : List Record) → m ≡ d + k → allows schema k T rs ≡ true → (meaning schema k T rs ≡ meaning schema m T rs) × (allows schema m T rs ≡ true)
more_levels schema k zero m T rs e h =
    let same : k ≡ m = omega arith in
    (ap (λ (n : ℕ). meaning schema n T rs) same, ap (λ (n : ℕ). allows schema n T rs) (sym same) ∙ h)
more_levels schema k (suc d) m T rs e h =
    let (same, allowed) = more_levels schema k d (d + k) T rs refl h in
    let f : suc (d + k) ≡ m = omega arith in
    (same ∙ levels_free schema (d + k) T rs allowed ∙ ap (λ (n : ℕ). meaning schema n T rs) f, ap (λ (n : ℕ). allows schema n T rs) (sym f) ∙ allowed_further schema (d + k) T rs allowed)

pub levels_within : (schema : Schema) (k m T : ℕ) (rs : List Record) → allows schema k T rs ≡ true → k ≤ m → meaning schema k T rs ≡ meaning schema m T rs
levels_within schema k m T rs h l = (more_levels schema k (m - k) m T rs (omega arith) h).0

pub allowed_within : (schema : Schema) (k m T : ℕ) (rs : List Record) → allows schema k T rs ≡ true → k ≤ m → allows schema m T rs ≡ true
allowed_within schema k m T rs h l = (more_levels schema k (m - k) m T rs (omega arith) h).1

pub pieces_join : (schema : Schema) (k m T : ℕ) (front behind : List Record) → allows schema k T front ≡ true → k ≤ m → steps m (meaning schema k T front) behind ≡ meaning schema m T (front ++ behind)
pieces_join schema k m T front behind h within = ap (λ c. steps m c behind) (levels_within schema k m T front h within) ∙ sym (meaning_steps schema m T front behind)
