-- Contents of one type that are written equally are equal.
use Rattle.std.specs.Prelude.{◌≡◌, ◌+◌}
use Rattle.prost_reflect_laws.proofs.Common.{ℕ, ap, sym, ◌∙◌, arith, items, body_of, Spells, Content, schema_of, type_of, meaning, records, encoded, levels, one_reading, items_body, Writable}
use Rattle.prost_reflect_laws.proofs.Means.{records_mean, encoded_spells}

pub canonicity : (c d : Content) → Writable c → Writable d → schema_of c ≡ schema_of d → type_of c ≡ type_of d → encoded c ≡ encoded d → c ≡ d
canonicity c d wc wd s t e =
    let k : ℕ = levels c + levels d in
    let spells : Spells (body_of (records d)) (encoded c) = rw e (encoded_spells d wd) in
    let same : records c ≡ records d = sym (items_body (records c)) ∙ ap items (one_reading (encoded c) (body_of (records c)) (body_of (records d)) (encoded_spells c wc) spells) ∙ items_body (records d) in
    sym (records_mean k c wc (omega arith)) ∙ ap (λ u. meaning u k (type_of c) (records c)) s ∙ ap (λ (u : ℕ). meaning (schema_of d) k u (records c)) t ∙ ap (meaning (schema_of d) k (type_of d)) same ∙ records_mean k d wd (omega arith)
