-- What is written is accepted exactly within so many levels, and means what was written.
use Rattle.std.specs.Prelude.{◌≡◌, ◌≤◌, ◌↔◌}
use Rattle.prost_reflect_laws.proofs.Common.{ℕ, nat_le, Bool, true, Some, Option, ap, ap₂, sym, ◌∙◌, leb-true, le-leb, guard, ◌>>=◌, Records, items, body_of, Content, schema_of, type_of, Accepts, allows, meaning, decoded, records, encoded, levels, spelled_read, one_reading, items_body, Writable}
use Rattle.prost_reflect_laws.proofs.Valid.{content_valid}
use Rattle.prost_reflect_laws.proofs.Means.{records_mean, encoded_spells}
use Rattle.prost_reflect_laws.proofs.Allowed.{content_allowed}

allowed_same : (k : ℕ) (c : Content) → Writable c → allows (schema_of c) k (type_of c) (records c) ≡ nat_le (levels c) k
allowed_same k c w = content_allowed k c w.checked w.typed.fitting.fits w.typed.fitting.types (content_valid c w.checked w.typed.fitting.fits w.typed.fitting.types w.length)

pub records_allowed : (k : ℕ) (c : Content) → Writable c → (allows (schema_of c) k (type_of c) (records c) ≡ true) ↔ (levels c ≤ k)
records_allowed k c w = (λ e. leb-true (levels c) k (sym (allowed_same k c w) ∙ e), λ l. allowed_same k c w ∙ le-leb (levels c) k l)

-- what the bytes of a content are decoded as
pub written_decoded : (k : ℕ) (c : Content) → Writable c → levels c ≤ k → decoded (schema_of c) k (type_of c) (encoded c) ≡ Some c
written_decoded k c w l =
    let T : ℕ = type_of c in
    ap (λ (o : Option Records). o >>= λ rs. guard (allows (schema_of c) k T (items rs)) (meaning (schema_of c) k T (items rs))) (spelled_read (body_of (records c)) (encoded c) (encoded_spells c w))
    ∙ ap (λ rs. guard (allows (schema_of c) k T rs) (meaning (schema_of c) k T rs)) (items_body (records c))
    ∙ ap₂ (λ (b : Bool) (x : Content). guard b x) ((records_allowed k c w).1 l) (records_mean k c w l)

pub written_accepted : (k : ℕ) (c : Content) → Writable c → Accepts (schema_of c) k (type_of c) (encoded c) ↔ (levels c ≤ k)
written_accepted k c w = (there, back)
  where
    there : Accepts (schema_of c) k (type_of c) (encoded c) → levels c ≤ k
    there a =
        let same : items a.records ≡ records c = ap items (one_reading (encoded c) a.records (body_of (records c)) a.spelled (encoded_spells c w)) ∙ items_body (records c) in
        (records_allowed k c w).0 (ap (allows (schema_of c) k (type_of c)) (sym same) ∙ a.allowed)

    back : levels c ≤ k → Accepts (schema_of c) k (type_of c) (encoded c)
    back l = record {
      records = body_of (records c);
      spelled = encoded_spells c w;
      allowed = ap (allows (schema_of c) k (type_of c)) (items_body (records c)) ∙ (records_allowed k c w).1 l;
    }

pub round_trip : (k : ℕ) (c : Content) → Writable c → (Accepts (schema_of c) k (type_of c) (encoded c) ↔ (levels c ≤ k)) × (levels c ≤ k → decoded (schema_of c) k (type_of c) (encoded c) ≡ Some c)
round_trip k c w = (written_accepted k c w, written_decoded k c w)
