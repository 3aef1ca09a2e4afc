-- What is read of an encoding; which contents have it.
use Rattle.std.specs.Prelude.{◌≡◌, ◌<◌, ◌^◌, ◌↔◌}
use Rattle.prost_reflect_dynamic.proofs.Common.{ℕ, true, List, length, Some, ap, sym, ◌∙◌, subst, AreBytes, Schema, schema_valid, Content, schema_of, type_of, LEVEL_LIMIT, decoded, encoded, kept, WellStored, kept_schema, kept_type, kept_well, schema_is_valid, schema_at, type_at, pool_rows, MessageDescriptor, schema_named, DynamicMessage, content_of, message_type_of}
use Rattle.prost_reflect_laws.specs.Laws.{Spellable, Writable}
use Rattle.prost_reflect_laws.proofs.RoundTrip.{round_trip, written_accepted}
use Rattle.prost_reflect_laws.proofs.Eased.{fitting_canonicity}
use Rattle.prost_reflect_laws.proofs.NormalForms.{DecodedFrom, decoded_from, decoded_well, meaning_schema, meaning_type, normal_form}
use Rattle.prost_reflect_dynamic.specs.ReadBack.{ReadsBack, IsOnlyOf, MeansSame}
use Rattle.prost_reflect_dynamic.proofs.Merging.{valid_in}
use Rattle.prost_reflect_dynamic.proofs.NestedReads.{schema_in, type_in}

-- what a message keeps can be written
kept_writable : (m : DynamicMessage) → WellStored (content_of m) → length (encoded (kept (content_of m))) < 2 ^ 64 → Writable (kept (content_of m))
kept_writable m w l = record { checked = ap schema_valid (kept_schema (content_of m)) ∙ valid_in m; typed = kept_well (content_of m) w; length = l }

pub reads_back : (m : DynamicMessage) → WellStored (content_of m) → length (encoded (kept (content_of m))) < 2 ^ 64 → ReadsBack (kept (content_of m)) (encoded (kept (content_of m)))
reads_back m w l k = round_trip k (kept (content_of m)) (kept_writable m w l)

pub only_of : (m : DynamicMessage) → WellStored (content_of m) → length (encoded (kept (content_of m))) < 2 ^ 64 → IsOnlyOf (kept (content_of m)) (encoded (kept (content_of m)))
only_of m w l d schema type fits short =
    let own : Writable (kept (content_of m)) = kept_writable m w l in (
      λ same. fitting_canonicity d (kept (content_of m)) (record { checked = ap schema_valid schema ∙ own.checked; fitting = fits; length = short })
          (record { checked = own.checked; fitting = own.typed.fitting; length = l }) schema type (sym same),
      λ is. ap encoded (sym is),
    )

kept_spellable : (m : DynamicMessage) → WellStored (content_of m) → length (encoded (kept (content_of m))) < 2 ^ 64 → Spellable (kept (content_of m))
kept_spellable m w l = let own : Writable (kept (content_of m)) = kept_writable m w l in record { checked = own.checked; fitting = own.typed.fitting; length = l }

-- two messages of one type are written as the same bytes exactly if they hold the same for others
pub same_bytes : (a b : DynamicMessage) → schema_at (message_type_of a) ≡ schema_at (message_type_of b) → type_at (message_type_of a) ≡ type_at (message_type_of b) → WellStored (content_of a) → WellStored (content_of b) →
    length (encoded (kept (content_of a))) < 2 ^ 64 → (encoded (kept (content_of a)) ≡ encoded (kept (content_of b))) ↔ (kept (content_of a) ≡ kept (content_of b))
same_bytes a b schema type v w l = (
  λ same. fitting_canonicity (kept (content_of a)) (kept (content_of b)) (kept_spellable a v l) (kept_spellable b w (subst (λ (bytes : List ℕ). length bytes < 2 ^ 64) same l))
      (kept_schema (content_of a) ∙ schema_in a ∙ schema ∙ sym (kept_schema (content_of b) ∙ schema_in b)) (kept_type (content_of a) ∙ type_in a ∙ type ∙ sym (kept_type (content_of b) ∙ type_in b)) same,
  λ same. ap encoded same,
)

-- what was decoded is written as bytes that mean the same
pub decoded_again : (schema : Schema) (T : ℕ) (bytes : List ℕ) (c : Content) → AreBytes bytes → schema_valid schema ≡ true → decoded schema LEVEL_LIMIT T bytes ≡ Some c → length (encoded c) < 2 ^ 64 → MeansSame schema T bytes (encoded c)
decoded_again schema T bytes c small valid means l =
    let from : DecodedFrom schema LEVEL_LIMIT T bytes c = decoded_from schema LEVEL_LIMIT T bytes c small means in
    let same : schema_of c ≡ schema = ap schema_of (sym from.means) ∙ meaning_schema schema LEVEL_LIMIT T _ in
    let type : type_of c ≡ T = ap type_of (sym from.means) ∙ meaning_type schema LEVEL_LIMIT T _ in
    let (typed, low) = decoded_well schema LEVEL_LIMIT T bytes c small valid means in
    record {
      accepts = rw (sym same, sym type) ((written_accepted LEVEL_LIMIT c (record { checked = ap schema_valid same ∙ valid; typed = typed; length = l })).1 low);
      same = normal_form schema LEVEL_LIMIT T bytes c small valid means l ∙ sym means;
    }

pub named_valid : (d : MessageDescriptor) → schema_valid (schema_named d) ≡ true
named_valid d = schema_is_valid (pool_rows d.pool.inner) d.pool.inner.value.tables.linked
