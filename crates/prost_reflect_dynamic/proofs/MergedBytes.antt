-- What reading the records of bytes into a message makes of it is what both mean, one behind the other.
use Rattle.std.specs.Prelude.{◌≡◌, ◌<◌, ◌^◌, ◌++◌}
use Rattle.prost_reflect_dynamic.proofs.Common.{ℕ, List, [], length, Some, true, ap, ap₂, sym, ◌∙◌, subst, arith, max, AreBytes, Record, Spells, items, body_of, valid, Schema, schema_valid, Content, schema_of, type_of, DecodeError, StandsInMessage, LEVEL_LIMIT, allows, steps, levels, merged, records, encoded, kept, WellStored, WellTyped, Progress, items_body, kept_schema, kept_type, kept_well, schema_at, type_at, content_of, message_type_of, DynamicMessage, IsMeaningOfRecords, IsMeaningOfBytes, MergesMeaning}
use Rattle.prost_reflect_laws.specs.Laws.{Writable}
use Rattle.prost_reflect_laws.proofs.Means.{records_mean}
use Rattle.prost_reflect_laws.proofs.Readings.{whole_spelled}
use Rattle.prost_reflect_laws.proofs.RoundTrip.{records_allowed}
use Rattle.prost_reflect_laws.proofs.SpelledValid.{spelled_valid}
use Rattle.prost_reflect_laws.proofs.StepsFree.{steps_within}
use Rattle.prost_reflect_dynamic.proofs.MergedPieces.{behind_records, behind_allowed, behind_accepts, behind_decoded}
use Rattle.prost_reflect_dynamic.proofs.Merging.{valid_in}
use Rattle.prost_reflect_dynamic.proofs.NestedReads.{schema_in, type_in}

module _ (old new : Content) (bytes : List ℕ) (small : AreBytes bytes) (checked : schema_valid (schema_of old) ≡ true) (sound : WellStored old) (done : Progress LEVEL_LIMIT old new bytes []) where
  abbrev its : List Record
  its = items (body_of done.read.records)

  -- the records that were read
  same : its ≡ done.read.records
  same = items_body done.read.records

  spelled : Spells (body_of its) bytes
  spelled = subst (λ rs. Spells (body_of rs) bytes) (sym same) (whole_spelled LEVEL_LIMIT old new bytes done.read)

  spelt : valid (body_of its) ≡ true
  spelt = spelled_valid (body_of its) bytes small spelled

  kept_checked : schema_valid (schema_of (kept old)) ≡ true
  kept_checked = ap schema_valid (kept_schema old) ∙ checked

  well : WellTyped (kept old)
  well = kept_well old sound

  kept_allowed : allows (schema_of (kept old)) LEVEL_LIMIT (type_of (kept old)) its ≡ true
  kept_allowed = ap₂ (λ s T. allows s LEVEL_LIMIT T its) (kept_schema old) (kept_type old) ∙ ap (allows (schema_of old) LEVEL_LIMIT (type_of old)) same ∙ done.read.allowed

  further : kept new ≡ merged (kept old) its
  further = done.read.means ∙ ap (λ rs. steps LEVEL_LIMIT (kept old) rs) (sym same)
      ∙ steps_within LEVEL_LIMIT (max (levels (kept old)) LEVEL_LIMIT) (kept old) its kept_checked well spelt kept_allowed (omega arith)

  behind : (front : List Record) → IsMeaningOfRecords (schema_of (kept old)) (type_of (kept old)) front (kept old) → IsMeaningOfRecords (schema_of (kept old)) (type_of (kept old)) (front ++ its) (kept new)
  behind front of = record {
    levels = max of.levels LEVEL_LIMIT;
    allowed = behind_allowed (kept old) its kept_checked well spelt kept_allowed of.levels (max of.levels LEVEL_LIMIT) front of.allowed (omega arith) (omega arith);
    means = behind_records (kept old) its kept_checked well spelt kept_allowed of.levels (max of.levels LEVEL_LIMIT) front of.allowed of.means (omega arith) (omega arith) ∙ sym further;
  }

  written : length (encoded (kept old)) < 2 ^ 64 → IsMeaningOfRecords (schema_of (kept old)) (type_of (kept old)) (records (kept old)) (kept old)
  written l =
      let own : Writable (kept old) = record { checked = kept_checked; typed = well; length = l } in
      record {
        levels = levels (kept old);
        allowed = (records_allowed (levels (kept old)) (kept old) own).1 (omega arith);
        means = records_mean (levels (kept old)) (kept old) own (omega arith);
      }

  pieces : (front : List ℕ) → IsMeaningOfBytes (schema_of (kept old)) (type_of (kept old)) front (kept old) → IsMeaningOfBytes (schema_of (kept old)) (type_of (kept old)) (front ++ bytes) (kept new)
  pieces front of = record {
    accepts = behind_accepts (kept old) its kept_checked well spelt kept_allowed bytes spelled LEVEL_LIMIT (omega arith) front of.accepts of.means;
    means = behind_decoded (kept old) its kept_checked well spelt kept_allowed bytes spelled LEVEL_LIMIT (omega arith) front of.accepts of.means ∙ ap Some (sym further);
  }

  pub merges_meaning : MergesMeaning (schema_of (kept old)) (type_of (kept old)) bytes (kept old) (kept new)
  merges_meaning = record {
    accepts = record { records = body_of done.read.records; spelled = whole_spelled LEVEL_LIMIT old new bytes done.read; allowed = kept_allowed };
    written = λ l. behind (records (kept old)) (written l);
    behind = behind;
    pieces = pieces;
    further = further;
  }

-- A message's type, by what its content says and by its own name.
by_type : (m : DynamicMessage) (P : Schema → ℕ → Type 0) → P (schema_of (content_of m)) (type_of (content_of m)) → P (schema_at (message_type_of m)) (type_at (message_type_of m))
by_type m P h = subst (P (schema_at (message_type_of m))) (type_in m) (subst (λ s. P s (type_of (content_of m))) (schema_in m) h)

pub fault_stands : (m : DynamicMessage) (e : DecodeError) (bytes : List ℕ) → StandsInMessage (schema_of (content_of m)) (type_of (content_of m)) LEVEL_LIMIT e bytes → StandsInMessage (schema_at (message_type_of m)) (type_at (message_type_of m)) LEVEL_LIMIT e bytes
fault_stands m e bytes h = by_type m (λ s T. StandsInMessage s T LEVEL_LIMIT e bytes) h

pub message_merges : (m : DynamicMessage) (new : Content) (bytes : List ℕ) → AreBytes bytes → WellStored (content_of m) → Progress LEVEL_LIMIT (content_of m) new bytes [] →
    MergesMeaning (schema_at (message_type_of m)) (type_at (message_type_of m)) bytes (kept (content_of m)) (kept new)
message_merges m new bytes small sound done =
    by_type m (λ s T. MergesMeaning s T bytes (kept (content_of m)) (kept new))
    (subst (λ T. MergesMeaning (schema_of (content_of m)) T bytes (kept (content_of m)) (kept new)) (kept_type (content_of m))
    (subst (λ s. MergesMeaning s (type_of (kept (content_of m))) bytes (kept (content_of m)) (kept new)) (kept_schema (content_of m))
    (merges_meaning (content_of m) new bytes small (valid_in m) sound done)))
