-- A message that is read record by record.
use Rattle.std.specs.Prelude.{◌≡◌, ◌≢◌}
use Rattle.prost_reflect_laws.proofs.Common.{ℕ, List, [], Option, Some, None, refl, subst, ◌∙◌, none-some, WireType, DecodeError, body_of, KeyFront, KeyFault, Schema, Content, empty, schema_of, type_of, Accepts, decoded, kept, WellStored, OfType, Stands, StandsInMessage, Progress, Step, StandsBehindKey, StandsInGroup, key_stands, end_stands, stands_behind}
use Rattle.prost_reflect_wire.specs.declared.key.WireType.TheVariants as wires
use Rattle.prost_reflect_wire.specs.declared.error.DecodeError.TheVariants as errors
use Rattle.prost_reflect_laws.proofs.Readings.{read_nothing, read_record, read_decoded, read_accepts}

pub progress_start : (levels : ℕ) (c : Content) (bytes : List ℕ) → WellStored c → Progress levels c c bytes bytes
progress_start levels c bytes w = record { read = read_nothing levels c bytes; holds = record { schema = refl; type = refl; sound = w } }

pub progress_step : (levels n : ℕ) (w : WireType) (old mid new : Content) (bytes rest after end : List ℕ) → Progress levels old mid bytes rest → KeyFront n w rest after → Step levels n w mid new after end → Progress levels old new bytes end
progress_step levels n w old mid new bytes rest after end done key step =
    let h = done.holds in let k = step.holds in record {
      read = read_record levels n w old mid new bytes rest after end done.read key step.read h.schema h.type;
      holds = record { schema = k.schema ∙ h.schema; type = k.type ∙ h.type; sound = k.sound };
    }

-- a fault that stands where the reading has come to
stands_here : (levels : ℕ) (old mid : Content) (opened : Option ℕ) (e : DecodeError) (bytes rest : List ℕ) → Progress levels old mid bytes rest
    → Stands (schema_of old) e (record { bytes = rest; inside = OfType (type_of old); levels = levels; open_group = opened }) → Stands (schema_of old) e (record { bytes = bytes; inside = OfType (type_of old); levels = levels; open_group = opened })
stands_here levels old mid opened e bytes rest done s = let r = done.read in stands_behind (schema_of old) e (record { bytes = bytes; inside = OfType (type_of old); levels = levels; open_group = opened }) (body_of r.records) rest r.front s

-- no key is there, and the body has not ended
pub progress_no_key_in : (levels : ℕ) (old mid : Content) (opened : Option ℕ) (e : DecodeError) (bytes rest : List ℕ) → Progress levels old mid bytes rest → (rest ≡ [] → opened ≢ None) → KeyFault e rest
    → Stands (schema_of old) e (record { bytes = bytes; inside = OfType (type_of old); levels = levels; open_group = opened })
progress_no_key_in levels old mid opened e bytes rest done some f =
    stands_here levels old mid opened e bytes rest done (key_stands (schema_of old) (record { bytes = rest; inside = OfType (type_of old); levels = levels; open_group = opened }) e f some)

pub progress_no_key : (levels : ℕ) (old mid : Content) (e : DecodeError) (bytes rest : List ℕ) → Progress levels old mid bytes rest → rest ≢ [] → KeyFault e rest → StandsInMessage (schema_of old) (type_of old) levels e bytes
progress_no_key levels old mid e bytes rest done some f = progress_no_key_in levels old mid None e bytes rest done (λ none. absurd (some none)) f

-- the record behind the key is refused
pub progress_no_record_in : (levels n : ℕ) (w : WireType) (old mid : Content) (opened : Option ℕ) (e : DecodeError) (bytes rest after : List ℕ) → Progress levels old mid bytes rest → KeyFront n w rest after → (w ≡ wires.EndGroup → opened ≢ Some n)
    → StandsBehindKey mid levels n w e after → Stands (schema_of old) e (record { bytes = bytes; inside = OfType (type_of old); levels = levels; open_group = opened })
progress_no_record_in levels n w old mid opened e bytes rest after done key closes f =
    let h = done.holds in
    stands_here levels old mid opened e bytes rest done (subst (λ T. Stands (schema_of old) e (record { bytes = rest; inside = OfType T; levels = levels; open_group = opened })) h.type
    (subst (λ s. Stands s e (record { bytes = rest; inside = OfType (type_of mid); levels = levels; open_group = opened })) h.schema (f rest opened key closes)))

pub progress_no_record : (levels n : ℕ) (w : WireType) (old mid : Content) (e : DecodeError) (bytes rest after : List ℕ) → Progress levels old mid bytes rest → KeyFront n w rest after → StandsBehindKey mid levels n w e after →
    StandsInMessage (schema_of old) (type_of old) levels e bytes
progress_no_record levels n w old mid e bytes rest after done key f = progress_no_record_in levels n w old mid None e bytes rest after done key (λ _. none-some _) f

-- in a group an end key of another number
pub progress_other_end : (levels n m : ℕ) (old mid : Content) (bytes rest after : List ℕ) → Progress levels old mid bytes rest → KeyFront m wires.EndGroup rest after → n ≢ m → StandsInGroup old levels n errors.EndGroup bytes
progress_other_end levels n m old mid bytes rest after done key apart =
    stands_here levels old mid (Some n) errors.EndGroup bytes rest done
    (end_stands (schema_of old) (record { bytes = rest; inside = OfType (type_of old); levels = levels; open_group = Some n }) m after key (λ same. apart (let number : n ≡ m = cc in number)))

-- all was read into an empty message
pub progress_decoded : (schema : Schema) (levels T : ℕ) (new : Content) (bytes : List ℕ) → Progress levels (empty schema T) new bytes [] → decoded schema levels T bytes ≡ Some (kept new)
progress_decoded schema levels T new bytes done = read_decoded schema levels T new bytes done.read

pub progress_accepts : (schema : Schema) (levels T : ℕ) (new : Content) (bytes : List ℕ) → Progress levels (empty schema T) new bytes [] → Accepts schema levels T bytes
progress_accepts schema levels T new bytes done = read_accepts schema levels T new bytes done.read
