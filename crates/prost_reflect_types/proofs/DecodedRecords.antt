-- What the bytes of a descriptor record mean is what records mean that they spell; so the bytes are accepted.
use Rattle.std.specs.Prelude.{◌≡◌}
use Rattle.prost_reflect_types.proofs.Common.{ℕ, true, List, Option, Some, None, option_map, refl, ap, ◌∙◌, none-some, same_Some, AreBytes, ◌>>=◌, guard, Records, items, read, Accepts, allows, meaning, Content, type_place, record_schema, gathered, record_decoded, RecordType, bind_ok, guard_ok, read_spells}

pub record Decoded (levels : ℕ) (t : RecordType) (bytes : List ℕ) (c : Content) : Type 0 where
  pub records : Records
  pub read : read bytes ≡ Some records
  pub allowed : allows record_schema levels (type_place t) (items records) ≡ true
  pub means : gathered (meaning record_schema levels (type_place t) (items records)) ≡ c

option_inside : {A B : Type 0} (f : A → B) (o : Option A) (y : B) → option_map f o ≡ Some y → (x : A) × (o ≡ Some x) × (f x ≡ y)
option_inside f None y h = absurd (none-some _ h)
option_inside f (Some x) y h = (x, refl, same_Some _ _ h)

pub decoded_parts : (levels : ℕ) (t : RecordType) (bytes : List ℕ) (c : Content) → record_decoded levels t bytes ≡ Some c → Decoded levels t bytes c
decoded_parts levels t bytes c h =
    let (d, decoded, gathers) = option_inside gathered (read bytes >>= λ rs. guard (allows record_schema levels (type_place t) (items rs)) (meaning record_schema levels (type_place t) (items rs))) c h in
    let (rs, is, guarded) = bind_ok (λ rs. guard (allows record_schema levels (type_place t) (items rs)) (meaning record_schema levels (type_place t) (items rs))) (read bytes) d decoded in
    let (allowed, means) = guard_ok (allows record_schema levels (type_place t) (items rs)) (meaning record_schema levels (type_place t) (items rs)) d guarded in
    record { records = rs; read = is; allowed = allowed; means = ap gathered means ∙ gathers }

-- what is decoded is accepted
pub decoded_accepts : (levels : ℕ) (t : RecordType) (bytes : List ℕ) (c : Content) → AreBytes bytes → record_decoded levels t bytes ≡ Some c → Accepts record_schema levels (type_place t) bytes
decoded_accepts levels t bytes c small h =
    let d = decoded_parts levels t bytes c h in
    record { records = d.records; spelled = read_spells bytes d.records small d.read; allowed = d.allowed }
