-- Values and records that are passed over.
use Rattle.std.specs.Prelude.{◌≡◌, ◌-◌, ◌<◌, ◌∷◌, ◌++◌}
use Rattle.prost_reflect_wire.proofs.Common.{ℕ, List, [], Result, Ok, Err, IfOk, Bor, sym, arith, DecodeError, WireType, Plain, Record, record_at, Payload, Flat, Group, body_of, plain_wire, payload_levels, raw_levels, KeyFront, PlainFront, RecordsFront, ValueFront, SkipsValue, SkipsGroup}
use Rattle.prost_reflect_wire.specs.declared.key.WireType.TheVariants as wires
use Rattle.prost_reflect_wire.proofs.RecordFronts.{last_front, levels_last, field_front}

-- the records of a group so far
pub record Skipped (levels : ℕ) (bytes rest : List ℕ) : Type 0 where
  pub records : List Record
  pub front : RecordsFront (body_of records) bytes rest
  pub within : raw_levels (body_of records) < levels

pub skipped_more : (levels n : ℕ) (w : WireType) (p : Payload) (bytes mid after rest : List ℕ) → Skipped levels bytes mid → KeyFront n w mid after → ValueFront n w (levels - 1) p after rest → Skipped levels bytes rest
skipped_more levels n w p bytes mid after rest s k v =
    let f = field_front n w (levels - 1) p mid after rest k v in
    let low : payload_levels p < levels = omega (arith, v.within, s.within) in
    record { records = s.records ++ record_at n p ∷ []; front = last_front s.records (record_at n p) bytes mid rest s.front f.front; within = levels_last s.records (record_at n p) levels s.within low }

pub skips_plain : (n levels : ℕ) (w : WireType) (p : Plain) (bytes rest : List ℕ) → w ≡ plain_wire p → PlainFront p bytes rest → SkipsValue n w levels bytes rest
skips_plain n levels w p bytes rest is f = (Flat p, record { wire = sym is; front = f; within = omega arith })

pub skips_group : (n levels : ℕ) (w : WireType) (bytes : List ℕ) (r : Result (Bor (List ℕ)) DecodeError) → w ≡ wires.StartGroup → IfOk r (λ rest. SkipsGroup n levels bytes rest.now) → IfOk r (λ rest. SkipsValue n w levels bytes rest.now)
skips_group n levels w bytes (Ok rest) is s = (Group (body_of s.0), record { wire = sym is; front = s.1.front; within = s.1.within })
skips_group n levels w bytes (Err e) is s = tt
