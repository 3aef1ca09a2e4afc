-- The statements near the laws on faults and on single fields are refuted.
use Rattle.std.specs.Prelude.{◌≡◌, ◌≢◌, ◌∷◌, ◌<◌, ◌++◌}
use Rattle.prost_reflect_laws.proofs.Common.{ℕ, List, [], length, refl, inl, inr, ap, arith, lit<, lit≤, true, false, true≢false, subst, sym, length-append, is_utf8, chars, encode_utf8, short, Record, Var, Flat, read, wire_code, Schema, MessageOf, Singular, AreOpen, FieldFront, KeyFront, RecordFront, VarintEnds, VarintPasses, NoKey, Accepts, accepts, unpacked, allows, meaning, steps, Place, Comes, Stands, StandsInMessage, Here, Behind, InMessage, InGroup, InUnknown, InEntry, DecodeError, WireType, record_parts, examples, my_message, text_at_one, field, message_value_type, hex, needless}
use Rattle.prost_reflect_laws.specs.Examples.PremisesOfPassage.{first_field}
use Rattle.prost_reflect_laws.specs.Examples.NearbyFaults.{group_bytes, no_value, NotOfFaults, NotOfFields}
use Rattle.prost_reflect_wire.specs.declared.error.DecodeError.TheVariants as errors
use Rattle.prost_reflect_wire.specs.declared.key.WireType.TheVariants as wires
use Rattle.prost_reflect_laws.proofs.Accepted.{accepts_is_test}
use Rattle.prost_reflect_laws.proofs.FaultLaws.{accepted_has_no_fault}
use Rattle.prost_reflect_laws.proofs.Examples.Faults.{faults, one_byte, key, no_zero, first_one}
use Rattle.prost_reflect_laws.proofs.Examples.NearbyReading.{first, first_digit}

group_accepted : Accepts examples 1 my_message group_bytes
unfolding short read unpacked allows meaning steps is_utf8 chars encode_utf8
group_accepted = (accepts_is_test examples 1 my_message group_bytes (lit< tt, (lit< tt, tt))).1 refl

-- 0 is no key
no_key : (rest : List ℕ) → NoKey (0x00 ∷ rest)
no_key rest = record { value = 0; rest = rest; front = record { front = 0x00 ∷ []; varint = one_byte 0 (lit< tt); parts = refl }; none = no_zero }

-- the record of number 3 with the varint 0
third_zero : RecordFront (record { number = 3; payload = Flat (Var 0) }) (0x18 ∷ 0x00 ∷ 0x00 ∷ []) (0x00 ∷ [])
third_zero = record {
  front = 0x18 ∷ 0x00 ∷ [];
  spelled = (0x18 ∷ [], 0x00 ∷ [], [], record { from_one = lit< tt; below = lit< tt; varint = one_byte 24 (lit< tt) }, one_byte 0 (lit< tt), refl, refl);
  parts = refl;
}

no_end : wires.Varint ≡ wires.EndGroup → ⊥
no_end e = let k : ◌≡◌ {A = ℕ} 0 4 = ap wire_code e in omega (arith, k)

ends : errors.Truncated ≢ errors.OutOfMemory
ends e = absurd (true≢false (ap (λ e. elim e [ errors.Truncated ↦ true | _ ↦ false ]) e))

each_stands : (e : DecodeError) → e ≢ errors.OutOfMemory → (T : ℕ) × ((k : ℕ) × ((bytes : List ℕ) × StandsInMessage examples T k e bytes))
each_stands errors.Truncated other = (my_message, (100, (hex "0896", faults.varint_ends)))
each_stands errors.Varint other = (my_message, (100, (hex "08ffffffffffffffffff02", faults.varint_passes)))
each_stands errors.Key other = (my_message, (100, (hex "00", faults.number_zero)))
each_stands errors.WireType other = (my_message, (100, (hex "1800", faults.message_as_varint)))
each_stands errors.EndGroup other = (my_message, (100, (hex "0c", faults.end_alone)))
each_stands errors.Utf8 other = (text_at_one, (100, (hex "0a01ff", faults.bad_text)))
each_stands errors.OutOfMemory other = absurd (other refl)
each_stands errors.Depth other = (my_message, (0, (hex "2b2c", faults.past_last_level)))

-- what begins with a key begins with a byte
key_byte : {n : ℕ} {w : WireType} (bytes rest : List ℕ) → KeyFront n w bytes rest → first bytes < 256
key_byte bytes rest k = subst (λ x. first x < 256) (sym k.parts) (first_digit k.front rest k.key.varint.digits)

no_key_at : {n : ℕ} {w : WireType} (bytes rest : List ℕ) → bytes ≡ no_value → KeyFront n w bytes rest → ⊥
no_key_at bytes rest is k = absurd (omega (arith, key_byte bytes rest k, ap first is))

no_record_at : (r : Record) (bytes rest : List ℕ) → bytes ≡ no_value → RecordFront r bytes rest → ⊥
no_record_at r bytes rest is f = let parts = record_parts r.number r.payload bytes rest f in no_key_at bytes parts.mid is parts.key

no_varint_ends : (bytes : List ℕ) → bytes ≡ no_value → VarintEnds bytes → ⊥
no_varint_ends bytes is v = let open_bytes : AreOpen no_value = subst AreOpen is v.unended in absurd (omega (arith, open_bytes.1.0))

no_varint_passes : (bytes : List ℕ) → bytes ≡ no_value → VarintPasses bytes → ⊥
no_varint_passes bytes is v = absurd (omega (arith, ap length is, ap length v.parts, length-append v.nine (v.tenth ∷ v.rest), v.count))

nothing_comes : (schema : Schema) (e : DecodeError) (place : Place) → place.bytes ≡ no_value → Comes schema e place → ⊥
nothing_comes schema errors.Truncated place is (inl (some, ends)) = no_varint_ends place.bytes is ends
nothing_comes schema errors.Truncated place is (inr (inl (none, opened))) = absurd (omega (arith, ap length is, ap length none))
nothing_comes schema errors.Truncated place is (inr (inr (inl next))) = no_key_at place.bytes next.rest is next.key
nothing_comes schema errors.Truncated place is (inr (inr (inr next))) = no_key_at place.bytes next.rest is next.key
nothing_comes schema errors.Varint place is (inl passes) = no_varint_passes place.bytes is passes
nothing_comes schema errors.Varint place is (inr (inl next)) = no_key_at place.bytes next.rest is next.key
nothing_comes schema errors.Varint place is (inr (inr next)) = no_key_at place.bytes next.rest is next.key
nothing_comes schema errors.Key place is none =
    let small : first (none.front.front ++ none.rest) < 256 = first_digit none.front.front none.rest none.front.varint.digits in
    absurd (omega (arith, small, ap first none.front.parts, ap first is))
nothing_comes schema errors.WireType place is next = no_key_at place.bytes next.rest is next.key
nothing_comes schema errors.EndGroup place is next = no_key_at place.bytes next.rest is next.key
nothing_comes schema errors.Utf8 place is next = no_key_at place.bytes next.rest is next.key
nothing_comes schema errors.OutOfMemory place is c = c
nothing_comes schema errors.Depth place is (none, next) = no_key_at place.bytes next.rest is next.key

nothing_stands : (schema : Schema) {e : DecodeError} {place : Place} → Stands schema e place → place.bytes ≡ no_value → ⊥
nothing_stands schema (Here {e} {place} c) is = nothing_comes schema e place is c
nothing_stands schema (Behind {place} r rest front more) is = no_record_at r place.bytes rest is front
nothing_stands schema (InMessage {place} n T k f body rest after found m kind left key d more) is = no_key_at place.bytes rest is key
nothing_stands schema (InGroup {place} n T k f rest found m kind left key more) is = no_key_at place.bytes rest is key
nothing_stands schema (InUnknown {place} n k rest found left key more) is = no_key_at place.bytes rest is key
nothing_stands schema (InEntry {place} n f key_type body rest after found form level key d more) is = no_key_at place.bytes rest is key

not_accepted : accepts examples 0 my_message no_value ≡ false
unfolding short read unpacked allows meaning steps is_utf8 chars encode_utf8
not_accepted = refl

pub not_of_faults : NotOfFaults
not_of_faults = record {
  accepted_has_no_fault = (group_accepted, faults.past_last_level);
  fault_further = accepted_has_no_fault examples 1 my_message group_bytes (lit< tt, (lit< tt, tt)) group_accepted errors.Depth;
  one_fault = (
    Here (record { number = 3; wire = wires.Varint; field = field 3 Singular (message_value_type (MessageOf 0)); rest = 0x00 ∷ 0x00 ∷ []; key = key 3 wires.Varint (0x00 ∷ 0x00 ∷ []) (lit< tt) (lit< tt); found = refl; behind = (no_end, refl) }),
    Behind (record { number = 3; payload = Flat (Var 0) }) (0x00 ∷ []) third_zero (Here (no_key [])),
  );
  accepted_unless_fault = (not_accepted, λ e stands. nothing_stands examples stands refl);
  never_stands = each_stands;
  only_memory = (λ other. faults.varint_ends, ends);
}

needless_key : FieldFront 0 first_field needless []
needless_key = record {
  front = record {
    front = 0x88 ∷ 0x00 ∷ 0x01 ∷ [];
    spelled = (0x88 ∷ 0x00 ∷ [], 0x01 ∷ [], [], record { from_one = lit< tt; below = lit< tt; varint = record { below = lit< tt; digits = (lit≤ tt, lit< tt, lit< tt); few = lit≤ tt; means = refl } }, one_byte 1 (lit< tt), refl, refl);
    parts = refl;
  };
  within = lit≤ tt;
}

pub not_of_fields : NotOfFields
unfolding short
not_of_fields = record {
  field_unless_fault = ((first_field, (0x00 ∷ [], record { front = first_one (0x00 ∷ []); within = lit≤ tt })), Behind first_field (0x00 ∷ []) (first_one (0x00 ∷ [])) (Here (no_key [])));
  value_unless_fault = ((Flat (Var 1), ([], record { wire = refl; front = record { front = 0x01 ∷ []; spelled = one_byte 1 (lit< tt); parts = refl }; within = lit≤ tt })), inl (no_key (0x01 ∷ [])));
  one_field = (record { front = first_one []; within = lit≤ tt }, needless_key, λ e. absurd (omega (arith, ap length e)));
  field_again = λ e. absurd (omega (arith, ap length e));
}
