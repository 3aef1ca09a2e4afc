-- The premises of laws hold at worked examples.
use Rattle.std.proofs.Common.{◌≡◌, ℕ, ◌+◌, ◌*◌, ◌<◌, pos, Bool, true, false, cond, [], ◌∷◌, Option, Some, None, option_and_then, refl, sym, ◌∙◌, ap, subst, inl, arith, lit<}
use Rattle.std.specs.Prelude.{String, string_bytes, option_map, unwrap_or}
use Rattle.std.specs.declared.alloc.Global.{Global}
use Rattle.std.specs.List.Sorted.{IsStrictlySortedBy}
use Rattle.std.specs.Ordering.{nat_cmp, is_eq}
use Rattle.prost_reflect_wire.specs.Record.{Key, wire_code}
use Rattle.prost_reflect_wire.specs.Scalar.{Text}
use Rattle.prost_reflect_wire.specs.Content.{Slot, ScalarValue, entries_of, slot_at, value_ordered}
use Rattle.prost_reflect_wire.specs.Front.{RecordFront}
use Rattle.prost_reflect_wire.specs.Fault.{StandsInField}
use Rattle.prost_reflect_wire.specs.declared.key.WireType.{WireType}
use Rattle.prost_reflect_wire.specs.declared.key.WireType.TheVariants as wires
use Rattle.prost_reflect_wire.specs.declared.error.DecodeError.TheVariants as errors
use Rattle.prost_reflect_maps.specs.Items.{IsAscending}
use Rattle.prost_reflect_fields.specs.FieldSlots.{value_in, records_in, stored_at}
use Rattle.prost_reflect_fields.specs.declared.slot.FieldSlot.{FieldSlot}
use Rattle.prost_reflect_fields.specs.declared.slot.FieldSlot.TheVariants as slots
use Rattle.prost_reflect_dynamic.specs.View.{value_of, content_of, payloads_of, stored_in}
use Rattle.prost_reflect_pool.specs.declared.pooled_type.PooledType.{PooledType}
use Rattle.prost_reflect_dynamic.proofs.Views.{value_views}
use Rattle.prost_reflect_dynamic.proofs.ContentChanges.{message_slots}
use Rattle.prost_reflect.specs.LawInstances.{OfContentLaws, OfKeptLaws, OfDepth, sample_message, empty_group}
use Rattle.prost_reflect_dynamic.specs.declared.value.Value.{Value}
use Rattle.prost_reflect_dynamic.specs.declared.value.Value as values

ascends : (type : PooledType) (text : String Global) → IsAscending (stored_in (sample_message type text))
unfolding IsStrictlySortedBy
ascends type text = ((refl, tt), (tt, tt))

in_order : (type : PooledType) (text : String Global) (k : ℕ) (v : Value) → stored_at (stored_in (sample_message type text)) k ≡ Some v → value_ordered (value_of v) ≡ true
in_order type text k v = go (is_eq (nat_cmp k 1)) (is_eq (nat_cmp k 3))
  where
    go : (b c : Bool) → option_and_then value_in (cond b (Some (slots.Value (values.String text))) (cond c (Some (slots.Value (values.I32 (pos 5)))) None)) ≡ Some v → value_ordered (value_of v) ≡ true
    go true c h = let same : values.String text ≡ v = cc in subst (λ w. value_ordered (value_of w) ≡ true) same (ap value_ordered (value_views.text text))
    go false true h = let same : values.I32 (pos 5) ≡ v = cc in subst (λ w. value_ordered (value_of w) ≡ true) same (ap value_ordered (value_views.i32 (pos 5)))
    go false false h = cc

alike : (type : PooledType) (text other : String Global) → string_bytes text ≡ string_bytes other → (k : ℕ) → slot_at (entries_of (content_of (sample_message type text))) k ≡ slot_at (entries_of (content_of (sample_message type other))) k
alike type text other same k = message_slots (sample_message type text) k (ascends type text) ∙ go (is_eq (nat_cmp k 1)) (is_eq (nat_cmp k 3)) ∙ sym (message_slots (sample_message type other) k (ascends type other))
  where
    stored : String Global → Bool → Bool → Option (FieldSlot Value)
    stored s b c = cond b (Some (slots.Value (values.String s))) (cond c (Some (slots.Value (values.I32 (pos 5)))) None)

    slot : String Global → Bool → Bool → Slot
    slot s b c = record { value = option_map value_of (option_and_then value_in (stored s b c)); unknowns = payloads_of (unwrap_or (option_and_then records_in (stored s b c)) []) }

    go : (b c : Bool) → slot text b c ≡ slot other b c
    go true c = ap (λ v. record { value = Some v; unknowns = [] }) (value_views.text text ∙ ap (λ bytes. ScalarValue (Text bytes)) same ∙ sym (value_views.text other))
    go false true = refl
    go false false = refl

pub of_content_laws : OfContentLaws
of_content_laws = record {
  message_slots = ascends;
  message_order = λ type text. (ascends type text, in_order type text);
  slots_after_set = (_, refl);
  slots_determine = alike;
}

pub of_kept_laws : OfKeptLaws
of_kept_laws = record {
  message_arranged = ascends;
  kept_after_clear = (refl, refl);
  kept_after_set = (refl, (_, refl));
  kept_after_unknown = (refl, refl);
  kept_after_writing = (refl, (_, refl, refl, refl));
}

-- a key of one byte
small_key : (n : ℕ) (w : WireType) → 0 < n → 8 * n + wire_code w < 128 → Key n w ((8 * n + wire_code w) ∷ [])
small_key n w from h = record { from_one = from; below = omega (arith, h); varint = record { below = omega (arith, h); digits = h; few = omega arith; means = omega (arith, h) } }

pub of_depth : OfDepth
of_depth = record { only_too_deep = (front, stands, lit< tt) }
  where
    start : Key 5 wires.StartGroup (0x2b ∷ [])
    start = small_key 5 wires.StartGroup (lit< tt) (lit< tt)

    front : RecordFront empty_group (0x2b ∷ 0x2c ∷ []) []
    front = record { front = 0x2b ∷ 0x2c ∷ []; spelled = (0x2b ∷ [], [], 0x2c ∷ [], [], start, refl, small_key 5 wires.EndGroup (lit< tt) (lit< tt), refl, refl); parts = refl }

    stands : StandsInField 0 errors.Depth (0x2b ∷ 0x2c ∷ [])
    stands = inl (refl, record { number = 5; wire = wires.StartGroup; rest = 0x2c ∷ []; key = record { front = 0x2b ∷ []; key = start; parts = refl }; behind = refl })
