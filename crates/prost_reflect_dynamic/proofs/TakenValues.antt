-- The content that is left where the values of all fields, or of all extensions, were taken.
use Rattle.std.specs.Prelude.{◌≡◌, ◌∷◌}
use Rattle.prost_reflect_dynamic.proofs.Common.{ℕ, Bool, true, false, cond, List, [], Some, refl, ap, sym, ◌∙◌, Payload, ContentOf, Entries, store, then_unknowns, records_of, schema_at, type_at, PooledType, left_in, then_slot, without_values, known_of, is_listed, FieldSlot, entries_without, values_taken, value_of, content_of, slot_of, entries_from, payloads_of, DynamicMessage, Value, roll-DynamicMessage}
use Rattle.prost_reflect_wire.specs.Content as contents
use Rattle.prost_reflect_fields.specs.declared.slot.FieldSlot.TheVariants as entries
use Rattle.prost_reflect_dynamic.proofs.Views.{shown, shown_entry, content_of_message, content_of_roll}
use Rattle.prost_reflect_dynamic.proofs.Stored.{content_from}

module _ (test : ℕ → Bool) where
  unknowns_stay : (n : ℕ) (ps : List Payload) (es : Entries) → entries_without test (then_unknowns n ps es) ≡ then_unknowns n ps (entries_without test es)
  unknowns_stay n [] es = refl
  unknowns_stay n (p ∷ ps) es = ap (contents.Unknown n p) (unknowns_stay n ps es)

  -- one slot, by the test of its number
  slot_left : (n : ℕ) (e : FieldSlot Value) (b : Bool) (rest : List (ℕ × FieldSlot Value)) (es : Entries) → test n ≡ b → entries_from (shown rest) ≡ entries_without test es
      → entries_from (shown (then_slot n (cond b (left_in e) (Some e)) rest)) ≡ entries_without test (store n (slot_of (λ v. v) (shown_entry e)) es)
  slot_left n (entries.Value v) true rest es is h = h ∙ ap (λ b. cond b (entries_without test es) (contents.Stored n (value_of v) (entries_without test es))) (sym is)
  slot_left n (entries.Value v) false rest es is h = ap (contents.Stored n (value_of v)) h ∙ ap (λ b. cond b (entries_without test es) (contents.Stored n (value_of v) (entries_without test es))) (sym is)
  slot_left n (entries.Unknown u) true rest es is h = ap (then_unknowns n (payloads_of (records_of u))) h ∙ sym (unknowns_stay n (payloads_of (records_of u)) es)
  slot_left n (entries.Unknown u) false rest es is h = ap (then_unknowns n (payloads_of (records_of u))) h ∙ sym (unknowns_stay n (payloads_of (records_of u)) es)
  slot_left n (entries.Both v u) true rest es is h =
      ap (then_unknowns n (payloads_of (records_of u))) h ∙ sym (unknowns_stay n (payloads_of (records_of u)) es)
      ∙ ap (λ b. cond b (entries_without test (then_unknowns n (payloads_of (records_of u)) es)) (contents.Stored n (value_of v) (entries_without test (then_unknowns n (payloads_of (records_of u)) es)))) (sym is)
  slot_left n (entries.Both v u) false rest es is h =
      ap (contents.Stored n (value_of v)) (ap (then_unknowns n (payloads_of (records_of u))) h ∙ sym (unknowns_stay n (payloads_of (records_of u)) es))
      ∙ ap (λ b. cond b (entries_without test (then_unknowns n (payloads_of (records_of u)) es)) (contents.Stored n (value_of v) (entries_without test (then_unknowns n (payloads_of (records_of u)) es)))) (sym is)

  entries_left : (es : List (ℕ × FieldSlot Value)) → entries_from (shown (without_values test es)) ≡ entries_without test (entries_from (shown es))
  entries_left [] = refl
  entries_left (e ∷ es) = slot_left e.0 e.1 (test e.0) (without_values test es) (entries_from (shown es)) refl (entries_left es)

-- what is left of a message
pub message_taken : (m : DynamicMessage) (p : PooledType × List (ℕ × FieldSlot Value)) (x : Bool) → p ≡ (m.fields.0, without_values (is_listed x (known_of m.fields.0)) m.fields.1)
    → content_of (roll-DynamicMessage (record { fields = p })) ≡ values_taken x (content_of m)
message_taken m p x h =
    content_of_roll (record { fields = p }) ∙ ap (λ (q : PooledType × List (ℕ × FieldSlot Value)). content_from q.0 q.1) h
    ∙ ap (ContentOf (schema_at m.fields.0) (type_at m.fields.0)) (entries_left (is_listed x (known_of m.fields.0)) m.fields.1)
    ∙ ap (values_taken x) (sym (content_of_message m))
