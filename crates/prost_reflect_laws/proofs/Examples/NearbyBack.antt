-- The statements near the laws on reading back are refuted.
use Rattle.std.specs.Prelude.{◌≡◌, ◌∷◌}
use Rattle.prost_reflect_laws.proofs.Common.{ℕ, true, List, [], map, flat_map, length, Option, Some, refl, sym, ap, ◌∙◌, arith, true≢false, is_utf8, chars, encode_utf8, is_some, short, record_at, read, Field, Entries, NoEntries, Stored, Unknown, Value, ScalarValue, MessageValue, ListValue, MapValue, Pair, Item, entries_of, value_at, Text, payloads, value_records, is_len, unpacked, allows, MeansInside, field_value, meaning, steps, field_payloads, encoded, ValueBack, varint}
use Rattle.prost_reflect_laws.specs.Examples.NearbyBack.{NotOfReadingBack}
use Rattle.prost_reflect_laws.proofs.ByNumber.{block_payloads}

-- the records of a value that is read back mean it
means_it : (inner : MeansInside) (fields : List Field) (n : ℕ) (f : Field) (v : Value) → ValueBack inner fields n f v →
    field_value inner f.form f.value_type (payloads (flat_map (value_records fields) (map (record_at n) (field_payloads (Some f) v)))) ≡ Some v
means_it inner fields n f v b = ap (λ rs. field_value inner f.form f.value_type (payloads rs)) b.read ∙ ap (field_value inner f.form f.value_type) (block_payloads n b.sources) ∙ b.value

-- what tells values apart
abbrev number_of_stored : Option Value → ℕ
number_of_stored (Some (MessageValue c)) = length (encoded c)
number_of_stored (Some (ListValue (Item (ScalarValue (Text bytes)) vs))) = length bytes
number_of_stored o = 0

abbrev first_key : Option Value → ℕ
first_key (Some (MapValue (Pair (Text bytes) v ps))) = length bytes
first_key o = 0

abbrev first_number : Entries → ℕ
first_number NoEntries = 0
first_number (Stored n v es) = n
first_number (Unknown n p es) = n

pub not_of_reading_back : NotOfReadingBack
unfolding short read unpacked allows meaning steps is_utf8 chars encode_utf8
not_of_reading_back = record {
  scalar_back = (refl, λ b. absurd (true≢false (sym (ap is_some (means_it _ _ _ _ _ b)))));
  message_back = (λ e. absurd (true≢false (sym (ap (λ c. is_some (value_at 1 (entries_of c))) e))), λ b. absurd (omega (arith, ap number_of_stored (means_it _ _ _ _ _ b))));
  list_back = λ b. absurd (true≢false (sym (ap is_some (means_it _ _ _ _ _ b))));
  element_back = λ b. absurd (true≢false (sym (ap is_some (means_it _ _ _ _ _ b))));
  packed_back = λ b. absurd (omega (arith, ap number_of_stored (means_it _ _ _ _ _ b)));
  map_back = ((record { stays = refl; key_read = refl; value_read = refl }, (record { stays = refl; key_read = refl; value_read = refl }, tt)), refl, λ b. absurd (omega (arith, ap first_key (means_it _ _ _ _ _ b))));
  stray_back = (refl, λ b. absurd (true≢false (sym (ap (λ ps. elim ps [ [] ↦ true | p ∷ qs ↦ is_len p ]) b.stays))));
  entries_mean = (
    (
      _,
      refl,
      record { sources = varint 66 ∷ []; read = refl; strays = refl; value = refl },
      refl,
      (_, refl, record { sources = varint 5 ∷ []; read = refl; strays = refl; value = refl }, refl, tt),
    ),
    refl,
    λ e. absurd (omega (arith, ap (λ c. first_number (entries_of c)) e)),
  );
}
