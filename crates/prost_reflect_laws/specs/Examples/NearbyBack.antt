-- Statements near the laws on reading back that do not hold, each refuted by a worked example.
use Rattle.std.specs.Prelude.{◌≡◌, ◌∷◌}
use Rattle.prost_reflect_laws.specs.Common.{true, false, [], Field, known, Content, Entries, NoEntries, Stored, ScalarValue, ListValue, MapValue, NoValues, Pairs, NoPairs, Pair, MessageValue, entries_ordered, pairs_ordered, meaning, is_default_of, records, is_whole_stray}
use Rattle.prost_reflect_laws.specs.Laws.{ValueBack, UnknownBack, EntriesBack, PairsBack}
use Rattle.prost_reflect_laws.specs.Examples.Schemas.{examples, list, text, int32, closed_enum, my_message, unpacked_list, maps, closed}
use Rattle.prost_reflect_laws.specs.Examples.Words.{content, int, ascii, list_of, delimited}
use Rattle.prost_reflect_laws.specs.Examples.ReadBack.{IsBack, foo, nested_field, unpacked_field, map_field}

abbrev pub zero_inside : Content
zero_inside = content my_message (Stored 1 (int 0) NoEntries)

-- A list that is packed though its elements are texts, which no check passes.
abbrev pub packed_texts : Field
packed_texts = list 1 true (text false)

abbrev pub descending_pairs : Pairs
descending_pairs = Pair (ascii "a") (int 1) (Pair (ascii "") (int 1) NoPairs)

abbrev pub descending_entries : Entries
descending_entries = Stored 2 (int 66) (Stored 1 (int 5) NoEntries)

pub record NotOfReadingBack : Type 0 where
  -- A default without presence is not read back.
  pub scalar_back : (is_default_of (int32 false) (int 0) ≡ true) × (IsBack my_message foo (int 0) → ⊥)
  -- Nor is a message whose records do not mean it, as one that stores a default.
  pub message_back : (meaning examples 1 my_message (records zero_inside) ≡ zero_inside → ⊥)
      × (IsBack my_message nested_field (MessageValue zero_inside) → ⊥)
  -- Nor is an empty list,
  pub list_back : IsBack unpacked_list unpacked_field (ListValue NoValues) → ⊥
  -- a list whose element is not, here of another kind,
  pub element_back : IsBack unpacked_list unpacked_field (list_of (ScalarValue (ascii "a") ∷ [])) → ⊥
  -- or texts in one packed record.
  pub packed_back : ValueBack (meaning examples 1) (packed_texts ∷ []) 1 packed_texts (list_of (ScalarValue (ascii "a") ∷ [])) → ⊥
  -- Nor is a map in descending keys, though each entry is.
  pub map_back : PairsBack (meaning examples 1) (text false) (int32 false) descending_pairs
      × (pairs_ordered descending_pairs ≡ false)
      × (IsBack maps map_field (MapValue descending_pairs) → ⊥)
  -- A packed record of an undeclared number does not stay whole.
  pub stray_back : (is_whole_stray (list 2 true closed_enum).form closed_enum (delimited "07") ≡ false) × (UnknownBack (known examples closed) 2 (delimited "07") → ⊥)
  -- Descending numbers are not meant, though each value is read back.
  pub entries_mean : EntriesBack (meaning examples 0) (known examples my_message) descending_entries
      × (entries_ordered descending_entries ≡ false)
      × (meaning examples 1 my_message (records (content my_message descending_entries))
      ≡ content my_message descending_entries
      → ⊥)
