-- Option bytes, and the keys and values of map entries, as the checks take them (descriptor.proto, `FieldOptions.packed` and `MessageOptions.map_entry`; the language guide, "Maps").
use Rattle.std.specs.Prelude.{◌≡◌, pos, negsuc, true, false, [], ◌∷◌, map, Some, None}
use Rattle.prost_reflect_types.specs.declared.FieldDescriptorProto.{FieldDescriptorProto}
use Rattle.prost_reflect_tables.specs.Flat.{DefinitionRow}
use Rattle.prost_reflect_tables.specs.EntryFaults.{is_key_type, is_entry_key, is_entry_value, is_key_and_value}
use Rattle.prost_reflect_tables.specs.OptionFaults.{bytes_suit_option, option_bad}

pub record CheckedOptions : Type 0 where
  pub none : option_bad 7 None ≡ false
  pub no_bytes : bytes_suit_option 7 [] ≡ true
  pub varint : bytes_suit_option 7 (0x38 ∷ 0x01 ∷ []) ≡ true
  -- Of another wire type: eight bytes, a text, a group, four bytes.
  pub eight_bytes : bytes_suit_option 2 (0x11 ∷ 0 ∷ 0 ∷ 0 ∷ 0 ∷ 0 ∷ 0 ∷ 0 ∷ 0 ∷ []) ≡ false
  pub text : bytes_suit_option 2 (0x12 ∷ 0x00 ∷ []) ≡ false
  pub group : bytes_suit_option 2 (0x13 ∷ 0x14 ∷ []) ≡ false
  pub four_bytes : bytes_suit_option 2 (0x15 ∷ 0 ∷ 0 ∷ 0 ∷ 0 ∷ []) ≡ false
  -- Each record of the number counts, the first one too.
  pub first : bytes_suit_option 7 (0x3a ∷ 0x00 ∷ 0x38 ∷ 0x01 ∷ []) ≡ false
  -- Records of another number are passed over, whatever is in them.
  pub others : bytes_suit_option 7 (0x12 ∷ 0x01 ∷ 0x38 ∷ 0x1b ∷ 0x3a ∷ 0x00 ∷ 0x1c ∷ 0x38 ∷ 0x01 ∷ []) ≡ true
  -- No records: a key that is cut, a key of the number 0, an end without its group, a group without its end.
  pub cut : bytes_suit_option 7 (0x38 ∷ []) ≡ false
  pub zero : bytes_suit_option 7 (0x00 ∷ []) ≡ false
  pub ended : bytes_suit_option 7 (0x0c ∷ []) ≡ false
  pub opened : bytes_suit_option 7 (0x0b ∷ []) ≡ false

pub record KeysAndValues : Type 0 where
  -- The types 1 to 18 in order.
  pub keys : map (λ n. is_key_type (Some (pos n)))
      (1 ∷ 2 ∷ 3 ∷ 4 ∷ 5 ∷ 6 ∷ 7 ∷ 8 ∷ 9 ∷ 10 ∷ 11 ∷ 12 ∷ 13 ∷ 14 ∷ 15 ∷ 16 ∷ 17 ∷ 18 ∷ [])
      ≡ false ∷ false ∷ true ∷ true ∷ true ∷ true ∷ true ∷ true ∷ true ∷ false ∷ false ∷ false ∷ true ∷ false ∷ true
      ∷ true
      ∷ true
      ∷ true
      ∷ []
  pub no_types : map is_key_type (None ∷ Some (negsuc 0) ∷ Some (pos 0) ∷ Some (pos 19) ∷ []) ≡ false ∷ false ∷ false ∷ false ∷ []
  pub either_order : (key value : DefinitionRow FieldDescriptorProto) → is_entry_key key ≡ true → is_entry_value value ≡ true →
      (is_key_and_value (key ∷ value ∷ []) ≡ true) × (is_key_and_value (value ∷ key ∷ []) ≡ true)
  pub key_alone : (key : DefinitionRow FieldDescriptorProto) → is_key_and_value (key ∷ []) ≡ false
  pub third : (key value other : DefinitionRow FieldDescriptorProto) → is_key_and_value (key ∷ value ∷ other ∷ []) ≡ false
