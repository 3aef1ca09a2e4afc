-- Files of equal contents have the same written defaults, map entries and options.
use Rattle.std.specs.Prelude.{◌≡◌, ◌&&◌, ◌||◌, ◌∷◌}
use Rattle.prost_reflect_tables.proofs.Common.{ℕ, nat_eq, true, not, List, [], Option, String, Vec, is_some, refl, ap, ◌∙◌, AllZip, list_any, length_all_zip, Global, FieldDescriptorProto, MethodDescriptorProto, SameText, SameBytes, SameExtensionRange, SameField, SameMethod, DefinitionRow, FlatMessageRow, FlatRows, Links, links_of, linked_kind, default_misplaced, default_unread, default_bad, bad_default, float_default_bad, float_default, is_entry, is_entry_key, is_entry_value, is_key_and_value, entry_bad, is_entry_message, names_entry, is_of_entry, wrongly_of_entry, method_of_entry, bad_map_entry}
use Rattle.prost_reflect_tables.specs.OptionFaults.{bytes_suit_option, option_bad, bad_options}
use Rattle.prost_reflect_tables.proofs.SameRows.{zip_any, by_text, by_bytes, SameRow, SameMessageRow, SameServiceRow, SameRows}
use Rattle.prost_reflect_tables.proofs.SameLinked.{place_same, option_same, default_same, links_same}
use Rattle.prost_reflect_tables.proofs.SameChecks.{any_field_same, none_same, named_same}

-- WRITTEN DEFAULTS

some_same : (a b : Option (String Global)) → SameText a b → is_some a ≡ is_some b
some_same = by_text is_some (λ bytes. true) (λ s. refl)

misplaced_same : (d e : DefinitionRow FieldDescriptorProto) → SameRow SameField d e → default_misplaced d ≡ default_misplaced e
misplaced_same d e r =
    let there = some_same d.proto.default_value e.proto.default_value r.proto.default_value in
    let label = r.proto.label in
    let code = r.proto.type_ in
    let proto3 = r.is_proto3 in
    rw (there, label, code, proto3)

unread_same : (links : Links) (d e : DefinitionRow FieldDescriptorProto) → SameRow SameField d e → default_unread links d ≡ default_unread links e
unread_same links d e r =
    let there = some_same d.proto.default_value e.proto.default_value r.proto.default_value in
    let code = r.proto.type_ in
    let message = place_same links.messages d.proto.type_name e.proto.type_name r.proto.type_name in
    let enum = place_same links.enums d.proto.type_name e.proto.type_name r.proto.type_name in
    let value = default_same links (linked_kind links e.proto) d.proto.default_value e.proto.default_value r.proto.default_value in
    rw (there, code, message, enum, value)

pub bad_default_same : (a b : FlatRows) → SameRows a b → bad_default a ≡ bad_default b
unfolding default_bad
bad_default_same a b h = any_field_same (default_bad (links_of a)) (default_bad (links_of b)) each a b h
  where
    each : (d e : DefinitionRow FieldDescriptorProto) → SameRow SameField d e → default_bad (links_of a) d ≡ default_bad (links_of b) e
    each d e r =
        let misplaced = misplaced_same d e r in
        let unread = unread_same (links_of b) d e r in
        let code = r.proto.type_ in
        ap (λ (links : Links). default_bad links d) (links_same a b h) ∙ (rw (misplaced, unread, code))

pub float_default_same : (a b : FlatRows) → SameRows a b → float_default a ≡ float_default b
unfolding float_default_bad
float_default_same a b h = any_field_same (float_default_bad (links_of a)) (float_default_bad (links_of b)) each a b h
  where
    each : (d e : DefinitionRow FieldDescriptorProto) → SameRow SameField d e → float_default_bad (links_of a) d ≡ float_default_bad (links_of b) e
    each d e r =
        let unread = unread_same (links_of b) d e r in
        let code = r.proto.type_ in
        ap (λ (links : Links). float_default_bad links d) (links_same a b h) ∙ (rw (unread, code))

-- MAP ENTRIES

entry_same : (m n : FlatMessageRow) → SameMessageRow m n → is_entry m ≡ is_entry n
entry_same m n r = let option = option_same 7 m.definition.proto.options n.definition.proto.options r.definition.proto.options in rw option

entry_key_same : (d e : DefinitionRow FieldDescriptorProto) → SameRow SameField d e → is_entry_key d ≡ is_entry_key e
entry_key_same d e r =
    let number = r.proto.number in
    let label = r.proto.label in
    let written = none_same d.proto.default_value e.proto.default_value r.proto.default_value in
    let oneof = r.proto.oneof_index in
    let code = r.proto.type_ in
    rw (number, label, written, oneof, code)

entry_value_same : (d e : DefinitionRow FieldDescriptorProto) → SameRow SameField d e → is_entry_value d ≡ is_entry_value e
entry_value_same d e r =
    let number = r.proto.number in
    let label = r.proto.label in
    let written = none_same d.proto.default_value e.proto.default_value r.proto.default_value in
    let oneof = r.proto.oneof_index in
    let code = r.proto.type_ in
    rw (number, label, written, oneof, code)

key_and_value_same : (ds es : List (DefinitionRow FieldDescriptorProto)) → AllZip (SameRow SameField) ds es → is_key_and_value ds ≡ is_key_and_value es
key_and_value_same [] [] h = refl
key_and_value_same (a ∷ []) (c ∷ []) h = refl
key_and_value_same (a ∷ b ∷ []) (c ∷ d ∷ []) h =
    let key = entry_key_same a c h.0 in
    let value = entry_value_same b d h.1.0 in
    let first = entry_value_same a c h.0 in
    let second = entry_key_same b d h.1.0 in
    λ i. (key i && value i) || (first i && second i)
key_and_value_same (a ∷ b ∷ x ∷ ds) (c ∷ d ∷ y ∷ es) h = refl
key_and_value_same [] (c ∷ es) h = absurd h
key_and_value_same (a ∷ ds) [] h = absurd h
key_and_value_same (a ∷ []) (c ∷ d ∷ es) h = absurd h.1
key_and_value_same (a ∷ b ∷ ds) (c ∷ []) h = absurd h.1
key_and_value_same (a ∷ b ∷ []) (c ∷ d ∷ y ∷ es) h = absurd h.1.1
key_and_value_same (a ∷ b ∷ x ∷ ds) (c ∷ d ∷ []) h = absurd h.1.1

entry_bad_same : (m n : FlatMessageRow) → SameMessageRow m n → entry_bad m ≡ entry_bad n
entry_bad_same m n r =
    let entry = entry_same m n r in
    let fields = key_and_value_same m.fields n.fields r.fields in
    let count = length_all_zip SameExtensionRange m.definition.proto.extension_range n.definition.proto.extension_range r.definition.proto.extension_range in
    λ i. entry i && not (fields i && nat_eq (count i) 0)

names_entry_same : (a b : FlatRows) → SameRows a b → (s t : Option (String Global)) → SameText s t → names_entry a s ≡ names_entry b t
names_entry_same = named_same is_entry_message entry_same

of_entry_same : (a b : FlatRows) → SameRows a b → (d e : DefinitionRow FieldDescriptorProto) → SameRow SameField d e → is_of_entry a d ≡ is_of_entry b e
of_entry_same a b h d e r =
    let code = r.proto.type_ in
    let entry = names_entry_same a b h d.proto.type_name e.proto.type_name r.proto.type_name in
    rw (code, entry)

wrongly_of_entry_same : (a b : FlatRows) → SameRows a b → (d e : DefinitionRow FieldDescriptorProto) → SameRow SameField d e → wrongly_of_entry a d ≡ wrongly_of_entry b e
wrongly_of_entry_same a b h d e r =
    let entry = of_entry_same a b h d e r in
    let label = r.proto.label in
    let code = r.proto.type_ in
    rw (entry, label, code)

method_of_entry_same : (a b : FlatRows) → SameRows a b → (m n : DefinitionRow MethodDescriptorProto) → SameRow SameMethod m n → method_of_entry a m ≡ method_of_entry b n
method_of_entry_same a b h m n r =
    let input = names_entry_same a b h m.proto.input_type n.proto.input_type r.proto.input_type in
    let output = names_entry_same a b h m.proto.output_type n.proto.output_type r.proto.output_type in
    λ i. input i || output i

pub bad_map_entry_same : (a b : FlatRows) → SameRows a b → bad_map_entry a ≡ bad_map_entry b
bad_map_entry_same a b h =
    let entries = zip_any SameMessageRow entry_bad entry_bad entry_bad_same a.messages b.messages h.messages in
    let fields = zip_any SameMessageRow (λ m. list_any (wrongly_of_entry a) m.fields) (λ m. list_any (wrongly_of_entry b) m.fields)
    (λ m n r. zip_any (SameRow SameField) (wrongly_of_entry a) (wrongly_of_entry b) (wrongly_of_entry_same a b h) m.fields n.fields r.fields) a.messages b.messages h.messages in
    let extensions = zip_any (SameRow SameField) (is_of_entry a) (is_of_entry b) (of_entry_same a b h) a.extensions b.extensions h.extensions in
    let services = zip_any SameServiceRow (λ s. list_any (method_of_entry a) s.methods) (λ s. list_any (method_of_entry b) s.methods)
    (λ s t r. zip_any (SameRow SameMethod) (method_of_entry a) (method_of_entry b) (method_of_entry_same a b h) s.methods t.methods r.methods) a.services b.services h.services in
    λ i. entries i || fields i || extensions i || services i

-- OPTIONS

option_bad_same : (number : ℕ) (a b : Option (Vec ℕ Global)) → SameBytes a b → option_bad number a ≡ option_bad number b
option_bad_same number = by_bytes (option_bad number) (λ bytes. not (bytes_suit_option number bytes)) (λ v. refl)

pub bad_options_same : (a b : FlatRows) → SameRows a b → bad_options a ≡ bad_options b
bad_options_same a b h =
    let messages = zip_any SameMessageRow (λ m. option_bad 7 m.definition.proto.options) (λ m. option_bad 7 m.definition.proto.options)
    (λ m n r. option_bad_same 7 m.definition.proto.options n.definition.proto.options r.definition.proto.options) a.messages b.messages h.messages in
    let fields = any_field_same (λ d. option_bad 2 d.proto.options) (λ d. option_bad 2 d.proto.options) (λ d e r. option_bad_same 2 d.proto.options e.proto.options r.proto.options) a b h in
    λ i. messages i || fields i
