-- Members of oneofs, and the keys and values of map entries, are fields of their message type, and none of them is an extension.
use Rattle.std.specs.Prelude.{◌≡◌, ◌+◌, ◌≤◌, ◌&&◌, ◌||◌, ◌∷◌, ◌++◌}
use Rattle.prost_reflect_tables.proofs.Common.{ℕ, zero, suc, Bool, true, false, not, List, [], length, map, filter, nat_lt, Some, refl, sym, ap, ◌∙◌, arith, slice_get, list_all, and_from, lt-ltb, le-ltb, list_all-map, FieldDescriptorProto, FileDescriptorProto, OneofDescriptorProto, FieldRow, OneofRow, MessageRow, TableRows, fields_at, fields_or_none, is_declared_at, is_linked, ascending_from, is_entry, DefinitionRow, FlatMessageRow, FlatRows, flattened, Checked, Links, links_of, natural_or_zero, belonging, extended_place, linked_field, declared_fields, fields_of_message, linked_message, in_order, oneof_place, member_place, oneofs_from, linked_rows, AreTablesOf}
use Rattle.prost_reflect_tables.specs.Places.{is_declared}
use Rattle.prost_reflect_tables.proofs.Ascending.{rises, onward, numbers_above}
use Rattle.prost_reflect_tables.proofs.Built.{checked_of, linked_of}
use Rattle.prost_reflect_tables.proofs.CatalogLinks.{HasRow, order_keeps}
use Rattle.prost_reflect_tables.proofs.Keeping.{fields_ascend}
use Rattle.prost_reflect_tables.proofs.Linkwell.Fields.{number_shown, linked_there}
use Rattle.prost_reflect_tables.proofs.Linkwell.Entries.{EntryFields, entry_fields}
use Rattle.prost_reflect_tables.proofs.Linkwell.Premises.{entry_checked, extension_inside}
use Rattle.prost_reflect_tables.proofs.Linkwell.Items.{all_belonging, messages_all}

-- HOW MANY HAVE A SMALLER NUMBER

none_smaller : (low n : ℕ) (fields : List FieldRow) → ascending_from low fields ≡ true → n ≤ low → length (filter (λ (f : FieldRow). nat_lt f.number n) fields) ≡ 0
none_smaller low n [] h le = refl
none_smaller low n (g ∷ fields) h le =
    let here = rises low g fields h in
    rw (le-ltb g.number n (omega arith)) (none_smaller g.number n fields (onward low g fields h) (omega arith))

-- Among ascending numbers a field stands behind as many as have a smaller one.
pub smaller_before : (low n : ℕ) (fields : List FieldRow) (i : ℕ) (f : FieldRow) → ascending_from low fields ≡ true → slice_get fields i ≡ Some f → f.number ≡ n → length (filter (λ (g : FieldRow). nat_lt g.number n) fields) ≡ i
smaller_before low n [] i f h at is = absurd cc
smaller_before low n (g ∷ fields) zero f h at is =
    let same : g ≡ f = cc in
    let here : g.number ≡ n = ap (λ (x : FieldRow). x.number) same ∙ is in
    rw (le-ltb g.number n (omega arith)) (none_smaller g.number n fields (onward low g fields h) (omega arith))
smaller_before low n (g ∷ fields) (suc i) f h at is =
    let above = numbers_above g.number fields i f (onward low g fields h) at in
    rw (lt-ltb g.number n (omega arith)) (ap suc (smaller_before g.number n fields i f (onward low g fields h) at is))

-- MEMBERS

declared_shown : (links : Links) (d : DefinitionRow FieldDescriptorProto) → is_declared (Some (linked_field links false d)) ≡ true
unfolding linked_field
declared_shown links d = refl

module _ (links : Links) (rest : List FieldRow) where
  has_declared : (ds : List (DefinitionRow FieldDescriptorProto)) (i : ℕ) (d : DefinitionRow FieldDescriptorProto) → slice_get ds i ≡ Some d → slice_get (declared_fields links ds ++ rest) i ≡ Some (linked_field links false d)
  has_declared [] i d at = absurd cc
  has_declared (x ∷ ds) zero d at = let same : x ≡ d = cc in ap (λ (y : DefinitionRow FieldDescriptorProto). Some (linked_field links false y)) same
  has_declared (x ∷ ds) (suc i) d at = has_declared ds i d at

  member_declared : (ds : List (DefinitionRow FieldDescriptorProto)) (i : ℕ) (d : DefinitionRow FieldDescriptorProto) → ascending_from 0 (in_order (declared_fields links ds ++ rest)) ≡ true → slice_get ds i ≡ Some d →
      is_declared_at (in_order (declared_fields links ds ++ rest)) (member_place (in_order (declared_fields links ds ++ rest)) d) ≡ true
  member_declared ds i d ascends at =
      let fields = in_order (declared_fields links ds ++ rest) in
      let has : HasRow fields (linked_field links false d) = order_keeps (declared_fields links ds ++ rest) (linked_field links false d) i (has_declared ds i d at) in
      let place : member_place fields d ≡ has.0 = smaller_before 0 (natural_or_zero d.proto.number) fields has.0 (linked_field links false d) ascends has.1 (number_shown links false d) in
      ap (is_declared_at fields) place ∙ (ap is_declared has.1 ∙ declared_shown links d)

  oneofs_declared : (ds : List (DefinitionRow FieldDescriptorProto)) (o : ℕ) (os : List (DefinitionRow OneofDescriptorProto)) → ascending_from 0 (in_order (declared_fields links ds ++ rest)) ≡ true →
      list_all (λ (r : OneofRow). list_all (is_declared_at (in_order (declared_fields links ds ++ rest))) r.fields) (oneofs_from (in_order (declared_fields links ds ++ rest)) ds o os) ≡ true
  oneofs_declared ds o [] ascends = refl
  oneofs_declared ds o (x ∷ os) ascends =
      let fields = in_order (declared_fields links ds ++ rest) in
      let here : list_all (is_declared_at fields) (map (member_place fields) (belonging oneof_place ds o)) ≡ true =
      list_all-map (is_declared_at fields) (member_place fields) (belonging oneof_place ds o)
      ∙ all_belonging oneof_place o (λ (d : DefinitionRow FieldDescriptorProto). is_declared_at fields (member_place fields d)) ds (λ i d at is. member_declared ds i d ascends at) in
      rw here (oneofs_declared ds (o + 1) os ascends)

-- MESSAGE TYPES

-- Members of each oneof are fields of the message type, and no extensions.
abbrev pub members_declared : MessageRow → Bool
members_declared m = list_all (λ (o : OneofRow). list_all (is_declared_at m.fields) o.fields) m.oneofs

message_declared : (links : Links) (rest : List FieldRow) (m : FlatMessageRow) → ascending_from 0 (linked_message (declared_fields links m.fields ++ rest) m).fields ≡ true → members_declared (linked_message (declared_fields links m.fields ++ rest) m) ≡ true
unfolding linked_message
message_declared links rest m ascends = oneofs_declared links rest m.fields 0 m.oneofs ascends

rows_declared : (flat : FlatRows) → is_linked (linked_rows flat) ≡ true → list_all members_declared (linked_rows flat).messages ≡ true
rows_declared flat linked =
    let links = links_of flat in
    messages_all members_declared links flat.extensions 0 flat.messages (λ T m at.
    let rest = map (linked_field links true) (belonging (extended_place links) flat.extensions (0 + T)) in
    let row = linked_message (fields_of_message links flat.extensions (0 + T) m) m in
    let shown : fields_at (linked_rows flat) T ≡ row.fields = ap fields_or_none (linked_there flat T m at) in
    message_declared links rest m (ap (ascending_from 0) (sym shown) ∙ fields_ascend (linked_rows flat) T linked))

-- An entry's key and its value are fields.
abbrev pub entry_declared : MessageRow → Bool
entry_declared m = not m.is_map_entry || (is_declared_at m.fields 0 && is_declared_at m.fields 1)

key_and_value : {files : List FileDescriptorProto} (flat : FlatRows) (T : ℕ) (m : FlatMessageRow) → Checked files flat → slice_get flat.messages T ≡ Some m → entry_declared (linked_message (fields_of_message (links_of flat) flat.extensions (0 + T) m) m) ≡ true
unfolding linked_message
key_and_value flat T m checked at = go (is_entry m) refl
  where
    go : (b : Bool) → is_entry m ≡ b → (not b || (is_declared_at (in_order (fields_of_message (links_of flat) flat.extensions (0 + T) m)) 0 && is_declared_at (in_order (fields_of_message (links_of flat) flat.extensions (0 + T) m)) 1)) ≡ true
    go true is =
        let e : EntryFields flat T m = entry_fields flat T m at (entry_checked flat T m checked at) is (λ i d there. extension_inside flat i d checked there) in
        ap (λ (l : List FieldRow). is_declared_at l 0 && is_declared_at l 1) e.shown ∙ and_from (is_declared (Some (linked_field (links_of flat) false e.key))) (is_declared (Some (linked_field (links_of flat) false e.value))) (declared_shown (links_of flat) e.key) (declared_shown (links_of flat) e.value)
    go false is = refl

-- FILES

of_files : (test : MessageRow → Bool) (files : List FileDescriptorProto) (rows : TableRows) → AreTablesOf files rows → list_all test (linked_rows (flattened files)).messages ≡ true → list_all test rows.messages ≡ true
of_files test files rows built holds = ap (λ (r : TableRows). list_all test r.messages) (linked_of files rows built) ∙ holds

pub oneof_members : (files : List FileDescriptorProto) (rows : TableRows) → AreTablesOf files rows → is_linked rows ≡ true → list_all members_declared rows.messages ≡ true
oneof_members files rows built linked = of_files members_declared files rows built (rows_declared (flattened files) (ap is_linked (sym (linked_of files rows built)) ∙ linked))

pub entry_fields_declared : (files : List FileDescriptorProto) (rows : TableRows) → AreTablesOf files rows → list_all entry_declared rows.messages ≡ true
entry_fields_declared files rows built =
    let flat = flattened files in
    of_files entry_declared files rows built (messages_all entry_declared (links_of flat) flat.extensions 0 flat.messages (λ T m at. key_and_value flat T m (checked_of files rows built) at))
