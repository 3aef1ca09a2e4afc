-- Laws of the views, and of what the operations of the field set make of a content at each number.
use Rattle.std.specs.Prelude.{◌≡◌, ℕ, ℤ, Bool, true, nat_eq, if◌then◌else◌, List, [], map, Some, None, Vec, String, string_bytes, option_map, unwrap_or}
use Rattle.std.specs.BTreeMap.{BTreeMap, insert_entry}
use Rattle.std.specs.declared.cmp.Ordering.{Ordering}
use Rattle.std.specs.declared.alloc.Global.{Global}
use Rattle.prost_reflect_wire.specs.Record.{Record}
use Rattle.prost_reflect_wire.specs.Scalar as scalars
use Rattle.prost_reflect_wire.specs.Schema.{Field, known, field_of, is_sibling}
use Rattle.prost_reflect_wire.specs.Content as contents
use Rattle.prost_reflect_wire.specs.Content.{Content, Slot, Pairs, ScalarValue, MessageValue, ListValue, MapValue, schema_of, type_of, entries_of, values_from, slot_at, comes_before, entries_ordered, value_ordered}
use Rattle.prost_reflect_wire.specs.Edit.{with_value}
use Rattle.prost_reflect_wire.specs.Meaning.{put}
use Rattle.prost_reflect_dynamic.specs.contracts.value.MapKeyOrd.TheImpl as key_order
use Rattle.prost_reflect_maps.specs.Items.{IsAscending}
use Rattle.prost_reflect_fields.specs.FieldSlots.{stored_at, records_at}
use Rattle.prost_reflect_dynamic.specs.View.{value_of, content_of, key_of, payloads_of, pairs_from, stored_in}
use Rattle.prost_reflect_dynamic.specs.Contents.{value_set, value_cleared, unknown_added, with_unknown}
use Rattle.prost_reflect_dynamic.specs.declared.value.MapKey.{MapKey}
use Rattle.prost_reflect_dynamic.specs.declared.value.Value.{Value}
use Rattle.prost_reflect_dynamic.specs.declared.value.Value as values
use Rattle.prost_reflect_dynamic.specs.declared.message.DynamicMessage.{DynamicMessage}

-- What each variant is in the definitions.
pub record ValueViews : Type 0 where
  pub bool : (b : Bool) → value_of (values.Bool b) ≡ ScalarValue (scalars.Boolean b)
  pub i32 : (z : ℤ) → value_of (values.I32 z) ≡ ScalarValue (scalars.I32 z)
  pub i64 : (z : ℤ) → value_of (values.I64 z) ≡ ScalarValue (scalars.I64 z)
  pub u32 : (n : ℕ) → value_of (values.U32 n) ≡ ScalarValue (scalars.U32 n)
  pub u64 : (n : ℕ) → value_of (values.U64 n) ≡ ScalarValue (scalars.U64 n)
  pub f32 : (n : ℕ) → value_of (values.F32 n) ≡ ScalarValue (scalars.F32 n)
  pub f64 : (n : ℕ) → value_of (values.F64 n) ≡ ScalarValue (scalars.F64 n)
  pub text : (s : String Global) → value_of (values.String s) ≡ ScalarValue (scalars.Text (string_bytes s))
  pub bytes : (bs : Vec ℕ Global) → value_of (values.Bytes bs) ≡ ScalarValue (scalars.Bytes bs.items)
  pub enum_number : (z : ℤ) → value_of (values.EnumNumber z) ≡ ScalarValue (scalars.EnumNumber z)
  pub message : (m : DynamicMessage) → value_of (values.Message m) ≡ MessageValue (content_of m)
  pub list : (vs : Vec Value Global) → value_of (values.List vs) ≡ ListValue (values_from (map value_of vs.items))
  pub pairs : (m : BTreeMap MapKey Value)
      → value_of (values.Map m) ≡ MapValue (pairs_from (map (λ (e : MapKey × Value). (e.0, value_of e.1)) m.entries))

-- A message has at a number what it stores there.
abbrev pub MessageSlots : Type 0
MessageSlots = (m : DynamicMessage) (k : ℕ) → IsAscending (stored_in m)
    → slot_at (entries_of (content_of m)) k
    ≡ record { value = option_map value_of (stored_at (stored_in m) k); unknowns = payloads_of (unwrap_or (records_at (stored_in m) k) []) }

-- The numbers of a message ascend, and what it has is in order where its values are.
abbrev pub MessageOrder : Type 0
MessageOrder = (m : DynamicMessage) → IsAscending (stored_in m)
    → ((k : ℕ) (v : Value) → stored_at (stored_in m) k ≡ Some v → value_ordered (value_of v) ≡ true)
    → entries_ordered (entries_of (content_of m)) ≡ true

-- At each number after a set, a clearing, and an unknown record.
abbrev pub SlotsAfterSet : Type 0
SlotsAfterSet = (c : Content) (n : ℕ) (v : contents.Value) (f : Field) → field_of (known (schema_of c) (type_of c)) n ≡ Some f → (k : ℕ)
    → slot_at (entries_of (value_set n v c)) k
    ≡ (if nat_eq k n then with_value (Some v) (slot_at (entries_of c) k) else if is_sibling (known (schema_of c) (type_of c)) f k then with_value None (slot_at (entries_of c) k) else slot_at (entries_of c) k)

abbrev pub SlotsAfterClear : Type 0
SlotsAfterClear = (c : Content) (n k : ℕ) → slot_at (entries_of (value_cleared n c)) k ≡ (if nat_eq k n then with_value None (slot_at (entries_of c) k) else slot_at (entries_of c) k)

abbrev pub SlotsAfterUnknown : Type 0
SlotsAfterUnknown = (c : Content) (r : Record) (k : ℕ) → slot_at (entries_of (unknown_added r c)) k ≡ (if nat_eq k r.number then with_unknown r.payload (slot_at (entries_of c) k) else slot_at (entries_of c) k)

-- Equal slots at every number are equal contents of messages of one type.
abbrev pub SlotsDetermine : Type 0
SlotsDetermine = (a b : DynamicMessage) → IsAscending (stored_in a) → IsAscending (stored_in b)
    → schema_of (content_of a) ≡ schema_of (content_of b)
    → type_of (content_of a) ≡ type_of (content_of b)
    → ((k : ℕ) → slot_at (entries_of (content_of a)) k ≡ slot_at (entries_of (content_of b)) k)
    → content_of a ≡ content_of b

-- The pairs that a map's entries are.
abbrev pub pairs_shown : List (MapKey × Value) → Pairs
pairs_shown es = pairs_from (map (λ (e : MapKey × Value). (e.0, value_of e.1)) es)

abbrev pub compare_keys : MapKey → MapKey → Ordering
compare_keys = (key_order.ghosts).cmp

-- An entry put into a map is put among its pairs.
abbrev pub MapInsert : Type 0
MapInsert = (es : List (MapKey × Value)) (k : MapKey) (v : Value)
    → pairs_shown (insert_entry compare_keys es k v) ≡ put (key_of k) (value_of v) (pairs_shown es)
