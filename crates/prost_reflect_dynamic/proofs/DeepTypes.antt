-- The types of the messages inside a message: what the tables say of them, and what follows for its content.
use Rattle.std.specs.Prelude.{◌≡◌, ◌&&◌, ◌∷◌, ◌⊎◌}
use Rattle.prost_reflect_dynamic.proofs.Common.{ℕ, Bool, true, false, nat_eq, List, [], inl, inr, Option, Some, None, refl, sym, ap, ◌∙◌, subst, true≢false, and_parts, BTreeMap, option_and_then, Payload, items, Content, Entries, then_unknowns, Kind, ScalarOf, MessageOf, GroupOf, ValueType, FieldForm, Field, Schema, known, field_of, passes, Typed, EntriesTyped, ValueTyped, ValuesTyped, PairsTyped, IsOf, is_of_type, kind_for, own_kind, Cardinality, TableKind, rows_eq, rows_decide, is_linked, FieldRow, EnumRow, MessageRow, TableRows, schema_kind, value_type_of, form_of, schema_field, schema_from, map_parts, contents_eq, pool_rows, pool_contents, PooledType, rows_follow, known_of, FieldSlot, DynamicMessage, MapKey, Value, Value-F, roll-Value, fold-roll-Value, ind-Value, kind_place, stored_kind, place_for, stands_there, all_typed, entries_typed, value_typed, items_typed, pairs_typed, content_of, message_type_of, stored_in, payloads_of}
use denote.Hole.Carrier as Carrier
use Rattle.prost_reflect_wire.specs.Content as contents
use Rattle.prost_reflect_tables.specs.declared.tables.Cardinality.TheVariants.{Optional, Required, Repeated as RepeatedLabel}
use Rattle.prost_reflect_tables.specs.declared.tables.TableKind.TheVariants as kinds
use Rattle.prost_reflect_fields.specs.declared.slot.FieldSlot.TheVariants as slots
use Rattle.prost_reflect_dynamic.specs.declared.value.Value as values
use Rattle.prost_reflect_rows.specs.RowKinds.{place_named}
use Rattle.prost_reflect_dynamic.specs.Stored.{StoredMessage, MessageOf as StoredOf, StoredEntries, NothingStored, ValueAt, UnknownAt, BothAt, StoredValue, StoredScalar, StoredInside, StoredList, StoredMap, StoredItems, NoItems, ItemThen, StoredPairs, NoPairs, PairThen, stored_entry, stored_entries, stored_step, stored_message_step, value_stored, message_stored}
use Rattle.prost_reflect_rows.proofs.MapRows.{shown_map}
use Rattle.prost_reflect_rows.proofs.RowKinds.{no_map}
use Rattle.prost_reflect_dynamic.proofs.StoredContents.{content_from, entries_content, value_content, items_content, pairs_content, message_follows}
use Rattle.prost_reflect_dynamic.proofs.StoredViews.{stored_message}

-- A MESSAGE

pub typed_message : (m : DynamicMessage) → entries_typed (pool_contents (message_type_of m).pool) (pool_rows (message_type_of m).pool) (known_of (message_type_of m)) (stored_entries value_stored (stored_in m)) ≡ all_typed (message_stored m)
typed_message m = sym (ap all_typed (stored_message m))

-- The messages in a slot are of the type of its number's field.
abbrev pub slot_typed : PooledType → ℕ → FieldSlot Value → Bool
slot_typed d n (slots.Value v) = value_typed (pool_contents d.pool) (pool_rows d.pool) (place_for (field_of (known_of d) n) (value_stored v)) (value_stored v)
slot_typed d n (slots.Unknown u) = true
slot_typed d n (slots.Both v u) = value_typed (pool_contents d.pool) (pool_rows d.pool) (place_for (field_of (known_of d) n) (value_stored v)) (value_stored v)

abbrev left_typed : PooledType → StoredEntries → Bool
left_typed d es = entries_typed (pool_contents d.pool) (pool_rows d.pool) (known_of d) es

slot_first : (d : PooledType) (n : ℕ) (e : FieldSlot Value) (es : StoredEntries) → slot_typed d n e ≡ true → left_typed d (stored_entry value_stored n e es) ≡ left_typed d es
slot_first d n (slots.Value v) es typed = ap (λ b. b && left_typed d es) typed
slot_first d n (slots.Unknown u) es typed = refl
slot_first d n (slots.Both v u) es typed = ap (λ b. b && left_typed d es) typed

-- such a slot may be left out
pub slot_passed : (d : PooledType) (es more : List (ℕ × FieldSlot Value)) (e : ℕ × FieldSlot Value) (b : Bool) → es ≡ e ∷ more → slot_typed d e.0 e.1 ≡ true → left_typed d (stored_entries value_stored es) ≡ b → left_typed d (stored_entries value_stored more) ≡ b
slot_passed d es more e b first typed whole =
    sym (slot_first d e.0 e.1 (stored_entries value_stored more) typed) ∙ sym (ap (λ (l : List (ℕ × FieldSlot Value)). left_typed d (stored_entries value_stored l)) first) ∙ whole

-- whether it stands at a place is a matter of its place and of what its pool's files hold
pub stands_is : (d : PooledType) (place : Option ℕ) (m : DynamicMessage) → (passes place (nat_eq (message_type_of m).index) && contents_eq (pool_contents d.pool) (pool_contents (message_type_of m).pool)) ≡ stands_there (pool_contents d.pool) (pool_rows d.pool) place (message_stored m)
stands_is d place m =
    ap (λ b. passes place (nat_eq (message_type_of m).index) && b) (rows_follow d.pool (message_type_of m).pool)
    ∙ sym (ap (stands_there (pool_contents d.pool) (pool_rows d.pool) place) (stored_message m))

-- PLACES

named_place : (enums : List EnumRow) (kind : TableKind) (g : Bool) → kind_place (schema_kind enums kind g) ≡ place_named kind
named_place enums (kinds.Message T) true = refl
named_place enums (kinds.Message T) false = refl
named_place enums kind g = refl

abbrev pub is_stored_map : StoredValue → Bool
is_stored_map (StoredMap ps) = true
is_stored_map v = false

-- of the values of a map
pub map_place : (rows : TableRows) (row key part : FieldRow) (v : StoredValue) → map_parts rows row ≡ Some (key, part) → is_stored_map v ≡ true → place_for (Some (schema_field rows row)) v ≡ place_named part.kind
map_place rows row key part (StoredMap ps) parts h = ap (λ (t : ValueType). kind_place t.kind) (shown_map rows row key part parts).type ∙ named_place rows.enums part.kind part.is_group
map_place rows row key part v parts h = absurd (true≢false (sym h))

-- what is no map has none at a map field
pub map_none : (rows : TableRows) (row key part : FieldRow) (v : StoredValue) → map_parts rows row ≡ Some (key, part) → is_stored_map v ≡ false → place_for (Some (schema_field rows row)) v ≡ None
map_none rows row key part v parts h = cases v h
  where
    own : option_and_then kind_place (own_kind (schema_field rows row).form (schema_field rows row).value_type.kind) ≡ None
    own = ap (λ (form : FieldForm). option_and_then kind_place (own_kind form (schema_field rows row).value_type.kind)) (shown_map rows row key part parts).form

    cases : (v : StoredValue) → is_stored_map v ≡ false → place_for (Some (schema_field rows row)) v ≡ None
    cases (StoredScalar s) h = own
    cases (StoredInside m) h = own
    cases (StoredList vs) h = own
    cases (StoredMap ps) h = absurd (true≢false h)

-- of the values of any other field
pub lone_place : (rows : TableRows) (row : FieldRow) (v : StoredValue) → is_linked rows ≡ true → map_parts rows row ≡ None → place_for (Some (schema_field rows row)) v ≡ place_named row.kind
lone_place rows row v linked none =
    ap (λ (o : Option MessageRow). place_for (Some (record (schema_field rows row) { form = form_of rows.enums row row.cardinality o; value_type = value_type_of rows.enums row o })) v) (no_map rows row linked none)
    ∙ cases v
  where
    alone : (c : Cardinality) (kind : Kind) → own_kind (form_of rows.enums row c None) kind ≡ Some kind
    alone Optional kind = refl
    alone Required kind = refl
    alone RepeatedLabel kind = refl

    own : option_and_then kind_place (own_kind (form_of rows.enums row row.cardinality None) (schema_kind rows.enums row.kind row.is_group)) ≡ place_named row.kind
    own = ap (option_and_then kind_place) (alone row.cardinality (schema_kind rows.enums row.kind row.is_group)) ∙ named_place rows.enums row.kind row.is_group

    cases : (v : StoredValue) → place_for (Some (record (schema_field rows row) { form = form_of rows.enums row row.cardinality None; value_type = value_type_of rows.enums row None })) v ≡ place_named row.kind
    cases (StoredScalar s) = own
    cases (StoredInside m) = own
    cases (StoredList vs) = own
    cases (StoredMap ps) = named_place rows.enums row.kind row.is_group

-- MAPS AND OTHER VALUES

abbrev MapOrNot : Value → Type 0
MapOrNot v = (is_stored_map (value_stored v) ≡ false) ⊎ ((ps : BTreeMap MapKey Value) × (v ≡ values.Map ps))

map_or_not : (v : Value) → MapOrNot v
unfolding roll-Value Carrier.roll
map_or_not = ind-Value MapOrNot (λ m. Unit {0}) (λ x y is. go x) (λ x y is. tt)
  where
    go : (x : Value-F Value DynamicMessage) → MapOrNot (roll-Value x)
    go (Value-F.Bool b) = inl (ap is_stored_map (fold-roll-Value StoredValue StoredMessage stored_step stored_message_step (Value-F.Bool b)))
    go (Value-F.I32 z) = inl (ap is_stored_map (fold-roll-Value StoredValue StoredMessage stored_step stored_message_step (Value-F.I32 z)))
    go (Value-F.I64 z) = inl (ap is_stored_map (fold-roll-Value StoredValue StoredMessage stored_step stored_message_step (Value-F.I64 z)))
    go (Value-F.U32 n) = inl (ap is_stored_map (fold-roll-Value StoredValue StoredMessage stored_step stored_message_step (Value-F.U32 n)))
    go (Value-F.U64 n) = inl (ap is_stored_map (fold-roll-Value StoredValue StoredMessage stored_step stored_message_step (Value-F.U64 n)))
    go (Value-F.F32 n) = inl (ap is_stored_map (fold-roll-Value StoredValue StoredMessage stored_step stored_message_step (Value-F.F32 n)))
    go (Value-F.F64 n) = inl (ap is_stored_map (fold-roll-Value StoredValue StoredMessage stored_step stored_message_step (Value-F.F64 n)))
    go (Value-F.String text) = inl (ap is_stored_map (fold-roll-Value StoredValue StoredMessage stored_step stored_message_step (Value-F.String text)))
    go (Value-F.Bytes bytes) = inl (ap is_stored_map (fold-roll-Value StoredValue StoredMessage stored_step stored_message_step (Value-F.Bytes bytes)))
    go (Value-F.EnumNumber z) = inl (ap is_stored_map (fold-roll-Value StoredValue StoredMessage stored_step stored_message_step (Value-F.EnumNumber z)))
    go (Value-F.Message m) = inl (ap is_stored_map (fold-roll-Value StoredValue StoredMessage stored_step stored_message_step (Value-F.Message m)))
    go (Value-F.List vs) = inl (ap is_stored_map (fold-roll-Value StoredValue StoredMessage stored_step stored_message_step (Value-F.List vs)))
    go (Value-F.Map m) = inr (m, refl)

pub no_stored_map : (v : Value) → ((ps : BTreeMap MapKey Value) → v ≡ values.Map ps → ⊥) → is_stored_map (value_stored v) ≡ false
no_stored_map v none = go (map_or_not v)
  where
    go : MapOrNot v → is_stored_map (value_stored v) ≡ false
    go (inl e) = e
    go (inr found) = absurd (none found.0 found.1)

-- CONTENTS

behind_unknowns : (schema : Schema) (fields : List Field) (n : ℕ) (ps : List Payload) (es : Entries) → EntriesTyped schema fields es → EntriesTyped schema fields (then_unknowns n ps es)
behind_unknowns schema fields n [] es h = h
behind_unknowns schema fields n (p ∷ ps) es h = behind_unknowns schema fields n ps es h

kind_is : (o : Option Field) (v : StoredValue) → stored_kind o v ≡ kind_for o (value_content v)
unfolding value_content
kind_is None v = refl
kind_is (Some f) (StoredScalar s) = refl
kind_is (Some f) (StoredInside m) = refl
kind_is (Some f) (StoredList vs) = refl
kind_is (Some f) (StoredMap ps) = refl

at_place : (kind : Kind) (T : ℕ) → passes (kind_place kind) (nat_eq T) ≡ true → is_of_type kind T ≡ true
at_place (ScalarOf k) T h = absurd (true≢false (sym h))
at_place (MessageOf U) T h = h
at_place (GroupOf U) T h = h

of_kind : (rows s : TableRows) (T : ℕ) (kind : Option Kind) (es : Entries) → passes (option_and_then kind_place kind) (nat_eq T) ≡ true → rows_eq rows s ≡ true → IsOf (schema_from rows) kind (contents.ContentOf (schema_from s) T es)
of_kind rows s T None es place same = absurd (true≢false (sym place))
of_kind rows s T (Some kind) es place same = (sym (ap schema_from ((rows_decide rows s).0 same)), at_place kind T place)

mutual
  unfolding content_from entries_content value_content items_content pairs_content

  typed_from : (m : StoredMessage) → all_typed m ≡ true → Typed (content_from m)
  typed_from (StoredOf files rows T es) h = entries_from files rows (known (schema_from rows) T) es h

  entries_from : (files : List Content) (rows : TableRows) (fields : List Field) (es : StoredEntries) → entries_typed files rows fields es ≡ true → EntriesTyped (schema_from rows) fields (entries_content es)
  entries_from files rows fields NothingStored h = tt
  entries_from files rows fields (ValueAt n v es) h =
      let (one, more) = and_parts (value_typed files rows (place_for (field_of fields n) v) v) (entries_typed files rows fields es) h in
      (subst (λ k. ValueTyped (schema_from rows) k (value_content v)) (kind_is (field_of fields n) v) (value_from files rows (stored_kind (field_of fields n) v) v one), entries_from files rows fields es more)
  entries_from files rows fields (UnknownAt n rs es) h = behind_unknowns (schema_from rows) fields n (payloads_of (items rs)) (entries_content es) (entries_from files rows fields es h)
  entries_from files rows fields (BothAt n v rs es) h =
      let (one, more) = and_parts (value_typed files rows (place_for (field_of fields n) v) v) (entries_typed files rows fields es) h in (
        subst (λ k. ValueTyped (schema_from rows) k (value_content v)) (kind_is (field_of fields n) v) (value_from files rows (stored_kind (field_of fields n) v) v one),
        behind_unknowns (schema_from rows) fields n (payloads_of (items rs)) (entries_content es) (entries_from files rows fields es more),
      )

  value_from : (files : List Content) (rows : TableRows) (kind : Option Kind) (v : StoredValue) → value_typed files rows (option_and_then kind_place kind) v ≡ true → ValueTyped (schema_from rows) kind (value_content v)
  value_from files rows kind (StoredScalar s) h = tt
  value_from files rows kind (StoredInside (StoredOf gs s T es)) h =
      let (here, inside) = and_parts (stands_there files rows (option_and_then kind_place kind) (StoredOf gs s T es)) (all_typed (StoredOf gs s T es)) h in
      let (place, pools) = and_parts (passes (option_and_then kind_place kind) (nat_eq T)) (contents_eq files gs && rows_eq rows s) here in
      let (files_same, rows_same) = and_parts (contents_eq files gs) (rows_eq rows s) pools in
      (of_kind rows s T kind (entries_content es) place rows_same, typed_from (StoredOf gs s T es) inside)
  value_from files rows kind (StoredList vs) h = items_from files rows kind vs h
  value_from files rows kind (StoredMap ps) h = pairs_from files rows kind ps h

  items_from : (files : List Content) (rows : TableRows) (kind : Option Kind) (vs : StoredItems) → items_typed files rows (option_and_then kind_place kind) vs ≡ true → ValuesTyped (schema_from rows) kind (items_content vs)
  items_from files rows kind NoItems h = tt
  items_from files rows kind (ItemThen v vs) h =
      let (one, more) = and_parts (value_typed files rows (option_and_then kind_place kind) v) (items_typed files rows (option_and_then kind_place kind) vs) h in
      (value_from files rows kind v one, items_from files rows kind vs more)

  pairs_from : (files : List Content) (rows : TableRows) (kind : Option Kind) (ps : StoredPairs) → pairs_typed files rows (option_and_then kind_place kind) ps ≡ true → PairsTyped (schema_from rows) kind (pairs_content ps)
  pairs_from files rows kind NoPairs h = tt
  pairs_from files rows kind (PairThen k v ps) h =
      let (one, more) = and_parts (value_typed files rows (option_and_then kind_place kind) v) (pairs_typed files rows (option_and_then kind_place kind) ps) h in
      (value_from files rows kind v one, pairs_from files rows kind ps more)

-- where descriptors tell that messages are of their fields' types, contents do
pub typed_content : (m : DynamicMessage) → all_typed (message_stored m) ≡ true → Typed (content_of m)
typed_content m h = subst Typed (message_follows m) (typed_from (message_stored m) h)
