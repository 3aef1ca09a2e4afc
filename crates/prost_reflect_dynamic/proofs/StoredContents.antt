-- The content of a message follows from what it stores.
use Rattle.std.specs.Prelude.{◌≡◌, ◌∷◌}
use Rattle.prost_reflect_dynamic.proofs.Common.{ℕ, List, [], map, Some, None, refl, ap, ap₂, sym, ◌∙◌, subst, Result, Ok, Err, IfOk, MatchResult, AllocError, items, records_of, Content, ContentOf, Entries, NoEntries, Values, NoValues, Item, Pairs, Pair, ScalarValue, MessageValue, ListValue, MapValue, values_from, store, items_body, schema_from, pool_rows, value_step, message_step, value_of, content_of, entries_from, pairs_from, payloads_of, key_of, StoredMessage, StoredEntries, NothingStored, ValueAt, UnknownAt, BothAt, StoredValue, StoredScalar, StoredInside, StoredList, StoredMap, StoredItems, NoItems, ItemThen, StoredPairs, PairThen, stored_items, stored_pairs, stored_entries, stored_step, stored_message_step, value_stored, message_stored, FieldSlot, MapKey, Value, Value-F, DynamicMessage-F, fold-roll-Value, fold-roll-DynamicMessage, ind-Value, ind-DynamicMessage, map-Value, map-DynamicMessage, DynamicMessage, slot_former, SameStored, SameStoring}
use mathlib.Core.Former.{this}
use Rattle.prost_reflect_wire.specs.Content as contents
use Rattle.prost_reflect_dynamic.specs.Stored.{MessageOf, NoPairs}
use Rattle.prost_reflect_fields.specs.declared.slot.FieldSlot.TheVariants as entries
use Rattle.prost_reflect_dynamic.proofs.StoredViews.{same_types}

-- CONTENTS OF WHAT IS STORED

unfoldable mutual
  pub content_from : StoredMessage → Content
  content_from (MessageOf files rows T es) = ContentOf (schema_from rows) T (entries_content es)

  pub entries_content : StoredEntries → Entries
  entries_content NothingStored = NoEntries
  entries_content (ValueAt n v es) = store n (record { value = Some (value_content v); unknowns = [] }) (entries_content es)
  entries_content (UnknownAt n rs es) = store n (record { value = None; unknowns = payloads_of (items rs) }) (entries_content es)
  entries_content (BothAt n v rs es) = store n (record { value = Some (value_content v); unknowns = payloads_of (items rs) }) (entries_content es)

  pub value_content : StoredValue → contents.Value
  value_content (StoredScalar v) = ScalarValue v
  value_content (StoredInside m) = MessageValue (content_from m)
  value_content (StoredList vs) = ListValue (items_content vs)
  value_content (StoredMap ps) = MapValue (pairs_content ps)

  pub items_content : StoredItems → Values
  items_content NoItems = NoValues
  items_content (ItemThen v vs) = Item (value_content v) (items_content vs)

  pub pairs_content : StoredPairs → Pairs
  pairs_content NoPairs = contents.NoPairs
  pairs_content (PairThen k v ps) = Pair k (value_content v) (pairs_content ps)

-- ONE LAYER

abbrev ValueFollows : Value → Type 0
ValueFollows v = value_content (value_stored v) ≡ value_of v

abbrev MessageFollows : DynamicMessage → Type 0
MessageFollows m = content_from (message_stored m) ≡ content_of m

abbrev Values-Such : Type 0
Values-Such = (v : Value) × ValueFollows v

abbrev Messages-Such : Type 0
Messages-Such = (m : DynamicMessage) × MessageFollows m

abbrev seen : StoredValue → StoredValue
seen v = v

abbrev value_in : Values-Such → Value
value_in v = v.0

abbrev message_in : Messages-Such → DynamicMessage
message_in m = m.0

items_follow : (vs : List Values-Such) → items_content (stored_items seen (map value_stored (map value_in vs))) ≡ values_from (map value_of (map value_in vs))
unfolding items_content
items_follow [] = refl
items_follow (v ∷ vs) = ap₂ Item v.1 (items_follow vs)

pairs_follow : (es : List (MapKey × Values-Such))
    → pairs_content (stored_pairs seen (map (λ (e : MapKey × Value). (e.0, value_stored e.1)) (map (λ (e : MapKey × Values-Such). (e.0, value_in e.1)) es)))
    ≡ pairs_from (map (λ (e : MapKey × Value). (e.0, value_of e.1)) (map (λ (e : MapKey × Values-Such). (e.0, value_in e.1)) es))
unfolding pairs_content
pairs_follow [] = refl
pairs_follow (e ∷ es) = ap₂ (Pair (key_of e.0)) e.1.1 (pairs_follow es)

abbrev over : {X Y : Type 0} → (X → Y) → FieldSlot X → FieldSlot Y
over {X} {Y} f = (slot_former this).map X Y f

abbrev over_items : {X Y : Type 0} → (X → Y) → List (ℕ × FieldSlot X) → List (ℕ × FieldSlot Y)
over_items f es = map (λ e. (e.0, over f e.1)) es

entries_follow : (es : List (ℕ × FieldSlot Values-Such)) → entries_content (stored_entries seen (over_items value_stored (over_items value_in es))) ≡ entries_from (over_items value_of (over_items value_in es))
unfolding entries_content
entries_follow [] = refl
entries_follow (e ∷ es) = cases e.1 (entries_follow es)
  where
    cases : (d : FieldSlot Values-Such) → entries_content (stored_entries seen (over_items value_stored (over_items value_in es))) ≡ entries_from (over_items value_of (over_items value_in es))
        → entries_content (stored_entries seen (over_items value_stored (over_items value_in ((e.0, d) ∷ es)))) ≡ entries_from (over_items value_of (over_items value_in ((e.0, d) ∷ es)))
    cases (entries.Value v) rest = ap₂ (λ w ds. store e.0 (record { value = Some w; unknowns = [] }) ds) v.1 rest
    cases (entries.Unknown u) rest = ap₂ (λ rs ds. store e.0 (record { value = None; unknowns = payloads_of rs }) ds) (items_body (records_of u)) rest
    cases (entries.Both v u) rest = λ i. store e.0 (record { value = Some (v.1 i); unknowns = payloads_of (items_body (records_of u) i) }) (rest i)

abbrev Layer : Type 0
Layer = Value-F Value DynamicMessage

stored_of : Layer → StoredValue
stored_of x = stored_step (map-Value Value DynamicMessage StoredValue StoredMessage value_stored message_stored x)

shown_of : Layer → contents.Value
shown_of x = value_step (map-Value Value DynamicMessage contents.Value Content value_of content_of x)

layer_follows : (y : Value-F Values-Such Messages-Such) → value_content (stored_of (map-Value Values-Such Messages-Such Value DynamicMessage value_in message_in y)) ≡ shown_of (map-Value Values-Such Messages-Such Value DynamicMessage value_in message_in y)
unfolding stored_of shown_of value_content
layer_follows (Value-F.Bool b) = refl
layer_follows (Value-F.I32 z) = refl
layer_follows (Value-F.I64 z) = refl
layer_follows (Value-F.U32 n) = refl
layer_follows (Value-F.U64 n) = refl
layer_follows (Value-F.F32 n) = refl
layer_follows (Value-F.F64 n) = refl
layer_follows (Value-F.String text) = refl
layer_follows (Value-F.Bytes bytes) = refl
layer_follows (Value-F.EnumNumber z) = refl
layer_follows (Value-F.Message m) = ap MessageValue m.1
layer_follows (Value-F.List values) = ap ListValue (items_follow values.items)
layer_follows (Value-F.Map pairs) = ap MapValue (pairs_follow pairs.entries)

abbrev MessageLayer : Type 0
MessageLayer = DynamicMessage-F Value DynamicMessage

message_stored_of : MessageLayer → StoredMessage
message_stored_of x = stored_message_step (map-DynamicMessage Value DynamicMessage StoredValue StoredMessage value_stored message_stored x)

message_shown_of : MessageLayer → Content
message_shown_of x = message_step (map-DynamicMessage Value DynamicMessage contents.Value Content value_of content_of x)

message_layer_follows : (y : DynamicMessage-F Values-Such Messages-Such)
    → content_from (message_stored_of (map-DynamicMessage Values-Such Messages-Such Value DynamicMessage value_in message_in y)) ≡ message_shown_of (map-DynamicMessage Values-Such Messages-Such Value DynamicMessage value_in message_in y)
unfolding message_stored_of message_shown_of content_from
message_layer_follows y = ap (ContentOf (schema_from (pool_rows y.fields.0.pool)) y.fields.0.index) (entries_follow y.fields.1)

-- AT EVERY DEPTH

value_layers : (x : Layer) (y : Value-F Values-Such Messages-Such) → map-Value Values-Such Messages-Such Value DynamicMessage value_in message_in y ≡ x → value_content (stored_of x) ≡ shown_of x
value_layers x y is = subst (λ z. value_content (stored_of z) ≡ shown_of z) is (layer_follows y)

message_layers : (x : MessageLayer) (y : DynamicMessage-F Values-Such Messages-Such) → map-DynamicMessage Values-Such Messages-Such Value DynamicMessage value_in message_in y ≡ x → content_from (message_stored_of x) ≡ message_shown_of x
message_layers x y is = subst (λ z. content_from (message_stored_of z) ≡ message_shown_of z) is (message_layer_follows y)

pub value_follows : (v : Value) → ValueFollows v
unfolding stored_of shown_of message_stored_of message_shown_of
value_follows = ind-Value ValueFollows MessageFollows
    (λ x y is. ap value_content (fold-roll-Value StoredValue StoredMessage stored_step stored_message_step x) ∙ value_layers x y is ∙ sym (fold-roll-Value contents.Value Content value_step message_step x))
    (λ x y is. ap content_from (fold-roll-DynamicMessage StoredValue StoredMessage stored_step stored_message_step x) ∙ message_layers x y is ∙ sym (fold-roll-DynamicMessage contents.Value Content value_step message_step x))

pub message_follows : (m : DynamicMessage) → MessageFollows m
unfolding stored_of shown_of message_stored_of message_shown_of
message_follows = ind-DynamicMessage ValueFollows MessageFollows
    (λ x y is. ap value_content (fold-roll-Value StoredValue StoredMessage stored_step stored_message_step x) ∙ value_layers x y is ∙ sym (fold-roll-Value contents.Value Content value_step message_step x))
    (λ x y is. ap content_from (fold-roll-DynamicMessage StoredValue StoredMessage stored_step stored_message_step x) ∙ message_layers x y is ∙ sym (fold-roll-DynamicMessage contents.Value Content value_step message_step x))

-- what stores the same has the same content
pub values_shown : (v w : Value) → value_stored v ≡ value_stored w → value_of v ≡ value_of w
values_shown v w h = sym (value_follows v) ∙ ap value_content h ∙ value_follows w

pub contents_shown : (m n : DynamicMessage) → message_stored m ≡ message_stored n → content_of m ≡ content_of n
contents_shown m n h = sym (message_follows m) ∙ ap content_from h ∙ message_follows n

-- COPIES

pub values_copied : {Q : AllocError → Type 0} (v : Value) (r : Result Value AllocError) → IfOk r (λ w. value_stored w ≡ value_stored v) → ((e : AllocError) → Q e) → MatchResult r (SameStored v) Q
values_copied v (Ok w) h q = (h, values_shown w v h)
values_copied v (Err e) h q = q e

pub messages_copied : {Q : AllocError → Type 0} (m : DynamicMessage) (r : Result DynamicMessage AllocError) → IfOk r (λ n. message_stored n ≡ message_stored m) → ((e : AllocError) → Q e) → MatchResult r (SameStoring m) Q
messages_copied m (Ok n) h q = (h, same_types m n h, contents_shown n m h)
messages_copied m (Err e) h q = q e
