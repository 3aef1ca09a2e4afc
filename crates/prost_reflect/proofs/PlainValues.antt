-- Values that fields take, of which none holds a message: told item by item.
use Rattle.std.proofs.Common.{◌≡◌, true, false, ◌&&◌, ◌||◌, List, [], ◌∷◌, map, refl, ap, sym, ◌∙◌, true≢false}
use Rattle.std.specs.List.{list_any}
use Rattle.std.specs.List.Sorted.{IsStrictlySortedBy}
use Rattle.std.specs.Map.{keys_of}
use Rattle.std.proofs.lemmas.Bool.{and_parts, and_from, or_parts}
use Rattle.prost_reflect_wire.specs.Schema.{Kind, FieldForm, Singular, Repeated, MapFrom, ValueType, Field, is_list}
use Rattle.prost_reflect_wire.specs.Content as contents
use Rattle.prost_reflect_wire.specs.Content.{ScalarValue, MessageValue, ListValue, MapValue, value_ordered, values_from}
use Rattle.prost_reflect_wire.specs.Typing.{alone_test, value_passes, kind_takes, element_valid, elements_valid, pairs_valid, value_valid}
use Rattle.prost_reflect_wire.specs.Edit.{holds_message, values_hold_message, pairs_hold_message}
use Rattle.prost_reflect_dynamic.specs.ContentLaws.{pairs_shown, compare_keys}
use Rattle.prost_reflect.specs.Edits.{is_message}
use Rattle.prost_reflect_dynamic.specs.Encodables.{items_pass, entries_pass, value_arranged}
use Rattle.prost_reflect_dynamic.specs.View.{key_of, value_of}
use Rattle.prost_reflect_dynamic.specs.declared.value.MapKey.{MapKey}
use Rattle.prost_reflect_dynamic.specs.declared.value.Value.{Value}
use Rattle.prost_reflect_dynamic.proofs.Encodables.{items_arranged, entries_arranged}

-- ONE ITEM

element_is : (kind : Kind) (w : contents.Value) → element_valid kind w ≡ true → is_message w ≡ holds_message w
element_is kind (ScalarValue s) h = refl
element_is kind (MessageValue c) h = refl
element_is kind (ListValue vs) h = absurd (true≢false (sym h))
element_is kind (MapValue ps) h = absurd (true≢false (sym h))

element_arranged : (kind : Kind) (w : contents.Value) → element_valid kind w ≡ true → is_message w ≡ false → value_arranged w ≡ true
element_arranged kind (ScalarValue s) h none = refl
element_arranged kind (MessageValue c) h none = absurd (true≢false none)
element_arranged kind (ListValue vs) h none = absurd (true≢false (sym h))
element_arranged kind (MapValue ps) h none = absurd (true≢false (sym h))

-- LISTS

items_hold : (kind : Kind) (vs : List Value) → elements_valid kind (values_from (map value_of vs)) ≡ true → list_any (λ v. is_message (value_of v)) vs ≡ values_hold_message (values_from (map value_of vs))
items_hold kind [] h = refl
items_hold kind (v ∷ vs) h =
    let (one, more) = and_parts (element_valid kind (value_of v)) (elements_valid kind (values_from (map value_of vs))) h in
    ap (λ b. b || list_any (λ v. is_message (value_of v)) vs) (element_is kind (value_of v) one) ∙ ap (λ b. holds_message (value_of v) || b) (items_hold kind vs more)

plain_items : (kind : Kind) (vs : List Value) → elements_valid kind (values_from (map value_of vs)) ≡ true → list_any (λ v. is_message (value_of v)) vs ≡ false → items_pass value_arranged vs ≡ true
plain_items kind [] h none = refl
plain_items kind (v ∷ vs) h none =
    let (one, more) = and_parts (element_valid kind (value_of v)) (elements_valid kind (values_from (map value_of vs))) h in
    let (here, there) = or_parts (is_message (value_of v)) (list_any (λ v. is_message (value_of v)) vs) none in
    and_from (value_arranged (value_of v)) (items_pass value_arranged vs) (element_arranged kind (value_of v) one here) (plain_items kind vs more there)

pub list_holds : (f : Field) (w : contents.Value) (vs : List Value) → w ≡ ListValue (values_from (map value_of vs)) → value_valid f w ≡ true → list_any (λ v. is_message (value_of v)) vs ≡ holds_message w
list_holds f w vs is valid =
    let parts = and_parts (is_list f.form) (elements_valid f.value_type.kind (values_from (map value_of vs))) (sym (ap (value_valid f) is) ∙ valid) in
    items_hold f.value_type.kind vs parts.1 ∙ sym (ap holds_message is)

pub list_ordered : (f : Field) (w : contents.Value) (vs : List Value) → w ≡ ListValue (values_from (map value_of vs)) → value_valid f w ≡ true → list_any (λ v. is_message (value_of v)) vs ≡ false → value_ordered w ≡ true
list_ordered f w vs is valid none =
    let parts = and_parts (is_list f.form) (elements_valid f.value_type.kind (values_from (map value_of vs))) (sym (ap (value_valid f) is) ∙ valid) in
    ap value_ordered is ∙ (and_parts (value_ordered (ListValue (values_from (map value_of vs)))) (value_passes alone_test (ListValue (values_from (map value_of vs)))) (items_arranged vs (plain_items f.value_type.kind vs parts.1 none))).0

-- MAPS

module _ (key : ValueType) (kind : Kind) where
  entry_parts : (e : MapKey × Value) (es : List (MapKey × Value)) → pairs_valid (MapFrom key) kind (pairs_shown (e ∷ es)) ≡ true → (element_valid kind (value_of e.1) ≡ true) × (pairs_valid (MapFrom key) kind (pairs_shown es) ≡ true)
  entry_parts e es h =
      let (one, more) = and_parts (kind_takes key.kind (key_of e.0) && element_valid kind (value_of e.1)) (pairs_valid (MapFrom key) kind (pairs_shown es)) h in
      ((and_parts (kind_takes key.kind (key_of e.0)) (element_valid kind (value_of e.1)) one).1, more)

  entries_hold : (es : List (MapKey × Value)) → pairs_valid (MapFrom key) kind (pairs_shown es) ≡ true → list_any (λ (e : MapKey × Value). is_message (value_of e.1)) es ≡ pairs_hold_message (pairs_shown es)
  entries_hold [] h = refl
  entries_hold (e ∷ es) h =
      let (one, more) = entry_parts e es h in
      ap (λ b. b || list_any (λ (e : MapKey × Value). is_message (value_of e.1)) es) (element_is kind (value_of e.1) one) ∙ ap (λ b. holds_message (value_of e.1) || b) (entries_hold es more)

  plain_entries : (es : List (MapKey × Value)) → pairs_valid (MapFrom key) kind (pairs_shown es) ≡ true → list_any (λ (e : MapKey × Value). is_message (value_of e.1)) es ≡ false → entries_pass value_arranged es ≡ true
  plain_entries [] h none = refl
  plain_entries (e ∷ es) h none =
      let (one, more) = entry_parts e es h in
      let (here, there) = or_parts (is_message (value_of e.1)) (list_any (λ (e : MapKey × Value). is_message (value_of e.1)) es) none in
      and_from (value_arranged (value_of e.1)) (entries_pass value_arranged es) (element_arranged kind (value_of e.1) one here) (plain_entries es more there)

map_hold : (form : FieldForm) (kind : Kind) (es : List (MapKey × Value)) → pairs_valid form kind (pairs_shown es) ≡ true → list_any (λ (e : MapKey × Value). is_message (value_of e.1)) es ≡ pairs_hold_message (pairs_shown es)
map_hold Singular kind es h = absurd (true≢false (sym h))
map_hold (Repeated packed) kind es h = absurd (true≢false (sym h))
map_hold (MapFrom key) kind es h = entries_hold key kind es h

map_arranged : (form : FieldForm) (kind : Kind) (es : List (MapKey × Value)) → pairs_valid form kind (pairs_shown es) ≡ true → list_any (λ (e : MapKey × Value). is_message (value_of e.1)) es ≡ false → entries_pass value_arranged es ≡ true
map_arranged Singular kind es h none = absurd (true≢false (sym h))
map_arranged (Repeated packed) kind es h none = absurd (true≢false (sym h))
map_arranged (MapFrom key) kind es h none = plain_entries key kind es h none

pub map_holds : (f : Field) (w : contents.Value) (es : List (MapKey × Value)) → w ≡ MapValue (pairs_shown es) → value_valid f w ≡ true → list_any (λ (e : MapKey × Value). is_message (value_of e.1)) es ≡ holds_message w
map_holds f w es is valid = map_hold f.form f.value_type.kind es (sym (ap (value_valid f) is) ∙ valid) ∙ sym (ap holds_message is)

pub map_ordered : (f : Field) (w : contents.Value) (es : List (MapKey × Value)) → w ≡ MapValue (pairs_shown es) → value_valid f w ≡ true → list_any (λ (e : MapKey × Value). is_message (value_of e.1)) es ≡ false → IsStrictlySortedBy compare_keys (keys_of es) → value_ordered w ≡ true
map_ordered f w es is valid none sorted =
    ap value_ordered is ∙ (and_parts (value_ordered (MapValue (pairs_shown es))) (value_passes alone_test (MapValue (pairs_shown es))) (entries_arranged es sorted (map_arranged f.form f.value_type.kind es (sym (ap (value_valid f) is) ∙ valid) none))).0
