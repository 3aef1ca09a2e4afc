-- A message that nothing further extends keeps its row.
use Rattle.std.specs.Prelude.{◌≡◌, ◌+◌, ◌<◌, ◌∷◌, ◌++◌}
use Rattle.prost_reflect_growth.proofs.Common.{ℕ, List, [], length, map, Some, refl, sym, ap, ap₂, ◌∙◌, arith, slice_get, append-nil, slice_get_within, same_Some, FlatRows, links_of, in_order, fields_of_message, linked_rows, linked_message, FieldRow, OneofRow, MessageRow}
use Rattle.prost_reflect_tables.proofs.CatalogLinks.{fields_shown}
use Rattle.prost_reflect_tables.proofs.Linkwell.Fields.{linked_there}
use Rattle.prost_reflect_tables.proofs.Linkwell.Items.{messages_length}
use Rattle.prost_reflect_growth.specs.RowsGrow.{moved_place, moved_oneof}
use Rattle.prost_reflect_growth.specs.Untouched.{UntouchedStays}
use Rattle.prost_reflect_growth.proofs.Lists.{item_there}
use Rattle.prost_reflect_growth.proofs.Ordering.{order_grows}

places_stay : (fields : List FieldRow) (places : List ℕ) → map (moved_place [] fields) places ≡ places
places_stay fields [] = refl
places_stay fields (p ∷ places) = let e : p + 0 ≡ p = omega arith in ap₂ (λ x l. x ∷ l) e (places_stay fields places)

oneofs_stay : (fields : List FieldRow) (oneofs : List OneofRow) → map (moved_oneof [] fields) oneofs ≡ oneofs
oneofs_stay fields [] = refl
oneofs_stay fields (o ∷ oneofs) = ap₂ (λ (l : List ℕ) (os : List OneofRow). record o { fields = l } ∷ os) (places_stay fields o.fields) (oneofs_stay fields oneofs)

in_order_already : (old : FlatRows) (T : ℕ) (m : MessageRow) → slice_get (linked_rows old).messages T ≡ Some m →
    in_order (m.fields ++ []) ≡ m.fields
in_order_already old T m at =
    let less : T < length old.messages = omega (arith, slice_get_within (linked_rows old).messages T m at, messages_length (links_of old) old.extensions 0 old.messages) in
    let x = item_there old.messages T less in
    let all = fields_of_message (links_of old) old.extensions (0 + T) x.0 in
    let same : linked_message all x.0 ≡ m = same_Some _ _ (sym (linked_there old T x.0 x.1) ∙ at) in
    let here : in_order all ≡ m.fields = sym (fields_shown all x.0) ∙ ap (λ (r : MessageRow). r.fields) same in
    ap (λ l. in_order (l ++ [])) (sym here) ∙ (sym (order_grows all []) ∙ (ap in_order (append-nil all) ∙ here))

pub untouched_stays : UntouchedStays
untouched_stays old T m at =
    ap₂ (λ (fields : List FieldRow) (oneofs : List OneofRow). record m { fields = fields; oneofs = oneofs }) (in_order_already old T m at) (oneofs_stay m.fields m.oneofs)
