-- Old rows stay, but for the rows of extensions.
use Rattle.std.specs.Prelude.{◌≡◌, ◌+◌, ◌<◌, ◌≤◌, ◌∷◌, ◌++◌}
use Rattle.prost_reflect_growth.proofs.Common.{list_any, Global, ℕ, suc, Bool, true, false, cond, List, [], length, map, Option, Some, None, refl, sym, ap, ap₂, ◌∙◌, subst, arith, slice_get, append_assoc, add-zero, zero-add, string_bytes, String, bytes_eq, or_parts, ne_eqb, map-append, filter-append, slice_get_within, map-map, OneofDescriptorProto, type_missing, place_named, type_unknown, extendee_unknown, DefinitionRow, FlatMessageRow, FlatRows, behind, ascending_from, each_from, Links, links_of, natural_or_zero, is_place, in_order, linked_enum, belonging, extended_place, declared_fields, fields_of_message, oneof_place, member_place, linked_oneof, oneofs_from, messages_from, linked_rows, linked_field, linked_message, without_dot, fields_or_none, FieldRow, OneofRow}
use Rattle.prost_reflect_tables.specs.declared.error.PoolError.TheVariants as errors
use Rattle.prost_reflect_tables.proofs.CatalogLinks.{HasRow, order_keeps}
use Rattle.prost_reflect_tables.proofs.DeclaredFields.{smaller_before}
use Rattle.prost_reflect_tables.proofs.Keeping.{fields_ascend}
use Rattle.prost_reflect_tables.proofs.Linkwell.Fields.{number_shown, linked_there}
use Rattle.prost_reflect_tables.proofs.Linkwell.Kinds.{position_at, message_name}
use Rattle.prost_reflect_tables.proofs.Linkwell.Premises.{three}
use Rattle.prost_reflect_growth.specs.RowsGrow.{number_of_row, smaller, moved_place, moved_oneof, grown_message, further, RowsGrow, FurtherOrdered}
use Rattle.prost_reflect_growth.proofs.Lists.{front_at, mapped, map_alike, filter_at}
use Rattle.prost_reflect_growth.proofs.Moving.{smaller_grown, moves_alike}
use Rattle.prost_reflect_growth.proofs.Ordering.{order_grows, order_behind}
use Rattle.prost_reflect_growth.proofs.Stays.{FieldDef, extendee_stays, field_stays}

-- MEMBERS OF ONEOFS

member_moves : (links : Links) (rest more : List FieldRow) (ds : List FieldDef) (i : ℕ) (d : FieldDef) →
    ascending_from 0 (in_order (declared_fields links ds ++ rest)) ≡ true → slice_get ds i ≡ Some d →
    member_place (in_order ((declared_fields links ds ++ rest) ++ more)) d
    ≡ moved_place more (in_order (declared_fields links ds ++ rest)) (member_place (in_order (declared_fields links ds ++ rest)) d)
member_moves links rest more ds i d ascends at =
    let all = declared_fields links ds ++ rest in
    let n = natural_or_zero d.proto.number in
    let row = linked_field links false d in
    let has : HasRow (in_order all) row = order_keeps all row i (front_at (declared_fields links ds) rest i row (mapped (linked_field links false) ds i d at)) in
    let place : member_place (in_order all) d ≡ has.0 = smaller_before 0 n (in_order all) has.0 row ascends has.1 (number_shown links false d) in
    let number : number_of_row (slice_get (in_order all) (member_place (in_order all) d)) ≡ n =
    ap (λ k. number_of_row (slice_get (in_order all) k)) place ∙ (ap number_of_row has.1 ∙ number_shown links false d) in
    smaller_grown n all more ∙ ap (λ k. member_place (in_order all) d + smaller k more) (sym number)

oneofs_move : (links : Links) (rest more : List FieldRow) (ds : List FieldDef) (o : ℕ) (os : List (DefinitionRow OneofDescriptorProto)) →
    ascending_from 0 (in_order (declared_fields links ds ++ rest)) ≡ true →
    oneofs_from (in_order ((declared_fields links ds ++ rest) ++ more)) ds o os
    ≡ map (moved_oneof more (in_order (declared_fields links ds ++ rest)))
    (oneofs_from (in_order (declared_fields links ds ++ rest)) ds o os)
oneofs_move links rest more ds o [] ascends = refl
oneofs_move links rest more ds o (x ∷ os) ascends =
    let all = declared_fields links ds ++ rest in
    let members = belonging oneof_place ds o in
    let places : map (member_place (in_order (all ++ more))) members ≡ map (moved_place more (in_order all)) (map (member_place (in_order all)) members) =
    map_alike (member_place (in_order (all ++ more))) (λ (d : FieldDef). moved_place more (in_order all) (member_place (in_order all) d)) members
    (filter_at (λ (d : FieldDef). is_place o (oneof_place d)) ds (λ (d : FieldDef). member_place (in_order (all ++ more)) d ≡ moved_place more (in_order all) (member_place (in_order all) d))
    (λ i d at. member_moves links rest more ds i d ascends at))
    ∙ sym (map-map (moved_place more (in_order all)) (member_place (in_order all)) members) in
    ap₂ (λ (l : List ℕ) (r : List OneofRow). record { id = (linked_oneof (in_order all) members x).id; fields = l } ∷ r) places (oneofs_move links rest more ds (o + 1) os ascends)

-- ONE MESSAGE

message_grows : (links : Links) (rest more : List FieldRow) (m : FlatMessageRow) →
    ascending_from 0 (linked_message (declared_fields links m.fields ++ rest) m).fields ≡ true →
    linked_message ((declared_fields links m.fields ++ rest) ++ more) m ≡ grown_message more (linked_message (declared_fields links m.fields ++ rest) m)
unfolding linked_message
message_grows links rest more m ascends =
    let all = declared_fields links m.fields ++ rest in
    ap₂ (λ (fields : List FieldRow) (oneofs : List OneofRow). record (linked_message all m) { fields = fields; oneofs = oneofs })
    (order_grows all more) (oneofs_move links rest more m.fields 0 m.oneofs ascends)

pub further_ordered : FurtherOrdered
further_ordered more m =
    let places : (o : OneofRow) → moved_oneof (in_order more) m.fields o ≡ moved_oneof more m.fields o = λ o.
    ap (λ (l : List ℕ). record o { fields = l }) (map_alike (moved_place (in_order more) m.fields) (moved_place more m.fields) o.fields (λ i p at. moves_alike more m.fields p)) in
    ap₂ (λ (fields : List FieldRow) (oneofs : List OneofRow). record m { fields = fields; oneofs = oneofs })
    (order_behind m.fields more) (map_alike (moved_oneof (in_order more) m.fields) (moved_oneof more m.fields) m.oneofs (λ i o at. places o))

-- WHAT STAYS OF FIELDS AND EXTENSIONS

-- The place that a text names is that of an item.
named_within : {X : Type 0} (name_of : X → List ℕ) (xs : List X) (o : Option (String Global)) (k : ℕ) →
    place_named (map name_of xs) o ≡ Some k → k < length xs
named_within name_of xs None k e = absurd cc
named_within name_of xs (Some text) k e =
    let found = position_at (bytes_eq (without_dot (string_bytes text))) name_of 0 xs k e in
    omega (arith, found.2, slice_get_within xs found.0 found.1 found.3)

module _ (old new : FlatRows) where
  abbrev after : Links
  after = links_of (behind old new)

  abbrev before : Links
  before = links_of old

  fields_stay : (ds : List FieldDef) → list_any type_missing ds ≡ false → list_any (type_unknown old) ds ≡ false →
      declared_fields after ds ≡ declared_fields before ds
  fields_stay [] m u = refl
  fields_stay (d ∷ ds) m u =
      let ms = or_parts (type_missing d) (list_any type_missing ds) m in
      let us = or_parts (type_unknown old d) (list_any (type_unknown old) ds) u in
      ap₂ (λ y ys. y ∷ ys) (field_stays old new false d ms.0 us.0) (fields_stay ds ms.1 us.1)

  extensions_stay : (T : ℕ) (ds : List FieldDef) → list_any (extendee_unknown old) ds ≡ false → list_any type_missing ds ≡ false →
      list_any (type_unknown old) ds ≡ false →
      map (linked_field after true) (belonging (extended_place after) ds T) ≡ map (linked_field before true) (belonging (extended_place before) ds T)
  extensions_stay T [] e m u = refl
  extensions_stay T (d ∷ ds) e m u =
      let es = or_parts (extendee_unknown old d) (list_any (extendee_unknown old) ds) e in
      let ms = or_parts (type_missing d) (list_any type_missing ds) m in
      let us = or_parts (type_unknown old d) (list_any (type_unknown old) ds) u in
      ap (λ (p : Option ℕ). map (linked_field after true) (cond (is_place T p) (d ∷ belonging (extended_place after) ds T) (belonging (extended_place after) ds T))) (extendee_stays old new d es.0)
      ∙ go (is_place T (extended_place before d)) (field_stays old new true d ms.0 us.0) (extensions_stay T ds es.1 ms.1 us.1)
    where
      go : (b : Bool) → linked_field after true d ≡ linked_field before true d →
          map (linked_field after true) (belonging (extended_place after) ds T)
          ≡ map (linked_field before true) (belonging (extended_place before) ds T) →
          map (linked_field after true) (cond b (d ∷ belonging (extended_place after) ds T) (belonging (extended_place after) ds T)) ≡ map (linked_field before true) (cond b (d ∷ belonging (extended_place before) ds T) (belonging (extended_place before) ds T))
      go true here rest = ap₂ (λ y ys. y ∷ ys) here rest
      go false here rest = rest

  -- No old extension extends an added message.
  extends_old : (d : FieldDef) (T : ℕ) → length old.messages ≤ T → is_place T (extended_place before d) ≡ false
  extends_old d T above = at (extended_place before d) refl
    where
      at : (p : Option ℕ) → extended_place before d ≡ p → is_place T p ≡ false
      at None e = refl
      at (Some k) e = let less = named_within message_name old.messages d.proto.extendee k e in ne_eqb T k (λ same. absurd (omega arith))

  pub none_extended : (T : ℕ) (ds : List FieldDef) → list_any (extendee_unknown old) ds ≡ false → length old.messages ≤ T →
      belonging (extended_place after) ds T ≡ []
  none_extended T [] e above = refl
  none_extended T (d ∷ ds) e above =
      let es = or_parts (extendee_unknown old d) (list_any (extendee_unknown old) ds) e in
      rw (extendee_stays old new d es.0, extends_old d T above) (none_extended T ds es.1 above)

  module _ (e : list_any (extendee_unknown old) old.extensions ≡ false) (m : list_any type_missing old.extensions ≡ false) (u : list_any (type_unknown old) old.extensions ≡ false) where
    -- The fields of an old message, and behind them the added extensions.
    fields_grow : (T : ℕ) (x : FlatMessageRow) → list_any type_missing x.fields ≡ false → list_any (type_unknown old) x.fields ≡ false →
        fields_of_message after (old.extensions ++ new.extensions) T x ≡ fields_of_message before old.extensions T x ++ further old new T
    fields_grow T x xm xu =
        ap₂ (λ a b. a ++ b) (fields_stay x.fields xm xu)
        (ap (map (linked_field after true)) (filter-append (λ (d : FieldDef). is_place T (extended_place after d)) old.extensions new.extensions)
        ∙ (map-append (linked_field after true) (belonging (extended_place after) old.extensions T) (belonging (extended_place after) new.extensions T)
        ∙ ap (λ l. l ++ further old new T) (extensions_stay T old.extensions e m u)))
        ∙ sym (append_assoc (declared_fields before x.fields) (map (linked_field before true) (belonging (extended_place before) old.extensions T)) (further old new T))

    -- Those of an added message have no old extension among them.
    fields_new : (T : ℕ) (x : FlatMessageRow) → length old.messages ≤ T →
        fields_of_message after (old.extensions ++ new.extensions) T x ≡ fields_of_message after new.extensions T x
    fields_new T x above =
        ap (λ l. declared_fields after x.fields ++ map (linked_field after true) l)
        (filter-append (λ (d : FieldDef). is_place T (extended_place after d)) old.extensions new.extensions
        ∙ ap (λ l. l ++ belonging (extended_place after) new.extensions T) (none_extended T old.extensions e above))

    messages_new : (T : ℕ) (ms : List FlatMessageRow) → length old.messages ≤ T →
        messages_from after (old.extensions ++ new.extensions) T ms ≡ messages_from after new.extensions T ms
    messages_new T [] above = refl
    messages_new T (x ∷ ms) above = ap₂ (λ y ys. y ∷ ys) (ap (λ all. linked_message all x) (fields_new T x above)) (messages_new (T + 1) ms (omega arith))

    messages_old : (T : ℕ) (ms rest : List FlatMessageRow) → list_any (λ (x : FlatMessageRow). list_any type_missing x.fields) ms ≡ false →
        list_any (λ (x : FlatMessageRow). list_any (type_unknown old) x.fields) ms ≡ false →
        ((i : ℕ) (x : FlatMessageRow) → slice_get ms i ≡ Some x →
        ascending_from 0 (linked_message (fields_of_message before old.extensions (T + i) x) x).fields ≡ true) →
        messages_from after (old.extensions ++ new.extensions) T (ms ++ rest)
        ≡ each_from (λ T x. grown_message (further old new T) x) T (messages_from before old.extensions T ms)
        ++ messages_from after (old.extensions ++ new.extensions) (T + length ms) rest
    messages_old T [] rest xm xu ascend = rw (add-zero T) refl
    messages_old T (x ∷ ms) rest xm xu ascend =
        let xms = or_parts (list_any type_missing x.fields) (list_any (λ (x : FlatMessageRow). list_any type_missing x.fields) ms) xm in
        let xus = or_parts (list_any (type_unknown old) x.fields) (list_any (λ (x : FlatMessageRow). list_any (type_unknown old) x.fields) ms) xu in
        let first : T + 0 ≡ T = omega arith in
        let far : T + 1 + length ms ≡ T + length (x ∷ ms) = omega arith in
        let here : linked_message (fields_of_message after (old.extensions ++ new.extensions) T x) x ≡ grown_message (further old new T) (linked_message (fields_of_message before old.extensions T x) x) =
        ap (λ all. linked_message all x) (fields_grow T x xms.0 xus.0)
        ∙ message_grows before (map (linked_field before true) (belonging (extended_place before) old.extensions T)) (further old new T) x
        (subst (λ (n : ℕ). ascending_from 0 (linked_message (fields_of_message before old.extensions n x) x).fields ≡ true) first (ascend 0 x refl)) in
        rw (← far) (ap₂ (λ y ys. y ∷ ys) here (messages_old (T + 1) ms rest xms.1 xus.1 (λ i y at. let next : T + suc i ≡ (T + 1) + i = omega arith in
        subst (λ (n : ℕ). ascending_from 0 (linked_message (fields_of_message before old.extensions n y) y).fields ≡ true) next (ascend (suc i) y at))))

-- ALL ROWS

pub rows_grow : RowsGrow
rows_grow files old new checked linked =
    let missing = three _ _ _ (checked errors.MissingType) in
    let unknown = three _ _ _ (checked errors.UnknownType) in
    let missing_fields = or_parts (list_any (λ (m : FlatMessageRow). list_any type_missing m.fields) old.messages) (list_any type_missing old.extensions) missing.0 in
    let unknown_fields = or_parts (list_any (λ (m : FlatMessageRow). list_any (type_unknown old) m.fields) old.messages) (list_any (type_unknown old) old.extensions) unknown.0 in
    ap₂ (λ ms es. record { messages = ms; enums = es })
    (messages_old old new unknown.1 missing_fields.1 unknown_fields.1 0 old.messages new.messages missing_fields.0 unknown_fields.0
    (λ i x at. let shown = ap fields_or_none (linked_there old i x at) in ap (ascending_from 0) (sym shown) ∙ fields_ascend (linked_rows old) i linked)
    ∙ ap (λ l. each_from (λ T x. grown_message (further old new T) x) 0 (linked_rows old).messages ++ l)
    (ap (λ n. messages_from (links_of (behind old new)) (old.extensions ++ new.extensions) n new.messages) (zero-add (length old.messages))
    ∙ messages_new old new unknown.1 missing_fields.1 unknown_fields.1 (length old.messages) new.messages (omega arith)))
    (map-append linked_enum old.enums new.enums)
