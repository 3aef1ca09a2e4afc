-- What is looked up in a pool and in added definitions is looked up in all of them.
use Rattle.std.specs.Prelude.{◌≡◌, ◌+◌, ◌<◌, ◌∷◌, ◌++◌}
use Rattle.prost_reflect_resolving.proofs.Common.{ℕ, zero, suc, List, [], map, length, Some, None, String, Global, unwrap_or, slice_get, refl, sym, ap, ◌∙◌, arith, map-append, length-map, get_by_text, BTreeMap, name_place, message_names, enum_names, FlatRows, FlatMessageRow, FlatEnumRow, behind, links_of, linked_value, EnumValueRow, place_from, IsIndexFrom}
use Rattle.prost_reflect_resolving.proofs.NamePlaces.{or_else, place_behind}

pub messages_behind : (old new : FlatRows) → message_names (behind old new) ≡ message_names old ++ message_names new
messages_behind old new = map-append (λ (m : FlatMessageRow). m.definition.full_name) old.messages new.messages

pub enums_behind : (old new : FlatRows) → enum_names (behind old new) ≡ enum_names old ++ enum_names new
enums_behind old new = map-append (λ (e : FlatEnumRow). e.definition.full_name) old.enums new.enums

-- A name that was looked for among the old names first, and else in the index of the new ones.
module _ (old new all : List (List ℕ)) (joined : all ≡ old ++ new) (first : ℕ) (count : first ≡ length old) (index : BTreeMap (String Global) ℕ) (is : IsIndexFrom first index new) (name : List ℕ) where
  pub found_old : (place : ℕ) → name_place old name ≡ Some place → Some place ≡ name_place all name
  found_old place e = sym (ap (λ names. name_place names name) joined ∙ (place_behind old new name ∙ ap (λ p. or_else p (place_from (length old) new name)) e))

  pub found_new : name_place old name ≡ None → get_by_text index name ≡ name_place all name
  found_new e =
      is name
      ∙ (ap (λ n. place_from n new name) count
      ∙ sym (ap (λ names. name_place names name) joined ∙ (place_behind old new name ∙ ap (λ p. or_else p (place_from (length old) new name)) e)))

-- AT PLACES

pub slice_in_front : {X : Type 0} (xs ys : List X) (i : ℕ) → i < length xs → slice_get (xs ++ ys) i ≡ slice_get xs i
slice_in_front [] ys i h = absurd (omega (arith, h))
slice_in_front (x ∷ xs) ys zero h = refl
slice_in_front (x ∷ xs) ys (suc i) h = slice_in_front xs ys i (omega (arith, h))

pub slice_behind : {X : Type 0} (xs ys : List X) (i j : ℕ) → i ≡ length xs + j → slice_get (xs ++ ys) i ≡ slice_get ys j
slice_behind [] ys i j e = ap (slice_get ys) (omega (arith, e))
slice_behind (x ∷ xs) ys zero j e = absurd (omega (arith, e))
slice_behind (x ∷ xs) ys (suc i) j e = slice_behind xs ys i j (omega (arith, e))

values_behind : (old new : FlatRows) → (links_of (behind old new)).values ≡ (links_of old).values ++ (links_of new).values
values_behind old new = map-append (λ (e : FlatEnumRow). map linked_value e.values) old.enums new.enums

values_long : (rows : FlatRows) → length (links_of rows).values ≡ length rows.enums
values_long rows = length-map rows.enums (λ (e : FlatEnumRow). map linked_value e.values)

pub old_values : (old new : FlatRows) (E : ℕ) → E < length old.enums → unwrap_or (slice_get (links_of (behind old new)).values E) [] ≡ unwrap_or (slice_get (links_of old).values E) []
old_values old new E h =
    let long = values_long old in
    ap (λ v. unwrap_or v []) (ap (λ (vs : List (List EnumValueRow)). slice_get vs E) (values_behind old new) ∙ slice_in_front (links_of old).values (links_of new).values E (omega (arith, h, long)))

pub new_values : (old new : FlatRows) (E F : ℕ) → E ≡ length old.enums + F → unwrap_or (slice_get (links_of (behind old new)).values E) [] ≡ unwrap_or (slice_get (links_of new).values F) []
new_values old new E F e =
    let long = values_long old in
    ap (λ v. unwrap_or v []) (ap (λ (vs : List (List EnumValueRow)). slice_get vs E) (values_behind old new) ∙ slice_behind (links_of old).values (links_of new).values E F (omega (arith, e, long)))
