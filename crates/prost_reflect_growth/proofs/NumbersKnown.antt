-- Numbers are found among rows.
use Rattle.std.specs.Prelude.{◌≡◌, ◌+◌, ◌<◌, ◌&&◌, ◌||◌, ◌∷◌, ◌==◌}
use Rattle.prost_reflect_growth.proofs.Common.{list_any, int_eq, ℕ, zero, suc, ℤ, pos, negsuc, Bool, true, false, cond, List, [], map, Option, Some, None, refl, sym, ap, ap₂, ◌∙◌, arith, slice_get, nat_le, nat_eq, or-false, and-false, and-or_distrib_left, ne_eqb, eq-eqb, Decides-int_eq, list_any-append, Numbered, numbered_fields, numbered_in, numbered_at, numbered_extensions, all_numbered, same_numbered, number_or_zero, FlatMessageRow, FlatRows, Links, links_of, natural_or_zero, is_place, put_in_order, in_order, belonging, extended_place, declared_fields, fields_of_message, linked_rows, linked_field, fields_at, fields_or_none, FieldRow, MessageRow}
use Rattle.prost_reflect_tables.proofs.CatalogLinks.{fields_shown}
use Rattle.prost_reflect_tables.proofs.Linkwell.Fields.{number_shown, linked_there}
use Rattle.prost_reflect_growth.specs.NumbersKnown.{NumbersKnown}
use Rattle.prost_reflect_growth.proofs.Again.{or_swap}
use Rattle.prost_reflect_growth.proofs.Lists.{item_there}
use Rattle.prost_reflect_growth.proofs.Stays.{FieldDef}

any_put : (p : FieldRow → Bool) (f : FieldRow) (fields : List FieldRow) → list_any p (put_in_order f fields) ≡ (p f || list_any p fields)
any_put p f [] = refl
any_put p f (g ∷ fields) = go (nat_le f.number g.number) (any_put p f fields)
  where
    go : (b : Bool) → list_any p (put_in_order f fields) ≡ (p f || list_any p fields) →
        list_any p (cond b (f ∷ g ∷ fields) (g ∷ put_in_order f fields)) ≡ (p f || (p g || list_any p fields))
    go true e = refl
    go false e = ap (λ c. p g || c) e ∙ or_swap (p g) (p f) (list_any p fields)

any_ordered : (p : FieldRow → Bool) (fields : List FieldRow) → list_any p (in_order fields) ≡ list_any p fields
any_ordered p [] = refl
any_ordered p (f ∷ fields) = any_put p f (in_order fields) ∙ ap (λ c. p f || c) (any_ordered p fields)

module _ (T n : ℕ) (some : 0 < n) where
  abbrev one : Numbered
  one = record { message = T; number = pos n }

  abbrev has : FieldRow → Bool
  has f = f.number == n

  -- What a definition has to be for that.
  abbrev wanted : FieldDef → Bool
  wanted d = int_eq (pos n) (number_or_zero d.proto.number)

  same_number : (o : Option ℤ) → int_eq (pos n) (number_or_zero o) ≡ nat_eq (natural_or_zero o) n
  same_number None = grind (arith, Decides-int_eq (pos n) (pos 0))
  same_number (Some (pos m)) = grind (arith, Decides-int_eq (pos n) (pos m))
  same_number (Some (negsuc m)) = ne_number m ∙ sym (ne_eqb 0 n (λ same. absurd (omega arith)))
    where
      ne_number : (m : ℕ) → int_eq (pos n) (negsuc m) ≡ false
      ne_number m = grind (arith, Decides-int_eq (pos n) (negsuc m))

  linked_has : (links : Links) (x : Bool) (d : FieldDef) → has (linked_field links x d) ≡ wanted d
  linked_has links x d = ap (λ (k : ℕ). k == n) (number_shown links x d) ∙ sym (same_number d.proto.number)

  declared_has : (links : Links) (ds : List FieldDef) → list_any has (declared_fields links ds) ≡ list_any wanted ds
  declared_has links [] = refl
  declared_has links (d ∷ ds) = ap₂ (λ a b. a || b) (linked_has links false d) (declared_has links ds)

  -- The fields of the message at a place.
  own_numbers : (i : ℕ) (ds : List FieldDef) → list_any (same_numbered one) (numbered_fields i ds) ≡ (nat_eq T i && list_any wanted ds)
  own_numbers i [] = sym (and-false (nat_eq T i))
  own_numbers i (d ∷ ds) = ap (λ c. (nat_eq T i && wanted d) || c) (own_numbers i ds) ∙ sym (and-or_distrib_left (nat_eq T i) (wanted d) (list_any wanted ds))

  later_numbers : (i : ℕ) (ms : List FlatMessageRow) → T < i → list_any (same_numbered one) (numbered_in i ms) ≡ false
  later_numbers i [] less = refl
  later_numbers i (m ∷ ms) less =
      list_any-append (same_numbered one) (numbered_fields i m.fields) (numbered_in (i + 1) ms)
      ∙ ap₂ (λ a b. a || b) (own_numbers i m.fields ∙ ap (λ b. b && list_any wanted m.fields) (ne_eqb T i (λ same. absurd (omega arith)))) (later_numbers (i + 1) ms (omega arith))

  in_numbers : (i k : ℕ) (ms : List FlatMessageRow) (m : FlatMessageRow) → T ≡ i + k → slice_get ms k ≡ Some m →
      list_any (same_numbered one) (numbered_in i ms) ≡ list_any wanted m.fields
  in_numbers i k [] m e at = absurd cc
  in_numbers i zero (x ∷ ms) m e at =
      let same : x ≡ m = cc in
      list_any-append (same_numbered one) (numbered_fields i x.fields) (numbered_in (i + 1) ms)
      ∙ (ap₂ (λ a b. a || b) (own_numbers i x.fields ∙ ap (λ b. b && list_any wanted x.fields) (eq-eqb T i (omega (arith, e)))) (later_numbers (i + 1) ms (omega (arith, e)))
      ∙ (or-false (list_any wanted x.fields) ∙ ap (λ (y : FlatMessageRow). list_any wanted y.fields) same))
  in_numbers i (suc k) (x ∷ ms) m e at =
      list_any-append (same_numbered one) (numbered_fields i x.fields) (numbered_in (i + 1) ms)
      ∙ ap₂ (λ a b. a || b) (own_numbers i x.fields ∙ ap (λ b. b && list_any wanted x.fields) (ne_eqb T i (λ same. absurd (omega (arith, e))))) (in_numbers (i + 1) k ms m (omega (arith, e)) at)

  -- The extensions of the message.
  extension_numbers : (rows : FlatRows) (ds : List FieldDef) →
      list_any (same_numbered one) (numbered_extensions rows ds) ≡ list_any has (map (linked_field (links_of rows) true) (belonging (extended_place (links_of rows)) ds T))
  extension_numbers rows [] = refl
  extension_numbers rows (d ∷ ds) =
      list_any-append (same_numbered one) (numbered_at (number_or_zero d.proto.number) (extended_place (links_of rows) d)) (numbered_extensions rows ds)
      ∙ (ap (λ b. list_any (same_numbered one) (numbered_at (number_or_zero d.proto.number) (extended_place (links_of rows) d)) || b) (extension_numbers rows ds)
      ∙ go (extended_place (links_of rows) d) (belonging (extended_place (links_of rows)) ds T))
    where
      inner : (b : Bool) (rest : List FieldDef) →
          ((b && wanted d) || false) || list_any has (map (linked_field (links_of rows) true) rest)
          ≡ list_any has (map (linked_field (links_of rows) true) (cond b (d ∷ rest) rest))
      inner true rest = ap (λ c. c || list_any has (map (linked_field (links_of rows) true) rest)) (or-false (wanted d) ∙ sym (linked_has (links_of rows) true d))
      inner false rest = refl

      go : (p : Option ℕ) (rest : List FieldDef) →
          list_any (same_numbered one) (numbered_at (number_or_zero d.proto.number) p) || list_any has (map (linked_field (links_of rows) true) rest)
          ≡ list_any has (map (linked_field (links_of rows) true) (cond (is_place T p) (d ∷ rest) rest))
      go None rest = refl
      go (Some k) rest = inner (nat_eq T k) rest

  known_at : (old : FlatRows) (m : FlatMessageRow) → slice_get old.messages T ≡ Some m →
      list_any (same_numbered one) (all_numbered old) ≡ list_any has (fields_at (linked_rows old) T)
  known_at old m at =
      let links = links_of old in
      let more = map (linked_field links true) (belonging (extended_place links) old.extensions T) in
      let first : T ≡ 0 + T = omega arith in
      list_any-append (same_numbered one) (numbered_in 0 old.messages) (numbered_extensions old old.extensions)
      ∙ (ap₂ (λ a b. a || b) (in_numbers 0 T old.messages m first at ∙ sym (declared_has links m.fields)) (extension_numbers old old.extensions)
      ∙ (sym (list_any-append has (declared_fields links m.fields) more)
      ∙ (ap (λ k. list_any has (fields_of_message links old.extensions k m)) first
      ∙ (sym (any_ordered has (fields_of_message links old.extensions (0 + T) m))
      ∙ sym (ap (λ (o : Option MessageRow). list_any has (fields_or_none o)) (linked_there old T m at) ∙ ap (list_any has) (fields_shown (fields_of_message links old.extensions (0 + T) m) m))))))

pub numbers_known : NumbersKnown
numbers_known old T n less some = let m = item_there old.messages T less in known_at T n some old m.0 m.1
