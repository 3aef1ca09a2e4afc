-- A path to a field that takes a value leads there through a newer type of a reduction too.
use Rattle.std.specs.Prelude.{◌≡◌, ◌&&◌, ◌∷◌}
use Rattle.prost_reflect_laws.proofs.Common.{ℕ, true, false, List, [], Option, Some, None, refl, ap, sym, ◌∙◌, true≢false, and_parts, and_from, or_parts, Scalar, Kind, ScalarOf, MessageOf, GroupOf, ValueType, MapFrom, Field, Schema, known, field_of, is_singular, is_list, Value, ScalarValue, MessageValue, ListValue, MapValue, Values, NoValues, Item, Pairs, NoPairs, Pair, kind_takes, element_valid, elements_valid, pairs_valid, value_valid, kind_for, ValueTyped, ValuesTyped, PairsTyped, ValueStored, message_of_kind, PathTo, holds_message, values_hold_message, pairs_hold_message, TypePairs, holds, same_kind, same_form, field_number}
use Rattle.prost_reflect_laws.proofs.FieldTypes.{singular, repeated}
use Rattle.prost_reflect_laws.proofs.Alike.{alike, SameType}
use Rattle.prost_reflect_laws.proofs.Matches.{AllMatch, like}
use Rattle.prost_reflect_laws.proofs.ValueCarried.{single_like, list_like, map_like, of_map}

-- VALUES

module _ (pairs : TypePairs) where
  takes_like : (k l : Kind) (v : Scalar) → same_kind pairs k l ≡ true → kind_takes k v ≡ true → kind_takes l v ≡ true
  takes_like (ScalarOf k) (ScalarOf l) v h t = (alike k l h).takes v ∙ t
  takes_like _ l v h t = cc

  element_like : (k l : Kind) (v : Value) → same_kind pairs k l ≡ true → element_valid k v ≡ true → holds_message v ≡ false → element_valid l v ≡ true
  element_like k l (ScalarValue v) h t none = takes_like k l v h t
  element_like k l _ h t none = cc

  elements_like : (k l : Kind) (vs : Values) → same_kind pairs k l ≡ true → elements_valid k vs ≡ true → values_hold_message vs ≡ false → elements_valid l vs ≡ true
  elements_like k l NoValues h t none = refl
  elements_like k l (Item v vs) h t none =
      let (one, more) = and_parts (element_valid k v) (elements_valid k vs) t in
      let (a, b) = or_parts (holds_message v) (values_hold_message vs) none in
      and_from _ _ (element_like k l v h one a) (elements_like k l vs h more b)

  pairs_like : (keyA keyB : ValueType) (k l : Kind) (ps : Pairs) → SameType pairs keyA keyB → same_kind pairs k l ≡ true → pairs_valid (MapFrom keyA) k ps ≡ true → pairs_hold_message ps ≡ false → pairs_valid (MapFrom keyB) l ps ≡ true
  pairs_like keyA keyB k l NoPairs key h t none = refl
  pairs_like keyA keyB k l (Pair x v ps) key h t none =
      let (here, more) = and_parts (kind_takes keyA.kind x && element_valid k v) (pairs_valid (MapFrom keyA) k ps) t in
      let (takes, fits) = and_parts (kind_takes keyA.kind x) (element_valid k v) here in
      let (a, b) = or_parts (holds_message v) (pairs_hold_message ps) none in
      and_from _ _ (and_from _ _ (takes_like keyA.kind keyB.kind x key.kind takes) (element_like k l v h fits a)) (pairs_like keyA keyB k l ps key h more b)

  valid_like : (f g : Field) (v : Value) → same_form pairs f.form g.form ≡ true → SameType pairs f.value_type g.value_type → value_valid f v ≡ true → holds_message v ≡ false → value_valid g v ≡ true
  valid_like f g (MessageValue c) form type t none = absurd (true≢false none)
  valid_like f g (ScalarValue v) form type t none =
      let (s, takes) = and_parts (is_singular f.form) (kind_takes f.value_type.kind v) t in
      and_from _ _ (ap is_singular (single_like pairs f.form g.form (singular f.form s) form)) (takes_like f.value_type.kind g.value_type.kind v type.kind takes)
  valid_like f g (ListValue vs) form type t none =
      let (r, fits) = and_parts (is_list f.form) (elements_valid f.value_type.kind vs) t in
      let (x, is) = repeated f.form r in
      let (y, its) = list_like pairs f.form g.form x is form in
      and_from _ _ (ap is_list its) (elements_like f.value_type.kind g.value_type.kind vs type.kind fits none)
  valid_like f g (MapValue ps) form type t none =
      let (keyA, is) = of_map f.form f.value_type.kind ps t in
      let (keyB, its, key) = map_like pairs f.form g.form keyA is form in
      ap (λ c. pairs_valid c g.value_type.kind ps) its ∙ pairs_like keyA keyB f.value_type.kind g.value_type.kind ps key type.kind (ap (λ c. pairs_valid c f.value_type.kind ps) (sym is) ∙ t) none

-- without messages any types will do
mutual
  no_types : (schema : Schema) (kind : Option Kind) (v : Value) → holds_message v ≡ false → ValueTyped schema kind v
  no_types schema kind (ScalarValue v) none = tt
  no_types schema kind (MessageValue c) none = absurd (true≢false none)
  no_types schema kind (ListValue vs) none = no_types_list schema kind vs none
  no_types schema kind (MapValue ps) none = no_types_map schema kind ps none

  no_types_list : (schema : Schema) (kind : Option Kind) (vs : Values) → values_hold_message vs ≡ false → ValuesTyped schema kind vs
  no_types_list schema kind NoValues none = tt
  no_types_list schema kind (Item v vs) none = let (a, b) = or_parts (holds_message v) (values_hold_message vs) none in (no_types schema kind v a, no_types_list schema kind vs b)

  no_types_map : (schema : Schema) (kind : Option Kind) (ps : Pairs) → pairs_hold_message ps ≡ false → PairsTyped schema kind ps
  no_types_map schema kind NoPairs none = tt
  no_types_map schema kind (Pair x v ps) none = let (a, b) = or_parts (holds_message v) (pairs_hold_message ps) none in (no_types schema kind v a, no_types_map schema kind ps b)

stored_like : (pairs : TypePairs) (older newer : Schema) (f g : Field) (v : Value) → same_form pairs f.form g.form ≡ true → SameType pairs f.value_type g.value_type → holds_message v ≡ false → ValueStored older f v → ValueStored newer g v
stored_like pairs older newer f g v form type none s = record {
  valid = valid_like pairs f g v form type s.valid none;
  fits = s.fits;
  types = no_types newer (kind_for (Some g) v) v none;
  order = s.order;
  members = s.members;
}

-- PATHS

-- the message type of a kind, and its like's
pub message_like : (pairs : TypePairs) (k l : Kind) (U : ℕ) → same_kind pairs k l ≡ true → message_of_kind k ≡ Some U → (V : ℕ) × (message_of_kind l ≡ Some V) × (holds pairs U V ≡ true)
message_like pairs (MessageOf A) (MessageOf B) U h e = (B, refl, ap (λ (o : Option ℕ). elim o [ None ↦ false | Some x ↦ holds pairs x B ]) (sym e) ∙ h)
message_like pairs (GroupOf A) (GroupOf B) U h e = (B, refl, ap (λ (o : Option ℕ). elim o [ None ↦ false | Some x ↦ holds pairs x B ]) (sym e) ∙ h)
message_like pairs (ScalarOf k) l U h e = cc
message_like pairs _ _ U h e = absurd (true≢false (sym h))

pub path_like : (pairs : TypePairs) (older newer : Schema) (A B : ℕ) (path : List ℕ) (v : Value) → AllMatch pairs older newer → holds pairs A B ≡ true → holds_message v ≡ false → PathTo older A path v → PathTo newer B path v
path_like pairs older newer A B [] v all h none p = p
path_like pairs older newer A B (n ∷ []) v all h none (f, found, s) =
    let (g, l) = like pairs (known older A) (known newer B) n f (all A B h) found in
    (g, ap (field_of (known newer B)) (sym (field_number (known older A) n f found)) ∙ l.found, stored_like pairs older newer f g v l.form l.type none s)
path_like pairs older newer A B (n ∷ m ∷ path) v all h none (f, found, form, (U, e, rest)) =
    let (g, l) = like pairs (known older A) (known newer B) n f (all A B h) found in
    let (V, e', h') = message_like pairs f.value_type.kind g.value_type.kind U l.type.kind e in
    (g, ap (field_of (known newer B)) (sym (field_number (known older A) n f found)) ∙ l.found, single_like pairs f.form g.form form l.form, (V, e', path_like pairs older newer U V (m ∷ path) v all h' none rest))
