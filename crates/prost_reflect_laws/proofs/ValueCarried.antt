-- A value without messages that is set through an older type of a reduction.
use Rattle.std.specs.Prelude.{◌≡◌, ◌&&◌, ◌||◌}
use Rattle.prost_reflect_laws.proofs.Common.{ℕ, Bool, true, false, cond, not, Option, Some, None, refl, ap, ap₂, sym, subst, ◌∙◌, true≢false, and_parts, or_parts, Scalar, ScalarKind, Kind, ScalarOf, ValueType, FieldForm, Singular, Repeated, MapFrom, Field, Schema, is_singular, is_packable_kind, is_list, Value, ScalarValue, MessageValue, ListValue, MapValue, Values, NoValues, Item, Pairs, NoPairs, Pair, value_ordered, pairs_ordered, AllowsInside, MeansInside, present, present_list, present_map, is_default_of, kind_takes, element_valid, elements_valid, pairs_valid, value_valid, is_empty_value, kept_value, kept_inside, kept_values, kept_pairs, holds_message, values_hold_message, pairs_hold_message, TypePairs, same_kind, same_form}
use Rattle.prost_reflect_laws.proofs.Checked.{CheckedField, CheckedList, checked_list, CheckedMap, checked_map}
use Rattle.prost_reflect_laws.proofs.FieldTypes.{singular, repeated}
use Rattle.prost_reflect_laws.proofs.Alike.{SameType, same_type, default_of_alike}
use Rattle.prost_reflect_laws.proofs.ByNumber.{stored_payloads}
use Rattle.prost_reflect_laws.proofs.Again.{Again, scalar_again, FieldAgain, nothing_again}
use Rattle.prost_reflect_laws.proofs.SingleAgain.{value_again}
use Rattle.prost_reflect_laws.proofs.ListAgain.{scalar_list_again}
use Rattle.prost_reflect_laws.proofs.MapAgain.{scalar_map_again}

-- nothing is dropped from a value without messages
mutual
  pub all_kept : (v : Value) → holds_message v ≡ false → kept_inside v ≡ v
  all_kept (ScalarValue v) h = refl
  all_kept (MessageValue c) h = absurd (true≢false h)
  all_kept (ListValue vs) h = ap ListValue (values_kept vs h)
  all_kept (MapValue ps) h = ap MapValue (pairs_kept ps h)

  values_kept : (vs : Values) → values_hold_message vs ≡ false → kept_values vs ≡ vs
  values_kept NoValues h = refl
  values_kept (Item v vs) h =
      let (one, more) = or_parts (holds_message v) (values_hold_message vs) h in
      ap₂ Item (all_kept v one) (values_kept vs more)

  pairs_kept : (ps : Pairs) → pairs_hold_message ps ≡ false → kept_pairs ps ≡ ps
  pairs_kept NoPairs h = refl
  pairs_kept (Pair k v ps) h =
      let (one, more) = or_parts (holds_message v) (pairs_hold_message ps) h in
      ap₂ (Pair k) (all_kept v one) (pairs_kept ps more)

-- FORMS

pub single_like : (pairs : TypePairs) (c d : FieldForm) → c ≡ Singular → same_form pairs c d ≡ true → d ≡ Singular
single_like pairs c d e h = go c d e h
  where
    go : (c d : FieldForm) → c ≡ Singular → same_form pairs c d ≡ true → d ≡ Singular
    go Singular Singular e h = refl
    go (Repeated x) d e h = cc
    go (MapFrom key) d e h = cc
    go Singular _ e h = absurd (true≢false (sym h))

pub list_like : (pairs : TypePairs) (c d : FieldForm) (x : Bool) → c ≡ Repeated x → same_form pairs c d ≡ true → (y : Bool) × (d ≡ Repeated y)
list_like pairs (Repeated x) (Repeated y) z e h = (y, refl)
list_like pairs Singular d z e h = cc
list_like pairs (MapFrom key) d z e h = cc
list_like pairs (Repeated x) _ z e h = absurd (true≢false (sym h))

pub map_like : (pairs : TypePairs) (c d : FieldForm) (keyA : ValueType) → c ≡ MapFrom keyA → same_form pairs c d ≡ true → (keyB : ValueType) × (d ≡ MapFrom keyB) × SameType pairs keyA keyB
map_like pairs c d keyA e h = go d (ap (λ c. same_form pairs c d) (sym e) ∙ h)
  where
    go : (d : FieldForm) → same_form pairs (MapFrom keyA) d ≡ true → (keyB : ValueType) × (d ≡ MapFrom keyB) × SameType pairs keyA keyB
    go (MapFrom keyB) h = (keyB, refl, same_type pairs keyA keyB h)
    go _ h = absurd (true≢false (sym h))

pub of_map : (c : FieldForm) (kind : Kind) (ps : Pairs) → pairs_valid c kind ps ≡ true → (key : ValueType) × (c ≡ MapFrom key)
of_map (MapFrom key) kind ps h = (key, refl)
of_map _ kind ps h = absurd (true≢false (sym h))

-- KINDS

-- a scalar's kind, and its like's
pub record ScalarKinds (pairs : TypePairs) (k l : Kind) : Type 0 where
  pub older : ScalarKind
  pub newer : ScalarKind
  pub older_is : k ≡ ScalarOf older
  pub newer_is : l ≡ ScalarOf newer
  pub same : same_kind pairs (ScalarOf older) (ScalarOf newer) ≡ true

scalar_kinds : (pairs : TypePairs) (k l : Kind) (v : Scalar) → same_kind pairs k l ≡ true → kind_takes k v ≡ true → ScalarKinds pairs k l
scalar_kinds pairs (ScalarOf k) (ScalarOf l) v h t = record { older = k; newer = l; older_is = refl; newer_is = refl; same = h }
scalar_kinds pairs _ l v h t = cc

element_kinds : (pairs : TypePairs) (k l : Kind) (v : Value) → same_kind pairs k l ≡ true → element_valid k v ≡ true → holds_message v ≡ false → ScalarKinds pairs k l
element_kinds pairs k l (ScalarValue v) h t none = scalar_kinds pairs k l v h t
element_kinds pairs k l _ h t none = cc

-- WHAT IS KEPT

pub kept_by : (f : Field) (c : FieldForm) (v : Value) → f.form ≡ c → kept_value (Some f) v ≡ cond (is_empty_value c v || (is_singular c && is_default_of f.value_type v)) None (Some v)
kept_by f c v e = ap (λ c. cond (is_empty_value c v || (is_singular c && is_default_of f.value_type v)) None (Some v)) e

pub kept_list : (f : Field) (x : Bool) (vs : Values) → f.form ≡ Repeated x → kept_value (Some f) (ListValue vs) ≡ present_list vs
kept_list f x NoValues e = kept_by f (Repeated x) (ListValue NoValues) e
kept_list f x (Item v vs) e = kept_by f (Repeated x) (ListValue (Item v vs)) e

pub kept_map : (f : Field) (key : ValueType) (ps : Pairs) → f.form ≡ MapFrom key → kept_value (Some f) (MapValue ps) ≡ present_map ps
kept_map f key NoPairs e = kept_by f (MapFrom key) (MapValue NoPairs) e
kept_map f key (Pair k v ps) e = kept_by f (MapFrom key) (MapValue (Pair k v ps)) e

-- what is kept of a value by a field, and by its like
abbrev Carried : ℕ → AllowsInside → MeansInside → Field → Field → FieldForm → Option Value → Option Value → Type 0
Carried k a j f g c o p = FieldAgain k a j c g.value_type (stored_payloads (Some f) o) p

module _ (pairs : TypePairs) (k : ℕ) (a : AllowsInside) (j : MeansInside) where
  scalar_carried : (f g : Field) (v : Scalar) → SameType pairs f.value_type g.value_type → kind_takes f.value_type.kind v ≡ true → Carried k a j f g Singular (present f.value_type v) (present g.value_type v)
  scalar_carried f g v type takes =
      subst (λ b. FieldAgain k a j Singular g.value_type (stored_payloads (Some f) (present f.value_type v)) (cond b None (Some (ScalarValue v)))) (sym default) (go (is_default_of f.value_type (ScalarValue v)) refl)
    where
      kinds : ScalarKinds pairs f.value_type.kind g.value_type.kind
      kinds = scalar_kinds pairs f.value_type.kind g.value_type.kind v type.kind takes

      default : is_default_of g.value_type (ScalarValue v) ≡ is_default_of f.value_type (ScalarValue v)
      default = default_of_alike pairs f.value_type g.value_type kinds.older v kinds.older_is type

      again : Again a j f.value_type.kind g.value_type.kind (ScalarValue v) (ScalarValue v)
      again = subst (λ x. Again a j x g.value_type.kind (ScalarValue v) (ScalarValue v)) (sym kinds.older_is) (subst (λ x. Again a j (ScalarOf kinds.older) x (ScalarValue v) (ScalarValue v)) (sym kinds.newer_is)
          (scalar_again pairs a j kinds.older kinds.newer v kinds.same (ap (λ x. kind_takes x v) (sym kinds.older_is) ∙ takes)))

      go : (b : Bool) → is_default_of f.value_type (ScalarValue v) ≡ b → FieldAgain k a j Singular g.value_type (stored_payloads (Some f) (cond b None (Some (ScalarValue v)))) (cond b None (Some (ScalarValue v)))
      go true e = nothing_again k a j Singular g.value_type
      go false e = subst (λ (o : Option Value). FieldAgain k a j Singular g.value_type (stored_payloads (Some f) (Some (ScalarValue v))) o) (ap (λ b. cond b None (Some (ScalarValue v))) (default ∙ e)) (value_again k a j f g.value_type (ScalarValue v) (ScalarValue v) tt again)

  list_carried : (older : Schema) (f g : Field) (x y : Bool) (vs : Values) → SameType pairs f.value_type g.value_type → CheckedField older f → f.form ≡ Repeated x → elements_valid f.value_type.kind vs ≡ true → values_hold_message vs ≡ false →
      Carried k a j f g (Repeated y) (present_list vs) (present_list vs)
  list_carried older f g x y NoValues type checked form ok none = nothing_again k a j (Repeated y) g.value_type
  list_carried older f g x y (Item v vs) type checked form ok none =
      let kinds : ScalarKinds pairs f.value_type.kind g.value_type.kind =
      element_kinds pairs f.value_type.kind g.value_type.kind v type.kind (and_parts (element_valid f.value_type.kind v) (elements_valid f.value_type.kind vs) ok).0 (or_parts (holds_message v) (values_hold_message vs) none).0 in
      let l : CheckedList f x = checked_list older f x checked form in
      scalar_list_again pairs k a j f x y g.value_type kinds.older kinds.newer (Item v vs) form kinds.older_is kinds.newer_is kinds.same
      (ap (λ kd. not x || is_packable_kind kd) (sym kinds.older_is) ∙ l.packable) (ap (λ kd. elements_valid kd (Item v vs)) (sym kinds.older_is) ∙ ok)

  map_carried : (older : Schema) (f g : Field) (keyA keyB : ValueType) (ps : Pairs) → SameType pairs f.value_type g.value_type → SameType pairs keyA keyB → CheckedField older f → f.form ≡ MapFrom keyA →
      pairs_valid (MapFrom keyA) f.value_type.kind ps ≡ true → pairs_hold_message ps ≡ false → pairs_ordered ps ≡ true → Carried k a j f g (MapFrom keyB) (present_map ps) (present_map ps)
  map_carried older f g keyA keyB NoPairs type key checked form ok none order = nothing_again k a j (MapFrom keyB) g.value_type
  map_carried older f g keyA keyB (Pair x v ps) type key checked form ok none order =
      let here : (kind_takes keyA.kind x && element_valid f.value_type.kind v) ≡ true = (and_parts (kind_takes keyA.kind x && element_valid f.value_type.kind v) (pairs_valid (MapFrom keyA) f.value_type.kind ps) ok).0 in
      let kinds : ScalarKinds pairs f.value_type.kind g.value_type.kind =
      element_kinds pairs f.value_type.kind g.value_type.kind v type.kind (and_parts (kind_takes keyA.kind x) (element_valid f.value_type.kind v) here).1 (or_parts (holds_message v) (pairs_hold_message ps) none).0 in
      let m : CheckedMap f keyA = checked_map older f keyA checked form in
      scalar_map_again pairs k a j f keyA keyB g.value_type kinds.older kinds.newer (Pair x v ps) form (record { key = key; value = type; keyed = m.keyed; key_default = m.key_default; default = checked.default }) kinds.older_is kinds.newer_is kinds.same
      (ap (λ kd. pairs_valid (MapFrom keyA) kd (Pair x v ps)) (sym kinds.older_is) ∙ ok) order

moved : (k : ℕ) (a : AllowsInside) (j : MeansInside) (f g : Field) (c : FieldForm) (v : Value) (o p : Option Value) → g.form ≡ c → kept_value (Some f) v ≡ o → kept_value (Some g) v ≡ p → Carried k a j f g c o p →
    FieldAgain k a j g.form g.value_type (stored_payloads (Some f) (kept_value (Some f) v)) (kept_value (Some g) v)
moved k a j f g c v o p e x y h =
    subst (λ c. FieldAgain k a j c g.value_type (stored_payloads (Some f) (kept_value (Some f) v)) (kept_value (Some g) v)) (sym e)
    (subst (λ (o : Option Value). FieldAgain k a j c g.value_type (stored_payloads (Some f) o) (kept_value (Some g) v)) (sym x) (subst (λ (p : Option Value). FieldAgain k a j c g.value_type (stored_payloads (Some f) o) p) (sym y) h))

-- the value as both fields keep it
pub value_carried : (pairs : TypePairs) (k : ℕ) (a : AllowsInside) (j : MeansInside) (older : Schema) (f g : Field) (v : Value) → same_form pairs f.form g.form ≡ true → SameType pairs f.value_type g.value_type → CheckedField older f →
    value_valid f v ≡ true → value_ordered v ≡ true → holds_message v ≡ false → FieldAgain k a j g.form g.value_type (stored_payloads (Some f) (kept_value (Some f) v)) (kept_value (Some g) v)
value_carried pairs k a j older f g (MessageValue c) form type checked ok order none = absurd (true≢false none)
value_carried pairs k a j older f g (ScalarValue v) form type checked ok order none =
    let (s, takes) = and_parts (is_singular f.form) (kind_takes f.value_type.kind v) ok in
    let is : f.form ≡ Singular = singular f.form s in
    let like : g.form ≡ Singular = single_like pairs f.form g.form is form in
    moved k a j f g Singular (ScalarValue v) (present f.value_type v) (present g.value_type v) like (kept_by f Singular (ScalarValue v) is) (kept_by g Singular (ScalarValue v) like) (scalar_carried pairs k a j f g v type takes)
value_carried pairs k a j older f g (ListValue vs) form type checked ok order none =
    let (r, valid) = and_parts (is_list f.form) (elements_valid f.value_type.kind vs) ok in
    let (x, is) = repeated f.form r in
    let (y, like) = list_like pairs f.form g.form x is form in
    moved k a j f g (Repeated y) (ListValue vs) (present_list vs) (present_list vs) like (kept_list f x vs is) (kept_list g y vs like) (list_carried pairs k a j older f g x y vs type checked is valid none)
value_carried pairs k a j older f g (MapValue ps) form type checked ok order none =
    let (keyA, is) = of_map f.form f.value_type.kind ps ok in
    let (keyB, like, key) = map_like pairs f.form g.form keyA is form in
    moved k a j f g (MapFrom keyB) (MapValue ps) (present_map ps) (present_map ps) like (kept_map f keyA ps is) (kept_map g keyB ps like)
    (map_carried pairs k a j older f g keyA keyB ps type key checked is (ap (λ c. pairs_valid c f.value_type.kind ps) (sym is) ∙ ok) none order)
