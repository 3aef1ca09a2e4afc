-- What is read of payloads that are allowed is well-typed, and nests no more levels than are left.
use Rattle.std.specs.Prelude.{◌≡◌, ◌≤◌, ◌<◌, ◌&&◌, ◌∷◌, ◌++◌}
use Rattle.prost_reflect_laws.proofs.Common.{ℕ, suc, Bool, true, false, cond, not, List, [], Option, Some, None, refl, ap, sym, ◌∙◌, subst, arith, true≢false, max, list_all, eq-eqb, eqb-true, ltb-true, and_parts, and_from, not-true, ◌>>=◌, Payload, Record, body_of, valid, payload_valid, Scalar, ScalarKind, elem, scalar_lt, scalar_eq, scalar_valid, kind_default, is_undeclared, Kind, ScalarOf, MessageOf, GroupOf, ValueType, FieldForm, Singular, Repeated, MapFrom, Field, Schema, is_message, is_singular, is_key_kind, default_valid, passes, is_list, Content, Value, ScalarValue, MessageValue, ListValue, MapValue, Values, NoValues, Item, Pairs, NoPairs, Pair, schema_of, type_of, values_from, ◌and_then◌, ordered, value_ordered, values_ordered, pairs_ordered, AllowsInside, body, records_in, numbered, last, is_len, is_group_payload, one_allowed, has_level, in_entry_allowed, field_allowed, is_stray, is_stray_entry, MeansInside, JoinsInside, present, present_list, present_map, joined, element, scalar_values, last_or, put, entry_key, entry_value, put_entry, content_in, values_in, pairs_in, one_joined, value_joined, levels, value_levels, values_levels, pairs_levels, kind_takes, element_valid, elements_valid, pairs_valid, value_valid, everywhere, value_passes, values_pass, pairs_pass, is_empty_value, is_of_type, Typed, ValueTyped, ValuesTyped, PairsTyped, is_default_of, passes_in, message_in, numbered_two, element_allowed, source_allowed}
use Rattle.prost_reflect_laws.proofs.Arranged.{put_ordered}
use Rattle.prost_reflect_laws.proofs.Declared.{read_valid}
use Rattle.prost_reflect_laws.proofs.FieldTypes.{field_typed, typed_field}
use Rattle.prost_reflect_laws.proofs.Readable.{inside_spelled, numbered_valid}
use Rattle.prost_reflect_laws.proofs.Slots.{deep_test, GoodValue}
use Rattle.prost_reflect_laws.proofs.EntryDefaults.{default_valid_key, key_stays, last_or_valid}
use Rattle.prost_reflect_laws.proofs.Inside.{joined_valid}

-- ONE LEVEL DOWN

-- a well-typed message of the type, at a level that is left
pub record Inside (schema : Schema) (k T : ℕ) (c : Content) : Type 0 where
  pub schema_same : schema_of c ≡ schema
  pub type_same : type_of c ≡ T
  pub deep : everywhere deep_test c ≡ true
  pub types : Typed c
  pub order : ordered c ≡ true
  pub low : suc (levels c) ≤ k

-- what is read and joined there is such
pub record GoodInside (schema : Schema) (k : ℕ) (allow : AllowsInside) (inner : MeansInside) (further : JoinsInside) : Type 0 where
  pub read : (T : ℕ) (rs : List Record) → valid (body_of rs) ≡ true → allow T rs ≡ true → Inside schema k T (inner T rs)
  pub join : (T : ℕ) (c : Content) (rs : List Record) → Inside schema k T c → valid (body_of rs) ≡ true → allow T rs ≡ true → Inside schema k T (further c rs)
  pub append : (T : ℕ) (xs ys : List Record) → allow T xs ≡ true → allow T ys ≡ true → allow T (xs ++ ys) ≡ true
  pub none : (T : ℕ) (rs : List Record) → allow T rs ≡ true → allow T [] ≡ true
  pub level : (T : ℕ) → 0 < k → allow T [] ≡ true

-- ELEMENTS

pub record GoodElement (schema : Schema) (kind : Kind) (k : ℕ) (v : Value) : Type 0 where
  pub valid : element_valid kind v ≡ true
  pub deep : value_passes deep_test v ≡ true
  pub types : ValueTyped schema (Some kind) v
  pub order : value_ordered v ≡ true
  pub low : value_levels v ≤ k

pub record GoodElements (schema : Schema) (kind : Kind) (k : ℕ) (vs : Values) : Type 0 where
  pub valid : elements_valid kind vs ≡ true
  pub deep : values_pass deep_test vs ≡ true
  pub types : ValuesTyped schema (Some kind) vs
  pub order : values_ordered vs ≡ true
  pub low : values_levels vs ≤ k

pub record GoodPairs (schema : Schema) (key : ValueType) (kind : Kind) (k : ℕ) (ps : Pairs) : Type 0 where
  pub valid : pairs_valid (MapFrom key) kind ps ≡ true
  pub deep : pairs_pass deep_test ps ≡ true
  pub types : PairsTyped schema (Some kind) ps
  pub order : pairs_ordered ps ≡ true
  pub low : pairs_levels ps ≤ k

scalar_good : (schema : Schema) (kind : ScalarKind) (k : ℕ) (v : Scalar) → scalar_valid kind v ≡ true → GoodElement schema (ScalarOf kind) k (ScalarValue v)
scalar_good schema kind k v h = record { valid = h; deep = refl; types = tt; order = refl; low = omega arith }

message_good : (schema : Schema) (kind : Kind) (k T : ℕ) (c : Content) → is_message kind ≡ true → is_of_type kind T ≡ true → Inside schema k T c → GoodElement schema kind k (MessageValue c)
message_good schema kind k T c m t i = record { valid = m; deep = i.deep; types = ((i.schema_same, ap (is_of_type kind) i.type_same ∙ t), i.types); order = i.order; low = i.low }

own : (n : ℕ) → is_of_type (MessageOf n) n ≡ true
own n = eq-eqb n n refl

own_group : (n : ℕ) → is_of_type (GroupOf n) n ≡ true
own_group n = eq-eqb n n refl

module _ (schema : Schema) (kind : Kind) (k : ℕ) where
  no_elements : GoodElements schema kind k NoValues
  no_elements = record { valid = refl; deep = refl; types = tt; order = refl; low = omega arith }

  one_more : (v : Value) (vs : Values) → GoodElement schema kind k v → GoodElements schema kind k vs → GoodElements schema kind k (Item v vs)
  one_more v vs g h =
      let a : value_levels v ≤ k = g.low in
      let b : values_levels vs ≤ k = h.low in
      record { valid = and_from _ _ g.valid h.valid; deep = and_from _ _ g.deep h.deep; types = (g.types, h.types); order = and_from _ _ g.order h.order; low = omega arith }

  first_element : (v : Value) (vs : Values) → GoodElements schema kind k (Item v vs) → GoodElement schema kind k v
  first_element v vs g =
      let l : max (value_levels v) (values_levels vs) ≤ k = g.low in
      record {
        valid = (and_parts (element_valid kind v) (elements_valid kind vs) g.valid).0;
        deep = (and_parts (value_passes deep_test v) (values_pass deep_test vs) g.deep).0;
        types = g.types.0;
        order = (and_parts (value_ordered v) (values_ordered vs) g.order).0;
        low = omega arith;
      }

  more_elements : (v : Value) (vs : Values) → GoodElements schema kind k (Item v vs) → GoodElements schema kind k vs
  more_elements v vs g =
      let l : max (value_levels v) (values_levels vs) ≤ k = g.low in
      record {
        valid = (and_parts (element_valid kind v) (elements_valid kind vs) g.valid).1;
        deep = (and_parts (value_passes deep_test v) (values_pass deep_test vs) g.deep).1;
        types = g.types.1;
        order = (and_parts (value_ordered v) (values_ordered vs) g.order).1;
        low = omega arith;
      }

  then_good : (vs ws : Values) → GoodElements schema kind k vs → GoodElements schema kind k ws → GoodElements schema kind k (vs and_then ws)
  then_good NoValues ws g h = h
  then_good (Item v vs) ws g h = one_more v (vs and_then ws) (first_element v vs g) (then_good vs ws (more_elements v vs g) h)

-- what a payload gives a list
element_good : (schema : Schema) (k : ℕ) (allow : AllowsInside) (inner : MeansInside) (further : JoinsInside) (kind : Kind) (p : Payload) → GoodInside schema k allow inner further →
    payload_valid p ≡ true → element_allowed allow kind p ≡ true → is_stray kind p ≡ false → GoodElements schema kind k (values_from (element inner kind p))
element_good schema k allow inner further (ScalarOf kind) p g v a s = go (elem kind p) refl
  where
    go : (o : Option Scalar) → elem kind p ≡ o → GoodElements schema (ScalarOf kind) k (values_from (scalar_values o))
    go None e = no_elements schema (ScalarOf kind) k
    go (Some w) e = one_more schema (ScalarOf kind) k (ScalarValue w) NoValues (scalar_good schema kind k w (read_valid kind p w v s e)) (no_elements schema (ScalarOf kind) k)
element_good schema k allow inner further (MessageOf T) p g v a s =
    one_more schema (MessageOf T) k (MessageValue (inner T (records_in p))) NoValues
    (message_good schema (MessageOf T) k T (inner T (records_in p)) refl (own T) (g.read T (records_in p) (inside_spelled p v) (message_in allow T is_len p a))) (no_elements schema (MessageOf T) k)
element_good schema k allow inner further (GroupOf T) p g v a s =
    one_more schema (GroupOf T) k (MessageValue (inner T (records_in p))) NoValues
    (message_good schema (GroupOf T) k T (inner T (records_in p)) refl (own_group T) (g.read T (records_in p) (inside_spelled p v) (message_in allow T is_group_payload p a))) (no_elements schema (GroupOf T) k)

-- ENTRIES

no_pairs : (schema : Schema) (key : ValueType) (kind : Kind) (k : ℕ) → GoodPairs schema key kind k NoPairs
no_pairs schema key kind k = record { valid = refl; deep = refl; types = tt; order = refl; low = omega arith }

-- all of a pair but the order
pub record PairParts (schema : Schema) (key : ValueType) (kind : Kind) (k : ℕ) (ps : Pairs) : Type 0 where
  pub valid : pairs_valid (MapFrom key) kind ps ≡ true
  pub deep : pairs_pass deep_test ps ≡ true
  pub types : PairsTyped schema (Some kind) ps
  pub low : pairs_levels ps ≤ k

module _ (schema : Schema) (key : ValueType) (kind : Kind) (k : ℕ) (x : Scalar) (v : Value) where
  one_pair : (ps : Pairs) → kind_takes key.kind x ≡ true → GoodElement schema kind k v → PairParts schema key kind k ps → PairParts schema key kind k (Pair x v ps)
  one_pair ps t g h =
      let a : value_levels v ≤ k = g.low in
      let b : pairs_levels ps ≤ k = h.low in
      record { valid = and_from _ _ (and_from _ _ t g.valid) h.valid; deep = and_from _ _ g.deep h.deep; types = (g.types, h.types); low = omega arith }

  put_parts : (ps : Pairs) → kind_takes key.kind x ≡ true → GoodElement schema kind k v → PairParts schema key kind k ps → PairParts schema key kind k (put x v ps)
  put_parts NoPairs t g h = one_pair NoPairs t g h
  put_parts (Pair y w ps) t g h =
      let (ab, c) = and_parts (kind_takes key.kind y && element_valid kind w) (pairs_valid (MapFrom key) kind ps) h.valid in
      let (a, b) = and_parts (kind_takes key.kind y) (element_valid kind w) ab in
      let (d, e) = and_parts (value_passes deep_test w) (pairs_pass deep_test ps) h.deep in
      let l : max (value_levels w) (pairs_levels ps) ≤ k = h.low in
      let low : value_levels w ≤ k = omega arith in
      let low' : pairs_levels ps ≤ k = omega arith in
      let rest : PairParts schema key kind k ps = record { valid = c; deep = e; types = h.types.1; low = low' } in
      let more : PairParts schema key kind k (put x v ps) = put_parts ps t g rest in
      go (scalar_lt x y) (scalar_eq x y) rest (again a b d low more)
    where
      again : kind_takes key.kind y ≡ true → element_valid kind w ≡ true → value_passes deep_test w ≡ true → value_levels w ≤ k → PairParts schema key kind k (put x v ps) → PairParts schema key kind k (Pair y w (put x v ps))
      again a b d low more =
          let l : pairs_levels (put x v ps) ≤ k = more.low in
          record { valid = and_from _ _ (and_from _ _ a b) more.valid; deep = and_from _ _ d more.deep; types = (h.types.0, more.types); low = omega arith }

      go : (m n : Bool) → PairParts schema key kind k ps → PairParts schema key kind k (Pair y w (put x v ps)) → PairParts schema key kind k (cond m (Pair x v (Pair y w ps)) (cond n (Pair x v ps) (Pair y w (put x v ps))))
      go true n rest more = one_pair (Pair y w ps) t g h
      go false true rest more = one_pair ps t g rest
      go false false rest more = more

  put_good : (ps : Pairs) → kind_takes key.kind x ≡ true → GoodElement schema kind k v → GoodPairs schema key kind k ps → GoodPairs schema key kind k (put x v ps)
  put_good ps t g h =
      let p : PairParts schema key kind k (put x v ps) = put_parts ps t g (record { valid = h.valid; deep = h.deep; types = h.types; low = h.low }) in
      record { valid = p.valid; deep = p.deep; types = p.types; order = put_ordered x v ps g.order h.order; low = p.low }

key_good : (key : ValueType) (rs : List Record) → is_key_kind key.kind ≡ true → valid (body_of rs) ≡ true → kind_takes key.kind (entry_key key rs) ≡ true
key_good key rs h v = go key.kind h
  where
    go : (kind : Kind) → is_key_kind kind ≡ true → kind_takes kind (elim kind [ ScalarOf kind ↦ last_or kind (kind_default kind) (numbered 1 rs) | _ ↦ key.default ]) ≡ true
    go (ScalarOf kind) h = last_or_valid kind (kind_default kind) (numbered 1 rs) (default_valid_key kind h) (numbered_valid 1 rs v) (λ p e. key_stays kind p h)
    go _ h = absurd (true≢false (sym h))

joined_allowed : (schema : Schema) (k T : ℕ) (allow : AllowsInside) (inner : MeansInside) (further : JoinsInside) (shape : Payload → Bool) (ps : List Payload) → GoodInside schema k allow inner further → allow T [] ≡ true →
    list_all (λ p. shape p && passes (body p) (allow T)) ps ≡ true → allow T (joined ps) ≡ true
joined_allowed schema k T allow inner further shape [] g z h = z
joined_allowed schema k T allow inner further shape (p ∷ ps) g z h =
    let (one, more) = and_parts (shape p && passes (body p) (allow T)) (list_all (λ p. shape p && passes (body p) (allow T)) ps) h in
    g.append T (records_in p) (joined ps) (message_in allow T shape p one) (joined_allowed schema k T allow inner further shape ps g z more)

entry_value_good : (schema : Schema) (k : ℕ) (allow : AllowsInside) (inner : MeansInside) (further : JoinsInside) (value_type : ValueType) (kind : Kind) (rs : List Record) → GoodInside schema k allow inner further →
    default_valid kind value_type.default ≡ true → has_level k kind ≡ true → valid (body_of rs) ≡ true → list_all (one_allowed allow kind) (numbered 2 rs) ≡ true → (elim (last (numbered 2 rs)) [ None ↦ false | Some q ↦ is_stray kind q ]) ≡ false →
    GoodElement schema kind k (entry_value inner value_type kind rs)
entry_value_good schema k allow inner further value_type (ScalarOf kind) rs g d l v a s =
    scalar_good schema kind k (last_or kind value_type.default (numbered 2 rs)) (last_or_valid kind value_type.default (numbered 2 rs) d (numbered_valid 2 rs v) (λ p e. sym (ap (λ (o : Option Payload). elim o [ None ↦ false | Some q ↦ is_undeclared kind q ]) e) ∙ s))
entry_value_good schema k allow inner further value_type (MessageOf T) rs g d l v a s =
    message_good schema (MessageOf T) k T (inner T (joined (numbered 2 rs))) refl (own T)
    (g.read T (joined (numbered 2 rs)) (joined_valid (numbered 2 rs) (numbered_valid 2 rs v)) (joined_allowed schema k T allow inner further is_len (numbered 2 rs) g (g.level T (ltb-true 0 k l)) a))
entry_value_good schema k allow inner further value_type (GroupOf T) rs g d l v a s =
    message_good schema (GroupOf T) k T (inner T (joined (numbered 2 rs))) refl (own_group T)
    (g.read T (joined (numbered 2 rs)) (joined_valid (numbered 2 rs) (numbered_valid 2 rs v)) (joined_allowed schema k T allow inner further is_group_payload (numbered 2 rs) g (g.level T (ltb-true 0 k l)) a))

entry_good : (schema : Schema) (k : ℕ) (allow : AllowsInside) (inner : MeansInside) (further : JoinsInside) (key value_type : ValueType) (p : Payload) (ps : Pairs) → GoodInside schema k allow inner further →
    is_key_kind key.kind ≡ true → default_valid value_type.kind value_type.default ≡ true → payload_valid p ≡ true → field_allowed k allow (MapFrom key) value_type p ≡ true → is_stray_entry value_type p ≡ false →
    GoodPairs schema key value_type.kind k ps → GoodPairs schema key value_type.kind k (put_entry inner key value_type p ps)
entry_good schema k allow inner further key value_type p ps g h d v a s pairs =
    let (shape, inside) = and_parts (is_len p && has_level k value_type.kind) (passes (body p) (list_all (in_entry_allowed k allow key value_type))) a in
    let all : list_all (in_entry_allowed k allow key value_type) (records_in p) ≡ true = passes_in p (list_all (in_entry_allowed k allow key value_type)) inside in
    let spelt : valid (body_of (records_in p)) ≡ true = inside_spelled p v in
    put_good schema key value_type.kind k (entry_key key (records_in p)) (entry_value inner value_type value_type.kind (records_in p)) ps (key_good key (records_in p) h spelt)
    (entry_value_good schema k allow inner further value_type value_type.kind (records_in p) g d (and_parts (is_len p) (has_level k value_type.kind) shape).1 spelt (numbered_two k allow key value_type (records_in p) all) s) pairs

-- A FIELD

-- what a payload joined with a good value gives, where the form of the field is known
pub record FieldGiven (schema : Schema) (k : ℕ) (f : Field) (old : Option Value) : Type 0 where
  pub default : default_valid f.value_type.kind f.value_type.default ≡ true
  pub keyed : (key : ValueType) → f.form ≡ MapFrom key → is_key_kind key.kind ≡ true
  pub old_good : (v : Value) → old ≡ Some v → GoodValue schema (Some f) k v

-- a single value of the field
single_good : (schema : Schema) (k : ℕ) (f : Field) (v : Value) → f.form ≡ Singular → GoodElement schema f.value_type.kind k v → is_default_of f.value_type v ≡ false → GoodValue schema (Some f) k v
single_good schema k f (ScalarValue v) s g d = record {
  valid = and_from _ _ (ap is_singular s) g.valid;
  filled = ap (λ c. not (is_empty_value c (ScalarValue v))) s;
  default = ap (λ b. not (is_singular f.form && b)) d ∙ nothing (is_singular f.form);
  deep = g.deep;
  types = tt;
  order = g.order;
  low = g.low;
}
  where
    nothing : (b : Bool) → not (b && false) ≡ true
    nothing true = refl
    nothing false = refl
single_good schema k f (MessageValue c) s g d =
    let valid : value_valid f (MessageValue c) ≡ true = and_from _ _ (ap is_singular s) g.valid in
    record {
      valid = valid;
      filled = ap (λ x. not (is_empty_value x (MessageValue c))) s;
      default = nothing (is_singular f.form);
      deep = g.deep;
      types = typed_field schema f (MessageValue c) valid g.types;
      order = g.order;
      low = g.low;
    }
  where
    nothing : (b : Bool) → not (b && false) ≡ true
    nothing true = refl
    nothing false = refl
single_good schema k f _ s g d = absurd (true≢false (sym g.valid))

-- the message that is there, or an empty one
pub content_good : (schema : Schema) (k T : ℕ) (allow : AllowsInside) (inner : MeansInside) (further : JoinsInside) (f : Field) (old : Option Value) (rs : List Record) → GoodInside schema k allow inner further → f.form ≡ Singular → is_message f.value_type.kind ≡ true →
    ((U : ℕ) → is_of_type f.value_type.kind U ≡ true → U ≡ T) → ((v : Value) → old ≡ Some v → GoodValue schema (Some f) k v) → allow T rs ≡ true → Inside schema k T (content_in inner T old)
content_good schema k T allow inner further f None rs g s m t old a = g.read T [] refl (g.none T rs a)
content_good schema k T allow inner further f (Some (ScalarValue v)) rs g s m t old a = g.read T [] refl (g.none T rs a)
content_good schema k T allow inner further f (Some (ListValue vs)) rs g s m t old a = g.read T [] refl (g.none T rs a)
content_good schema k T allow inner further f (Some (MapValue ps)) rs g s m t old a = g.read T [] refl (g.none T rs a)
content_good schema k T allow inner further f (Some (MessageValue c)) rs g s m t old a =
    let here : GoodValue schema (Some f) k (MessageValue c) = old (MessageValue c) refl in
    let (of, types) = field_typed schema f (MessageValue c) here.valid here.types in
    record { schema_same = of.0; type_same = t (type_of c) of.1; deep = here.deep; types = types; order = here.order; low = here.low }

one_joined_good : (schema : Schema) (k : ℕ) (allow : AllowsInside) (inner : MeansInside) (further : JoinsInside) (f : Field) (old : Option Value) (p : Payload) (v : Value) → GoodInside schema k allow inner further → FieldGiven schema k f old → f.form ≡ Singular →
    payload_valid p ≡ true → one_allowed allow f.value_type.kind p ≡ true → is_stray f.value_type.kind p ≡ false → one_joined inner further f.value_type f.value_type.kind old p ≡ Some v → GoodValue schema (Some f) k v
one_joined_good schema k allow inner further f old p v g given s spelt a stray e = go f.value_type.kind refl a stray e
  where
    read : (kind : ScalarKind) → f.value_type.kind ≡ ScalarOf kind → is_undeclared kind p ≡ false → (o : Option Scalar) → elem kind p ≡ o → (o >>= present f.value_type) ≡ Some v → GoodValue schema (Some f) k v
    read kind same stray None r e = absurd cc
    read kind same stray (Some w) r e = by (not f.value_type.presence && scalar_eq w f.value_type.default) refl e
      where
        by : (b : Bool) → (not f.value_type.presence && scalar_eq w f.value_type.default) ≡ b → cond b None (Some (ScalarValue w)) ≡ Some v → GoodValue schema (Some f) k v
        by true d e = absurd cc
        by false d e =
            let it : GoodElement schema (ScalarOf kind) k (ScalarValue w) = scalar_good schema kind k w (read_valid kind p w spelt stray r) in
            let same_value : ScalarValue w ≡ v = cc in
            subst (λ (x : Value). GoodValue schema (Some f) k x) same_value (single_good schema k f (ScalarValue w) s (subst (λ (x : Kind). GoodElement schema x k (ScalarValue w)) (sym same) it) d)

    go : (kind : Kind) → f.value_type.kind ≡ kind → one_allowed allow kind p ≡ true → is_stray kind p ≡ false → one_joined inner further f.value_type kind old p ≡ Some v → GoodValue schema (Some f) k v
    go (ScalarOf kind) same a stray e = read kind same stray (elem kind p) refl e
    go (MessageOf T) same a stray e =
        let inside : allow T (records_in p) ≡ true = message_in allow T is_len p a in
        let there : Inside schema k T (content_in inner T old) = content_good schema k T allow inner further f old (records_in p) g s (ap is_message same) (λ U h. eqb-true U T (sym (ap (λ x. is_of_type x U) same) ∙ h)) given.old_good inside in
        let it : GoodElement schema (MessageOf T) k (MessageValue (further (content_in inner T old) (records_in p))) = message_good schema (MessageOf T) k T (further (content_in inner T old) (records_in p)) refl (own T) (g.join T (content_in inner T old) (records_in p) there (inside_spelled p spelt) inside) in
        let same_value : MessageValue (further (content_in inner T old) (records_in p)) ≡ v = cc in
        subst (λ (x : Value). GoodValue schema (Some f) k x) same_value (single_good schema k f (MessageValue (further (content_in inner T old) (records_in p))) s (subst (λ (x : Kind). GoodElement schema x k (MessageValue (further (content_in inner T old) (records_in p)))) (sym same) it) refl)
    go (GroupOf T) same a stray e =
        let inside : allow T (records_in p) ≡ true = message_in allow T is_group_payload p a in
        let there : Inside schema k T (content_in inner T old) = content_good schema k T allow inner further f old (records_in p) g s (ap is_message same) (λ U h. eqb-true U T (sym (ap (λ x. is_of_type x U) same) ∙ h)) given.old_good inside in
        let it : GoodElement schema (GroupOf T) k (MessageValue (further (content_in inner T old) (records_in p))) = message_good schema (GroupOf T) k T (further (content_in inner T old) (records_in p)) refl (own_group T) (g.join T (content_in inner T old) (records_in p) there (inside_spelled p spelt) inside) in
        let same_value : MessageValue (further (content_in inner T old) (records_in p)) ≡ v = cc in
        subst (λ (x : Value). GoodValue schema (Some f) k x) same_value (single_good schema k f (MessageValue (further (content_in inner T old) (records_in p))) s (subst (λ (x : Kind). GoodElement schema x k (MessageValue (further (content_in inner T old) (records_in p)))) (sym same) it) refl)

module _ (schema : Schema) (k : ℕ) (f : Field) where
  -- a list of the field
  values_good : (packed : Bool) (old : Option Value) → f.form ≡ Repeated packed → ((v : Value) → old ≡ Some v → GoodValue schema (Some f) k v) → GoodElements schema f.value_type.kind k (values_in old)
  values_good packed None s old = no_elements schema f.value_type.kind k
  values_good packed (Some (ScalarValue v)) s old = no_elements schema f.value_type.kind k
  values_good packed (Some (MessageValue c)) s old = no_elements schema f.value_type.kind k
  values_good packed (Some (MapValue ps)) s old = no_elements schema f.value_type.kind k
  values_good packed (Some (ListValue vs)) s old =
      let here : GoodValue schema (Some f) k (ListValue vs) = old (ListValue vs) refl in
      record { valid = (and_parts (is_list f.form) (elements_valid f.value_type.kind vs) here.valid).1; deep = here.deep; types = field_typed schema f (ListValue vs) here.valid here.types; order = here.order; low = here.low }

  list_given : (packed : Bool) (vs : Values) (v : Value) → f.form ≡ Repeated packed → GoodElements schema f.value_type.kind k vs → present_list vs ≡ Some v → GoodValue schema (Some f) k v
  list_given packed NoValues v s g e = absurd cc
  list_given packed (Item w ws) v s g e =
      let valid : value_valid f (ListValue (Item w ws)) ≡ true = and_from _ _ (ap is_list s) g.valid in
      let it : GoodValue schema (Some f) k (ListValue (Item w ws)) = record {
        valid = valid;
        filled = ap (λ c. not (is_empty_value c (ListValue (Item w ws)))) s;
        default = ap (λ c. not (is_singular c && is_default_of f.value_type (ListValue (Item w ws)))) s;
        deep = g.deep;
        types = typed_field schema f (ListValue (Item w ws)) valid g.types;
        order = g.order;
        low = g.low;
      } in
      let same : ListValue (Item w ws) ≡ v = cc in
      subst (λ (x : Value). GoodValue schema (Some f) k x) same it

  -- a map of the field
  pairs_good : (key : ValueType) (old : Option Value) → f.form ≡ MapFrom key → ((v : Value) → old ≡ Some v → GoodValue schema (Some f) k v) → GoodPairs schema key f.value_type.kind k (pairs_in old)
  pairs_good key None s old = no_pairs schema key f.value_type.kind k
  pairs_good key (Some (ScalarValue v)) s old = no_pairs schema key f.value_type.kind k
  pairs_good key (Some (MessageValue c)) s old = no_pairs schema key f.value_type.kind k
  pairs_good key (Some (ListValue vs)) s old = no_pairs schema key f.value_type.kind k
  pairs_good key (Some (MapValue ps)) s old =
      let here : GoodValue schema (Some f) k (MapValue ps) = old (MapValue ps) refl in
      record { valid = ap (λ c. pairs_valid c f.value_type.kind ps) (sym s) ∙ here.valid; deep = here.deep; types = here.types; order = here.order; low = here.low }

  map_given : (key : ValueType) (ps : Pairs) (v : Value) → f.form ≡ MapFrom key → GoodPairs schema key f.value_type.kind k ps → present_map ps ≡ Some v → GoodValue schema (Some f) k v
  map_given key NoPairs v s g e = absurd cc
  map_given key (Pair x w ps) v s g e =
      let it : GoodValue schema (Some f) k (MapValue (Pair x w ps)) = record {
        valid = ap (λ c. pairs_valid c f.value_type.kind (Pair x w ps)) s ∙ g.valid;
        filled = ap (λ c. not (is_empty_value c (MapValue (Pair x w ps)))) s;
        default = ap (λ c. not (is_singular c && is_default_of f.value_type (MapValue (Pair x w ps)))) s;
        deep = g.deep;
        types = g.types;
        order = g.order;
        low = g.low;
      } in
      let same : MapValue (Pair x w ps) ≡ v = cc in
      subst (λ (x : Value). GoodValue schema (Some f) k x) same it

-- a payload of the field that is read as a value
abbrev pub NoStray : FieldForm → ValueType → Payload → Bool
NoStray Singular value_type p = not (is_stray value_type.kind p)
NoStray (Repeated packed) value_type p = not (is_stray value_type.kind p)
NoStray (MapFrom key) value_type p = not (is_stray_entry value_type p)

pub joined_good : (schema : Schema) (k : ℕ) (allow : AllowsInside) (inner : MeansInside) (further : JoinsInside) (f : Field) (old : Option Value) (p : Payload) (v : Value) → GoodInside schema k allow inner further → FieldGiven schema k f old →
    payload_valid p ≡ true → source_allowed k allow f.form f.value_type p ≡ true → NoStray f.form f.value_type p ≡ true → value_joined inner further f.form f.value_type old p ≡ Some v → GoodValue schema (Some f) k v
joined_good schema k allow inner further f old p v g given spelt a stray e = go f.form refl a stray e
  where
    go : (c : FieldForm) → f.form ≡ c → source_allowed k allow c f.value_type p ≡ true → NoStray c f.value_type p ≡ true → value_joined inner further c f.value_type old p ≡ Some v → GoodValue schema (Some f) k v
    go Singular s a stray e = one_joined_good schema k allow inner further f old p v g given s spelt a (not-true (is_stray f.value_type.kind p) stray) e
    go (Repeated packed) s a stray e =
        list_given schema k f packed (values_in old and_then values_from (element inner f.value_type.kind p)) v s
        (then_good schema f.value_type.kind k (values_in old) (values_from (element inner f.value_type.kind p)) (values_good schema k f packed old s given.old_good)
        (element_good schema k allow inner further f.value_type.kind p g spelt a (not-true (is_stray f.value_type.kind p) stray))) e
    go (MapFrom key) s a stray e =
        map_given schema k f key (put_entry inner key f.value_type p (pairs_in old)) v s
        (entry_good schema k allow inner further key f.value_type p (pairs_in old) g (given.keyed key s) given.default spelt a (not-true (is_stray_entry f.value_type p) stray) (pairs_good schema k f key old s given.old_good)) e
