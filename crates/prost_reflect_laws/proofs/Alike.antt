-- Kinds and value types that match are read and written alike.
use Rattle.std.specs.Prelude.{◌≡◌, ◌&&◌, ◌||◌, ◌∷◌}
use Rattle.prost_reflect_laws.proofs.Common.{ℕ, suc, length, Bool, true, false, cond, not, ℤ, List, [], map, filter, Option, Some, None, refl, ap, ap₂, sym, ◌∙◌, true≢false, beq, list_any, int_eq, and_parts, Plain, Var, Fix64, Len, Fix32, Payload, Flat, Group, Scalar, ScalarKind, Double, Float, Int64, Uint64, Int32, Fixed64, Fixed32, BoolKind, StringKind, BytesKind, Uint32, Sfixed32, Sfixed64, Sint32, Sint64, Enum, EnumNumbers, Open, Closed, EnumNumber, elem, is_declared, is_undeclared, kind_default, kind_wire, scalar_eq, scalar_valid, in_i32, low_i32, Kind, ScalarOf, MessageOf, GroupOf, ValueType, FieldForm, Singular, Repeated, MapFrom, is_packable, ScalarValue, or_none, plains_within, unpacked, numbered, last, records_in, element_payloads_in, is_stray, is_stray_entry, value_payloads, stray_payloads, is_default_of, TypePairs, all_among, same_numbers, same_scalar_kind, same_kind, same_default, value_types_match, same_form, beq_same, scalar_decides}
use Rattle.std.specs.Cmp.{signed_Decides}

-- SCALAR KINDS

pub record Alike (k l : ScalarKind) : Type 0 where
  pub reads : (p : Payload) → elem l p ≡ elem k p
  pub strays : (p : Payload) → is_undeclared l p ≡ is_undeclared k p
  pub default : kind_default l ≡ kind_default k
  pub packable : is_packable l ≡ is_packable k
  pub wire : kind_wire l ≡ kind_wire k
  pub takes : (v : Scalar) → scalar_valid l v ≡ scalar_valid k v

itself : (k : ScalarKind) → Alike k k
itself k = record { reads = λ p. refl; strays = λ p. refl; default = refl; packable = refl; wire = refl; takes = λ v. refl }

among : (xs ys : List ℤ) (z : ℤ) → all_among xs ys ≡ true → list_any (int_eq z) xs ≡ true → list_any (int_eq z) ys ≡ true
among [] ys z h e = absurd (true≢false (sym e))
among (x ∷ xs) ys z h e =
    let (one, more) = and_parts (list_any (int_eq x) ys) (all_among xs ys) h in
    go (int_eq z x) refl e one (among xs ys z more)
  where
    go : (b : Bool) → int_eq z x ≡ b → (b || list_any (int_eq z) xs) ≡ true → list_any (int_eq x) ys ≡ true → (list_any (int_eq z) xs ≡ true → list_any (int_eq z) ys ≡ true) → list_any (int_eq z) ys ≡ true
    go true d e one more = ap (λ y. list_any (int_eq y) ys) ((signed_Decides z x).0 d) ∙ one
    go false d e one more = more e

both_ways : (a b : Bool) → (a ≡ true → b ≡ true) → (b ≡ true → a ≡ true) → b ≡ a
both_ways true b h k = h refl
both_ways false false h k = refl
both_ways false true h k = sym (k refl)

declared_alike : (e f : EnumNumbers) (z : ℤ) → same_numbers e f ≡ true → is_declared f z ≡ is_declared e z
declared_alike Open Open z h = refl
declared_alike (Closed xs) (Closed ys) z h =
    let (there, back) = and_parts (all_among xs ys) (all_among ys xs) h in
    both_ways (list_any (int_eq z) xs) (list_any (int_eq z) ys) (among xs ys z there) (among ys xs z back)
declared_alike _ _ z h = absurd (true≢false (sym h))

enums_alike : (first first' : ℤ) (e f : EnumNumbers) → first ≡ first' → same_numbers e f ≡ true → Alike (Enum first e) (Enum first' f)
enums_alike first first' e f same h = record { reads = reads; strays = strays; default = ap EnumNumber (sym same); packable = refl; wire = refl; takes = takes }
  where
    takes : (v : Scalar) → scalar_valid (Enum first' f) v ≡ scalar_valid (Enum first e) v
    takes (EnumNumber z) = ap (λ b. in_i32 z && b) (declared_alike e f z h)
    takes _ = refl

    reads : (p : Payload) → elem (Enum first' f) p ≡ elem (Enum first e) p
    reads (Flat (Var v)) = refl
    reads (Flat (Fix64 bytes)) = refl
    reads (Flat (Len bytes)) = refl
    reads (Flat (Fix32 bytes)) = refl
    reads (Group rs) = refl

    strays : (p : Payload) → is_undeclared (Enum first' f) p ≡ is_undeclared (Enum first e) p
    strays (Flat (Var v)) = ap not (declared_alike e f (low_i32 v) h)
    strays (Flat (Fix64 bytes)) = refl
    strays (Flat (Len bytes)) = refl
    strays (Flat (Fix32 bytes)) = refl
    strays (Group rs) = refl

pub alike : (k l : ScalarKind) → same_scalar_kind k l ≡ true → Alike k l
alike (Enum first e) (Enum first' f) h =
    let (same, numbers) = and_parts (int_eq first first') (same_numbers e f) h in
    enums_alike first first' e f ((signed_Decides first first').0 same) numbers
alike Double Double h = itself Double
alike Float Float h = itself Float
alike Int64 Int64 h = itself Int64
alike Uint64 Uint64 h = itself Uint64
alike Int32 Int32 h = itself Int32
alike Fixed64 Fixed64 h = itself Fixed64
alike Fixed32 Fixed32 h = itself Fixed32
alike BoolKind BoolKind h = itself BoolKind
alike StringKind StringKind h = itself StringKind
alike BytesKind BytesKind h = itself BytesKind
alike Uint32 Uint32 h = itself Uint32
alike Sfixed32 Sfixed32 h = itself Sfixed32
alike Sfixed64 Sfixed64 h = itself Sfixed64
alike Sint32 Sint32 h = itself Sint32
alike Sint64 Sint64 h = itself Sint64
alike _ _ h = absurd (true≢false (sym h))

-- VALUE TYPES

pub record SameType (pairs : TypePairs) (s t : ValueType) : Type 0 where
  pub kind : same_kind pairs s.kind t.kind ≡ true
  pub presence : t.presence ≡ s.presence
  pub default : same_default s.kind s.default t.default ≡ true

pub same_type : (pairs : TypePairs) (s t : ValueType) → value_types_match pairs s t ≡ true → SameType pairs s t
same_type pairs s t h =
    let (abc, d) = and_parts (same_kind pairs s.kind t.kind && beq s.required t.required && beq s.presence t.presence) (same_default s.kind s.default t.default) h in
    let (ab, c) = and_parts (same_kind pairs s.kind t.kind && beq s.required t.required) (beq s.presence t.presence) abc in
    let (a, b) = and_parts (same_kind pairs s.kind t.kind) (beq s.required t.required) ab in
    record { kind = a; presence = beq_same s.presence t.presence c; default = d }

-- kinds that match have the same strays, and the same elements in a packed record
pub unpacked_alike : (k l : ScalarKind) (bytes : List ℕ) → kind_wire l ≡ kind_wire k → unpacked l bytes ≡ unpacked k bytes
unfolding unpacked
unpacked_alike k l bytes e = ap (λ w. plains_within (suc (length bytes)) w bytes) e

pub stray_alike : (pairs : TypePairs) (k l : Kind) (p : Payload) → same_kind pairs k l ≡ true → is_stray l p ≡ is_stray k p
stray_alike pairs (ScalarOf k) (ScalarOf l) p h = (alike k l h).strays p
stray_alike pairs (MessageOf A) (MessageOf B) p h = refl
stray_alike pairs (GroupOf A) (GroupOf B) p h = refl
stray_alike pairs _ _ p h = absurd (true≢false (sym h))

pub elements_alike : (pairs : TypePairs) (k l : Kind) (p : Payload) → same_kind pairs k l ≡ true → element_payloads_in l p ≡ element_payloads_in k p
elements_alike pairs (ScalarOf k) (ScalarOf l) (Flat (Len bytes)) h =
    let a : Alike k l = alike k l h in
    ap₂ (λ b (o : Option (List Plain)). cond b (map Flat (or_none o)) (Flat (Len bytes) ∷ [])) a.packable (unpacked_alike k l bytes a.wire)
elements_alike pairs (ScalarOf k) (ScalarOf l) (Flat (Var v)) h = refl
elements_alike pairs (ScalarOf k) (ScalarOf l) (Flat (Fix64 bytes)) h = refl
elements_alike pairs (ScalarOf k) (ScalarOf l) (Flat (Fix32 bytes)) h = refl
elements_alike pairs (ScalarOf k) (ScalarOf l) (Group rs) h = refl
elements_alike pairs (MessageOf A) (MessageOf B) p h = refl
elements_alike pairs (GroupOf A) (GroupOf B) p h = refl
elements_alike pairs _ _ p h = absurd (true≢false (sym h))

pub filter_alike : {A : Type 0} (t u : A → Bool) (xs : List A) → ((x : A) → t x ≡ u x) → filter t xs ≡ filter u xs
filter_alike t u [] h = refl
filter_alike t u (x ∷ xs) h = ap₂ (λ b l. cond b (x ∷ l) l) (h x) (filter_alike t u xs h)

entry_alike : (pairs : TypePairs) (s t : ValueType) (p : Payload) → same_kind pairs s.kind t.kind ≡ true → is_stray_entry t p ≡ is_stray_entry s p
entry_alike pairs s t p h = go (last (numbered 2 (records_in p)))
  where
    go : (o : Option Payload) → ◌≡◌ {A = Bool} (elim o [ None ↦ false | Some q ↦ is_stray t.kind q ]) (elim o [ None ↦ false | Some q ↦ is_stray s.kind q ])
    go None = refl
    go (Some q) = stray_alike pairs s.kind t.kind q h

-- what is taken of a record, and what stays unknown of it
pub values_alike : (pairs : TypePairs) (c d : FieldForm) (s t : ValueType) (p : Payload) → same_form pairs c d ≡ true → same_kind pairs s.kind t.kind ≡ true → value_payloads d t p ≡ value_payloads c s p
values_alike pairs Singular Singular s t p c h = filter_alike (λ q. not (is_stray t.kind q)) (λ q. not (is_stray s.kind q)) (p ∷ []) (λ q. ap not (stray_alike pairs s.kind t.kind q h))
values_alike pairs (Repeated x) (Repeated y) s t p c h =
    filter_alike (λ q. not (is_stray t.kind q)) (λ q. not (is_stray s.kind q)) (element_payloads_in t.kind p) (λ q. ap not (stray_alike pairs s.kind t.kind q h))
    ∙ ap (filter (λ q. not (is_stray s.kind q))) (elements_alike pairs s.kind t.kind p h)
values_alike pairs (MapFrom key) (MapFrom key') s t p c h = filter_alike (λ q. not (is_stray_entry t q)) (λ q. not (is_stray_entry s q)) (p ∷ []) (λ q. ap not (entry_alike pairs s t q h))
values_alike pairs _ _ s t p c h = absurd (true≢false (sym c))

pub strays_alike : (pairs : TypePairs) (c d : FieldForm) (s t : ValueType) (p : Payload) → same_form pairs c d ≡ true → same_kind pairs s.kind t.kind ≡ true → stray_payloads d t p ≡ stray_payloads c s p
strays_alike pairs Singular Singular s t p c h = filter_alike (is_stray t.kind) (is_stray s.kind) (p ∷ []) (λ q. stray_alike pairs s.kind t.kind q h)
strays_alike pairs (Repeated x) (Repeated y) s t p c h =
    filter_alike (is_stray t.kind) (is_stray s.kind) (element_payloads_in t.kind p) (λ q. stray_alike pairs s.kind t.kind q h)
    ∙ ap (filter (is_stray s.kind)) (elements_alike pairs s.kind t.kind p h)
strays_alike pairs (MapFrom key) (MapFrom key') s t p c h = filter_alike (is_stray_entry t) (is_stray_entry s) (p ∷ []) (λ q. entry_alike pairs s t q h)
strays_alike pairs _ _ s t p c h = absurd (true≢false (sym c))

-- the default of a scalar kind
pub default_alike : (pairs : TypePairs) (s t : ValueType) (k : ScalarKind) → s.kind ≡ ScalarOf k → SameType pairs s t → t.default ≡ s.default
default_alike pairs s t k e h = sym ((scalar_decides s.default t.default).0 (ap (λ x. same_default x s.default t.default) (sym e) ∙ h.default))

pub default_of_alike : (pairs : TypePairs) (s t : ValueType) (k : ScalarKind) (v : Scalar) → s.kind ≡ ScalarOf k → SameType pairs s t → is_default_of t (ScalarValue v) ≡ is_default_of s (ScalarValue v)
default_of_alike pairs s t k v e h = ap₂ (λ b d. not b && scalar_eq v d) h.presence (default_alike pairs s t k e h)
