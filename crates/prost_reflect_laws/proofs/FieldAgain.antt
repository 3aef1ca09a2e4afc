-- A field, carried through a reduction: its value by its form, and its strays.
use Rattle.std.specs.Prelude.{◌++◌, ◌≡◌, ◌&&◌, ◌||◌, ◌∷◌}
use Rattle.prost_reflect_laws.proofs.Common.{ℕ, Bool, true, cond, not, List, [], filter, flat_map, Some, refl, ap, ap₂, sym, ◌∙◌, true≢false, list_all, list_all-append, and_parts, and_from, Var, Payload, Flat, payload_valid, ScalarKind, Enum, is_undeclared, Kind, ScalarOf, ValueType, FieldForm, Singular, Repeated, MapFrom, Field, Schema, AllowsInside, fits, is_stray, is_stray_entry, element_payloads_in, value_payloads, stray_payloads, one_allowed, packed_allowed, field_allowed, MeansInside, field_value, TypePairs, same_form, all_filter, all_implied, source_allowed, value_records_allowed, filter_passes}
use Rattle.prost_reflect_laws.proofs.Checked.{CheckedField, CheckedList, checked_list, CheckedMap, checked_map}
use Rattle.prost_reflect_laws.proofs.Alike.{SameType, same_type}
use Rattle.prost_reflect_laws.proofs.ByNumber.{stored_payloads}
use Rattle.prost_reflect_laws.proofs.Readable.{elements_in_valid}
use Rattle.prost_reflect_laws.proofs.Again.{Carries, FieldAgain}
use Rattle.prost_reflect_laws.proofs.SingleAgain.{single_source, single_again}
use Rattle.prost_reflect_laws.proofs.ListAgain.{list_source, list_again}
use Rattle.prost_reflect_laws.proofs.EntryAgain.{map_source}
use Rattle.prost_reflect_laws.proofs.MapAgain.{map_again}
use Rattle.prost_reflect_laws.proofs.Values.{elements_in_stray}

-- SOURCES

-- a payload that a field's value is read of
abbrev pub source : ℕ → AllowsInside → FieldForm → ValueType → Payload → Bool
source k a Singular t p = single_source a t.kind p
source k a (Repeated packed) t p = list_source a t.kind p
source k a (MapFrom key) t p = map_source k a key t p

-- a payload that stays unknown
abbrev pub strays_of : FieldForm → ValueType → Payload → Bool
strays_of Singular t p = is_stray t.kind p
strays_of (Repeated packed) t p = is_stray t.kind p
strays_of (MapFrom key) t p = is_stray_entry t p

all_three : {A : Type 0} (t u v : A → Bool) (xs : List A) → list_all t xs ≡ true → list_all u xs ≡ true → list_all v xs ≡ true → list_all (λ x. t x && (u x && v x)) xs ≡ true
all_three t u v [] a b c = refl
all_three t u v (x ∷ xs) a b c =
    let (a', a'') = and_parts (t x) (list_all t xs) a in
    let (b', b'') = and_parts (u x) (list_all u xs) b in
    let (c', c'') = and_parts (v x) (list_all v xs) c in
    and_from _ _ (and_from _ _ a' (and_from _ _ b' c')) (all_three t u v xs a'' b'' c'')

values_valid : (c : FieldForm) (t : ValueType) (p : Payload) → payload_valid p ≡ true → list_all payload_valid (value_payloads c t p) ≡ true
values_valid Singular t p h = all_filter payload_valid (λ q. not (is_stray t.kind q)) (p ∷ []) (and_from _ _ h refl)
values_valid (Repeated packed) t p h = all_filter payload_valid (λ q. not (is_stray t.kind q)) (element_payloads_in t.kind p) (elements_in_valid t.kind p h)
values_valid (MapFrom key) t p h = all_filter payload_valid (λ q. not (is_stray_entry t q)) (p ∷ []) (and_from _ _ h refl)

-- what is taken of a payload that is allowed
values_source : (k : ℕ) (a : AllowsInside) (c : FieldForm) (t : ValueType) (p : Payload) → payload_valid p ≡ true → field_allowed k a c t p ≡ true → list_all (source k a c t) (value_payloads c t p) ≡ true
values_source k a Singular t p ok h = all_three payload_valid (source_allowed k a Singular t) (λ q. not (is_stray t.kind q)) (value_payloads Singular t p) (values_valid Singular t p ok) (value_records_allowed k a Singular t p h) (filter_passes (λ q. not (is_stray t.kind q)) (p ∷ []))
values_source k a (Repeated packed) t p ok h = all_three payload_valid (source_allowed k a (Repeated packed) t) (λ q. not (is_stray t.kind q)) (value_payloads (Repeated packed) t p) (values_valid (Repeated packed) t p ok) (value_records_allowed k a (Repeated packed) t p h) (filter_passes (λ q. not (is_stray t.kind q)) (element_payloads_in t.kind p))
values_source k a (MapFrom key) t p ok h = all_three payload_valid (source_allowed k a (MapFrom key) t) (λ q. not (is_stray_entry t q)) (value_payloads (MapFrom key) t p) (values_valid (MapFrom key) t p ok) (value_records_allowed k a (MapFrom key) t p h) (filter_passes (λ q. not (is_stray_entry t q)) (p ∷ []))

pub all_sources : (k : ℕ) (a : AllowsInside) (c : FieldForm) (t : ValueType) (ps : List Payload) → list_all payload_valid ps ≡ true → list_all (field_allowed k a c t) ps ≡ true → list_all (source k a c t) (flat_map (value_payloads c t) ps) ≡ true
all_sources k a c t [] ok h = refl
all_sources k a c t (p ∷ ps) ok h =
    let (a', a'') = and_parts (payload_valid p) (list_all payload_valid ps) ok in
    let (b', b'') = and_parts (field_allowed k a c t p) (list_all (field_allowed k a c t) ps) h in
    list_all-append (source k a c t) (value_payloads c t p) (flat_map (value_payloads c t) ps) ∙ and_from _ _ (values_source k a c t p a' b') (all_sources k a c t ps a'' b'')

-- STRAYS

undeclared_fits : (kind : ScalarKind) (p : Payload) → is_undeclared kind p ≡ true → fits kind p ≡ true
undeclared_fits (Enum first numbers) (Flat (Var v)) h = refl
undeclared_fits _ p h = absurd (true≢false (sym h))

stray_allowed : (a : AllowsInside) (kind : Kind) (p : Payload) → is_stray kind p ≡ true → (one_allowed a kind p || packed_allowed kind p) ≡ true
stray_allowed a (ScalarOf kind) p h = ap (λ b. b || packed_allowed (ScalarOf kind) p) (undeclared_fits kind p h)
stray_allowed a _ p h = absurd (true≢false (sym h))

-- what stays unknown of a payload that is allowed is allowed
strays_allowed : (k : ℕ) (a : AllowsInside) (c : FieldForm) (t : ValueType) (p : Payload) → field_allowed k a c t p ≡ true → list_all (field_allowed k a c t) (stray_payloads c t p) ≡ true
strays_allowed k a Singular t p h = all_filter (field_allowed k a Singular t) (is_stray t.kind) (p ∷ []) (and_from _ _ h refl)
strays_allowed k a (Repeated packed) t p h = all_implied (is_stray t.kind) (field_allowed k a (Repeated packed) t) (stray_payloads (Repeated packed) t p) (stray_allowed a t.kind) (filter_passes (is_stray t.kind) (element_payloads_in t.kind p))
strays_allowed k a (MapFrom key) t p h = all_filter (field_allowed k a (MapFrom key) t) (is_stray_entry t) (p ∷ []) (and_from _ _ h refl)

strays_valid : (c : FieldForm) (t : ValueType) (p : Payload) → payload_valid p ≡ true → list_all payload_valid (stray_payloads c t p) ≡ true
strays_valid Singular t p h = all_filter payload_valid (is_stray t.kind) (p ∷ []) (and_from _ _ h refl)
strays_valid (Repeated packed) t p h = all_filter payload_valid (is_stray t.kind) (element_payloads_in t.kind p) (elements_in_valid t.kind p h)
strays_valid (MapFrom key) t p h = all_filter payload_valid (is_stray_entry t) (p ∷ []) (and_from _ _ h refl)

strays_are : (c : FieldForm) (t : ValueType) (p : Payload) → list_all (strays_of c t) (stray_payloads c t p) ≡ true
strays_are Singular t p = filter_passes (is_stray t.kind) (p ∷ [])
strays_are (Repeated packed) t p = filter_passes (is_stray t.kind) (element_payloads_in t.kind p)
strays_are (MapFrom key) t p = filter_passes (is_stray_entry t) (p ∷ [])

-- a stray is read as one
stray_stays : (c : FieldForm) (t : ValueType) (p : Payload) → strays_of c t p ≡ true → (stray_payloads c t p ≡ p ∷ []) × (value_payloads c t p ≡ [])
stray_stays Singular t p h = (ap (λ b. cond b (p ∷ []) []) h, ap (λ b. cond (not b) (p ∷ []) []) h)
stray_stays (Repeated packed) t p h =
    let e : element_payloads_in t.kind p ≡ p ∷ [] = elements_in_stray t.kind p h in
    (ap (filter (is_stray t.kind)) e ∙ ap (λ b. cond b (p ∷ []) []) h, ap (filter (λ q. not (is_stray t.kind q))) e ∙ ap (λ b. cond (not b) (p ∷ []) []) h)
stray_stays (MapFrom key) t p h = (ap (λ b. cond b (p ∷ []) []) h, ap (λ b. cond (not b) (p ∷ []) []) h)

pub strays_stay : (c : FieldForm) (t : ValueType) (ps : List Payload) → list_all (strays_of c t) ps ≡ true → (flat_map (stray_payloads c t) ps ≡ ps) × (flat_map (value_payloads c t) ps ≡ [])
strays_stay c t [] h = (refl, refl)
strays_stay c t (p ∷ ps) h =
    let (one, more) = and_parts (strays_of c t p) (list_all (strays_of c t) ps) h in
    let (stray, value) = stray_stays c t p one in
    let (strays, values) = strays_stay c t ps more in
    (ap₂ ◌++◌ stray strays, ap₂ ◌++◌ value values)

-- the strays of payloads
pub record Strays (k : ℕ) (a : AllowsInside) (c : FieldForm) (t : ValueType) (ps : List Payload) : Type 0 where
  pub are : list_all (strays_of c t) ps ≡ true
  pub valid : list_all payload_valid ps ≡ true
  pub allowed : list_all (field_allowed k a c t) ps ≡ true

pub all_strays : (k : ℕ) (a : AllowsInside) (c : FieldForm) (t : ValueType) (ps : List Payload) → list_all payload_valid ps ≡ true → list_all (field_allowed k a c t) ps ≡ true → Strays k a c t (flat_map (stray_payloads c t) ps)
all_strays k a c t [] ok h = record { are = refl; valid = refl; allowed = refl }
all_strays k a c t (p ∷ ps) ok h =
    let (a', a'') = and_parts (payload_valid p) (list_all payload_valid ps) ok in
    let (b', b'') = and_parts (field_allowed k a c t p) (list_all (field_allowed k a c t) ps) h in
    let rest : Strays k a c t (flat_map (stray_payloads c t) ps) = all_strays k a c t ps a'' b'' in
    record {
      are = list_all-append (strays_of c t) (stray_payloads c t p) (flat_map (stray_payloads c t) ps) ∙ and_from _ _ (strays_are c t p) rest.are;
      valid = list_all-append payload_valid (stray_payloads c t p) (flat_map (stray_payloads c t) ps) ∙ and_from _ _ (strays_valid c t p a') rest.valid;
      allowed = list_all-append (field_allowed k a c t) (stray_payloads c t p) (flat_map (stray_payloads c t) ps) ∙ and_from _ _ (strays_allowed k a c t p b') rest.allowed;
    }

-- THE FIELD

pub field_again : (pairs : TypePairs) (k : ℕ) (i : MeansInside) (a : AllowsInside) (j : MeansInside) (older : Schema) (f g : Field) (qs : List Payload) → Carries pairs k i a j → CheckedField older f → same_form pairs f.form g.form ≡ true → SameType pairs f.value_type g.value_type →
    list_all (source k a g.form g.value_type) qs ≡ true → FieldAgain k a j g.form g.value_type (stored_payloads (Some f) (field_value i f.form f.value_type qs)) (field_value j g.form g.value_type qs)
field_again pairs k i a j older f g qs c checked form type sources = go f.form g.form refl form sources
  where
    tB : ValueType
    tB = g.value_type

    go : (cA cB : FieldForm) → f.form ≡ cA → same_form pairs cA cB ≡ true → list_all (source k a cB g.value_type) qs ≡ true → FieldAgain k a j cB g.value_type (stored_payloads (Some f) (field_value i cA f.value_type qs)) (field_value j cB g.value_type qs)
    go Singular Singular e s all = single_again pairs k i a j f tB qs c type all
    go (Repeated x) (Repeated y) e s all =
        let l : CheckedList f x = checked_list older f x checked e in
        list_again pairs k i a j f x y tB qs c e type.kind l.packable all
    go (MapFrom keyA) (MapFrom keyB) e s all =
        let m : CheckedMap f keyA = checked_map older f keyA checked e in
        map_again pairs k i a j f keyA keyB tB qs c e (record { key = same_type pairs keyA keyB s; value = type; keyed = m.keyed; key_default = m.key_default; default = checked.default }) all
    go _ _ e s all = absurd (true≢false (sym s))
