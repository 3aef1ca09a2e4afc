-- A pair of types matches exactly if it does so by itself, and the pairs that it asks for are there.
use Rattle.std.specs.Prelude.{◌≡◌, ◌&&◌, ◌||◌, ◌∷◌, ◌++◌}
use Rattle.prost_reflect_reduction.proofs.Common.{ℕ, nat_eq, Bool, true, false, List, [], flat_map, Option, Some, None, refl, ap, ap₂, sym, ◌∙◌, true≢false, beq, list_all, eqb-true, and_parts, and_from, Kind, ScalarOf, MessageOf, GroupOf, ValueType, FieldForm, Singular, Repeated, MapFrom, Field, MessageType, Schema, message_type, known, field_of, is_key_kind, field_valid, schema_valid, passes, TypePairs, holds, same_kind, same_default, value_types_match, same_form, fields_match, same_siblings, has_match, has_no_fellow, entries_whole, types_match, Reduced, known_valid, CheckedField, checked_field, CheckedMap, checked_map, kinds_alike, kinds_ask, values_alike, forms_alike, fields_alike, has_alike, asked_beside, field_asks, types_alike, types_ask, all_held, all_alike, all_ask, Needed, Walked}

-- lists

all_appended : {A : Type 0} (test : A → Bool) (xs ys : List A) → list_all test xs ≡ true → list_all test ys ≡ true → list_all test (xs ++ ys) ≡ true
all_appended test [] ys a b = b
all_appended test (x ∷ xs) ys a b = let (h, t) = and_parts (test x) (list_all test xs) a in and_from _ _ h (all_appended test xs ys t b)

all_apart : {A : Type 0} (test : A → Bool) (xs ys : List A) → list_all test (xs ++ ys) ≡ true → (list_all test xs ≡ true) × (list_all test ys ≡ true)
all_apart test [] ys a = (refl, a)
all_apart test (x ∷ xs) ys a =
    let (h, t) = and_parts (test x) (list_all test (xs ++ ys)) a in
    let (l, r) = all_apart test xs ys t in
    (and_from _ _ h l, r)

-- kinds

kind_split : (pairs : TypePairs) (k l : Kind) → same_kind pairs k l ≡ true → (kinds_alike k l ≡ true) × (all_held pairs (kinds_ask k l) ≡ true)
kind_split pairs (ScalarOf k) (ScalarOf l) h = (h, refl)
kind_split pairs (MessageOf A) (MessageOf B) h = (refl, and_from _ _ h refl)
kind_split pairs (GroupOf A) (GroupOf B) h = (refl, and_from _ _ h refl)
kind_split pairs _ _ h = absurd (true≢false (sym h))

kind_join : (pairs : TypePairs) (k l : Kind) → kinds_alike k l ≡ true → all_held pairs (kinds_ask k l) ≡ true → same_kind pairs k l ≡ true
kind_join pairs (ScalarOf k) (ScalarOf l) n h = n
kind_join pairs (MessageOf A) (MessageOf B) n h = (and_parts (holds pairs A B) true h).0
kind_join pairs (GroupOf A) (GroupOf B) n h = (and_parts (holds pairs A B) true h).0
kind_join pairs _ _ n h = absurd (true≢false (sym n))

key_split : (pairs : TypePairs) (k l : Kind) → is_key_kind k ≡ true → same_kind pairs k l ≡ true → same_kind [] k l ≡ true
key_split pairs (ScalarOf k) (ScalarOf l) key h = h
key_split pairs (ScalarOf k) (MessageOf B) key h = absurd (true≢false (sym h))
key_split pairs (ScalarOf k) (GroupOf B) key h = absurd (true≢false (sym h))
key_split pairs (MessageOf A) l key h = absurd (true≢false (sym key))
key_split pairs (GroupOf A) l key h = absurd (true≢false (sym key))

key_join : (pairs : TypePairs) (k l : Kind) → same_kind [] k l ≡ true → same_kind pairs k l ≡ true
key_join pairs (ScalarOf k) (ScalarOf l) h = h
key_join pairs (ScalarOf k) (MessageOf B) h = absurd (true≢false (sym h))
key_join pairs (ScalarOf k) (GroupOf B) h = absurd (true≢false (sym h))
key_join pairs (MessageOf A) (ScalarOf l) h = absurd (true≢false (sym h))
key_join pairs (MessageOf A) (MessageOf B) h = absurd (true≢false (sym h))
key_join pairs (MessageOf A) (GroupOf B) h = absurd (true≢false (sym h))
key_join pairs (GroupOf A) (ScalarOf l) h = absurd (true≢false (sym h))
key_join pairs (GroupOf A) (MessageOf B) h = absurd (true≢false (sym h))
key_join pairs (GroupOf A) (GroupOf B) h = absurd (true≢false (sym h))

-- value types, over any test of kinds
type_more : (a b : Bool) (s t : ValueType) → (a ≡ true → b ≡ true) → (a && beq s.required t.required && beq s.presence t.presence && same_default s.kind s.default t.default) ≡ true →
    (b && beq s.required t.required && beq s.presence t.presence && same_default s.kind s.default t.default) ≡ true
type_more true b s t more h = ap (λ x. x && beq s.required t.required && beq s.presence t.presence && same_default s.kind s.default t.default) (more refl) ∙ h
type_more false b s t more h = absurd (true≢false (sym h))

type_kind : (a : Bool) (s t : ValueType) → (a && beq s.required t.required && beq s.presence t.presence && same_default s.kind s.default t.default) ≡ true → a ≡ true
type_kind true s t h = refl
type_kind false s t h = absurd (true≢false (sym h))

form_split : (older : Schema) (pairs : TypePairs) (f : Field) (c d : FieldForm) → f.form ≡ c → CheckedField older f → same_form pairs c d ≡ true → forms_alike c d ≡ true
form_split older pairs f Singular Singular e checked h = refl
form_split older pairs f (Repeated x) (Repeated y) e checked h = refl
form_split older pairs f (MapFrom s) (MapFrom t) e checked h =
    let m : CheckedMap f s = checked_map older f s checked e in
    type_more (same_kind pairs s.kind t.kind) (same_kind [] s.kind t.kind) s t (key_split pairs s.kind t.kind m.keyed) h
form_split older pairs f _ _ e checked h = absurd (true≢false (sym h))

form_join : (pairs : TypePairs) (c d : FieldForm) → forms_alike c d ≡ true → same_form pairs c d ≡ true
form_join pairs Singular Singular h = refl
form_join pairs (Repeated x) (Repeated y) h = refl
form_join pairs (MapFrom s) (MapFrom t) h = type_more (same_kind [] s.kind t.kind) (same_kind pairs s.kind t.kind) s t (key_join pairs s.kind t.kind) h
form_join pairs _ _ h = absurd (true≢false (sym h))

-- fields

field_split : (older : Schema) (pairs : TypePairs) (olders newers : List Field) (f : Field) (o : Option Field) → field_valid older f ≡ true → passes o (λ g. fields_match pairs f g && same_siblings olders newers f g) ≡ true →
    (passes o (λ g. fields_alike f g && same_siblings olders newers f g) ≡ true) × (all_held pairs (asked_beside f o) ≡ true)
field_split older pairs olders newers f None ok h = (h, refl)
field_split older pairs olders newers f (Some g) ok h =
    let (abc, d) = and_parts (fields_match pairs f g) (same_siblings olders newers f g) h in
    let (ab, c) = and_parts (beq f.is_extension g.is_extension && same_form pairs f.form g.form) (value_types_match pairs f.value_type g.value_type) abc in
    let (a, b) = and_parts (beq f.is_extension g.is_extension) (same_form pairs f.form g.form) ab in
    let (alike, held) = kind_split pairs f.value_type.kind g.value_type.kind (type_kind (same_kind pairs f.value_type.kind g.value_type.kind) f.value_type g.value_type c) in (
      and_from _ _ (and_from _ _ (and_from _ _ a (form_split older pairs f f.form g.form refl (checked_field older f ok) b))
          (type_more (same_kind pairs f.value_type.kind g.value_type.kind) (kinds_alike f.value_type.kind g.value_type.kind) f.value_type g.value_type (λ e. alike) c)) d,
      held,
    )

field_join : (pairs : TypePairs) (olders newers : List Field) (f : Field) (o : Option Field) → passes o (λ g. fields_alike f g && same_siblings olders newers f g) ≡ true → all_held pairs (asked_beside f o) ≡ true →
    passes o (λ g. fields_match pairs f g && same_siblings olders newers f g) ≡ true
field_join pairs olders newers f None h held = h
field_join pairs olders newers f (Some g) h held =
    let (abc, d) = and_parts (fields_alike f g) (same_siblings olders newers f g) h in
    let (ab, c) = and_parts (beq f.is_extension g.is_extension && forms_alike f.form g.form) (values_alike f.value_type g.value_type) abc in
    let (a, b) = and_parts (beq f.is_extension g.is_extension) (forms_alike f.form g.form) ab in
    and_from _ _ (and_from _ _ (and_from _ _ a (form_join pairs f.form g.form b))
    (type_more (kinds_alike f.value_type.kind g.value_type.kind) (same_kind pairs f.value_type.kind g.value_type.kind) f.value_type g.value_type (λ e. kind_join pairs f.value_type.kind g.value_type.kind e held) c)) d

fields_split : (older : Schema) (pairs : TypePairs) (olders newers fields : List Field) → list_all (field_valid older) fields ≡ true → list_all (has_match pairs olders newers) fields ≡ true →
    (list_all (has_alike olders newers) fields ≡ true) × (all_held pairs (flat_map (field_asks newers) fields) ≡ true)
fields_split older pairs olders newers [] ok h = (refl, refl)
fields_split older pairs olders newers (f ∷ fields) ok h =
    let (okf, oks) = and_parts (field_valid older f) (list_all (field_valid older) fields) ok in
    let (hf, hs) = and_parts (has_match pairs olders newers f) (list_all (has_match pairs olders newers) fields) h in
    let (alike, held) = field_split older pairs olders newers f (field_of newers f.number) okf hf in
    let (nears, helds) = fields_split older pairs olders newers fields oks hs in
    (and_from _ _ alike nears, all_appended (λ q. holds pairs q.0 q.1) (field_asks newers f) (flat_map (field_asks newers) fields) held helds)

fields_join : (pairs : TypePairs) (olders newers fields : List Field) → list_all (has_alike olders newers) fields ≡ true → all_held pairs (flat_map (field_asks newers) fields) ≡ true → list_all (has_match pairs olders newers) fields ≡ true
fields_join pairs olders newers [] h held = refl
fields_join pairs olders newers (f ∷ fields) h held =
    let (hf, hs) = and_parts (has_alike olders newers f) (list_all (has_alike olders newers) fields) h in
    let (heldf, helds) = all_apart (λ q. holds pairs q.0 q.1) (field_asks newers f) (flat_map (field_asks newers) fields) held in
    and_from _ _ (field_join pairs olders newers f (field_of newers f.number) hf heldf) (fields_join pairs olders newers fields hs helds)

-- TYPES

pub types_split : (older : Schema) (A : ℕ) (n : MessageType) (pairs : TypePairs) → schema_valid older ≡ true → types_match pairs (message_type older A) n ≡ true →
    (types_alike (message_type older A) n ≡ true) × (all_held pairs (types_ask (message_type older A) n) ≡ true)
types_split older A n pairs ok h =
    let (ab, c) = and_parts (entries_whole (message_type older A) n && list_all (has_match pairs (known older A) n.known) (known older A)) (list_all (has_no_fellow (known older A) n.known) n.known) h in
    let (a, b) = and_parts (entries_whole (message_type older A) n) (list_all (has_match pairs (known older A) n.known) (known older A)) ab in
    let (alike, held) = fields_split older pairs (known older A) n.known (known older A) (known_valid older A ok) b in
    (and_from _ _ (and_from _ _ a alike) c, held)

pub types_join : (m n : MessageType) (pairs : TypePairs) → types_alike m n ≡ true → all_held pairs (types_ask m n) ≡ true → types_match pairs m n ≡ true
types_join m n pairs h held =
    let (ab, c) = and_parts (entries_whole m n && list_all (has_alike m.known n.known) m.known) (list_all (has_no_fellow m.known n.known) n.known) h in
    let (a, b) = and_parts (entries_whole m n) (list_all (has_alike m.known n.known) m.known) ab in
    and_from _ _ (and_from _ _ a (fields_join pairs m.known n.known m.known b held)) c

-- SETS OF PAIRS

pair_matches : (pairs ps : TypePairs) (older newer : Schema) (A B : ℕ) → holds ps A B ≡ true → list_all (λ p. types_match pairs (message_type older p.0) (message_type newer p.1)) ps ≡ true → types_match pairs (message_type older A) (message_type newer B) ≡ true
pair_matches pairs [] older newer A B h all = absurd (true≢false (sym h))
pair_matches pairs (p ∷ ps) older newer A B h all =
    let (one, more) = and_parts (types_match pairs (message_type older p.0) (message_type newer p.1)) (list_all (λ p. types_match pairs (message_type older p.0) (message_type newer p.1)) ps) all in
    go (nat_eq p.0 A) (nat_eq p.1 B) refl refl h one (λ e. pair_matches pairs ps older newer A B e more)
  where
    go : (b c : Bool) → nat_eq p.0 A ≡ b → nat_eq p.1 B ≡ c → ((b && c) || holds ps A B) ≡ true → types_match pairs (message_type older p.0) (message_type newer p.1) ≡ true →
        (holds ps A B ≡ true → types_match pairs (message_type older A) (message_type newer B) ≡ true) → types_match pairs (message_type older A) (message_type newer B) ≡ true
    go true true d e h one more = sym (ap₂ (λ a b. types_match pairs (message_type older a) (message_type newer b)) (eqb-true p.0 A d) (eqb-true p.1 B e)) ∙ one
    go true false d e h one more = more h
    go false c d e h one more = more h

-- pairs that are alike, and among which is what they ask for, all match
pub all_joined : (older newer : Schema) (pairs ps : TypePairs) → all_alike older newer ps ≡ true → all_held pairs (all_ask older newer ps) ≡ true → list_all (λ p. types_match pairs (message_type older p.0) (message_type newer p.1)) ps ≡ true
unfolding all_alike all_ask
all_joined older newer pairs [] alike held = refl
all_joined older newer pairs (p ∷ ps) alike held =
    let (one, more) = and_parts (types_alike (message_type older p.0) (message_type newer p.1)) (list_all (λ p. types_alike (message_type older p.0) (message_type newer p.1)) ps) alike in
    let (held1, helds) = all_apart (λ q. holds pairs q.0 q.1) (types_ask (message_type older p.0) (message_type newer p.1)) (flat_map (λ p. types_ask (message_type older p.0) (message_type newer p.1)) ps) held in
    and_from _ _ (types_join (message_type older p.0) (message_type newer p.1) pairs one held1) (all_joined older newer pairs ps more helds)

held_among : (others pairs : TypePairs) (A B : ℕ) → all_held others pairs ≡ true → holds pairs A B ≡ true → holds others A B ≡ true
held_among others [] A B all h = absurd (true≢false (sym h))
held_among others (p ∷ pairs) A B all h =
    let (one, more) = and_parts (holds others p.0 p.1) (all_held others pairs) all in
    go (nat_eq p.0 A) (nat_eq p.1 B) refl refl h one (λ e. held_among others pairs A B more e)
  where
    go : (b c : Bool) → nat_eq p.0 A ≡ b → nat_eq p.1 B ≡ c → ((b && c) || holds pairs A B) ≡ true → holds others p.0 p.1 ≡ true → (holds pairs A B ≡ true → holds others A B ≡ true) → holds others A B ≡ true
    go true true d e h one more = sym (ap₂ (λ a b. holds others a b) (eqb-true p.0 A d) (eqb-true p.1 B e)) ∙ one
    go true false d e h one more = more h
    go false c d e h one more = more h

-- (1) a walk that is done with all that it has seen shows a reduction
pub walked_reduces : (older : Schema) (A : ℕ) (newer : Schema) (B : ℕ) (pairs : TypePairs) → Walked older A newer B pairs pairs → Reduced older A newer B
walked_reduces older A newer B pairs w = record { pairs = pairs; first = w.first; each = all_joined older newer pairs pairs w.alike w.asked }

-- (2) what a needed pair asks for is needed, and a needed pair that is not alike refutes a reduction
pub needed_asks : (older : Schema) (A : ℕ) (newer : Schema) (B : ℕ) (pairs : TypePairs) (C D : ℕ) → schema_valid older ≡ true → Needed older A newer B pairs → holds pairs C D ≡ true → Needed older A newer B (types_ask (message_type older C) (message_type newer D))
needed_asks older A newer B pairs C D ok needed h = record {
  each = λ others all first. (types_split older C (message_type newer D) others ok (pair_matches others others older newer C D (held_among others pairs C D (needed.each others all first) h) all)).1;
}

pub needed_alike : (older : Schema) (A : ℕ) (newer : Schema) (B : ℕ) (pairs : TypePairs) (C D : ℕ) → schema_valid older ≡ true → Needed older A newer B pairs → holds pairs C D ≡ true → Reduced older A newer B → types_alike (message_type older C) (message_type newer D) ≡ true
needed_alike older A newer B pairs C D ok needed h r =
    (types_split older C (message_type newer D) r.pairs ok (pair_matches r.pairs r.pairs older newer C D (held_among r.pairs pairs C D (needed.each r.pairs r.each r.first) h) r.each)).0
