-- The records of a well-typed content are allowed exactly within its levels.
use Rattle.std.specs.Prelude.{◌≡◌, ◌≤◌, ◌&&◌, ◌||◌, ◌∷◌, ◌++◌}
use Rattle.prost_reflect_laws.proofs.Common.{ℕ, zero, suc, Bool, true, false, cond, List, [], map, nat_le, nat_lt, nat_eq, Option, Some, None, refl, ap, ap₂, sym, ◌∙◌, arith, true≢false, is_some, ⊤, max, list_all, eqb-true, leb-true, le-leb, lt-ltb, and_parts, list_all-append, or-false, or-true, ◌>>=◌, Len, Var, Plain, Payload, Flat, Record, Records, items, payload_levels, body_of, spelled, payload_valid, valid, short_body, Scalar, ScalarKind, Enum, written, is_undeclared, Kind, ScalarOf, MessageOf, GroupOf, ValueType, FieldForm, Singular, Repeated, MapFrom, Field, Schema, known, field_of, is_message, is_singular, is_key_kind, is_packable_kind, field_valid, schema_valid, passes, is_list, Content, ContentOf, Entries, NoEntries, Stored, Unknown, Value, ScalarValue, MessageValue, ListValue, MapValue, Values, NoValues, Item, Pairs, NoPairs, Pair, schema_of, type_of, or_none, fits, body, records_in, numbered, last, AllowsInside, is_len, one_allowed, packed_allowed, in_entry_allowed, has_level, field_allowed, record_allowed, nothing_inside, allows, is_stray, is_stray_entry, record_at, scalar_payload, message_payload, is_default_of, entry_record, end_to_end, list_payloads, records, entries_records, field_payloads, value_payload, element_payloads, pair_payload, pair_payloads, key_of, greatest_level, stray_levels, unknown_levels, levels, entries_levels, value_levels, values_levels, pairs_levels, kind_takes, element_valid, elements_valid, pairs_valid, value_valid, is_whole_stray, unknown_fits, entries_pass, value_passes, values_pass, pairs_pass, fit_test, encodable, is_of_type, Typed, EntriesTyped, ValueTyped, ValuesTyped, PairsTyped, flat_fits, spelled_read, short_spells, items_body}
use Rattle.prost_reflect_laws.proofs.Table.{read_back}
use Rattle.prost_reflect_laws.proofs.Packed.{unpacked_back}
use Rattle.prost_reflect_laws.proofs.Spelt.{sound_append}
use Rattle.prost_reflect_laws.proofs.Checked.{known_valid, found_valid, CheckedField, checked_field, checked_list, checked_map}
use Rattle.prost_reflect_laws.proofs.Everywhere.{stored_passes}
use Rattle.prost_reflect_laws.proofs.FieldTypes.{singular, repeated, kind_at, option_typed}
use Rattle.prost_reflect_laws.proofs.Valid.{scalar_sound, entry_sound, element_sound, content_sound}
use Rattle.prost_reflect_laws.proofs.Means.{first_valid, behind_valid, block_valid, body_valid, inside_valid, payload_spelt, entry_spelt, MessageSpelt}

-- TESTS

le_same : (a b c d : ℕ) → (a ≤ b → c ≤ d) → (c ≤ d → a ≤ b) → nat_le a b ≡ nat_le c d
le_same a b c d h k = go (nat_le a b) (nat_le c d) refl refl
  where
    go : (x y : Bool) → nat_le a b ≡ x → nat_le c d ≡ y → nat_le a b ≡ nat_le c d
    go true true e f = e ∙ sym f
    go false false e f = e ∙ sym f
    go true false e f = absurd (true≢false (sym (le-leb c d (h (leb-true a b e))) ∙ f))
    go false true e f = absurd (true≢false (sym (le-leb a b (k (leb-true c d f))) ∙ e))

max_within : (a b k : ℕ) → (nat_le a k && nat_le b k) ≡ nat_le (max a b) k
max_within a b k = go (nat_le a k) (nat_le b k) refl refl
  where
    go : (x y : Bool) → nat_le a k ≡ x → nat_le b k ≡ y → (x && y) ≡ nat_le (max a b) k
    go true true e f = let p : a ≤ k = leb-true a k e in let q : b ≤ k = leb-true b k f in sym (le-leb (max a b) k (omega arith))
    go true false e f = sym (not_within b (omega arith) f)
      where
        not_within : (c : ℕ) → c ≤ max a b → nat_le c k ≡ false → nat_le (max a b) k ≡ false
        not_within c l e = by (nat_le (max a b) k) refl
          where
            by : (x : Bool) → nat_le (max a b) k ≡ x → nat_le (max a b) k ≡ false
            by false g = g
            by true g = let m : max a b ≤ k = leb-true (max a b) k g in absurd (true≢false (sym (le-leb c k (omega arith)) ∙ e))
    go false y e f = sym (not_within a (omega arith) e)
      where
        not_within : (c : ℕ) → c ≤ max a b → nat_le c k ≡ false → nat_le (max a b) k ≡ false
        not_within c l e = by (nat_le (max a b) k) refl
          where
            by : (x : Bool) → nat_le (max a b) k ≡ x → nat_le (max a b) k ≡ false
            by false g = g
            by true g = let m : max a b ≤ k = leb-true (max a b) k g in absurd (true≢false (sym (le-leb c k (omega arith)) ∙ e))

within_zero : (k : ℕ) → true ≡ nat_le 0 k
within_zero k = sym (le-leb 0 k (omega arith))

and_true : (b : Bool) → (b && true) ≡ b
and_true true = refl
and_true false = refl

-- a number above 0 is within k only if k is
one_level : (k n : ℕ) → (nat_lt 0 k && nat_le (suc n) k) ≡ nat_le (suc n) k
one_level k n = go (nat_lt 0 k) refl
  where
    go : (b : Bool) → nat_lt 0 k ≡ b → (b && nat_le (suc n) k) ≡ nat_le (suc n) k
    go true e = refl
    go false e = by (nat_le (suc n) k) refl
      where
        by : (x : Bool) → nat_le (suc n) k ≡ x → false ≡ nat_le (suc n) k
        by false g = sym g
        by true g = let l : suc n ≤ k = leb-true (suc n) k g in absurd (true≢false (sym (lt-ltb 0 k (omega arith)) ∙ e))

-- LEVELS

unfoldable pub inside : Schema → ℕ → AllowsInside
inside schema zero = nothing_inside
inside schema (suc k) = allows schema k

pub allows_inside : (schema : Schema) (k T : ℕ) (rs : List Record) → allows schema k T rs ≡ list_all (record_allowed k (inside schema k) (known schema T)) rs
unfolding allows inside
allows_inside schema zero T rs = refl
allows_inside schema (suc k) T rs = refl

-- the records of a message one level further down
inner_within : (schema : Schema) (k : ℕ) (c : Content) → schema_of c ≡ schema → ((j : ℕ) → allows (schema_of c) j (type_of c) (records c) ≡ nat_le (levels c) j) → inside schema k (type_of c) (records c) ≡ nat_le (suc (levels c)) k
unfolding inside
inner_within schema zero c e h = go (nat_le (suc (levels c)) 0) refl
  where
    go : (b : Bool) → nat_le (suc (levels c)) 0 ≡ b → false ≡ nat_le (suc (levels c)) 0
    go false e = sym e
    go true e = let l : suc (levels c) ≤ 0 = leb-true (suc (levels c)) 0 e in absurd (omega arith)
inner_within schema (suc k) c e h = ap (λ s. allows s k (type_of c) (records c)) (sym e) ∙ h k ∙ le_same (levels c) k (suc (levels c)) (suc k) (λ l. omega arith) (λ l. omega arith)

-- PAYLOADS

pub len_body : (rs : List Record) → valid (body_of rs) ≡ true → body (Flat (Len (spelled rs))) ≡ Some rs
len_body rs h = ap (λ (o : Option Records). o >>= λ rs. Some (items rs)) (spelled_read (body_of rs) (short_body (body_of rs)) (short_spells (body_of rs) h)) ∙ ap Some (items_body rs)

message_within : (inner : AllowsInside) (kind : Kind) (T : ℕ) (rs : List Record) → is_of_type kind T ≡ true → valid (body_of rs) ≡ true → one_allowed inner kind (message_payload kind rs) ≡ inner T rs
message_within inner (ScalarOf kind) T rs t h = absurd (true≢false (sym t))
message_within inner (MessageOf U) T rs t h = ap (λ o. passes o (inner U)) (len_body rs h) ∙ ap (λ (n : ℕ). inner n rs) (sym (eqb-true T U t))
message_within inner (GroupOf U) T rs t h = ap (inner U) (items_body rs) ∙ ap (λ (n : ℕ). inner n rs) (sym (eqb-true T U t))

scalar_within : (inner : AllowsInside) (kind : Kind) (v : Scalar) → kind_takes kind v ≡ true → one_allowed inner kind (scalar_payload kind v) ≡ true
scalar_within inner (ScalarOf kind) v h = ap is_some (read_back kind v h)
scalar_within inner _ v h = absurd (true≢false (sym h))

-- RECORDS OF A VALUE

pub block_allowed : (k : ℕ) (inner : AllowsInside) (fields : List Field) (n : ℕ) (f : Field) (ps : List Payload) → field_of fields n ≡ Some f → list_all (record_allowed k inner fields) (map (record_at n) ps) ≡ list_all (field_allowed k inner f.form f.value_type) ps
block_allowed k inner fields n f [] e = refl
block_allowed k inner fields n f (p ∷ ps) e =
    ap₂ ◌&&◌ (ap (λ (o : Option Field). elim o [ None ↦ nat_le (payload_levels p) k | Some f ↦ field_allowed k inner f.form f.value_type p ]) e) (block_allowed k inner fields n f ps e)

-- scalars nest nothing
scalars_flat : (kind : ScalarKind) (vs : Values) → elements_valid (ScalarOf kind) vs ≡ true → values_levels vs ≡ 0
scalars_flat kind NoValues h = refl
scalars_flat kind (Item v vs) h =
    let (one, more) = and_parts (element_valid (ScalarOf kind) v) (elements_valid (ScalarOf kind) vs) h in
    ap (max (value_levels v)) (scalars_flat kind vs more) ∙ go v one
  where
    go : (v : Value) → element_valid (ScalarOf kind) v ≡ true → max (value_levels v) 0 ≡ 0
    go (ScalarValue v) h = refl
    go _ h = absurd (true≢false (sym h))

-- an element is allowed one by one
element_same : (inner : AllowsInside) (k : ℕ) (kind : Kind) (v : Value) → element_valid kind v ≡ true → one_allowed inner kind (value_payload kind v) ≡ nat_le (value_levels v) k →
    (one_allowed inner kind (value_payload kind v) || packed_allowed kind (value_payload kind v)) ≡ nat_le (value_levels v) k
element_same inner k (ScalarOf kind) (ScalarValue v) fits h = ap (λ b. b || packed_allowed (ScalarOf kind) (Flat (written kind v))) (h ∙ sym (within_zero k)) ∙ within_zero k
element_same inner k (MessageOf T) v fits h = or-false (one_allowed inner (MessageOf T) (value_payload (MessageOf T) v)) ∙ h
element_same inner k (GroupOf T) v fits h = or-false (one_allowed inner (GroupOf T) (value_payload (GroupOf T) v)) ∙ h
element_same inner k _ _ fits h = absurd (true≢false (sym fits))

-- each element is allowed exactly within its levels
abbrev Each : AllowsInside → ℕ → Kind → Values → Type 0
Each inner k kind NoValues = ⊤
Each inner k kind (Item v vs) = (one_allowed inner kind (value_payload kind v) ≡ nat_le (value_levels v) k) × Each inner k kind vs

elements_same : (inner : AllowsInside) (k : ℕ) (packed : Bool) (value_type : ValueType) (vs : Values) → elements_valid value_type.kind vs ≡ true → Each inner k value_type.kind vs → list_all (field_allowed k inner (Repeated packed) value_type) (element_payloads value_type.kind vs) ≡ nat_le (values_levels vs) k
elements_same inner k packed value_type NoValues fits h = within_zero k
elements_same inner k packed value_type (Item v vs) fits (one, more) =
    let (a, b) = and_parts (element_valid value_type.kind v) (elements_valid value_type.kind vs) fits in
    ap₂ ◌&&◌ (element_same inner k value_type.kind v a one) (elements_same inner k packed value_type vs b more) ∙ max_within (value_levels v) (values_levels vs) k

list_allowed : (inner : AllowsInside) (schema : Schema) (k : ℕ) (f : Field) (vs : Values) → CheckedField schema f → value_valid f (ListValue vs) ≡ true → list_all payload_valid (field_payloads (Some f) (ListValue vs)) ≡ true →
    (list_all payload_valid (element_payloads f.value_type.kind vs) ≡ true → Each inner k f.value_type.kind vs) → list_all (field_allowed k inner f.form f.value_type) (field_payloads (Some f) (ListValue vs)) ≡ nat_le (values_levels vs) k
list_allowed inner schema k f vs checked takes spelt each =
    let (a, b) = and_parts (is_list f.form) (elements_valid f.value_type.kind vs) takes in
    let (packed, e) = repeated f.form a in
    go packed e vs b spelt each
  where
    pack : (kind : Kind) → is_packable_kind kind ≡ true → (vs : Values) → elements_valid kind vs ≡ true →
        ((one_allowed inner kind (Flat (Len (end_to_end (element_payloads kind vs)))) || packed_allowed kind (Flat (Len (end_to_end (element_payloads kind vs))))) && true) ≡ nat_le (values_levels vs) k
    pack (ScalarOf kind) p vs fit =
        let bytes : List ℕ = end_to_end (element_payloads (ScalarOf kind) vs) in
        ap₂ (λ x (o : Option (List Plain)). (fits kind (Flat (Len bytes)) || (x && is_some o)) && true) p (unpacked_back kind vs p fit).0
        ∙ ap (λ b. b && true) (or-true (fits kind (Flat (Len bytes)))) ∙ within_zero k ∙ ap (λ (n : ℕ). nat_le n k) (sym (scalars_flat kind vs fit))
    pack _ p vs fit = absurd (true≢false (sym p))

    go : (packed : Bool) → f.form ≡ Repeated packed → (vs : Values) → elements_valid f.value_type.kind vs ≡ true → list_all payload_valid (list_payloads f.form (element_payloads f.value_type.kind vs)) ≡ true →
        (list_all payload_valid (element_payloads f.value_type.kind vs) ≡ true → Each inner k f.value_type.kind vs) → list_all (field_allowed k inner f.form f.value_type) (list_payloads f.form (element_payloads f.value_type.kind vs)) ≡ nat_le (values_levels vs) k
    go packed e NoValues fit spelt each = ap (λ c. list_all (field_allowed k inner c f.value_type) (list_payloads c [])) e ∙ within_zero k
    go false e (Item v vs) fit spelt each =
        ap (λ c. list_all (field_allowed k inner c f.value_type) (list_payloads c (element_payloads f.value_type.kind (Item v vs)))) e
        ∙ elements_same inner k false f.value_type (Item v vs) fit (each (ap (λ c. list_all payload_valid (list_payloads c (element_payloads f.value_type.kind (Item v vs)))) (sym e) ∙ spelt))
    go true e (Item v vs) fit spelt each =
        ap (λ c. list_all (field_allowed k inner c f.value_type) (list_payloads c (element_payloads f.value_type.kind (Item v vs)))) e
        ∙ pack f.value_type.kind (checked_list schema f true checked e).packable (Item v vs) fit

-- MAPS

-- a value left out nests nothing
left_out : (value_type : ValueType) (v : Value) → is_default_of value_type v ≡ true → value_levels v ≡ 0
left_out value_type (ScalarValue v) h = refl
left_out value_type _ h = absurd (true≢false (sym h))

-- there is a level where the value is allowed
level_there : (inner : AllowsInside) (k : ℕ) (kind : Kind) (v : Value) → element_valid kind v ≡ true → (has_level k kind && nat_le (value_levels v) k) ≡ nat_le (value_levels v) k
level_there inner k (ScalarOf kind) v h = refl
level_there inner k (MessageOf T) (MessageValue c) h = one_level k (levels c)
level_there inner k (GroupOf T) (MessageValue c) h = one_level k (levels c)
level_there inner k _ _ h = absurd (true≢false (sym h))

pair_within : (inner : AllowsInside) (k : ℕ) (key value_type : ValueType) (x : Scalar) (v : Value) → kind_takes key.kind x ≡ true → element_valid value_type.kind v ≡ true → one_allowed inner value_type.kind (value_payload value_type.kind v) ≡ nat_le (value_levels v) k →
    valid (body_of (entry_record key 1 (ScalarValue x) (scalar_payload key.kind x) ++ entry_record value_type 2 v (value_payload value_type.kind v))) ≡ true → field_allowed k inner (MapFrom key) value_type (pair_payload key value_type x v) ≡ nat_le (value_levels v) k
pair_within inner k key value_type x v takes fit one spelt =
    ap (λ o. has_level k value_type.kind && passes o (list_all (in_entry_allowed k inner key value_type))) (len_body (entry_record key 1 (ScalarValue x) (scalar_payload key.kind x) ++ entry_record value_type 2 v (value_payload value_type.kind v)) spelt)
    ∙ ap (λ b. has_level k value_type.kind && b) (go (is_default_of key (ScalarValue x)) (is_default_of value_type v) refl)
    ∙ level_there inner k value_type.kind v fit
  where
    p : Payload
    p = scalar_payload key.kind x

    q : Payload
    q = value_payload value_type.kind v

    second : (b : Bool) → is_default_of value_type v ≡ b → list_all (in_entry_allowed k inner key value_type) (cond b [] (record_at 2 (value_payload value_type.kind v) ∷ [])) ≡ nat_le (value_levels v) k
    second true e = within_zero k ∙ ap (λ (n : ℕ). nat_le n k) (sym (left_out value_type v e))
    second false e = and_true (one_allowed inner value_type.kind q) ∙ one

    go : (a b : Bool) → is_default_of value_type v ≡ b → list_all (in_entry_allowed k inner key value_type) (cond a [] (record_at 1 (scalar_payload key.kind x) ∷ []) ++ cond b [] (record_at 2 (value_payload value_type.kind v) ∷ [])) ≡ nat_le (value_levels v) k
    go true b e = second b e
    go false b e = ap (λ t. t && list_all (in_entry_allowed k inner key value_type) (cond b [] (record_at 2 q ∷ []))) (scalar_within inner key.kind x takes) ∙ second b e

-- STRAYS

pub entry_levels : (k g : ℕ) (inner : AllowsInside) (key value_type : ValueType) (kind kind' : ScalarKind) (rs : List Record) → key.kind ≡ ScalarOf kind → value_type.kind ≡ ScalarOf kind' →
    list_all (in_entry_allowed g nothing_inside key value_type) rs ≡ true → list_all (in_entry_allowed k inner key value_type) rs ≡ nat_le (greatest_level rs) k
entry_levels k g inner key value_type kind kind' [] d e h = within_zero k
entry_levels k g inner key value_type kind kind' (r ∷ rs) d e h =
    let (one, more) = and_parts (in_entry_allowed g nothing_inside key value_type r) (list_all (in_entry_allowed g nothing_inside key value_type) rs) h in
    ap₂ ◌&&◌ (go (nat_eq r.number 1) (nat_eq r.number 2) one) (entry_levels k g inner key value_type kind kind' rs d e more) ∙ max_within (payload_levels r.payload) (greatest_level rs) k
  where
    own : (kd : Kind) (l : ScalarKind) → kd ≡ ScalarOf l → one_allowed nothing_inside kd r.payload ≡ true → one_allowed inner kd r.payload ≡ nat_le (payload_levels r.payload) k
    own (ScalarOf m) l e h = h ∙ within_zero k ∙ ap (λ (n : ℕ). nat_le n k) (sym (flat_fits m r.payload h))
    own (MessageOf T) l e h = cc
    own (GroupOf T) l e h = cc

    go : (b c : Bool) → cond b (one_allowed nothing_inside key.kind r.payload) (cond c (one_allowed nothing_inside value_type.kind r.payload) (nat_le (payload_levels r.payload) g)) ≡ true →
        cond b (one_allowed inner key.kind r.payload) (cond c (one_allowed inner value_type.kind r.payload) (nat_le (payload_levels r.payload) k)) ≡ nat_le (payload_levels r.payload) k
    go true c h = own key.kind kind d h
    go false true h = own value_type.kind kind' e h
    go false false h = refl

stray_fits : (kind : ScalarKind) (p : Payload) → is_undeclared kind p ≡ true → (fits kind p ≡ true) × (payload_levels p ≡ 0)
stray_fits (Enum first numbers) (Flat (Var v)) h = (refl, refl)
stray_fits _ _ h = absurd (true≢false (sym h))

pub one_stray : (inner : AllowsInside) (k : ℕ) (kind : Kind) (p : Payload) → is_stray kind p ≡ true → (one_allowed inner kind p ≡ true) × (true ≡ nat_le (payload_levels p) k)
one_stray inner k (ScalarOf kind) p h = let (a, b) = stray_fits kind p h in (a, within_zero k ∙ ap (λ (n : ℕ). nat_le n k) (sym b))
one_stray inner k _ p h = absurd (true≢false (sym h))

pub stray_kind : (value_type : ValueType) (p : Payload) → is_stray_entry value_type p ≡ true → (kind : ScalarKind) × (value_type.kind ≡ ScalarOf kind)
stray_kind value_type p h = go value_type.kind refl (last (numbered 2 (records_in p))) h
  where
    go : (kd : Kind) → value_type.kind ≡ kd → (o : Option Payload) → (elim o [ None ↦ false | Some q ↦ is_stray value_type.kind q ]) ≡ true → (kind : ScalarKind) × (value_type.kind ≡ ScalarOf kind)
    go (ScalarOf kind) e o h = (kind, e)
    go kd e None h = absurd (true≢false (sym h))
    go _ e (Some q) h = absurd (true≢false (sym h ∙ ap (λ kd. is_stray kd q) e))

pub key_kind : (kd : Kind) → is_key_kind kd ≡ true → (kind : ScalarKind) × (kd ≡ ScalarOf kind)
key_kind (ScalarOf kind) h = (kind, refl)
key_kind _ h = absurd (true≢false (sym h))

entry_within : (inner : AllowsInside) (k : ℕ) (key value_type : ValueType) (p : Payload) → is_key_kind key.kind ≡ true → is_whole_stray (MapFrom key) value_type p ≡ true → field_allowed k inner (MapFrom key) value_type p ≡ nat_le (stray_levels (MapFrom key) p) k
entry_within inner k key value_type p h w =
    let g : ℕ = stray_levels (MapFrom key) p in
    let (a, b) = and_parts (is_stray_entry value_type p) (field_allowed g nothing_inside (MapFrom key) value_type p) w in
    let (c, d) = and_parts (is_len p && has_level g value_type.kind) (passes (body p) (list_all (in_entry_allowed g nothing_inside key value_type))) b in
    let (kind, e) = key_kind key.kind h in
    let (kind', e') = stray_kind value_type p a in
    ap₂ (λ x kd. (x && has_level k kd) && passes (body p) (list_all (in_entry_allowed k inner key value_type))) (and_parts (is_len p) (has_level g value_type.kind) c).0 e'
    ∙ go g kind kind' e e' (body p) d
  where
    go : (g : ℕ) (kind kind' : ScalarKind) → key.kind ≡ ScalarOf kind → value_type.kind ≡ ScalarOf kind' → (o : Option (List Record)) → passes o (list_all (in_entry_allowed g nothing_inside key value_type)) ≡ true →
        passes o (list_all (in_entry_allowed k inner key value_type)) ≡ nat_le (greatest_level (or_none o)) k
    go g kind kind' e e' None h = absurd (true≢false (sym h))
    go g kind kind' e e' (Some rs) h = entry_levels k g inner key value_type kind kind' rs e e' h

pub unknown_within : (inner : AllowsInside) (schema : Schema) (fields : List Field) (k n : ℕ) (p : Payload) → list_all (field_valid schema) fields ≡ true → unknown_fits (field_of fields n) n p ≡ true →
    record_allowed k inner fields (record_at n p) ≡ nat_le (unknown_levels (field_of fields n) p) k
unknown_within inner schema fields k n p g h = go (field_of fields n) refl h
  where
    by : (f : Field) (c : FieldForm) → (is_key : (key : ValueType) → c ≡ MapFrom key → is_key_kind key.kind ≡ true) → is_whole_stray c f.value_type p ≡ true → field_allowed k inner c f.value_type p ≡ nat_le (stray_levels c p) k
    by f Singular is_key h = let (a, b) = one_stray inner k f.value_type.kind p h in a ∙ b
    by f (Repeated packed) is_key h = let (a, b) = one_stray inner k f.value_type.kind p h in ap (λ x. x || packed_allowed f.value_type.kind p) a ∙ b
    by f (MapFrom key) is_key h = entry_within inner k key f.value_type p (is_key key refl) h

    go : (o : Option Field) → field_of fields n ≡ o → unknown_fits o n p ≡ true → (elim o [ None ↦ nat_le (payload_levels p) k | Some f ↦ field_allowed k inner f.form f.value_type p ]) ≡ nat_le (unknown_levels o p) k
    go None e h = refl
    go (Some f) e h = by f f.form (λ key c. (checked_map schema f key (checked_field schema f (found_valid schema fields n f g e)) c).keyed) (and_parts (payload_valid p) (is_whole_stray f.form f.value_type p) h).1

-- ENTRIES

abbrev OptionAllowed : ℕ → AllowsInside → Option Field → Value → Type 0
OptionAllowed k inner None v = ⊤
OptionAllowed k inner (Some f) v = list_all (field_allowed k inner f.form f.value_type) (field_payloads (Some f) v) ≡ nat_le (value_levels v) k

stored_within : (inner : AllowsInside) (fields : List Field) (k n : ℕ) (o : Option Field) (v : Value) → field_of fields n ≡ o → passes o (λ f. value_valid f v) ≡ true → OptionAllowed k inner o v → list_all (record_allowed k inner fields) (map (record_at n) (field_payloads o v)) ≡ nat_le (value_levels v) k
stored_within inner fields k n None v e h a = absurd (true≢false (sym h))
stored_within inner fields k n (Some f) v e h a = block_allowed k inner fields n f (field_payloads (Some f) v) e ∙ a

scalar_field : (inner : AllowsInside) (k : ℕ) (f : Field) (v : Scalar) → value_valid f (ScalarValue v) ≡ true → OptionAllowed k inner (Some f) (ScalarValue v)
scalar_field inner k f v h =
    let (a, b) = and_parts (is_singular f.form) (kind_takes f.value_type.kind v) h in
    ap (λ c. field_allowed k inner c f.value_type (scalar_payload f.value_type.kind v) && true) (singular f.form a) ∙ and_true (one_allowed inner f.value_type.kind (scalar_payload f.value_type.kind v)) ∙ scalar_within inner f.value_type.kind v b ∙ within_zero k

message_field : (inner : AllowsInside) (k : ℕ) (f : Field) (c : Content) → f.form ≡ Singular → is_of_type f.value_type.kind (type_of c) ≡ true → valid (body_of (records c)) ≡ true → inner (type_of c) (records c) ≡ nat_le (suc (levels c)) k → OptionAllowed k inner (Some f) (MessageValue c)
message_field inner k f c s t spelt h =
    ap (λ x. field_allowed k inner x f.value_type (message_payload f.value_type.kind (records c)) && true) s ∙ and_true (one_allowed inner f.value_type.kind (message_payload f.value_type.kind (records c)))
    ∙ message_within inner f.value_type.kind (type_of c) (records c) t spelt ∙ h

-- each entry of a map is allowed exactly within its levels
abbrev EachPair : AllowsInside → ℕ → ValueType → ValueType → Pairs → Type 0
EachPair inner k key value_type NoPairs = ⊤
EachPair inner k key value_type (Pair x v ps) = (field_allowed k inner (MapFrom key) value_type (pair_payload key value_type x v) ≡ nat_le (value_levels v) k) × EachPair inner k key value_type ps

pairs_same : (inner : AllowsInside) (k : ℕ) (key value_type : ValueType) (ps : Pairs) → EachPair inner k key value_type ps → list_all (field_allowed k inner (MapFrom key) value_type) (pair_payloads key value_type ps) ≡ nat_le (pairs_levels ps) k
pairs_same inner k key value_type NoPairs h = within_zero k
pairs_same inner k key value_type (Pair x v ps) (one, more) = ap₂ ◌&&◌ one (pairs_same inner k key value_type ps more) ∙ max_within (value_levels v) (pairs_levels ps) k

map_field : (inner : AllowsInside) (k : ℕ) (f : Field) (ps : Pairs) → value_valid f (MapValue ps) ≡ true → ((key : ValueType) → f.form ≡ MapFrom key → EachPair inner k key f.value_type ps) → OptionAllowed k inner (Some f) (MapValue ps)
map_field inner k f ps h each = go f.form refl h
  where
    go : (c : FieldForm) → f.form ≡ c → pairs_valid c f.value_type.kind ps ≡ true → OptionAllowed k inner (Some f) (MapValue ps)
    go (MapFrom key) e h = ap (λ c. list_all (field_allowed k inner c f.value_type) (pair_payloads (key_of c f.value_type) f.value_type ps)) e ∙ pairs_same inner k key f.value_type ps (each key e)
    go _ e h = absurd (true≢false (sym h))

mutual
  pub content_allowed : (k : ℕ) (c : Content) → schema_valid (schema_of c) ≡ true → encodable c ≡ true → Typed c → valid (body_of (records c)) ≡ true → allows (schema_of c) k (type_of c) (records c) ≡ nat_le (levels c) k
  content_allowed k (ContentOf schema T es) h takes types spelt = allows_inside schema k T (entries_records (known schema T) es) ∙ entries_within schema (known schema T) k es h (known_valid schema T h) takes types spelt

  entries_within : (schema : Schema) (fields : List Field) (k : ℕ) (es : Entries) → schema_valid schema ≡ true → list_all (field_valid schema) fields ≡ true → entries_pass fit_test fields es ≡ true → EntriesTyped schema fields es →
      valid (body_of (entries_records fields es)) ≡ true → list_all (record_allowed k (inside schema k) fields) (entries_records fields es) ≡ nat_le (entries_levels fields es) k
  entries_within schema fields k NoEntries h g takes types spelt = within_zero k
  entries_within schema fields k (Stored n v es) h g takes (type, types) spelt =
      let fit = stored_passes fit_test fields n v es takes in
      let here : list_all payload_valid (field_payloads (field_of fields n) v) ≡ true = block_valid n (field_payloads (field_of fields n) v) (entries_records fields es) spelt in
      list_all-append (record_allowed k (inside schema k) fields) (map (record_at n) (field_payloads (field_of fields n) v)) (entries_records fields es)
      ∙ ap₂ ◌&&◌ (stored_within (inside schema k) fields k n (field_of fields n) v refl fit.here (value_within schema fields k n (field_of fields n) v refl h g fit.here fit.inside (option_typed schema (field_of fields n) v fit.here type) here))
      (entries_within schema fields k es h g fit.behind types (behind_valid (map (record_at n) (field_payloads (field_of fields n) v)) (entries_records fields es) spelt))
      ∙ max_within (value_levels v) (entries_levels fields es) k
  entries_within schema fields k (Unknown n p es) h g takes types spelt =
      let (fit, fit') = and_parts (unknown_fits (field_of fields n) n p) (entries_pass fit_test fields es) takes in
      ap₂ ◌&&◌ (unknown_within (inside schema k) schema fields k n p g fit) (entries_within schema fields k es h g fit' types (first_valid (record_at n p) (entries_records fields es) spelt).1)
      ∙ max_within (unknown_levels (field_of fields n) p) (entries_levels fields es) k

  value_within : (schema : Schema) (fields : List Field) (k n : ℕ) (o : Option Field) (v : Value) → field_of fields n ≡ o → schema_valid schema ≡ true → list_all (field_valid schema) fields ≡ true → passes o (λ f. value_valid f v) ≡ true → value_passes fit_test v ≡ true → ValueTyped schema (kind_at o) v →
      list_all payload_valid (field_payloads o v) ≡ true → OptionAllowed k (inside schema k) o v
  value_within schema fields k n None v e h g takes fits types spelt = absurd (true≢false (sym takes))
  value_within schema fields k n (Some f) (ScalarValue v) e h g takes fits types spelt = scalar_field (inside schema k) k f v takes
  value_within schema fields k n (Some f) (MessageValue c) e h g takes fits (of, types) spelt =
      let checked : schema_valid (schema_of c) ≡ true = ap schema_valid of.0 ∙ h in
      let written : valid (body_of (records c)) ≡ true = inside_valid f.value_type.kind (records c) (content_sound c checked fits types) (and_parts (payload_valid (message_payload f.value_type.kind (records c))) true spelt).0 in
      message_field (inside schema k) k f c (singular f.form (and_parts (is_singular f.form) (is_message f.value_type.kind) takes).0) of.1 written
      (inner_within schema k c of.0 (λ j. content_allowed j c checked fits types written))
  value_within schema fields k n (Some f) (ListValue vs) e h g takes fits types spelt =
      list_allowed (inside schema k) schema k f vs (checked_field schema f (found_valid schema fields n f g e)) takes spelt
      (λ each. elements_within schema k f.value_type.kind vs h (and_parts (is_list f.form) (elements_valid f.value_type.kind vs) takes).1 fits types each)
  value_within schema fields k n (Some f) (MapValue ps) e h g takes fits types spelt =
      map_field (inside schema k) k f ps takes
      (λ key c. pairs_within schema k key f.value_type ps h (ap (λ c. pairs_valid c f.value_type.kind ps) (sym c) ∙ takes) fits types (ap (λ c. list_all payload_valid (pair_payloads (key_of c f.value_type) f.value_type ps)) (sym c) ∙ spelt))

  element_within : (schema : Schema) (k : ℕ) (kind : Kind) (v : Value) → schema_valid schema ≡ true → element_valid kind v ≡ true → value_passes fit_test v ≡ true → ValueTyped schema (Some kind) v → MessageSpelt kind v → one_allowed (inside schema k) kind (value_payload kind v) ≡ nat_le (value_levels v) k
  element_within schema k kind (ScalarValue v) h takes fits types spelt = scalar_within (inside schema k) kind v takes ∙ within_zero k
  element_within schema k kind (MessageValue c) h takes fits (of, types) spelt =
      let checked : schema_valid (schema_of c) ≡ true = ap schema_valid of.0 ∙ h in
      let written : valid (body_of (records c)) ≡ true = inside_valid kind (records c) (content_sound c checked fits types) spelt in
      message_within (inside schema k) kind (type_of c) (records c) of.1 written ∙ inner_within schema k c of.0 (λ j. content_allowed j c checked fits types written)
  element_within schema k kind _ h takes fits types spelt = absurd (true≢false (sym takes))

  elements_within : (schema : Schema) (k : ℕ) (kind : Kind) (vs : Values) → schema_valid schema ≡ true → elements_valid kind vs ≡ true → values_pass fit_test vs ≡ true → ValuesTyped schema (Some kind) vs → list_all payload_valid (element_payloads kind vs) ≡ true → Each (inside schema k) k kind vs
  elements_within schema k kind NoValues h takes fits types spelt = tt
  elements_within schema k kind (Item v vs) h takes fits (type, types) spelt =
      let (deep, deep') = and_parts (value_passes fit_test v) (values_pass fit_test vs) fits in
      let (fit, fit') = and_parts (element_valid kind v) (elements_valid kind vs) takes in
      let (here, rest) = and_parts (payload_valid (value_payload kind v)) (list_all payload_valid (element_payloads kind vs)) spelt in
      (element_within schema k kind v h fit deep type (payload_spelt kind v here), elements_within schema k kind vs h fit' deep' types rest)

  pairs_within : (schema : Schema) (k : ℕ) (key value_type : ValueType) (ps : Pairs) → schema_valid schema ≡ true → pairs_valid (MapFrom key) value_type.kind ps ≡ true → pairs_pass fit_test ps ≡ true → PairsTyped schema (Some value_type.kind) ps → list_all payload_valid (pair_payloads key value_type ps) ≡ true → EachPair (inside schema k) k key value_type ps
  pairs_within schema k key value_type NoPairs h takes fits types spelt = tt
  pairs_within schema k key value_type (Pair x v ps) h takes fits (type, types) spelt =
      let (deep, deep') = and_parts (value_passes fit_test v) (pairs_pass fit_test ps) fits in
      let (fit, fit') = and_parts (kind_takes key.kind x && element_valid value_type.kind v) (pairs_valid (MapFrom key) value_type.kind ps) takes in
      let (good, one) = and_parts (kind_takes key.kind x) (element_valid value_type.kind v) fit in
      let (here, rest) = and_parts (payload_valid (pair_payload key value_type x v)) (list_all payload_valid (pair_payloads key value_type ps)) spelt in
      let first : List Record = entry_record key 1 (ScalarValue x) (scalar_payload key.kind x) in
      let second : List Record = entry_record value_type 2 v (value_payload value_type.kind v) in
      let written : valid (body_of (first ++ second)) ≡ true =
      body_valid (first ++ second) (sound_append first second (entry_sound key 1 (ScalarValue x) (scalar_payload key.kind x) refl (scalar_sound key.kind x good)) (entry_sound value_type 2 v (value_payload value_type.kind v) refl (element_sound schema value_type.kind v h one deep type))) here in
      (pair_within (inside schema k) k key value_type x v good one (element_within schema k value_type.kind v h one deep type (entry_spelt value_type v first written)) written, pairs_within schema k key value_type ps h fit' deep' types rest)
