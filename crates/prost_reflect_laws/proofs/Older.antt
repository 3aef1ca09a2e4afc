-- What the newer of two types of a reduction allows, the older one allows.
use Rattle.std.specs.Prelude.{◌≡◌, ◌≤◌, ◌&&◌, ◌||◌, ◌∷◌}
use Rattle.prost_reflect_laws.proofs.Common.{ℕ, zero, suc, nat_le, nat_eq, Bool, true, false, cond, List, [], Option, Some, None, refl, ap, ap₂, sym, ◌∙◌, arith, true≢false, max, is_some, list_all, leb-true, le-leb, and_parts, and_from, Plain, Len, Records, NoRecords, PlainRecord, GroupRecord, Record, Payload, Flat, Group, items, raw_levels, payload_levels, Kind, ScalarOf, MessageOf, GroupOf, ValueType, FieldForm, Singular, Repeated, MapFrom, Field, Schema, known, field_of, passes, AllowsInside, body, is_len, is_group_payload, one_allowed, packed_allowed, in_entry_allowed, has_level, field_allowed, record_allowed, nothing_inside, allows, Accepts, greatest_level, TypePairs, holds, same_kind, same_form, all_implied, flat_fits, passes_more, or_case, field_number}
use Rattle.prost_reflect_laws.proofs.Alike.{Alike, alike, SameType, same_type, unpacked_alike}
use Rattle.prost_reflect_laws.proofs.Matches.{TypesMatch, AllMatch, Relates, like}

-- LEVELS OF WHAT IS ALLOWED

pub items_level : (rs : Records) → greatest_level (items rs) ≡ raw_levels rs
items_level NoRecords = refl
items_level (PlainRecord n p rest) = let e : greatest_level (items rest) ≡ raw_levels rest = items_level rest in omega arith
items_level (GroupRecord n inside rest) = ap (max (suc (raw_levels inside))) (items_level rest)

-- what is allowed one level down nests one level less
abbrev pub Shallow : ℕ → AllowsInside → Type 0
Shallow k inner = (T : ℕ) (rs : List Record) → inner T rs ≡ true → suc (greatest_level rs) ≤ k

len_flat : (p : Payload) → is_len p ≡ true → payload_levels p ≡ 0
len_flat (Flat p) h = refl
len_flat (Group rs) h = absurd (true≢false (sym h))

one_shallow : (k : ℕ) (inner : AllowsInside) (kind : Kind) (p : Payload) → Shallow k inner → one_allowed inner kind p ≡ true → payload_levels p ≤ k
one_shallow k inner (ScalarOf kind) p s h = omega (arith, flat_fits kind p h)
one_shallow k inner (MessageOf T) p s h = omega (arith, len_flat p (and_parts (is_len p) (passes (body p) (inner T)) h).0)
one_shallow k inner (GroupOf T) (Flat p) s h = absurd (true≢false (sym h))
one_shallow k inner (GroupOf T) (Group rs) s h =
    let l : suc (greatest_level (items rs)) ≤ k = s T (items rs) h in
    omega (arith, l, items_level rs)

packed_flat : (kind : Kind) (p : Payload) → packed_allowed kind p ≡ true → payload_levels p ≡ 0
packed_flat kind (Flat p) h = refl
packed_flat (ScalarOf kind) (Group rs) h = absurd (true≢false (sym h))
packed_flat (MessageOf T) (Group rs) h = absurd (true≢false (sym h))
packed_flat (GroupOf T) (Group rs) h = absurd (true≢false (sym h))

field_shallow : (k : ℕ) (inner : AllowsInside) (c : FieldForm) (t : ValueType) (p : Payload) → Shallow k inner → field_allowed k inner c t p ≡ true → payload_levels p ≤ k
field_shallow k inner Singular t p s h = one_shallow k inner t.kind p s h
field_shallow k inner (Repeated packed) t p s h = go (one_allowed inner t.kind p) refl h
  where
    go : (b : Bool) → one_allowed inner t.kind p ≡ b → (b || packed_allowed t.kind p) ≡ true → payload_levels p ≤ k
    go true e h = one_shallow k inner t.kind p s e
    go false e h = omega (arith, packed_flat t.kind p h)
field_shallow k inner (MapFrom key) t p s h =
    let (ab, c) = and_parts (is_len p && has_level k t.kind) (passes (body p) (list_all (in_entry_allowed k inner key t))) h in
    omega (arith, len_flat p (and_parts (is_len p) (has_level k t.kind) ab).0)

record_shallow : (k : ℕ) (inner : AllowsInside) (fields : List Field) (r : Record) → Shallow k inner → record_allowed k inner fields r ≡ true → payload_levels r.payload ≤ k
record_shallow k inner fields r s = go (field_of fields r.number)
  where
    go : (o : Option Field) → (elim o [ None ↦ nat_le (payload_levels r.payload) k | Some f ↦ field_allowed k inner f.form f.value_type r.payload ]) ≡ true → payload_levels r.payload ≤ k
    go None h = leb-true (payload_levels r.payload) k h
    go (Some f) h = field_shallow k inner f.form f.value_type r.payload s h

all_shallow : (k : ℕ) (inner : AllowsInside) (fields : List Field) (rs : List Record) → Shallow k inner → list_all (record_allowed k inner fields) rs ≡ true → greatest_level rs ≤ k
all_shallow k inner fields [] s h = omega arith
all_shallow k inner fields (r ∷ rs) s h =
    let (one, more) = and_parts (record_allowed k inner fields r) (list_all (record_allowed k inner fields) rs) h in
    let a : payload_levels r.payload ≤ k = record_shallow k inner fields r s one in
    let b : greatest_level rs ≤ k = all_shallow k inner fields rs s more in
    omega arith

pub allowed_levels : (schema : Schema) (k T : ℕ) (rs : List Record) → allows schema k T rs ≡ true → greatest_level rs ≤ k
unfolding allows
allowed_levels schema zero T rs h = all_shallow 0 nothing_inside (known schema T) rs (λ T rs e. absurd (true≢false (sym e))) h
allowed_levels schema (suc k) T rs h = all_shallow (suc k) (allows schema k) (known schema T) rs (λ T rs e. let l : greatest_level rs ≤ k = allowed_levels schema k T rs e in omega arith) h

-- FROM THE NEWER TO THE OLDER

-- one level down
pub record Smaller (pairs : TypePairs) (k : ℕ) (outer inner : AllowsInside) : Type 0 where
  pub each : (A B : ℕ) (rs : List Record) → holds pairs A B ≡ true → inner B rs ≡ true → outer A rs ≡ true
  pub shallow : Shallow k inner

message_smaller : (shape : Bool) (o : Option (List Record)) (t u : List Record → Bool) → ((rs : List Record) → t rs ≡ true → u rs ≡ true) → (shape && passes o t) ≡ true → (shape && passes o u) ≡ true
message_smaller shape o t u h e =
    let (a, b) = and_parts shape (passes o t) e in
    and_from _ _ a (passes_more o t u h b)

pub one_smaller : (pairs : TypePairs) (k : ℕ) (outer inner : AllowsInside) (kA kB : Kind) (p : Payload) → Smaller pairs k outer inner → same_kind pairs kA kB ≡ true → one_allowed inner kB p ≡ true → one_allowed outer kA p ≡ true
one_smaller pairs k outer inner (ScalarOf kA) (ScalarOf kB) p s h e = ap is_some (sym ((alike kA kB h).reads p)) ∙ e
one_smaller pairs k outer inner (MessageOf A) (MessageOf B) p s h e = message_smaller (is_len p) (body p) (inner B) (outer A) (λ rs. s.each A B rs h) e
one_smaller pairs k outer inner (GroupOf A) (GroupOf B) p s h e = message_smaller (is_group_payload p) (body p) (inner B) (outer A) (λ rs. s.each A B rs h) e
one_smaller pairs k outer inner _ _ p s h e = absurd (true≢false (sym h))

packed_smaller : (pairs : TypePairs) (kA kB : Kind) (p : Payload) → same_kind pairs kA kB ≡ true → packed_allowed kB p ≡ true → packed_allowed kA p ≡ true
packed_smaller pairs (ScalarOf kA) (ScalarOf kB) (Flat (Len bytes)) h e =
    let a : Alike kA kB = alike kA kB h in
    ap₂ (λ b (o : Option (List Plain)). b && is_some o) (sym a.packable) (sym (unpacked_alike kA kB bytes a.wire)) ∙ e
packed_smaller pairs (MessageOf A) (MessageOf B) p h e = e
packed_smaller pairs (GroupOf A) (GroupOf B) p h e = e
packed_smaller pairs (ScalarOf kA) (ScalarOf kB) _ h e = e
packed_smaller pairs _ _ p h e = absurd (true≢false (sym h))

pub level_same : (pairs : TypePairs) (k : ℕ) (kA kB : Kind) → same_kind pairs kA kB ≡ true → has_level k kB ≡ has_level k kA
level_same pairs k (ScalarOf kA) (ScalarOf kB) h = refl
level_same pairs k (MessageOf A) (MessageOf B) h = refl
level_same pairs k (GroupOf A) (GroupOf B) h = refl
level_same pairs k _ _ h = absurd (true≢false (sym h))

module _ (pairs : TypePairs) (k : ℕ) (outer inner : AllowsInside) where
  entry_smaller : (keyA tA keyB tB : ValueType) (r : Record) → Smaller pairs k outer inner → same_kind pairs keyA.kind keyB.kind ≡ true → same_kind pairs tA.kind tB.kind ≡ true →
      in_entry_allowed k inner keyB tB r ≡ true → in_entry_allowed k outer keyA tA r ≡ true
  entry_smaller keyA tA keyB tB r s h t = go (nat_eq r.number 1) (nat_eq r.number 2)
    where
      go : (b c : Bool) → cond b (one_allowed inner keyB.kind r.payload) (cond c (one_allowed inner tB.kind r.payload) (nat_le (payload_levels r.payload) k)) ≡ true
          → cond b (one_allowed outer keyA.kind r.payload) (cond c (one_allowed outer tA.kind r.payload) (nat_le (payload_levels r.payload) k)) ≡ true
      go true c e = one_smaller pairs k outer inner keyA.kind keyB.kind r.payload s h e
      go false true e = one_smaller pairs k outer inner tA.kind tB.kind r.payload s t e
      go false false e = e

  field_smaller : (cA cB : FieldForm) (tA tB : ValueType) (p : Payload) → Smaller pairs k outer inner → same_form pairs cA cB ≡ true → same_kind pairs tA.kind tB.kind ≡ true →
      field_allowed k inner cB tB p ≡ true → field_allowed k outer cA tA p ≡ true
  field_smaller Singular Singular tA tB p s c t e = one_smaller pairs k outer inner tA.kind tB.kind p s t e
  field_smaller (Repeated x) (Repeated y) tA tB p s c t e =
      or_case (one_allowed inner tB.kind p) (packed_allowed tB.kind p) (one_allowed outer tA.kind p) (packed_allowed tA.kind p) (one_smaller pairs k outer inner tA.kind tB.kind p s t) (packed_smaller pairs tA.kind tB.kind p t) e
  field_smaller (MapFrom keyA) (MapFrom keyB) tA tB p s c t e =
      let (ab, inside) = and_parts (is_len p && has_level k tB.kind) (passes (body p) (list_all (in_entry_allowed k inner keyB tB))) e in
      let (shape, level) = and_parts (is_len p) (has_level k tB.kind) ab in
      let key : SameType pairs keyA keyB = same_type pairs keyA keyB c in
      and_from _ _ (and_from _ _ shape (sym (level_same pairs k tA.kind tB.kind t) ∙ level))
      (passes_more (body p) (list_all (in_entry_allowed k inner keyB tB)) (list_all (in_entry_allowed k outer keyA tA))
      (λ rs. all_implied (in_entry_allowed k inner keyB tB) (in_entry_allowed k outer keyA tA) rs (λ r. entry_smaller keyA tA keyB tB r s key.kind t)) inside)
  field_smaller _ _ tA tB p s c t e = absurd (true≢false (sym c))

  record_smaller : (older newer : List Field) (r : Record) → Smaller pairs k outer inner → TypesMatch pairs older newer → record_allowed k inner newer r ≡ true → record_allowed k outer older r ≡ true
  record_smaller older newer r s m e = go (field_of older r.number) refl
    where
      go : (o : Option Field) → field_of older r.number ≡ o → (elim o [ None ↦ nat_le (payload_levels r.payload) k | Some f ↦ field_allowed k outer f.form f.value_type r.payload ]) ≡ true
      go None lacking = le-leb (payload_levels r.payload) k (record_shallow k inner newer r s.shallow e)
      go (Some f) found =
          let (g, l) = like pairs older newer r.number f m found in
          field_smaller f.form g.form f.value_type g.value_type r.payload s l.form l.type.kind
          (sym (ap (λ (o : Option Field). elim o [ None ↦ nat_le (payload_levels r.payload) k | Some f ↦ field_allowed k inner f.form f.value_type r.payload ]) (ap (field_of newer) (sym (field_number older r.number f found)) ∙ l.found)) ∙ e)

pub allows_smaller : (pairs : TypePairs) (older newer : Schema) (k A B : ℕ) (rs : List Record) → AllMatch pairs older newer → holds pairs A B ≡ true → allows newer k B rs ≡ true → allows older k A rs ≡ true
unfolding allows
allows_smaller pairs older newer zero A B rs all h e =
    all_implied (record_allowed 0 nothing_inside (known newer B)) (record_allowed 0 nothing_inside (known older A)) rs
    (λ r. record_smaller pairs 0 nothing_inside nothing_inside (known older A) (known newer B) r (record { each = λ A B rs h e. e; shallow = λ T rs e. absurd (true≢false (sym e)) }) (all A B h)) e
allows_smaller pairs older newer (suc k) A B rs all h e =
    all_implied (record_allowed (suc k) (allows newer k) (known newer B)) (record_allowed (suc k) (allows older k) (known older A)) rs
    (λ r. record_smaller pairs (suc k) (allows older k) (allows newer k) (known older A) (known newer B) r
    (record { each = λ A B rs. allows_smaller pairs older newer k A B rs all; shallow = λ T rs e. let l : greatest_level rs ≤ k = allowed_levels newer k T rs e in omega arith }) (all A B h)) e

pub accepts_related : (older newer : Schema) (k A B : ℕ) (bytes : List ℕ) → Relates older A newer B → Accepts newer k B bytes → Accepts older k A bytes
accepts_related older newer k A B bytes r a = record { records = a.records; spelled = a.spelled; allowed = allows_smaller r.pairs older newer k A B (items a.records) r.all r.first a.allowed }
