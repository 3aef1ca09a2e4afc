-- What stays unknown of records that are allowed stays so where it is read again, with no more levels.
use Rattle.std.specs.Prelude.{◌≡◌, ◌≤◌, ◌&&◌, ◌∷◌}
use Rattle.prost_reflect_laws.proofs.Common.{ℕ, Bool, true, false, cond, List, [], filter, nat_eq, nat_le, Option, Some, None, refl, ap, sym, ◌∙◌, arith, true≢false, list_all, le-leb, and_parts, and_from, Payload, Record, payload_levels, number_valid, payload_valid, ScalarKind, Kind, ScalarOf, MessageOf, GroupOf, ValueType, FieldForm, Singular, Repeated, MapFrom, Field, Schema, field_of, is_key_kind, field_valid, passes, or_none, body, records_in, AllowsInside, is_len, one_allowed, has_level, in_entry_allowed, field_allowed, record_allowed, nothing_inside, element_payloads_in, is_stray, is_stray_entry, stray_payloads, unknown_payloads, greatest_level, stray_levels, is_whole_stray}
use Rattle.prost_reflect_laws.proofs.Checked.{found_valid, checked_field, checked_map}
use Rattle.prost_reflect_laws.proofs.Readable.{elements_in_valid}
use Rattle.prost_reflect_laws.proofs.Allowed.{entry_levels, one_stray, stray_kind, key_kind}
use Rattle.prost_reflect_laws.proofs.Slots.{unknown_good}

-- what is filtered passes the filter's test
pub all_filtered : {A : Type 0} (t u v : A → Bool) (xs : List A) → ((x : A) → u x ≡ true → v x ≡ true → t x ≡ true) → list_all v xs ≡ true → list_all t (filter u xs) ≡ true
all_filtered t u v [] f h = refl
all_filtered t u v (x ∷ xs) f h =
    let (one, more) = and_parts (v x) (list_all v xs) h in
    go (u x) refl one (all_filtered t u v xs f more)
  where
    go : (b : Bool) → u x ≡ b → v x ≡ true → list_all t (filter u xs) ≡ true → list_all t (cond b (x ∷ filter u xs) (filter u xs)) ≡ true
    go true e one more = and_from _ _ (f x e one) more
    go false e one more = more

abbrev stray_good : FieldForm → ValueType → ℕ → Payload → Bool
stray_good c value_type k p = (payload_valid p && is_whole_stray c value_type p) && nat_le (stray_levels c p) k

-- ENTRIES

-- the records of an entry of scalars need no more levels than their groups
entry_own : (k g : ℕ) (allow : AllowsInside) (key value_type : ValueType) (kind kind' : ScalarKind) (rs : List Record) → key.kind ≡ ScalarOf kind → value_type.kind ≡ ScalarOf kind' → greatest_level rs ≤ g →
    list_all (in_entry_allowed k allow key value_type) rs ≡ true → list_all (in_entry_allowed g nothing_inside key value_type) rs ≡ true
entry_own k g allow key value_type kind kind' [] d e l h = refl
entry_own k g allow key value_type kind kind' (r ∷ rs) d e l h =
    let (one, more) = and_parts (in_entry_allowed k allow key value_type r) (list_all (in_entry_allowed k allow key value_type) rs) h in
    and_from _ _ (go (nat_eq r.number 1) (nat_eq r.number 2) one) (entry_own k g allow key value_type kind kind' rs d e (omega arith) more)
  where
    own : (kd : Kind) (m : ScalarKind) → kd ≡ ScalarOf m → one_allowed allow kd r.payload ≡ true → one_allowed nothing_inside kd r.payload ≡ true
    own (ScalarOf x) m e h = h
    own (MessageOf T) m e h = cc
    own (GroupOf T) m e h = cc

    go : (b c : Bool) → cond b (one_allowed allow key.kind r.payload) (cond c (one_allowed allow value_type.kind r.payload) (nat_le (payload_levels r.payload) k)) ≡ true →
        cond b (one_allowed nothing_inside key.kind r.payload) (cond c (one_allowed nothing_inside value_type.kind r.payload) (nat_le (payload_levels r.payload) g)) ≡ true
    go true c h = own key.kind kind d h
    go false true h = own value_type.kind kind' e h
    go false false h = le-leb (payload_levels r.payload) g (omega arith)

pub entry_stays : (k : ℕ) (allow : AllowsInside) (key value_type : ValueType) (p : Payload) → is_key_kind key.kind ≡ true → payload_valid p ≡ true → field_allowed k allow (MapFrom key) value_type p ≡ true → is_stray_entry value_type p ≡ true → stray_good (MapFrom key) value_type k p ≡ true
entry_stays k allow key value_type p h v a s =
    let g : ℕ = greatest_level (records_in p) in
    let (shape, inside) = and_parts (is_len p && has_level k value_type.kind) (passes (body p) (list_all (in_entry_allowed k allow key value_type))) a in
    let (kind, d) = key_kind key.kind h in
    let (kind', e) = stray_kind value_type p s in
    let own : passes (body p) (list_all (in_entry_allowed g nothing_inside key value_type)) ≡ true = by_body (body p) kind kind' d e inside in
    let within : nat_le g k ≡ true = low (body p) kind kind' d e inside in
    and_from _ _ (and_from _ _ v (and_from _ _ s (and_from _ _ (and_from _ _ (and_parts (is_len p) (has_level k value_type.kind) shape).0 (ap (has_level g) e)) own))) within
  where
    by_body : (o : Option (List Record)) (kind kind' : ScalarKind) → key.kind ≡ ScalarOf kind → value_type.kind ≡ ScalarOf kind' → passes o (list_all (in_entry_allowed k allow key value_type)) ≡ true
        → passes o (list_all (in_entry_allowed (greatest_level (or_none o)) nothing_inside key value_type)) ≡ true
    by_body None kind kind' d e h = absurd (true≢false (sym h))
    by_body (Some rs) kind kind' d e h = entry_own k (greatest_level rs) allow key value_type kind kind' rs d e (omega arith) h

    low : (o : Option (List Record)) (kind kind' : ScalarKind) → key.kind ≡ ScalarOf kind → value_type.kind ≡ ScalarOf kind' → passes o (list_all (in_entry_allowed k allow key value_type)) ≡ true → nat_le (greatest_level (or_none o)) k ≡ true
    low None kind kind' d e h = absurd (true≢false (sym h))
    low (Some rs) kind kind' d e h = sym (entry_levels k (greatest_level rs) allow key value_type kind kind' rs d e (entry_own k (greatest_level rs) allow key value_type kind kind' rs d e (omega arith) h)) ∙ h

-- STRAYS

one_stays : (k : ℕ) (c : FieldForm) (value_type : ValueType) (p : Payload) → (is_whole_stray c value_type p ≡ is_stray value_type.kind p) → stray_levels c p ≡ payload_levels p → is_stray value_type.kind p ≡ true → payload_valid p ≡ true → stray_good c value_type k p ≡ true
one_stays k c value_type p e l s v =
    and_from _ _ (and_from _ _ v (e ∙ s)) (ap (λ (n : ℕ). nat_le n k) l ∙ sym (one_stray nothing_inside k value_type.kind p s).1)

strays_stay : (k : ℕ) (allow : AllowsInside) (c : FieldForm) (value_type : ValueType) (p : Payload) → ((key : ValueType) → c ≡ MapFrom key → is_key_kind key.kind ≡ true) → payload_valid p ≡ true → field_allowed k allow c value_type p ≡ true →
    list_all (stray_good c value_type k) (stray_payloads c value_type p) ≡ true
strays_stay k allow Singular value_type p keyed v a =
    all_filtered (stray_good Singular value_type k) (is_stray value_type.kind) payload_valid (p ∷ []) (λ q s w. one_stays k Singular value_type q refl refl s w) (and_from _ _ v refl)
strays_stay k allow (Repeated packed) value_type p keyed v a =
    all_filtered (stray_good (Repeated packed) value_type k) (is_stray value_type.kind) payload_valid (element_payloads_in value_type.kind p) (λ q s w. one_stays k (Repeated packed) value_type q refl refl s w) (elements_in_valid value_type.kind p v)
strays_stay k allow (MapFrom key) value_type p keyed v a =
    all_filtered (stray_good (MapFrom key) value_type k) (is_stray_entry value_type) (λ q. payload_valid q && field_allowed k allow (MapFrom key) value_type q) (p ∷ [])
    (λ q s w. let (x, y) = and_parts (payload_valid q) (field_allowed k allow (MapFrom key) value_type q) w in entry_stays k allow key value_type q (keyed key refl) x y s) (and_from _ _ (and_from _ _ v a) refl)

pub unknown_stays : (schema : Schema) (k : ℕ) (allow : AllowsInside) (fields : List Field) (r : Record) → list_all (field_valid schema) fields ≡ true → number_valid r.number ≡ true → payload_valid r.payload ≡ true → record_allowed k allow fields r ≡ true →
    list_all (unknown_good (field_of fields r.number) k r.number) (unknown_payloads fields r) ≡ true
unknown_stays schema k allow fields r g n v a = go (field_of fields r.number) refl a
  where
    go : (o : Option Field) → field_of fields r.number ≡ o → (elim o [ None ↦ nat_le (payload_levels r.payload) k | Some f ↦ field_allowed k allow f.form f.value_type r.payload ]) ≡ true
        → list_all (unknown_good o k r.number) (elim o [ None ↦ r.payload ∷ [] | Some f ↦ stray_payloads f.form f.value_type r.payload ]) ≡ true
    go None e a = and_from _ _ (and_from _ _ (and_from _ _ n v) a) refl
    go (Some f) e a = strays_stay k allow f.form f.value_type r.payload (λ key c. (checked_map schema f key (checked_field schema f (found_valid schema fields r.number f g e)) c).keyed) v a
