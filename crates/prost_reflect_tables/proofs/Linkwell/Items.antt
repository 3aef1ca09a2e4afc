-- What tests say of the items of lists, and the linked messages place by place.
use Rattle.std.specs.Prelude.{◌≡◌, ◌+◌, ◌&&◌, ◌∷◌}
use Rattle.prost_reflect_tables.proofs.Common.{ℕ, zero, suc, Bool, true, false, cond, List, [], length, Option, Some, refl, sym, ap, ◌∙◌, subst, arith, slice_get, nat_le, list_any, list_all, or_parts, and_from, and_parts, FieldDescriptorProto, FieldRow, MessageRow, DefinitionRow, FlatMessageRow, Links, put_in_order, in_order, is_place, belonging, fields_of_message, linked_message, messages_from}

-- Where no item passes a test, none does at a place.
pub none_at : {X : Type 0} (t : X → Bool) (xs : List X) (i : ℕ) (x : X) → list_any t xs ≡ false → slice_get xs i ≡ Some x → t x ≡ false
none_at t [] i x h e = cc
none_at t (y ∷ ys) zero x h e = let same : y ≡ x = cc in ap t (sym same) ∙ (or_parts (t y) (list_any t ys) h).0
none_at t (y ∷ ys) (suc i) x h e = none_at t ys i x (or_parts (t y) (list_any t ys) h).1 e

pub all_from : {X : Type 0} (t : X → Bool) (xs : List X) → ((i : ℕ) (x : X) → slice_get xs i ≡ Some x → t x ≡ true) → list_all t xs ≡ true
all_from t [] h = refl
all_from t (x ∷ xs) h = and_from (t x) (list_all t xs) (h 0 x refl) (all_from t xs (λ i. h (suc i)))

pub all_belonging : {X : Type 0} (place : X → Option ℕ) (T : ℕ) (t : X → Bool) (xs : List X) → ((i : ℕ) (x : X) → slice_get xs i ≡ Some x → is_place T (place x) ≡ true → t x ≡ true) → list_all t (belonging place xs T) ≡ true
all_belonging place T t [] h = refl
all_belonging place T t (x ∷ xs) h = go (is_place T (place x)) refl (all_belonging place T t xs (λ i. h (suc i)))
  where
    go : (b : Bool) → is_place T (place x) ≡ b → list_all t (belonging place xs T) ≡ true → list_all t (cond b (x ∷ belonging place xs T) (belonging place xs T)) ≡ true
    go true is more = and_from (t x) (list_all t (belonging place xs T)) (h 0 x refl is) more
    go false is more = more

all_put : (t : FieldRow → Bool) (f : FieldRow) (fields : List FieldRow) → t f ≡ true → list_all t fields ≡ true → list_all t (put_in_order f fields) ≡ true
all_put t f [] h k = and_from (t f) true h refl
all_put t f (g ∷ fields) h k = go (nat_le f.number g.number) (and_parts (t g) (list_all t fields) k) (λ more. all_put t f fields h more)
  where
    go : (b : Bool) → (t g ≡ true) × (list_all t fields ≡ true) → (list_all t fields ≡ true → list_all t (put_in_order f fields) ≡ true) → list_all t (cond b (f ∷ g ∷ fields) (g ∷ put_in_order f fields)) ≡ true
    go true parts more = and_from (t f) (t g && list_all t fields) h (and_from (t g) (list_all t fields) parts.0 parts.1)
    go false parts more = and_from (t g) (list_all t (put_in_order f fields)) parts.0 (more parts.1)

pub all_in_order : (t : FieldRow → Bool) (fields : List FieldRow) → list_all t fields ≡ true → list_all t (in_order fields) ≡ true
all_in_order t [] h = refl
all_in_order t (f ∷ fields) h =
    let parts = and_parts (t f) (list_all t fields) h in
    all_put t f (in_order fields) parts.0 (all_in_order t fields parts.1)

-- MESSAGES

pub messages_all : (t : MessageRow → Bool) (links : Links) (extensions : List (DefinitionRow FieldDescriptorProto)) (T : ℕ) (ms : List FlatMessageRow) →
    ((i : ℕ) (m : FlatMessageRow) → slice_get ms i ≡ Some m → t (linked_message (fields_of_message links extensions (T + i) m) m) ≡ true) → list_all t (messages_from links extensions T ms) ≡ true
messages_all t links extensions T [] h = refl
messages_all t links extensions T (m ∷ ms) h =
    let first : T + 0 ≡ T = omega arith in
    and_from (t (linked_message (fields_of_message links extensions T m) m)) (list_all t (messages_from links extensions (T + 1) ms))
    (subst (λ (n : ℕ). t (linked_message (fields_of_message links extensions n m) m) ≡ true) first (h 0 m refl))
    (messages_all t links extensions (T + 1) ms (λ i x at. let next : T + suc i ≡ (T + 1) + i = omega arith in subst (λ (n : ℕ). t (linked_message (fields_of_message links extensions n x) x) ≡ true) next (h (suc i) x at)))

pub message_at : (links : Links) (extensions : List (DefinitionRow FieldDescriptorProto)) (T : ℕ) (ms : List FlatMessageRow) (i : ℕ) (m : FlatMessageRow) →
    slice_get ms i ≡ Some m → slice_get (messages_from links extensions T ms) i ≡ Some (linked_message (fields_of_message links extensions (T + i) m) m)
message_at links extensions T [] i m at = cc
message_at links extensions T (x ∷ ms) zero m at =
    let same : x ≡ m = cc in
    let first : T ≡ T + 0 = omega arith in
    ap (λ (y : FlatMessageRow). Some (linked_message (fields_of_message links extensions T y) y)) same ∙ ap (λ (n : ℕ). Some (linked_message (fields_of_message links extensions n m) m)) first
message_at links extensions T (x ∷ ms) (suc i) m at =
    let next : (T + 1) + i ≡ T + suc i = omega arith in
    message_at links extensions (T + 1) ms i m at ∙ ap (λ (n : ℕ). Some (linked_message (fields_of_message links extensions n m) m)) next

pub messages_length : (links : Links) (extensions : List (DefinitionRow FieldDescriptorProto)) (T : ℕ) (ms : List FlatMessageRow) → length (messages_from links extensions T ms) ≡ length ms
messages_length links extensions T [] = refl
messages_length links extensions T (m ∷ ms) = ap suc (messages_length links extensions (T + 1) ms)
