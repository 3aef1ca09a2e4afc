-- Two records of a type hold the same exactly where each field does.
use Rattle.std.specs.Prelude.{◌≡◌, ◌↔◌, ◌&&◌, ◌∷◌}
use Rattle.prost_reflect_types.proofs.Common.{ℕ, Bool, true, false, cond, not, [], Option, Some, None, IsTrue, nat_eq, refl, sym, ap, ◌∙◌, ⊤, eq-eqb, eqb-true, and_parts, Content, ContentOf, Entries, Value, entries_of, then_value, value_at, type_place, record_schema, entries_from, record_content, RecordType}
use Rattle.prost_reflect_wire.specs.ContentEquality.{content_eq, content_same, content_refl}
use Rattle.prost_reflect_types.proofs.RecordSlots.{Slots}

-- field by field, behind what is known of those before
abbrev pub SameTo : Slots → Slots → Type 0 → Type 0
SameTo [] [] P = P
SameTo [] (y ∷ ys) P = ⊥
SameTo (x ∷ xs) [] P = ⊥
SameTo (x ∷ xs) (y ∷ ys) P = SameTo xs ys (P × (x.1 ≡ y.1))

pub all_equal : IsTrue true ↔ ⊤
all_equal = (λ yes. tt, λ t. refl)

pub and_also : {P Q : Type 0} {a b : Bool} → IsTrue a ↔ P → IsTrue b ↔ (IsTrue a × Q) → IsTrue b ↔ (P × Q)
and_also before here = (λ yes. let both = here.0 yes in (before.0 both.0, both.1), λ pq. here.1 (before.1 pq.0, pq.1))

pub decided_along : {b : Bool} {c d x y : Content} → c ≡ x → d ≡ y → IsTrue b ↔ (x ≡ y) → IsTrue b ↔ (c ≡ d)
decided_along cx dy h = (λ yes. cx ∙ h.0 yes ∙ sym dy, λ e. h.1 (sym cx ∙ e ∙ dy))

-- the same numbers, each once
abbrev pub absent : ℕ → Slots → Bool
absent n [] = true
absent n (x ∷ xs) = not (nat_eq x.0 n) && absent n xs

abbrev pub aligned : Slots → Slots → Bool
aligned [] [] = true
aligned [] (y ∷ ys) = false
aligned (x ∷ xs) [] = false
aligned (x ∷ xs) (y ∷ ys) = nat_eq x.0 y.0 && (absent x.0 xs && (absent x.0 ys && aligned xs ys))

value_absent : (n : ℕ) (xs : Slots) → absent n xs ≡ true → value_at n (entries_from xs) ≡ None
value_absent n [] h = refl
value_absent n (x ∷ xs) h = go x.1 (nat_eq x.0 n) refl (and_parts (not (nat_eq x.0 n)) (absent n xs) h).0 (value_absent n xs (and_parts (not (nat_eq x.0 n)) (absent n xs) h).1)
  where
    go : (o : Option Value) (b : Bool) → nat_eq x.0 n ≡ b → not (nat_eq x.0 n) ≡ true → value_at n (entries_from xs) ≡ None → value_at n (then_value x.0 o (entries_from xs)) ≡ None
    go None b is other rest = rest
    go (Some v) false is other rest = ap (λ b. cond b (Some v) (value_at n (entries_from xs))) is ∙ rest
    go (Some v) true is other rest = let h : false ≡ true = ap not (sym is) ∙ other in cc

value_here : (n : ℕ) (o : Option Value) (es : Entries) → value_at n es ≡ None → value_at n (then_value n o es) ≡ o
value_here n None es h = h
value_here n (Some v) es h = ap (λ b. cond b (Some v) (value_at n es)) (eq-eqb n n refl)

behind_same : (n : ℕ) (o : Option Value) (es ds : Entries) → then_value n o es ≡ then_value n o ds → es ≡ ds
behind_same n None es ds e = e
behind_same n (Some v) es ds e = cc

pub each_same : (xs ys : Slots) (P : Type 0) → aligned xs ys ≡ true → entries_from xs ≡ entries_from ys → P → SameTo xs ys P
each_same [] [] P al e p = p
each_same [] (y ∷ ys) P al e p = cc
each_same (x ∷ xs) [] P al e p = cc
each_same (x ∷ xs) (y ∷ ys) P al e p =
    let (number, rest) = and_parts (nat_eq x.0 y.0) _ al in
    let (mine, others) = and_parts (absent x.0 xs) _ rest in
    let (yours, more) = and_parts (absent x.0 ys) _ others in
    let here : then_value x.0 x.1 (entries_from xs) ≡ then_value x.0 y.1 (entries_from ys) = e ∙ ap (λ n. then_value n y.1 (entries_from ys)) (sym (eqb-true x.0 y.0 number)) in
    let first : x.1 ≡ y.1 = sym (value_here x.0 x.1 (entries_from xs) (value_absent x.0 xs mine)) ∙ ap (value_at x.0) here ∙ value_here x.0 y.1 (entries_from ys) (value_absent x.0 ys yours) in
    each_same xs ys (P × (x.1 ≡ y.1)) more (behind_same x.0 x.1 (entries_from xs) (entries_from ys) (here ∙ ap (λ o. then_value x.0 o (entries_from ys)) (sym first))) (p, first)

all_same : (xs ys : Slots) (P : Type 0) → aligned xs ys ≡ true → SameTo xs ys P → P × (entries_from xs ≡ entries_from ys)
all_same [] [] P al s = (s, refl)
all_same [] (y ∷ ys) P al s = absurd s
all_same (x ∷ xs) [] P al s = absurd s
all_same (x ∷ xs) (y ∷ ys) P al s =
    let (number, rest) = and_parts (nat_eq x.0 y.0) _ al in
    let more = (and_parts (absent x.0 ys) _ (and_parts (absent x.0 xs) _ rest).1).1 in
    let both = all_same xs ys (P × (x.1 ≡ y.1)) more s in
    (both.0.0, ap (λ n. then_value n x.1 (entries_from xs)) (eqb-true x.0 y.0 number) ∙ ap (λ o. then_value y.0 o (entries_from xs)) both.0.1 ∙ ap (then_value y.0 y.1) both.1)

pub record_decided : (t : RecordType) (xs ys : Slots) → aligned xs ys ≡ true → (b : Bool) → IsTrue b ↔ SameTo xs ys ⊤ → IsTrue b ↔ (record_content t xs ≡ record_content t ys)
record_decided t xs ys al b h = (λ yes. ap (ContentOf record_schema (type_place t)) (all_same xs ys ⊤ al (h.0 yes)).1, λ e. h.1 (each_same xs ys ⊤ al (ap entries_of e) tt))

-- an answer that decides equality is the test's
pub decided_value : (c d : Content) (b : Bool) → IsTrue b ↔ (c ≡ d) → b ≡ content_eq c d
decided_value c d true h = sym (ap (content_eq c) (sym (h.0 refl)) ∙ content_refl c)
decided_value c d false h = go (content_eq c d) refl
  where
    go : (b : Bool) → content_eq c d ≡ b → false ≡ b
    go false is = refl
    go true is = let no : false ≡ true = h.1 (content_same c d is) in cc
