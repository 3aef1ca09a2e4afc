-- Where the pairs of a walk come from, and the paths that lead to them.
use Rattle.std.specs.Prelude.{◌≡◌, ◌<◌, ◌∷◌, ◌++◌}
use Rattle.prost_reflect_reduction.proofs.Common.{ℕ, zero, suc, nat_eq, eq-eqb, Bool, true, false, cond, not, List, [], length, flat_map, get_or, Some, refl, ap, ap₂, sym, ◌∙◌, arith, subst, reverse, OnOk, list_any, and_parts, or_parts, not-true, append-nil, reverse-append, Field, Schema, message_type, known, field_of, numbers_differ, TypePairs, holds, FieldTable, Tables, field_row, rows_of, schema_field, asked_by, pair_by, pair_at, TypeDiffers, FaultStands, shown_fields, field_asks, joined, AreSources, AreBefore, IsPairAt, source_at}
use Rattle.std.specs.declared.result.Result.{Result}
use Rattle.std.specs.declared.result.Result.TheVariants.{Ok, Err}
use Rattle.std.proofs.Math.ListN.{get_or-append}
use Rattle.prost_reflect_wire.proofs.Numbers.{eqb-sym}
use Rattle.prost_reflect_reduction.specs.declared.fault.ReductionFault.{ReductionFault}
use Rattle.prost_reflect_reduction.specs.declared.walk.Source.{Source}
use Rattle.prost_reflect_reduction.proofs.Walking.{longer}

pub on_ok : {T E : Type 0} (r : Result T E) (P Q : Type 0) → (P → Q) → OnOk r P → OnOk r Q
on_ok (Ok x) P Q f h = f h
on_ok (Err e) P Q f h = tt

-- PAIRS KEEP THEIR PLACES

joined_at : (pairs xs : TypePairs) (i : ℕ) (d : ℕ × ℕ) → i < length pairs → (i < length (joined pairs xs)) × (get_or (joined pairs xs) i d ≡ get_or pairs i d)
unfolding joined
joined_at pairs [] i d h = (h, refl)
joined_at pairs (x ∷ xs) i d h = go (holds pairs x.0 x.1) (λ ps k. joined_at ps xs i d k)
  where
    go : (c : Bool) → ((ps : TypePairs) → i < length ps → (i < length (joined ps xs)) × (get_or (joined ps xs) i d ≡ get_or ps i d)) → (i < length (joined (cond c pairs (pairs ++ x ∷ [])) xs)) × (get_or (joined (cond c pairs (pairs ++ x ∷ [])) xs) i d ≡ get_or pairs i d)
    go true more = more pairs h
    go false more =
        let l = longer pairs x in
        let (a, b) = more (pairs ++ x ∷ []) (omega (arith, h, l)) in
        (a, b ∙ get_or-append pairs (x ∷ []) d i h)

pub pair_kept : (pairs xs new : TypePairs) (place A B : ℕ) → IsPairAt pairs place A B → new ≡ joined pairs xs → IsPairAt new place A B
pair_kept pairs xs new place A B at is = let (a, b) = joined_at pairs xs place (0, 0) at.0 in subst (λ (ps : TypePairs). IsPairAt ps place A B) (sym is) (a, b ∙ at.1)

pub any_default : (pairs : TypePairs) (i : ℕ) (d e : ℕ × ℕ) → i < length pairs → get_or pairs i d ≡ get_or pairs i e
any_default [] i d e h = absurd (omega arith)
any_default (p ∷ pairs) zero d e h = refl
any_default (p ∷ pairs) (suc i) d e h = any_default pairs i d e (omega arith)

-- FIELDS OF DIFFERENT NUMBERS

none_at : (tables : Tables) (test : Field → Bool) (xs : List FieldTable) (i : ℕ) (x : FieldTable) → list_any test (shown_fields tables xs) ≡ false → i < length xs → x ≡ get_or xs i x → test (schema_field (rows_of tables) (field_row x)) ≡ false
none_at tables test [] i x h l e = absurd (omega arith)
none_at tables test (y ∷ xs) zero x h l e = ap (λ (z : FieldTable). test (schema_field (rows_of tables) (field_row z))) e ∙ (or_parts _ (list_any test (shown_fields tables xs)) h).0
none_at tables test (y ∷ xs) (suc i) x h l e = none_at tables test xs i x (or_parts (test (schema_field (rows_of tables) (field_row y))) (list_any test (shown_fields tables xs)) h).1 (omega arith) e

-- the field at a place is the one of its number
found_at : (tables : Tables) (xs : List FieldTable) (i : ℕ) (x : FieldTable) → numbers_differ (shown_fields tables xs) ≡ true → i < length xs → x ≡ get_or xs i x → field_of (shown_fields tables xs) x.number ≡ Some (schema_field (rows_of tables) (field_row x))
found_at tables [] i x differ h e = absurd (omega arith)
found_at tables (y ∷ xs) zero x differ h e =
    ap₂ (λ (z w : FieldTable). cond (nat_eq y.number z.number) (Some (schema_field (rows_of tables) (field_row y))) (field_of (shown_fields tables xs) w.number)) e e ∙
    (ap (λ b. cond b (Some (schema_field (rows_of tables) (field_row y))) (field_of (shown_fields tables xs) y.number)) (eq-eqb y.number y.number refl) ∙ ap (λ (z : FieldTable). Some (schema_field (rows_of tables) (field_row z))) (sym e))
found_at tables (y ∷ xs) (suc i) x differ h e =
    let (here, more) = and_parts (not (list_any (λ g. nat_eq g.number y.number) (shown_fields tables xs))) (numbers_differ (shown_fields tables xs)) differ in
    let other : nat_eq x.number y.number ≡ false = none_at tables (λ g. nat_eq g.number y.number) xs i x (not-true (list_any (λ g. nat_eq g.number y.number) (shown_fields tables xs)) here) (omega arith) e in
    ap (λ b. cond b (Some (schema_field (rows_of tables) (field_row y))) (field_of (shown_fields tables xs) x.number)) (eqb-sym y.number x.number ∙ other) ∙ found_at tables xs i x more (omega arith) e

-- a field leads to what it asks for
pub field_leads : (older : Tables) (schema schema' : Schema) (A B : ℕ) (pairs : TypePairs) (place : ℕ) (xs : List FieldTable) (i : ℕ) (x : FieldTable) (asked : TypePairs) → IsPairAt pairs place A B → shown_fields older xs ≡ known schema A → numbers_differ (known schema A) ≡ true → i < length xs → x ≡ get_or xs i x →
    asked ≡ field_asks (known schema' B) (schema_field (rows_of older) (field_row x)) → pair_by schema schema' (get_or pairs place (0, 0)) x.number ≡ asked
field_leads older schema schema' A B pairs place xs i x asked at is differ h e asks =
    let here : field_of (known schema A) x.number ≡ Some (schema_field (rows_of older) (field_row x)) = ap (λ (fs : List Field). field_of fs x.number) (sym is) ∙ found_at older xs i x (ap numbers_differ is ∙ differ) h e in
    ap (λ (p : ℕ × ℕ). pair_by schema schema' p x.number) at.1 ∙ (ap (asked_by (known schema' B)) here ∙ sym asks)

-- PATHS

pub no_path : (older newer : Schema) (p : ℕ × ℕ) (path : List ℕ) → path ≡ [] → pair_at older newer p (reverse path) ≡ p ∷ []
unfolding pair_at
no_path older newer p path is = ap (λ (ns : List ℕ). pair_at older newer p (reverse ns)) is

pub path_more : (older newer : Schema) (pairs : TypePairs) (sources : List Source) (at : ℕ) (path new : List ℕ) (q : ℕ × ℕ) → AreSources older newer pairs sources → 0 < at → at < length sources → pair_at older newer (get_or pairs at (0, 0)) (reverse path) ≡ q ∷ [] → new ≡ path ++ (source_at sources at).number ∷ [] →
    pair_at older newer (get_or pairs (source_at sources at).pair (0, 0)) (reverse new) ≡ q ∷ []
unfolding pair_at
path_more older newer pairs sources at path new q are low within leads is =
    let within' : at < length pairs = omega (arith, within, are.same) in
    let rest : ℕ × ℕ → TypePairs = λ p. pair_at older newer p (reverse path) in
    ap (λ (ns : List ℕ). pair_at older newer (get_or pairs (source_at sources at).pair (0, 0)) ns) (ap reverse is ∙ reverse-append path ((source_at sources at).number ∷ [])) ∙
    (ap (flat_map rest) (are.leads at low within') ∙ (append-nil (rest (get_or pairs at (0, 0))) ∙ leads))

pub sources_before : (older newer : Schema) (pairs : TypePairs) (sources : List Source) → AreSources older newer pairs sources → AreBefore sources
unfolding AreBefore
sources_before older newer pairs sources are = λ i low within. are.before i low (omega (arith, within, are.same))

pub source_before : (sources : List Source) (i : ℕ) → AreBefore sources → 0 < i → i < length sources → (source_at sources i).pair < i
unfolding AreBefore
source_before sources i before low within = before i low within

-- WALKS

-- the first pair has no source
pub no_pairs_sourced : (older newer : Schema) (pairs : TypePairs) (sources : List Source) → pairs ≡ [] → sources ≡ [] → AreSources older newer pairs sources
no_pairs_sourced older newer pairs sources none none' = record {
  same = ap length none' ∙ sym (ap length none);
  before = λ i low within. absurd (omega (arith, low, within, ap length none));
  leads = λ i low within. absurd (omega (arith, low, within, ap length none));
}

pub first_alone : (pairs : TypePairs) (A B : ℕ) → pairs ≡ joined [] ((A, B) ∷ []) → IsPairAt pairs 0 A B
unfolding joined
first_alone pairs A B is = subst (λ (ps : TypePairs). IsPairAt ps 0 A B) (sym is) (omega arith, refl)

pub pair_here : (pairs : TypePairs) (i : ℕ) (q : ℕ × ℕ) → i < length pairs → q ≡ get_or pairs i q → IsPairAt pairs i q.0 q.1
pair_here pairs i q within e = (within, any_default pairs i (0, 0) q within ∙ sym e)

-- what is found at a pair stands where the path to it leads
pub fault_stands : (older newer : Schema) (A B : ℕ) (pairs : TypePairs) (i : ℕ) (q : ℕ × ℕ) (fault : ReductionFault) → IsPairAt pairs 0 A B → IsPairAt pairs i q.0 q.1 → pair_at older newer (get_or pairs 0 (0, 0)) fault.path.items ≡ get_or pairs i (0, 0) ∷ [] →
    TypeDiffers fault.number fault.kind (message_type older q.0) (message_type newer q.1) → FaultStands older A newer B fault
fault_stands older newer A B pairs i q fault first at leads differs = record {
  types = q;
  reached = ap (λ (p : ℕ × ℕ). pair_at older newer p fault.path.items) (sym first.1) ∙ (leads ∙ ap (λ (p : ℕ × ℕ). p ∷ []) at.1);
  differs = differs;
}
