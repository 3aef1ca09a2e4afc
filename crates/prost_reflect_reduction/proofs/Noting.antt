-- The first and the next members of oneofs, as they are noted from behind, and a walk over fields of the tables step by step.
use Rattle.std.specs.Prelude.{◌≡◌, ◌+◌, ◌-◌, ◌^◌, ◌<◌, ◌≤◌, ◌&&◌, ◌∷◌}
use Rattle.prost_reflect_reduction.proofs.Common.{ℕ, zero, suc, nat_eq, nat_lt, Bool, true, false, cond, List, [], length, map, drop, get_or, drop-cons, add-one, Option, Some, None, refl, ap, ap₂, sym, ◌∙◌, arith, subst, set, replicate, option_map, list_all, is_none, eqb-true, eqb-false, and_parts, and_from, get_or-set_same, get_or-set_other, length-set, drop-set, length-map, length-replicate, get_or-replicate, Field, MessageType, same_oneof, message_type, known, entries_whole, has_no_fellow, FieldTable, Tables, is_linked, message_linked, field_linked, oneof_in_range, kind_in_range, ascending_from, FieldRow, MessageRow, TableRows, field_row, oneof_row, message_row, rows_of, schema_of, schema_from, schema_field, schema_message, fellow_fault, pair_fault, at_number, first_fault, merge_fault, step_of, fault_behind, at_field, Explains, NumberDiffers, shown_fields, first_member, next_members, noted, AreFirst, has_alike, types_alike, ReductionFaultKind, MapEntry, Number}
use Rattle.std.proofs.Math.Seq.{drop-length}
use Rattle.std.proofs.Math.ListN.{drop_of_length-le}
use Rattle.prost_reflect_tables.specs.declared.tables.MessageTable.{MessageTable}
use Rattle.prost_reflect_reduction.specs.declared.types.FieldFault.{FieldFault}
use Rattle.prost_reflect_reduction.specs.declared.types.Step.{Step}
use Rattle.prost_reflect_reduction.proofs.Chains.{rising}
use Rattle.prost_reflect_reduction.proofs.Explaining.{none_merged, fault_differs}
use Rattle.prost_reflect_reduction.proofs.Merging.{merged_is}

pub first_at : (first : List ℕ) (fields : List Field) (o : ℕ) → AreFirst first fields → o < length first → get_or first o 0 ≡ first_member fields (Some o)
unfolding AreFirst
first_at first fields o are h = are o h

none_same : (o : Option ℕ) → same_oneof o None ≡ false
none_same None = refl
none_same (Some o) = refl

-- of no oneof there is no member
pub no_member : (fields : List Field) → first_member fields None ≡ 0
no_member [] = refl
no_member (f ∷ fields) = ap (λ b. cond b f.number (first_member fields None)) (none_same f.oneof) ∙ no_member fields

pub noted_length : (first : List ℕ) (o : Option ℕ) (n : ℕ) → length (noted first o n) ≡ length first
noted_length first None n = refl
noted_length first (Some o) n = length-set first o n

-- one field more in front
pub noted_first : (first : List ℕ) (f : Field) (fields : List Field) → AreFirst first fields → AreFirst (noted first f.oneof f.number) (f ∷ fields)
unfolding AreFirst
noted_first first f fields are = go f.oneof
  where
    go : (oneof : Option ℕ) → (o : ℕ) → o < length (noted first oneof f.number) → get_or (noted first oneof f.number) o 0 ≡ cond (same_oneof oneof (Some o)) f.number (first_member fields (Some o))
    go None o h = are o h
    go (Some p) o h = of (nat_eq p o) refl
      where
        within : o < length first
        within = omega (arith, h, length-set first p f.number)

        of : (b : Bool) → nat_eq p o ≡ b → get_or (set first p f.number) o 0 ≡ cond b f.number (first_member fields (Some o))
        of true e = let is = eqb-true p o e in ap (λ q. get_or (set first q f.number) o 0) is ∙ get_or-set_same first o f.number 0 within
        of false e = get_or-set_other first p o f.number 0 (λ s. eqb-false p o e (sym s)) ∙ are o within

-- AT THE TABLES

pub dropped : (xs : List FieldTable) (i : ℕ) (x : FieldTable) → i < length xs → x ≡ get_or xs i x → drop i xs ≡ x ∷ drop (suc i) xs
dropped xs i x h e = drop-cons xs i x h ∙ ap (λ (z : FieldTable). z ∷ drop (suc i) xs) (sym e)

dropped_before : (xs : List FieldTable) (place : ℕ) (x : FieldTable) → 0 < place → place ≤ length xs → x ≡ get_or xs (place - 1) x → drop (place - 1) xs ≡ x ∷ drop place xs
dropped_before xs place x low h e =
    let within : place - 1 < length xs = omega arith in
    let is : suc (place - 1) ≡ place = omega arith in
    dropped xs (place - 1) x within e ∙ ap (λ k. x ∷ drop k xs) is

pub none_noted : (first : List ℕ) (n : ℕ) (tables : Tables) (xs : List FieldTable) → first ≡ replicate n 0 → AreFirst first (shown_fields tables (drop (length xs) xs))
unfolding AreFirst
none_noted first n tables xs e = λ o l.
    let within : o < n = omega (arith, l, ap length e, length-replicate {A = ℕ} n 0) in
    ap (λ (f : List ℕ). get_or f o 0) e ∙ (get_or-replicate {A = ℕ} n o 0 0 within ∙ sym (ap (λ (d : List FieldTable). first_member (shown_fields tables d) (Some o)) (drop-length xs)))

pub nothing_left : (next : List ℕ) (tables : Tables) (xs : List FieldTable) → length next ≡ length xs → drop (length xs) next ≡ next_members (shown_fields tables (drop (length xs) xs))
unfolding next_members
nothing_left next tables xs e =
    let past : length next ≤ length xs = omega (arith, e) in
    drop_of_length-le next past ∙ sym (ap (λ (d : List FieldTable). next_members (shown_fields tables d)) (drop-length xs))

pub in_range_at : (n : ℕ) (xs : List FieldTable) (i : ℕ) (x : FieldTable) → list_all (λ f. oneof_in_range n f.oneof) (map field_row xs) ≡ true → i < length xs → x ≡ get_or xs i x → oneof_in_range n x.oneof ≡ true
in_range_at n [] i x all h e = absurd (omega arith)
in_range_at n (y ∷ xs) zero x all h e = ap (λ (z : FieldTable). oneof_in_range n z.oneof) e ∙ (and_parts (oneof_in_range n y.oneof) (list_all (λ f. oneof_in_range n f.oneof) (map field_row xs)) all).0
in_range_at n (y ∷ xs) (suc i) x all h e = in_range_at n xs i x (and_parts (oneof_in_range n y.oneof) (list_all (λ f. oneof_in_range n f.oneof) (map field_row xs)) all).1 (omega arith) e

pub first_kept : (tables : Tables) (xs : List FieldTable) (place : ℕ) (x : FieldTable) (first new : List ℕ) → 0 < place → place ≤ length xs → x ≡ get_or xs (place - 1) x → AreFirst first (shown_fields tables (drop place xs)) → new ≡ noted first x.oneof x.number → AreFirst new (shown_fields tables (drop (place - 1) xs))
first_kept tables xs place x first new low h e are is =
    subst (λ (d : List FieldTable). AreFirst new (shown_fields tables d)) (sym (dropped_before xs place x low h e))
    (subst (λ (f : List ℕ). AreFirst f (shown_fields tables (x ∷ drop place xs))) (sym is) (noted_first first (schema_field (rows_of tables) (field_row x)) (shown_fields tables (drop place xs)) are))

pub next_kept : (tables : Tables) (xs : List FieldTable) (place : ℕ) (x : FieldTable) (next : List ℕ) (v : ℕ) → 0 < place → place ≤ length xs → length next ≡ length xs → x ≡ get_or xs (place - 1) x → drop place next ≡ next_members (shown_fields tables (drop place xs)) → v ≡ first_member (shown_fields tables (drop place xs)) x.oneof →
    drop (place - 1) (set next (place - 1) v) ≡ next_members (shown_fields tables (drop (place - 1) xs))
unfolding next_members
next_kept tables xs place x next v low h len e done is =
    let within : place - 1 < length next = omega (arith, len) in
    let back : place - 1 + 1 ≡ place = omega arith in
    drop-set next (place - 1) v within ∙ (ap₂ (λ a k. a ∷ drop k next) is back ∙ (ap (λ (l : List ℕ). first_member (shown_fields tables (drop place xs)) x.oneof ∷ l) done ∙ sym (ap (λ (d : List FieldTable). next_members (shown_fields tables d)) (dropped_before xs place x low h e))))

pub next_length : (fields : List Field) → length (next_members fields) ≡ length fields
unfolding next_members
next_length [] = refl
next_length (f ∷ fields) = ap suc (next_length fields)

pub next_below : (tables : Tables) (xs : List FieldTable) (next : List ℕ) (i : ℕ) → next ≡ next_members (shown_fields tables xs) → i < length xs → i < length next
next_below tables xs next i e h = omega (arith, h, ap length e, next_length (shown_fields tables xs), length-map (map field_row xs) (schema_field (rows_of tables)), length-map xs field_row)

next_among : (tables : Tables) (xs : List FieldTable) (i : ℕ) (x : FieldTable) → i < length xs → x ≡ get_or xs i x → get_or (next_members (shown_fields tables xs)) i 0 ≡ first_member (shown_fields tables (drop (suc i) xs)) x.oneof
unfolding next_members
next_among tables [] i x h e = absurd (omega arith)
next_among tables (y ∷ xs) zero x h e = ap (λ (z : FieldTable). first_member (shown_fields tables xs) z.oneof) (sym e)
next_among tables (y ∷ xs) (suc i) x h e = next_among tables xs i x (omega arith) e

pub next_at : (tables : Tables) (xs : List FieldTable) (next : List ℕ) (i : ℕ) (x : FieldTable) → next ≡ next_members (shown_fields tables xs) → i < length xs → x ≡ get_or xs i x → get_or next i 0 ≡ first_member (shown_fields tables (drop (suc i) xs)) x.oneof
next_at tables xs next i x is h e = ap (λ (l : List ℕ). get_or l i 0) is ∙ next_among tables xs i x h e

-- ONE STEP OF A WALK

behind_step : (A B : Tables) (xs ys : List FieldTable) (fault : Option ReductionFaultKind) (n place : ℕ) → fault_behind A xs B ys (step_of fault n place) ≡ first_fault fault n (merge_fault (shown_fields A (drop place xs)) (shown_fields B ys))
behind_step A B xs ys None n place = refl
behind_step A B xs ys (Some fault) n place = refl

pub step_past : (A B : Tables) (xs ys : List FieldTable) (i j : ℕ) (y : FieldTable) (n : ℕ) (fault : Option ReductionFaultKind) (step : Step) → length xs ≤ i → j < length ys → y ≡ get_or ys j y → n ≡ first_member (shown_fields B (drop (suc j) ys)) y.oneof → fault ≡ fellow_fault n → step ≡ step_of fault y.number i →
    merge_fault (shown_fields A (drop i xs)) (shown_fields B (drop j ys)) ≡ fault_behind A xs B (drop (j + 1) ys) step
unfolding merge_fault
step_past A B xs ys i j y n fault step past h e is fault_is step_is =
    let gone : drop i xs ≡ [] = drop_of_length-le xs past in
    ap₂ (λ (ds es : List FieldTable). merge_fault (shown_fields A ds) (shown_fields B es)) gone (dropped ys j y h e) ∙
    (ap₂ (λ k (ds : List FieldTable). first_fault (fellow_fault k) y.number (merge_fault (shown_fields A ds) (shown_fields B (drop (suc j) ys)))) (sym is) (sym gone) ∙
    sym (ap₂ (λ p k. fault_behind A xs B (drop k ys) p) (step_is ∙ ap (λ o. step_of o y.number i) fault_is) (add-one j) ∙ behind_step A B xs (drop (suc j) ys) (fellow_fault n) y.number i))

pub step_one : (A B : Tables) (xs ys : List FieldTable) (i j : ℕ) (x y : FieldTable) (n : ℕ) (fault : Option ReductionFaultKind) (step : Step) → i < length xs → x ≡ get_or xs i x → j < length ys → y ≡ get_or ys j y → nat_eq x.number y.number ≡ false → nat_lt x.number y.number ≡ false → n ≡ first_member (shown_fields B (drop (suc j) ys)) y.oneof → fault ≡ fellow_fault n → step ≡ step_of fault y.number i →
    merge_fault (shown_fields A (drop i xs)) (shown_fields B (drop j ys)) ≡ fault_behind A xs B (drop (j + 1) ys) step
unfolding merge_fault
step_one A B xs ys i j x y n fault step low d h e differ more is fault_is step_is =
    ap₂ (λ (ds es : List FieldTable). merge_fault (shown_fields A ds) (shown_fields B es)) (dropped xs i x low d) (dropped ys j y h e) ∙
    (ap₂ (λ b c. cond b (first_fault (pair_fault (first_member (shown_fields A (drop (suc i) xs)) x.oneof) (first_member (shown_fields B (drop (suc j) ys)) y.oneof) (schema_field (rows_of A) (field_row x)) (schema_field (rows_of B) (field_row y))) x.number (merge_fault (shown_fields A (drop (suc i) xs)) (shown_fields B (drop (suc j) ys))))
    (cond c (Some (at_number x.number Number)) (first_fault (fellow_fault (first_member (shown_fields B (drop (suc j) ys)) y.oneof)) y.number (merge_fault (shown_fields A (x ∷ drop (suc i) xs)) (shown_fields B (drop (suc j) ys)))))) differ more ∙
    (ap₂ (λ k (ds : List FieldTable). first_fault (fellow_fault k) y.number (merge_fault (shown_fields A ds) (shown_fields B (drop (suc j) ys)))) (sym is) (sym (dropped xs i x low d)) ∙
    sym (ap₂ (λ p k. fault_behind A xs B (drop k ys) p) (step_is ∙ ap (λ o. step_of o y.number i) fault_is) (add-one j) ∙ behind_step A B xs (drop (suc j) ys) (fellow_fault n) y.number i)))

-- the newer type lacks the number
pub step_lacking : (A B : Tables) (xs ys : List FieldTable) (i j : ℕ) (x y : FieldTable) (step : Step) → i < length xs → x ≡ get_or xs i x → j < length ys → y ≡ get_or ys j y → nat_eq x.number y.number ≡ false → nat_lt x.number y.number ≡ true → step ≡ step_of (Some Number) x.number i →
    merge_fault (shown_fields A (drop i xs)) (shown_fields B (drop j ys)) ≡ fault_behind A xs B (drop (j + 1) ys) step
unfolding merge_fault
step_lacking A B xs ys i j x y step low d h e differ less step_is =
    ap₂ (λ (ds es : List FieldTable). merge_fault (shown_fields A ds) (shown_fields B es)) (dropped xs i x low d) (dropped ys j y h e) ∙
    (ap₂ (λ b c. cond b (first_fault (pair_fault (first_member (shown_fields A (drop (suc i) xs)) x.oneof) (first_member (shown_fields B (drop (suc j) ys)) y.oneof) (schema_field (rows_of A) (field_row x)) (schema_field (rows_of B) (field_row y))) x.number (merge_fault (shown_fields A (drop (suc i) xs)) (shown_fields B (drop (suc j) ys))))
    (cond c (Some (at_number x.number Number)) (first_fault (fellow_fault (first_member (shown_fields B (drop (suc j) ys)) y.oneof)) y.number (merge_fault (shown_fields A (x ∷ drop (suc i) xs)) (shown_fields B (drop (suc j) ys)))))) differ less ∙
    sym (ap (fault_behind A xs B (drop (j + 1) ys)) step_is))

pub step_both : (A B : Tables) (xs ys : List FieldTable) (i j : ℕ) (x y : FieldTable) (m n : ℕ) (fault : Option ReductionFaultKind) (step : Step) → i < length xs → x ≡ get_or xs i x → j < length ys → y ≡ get_or ys j y → nat_eq x.number y.number ≡ true →
    m ≡ first_member (shown_fields A (drop (suc i) xs)) x.oneof → n ≡ first_member (shown_fields B (drop (suc j) ys)) y.oneof → fault ≡ pair_fault m n (schema_field (rows_of A) (field_row x)) (schema_field (rows_of B) (field_row y)) → step ≡ step_of fault x.number (i + 1) →
    merge_fault (shown_fields A (drop i xs)) (shown_fields B (drop j ys)) ≡ fault_behind A xs B (drop (j + 1) ys) step
unfolding merge_fault
step_both A B xs ys i j x y m n fault step low d h e same m_is n_is fault_is step_is =
    ap₂ (λ (ds es : List FieldTable). merge_fault (shown_fields A ds) (shown_fields B es)) (dropped xs i x low d) (dropped ys j y h e) ∙
    (ap (λ b. cond b (first_fault (pair_fault (first_member (shown_fields A (drop (suc i) xs)) x.oneof) (first_member (shown_fields B (drop (suc j) ys)) y.oneof) (schema_field (rows_of A) (field_row x)) (schema_field (rows_of B) (field_row y))) x.number (merge_fault (shown_fields A (drop (suc i) xs)) (shown_fields B (drop (suc j) ys))))
    (cond (nat_lt x.number y.number) (Some (at_number x.number Number)) (first_fault (fellow_fault (first_member (shown_fields B (drop (suc j) ys)) y.oneof)) y.number (merge_fault (shown_fields A (x ∷ drop (suc i) xs)) (shown_fields B (drop (suc j) ys)))))) same ∙
    (ap₂ (λ k l. first_fault (pair_fault k l (schema_field (rows_of A) (field_row x)) (schema_field (rows_of B) (field_row y))) x.number (merge_fault (shown_fields A (drop (suc i) xs)) (shown_fields B (drop (suc j) ys)))) (sym m_is) (sym n_is) ∙
    (ap₂ (λ o k. first_fault o x.number (merge_fault (shown_fields A (drop k xs)) (shown_fields B (drop (suc j) ys)))) (sym fault_is) (sym (add-one i)) ∙
    sym (ap₂ (λ p k. fault_behind A xs B (drop k ys) p) step_is (add-one j) ∙ behind_step A B xs (drop (suc j) ys) fault x.number (i + 1)))))

-- the walk is done but for older fields
pub some_left : (A : Tables) (xs : List FieldTable) (i : ℕ) (x : FieldTable) → i < length xs → x ≡ get_or xs i x → Some (at_number x.number Number) ≡ merge_fault (shown_fields A (drop i xs)) []
unfolding merge_fault
some_left A xs i x h e = sym (ap (λ (ds : List FieldTable). merge_fault (shown_fields A ds) []) (dropped xs i x h e))

pub none_left : (A : Tables) (xs : List FieldTable) (i : ℕ) → length xs ≤ i → None ≡ merge_fault (shown_fields A (drop i xs)) []
unfolding merge_fault
none_left A xs i past = sym (ap (λ (ds : List FieldTable). merge_fault (shown_fields A ds) []) (drop_of_length-le xs past))

-- THE TYPES AT PLACES

type_among : (rows : TableRows) (ms : List MessageTable) (a : ℕ) (m : MessageTable) → a < length ms → m ≡ get_or ms a m → message_type (map (schema_message rows) (map message_row ms)) a ≡ schema_message rows (message_row m)
type_among rows [] a m h e = absurd (omega arith)
type_among rows (x ∷ ms) zero m h e = ap (λ (z : MessageTable). schema_message rows (message_row z)) (sym e)
type_among rows (x ∷ ms) (suc a) m h e = type_among rows ms a m (omega arith) e

pub type_at : (tables : Tables) (a : ℕ) (m : MessageTable) → a < length tables.messages → m ≡ get_or tables.messages a m → message_type (schema_of tables) a ≡ schema_message (rows_of tables) (message_row m)
unfolding schema_from
type_at tables a m h e = type_among (rows_of tables) tables.messages a m h e

linked_among : (p : MessageRow → Bool) (ms : List MessageTable) (a : ℕ) (m : MessageTable) → list_all p (map message_row ms) ≡ true → a < length ms → m ≡ get_or ms a m → p (message_row m) ≡ true
linked_among p [] a m all h e = absurd (omega arith)
linked_among p (x ∷ ms) zero m all h e = ap (λ (z : MessageTable). p (message_row z)) e ∙ (and_parts (p (message_row x)) (list_all p (map message_row ms)) all).0
linked_among p (x ∷ ms) (suc a) m all h e = linked_among p ms a m (and_parts (p (message_row x)) (list_all p (map message_row ms)) all).1 (omega arith) e

message_is_linked : (tables : Tables) (a : ℕ) (m : MessageTable) → is_linked (rows_of tables) ≡ true → a < length tables.messages → m ≡ get_or tables.messages a m → message_linked (length (rows_of tables).messages) (length (rows_of tables).enums) (message_row m) ≡ true
message_is_linked tables a m linked h e = linked_among (message_linked (length (rows_of tables).messages) (length (rows_of tables).enums)) tables.messages a m (and_parts _ _ (and_parts _ _ linked).0).0 h e

oneofs_among : (messages enums n : ℕ) (fields : List FieldRow) → list_all (field_linked messages enums n) fields ≡ true → list_all (λ f. oneof_in_range n f.oneof) fields ≡ true
oneofs_among messages enums n [] h = refl
oneofs_among messages enums n (f ∷ fields) h =
    let (one, more) = and_parts (field_linked messages enums n f) (list_all (field_linked messages enums n) fields) h in
    and_from _ _ (and_parts (kind_in_range messages enums f.kind) (oneof_in_range n f.oneof) one).1 (oneofs_among messages enums n fields more)

pub oneofs_linked : (tables : Tables) (a : ℕ) (m : MessageTable) → is_linked (rows_of tables) ≡ true → a < length tables.messages → m ≡ get_or tables.messages a m → list_all (λ f. oneof_in_range (length m.oneofs.items) f.oneof) (map field_row m.fields.items) ≡ true
oneofs_linked tables a m linked h e =
    let parts = (and_parts _ _ (and_parts _ _ (and_parts _ _ (message_is_linked tables a m linked h e)).0).0).1 in
    ap (λ n. list_all (λ (f : FieldRow). oneof_in_range n f.oneof) (map field_row m.fields.items)) (sym (length-map m.oneofs.items oneof_row)) ∙ oneofs_among _ _ (length (map oneof_row m.oneofs.items)) (map field_row m.fields.items) parts

rows_rise : (rows : TableRows) (low : ℕ) (fields : List FieldRow) → ascending_from low fields ≡ true → rising low (map (schema_field rows) fields) ≡ true
rows_rise rows low [] h = refl
rows_rise rows low (f ∷ fields) h =
    let (ab, c) = and_parts (nat_lt low f.number && nat_lt f.number (2 ^ 29)) (ascending_from f.number fields) h in
    and_from _ _ (and_parts (nat_lt low f.number) (nat_lt f.number (2 ^ 29)) ab).0 (rows_rise rows f.number fields c)

fields_rise : (tables : Tables) (a : ℕ) (m : MessageTable) → is_linked (rows_of tables) ≡ true → a < length tables.messages → m ≡ get_or tables.messages a m → rising 0 (shown_fields tables m.fields.items) ≡ true
fields_rise tables a m linked h e =
    rows_rise (rows_of tables) 0 (map field_row m.fields.items) (and_parts _ _ (and_parts _ _ (and_parts _ _ (message_is_linked tables a m linked h e)).0).0).0

-- what is found in the fields of two types explains them
pub fields_explained : (A B : Tables) (a b : ℕ) (m n : MessageTable) → is_linked (rows_of A) ≡ true → is_linked (rows_of B) ≡ true → a < length A.messages → m ≡ get_or A.messages a m → b < length B.messages → n ≡ get_or B.messages b n →
    entries_whole (schema_message (rows_of A) (message_row m)) (schema_message (rows_of B) (message_row n)) ≡ true → (found : Option FieldFault) → found ≡ merge_fault (shown_fields A m.fields.items) (shown_fields B n.fields.items) →
    Explains (option_map at_field found) (message_type (schema_of A) a) (message_type (schema_of B) b)
fields_explained A B a b m n linked linked' low e low' d whole found is = go found is
  where
    older : List Field
    older = shown_fields A m.fields.items

    newer : List Field
    newer = shown_fields B n.fields.items

    up : rising 0 older ≡ true
    up = fields_rise A a m linked low e

    up' : rising 0 newer ≡ true
    up' = fields_rise B b n linked' low' d

    alike : is_none (merge_fault older newer) ≡ types_alike (message_type (schema_of A) a) (message_type (schema_of B) b)
    alike = none_merged 0 older newer up up' ∙ (merged_is older newer up up' ∙
        (sym (ap (λ w. w && list_all (has_alike older newer) older && list_all (has_no_fellow older newer) newer) whole) ∙
        sym (ap₂ types_alike (type_at A a m low e) (type_at B b n low' d))))

    go : (found : Option FieldFault) → found ≡ merge_fault older newer → Explains (option_map at_field found) (message_type (schema_of A) a) (message_type (schema_of B) b)
    go None is = sym alike ∙ ap is_none (sym is)
    go (Some fault) is = (
      sym alike ∙ ap is_none (sym is),
      subst (λ (t : MessageType). NumberDiffers fault.kind t.known (known (schema_of B) b) fault.number) (sym (type_at A a m low e))
          (subst (λ (t : MessageType). NumberDiffers fault.kind older t.known fault.number) (sym (type_at B b n low' d)) (fault_differs older newer up up' fault (sym is))),
    )

pub entries_explained : (A B : Tables) (a b : ℕ) (m n : MessageTable) → a < length A.messages → m ≡ get_or A.messages a m → b < length B.messages → n ≡ get_or B.messages b n →
    entries_whole (schema_message (rows_of A) (message_row m)) (schema_message (rows_of B) (message_row n)) ≡ false → Explains (Some (record { number = None; kind = MapEntry })) (message_type (schema_of A) a) (message_type (schema_of B) b)
entries_explained A B a b m n low e low' d whole =
    let at : entries_whole (message_type (schema_of A) a) (message_type (schema_of B) b) ≡ false = ap₂ entries_whole (type_at A a m low e) (type_at B b n low' d) ∙ whole in
    (ap (λ w. w && list_all (has_alike (known (schema_of A) a) (known (schema_of B) b)) (known (schema_of A) a) && list_all (has_no_fellow (known (schema_of A) a) (known (schema_of B) b)) (known (schema_of B) b)) at, (refl, at))
