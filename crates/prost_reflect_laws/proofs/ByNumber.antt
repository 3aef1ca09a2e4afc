-- The records of one number, in records and in what is written of a meaning.
use Rattle.std.specs.Prelude.{◌≡◌, ◌&&◌, ◌||◌, ◌∷◌, ◌++◌}
use Rattle.prost_reflect_laws.proofs.Common.{ℕ, suc, Bool, true, false, cond, not, List, [], map, filter, flat_map, nat_eq, Option, Some, None, refl, ap, ap₂, sym, subst, ◌∙◌, arith, append-nil, append_assoc, eqb-true, eq-eqb, and_parts, and_from, or_parts, list_any, list_all, list_all-append, Record, Payload, Flat, Group, before, body_of, number_valid, payload_valid, plain_valid, valid, Field, field_of, is_sibling, Entries, Value, Slot, then_unknowns, then_value, store, table, payloads, has_number, numbered, value_records, value_payloads, stray_payloads, unknown_payloads, after_last, survive, record_at, entries_records, field_payloads, Ascending, is_in, not_in, Covers, eqb-sym, field_number, filter_append, map_append, all_after, block}
use Rattle.prost_reflect_laws.proofs.Commuting.{value_records_block}
use Rattle.prost_reflect_laws.proofs.Values.{value_records_known, unknown_known}
use Rattle.prost_reflect_laws.proofs.Spelt.{Sound, sound_append}
use Rattle.prost_reflect_laws.proofs.Back.{filter_block}

-- RECORDS OF A NUMBER

pub block_payloads : (n : ℕ) (ps : List Payload) → payloads (map (record_at n) ps) ≡ ps
block_payloads n [] = refl
block_payloads n (p ∷ ps) = ap (λ l. p ∷ l) (block_payloads n ps)

-- the records of a number are those of its payloads
pub numbered_records : (n : ℕ) (rs : List Record) → filter (has_number n) rs ≡ map (record_at n) (numbered n rs)
numbered_records n [] = refl
numbered_records n (r ∷ rs) = go (nat_eq r.number n) refl (numbered_records n rs)
  where
    go : (b : Bool) → nat_eq r.number n ≡ b → filter (has_number n) rs ≡ map (record_at n) (numbered n rs) → cond b (r ∷ filter (has_number n) rs) (filter (has_number n) rs) ≡ map (record_at n) (payloads (cond b (r ∷ filter (has_number n) rs) (filter (has_number n) rs)))
    go true e more = ap₂ (λ k l. record_at k r.payload ∷ l) (eqb-true r.number n e) more
    go false e more = more

module _ (fields : List Field) (n : ℕ) where
  -- what is taken of the records of a number, and what stays unknown
  pub values_of_block : (f : Field) (ps : List Payload) → field_of fields n ≡ Some f → flat_map (value_records fields) (map (record_at n) ps) ≡ block n (flat_map (value_payloads f.form f.value_type) ps)
  values_of_block f [] e = refl
  values_of_block f (p ∷ ps) e =
      ap₂ ◌++◌ (value_records_known fields n f p e) (values_of_block f ps e) ∙ sym (map_append (record_at n) (value_payloads f.form f.value_type p) (flat_map (value_payloads f.form f.value_type) ps))

  pub strays_of_block : (f : Field) (ps : List Payload) → field_of fields n ≡ Some f → flat_map (unknown_payloads fields) (map (record_at n) ps) ≡ flat_map (stray_payloads f.form f.value_type) ps
  strays_of_block f [] e = refl
  strays_of_block f (p ∷ ps) e = ap₂ ◌++◌ (unknown_known fields n f p e) (strays_of_block f ps e)

  pub unknowns_of_block : (ps : List Payload) → field_of fields n ≡ None → flat_map (unknown_payloads fields) (map (record_at n) ps) ≡ ps
  unknowns_of_block [] e = refl
  unknowns_of_block (p ∷ ps) e = ap₂ ◌++◌ (ap (λ (o : Option Field). elim o [ None ↦ p ∷ [] | Some f ↦ stray_payloads f.form f.value_type p ]) e) (unknowns_of_block ps e)

  -- what is taken of records keeps their numbers
  pub filter_values : (rs : List Record) → filter (has_number n) (flat_map (value_records fields) rs) ≡ flat_map (value_records fields) (filter (has_number n) rs)
  filter_values [] = refl
  filter_values (r ∷ rs) =
      let (ps, e) = value_records_block fields r in
      filter_append (has_number n) (value_records fields r) (flat_map (value_records fields) rs)
      ∙ ap₂ ◌++◌ (ap (filter (has_number n)) e ∙ filter_block r.number n ps ∙ ap (λ l. cond (nat_eq r.number n) l []) (sym e)) (filter_values rs)
      ∙ go (nat_eq r.number n)
    where
      go : (b : Bool) → cond b (value_records fields r) [] ++ flat_map (value_records fields) (filter (has_number n) rs) ≡ flat_map (value_records fields) (cond b (r ∷ filter (has_number n) rs) (filter (has_number n) rs))
      go true = refl
      go false = refl

-- none of a number, for each number that passes
pub none_by_number : (test : ℕ → Bool) (rs : List Record) → ((m : ℕ) → test m ≡ true → filter (has_number m) rs ≡ []) → list_any (λ r. test r.number) rs ≡ false
none_by_number test [] h = refl
none_by_number test (r ∷ rs) h = go (test r.number) refl (none_by_number test rs)
  where
    behind : (m : ℕ) (b : Bool) → cond b (r ∷ filter (has_number m) rs) (filter (has_number m) rs) ≡ [] → filter (has_number m) rs ≡ []
    behind m true e = cc
    behind m false e = e

    go : (b : Bool) → test r.number ≡ b → (((m : ℕ) → test m ≡ true → filter (has_number m) rs ≡ []) → list_any (λ r. test r.number) rs ≡ false) → (b || list_any (λ r. test r.number) rs) ≡ false
    go true e more =
        let gone : cond true (r ∷ filter (has_number r.number) rs) (filter (has_number r.number) rs) ≡ [] =
        ap (λ b. cond b (r ∷ filter (has_number r.number) rs) (filter (has_number r.number) rs)) (sym (eq-eqb r.number r.number refl)) ∙ h r.number e in
        absurd (some_none gone)
      where
        some_none : {A : Type 0} {x : A} {xs : List A} → (x ∷ xs) ≡ [] → ⊥
        some_none e = cc
    go false e more = more (λ m t. behind m (nat_eq r.number m) (h m t))

pub after_none : (test : Record → Bool) (rs : List Record) → list_any test rs ≡ false → after_last test rs ≡ rs
after_none test [] e = refl
after_none test (r ∷ rs) e =
    let (one, more) = or_parts (test r) (list_any test rs) e in
    ap₂ (λ b c. cond b (after_last test rs) (cond c rs (r ∷ rs))) more one

-- a test of the payloads of a number
abbrev pub at_number : (Payload → Bool) → ℕ → Record → Bool
at_number test n r = not (nat_eq r.number n) || test r.payload

pub all_at_number : (test : Payload → Bool) (n : ℕ) (rs : List Record) → list_all (at_number test n) rs ≡ list_all test (payloads (filter (has_number n) rs))
all_at_number test n [] = refl
all_at_number test n (r ∷ rs) = go (nat_eq r.number n) (all_at_number test n rs)
  where
    go : (b : Bool) → list_all (at_number test n) rs ≡ list_all test (payloads (filter (has_number n) rs)) → ((not b || test r.payload) && list_all (at_number test n) rs) ≡ list_all test (payloads (cond b (r ∷ filter (has_number n) rs) (filter (has_number n) rs)))
    go true more = ap (λ b. test r.payload && b) more
    go false more = more

-- what each record passes, the payloads of each number pass
pub payloads_pass : (n : ℕ) (test : Record → Bool) (of : Payload → Bool) (rs : List Record) → ((r : Record) → nat_eq r.number n ≡ true → test r ≡ true → of r.payload ≡ true) → list_all test rs ≡ true → list_all of (numbered n rs) ≡ true
payloads_pass n test of [] h all = refl
payloads_pass n test of (r ∷ rs) h all =
    let (one, more) = and_parts (test r) (list_all test rs) all in
    go (nat_eq r.number n) refl one (payloads_pass n test of rs h more)
  where
    go : (b : Bool) → nat_eq r.number n ≡ b → test r ≡ true → list_all of (numbered n rs) ≡ true → list_all of (payloads (cond b (r ∷ filter (has_number n) rs) (filter (has_number n) rs))) ≡ true
    go true e one more = and_from _ _ (h r e one) more
    go false e one more = more

-- what all payloads of a number pass, those that survive pass
pub surviving_pass : (test : Payload → Bool) (fields : List Field) (n : ℕ) (f : Field) (rs : List Record) → field_of fields n ≡ Some f → list_all test (flat_map (value_payloads f.form f.value_type) (numbered n rs)) ≡ true →
    list_all test (payloads (survive fields f (flat_map (value_records fields) rs))) ≡ true
surviving_pass test fields n f rs found h =
    sym (all_at_number test f.number (after_last sibling qs)) ∙ all_after (at_number test f.number) sibling qs (all_at_number test f.number qs ∙ ap (λ (k : ℕ). list_all test (payloads (filter (has_number k) qs))) (field_number fields n f found) ∙ ap (λ l. list_all test (payloads l)) mine ∙ ap (list_all test) (block_payloads n (flat_map (value_payloads f.form f.value_type) (numbered n rs))) ∙ h)
  where
    qs : List Record
    qs = flat_map (value_records fields) rs

    sibling : Record → Bool
    sibling r = is_sibling fields f r.number

    mine : filter (has_number n) (flat_map (value_records fields) rs) ≡ block n (flat_map (value_payloads f.form f.value_type) (numbered n rs))
    mine = filter_values fields n rs ∙ ap (flat_map (value_records fields)) (numbered_records n rs) ∙ values_of_block fields n f (numbered n rs) found

-- VALID RECORDS

abbrev pub record_valid : Record → Bool
record_valid r = number_valid r.number && payload_valid r.payload

pub valid_all : (rs : List Record) → valid (body_of rs) ≡ list_all record_valid rs
valid_all [] = refl
valid_all (r ∷ rs) = one r.payload ∙ ap (λ b. (number_valid r.number && payload_valid r.payload) && b) (valid_all rs)
  where
    regroup : (a b c : Bool) → (a && (b && c)) ≡ ((a && b) && c)
    regroup true b c = refl
    regroup false b c = refl

    one : (p : Payload) → valid (before (record { number = r.number; payload = p }) (body_of rs)) ≡ ((number_valid r.number && payload_valid p) && valid (body_of rs))
    one (Flat p) = regroup (number_valid r.number) (plain_valid p) (valid (body_of rs))
    one (Group inside) = regroup (number_valid r.number) (valid inside) (valid (body_of rs))

-- WHAT IS WRITTEN OF A MEANING

abbrev pub stored_payloads : Option Field → Option Value → List Payload
stored_payloads o None = []
stored_payloads o (Some v) = field_payloads o v

abbrev pub slot_payloads : Option Field → Slot → List Payload
slot_payloads o slot = stored_payloads o slot.value ++ slot.unknowns

pub unknowns_first : (fields : List Field) (n : ℕ) (ps : List Payload) (es : Entries) → entries_records fields (then_unknowns n ps es) ≡ map (record_at n) ps ++ entries_records fields es
unknowns_first fields n [] es = refl
unknowns_first fields n (p ∷ ps) es = ap (λ l. record_at n p ∷ l) (unknowns_first fields n ps es)

slot_first : (fields : List Field) (n : ℕ) (slot : Slot) (es : Entries) → entries_records fields (store n slot es) ≡ map (record_at n) (slot_payloads (field_of fields n) slot) ++ entries_records fields es
slot_first fields n slot es = go slot.value
  where
    go : (o : Option Value) → entries_records fields (then_value n o (then_unknowns n slot.unknowns es)) ≡ map (record_at n) (stored_payloads (field_of fields n) o ++ slot.unknowns) ++ entries_records fields es
    go None = unknowns_first fields n slot.unknowns es
    go (Some v) =
        ap (λ l. map (record_at n) (field_payloads (field_of fields n) v) ++ l) (unknowns_first fields n slot.unknowns es)
        ∙ sym (append_assoc (map (record_at n) (field_payloads (field_of fields n) v)) (map (record_at n) slot.unknowns) (entries_records fields es))
        ∙ ap (λ l. l ++ entries_records fields es) (sym (map_append (record_at n) (field_payloads (field_of fields n) v) slot.unknowns))

-- the records of a number in a table
table_at : (fields : List Field) (at : ℕ → Slot) (n low : ℕ) (ns : List ℕ) → Ascending low ns → filter (has_number n) (entries_records fields (table at ns)) ≡ cond (is_in n ns) (map (record_at n) (slot_payloads (field_of fields n) (at n))) []
table_at fields at n low [] a = refl
table_at fields at n low (m ∷ ms) (l, a) =
    ap (filter (has_number n)) (slot_first fields m (at m) (table at ms)) ∙ filter_append (has_number n) (map (record_at m) (slot_payloads (field_of fields m) (at m))) (entries_records fields (table at ms))
    ∙ ap₂ ◌++◌ (filter_block m n (slot_payloads (field_of fields m) (at m))) (table_at fields at n (suc m) ms a)
    ∙ go (nat_eq n m) refl
  where
    mine : ℕ → List Record
    mine k = map (record_at k) (slot_payloads (field_of fields k) (at k))

    go : (b : Bool) → nat_eq n m ≡ b → cond (nat_eq m n) (mine m) [] ++ cond (is_in n ms) (mine n) [] ≡ cond (b || is_in n ms) (mine n) []
    go true e =
        let same : n ≡ m = eqb-true n m e in
        ap₂ (λ x y. cond x (mine m) [] ++ cond y (mine n) []) (eqb-sym m n ∙ e) (not_in n (suc m) ms a (omega (arith, same))) ∙ append-nil (mine m) ∙ ap mine (sym same)
    go false e = ap (λ x. cond x (mine m) [] ++ cond (is_in n ms) (mine n) []) (eqb-sym m n ∙ e)

-- the records of a number in what is written of slots
pub table_records : (fields : List Field) (at : ℕ → Slot) (ns : List ℕ) (n : ℕ) → Ascending 0 ns → Covers at 0 ns → filter (has_number n) (entries_records fields (table at ns)) ≡ map (record_at n) (slot_payloads (field_of fields n) (at n))
table_records fields at ns n a covers = table_at fields at n 0 ns a ∙ go (is_in n ns) refl
  where
    go : (b : Bool) → is_in n ns ≡ b → cond b (map (record_at n) (slot_payloads (field_of fields n) (at n))) [] ≡ map (record_at n) (slot_payloads (field_of fields n) (at n))
    go true e = refl
    go false e = ap (λ slot. map (record_at n) (slot_payloads (field_of fields n) slot)) (sym (covers n (omega arith) e))

-- what the records of each number pass, all of them pass
pub table_all : (test : Record → Bool) (fields : List Field) (at : ℕ → Slot) (ns : List ℕ) → ((n : ℕ) → list_all test (map (record_at n) (slot_payloads (field_of fields n) (at n))) ≡ true) → list_all test (entries_records fields (table at ns)) ≡ true
table_all test fields at [] h = refl
table_all test fields at (n ∷ ns) h =
    ap (list_all test) (slot_first fields n (at n) (table at ns)) ∙ list_all-append test (map (record_at n) (slot_payloads (field_of fields n) (at n))) (entries_records fields (table at ns)) ∙ and_from _ _ (h n) (table_all test fields at ns h)

pub table_sound : (fields : List Field) (at : ℕ → Slot) (ns : List ℕ) → ((n : ℕ) → Sound (map (record_at n) (slot_payloads (field_of fields n) (at n)))) → Sound (entries_records fields (table at ns))
table_sound fields at [] h = tt
table_sound fields at (n ∷ ns) h =
    subst Sound (sym (slot_first fields n (at n) (table at ns))) (sound_append (map (record_at n) (slot_payloads (field_of fields n) (at n))) (entries_records fields (table at ns)) (h n) (table_sound fields at ns h))
