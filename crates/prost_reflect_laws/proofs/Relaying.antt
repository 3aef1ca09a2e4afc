-- What records mean to an older type of a reduction, and what they mean to the newer one, number by number.
use Rattle.std.specs.Prelude.{◌++◌, ◌≡◌, ◌∷◌}
use Rattle.prost_reflect_laws.proofs.Common.{ℕ, nat_le, true, List, [], map, filter, flat_map, Option, Some, None, refl, ap, ap₂, sym, subst, ◌∙◌, list_all, eqb-true, and_parts, none-some, ◌>>=◌, Payload, Record, payload_levels, body_of, number_valid, payload_valid, valid, Field, Schema, known, field_of, is_sibling, field_valid, numbers_differ, Value, AllowsInside, has_number, numbered, payloads, value_records, value_payloads, stray_payloads, unknown_payloads, field_allowed, record_allowed, MeansInside, survive, field_value, value_meaning, unknowns_meaning, meaning_at, record_at, TypePairs, field_number, field_nothing, surviving_value, all_filter}
use Rattle.prost_reflect_laws.proofs.Checked.{checked_field, found_valid, known_number}
use Rattle.prost_reflect_laws.proofs.Spelt.{Sound}
use Rattle.prost_reflect_laws.proofs.Readable.{numbered_valid}
use Rattle.prost_reflect_laws.proofs.Slots.{sibling_back}
use Rattle.prost_reflect_laws.proofs.Alike.{strays_alike}
use Rattle.prost_reflect_laws.proofs.Matches.{TypesMatch, Like}
use Rattle.prost_reflect_laws.proofs.Fellows.{one_survives}
use Rattle.prost_reflect_laws.proofs.ByNumber.{block_payloads, numbered_records, values_of_block, strays_of_block, unknowns_of_block, payloads_pass, surviving_pass, record_valid, valid_all, stored_payloads}
use Rattle.prost_reflect_laws.proofs.Again.{Carries, FieldAgain}
use Rattle.prost_reflect_laws.proofs.FieldAgain.{source, all_sources, Strays, all_strays, field_again}
use Rattle.prost_reflect_laws.proofs.SameSurvivors.{same_survivors}
use Rattle.prost_reflect_laws.proofs.WrittenSlots.{KnownSlot, LackingSlot, BothSlots, lone_survivors}

flat_same : {A B : Type 0} (f g : A → List B) (xs : List A) → ((x : A) → f x ≡ g x) → flat_map f xs ≡ flat_map g xs
flat_same f g [] h = refl
flat_same f g (x ∷ xs) h = ap₂ ◌++◌ (h x) (flat_same f g xs h)

records_sound : (rs : List Record) → list_all record_valid rs ≡ true → Sound rs
records_sound [] h = tt
records_sound (r ∷ rs) h =
    let (one, more) = and_parts (record_valid r) (list_all record_valid rs) h in
    let (number, payload) = and_parts (number_valid r.number) (payload_valid r.payload) one in
    (record { number = number; payload = record { sound = λ l. payload } }, records_sound rs more)

-- records that the newer type of a pair allows, one level above what carries
pub record Step (pairs : TypePairs) (k : ℕ) (i : MeansInside) (a : AllowsInside) (j : MeansInside) (older newer : Schema) (A B : ℕ) (rs : List Record) : Type 0 where
  pub carries : Carries pairs k i a j
  pub match : TypesMatch pairs (known older A) (known newer B)
  pub checked : list_all (field_valid older) (known older A) ≡ true
  pub differ : numbers_differ (known older A) ≡ true
  pub spelt : valid (body_of rs) ≡ true
  pub allowed : list_all (record_allowed k a (known newer B)) rs ≡ true

strays_at : (fields : List Field) (rs : List Record) (n : ℕ) (f : Field) → field_of fields n ≡ Some f → unknowns_meaning fields rs n ≡ flat_map (stray_payloads f.form f.value_type) (numbered n rs)
strays_at fields rs n f e = ap (flat_map (unknown_payloads fields)) (numbered_records n rs) ∙ strays_of_block fields n f (numbered n rs) e

value_found : (inner : MeansInside) (fields : List Field) (rs : List Record) (n : ℕ) (f : Field) → field_of fields n ≡ Some f → value_meaning inner fields rs n ≡ surviving_value inner fields f (flat_map (value_records fields) rs)
value_found inner fields rs n f e = ap (λ o. o >>= λ f. surviving_value inner fields f (flat_map (value_records fields) rs)) e

-- the payloads at a number are allowed there
pub numbered_allowed : (k : ℕ) (a : AllowsInside) (fields : List Field) (rs : List Record) (n : ℕ) (g : Field) → field_of fields n ≡ Some g → list_all (record_allowed k a fields) rs ≡ true → list_all (field_allowed k a g.form g.value_type) (numbered n rs) ≡ true
numbered_allowed k a fields rs n g found allowed = payloads_pass n (record_allowed k a fields) (field_allowed k a g.form g.value_type) rs
    (λ r e h. sym (ap (λ (o : Option Field). elim o [ None ↦ nat_le (payload_levels r.payload) k | Some f ↦ field_allowed k a f.form f.value_type r.payload ]) (ap (field_of fields) (eqb-true r.number n e) ∙ found)) ∙ h) allowed

-- what the newer type reads a field of
pub survivors_source : (k : ℕ) (a : AllowsInside) (fields : List Field) (rs : List Record) (n : ℕ) (g : Field) → field_of fields n ≡ Some g → valid (body_of rs) ≡ true → list_all (record_allowed k a fields) rs ≡ true →
    list_all (source k a g.form g.value_type) (payloads (survive fields g (flat_map (value_records fields) rs))) ≡ true
survivors_source k a fields rs n g found spelt allowed =
    surviving_pass (source k a g.form g.value_type) fields n g rs found (all_sources k a g.form g.value_type (numbered n rs) (numbered_valid n rs spelt) (numbered_allowed k a fields rs n g found allowed))

known_slot : (pairs : TypePairs) (k : ℕ) (i : MeansInside) (a : AllowsInside) (j : MeansInside) (older newer : Schema) (A B : ℕ) (rs : List Record) (n : ℕ) (f g : Field) → Step pairs k i a j older newer A B rs →
    field_of (known older A) n ≡ Some f → Like pairs (known older A) (known newer B) f g → KnownSlot k a j (known newer B) n f g (meaning_at i (known older A) rs n) (meaning_at j (known newer B) rs n)
known_slot pairs k i a j older newer A B rs n f g s found l = record {
  found = foundB;
  stored = subst (λ (o : Option Value). FieldAgain k a j g.form g.value_type (stored_payloads (Some f) o) (value_meaning j fieldsB rs n)) (sym (value_found i fieldsA rs n f found))
      (subst (λ (o : Option Value). FieldAgain k a j g.form g.value_type (stored_payloads (Some f) (field_value i f.form f.value_type survivors)) o) (ap (field_value j g.form g.value_type) same ∙ sym (value_found j fieldsB rs n g foundB))
      (field_again pairs k i a j older f g survivors s.carries (checked_field older f (found_valid older fieldsA n f s.checked found)) l.form l.type
      (ap (list_all (source k a g.form g.value_type)) same ∙ survivors_source k a fieldsB rs n g foundB s.spelt s.allowed)));
  strays = subst (Strays k a g.form g.value_type) (sym (strays_at fieldsA rs n f found ∙ alike)) (all_strays k a g.form g.value_type (numbered n rs) (numbered_valid n rs s.spelt) (numbered_allowed k a fieldsB rs n g foundB s.allowed));
  same_strays = strays_at fieldsA rs n f found ∙ alike ∙ sym (strays_at fieldsB rs n g foundB);
}
  where
    fieldsA : List Field
    fieldsA = known older A

    fieldsB : List Field
    fieldsB = known newer B

    survivors : List Payload
    survivors = payloads (survive (known older A) f (flat_map (value_records (known older A)) rs))

    foundB : field_of (known newer B) n ≡ Some g
    foundB = ap (field_of (known newer B)) (sym (field_number (known older A) n f found)) ∙ l.found

    same : payloads (survive (known older A) f (flat_map (value_records (known older A)) rs)) ≡ payloads (survive (known newer B) g (flat_map (value_records (known newer B)) rs))
    same = ap payloads (sym (same_survivors pairs fieldsA fieldsB n f g rs s.match found l))

    alike : flat_map (stray_payloads f.form f.value_type) (numbered n rs) ≡ flat_map (stray_payloads g.form g.value_type) (numbered n rs)
    alike = flat_same (stray_payloads f.form f.value_type) (stray_payloads g.form g.value_type) (numbered n rs) (λ p. sym (strays_alike pairs f.form g.form f.value_type g.value_type p l.form l.type.kind))

lacking_slot : (pairs : TypePairs) (k : ℕ) (i : MeansInside) (a : AllowsInside) (j : MeansInside) (older newer : Schema) (A B : ℕ) (rs : List Record) (n : ℕ) → Step pairs k i a j older newer A B rs → field_of (known older A) n ≡ None →
    LackingSlot k a j (known newer B) n (meaning_at i (known older A) rs n) (meaning_at j (known newer B) rs n)
lacking_slot pairs k i a j older newer A B rs n s e = record {
  none = ap (λ o. o >>= λ f. surviving_value i (known older A) f (flat_map (value_records (known older A)) rs)) e;
  sound = subst Sound (sym whole) (records_sound (filter (has_number n) rs) (all_filter record_valid (has_number n) rs (sym (valid_all rs) ∙ s.spelt)));
  allowed = ap (list_all (record_allowed k a (known newer B))) whole ∙ all_filter (record_allowed k a (known newer B)) (has_number n) rs s.allowed;
  value = λ g found. ap (field_value j g.form g.value_type) (value g found) ∙ sym (value_found j (known newer B) rs n g found);
  no_value = λ found. ap (λ o. o >>= λ g. surviving_value j (known newer B) g (flat_map (value_records (known newer B)) rs)) found;
  unknowns = ap (flat_map (unknown_payloads (known newer B))) whole;
}
  where
    payloads_stay : unknowns_meaning (known older A) rs n ≡ numbered n rs
    payloads_stay = ap (flat_map (unknown_payloads (known older A))) (numbered_records n rs) ∙ unknowns_of_block (known older A) n (numbered n rs) e

    whole : map (record_at n) (unknowns_meaning (known older A) rs n) ≡ filter (has_number n) rs
    whole = ap (map (record_at n)) payloads_stay ∙ sym (numbered_records n rs)

    value : (g : Field) → field_of (known newer B) n ≡ Some g → flat_map (value_payloads g.form g.value_type) (unknowns_meaning (known older A) rs n) ≡ payloads (survive (known newer B) g (flat_map (value_records (known newer B)) rs))
    value g found =
        ap (flat_map (value_payloads g.form g.value_type)) payloads_stay ∙ sym (block_payloads n (flat_map (value_payloads g.form g.value_type) (numbered n rs)))
        ∙ ap payloads (sym (lone_survivors pairs (known older A) (known newer B) n g rs s.match e found ∙ ap (flat_map (value_records (known newer B))) (numbered_records n rs) ∙ values_of_block (known newer B) n g (numbered n rs) found))

-- a sibling of a field that has a value has none
pub sibling_none : (i : MeansInside) (fields : List Field) (rs : List Record) (n m : ℕ) (f : Field) (v : Value) → numbers_differ fields ≡ true → field_of fields n ≡ Some f → is_sibling fields f m ≡ true → value_meaning i fields rs n ≡ Some v → value_meaning i fields rs m ≡ None
sibling_none i fields rs n m f v differ found fm some =
    let (h, found', hn) = sibling_back fields n m f differ found fm in
    value_found i fields rs m h found'
    ∙ ap (λ l. field_value i h.form h.value_type (payloads l)) (one_survives (has_number f.number) (has_number h.number) (λ r. is_sibling fields f r.number) (λ r. is_sibling fields h r.number) (flat_map (value_records fields) rs)
    (λ r e. ap (is_sibling fields h) (eqb-true r.number f.number e ∙ field_number fields n f found) ∙ hn)
    (λ r e. ap (is_sibling fields f) (eqb-true r.number h.number e ∙ field_number fields m h found') ∙ fm)
    (λ e. none-some _ (sym (sym some ∙ value_found i fields rs n f found ∙ ap (λ l. field_value i f.form f.value_type (payloads l)) e ∙ field_nothing i f.form f.value_type))))
    ∙ field_nothing i h.form h.value_type

-- what the records mean to both types
pub meaning_slots : (pairs : TypePairs) (k : ℕ) (i : MeansInside) (a : AllowsInside) (j : MeansInside) (older newer : Schema) (A B : ℕ) (rs : List Record) → Step pairs k i a j older newer A B rs →
    BothSlots pairs k a j (known older A) (known newer B) (meaning_at i (known older A) rs) (meaning_at j (known newer B) rs)
meaning_slots pairs k i a j older newer A B rs s = record {
  match = s.match;
  number = λ n f found. known_number older (known older A) n f s.checked found;
  known = λ n f g found l. known_slot pairs k i a j older newer A B rs n f g s found l;
  lacking = λ n e. lacking_slot pairs k i a j older newer A B rs n s e;
  alone = λ n m f v found h some. sibling_none i (known older A) rs n m f v s.differ found h some;
}
