-- What the fields of two message types of a reduction have in common.
use Rattle.std.specs.Prelude.{◌≡◌, ◌&&◌, ◌||◌, ◌∷◌}
use Rattle.prost_reflect_laws.proofs.Common.{ℕ, Bool, true, false, cond, List, [], nat_eq, Option, Some, None, refl, ap, ap₂, sym, ◌∙◌, true≢false, eqb-true, and_parts, and_from, or_parts, beq, list_any, list_all, Field, Schema, message_type, known, field_of, same_oneof, passes, TypePairs, holds, same_form, value_types_match, fields_match, same_siblings, has_match, has_no_fellow, entries_whole, types_match, all_match, Reduced, all_implied, eqb-sym}
use Rattle.prost_reflect_laws.proofs.Alike.{SameType, same_type}

-- FIELDS OF A LIST

-- what holds of all holds of the one of a number
pub found_passes : (test : Field → Bool) (fields : List Field) (n : ℕ) (f : Field) → list_all test fields ≡ true → field_of fields n ≡ Some f → test f ≡ true
found_passes test [] n f h e = cc
found_passes test (g ∷ fields) n f h e =
    let (one, more) = and_parts (test g) (list_all test fields) h in
    go (nat_eq g.number n) e one (found_passes test fields n f more)
  where
    go : (b : Bool) → cond b (Some g) (field_of fields n) ≡ Some f → test g ≡ true → (field_of fields n ≡ Some f → test f ≡ true) → test f ≡ true
    go true e one more = ap test (ap (λ (o : Option Field). elim o [ None ↦ f | Some x ↦ x ]) (sym e)) ∙ one
    go false e one more = more e

-- what some field passes fails nowhere only if it fails there
pub any_found : (test : Field → Bool) (fields : List Field) (n : ℕ) (f : Field) → list_any test fields ≡ false → field_of fields n ≡ Some f → test f ≡ false
any_found test [] n f h e = cc
any_found test (g ∷ fields) n f h e =
    let (one, more) = or_parts (test g) (list_any test fields) h in
    go (nat_eq g.number n) e one (any_found test fields n f more)
  where
    go : (b : Bool) → cond b (Some g) (field_of fields n) ≡ Some f → test g ≡ false → (field_of fields n ≡ Some f → test f ≡ false) → test f ≡ false
    go true e one more = ap test (ap (λ (o : Option Field). elim o [ None ↦ f | Some x ↦ x ]) (sym e)) ∙ one
    go false e one more = more e

-- a field of the list that passes
pub record Passing (test : Field → Bool) (fields : List Field) : Type 0 where
  pub field : Field
  pub passes : test field ≡ true
  pub all : (other : Field → Bool) → list_all other fields ≡ true → other field ≡ true
  pub none : (other : Field → Bool) → list_any other fields ≡ false → other field ≡ false

pub some_field : (test : Field → Bool) (fields : List Field) → list_any test fields ≡ true → Passing test fields
some_field test [] h = absurd (true≢false (sym h))
some_field test (g ∷ fields) h = go (test g) refl h (some_field test fields)
  where
    go : (b : Bool) → test g ≡ b → (b || list_any test fields) ≡ true → (list_any test fields ≡ true → Passing test fields) → Passing test (g ∷ fields)
    go true e h more = record { field = g; passes = e; all = λ other a. (and_parts (other g) (list_all other fields) a).0; none = λ other a. (or_parts (other g) (list_any other fields) a).0 }
    go false e h more =
        let p : Passing test fields = more h in
        record { field = p.field; passes = p.passes; all = λ other a. p.all other (and_parts (other g) (list_all other fields) a).1; none = λ other a. p.none other (or_parts (other g) (list_any other fields) a).1 }

-- the one of a number is a field of the list
pub found_any : (test : Field → Bool) (fields : List Field) (n : ℕ) (f : Field) → field_of fields n ≡ Some f → test f ≡ true → list_any test fields ≡ true
found_any test fields n f found h = go (list_any test fields) refl
  where
    go : (b : Bool) → list_any test fields ≡ b → list_any test fields ≡ true
    go true e = e
    go false e = absurd (true≢false (sym h ∙ any_found test fields n f e found))

-- SIBLINGS

pub same_oneof_sym : (a b : Option ℕ) → same_oneof a b ≡ same_oneof b a
same_oneof_sym (Some a) (Some b) = eqb-sym a b
same_oneof_sym (Some a) None = refl
same_oneof_sym None (Some b) = refl
same_oneof_sym None None = refl

abbrev pub member_at : ℕ → Option ℕ → Field → Bool
member_at n oneof g = nat_eq g.number n && same_oneof g.oneof oneof

-- TYPES OF A PAIR

-- two types that are a pair of the set match
pub pair_matches : (pairs ps : TypePairs) (older newer : Schema) (A B : ℕ) → holds ps A B ≡ true → list_all (λ p. types_match pairs (message_type older p.0) (message_type newer p.1)) ps ≡ true → types_match pairs (message_type older A) (message_type newer B) ≡ true
pair_matches pairs [] older newer A B h all = absurd (true≢false (sym h))
pair_matches pairs (p ∷ ps) older newer A B h all =
    let (one, more) = and_parts (types_match pairs (message_type older p.0) (message_type newer p.1)) (list_all (λ p. types_match pairs (message_type older p.0) (message_type newer p.1)) ps) all in
    go (nat_eq p.0 A) (nat_eq p.1 B) refl refl h one (λ e. pair_matches pairs ps older newer A B e more)
  where
    go : (b c : Bool) → nat_eq p.0 A ≡ b → nat_eq p.1 B ≡ c → ((b && c) || holds ps A B) ≡ true → types_match pairs (message_type older p.0) (message_type newer p.1) ≡ true →
        (holds ps A B ≡ true → types_match pairs (message_type older A) (message_type newer B) ≡ true) → types_match pairs (message_type older A) (message_type newer B) ≡ true
    go true true d e h one more = sym (ap₂ (λ a b. types_match pairs (message_type older a) (message_type newer b)) (eqb-true p.0 A d) (eqb-true p.1 B e)) ∙ one
    go true false d e h one more = more h
    go false c d e h one more = more h

-- whether a field has its like, a field or an extension
abbrev pub has_like : TypePairs → List Field → List Field → Field → Bool
has_like pairs older newer f = passes (field_of newer f.number) (λ g. same_form pairs f.form g.form && value_types_match pairs f.value_type g.value_type && same_siblings older newer f g)

pub record TypesMatch (pairs : TypePairs) (older newer : List Field) : Type 0 where
  pub each : list_all (has_like pairs older newer) older ≡ true
  pub lacking : list_all (has_no_fellow older newer) newer ≡ true

-- the types of each pair
abbrev pub AllMatch : TypePairs → Schema → Schema → Type 0
AllMatch pairs older newer = (A B : ℕ) → holds pairs A B ≡ true → TypesMatch pairs (known older A) (known newer B)

-- a match is a like
like_of_match : (pairs : TypePairs) (older newer : List Field) (f : Field) → has_match pairs older newer f ≡ true → has_like pairs older newer f ≡ true
like_of_match pairs older newer f h = go (field_of newer f.number) h
  where
    go : (o : Option Field) → passes o (λ g. fields_match pairs f g && same_siblings older newer f g) ≡ true → passes o (λ g. same_form pairs f.form g.form && value_types_match pairs f.value_type g.value_type && same_siblings older newer f g) ≡ true
    go None h = h
    go (Some g) h =
        let (abc, d) = and_parts (fields_match pairs f g) (same_siblings older newer f g) h in
        let (ab, c) = and_parts (beq f.is_extension g.is_extension && same_form pairs f.form g.form) (value_types_match pairs f.value_type g.value_type) abc in
        and_from _ _ (and_from _ _ (and_parts (beq f.is_extension g.is_extension) (same_form pairs f.form g.form) ab).1 c) d

pub matching : (pairs : TypePairs) (older newer : Schema) → all_match pairs older newer ≡ true → AllMatch pairs older newer
matching pairs older newer all A B h =
    let m : types_match pairs (message_type older A) (message_type newer B) ≡ true = pair_matches pairs pairs older newer A B h all in
    let (ab, c) = and_parts (entries_whole (message_type older A) (message_type newer B) && list_all (has_match pairs (known older A) (known newer B)) (known older A)) (list_all (has_no_fellow (known older A) (known newer B)) (known newer B)) m in
    let each : list_all (has_match pairs (known older A) (known newer B)) (known older A) ≡ true = (and_parts (entries_whole (message_type older A) (message_type newer B)) (list_all (has_match pairs (known older A) (known newer B)) (known older A)) ab).1 in
    record { each = all_implied (has_match pairs (known older A) (known newer B)) (has_like pairs (known older A) (known newer B)) (known older A) (like_of_match pairs (known older A) (known newer B)) each; lacking = c }

-- an older and a newer type whose likes may be extensions
pub record Relates (older : Schema) (A : ℕ) (newer : Schema) (B : ℕ) : Type 0 where
  pub pairs : TypePairs
  pub first : holds pairs A B ≡ true
  pub all : AllMatch pairs older newer

pub relates : (older : Schema) (A : ℕ) (newer : Schema) (B : ℕ) → Reduced older A newer B → Relates older A newer B
relates older A newer B r = record { pairs = r.pairs; first = r.first; all = matching r.pairs older newer r.each }

-- a field and its like
pub record Like (pairs : TypePairs) (older newer : List Field) (f g : Field) : Type 0 where
  pub found : field_of newer f.number ≡ Some g
  pub form : same_form pairs f.form g.form ≡ true
  pub type : SameType pairs f.value_type g.value_type
  pub siblings : same_siblings older newer f g ≡ true

pub like : (pairs : TypePairs) (older newer : List Field) (n : ℕ) (f : Field) → TypesMatch pairs older newer → field_of older n ≡ Some f → (g : Field) × Like pairs older newer f g
like pairs older newer n f m e = go (field_of newer f.number) refl (found_passes (has_like pairs older newer) older n f m.each e)
  where
    go : (o : Option Field) → field_of newer f.number ≡ o → passes o (λ g. same_form pairs f.form g.form && value_types_match pairs f.value_type g.value_type && same_siblings older newer f g) ≡ true → (g : Field) × Like pairs older newer f g
    go None found h = absurd (true≢false (sym h))
    go (Some g) found h =
        let (ab, d) = and_parts (same_form pairs f.form g.form && value_types_match pairs f.value_type g.value_type) (same_siblings older newer f g) h in
        let (form, c) = and_parts (same_form pairs f.form g.form) (value_types_match pairs f.value_type g.value_type) ab in
        (g, record { found = found; form = form; type = same_type pairs f.value_type g.value_type c; siblings = d })
