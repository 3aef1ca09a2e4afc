-- The first fault of a walk over the fields of two types: where there is none, the walk goes well, and what is found differs.
use Rattle.std.specs.Prelude.{◌≡◌, ◌≢◌, ◌⊎◌, ◌<◌, ◌&&◌, ◌∷◌}
use Rattle.prost_reflect_reduction.proofs.Common.{inl, inr, ⊎_elim, ℕ, nat_eq, nat_lt, eq-eqb, Bool, true, false, cond, not, List, [], Option, Some, None, refl, ap, ap₂, sym, ◌∙◌, arith, true≢false, subst, beq, is_some, is_none, cases_lt, eqb-true, eqb-false, ne_eqb, lt-ltb, ltb-true, and_from, Kind, ScalarOf, MessageOf, GroupOf, ValueType, Field, field_of, same_oneof, is_message, is_singular, is_sibling, passes, same_kind, same_default, value_types_match, EnumRow, schema_kind, kinds_fault, values_fault, forms_fault, fields_fault, pair_fault, fellow_fault, at_number, first_fault, merge_fault, both_enums, differs_in, share_oneof, OneofDiffers, NumberDiffers, first_member, merged, kinds_alike, values_alike, forms_alike, fields_alike, ReductionFaultKind}
use Rattle.std.proofs.lemmas.Option.{none-some, same_Some}
use Rattle.prost_reflect_tables.specs.declared.tables.TableKind.{TableKind}
use Rattle.prost_reflect_tables.specs.declared.tables.TableKind.TheVariants.{Double, Float, Int32, Int64, Uint32, Uint64, Sint32, Sint64, Fixed32, Fixed64, Sfixed32, Sfixed64, Bool as BoolTable, String, Bytes, Message, Enum as EnumTable}
use Rattle.prost_reflect_reduction.specs.declared.fault.ReductionFaultKind.TheVariants.{MapEntry, Number, Oneof, Extension, Cardinality, Map, Kind as KindDiffers, Enum as EnumDiffers, Presence, Default}
use Rattle.prost_reflect_reduction.specs.declared.types.FieldFault.{FieldFault}
use Rattle.prost_reflect_reduction.proofs.Chains.{rising, rise, onward, next_in, oneof_at, same, below_none, below_next, next_found, next_reached}
use Rattle.prost_reflect_reduction.proofs.Merging.{oneof_or, oneof_of, sibling_is}

-- VALUES AND FIELDS

pub none_values : (s t : ValueType) → is_none (values_fault s t) ≡ values_alike s t
none_values s t = go (kinds_alike s.kind t.kind) (beq s.required t.required) (beq s.presence t.presence) (same_default s.kind s.default t.default)
  where
    go : (a b c d : Bool) → is_none (cond a (cond b (cond c (cond d None (Some Default)) (Some Presence)) (Some Cardinality)) (Some (kinds_fault s.kind t.kind))) ≡ (a && b && c && d)
    go true true true true = refl
    go true true true false = refl
    go true true false d = refl
    go true false c d = refl
    go false b c d = refl

none_fields : (f g : Field) → is_none (fields_fault f g) ≡ fields_alike f g
none_fields f g = go (beq f.is_extension g.is_extension) (forms_alike f.form g.form)
  where
    go : (a b : Bool) → is_none (cond a (cond b (values_fault f.value_type g.value_type) (Some (forms_fault f.form g.form))) (Some Extension)) ≡ (a && b && values_alike f.value_type g.value_type)
    go true true = none_values f.value_type g.value_type
    go true false = refl
    go false b = refl

-- of a key, which is no message
kept_kind : (k l : Kind) → is_message k ≡ false → kinds_alike k l ≡ same_kind [] k l
kept_kind (ScalarOf k) (ScalarOf l) h = refl
kept_kind (ScalarOf k) (MessageOf B) h = refl
kept_kind (ScalarOf k) (GroupOf B) h = refl
kept_kind (MessageOf A) l h = absurd (true≢false h)
kept_kind (GroupOf A) l h = absurd (true≢false h)

pub scalar_kind : (enums : List EnumRow) (k : TableKind) (g : Bool) → ((T : ℕ) → k ≢ Message T) → is_message (schema_kind enums k g) ≡ false
scalar_kind enums Double g h = refl
scalar_kind enums Float g h = refl
scalar_kind enums Int32 g h = refl
scalar_kind enums Int64 g h = refl
scalar_kind enums Uint32 g h = refl
scalar_kind enums Uint64 g h = refl
scalar_kind enums Sint32 g h = refl
scalar_kind enums Sint64 g h = refl
scalar_kind enums Fixed32 g h = refl
scalar_kind enums Fixed64 g h = refl
scalar_kind enums Sfixed32 g h = refl
scalar_kind enums Sfixed64 g h = refl
scalar_kind enums BoolTable g h = refl
scalar_kind enums String g h = refl
scalar_kind enums Bytes g h = refl
scalar_kind enums (EnumTable E) g h = refl
scalar_kind enums (Message T) g h = absurd (h T refl)

pub keys_none : (s t : ValueType) → is_message s.kind ≡ false → is_none (values_fault s t) ≡ value_types_match [] s t
keys_none s t h = none_values s t ∙ ap (λ a. a && beq s.required t.required && beq s.presence t.presence && same_default s.kind s.default t.default) (kept_kind s.kind t.kind h)

pub none_or : (A : Type 0) (o : Option A) (b : Bool) → is_some o ≡ not b → b ≡ is_none o
none_or A o true h = ap not (sym h)
none_or A o false h = ap not (sym h)

both_fail : (a : Bool) → not (a && false) ≡ true
both_fail true = refl
both_fail false = refl

values_differ : (f g : Field) (fault : ReductionFaultKind) → values_fault f.value_type g.value_type ≡ Some fault → differs_in fault f g ≡ true
values_differ f g fault h = go (kinds_alike s.kind t.kind) refl (beq s.required t.required) refl (beq s.presence t.presence) refl (same_default s.kind s.default t.default) refl h
  where
    s : ValueType
    s = f.value_type

    t : ValueType
    t = g.value_type

    of : (b : Bool) → both_enums s.kind t.kind ≡ b → kinds_alike s.kind t.kind ≡ false → differs_in (cond b EnumDiffers KindDiffers) f g ≡ true
    of true e k = and_from _ _ e (ap not k)
    of false e k = and_from _ _ (ap not e) (ap not k)

    told : (found : ReductionFaultKind) → differs_in found f g ≡ true → Some found ≡ Some fault → differs_in fault f g ≡ true
    told found d e = subst (λ x. differs_in x f g ≡ true) (same_Some found fault e) d

    go : (a : Bool) → kinds_alike s.kind t.kind ≡ a → (b : Bool) → beq s.required t.required ≡ b → (c : Bool) → beq s.presence t.presence ≡ c → (d : Bool) → same_default s.kind s.default t.default ≡ d →
        cond a (cond b (cond c (cond d None (Some Default)) (Some Presence)) (Some Cardinality)) (Some (kinds_fault s.kind t.kind)) ≡ Some fault → differs_in fault f g ≡ true
    go true k true r true p true d e = absurd (none-some fault e)
    go true k true r true p false d e = told Default (ap not d) e
    go true k true r false p _ d e = told Presence (ap not p) e
    go true k false r _ p _ d e = told Cardinality (ap (λ b. not (beq (is_singular f.form) (is_singular g.form) && b)) r ∙ both_fail (beq (is_singular f.form) (is_singular g.form))) e
    go false k _ r _ p _ d e = told (kinds_fault s.kind t.kind) (of (both_enums s.kind t.kind) refl k) e

fields_differ : (f g : Field) (fault : ReductionFaultKind) → fields_fault f g ≡ Some fault → differs_in fault f g ≡ true
fields_differ f g fault h = go (beq f.is_extension g.is_extension) refl (forms_alike f.form g.form) refl (beq (is_singular f.form) (is_singular g.form)) refl h
  where
    told : (found : ReductionFaultKind) → differs_in found f g ≡ true → Some found ≡ Some fault → differs_in fault f g ≡ true
    told found d e = subst (λ x. differs_in x f g ≡ true) (same_Some found fault e) d

    go : (a : Bool) → beq f.is_extension g.is_extension ≡ a → (b : Bool) → forms_alike f.form g.form ≡ b → (c : Bool) → beq (is_singular f.form) (is_singular g.form) ≡ c →
        cond a (cond b (values_fault f.value_type g.value_type) (Some (cond c Map Cardinality))) (Some Extension) ≡ Some fault → differs_in fault f g ≡ true
    go true x true n _ c e = values_differ f g fault e
    go true x false n true c e = told Map (and_from _ _ c (ap not n)) e
    go true x false n false c e = told Cardinality (ap (λ b. not (b && beq f.value_type.required g.value_type.required)) c) e
    go false x _ n _ c e = told Extension (ap not x) e

-- WHERE THERE IS NO FAULT

over : (f g : Field) → nat_eq f.number g.number ≡ false → nat_lt f.number g.number ≡ false → g.number < f.number
over f g e d =
    ⊎_elim
    (λ (l : g.number < f.number). l)
    (λ back. ⊎_elim (λ (l : f.number < g.number). absurd (true≢false (sym (lt-ltb f.number g.number l) ∙ d))) (λ m. absurd (eqb-false f.number g.number e (omega (arith, back, m)))) (cases_lt f.number g.number))
    (cases_lt g.number f.number)

none_first : (fault : Option ReductionFaultKind) (n : ℕ) (rest : Option FieldFault) → is_none (first_fault fault n rest) ≡ (is_none fault && is_none rest)
none_first None n rest = refl
none_first (Some fault) n rest = refl

none_fellow : (n : ℕ) → is_none (fellow_fault n) ≡ nat_eq n 0
none_fellow n = go (nat_eq n 0)
  where
    go : (b : Bool) → is_none (cond b None (Some Oneof)) ≡ b
    go true = refl
    go false = refl

none_pair : (m n : ℕ) (f g : Field) → is_none (pair_fault m n f g) ≡ (nat_eq m n && fields_alike f g)
none_pair m n f g = go (nat_eq m n)
  where
    go : (b : Bool) → is_none (cond b (fields_fault f g) (Some Oneof)) ≡ (b && fields_alike f g)
    go true = none_fields f g
    go false = refl

-- a number that the newer type lacks is not passed
never_passed : (f : Field) (older newer : List Field) → rising f.number newer ≡ true → merged (f ∷ older) newer ≡ false
unfolding merged
never_passed f older [] h = refl
never_passed f older (g ∷ newer) h =
    let up = rise f.number g newer h in
    let further : rising f.number newer ≡ true = under f.number g.number newer up (onward f.number g newer h) in
    ap (λ b. cond b (nat_eq (first_member older f.oneof) (first_member newer g.oneof) && fields_alike f g && merged older newer) (nat_eq (first_member newer g.oneof) 0 && merged (f ∷ older) newer)) (ne_eqb f.number g.number (λ s. absurd (omega (arith, up, s)))) ∙
    (ap (λ b. nat_eq (first_member newer g.oneof) 0 && b) (never_passed f older newer further) ∙ and_false (nat_eq (first_member newer g.oneof) 0))
  where
    and_false : (b : Bool) → (b && false) ≡ false
    and_false true = refl
    and_false false = refl

    under : (low high : ℕ) (fields : List Field) → low < high → rising high fields ≡ true → rising low fields ≡ true
    under low high [] l h = refl
    under low high (x ∷ fields) l h = let u = rise high x fields h in and_from _ _ (lt-ltb low x.number (omega (arith, l, u))) (onward high x fields h)

pub none_merged : (low : ℕ) (older newer : List Field) → rising low older ≡ true → rising low newer ≡ true → is_none (merge_fault older newer) ≡ merged older newer
unfolding merge_fault merged
none_merged low [] [] h h' = refl
none_merged low (f ∷ older) [] h h' = refl
none_merged low [] (g ∷ newer) h h' =
    none_first (fellow_fault (first_member newer g.oneof)) g.number (merge_fault [] newer) ∙ ap₂ (λ a b. a && b) (none_fellow (first_member newer g.oneof)) (none_merged g.number [] newer refl (onward low g newer h'))
none_merged low (f ∷ older) (g ∷ newer) h h' = go (nat_eq f.number g.number) refl (nat_lt f.number g.number) refl (λ e. none_merged f.number older newer (onward low f older h) (ap (λ n. rising n newer) e ∙ onward low g newer h')) (λ up. none_merged g.number (f ∷ older) newer up (onward low g newer h'))
  where
    go : (b : Bool) → nat_eq f.number g.number ≡ b → (c : Bool) → nat_lt f.number g.number ≡ c → (f.number ≡ g.number → is_none (merge_fault older newer) ≡ merged older newer) →
        (rising g.number (f ∷ older) ≡ true → is_none (merge_fault (f ∷ older) newer) ≡ merged (f ∷ older) newer) →
        is_none (cond b (first_fault (pair_fault (first_member older f.oneof) (first_member newer g.oneof) f g) f.number (merge_fault older newer)) (cond c (Some (at_number f.number Number)) (first_fault (fellow_fault (first_member newer g.oneof)) g.number (merge_fault (f ∷ older) newer)))) ≡
        cond b (nat_eq (first_member older f.oneof) (first_member newer g.oneof) && fields_alike f g && merged older newer) (nat_eq (first_member newer g.oneof) 0 && merged (f ∷ older) newer)
    go true e _ d both one =
        none_first (pair_fault (first_member older f.oneof) (first_member newer g.oneof) f g) f.number (merge_fault older newer) ∙
        ap₂ (λ a b. a && b) (none_pair (first_member older f.oneof) (first_member newer g.oneof) f g) (both (eqb-true f.number g.number e))
    go false e true d both one =
        let less = ltb-true f.number g.number d in
        let up : rising f.number (g ∷ newer) ≡ true = and_from _ _ (lt-ltb f.number g.number less) (onward low g newer h') in
        let never : merged (f ∷ older) (g ∷ newer) ≡ false = never_passed f older (g ∷ newer) up in
        sym (sym (ap (λ b. cond b (nat_eq (first_member older f.oneof) (first_member newer g.oneof) && fields_alike f g && merged older newer) (nat_eq (first_member newer g.oneof) 0 && merged (f ∷ older) newer)) e) ∙ never)
    go false e false d both one =
        none_first (fellow_fault (first_member newer g.oneof)) g.number (merge_fault (f ∷ older) newer) ∙
        ap₂ (λ a b. a && b) (none_fellow (first_member newer g.oneof)) (one (and_from _ _ (lt-ltb g.number f.number (over f g e d)) (onward low f older h)))

-- WHAT IS FOUND

-- What differs between the fields of a number, if there are any, behind which these members of their oneofs follow.
abbrev Differs : ReductionFaultKind → Option Field → Option Field → ℕ → ℕ → Type 0
Differs Number o p a b = (passes o (λ f. true) && not (passes p (λ f. true))) ≡ true
Differs Oneof o p a b = a ≢ b
Differs fault o p a b = passes o (λ f. passes p (differs_in fault f)) ≡ true

record Found (low : ℕ) (older newer : List Field) (fault : FieldFault) : Type 0 where
  above : low < fault.number
  differs : Differs fault.kind (field_of older fault.number) (field_of newer fault.number) (next_in older fault.number) (next_in newer fault.number)

both_fields : (fault : ReductionFaultKind) (f g : Field) (a b : ℕ) → differs_in fault f g ≡ true → Differs fault (Some f) (Some g) a b
both_fields MapEntry f g a b h = absurd (true≢false (sym h))
both_fields Number f g a b h = absurd (true≢false (sym h))
both_fields Oneof f g a b h = absurd (true≢false (sym h))
both_fields Extension f g a b h = h
both_fields Cardinality f g a b h = h
both_fields Map f g a b h = h
both_fields KindDiffers f g a b h = h
both_fields EnumDiffers f g a b h = h
both_fields Presence f g a b h = h
both_fields Default f g a b h = h

-- the same options and numbers
moved : (fault : ReductionFaultKind) (o o' p p' : Option Field) (a a' b b' : ℕ) → o' ≡ o → p' ≡ p → a' ≡ a → b' ≡ b → Differs fault o p a b → Differs fault o' p' a' b'
moved fault o o' p p' a a' b b' oe pe ae be h =
    subst (λ o. Differs fault o p' a' b') (sym oe) (subst (λ p. Differs fault o p a' b') (sym pe) (subst (λ a. Differs fault o p a b') (sym ae) (subst (λ b. Differs fault o p a b) (sym be) h)))

field_behind : (f : Field) (fields : List Field) (n : ℕ) → f.number < n → field_of (f ∷ fields) n ≡ field_of fields n
field_behind f fields n l = ap (λ b. cond b (Some f) (field_of fields n)) (ne_eqb f.number n (λ s. absurd (omega (arith, l, s))))

next_behind : (f : Field) (fields : List Field) (n : ℕ) → f.number < n → next_in (f ∷ fields) n ≡ next_in fields n
next_behind f fields n l = ap (λ b. cond b (first_member fields f.oneof) (next_in fields n)) (ne_eqb f.number n (λ s. absurd (omega (arith, l, s))))

field_here : (f : Field) (fields : List Field) → field_of (f ∷ fields) f.number ≡ Some f
field_here f fields = ap (λ b. cond b (Some f) (field_of fields f.number)) (eq-eqb f.number f.number refl)

next_here : (f : Field) (fields : List Field) → next_in (f ∷ fields) f.number ≡ first_member fields f.oneof
next_here f fields = ap (λ b. cond b (first_member fields f.oneof) (next_in fields f.number)) (eq-eqb f.number f.number refl)

-- the fault is that of a step, or stands behind it
at_step : (o : Option ReductionFaultKind) (n : ℕ) (rest : Option FieldFault) (fault : FieldFault) (R : FieldFault → Type 0) → ((kind : ReductionFaultKind) → o ≡ Some kind → R (at_number n kind)) → (rest ≡ Some fault → R fault) → first_fault o n rest ≡ Some fault → R fault
at_step None n rest fault R here behind e = behind e
at_step (Some kind) n rest fault R here behind e = subst R (same_Some (at_number n kind) fault e) (here kind refl)

fellow_found : (n : ℕ) (kind : ReductionFaultKind) → fellow_fault n ≡ Some kind → (kind ≡ Oneof) × (n ≢ 0)
fellow_found n kind e = go (nat_eq n 0) refl e
  where
    go : (b : Bool) → nat_eq n 0 ≡ b → cond b None (Some Oneof) ≡ Some kind → (kind ≡ Oneof) × (n ≢ 0)
    go true d e = absurd (none-some kind e)
    go false d e = (sym (same_Some Oneof kind e), eqb-false n 0 d)

pair_found : (m n : ℕ) (f g : Field) (kind : ReductionFaultKind) (a b : ℕ) → m ≡ a → n ≡ b → pair_fault m n f g ≡ Some kind → Differs kind (Some f) (Some g) a b
pair_found m n f g kind a b x y e = go (nat_eq m n) refl e
  where
    go : (c : Bool) → nat_eq m n ≡ c → cond c (fields_fault f g) (Some Oneof) ≡ Some kind → Differs kind (Some f) (Some g) a b
    go true d e = both_fields kind f g a b (fields_differ f g kind e)
    go false d e = subst (λ k. Differs k (Some f) (Some g) a b) (same_Some Oneof kind e) (λ s. eqb-false m n d (x ∙ (s ∙ sym y)))

fellow_differs : (older : List Field) (g : Field) (newer : List Field) (low : ℕ) (kind : ReductionFaultKind) → low < g.number → rising g.number older ≡ true → fellow_fault (first_member newer g.oneof) ≡ Some kind → Found low older (g ∷ newer) (at_number g.number kind)
fellow_differs older g newer low kind l up e =
    let (is, more) = fellow_found (first_member newer g.oneof) kind e in
    record { above = l; differs = subst (λ k. Differs k (field_of older g.number) (field_of (g ∷ newer) g.number) (next_in older g.number) (next_in (g ∷ newer) g.number)) (sym is) (λ s. more (sym (next_here g newer) ∙ (sym s ∙ below_next g.number g.number older up (omega arith)))) }

found : (low : ℕ) (older newer : List Field) (fault : FieldFault) → rising low older ≡ true → rising low newer ≡ true → merge_fault older newer ≡ Some fault → Found low older newer fault
unfolding merge_fault
found low [] [] fault h h' e = absurd (none-some fault e)
found low (f ∷ older) [] fault h h' e = subst (Found low (f ∷ older) []) (same_Some (at_number f.number Number) fault e)
    (record { above = rise low f older h; differs = ap (λ o. passes o (λ f. true) && true) (field_here f older) })
found low [] (g ∷ newer) fault h h' e = at_step (fellow_fault (first_member newer g.oneof)) g.number (merge_fault [] newer) fault (Found low [] (g ∷ newer))
    (λ kind is. fellow_differs [] g newer low kind (rise low g newer h') refl is)
    (λ more. later (found g.number [] newer fault refl (onward low g newer h') more)) e
  where
    later : Found g.number [] newer fault → Found low [] (g ∷ newer) fault
    later w = let up = rise low g newer h' in record {
      above = omega (arith, up, w.above);
      differs = moved fault.kind None None (field_of newer fault.number) (field_of (g ∷ newer) fault.number) 0 0 (next_in newer fault.number) (next_in (g ∷ newer) fault.number) refl (field_behind g newer fault.number w.above) refl (next_behind g newer fault.number w.above) w.differs;
    }
found low (f ∷ older) (g ∷ newer) fault h h' e = go (nat_eq f.number g.number) refl (nat_lt f.number g.number) refl (λ is. found f.number older newer fault (onward low f older h) (ap (λ n. rising n newer) is ∙ onward low g newer h')) (λ up. found g.number (f ∷ older) newer fault up (onward low g newer h')) e
  where
    rises : low < f.number
    rises = rise low f older h

    rises' : low < g.number
    rises' = rise low g newer h'

    here : f.number ≡ g.number → (kind : ReductionFaultKind) → pair_fault (first_member older f.oneof) (first_member newer g.oneof) f g ≡ Some kind → Found low (f ∷ older) (g ∷ newer) (at_number f.number kind)
    here is kind e = record {
      above = rises;
      differs = moved kind (Some f) (field_of (f ∷ older) f.number) (Some g) (field_of (g ∷ newer) f.number) (first_member older f.oneof) (next_in (f ∷ older) f.number) (first_member newer g.oneof) (next_in (g ∷ newer) f.number)
          (field_here f older) (ap (field_of (g ∷ newer)) is ∙ field_here g newer) (next_here f older) (ap (next_in (g ∷ newer)) is ∙ next_here g newer)
          (pair_found (first_member older f.oneof) (first_member newer g.oneof) f g kind (first_member older f.oneof) (first_member newer g.oneof) refl refl e);
    }

    both_later : f.number ≡ g.number → Found f.number older newer fault → Found low (f ∷ older) (g ∷ newer) fault
    both_later is w = record {
      above = omega (arith, rises, w.above);
      differs = moved fault.kind (field_of older fault.number) (field_of (f ∷ older) fault.number) (field_of newer fault.number) (field_of (g ∷ newer) fault.number) (next_in older fault.number) (next_in (f ∷ older) fault.number) (next_in newer fault.number) (next_in (g ∷ newer) fault.number)
          (field_behind f older fault.number w.above) (field_behind g newer fault.number (omega (arith, is, w.above))) (next_behind f older fault.number w.above) (next_behind g newer fault.number (omega (arith, is, w.above))) w.differs;
    }

    one_later : Found g.number (f ∷ older) newer fault → Found low (f ∷ older) (g ∷ newer) fault
    one_later w = record {
      above = omega (arith, rises', w.above);
      differs = moved fault.kind (field_of (f ∷ older) fault.number) (field_of (f ∷ older) fault.number) (field_of newer fault.number) (field_of (g ∷ newer) fault.number) (next_in (f ∷ older) fault.number) (next_in (f ∷ older) fault.number) (next_in newer fault.number) (next_in (g ∷ newer) fault.number)
          refl (field_behind g newer fault.number w.above) refl (next_behind g newer fault.number w.above) w.differs;
    }

    go : (b : Bool) → nat_eq f.number g.number ≡ b → (c : Bool) → nat_lt f.number g.number ≡ c → (f.number ≡ g.number → merge_fault older newer ≡ Some fault → Found f.number older newer fault) →
        (rising g.number (f ∷ older) ≡ true → merge_fault (f ∷ older) newer ≡ Some fault → Found g.number (f ∷ older) newer fault) →
        cond b (first_fault (pair_fault (first_member older f.oneof) (first_member newer g.oneof) f g) f.number (merge_fault older newer)) (cond c (Some (at_number f.number Number)) (first_fault (fellow_fault (first_member newer g.oneof)) g.number (merge_fault (f ∷ older) newer))) ≡ Some fault →
        Found low (f ∷ older) (g ∷ newer) fault
    go true d _ c both one e = let is = eqb-true f.number g.number d in
        at_step (pair_fault (first_member older f.oneof) (first_member newer g.oneof) f g) f.number (merge_fault older newer) fault (Found low (f ∷ older) (g ∷ newer)) (here is) (λ more. both_later is (both is more)) e
    go false d true c both one e =
        let less = ltb-true f.number g.number c in
        let up : rising f.number (g ∷ newer) ≡ true = and_from _ _ (lt-ltb f.number g.number less) (onward low g newer h') in
        subst (Found low (f ∷ older) (g ∷ newer)) (same_Some (at_number f.number Number) fault e)
        (record { above = rises; differs = ap₂ (λ o p. passes o (λ f. true) && not (passes p (λ f. true))) (field_here f older) (below_none f.number f.number (g ∷ newer) up (omega arith)) })
    go false d false c both one e =
        let up : rising g.number (f ∷ older) ≡ true = and_from _ _ (lt-ltb g.number f.number (over f g d c)) (onward low f older h) in
        at_step (fellow_fault (first_member newer g.oneof)) g.number (merge_fault (f ∷ older) newer) fault (Found low (f ∷ older) (g ∷ newer))
        (λ kind is. fellow_differs (f ∷ older) g newer low kind rises' up is)
        (λ more. one_later (one up more)) e

-- MEMBERS OF ONEOFS

share_is : (fields : List Field) (n m : ℕ) → rising 0 fields ≡ true → share_oneof fields n m ≡ (not (nat_eq m n) && same fields n m)
share_is fields n m up = go (field_of fields n) refl
  where
    and_false : (b : Bool) → false ≡ (b && false)
    and_false true = refl
    and_false false = refl

    go : (o : Option Field) → field_of fields n ≡ o → passes o (λ f. is_sibling fields f m) ≡ (not (nat_eq m n) && same fields n m)
    go None e = and_false (not (nat_eq m n)) ∙ ap (λ b. not (nat_eq m n) && b) (sym (ap (λ o. same_oneof o (oneof_at fields m)) (oneof_of fields n ∙ ap oneof_or e)))
    go (Some f) e = sibling_is 0 fields f n m up e

-- the next member is one in the first list alone
next_apart : (xs ys : List Field) (n : ℕ) → rising 0 xs ≡ true → rising 0 ys ≡ true → next_in xs n ≢ 0 → (next_in ys n ≡ 0) ⊎ (next_in xs n < next_in ys n) → (share_oneof xs n (next_in xs n) ≡ true) × (share_oneof ys n (next_in xs n) ≡ false)
next_apart xs ys n up up' k beyond = (share_is xs n m up ∙ ap₂ (λ b c. not b && c) off found.1, share_is ys n m up' ∙ (ap (λ b. not b && same ys n m) off ∙ go (same ys n m) refl))
  where
    m : ℕ
    m = next_in xs n

    found : (n < m) × (same xs n m ≡ true)
    found = next_found 0 xs n up k

    off : nat_eq m n ≡ false
    off = ne_eqb m n (λ s. absurd (omega (arith, s, found.0)))

    go : (b : Bool) → same ys n m ≡ b → same ys n m ≡ false
    go true s =
        let (further, most) = next_reached 0 ys n m up' found.0 s in
        ⊎_elim (λ (z : next_in ys n ≡ 0). absurd (omega (arith, z, further))) (λ l. absurd (omega (arith, l, most))) beyond
    go false s = s

oneof_differs : (xs ys : List Field) (n : ℕ) → rising 0 xs ≡ true → rising 0 ys ≡ true → next_in xs n ≢ next_in ys n → OneofDiffers xs ys n
oneof_differs xs ys n up up' differ = go (nat_eq a 0) refl (nat_eq b 0) refl
  where
    a : ℕ
    a = next_in xs n

    b : ℕ
    b = next_in ys n

    here : a ≢ 0 → (b ≡ 0) ⊎ (a < b) → OneofDiffers xs ys n
    here k beyond = let (one, none) = next_apart xs ys n up up' k beyond in record { member = a; differ = λ s. true≢false (sym one ∙ (s ∙ none)) }

    there : b ≢ 0 → (a ≡ 0) ⊎ (b < a) → OneofDiffers xs ys n
    there k beyond = let (one, none) = next_apart ys xs n up' up k beyond in record { member = b; differ = λ s. true≢false (sym one ∙ (sym s ∙ none)) }

    go : (c : Bool) → nat_eq a 0 ≡ c → (d : Bool) → nat_eq b 0 ≡ d → OneofDiffers xs ys n
    go true e true d = absurd (differ (eqb-true a 0 e ∙ sym (eqb-true b 0 d)))
    go true e false d = there (eqb-false b 0 d) (inl (eqb-true a 0 e))
    go false e true d = here (eqb-false a 0 e) (inl (eqb-true b 0 d))
    go false e false d =
        ⊎_elim
        (λ (under : a < b). here (eqb-false a 0 e) (inr under))
        (λ over. there (eqb-false b 0 d) (inr (⊎_elim (λ (l : b < a). l) (λ back. absurd (differ (omega (arith, over, back)))) (cases_lt b a))))
        (cases_lt a b)

pub fault_differs : (older newer : List Field) → rising 0 older ≡ true → rising 0 newer ≡ true → (fault : FieldFault) → merge_fault older newer ≡ Some fault → NumberDiffers fault.kind older newer fault.number
fault_differs older newer up up' fault e = go fault.kind (found 0 older newer fault up up' e).differs
  where
    n : ℕ
    n = fault.number

    go : (kind : ReductionFaultKind) → Differs kind (field_of older n) (field_of newer n) (next_in older n) (next_in newer n) → NumberDiffers kind older newer n
    go MapEntry h = h
    go Number h = h
    go Oneof h = oneof_differs older newer n up up' h
    go Extension h = h
    go Cardinality h = h
    go Map h = h
    go KindDiffers h = h
    go EnumDiffers h = h
    go Presence h = h
    go Default h = h
