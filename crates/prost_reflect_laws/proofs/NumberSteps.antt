-- A list of enum numbers whose record is read: the declared ones go behind the elements, the others behind the unknown records.
use Rattle.std.specs.Prelude.{◌≡◌, ◌∷◌, ◌++◌}
use Rattle.prost_reflect_laws.proofs.Common.{ℕ, ℤ, Bool, true, false, cond, not, List, [], map, filter, flat_map, nat_eq, Option, Some, None, refl, ap, sym, ◌∙◌, append_assoc, arith, list_all, is_some, and_parts, and_from, Var, Len, Payload, Flat, payload_valid, PlainFront, DelimitedFront, Scalar, ScalarKind, EnumNumbers, Enum, elem, is_undeclared, ScalarOf, Repeated, Field, Schema, known, field_of, numbers_differ, Content, ContentOf, Entries, Value, ScalarValue, ListValue, Values, Item, values_from, ◌and_then◌, Slot, entries_of, value_at, slot_at, changed, is_stray, element_payloads_in, or_none, scalar_values, values_in, kept_values, elements_valid, is_whole_stray, unknown_fits, WellStored, with_stored, with_unknown, joined_slot, Step, ElementsJoined, NumbersJoined, BodyJoined, declared_values, delimited_plain}
use Rattle.prost_reflect_wire.specs.declared.key.WireType.TheVariants as wires
use Rattle.prost_reflect_laws.proofs.Declared.{read_valid}
use Rattle.prost_reflect_laws.proofs.StoredSound.{unknown_sound}
use Rattle.prost_reflect_laws.proofs.Holding.{added_slots, added_ordered}
use Rattle.prost_reflect_laws.proofs.ListReads.{values_behind, joined_read}

-- WHAT WAS READ

abbrev declared_in : ScalarKind → List Payload → List Value
declared_in kind ps = flat_map (λ q. scalar_values (elem kind q)) (filter (λ q. not (is_undeclared kind q)) ps)

-- the values of payloads that are valid fit the list
declared_valid : (kind : ScalarKind) (ps : List Payload) → list_all payload_valid ps ≡ true → elements_valid (ScalarOf kind) (declared_values kind ps) ≡ true
declared_valid kind [] h = refl
declared_valid kind (p ∷ ps) h = let (valid, more) = and_parts (payload_valid p) (list_all payload_valid ps) h in taken (is_undeclared kind p) refl valid (declared_valid kind ps more)
  where
    read : (o : Option Scalar) → elem kind p ≡ o → is_undeclared kind p ≡ false → payload_valid p ≡ true → elements_valid (ScalarOf kind) (values_from (declared_in kind ps)) ≡ true → elements_valid (ScalarOf kind) (values_from (scalar_values o ++ declared_in kind ps)) ≡ true
    read None e declared valid h = h
    read (Some v) e declared valid h = and_from _ _ (read_valid kind p v valid declared e) h

    taken : (b : Bool) → is_undeclared kind p ≡ b → payload_valid p ≡ true → elements_valid (ScalarOf kind) (values_from (declared_in kind ps)) ≡ true →
        elements_valid (ScalarOf kind) (values_from (flat_map (λ q. scalar_values (elem kind q)) (cond (not b) (p ∷ filter (λ q. not (is_undeclared kind q)) ps) (filter (λ q. not (is_undeclared kind q)) ps)))) ≡ true
    taken true e valid h = h
    taken false e valid h = read (elem kind p) refl e valid h

-- values of scalars are kept as they are
scalars_kept : (kind : ScalarKind) (ps : List Payload) → kept_values (values_from (flat_map (λ q. scalar_values (elem kind q)) ps)) ≡ values_from (flat_map (λ q. scalar_values (elem kind q)) ps)
scalars_kept kind [] = refl
scalars_kept kind (p ∷ ps) = go (elem kind p) (scalars_kept kind ps)
  where
    go : (o : Option Scalar) → kept_values (values_from (flat_map (λ q. scalar_values (elem kind q)) ps)) ≡ values_from (flat_map (λ q. scalar_values (elem kind q)) ps) →
        kept_values (values_from (scalar_values o ++ flat_map (λ q. scalar_values (elem kind q)) ps)) ≡ values_from (scalar_values o ++ flat_map (λ q. scalar_values (elem kind q)) ps)
    go None h = h
    go (Some v) h = ap (Item (ScalarValue v)) h

-- ONE SLOT

stray_behind : (f : Field) (a : Values) (s : List Payload) (p : Payload) (m : ℕ) (slot : Slot) → with_unknown f.number p m (joined_slot f a s m slot) ≡ joined_slot f a (s ++ p ∷ []) m slot
stray_behind f a s p m slot = go (nat_eq m f.number)
  where
    go : (b : Bool) → cond b (record { value = (cond b (record { value = Some (ListValue (values_in slot.value and_then a)); unknowns = slot.unknowns ++ s }) slot).value; unknowns = (cond b (record { value = Some (ListValue (values_in slot.value and_then a)); unknowns = slot.unknowns ++ s }) slot).unknowns ++ (p ∷ []) })
        (cond b (record { value = Some (ListValue (values_in slot.value and_then a)); unknowns = slot.unknowns ++ s }) slot)
        ≡ cond b (record { value = Some (ListValue (values_in slot.value and_then a)); unknowns = slot.unknowns ++ (s ++ p ∷ []) }) slot
    go true = ap (λ ps. record { value = Some (ListValue (values_in slot.value and_then a)); unknowns = ps }) (append_assoc slot.unknowns s (p ∷ []))
    go false = refl

-- NUMBERS

module _ (schema : Schema) (T : ℕ) (es : Entries) (f : Field) (packed : Bool) (kind : ScalarKind) (differ : numbers_differ (known schema T) ≡ true) (found : field_of (known schema T) f.number ≡ Some f) (form : f.form ≡ Repeated packed) (is : f.value_type.kind ≡ ScalarOf kind) where
  -- the declared ones of some payloads put behind the elements of the list
  pub declared_joined : (ps : List Payload) → f.oneof ≡ None → list_all payload_valid ps ≡ true → WellStored (ContentOf schema T es) →
      ElementsJoined f (declared_values kind ps) [] (ContentOf schema T es) (ContentOf schema T (changed f.number (with_stored (known schema T) f (ListValue (values_in (value_at f.number es) and_then declared_values kind ps))) es))
  declared_joined ps alone valid sound = values_behind schema T es sound f packed kind (declared_values kind ps) differ found form is alone (declared_valid kind ps valid)

  -- one stray more
  pub stray_joined : (old : Content) (vs : Values) (strays : List Payload) (p : Payload) → ElementsJoined f vs strays old (ContentOf schema T es) → payload_valid p ≡ true → is_undeclared kind p ≡ true →
      ElementsJoined f vs (strays ++ p ∷ []) old (ContentOf schema T (changed f.number (with_unknown f.number p) es))
  stray_joined old vs strays p j valid stray = record {
    slots = λ m. added_slots es f.number p m ∙ ap (with_unknown f.number p m) (j.slots m) ∙ stray_behind f vs strays p m (slot_at (entries_of old) m);
    holds = record {
      schema = j.holds.schema;
      type = j.holds.type;
      sound = unknown_sound schema T es (changed f.number (with_unknown f.number p) es) f.number p differ
          (ap (λ o. unknown_fits o f.number p) found ∙ and_from _ _ valid (ap (λ form. is_whole_stray form f.value_type p) form ∙ ap (λ kind. is_stray kind p) is ∙ stray))
          (added_ordered es f.number p j.holds.sound.order) (added_slots es f.number p) j.holds.sound;
    };
  }

-- WHOLE RECORDS

module _ (schema : Schema) (T : ℕ) (es : Entries) (sound : WellStored (ContentOf schema T es)) (k : ℕ) (f : Field) (packed : Bool) (first : ℤ) (numbers : EnumNumbers) (differ : numbers_differ (known schema T) ≡ true) (found : field_of (known schema T) f.number ≡ Some f)
    (form : f.form ≡ Repeated packed) (is : f.value_type.kind ≡ ScalarOf (Enum first numbers)) (alone : f.oneof ≡ None) (new : Content) where
  pub packed_step : (body bytes rest : List ℕ) → BodyJoined f (Enum first numbers) (ContentOf schema T es) new body → DelimitedFront body bytes rest → Step k f.number wires.LengthDelimited (ContentOf schema T es) new bytes rest
  packed_step body bytes rest b front =
      let elements : element_payloads_in (ScalarOf (Enum first numbers)) (Flat (Len body)) ≡ map Flat b.plains = ap (λ o. map Flat (or_none o)) b.whole in
      joined_read schema T es sound k f packed (Enum first numbers) wires.LengthDelimited (Flat (Len body)) (declared_values (Enum first numbers) (map Flat b.plains)) (filter (is_undeclared (Enum first numbers)) (map Flat b.plains)) new bytes rest
      differ found form is alone b.joined (ap (filter (is_undeclared (Enum first numbers))) elements)
      (scalars_kept (Enum first numbers) (filter (λ q. not (is_undeclared (Enum first numbers) q)) (map Flat b.plains)) ∙ ap (declared_values (Enum first numbers)) (sym elements))
      (ap is_some b.whole) (record { wire = refl; front = delimited_plain body bytes rest front; within = omega arith })

  pub number_step : (value : ℕ) (bytes rest : List ℕ) → NumbersJoined f (Enum first numbers) (Flat (Var value) ∷ []) (ContentOf schema T es) new → PlainFront (Var value) bytes rest → Step k f.number wires.Varint (ContentOf schema T es) new bytes rest
  number_step value bytes rest j front =
      joined_read schema T es sound k f packed (Enum first numbers) wires.Varint (Flat (Var value)) (declared_values (Enum first numbers) (Flat (Var value) ∷ [])) (filter (is_undeclared (Enum first numbers)) (Flat (Var value) ∷ [])) new bytes rest
      differ found form is alone j refl (scalars_kept (Enum first numbers) (filter (λ q. not (is_undeclared (Enum first numbers) q)) (Flat (Var value) ∷ []))) refl (record { wire = refl; front = front; within = omega arith })
