-- The records of lists of scalars are read as them, packed or not.
use Rattle.std.specs.Prelude.{◌≡◌, ◌+◌, ◌^◌, ◌<◌, ◌∷◌, ◌++◌}
use Rattle.prost_reflect_laws.proofs.Common.{ℕ, zero, suc, true, cond, not, List, [], map, filter, flat_map, length, nat_eq, Option, Some, refl, ap, ap₂, sym, ◌∙◌, arith, true≢false, length-append, append-nil, ⊤, ltb-true, eqb-true, and_parts, are_bytes, short, ◌>>=◌, Plain, Var, Fix64, Len, Fix32, Payload, Flat, plain_wire, plain_at, SpellsPlain, short_plain, plain_valid, Scalar, F64, F32, I64, U64, I32, U32, Boolean, Text, Bytes, EnumNumber, ScalarKind, Double, Float, Int64, Uint64, Int32, Fixed64, Fixed32, BoolKind, StringKind, BytesKind, Uint32, Sfixed32, Sfixed64, Sint32, Sint64, Enum, kind_wire, written, scalar_valid, Kind, ScalarOf, Repeated, Field, field_of, is_packable, Value, ScalarValue, ListValue, Values, NoValues, Item, values_from, or_none, plains_within, unpacked, element_payloads_in, is_stray, value_records, value_payloads, stray_payloads, unknown_payloads, MeansInside, element, scalar_values, present_list, field_value, record_at, end_to_end, list_payloads, value_payload, element_payloads, element_valid, elements_valid, plain_read, varint_some, short_plain_ok, short_varint, WireType, block, ValueBack, ElementBack, ElementsBack}
use Rattle.prost_reflect_laws.proofs.Table.{read_back, written_declared}
use Rattle.prost_reflect_laws.proofs.Values.{value_records_known, unknown_known}
use Rattle.prost_reflect_laws.proofs.Lists.{all_elements}
use Rattle.prost_reflect_laws.proofs.Spelt.{written_valid}

-- ONE ELEMENT

written_alone : (kind : ScalarKind) (v : Scalar) → scalar_valid kind v ≡ true → element_payloads_in (ScalarOf kind) (Flat (written kind v)) ≡ Flat (written kind v) ∷ []
written_alone Double (F64 n) h = refl
written_alone Float (F32 n) h = refl
written_alone Int64 (I64 z) h = refl
written_alone Uint64 (U64 n) h = refl
written_alone Int32 (I32 z) h = refl
written_alone Fixed64 (U64 n) h = refl
written_alone Fixed32 (U32 n) h = refl
written_alone BoolKind (Boolean b) h = refl
written_alone StringKind (Text x) h = refl
written_alone BytesKind (Bytes x) h = refl
written_alone Uint32 (U32 n) h = refl
written_alone (Enum first numbers) (EnumNumber z) h = refl
written_alone Sfixed32 (I32 z) h = refl
written_alone Sfixed64 (I64 z) h = refl
written_alone Sint32 (I32 z) h = refl
written_alone Sint64 (I64 z) h = refl
written_alone _ v h = absurd (true≢false (sym h))

pub scalar_element : (inner : MeansInside) (kind : ScalarKind) (v : Scalar) → scalar_valid kind v ≡ true → ElementBack inner (ScalarOf kind) (ScalarValue v)
scalar_element inner kind v h = record { one = written_alone kind v h; fits = written_declared kind v h; value = ap scalar_values (read_back kind v h) }

pub scalars_back : (inner : MeansInside) (kind : ScalarKind) (vs : Values) → elements_valid (ScalarOf kind) vs ≡ true → ElementsBack inner (ScalarOf kind) vs
scalars_back inner kind NoValues h = tt
scalars_back inner kind (Item v vs) h =
    let (one, more) = and_parts (element_valid (ScalarOf kind) v) (elements_valid (ScalarOf kind) vs) h in
    (go v one, scalars_back inner kind vs more)
  where
    go : (v : Value) → element_valid (ScalarOf kind) v ≡ true → ElementBack inner (ScalarOf kind) v
    go (ScalarValue v) h = scalar_element inner kind v h
    go _ h = absurd (true≢false (sym h))

-- ELEMENTS END TO END

-- a payload of the wire type, with a spelling
record Packable (w : WireType) (p : Plain) : Type 0 where
  valid : plain_valid p ≡ true
  wire : plain_wire p ≡ w

packable : (kind : ScalarKind) (v : Scalar) → is_packable kind ≡ true → scalar_valid kind v ≡ true → Packable (kind_wire kind) (written kind v)
packable Double (F64 n) p h = record { valid = written_valid Double (F64 n) h tt; wire = refl }
packable Float (F32 n) p h = record { valid = written_valid Float (F32 n) h tt; wire = refl }
packable Int64 (I64 z) p h = record { valid = written_valid Int64 (I64 z) h tt; wire = refl }
packable Uint64 (U64 n) p h = record { valid = written_valid Uint64 (U64 n) h tt; wire = refl }
packable Int32 (I32 z) p h = record { valid = written_valid Int32 (I32 z) h tt; wire = refl }
packable Fixed64 (U64 n) p h = record { valid = written_valid Fixed64 (U64 n) h tt; wire = refl }
packable Fixed32 (U32 n) p h = record { valid = written_valid Fixed32 (U32 n) h tt; wire = refl }
packable BoolKind (Boolean b) p h = record { valid = written_valid BoolKind (Boolean b) h tt; wire = refl }
packable Uint32 (U32 n) p h = record { valid = written_valid Uint32 (U32 n) h tt; wire = refl }
packable (Enum first numbers) (EnumNumber z) p h = record { valid = written_valid (Enum first numbers) (EnumNumber z) h tt; wire = refl }
packable Sfixed32 (I32 z) p h = record { valid = written_valid Sfixed32 (I32 z) h tt; wire = refl }
packable Sfixed64 (I64 z) p h = record { valid = written_valid Sfixed64 (I64 z) h tt; wire = refl }
packable Sint32 (I32 z) p h = record { valid = written_valid Sint32 (I32 z) h tt; wire = refl }
packable Sint64 (I64 z) p h = record { valid = written_valid Sint64 (I64 z) h tt; wire = refl }
packable _ v p h = cc

AllPackable : WireType → List Plain → Type 0
AllPackable w [] = ⊤
AllPackable w (p ∷ ps) = Packable w p × AllPackable w ps

some_bytes : (p : Plain) → plain_valid p ≡ true → 0 < length (short_plain p)
some_bytes (Var v) h = varint_some v (short v) (short_varint v (ltb-true v (2 ^ 64) h))
some_bytes (Fix64 eight) h = let e : length eight ≡ 8 = eqb-true (length eight) 8 (and_parts (nat_eq (length eight) 8) (are_bytes eight) h).0 in omega arith
some_bytes (Len body) h =
    let l : length body < 2 ^ 64 = ltb-true (length body) (2 ^ 64) (and_parts _ (are_bytes body) h).0 in
    let s : 0 < length (short (length body)) = varint_some (length body) (short (length body)) (short_varint (length body) l) in
    omega (arith, s, length-append (short (length body)) body)
some_bytes (Fix32 four) h = let e : length four ≡ 4 = eqb-true (length four) 4 (and_parts (nat_eq (length four) 4) (are_bytes four) h).0 in omega arith

plains_read : (w : WireType) (ps : List Plain) (fuel : ℕ) → AllPackable w ps → length (end_to_end (map Flat ps)) < fuel → plains_within fuel w (end_to_end (map Flat ps)) ≡ Some ps
unfolding AllPackable
plains_read w ps zero h l = absurd (omega arith)
plains_read w [] (suc fuel) h l = refl
plains_read w (p ∷ ps) (suc fuel) (one, more) l = go (short_plain p) (short_plain_ok p one.valid) (some_bytes p one.valid) one.wire l (plains_read w ps fuel more)
  where
    tail : List ℕ
    tail = end_to_end (map Flat ps)

    go : (front : List ℕ) → SpellsPlain p front → 0 < length front → plain_wire p ≡ w → length (front ++ end_to_end (map Flat ps)) < suc fuel →
        (length (end_to_end (map Flat ps)) < fuel → plains_within fuel w (end_to_end (map Flat ps)) ≡ Some ps) → plains_within (suc fuel) w (front ++ end_to_end (map Flat ps)) ≡ Some (p ∷ ps)
    go [] s some e l rest = absurd (omega arith)
    go (b ∷ front) s some e l rest =
        let d : length (front ++ end_to_end (map Flat ps)) ≡ length front + length (end_to_end (map Flat ps)) = length-append front (end_to_end (map Flat ps)) in
        ap (λ (o : Option (Plain × List ℕ)). o >>= λ p. plains_within fuel w p.1 >>= λ rest. Some (p.0 ∷ rest)) (ap (λ w. plain_at w ((b ∷ front) ++ tail)) (sym e) ∙ plain_read p (b ∷ front) tail s)
        ∙ ap (λ (o : Option (List Plain)). o >>= λ rest. Some (p ∷ rest)) (rest (omega arith))

-- A LIST

unfoldable pub plains_of : ScalarKind → Values → List Plain
plains_of kind NoValues = []
plains_of kind (Item (ScalarValue v) vs) = written kind v ∷ plains_of kind vs
plains_of kind (Item _ vs) = plains_of kind vs

plains_same : (kind : ScalarKind) (vs : Values) → is_packable kind ≡ true → elements_valid (ScalarOf kind) vs ≡ true → (element_payloads (ScalarOf kind) vs ≡ map Flat (plains_of kind vs)) × AllPackable (kind_wire kind) (plains_of kind vs)
unfolding plains_of AllPackable
plains_same kind NoValues p h = (refl, tt)
plains_same kind (Item (ScalarValue v) vs) p h =
    let (one, more) = and_parts (scalar_valid kind v) (elements_valid (ScalarOf kind) vs) h in
    let (same, all) = plains_same kind vs p more in
    (ap (λ l. Flat (written kind v) ∷ l) same, (packable kind v p one, all))
plains_same kind _ p h = absurd (true≢false (sym h))

-- packed elements are read as they would be one by one
pub unpacked_back : (kind : ScalarKind) (vs : Values) → is_packable kind ≡ true → elements_valid (ScalarOf kind) vs ≡ true →
    (unpacked kind (end_to_end (element_payloads (ScalarOf kind) vs)) ≡ Some (plains_of kind vs)) × (map Flat (plains_of kind vs) ≡ element_payloads (ScalarOf kind) vs)
unfolding unpacked
unpacked_back kind vs p h =
    let (same, all) = plains_same kind vs p h in
    (ap (λ ps. plains_within (suc (length (end_to_end ps))) (kind_wire kind) (end_to_end ps)) same ∙ plains_read (kind_wire kind) (plains_of kind vs) (suc (length (end_to_end (map Flat (plains_of kind vs))))) all (omega arith), sym same)

elements_in_back : (kind : ScalarKind) (vs : Values) → is_packable kind ≡ true → elements_valid (ScalarOf kind) vs ≡ true →
    element_payloads_in (ScalarOf kind) (Flat (Len (end_to_end (element_payloads (ScalarOf kind) vs)))) ≡ element_payloads (ScalarOf kind) vs
elements_in_back kind vs p h =
    let (found, same) = unpacked_back kind vs p h in
    let bytes : List ℕ = end_to_end (element_payloads (ScalarOf kind) vs) in
    ap (λ b. cond b (map Flat (or_none (unpacked kind bytes))) (Flat (Len bytes) ∷ [])) p ∙ ap (λ o. map Flat (or_none o)) found ∙ same

kept_all : (inner : MeansInside) (kind : Kind) (vs : Values) → ElementsBack inner kind vs → filter (λ q. not (is_stray kind q)) (element_payloads kind vs) ≡ element_payloads kind vs
kept_all inner kind NoValues h = refl
kept_all inner kind (Item v vs) (one, more) =
    ap (λ b. cond (not b) (value_payload kind v ∷ filter (λ q. not (is_stray kind q)) (element_payloads kind vs)) (filter (λ q. not (is_stray kind q)) (element_payloads kind vs))) one.fits
    ∙ ap (λ l. value_payload kind v ∷ l) (kept_all inner kind vs more)

no_strays : (inner : MeansInside) (kind : Kind) (vs : Values) → ElementsBack inner kind vs → filter (is_stray kind) (element_payloads kind vs) ≡ []
no_strays inner kind NoValues h = refl
no_strays inner kind (Item v vs) (one, more) =
    ap (λ b. cond b (value_payload kind v ∷ filter (is_stray kind) (element_payloads kind vs)) (filter (is_stray kind) (element_payloads kind vs))) one.fits ∙ no_strays inner kind vs more

pub packed_back : (inner : MeansInside) (fields : List Field) (n : ℕ) (f : Field) (kind : ScalarKind) (v : Value) (vs : Values) → field_of fields n ≡ Some f → f.form ≡ Repeated true → f.value_type.kind ≡ ScalarOf kind →
    is_packable kind ≡ true → elements_valid (ScalarOf kind) (Item v vs) ≡ true → ValueBack inner fields n f (ListValue (Item v vs))
packed_back inner fields n f kind v vs found c k p h = record {
  sources = ps;
  read = ap (λ l. flat_map (value_records fields) (map (record_at n) l)) whole ∙ append-nil (value_records fields (record_at n body)) ∙ value_records_known fields n f body found
      ∙ ap (block n) (ap (λ c. value_payloads c f.value_type body) c ∙ ap (λ k. filter (λ q. not (is_stray k q)) (element_payloads_in k body)) k ∙ ap (filter (λ q. not (is_stray (ScalarOf kind) q))) (elements_in_back kind (Item v vs) p h) ∙ kept_all inner (ScalarOf kind) (Item v vs) back);
  strays = ap (λ l. flat_map (unknown_payloads fields) (map (record_at n) l)) whole ∙ append-nil (unknown_payloads fields (record_at n body)) ∙ unknown_known fields n f body found
      ∙ ap (λ c. stray_payloads c f.value_type body) c ∙ ap (λ k. filter (is_stray k) (element_payloads_in k body)) k ∙ ap (filter (is_stray (ScalarOf kind))) (elements_in_back kind (Item v vs) p h) ∙ no_strays inner (ScalarOf kind) (Item v vs) back;
  value = ap (λ c. field_value inner c f.value_type ps) c ∙ ap (λ k. present_list (values_from (flat_map (element inner k) ps))) k ∙ ap present_list (all_elements inner (ScalarOf kind) (Item v vs) back);
}
  where
    ps : List Payload
    ps = element_payloads (ScalarOf kind) (Item v vs)

    body : Payload
    body = Flat (Len (end_to_end (element_payloads (ScalarOf kind) (Item v vs))))

    back : ElementsBack inner (ScalarOf kind) (Item v vs)
    back = scalars_back inner kind (Item v vs) h

    whole : list_payloads f.form (element_payloads f.value_type.kind (Item v vs)) ≡ Flat (Len (end_to_end (element_payloads (ScalarOf kind) (Item v vs)))) ∷ []
    whole = ap₂ (λ c k. list_payloads c (element_payloads k (Item v vs))) c k
