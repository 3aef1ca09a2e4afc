-- The values of a descriptor record's fields, found one behind another.
use Rattle.std.specs.Prelude.{◌≡◌, ◌≢◌, ◌⊎◌, ◌∷◌, ◌++◌}
use Rattle.prost_reflect_proto.proofs.Common.{ℕ, false, Result, Ok, Err, IfErr, List, [], flat_map, Option, Some, None, refl, sym, ap, subst, ◌∙◌, append_assoc, append-nil, inl, inr, nat_le, arith, Fits, w32, cast_signed, cast_unsigned, is_utf8, le-leb, same_Some, none-some, DecodeError, RecordType, FieldKind, ◌>>=◌, guard, Plain, Var, Record, record_at, Flat, body_of, payload_levels, KeyFront, VarintFront, DelimitedFront, RecordFront, KeyFault, VarintFault, Int32, low_32, low_i32, Schema, Field, is_map, Place, OfType, Stands, Here, Comes, field_at, ElementFault, ElementEnds, ElementPasses, StandsInMessage, ValueFault, PackedNext, TextNext, takes, rows, type_place, form_of, value_type_of, field_of_row, record_schema, Found, FoundNumber, Fields, FieldRead, DelimitedFault, PackedRead, kind_at, found_in, found_in_record, found_in_records, number_in_plain, under, found_at, all_found, bind_ok, map_append}
use Rattle.std.proofs.lemmas.Int.{to_z-of_z}
use Rattle.std.proofs.Math.Facts.{sfits_to_z}
use Rattle.prost_reflect_wire.specs.declared.error.DecodeError.TheVariants as errors
use Rattle.prost_reflect_wire.specs.declared.key.WireType.{WireType}
use Rattle.prost_reflect_wire.specs.declared.key.WireType.TheVariants as wires
use Rattle.prost_reflect_types.specs.declared.table.FieldKind.TheVariants as kinds
use Rattle.prost_reflect_proto.specs.declared.fields.RawField.{RawField}
use Rattle.prost_reflect_wire.specs.Unknown.{SkipsValue}
use Rattle.prost_reflect_wire.specs.Decoding.{FieldFault}
use Rattle.prost_reflect_laws.proofs.KindsAllowed.{element_name}
use Rattle.prost_reflect_wire.proofs.PlainFronts.{varint_plain}
use Rattle.prost_reflect_wire.proofs.RecordFronts.{record_front, last_front, none_front}
use Rattle.prost_reflect_wire.proofs.PlaceFaults.{key_stands, value_stands, stands_behind}
use Rattle.prost_reflect_proto.proofs.DescriptorRows.{known_field, unknown_field}
use Rattle.prost_reflect_laws.proofs.PackedNumbers.{PlainsFront, plains_more, fault_behind, plains_unpacked}

-- a field put behind others
pub found_pushed : (old new : List RawField) (field : RawField) → new ≡ old ++ field ∷ [] → all_found new ≡ all_found old ++ found_at field ∷ []
found_pushed old new field e = ap all_found e ∙ map_append found_at old (field ∷ [])

-- low bits as an i32 are 32 bits
pub low_kept : (v : ℕ) → cast_signed w32 (cast_unsigned w32 (low_i32 v)) ≡ low_i32 v
low_kept v = let fits : Fits w32 (low_32 v) = record { fits = omega arith } in to_z-of_z w32 (low_i32 v) (sfits_to_z fits)

-- PACKED NUMBERS

pub record PackedSoFar (n : ℕ) (old new : List (ℕ × Found)) (body rest : List ℕ) : Type 0 where
  pub plains : List Plain
  pub front : PlainsFront wires.Varint plains body rest
  pub added : new ≡ old ++ under n (flat_map number_in_plain plains)

numbers_append : (ps : List Plain) (v : ℕ) → flat_map number_in_plain (ps ++ Var v ∷ []) ≡ flat_map number_in_plain ps ++ FoundNumber (low_i32 v) ∷ []
numbers_append [] v = refl
numbers_append (p ∷ ps) v = ap (λ l. number_in_plain p ++ l) (numbers_append ps v) ∙ sym (append_assoc (number_in_plain p) (flat_map number_in_plain ps) (FoundNumber (low_i32 v) ∷ []))

pub packed_more : (n v : ℕ) (old new newer : List (ℕ × Found)) (body mid rest : List ℕ) → PackedSoFar n old new body mid → VarintFront v mid rest →
    newer ≡ new ++ (n, FoundNumber (low_i32 v)) ∷ [] → PackedSoFar n old newer body rest
packed_more n v old new newer body mid rest s f e = record {
  plains = s.plains ++ Var v ∷ [];
  front = plains_more wires.Varint s.plains (Var v) body mid rest s.front (varint_plain v mid rest f) refl;
  added = e ∙ ap (λ l. l ++ (n, FoundNumber (low_i32 v)) ∷ []) s.added
      ∙ append_assoc old (under n (flat_map number_in_plain s.plains)) ((n, FoundNumber (low_i32 v)) ∷ [])
      ∙ ap (λ l. old ++ l) (sym (map_append (λ x. (n, x)) (flat_map number_in_plain s.plains) (FoundNumber (low_i32 v) ∷ [])) ∙ ap (under n) (sym (numbers_append s.plains v)));
}

pub packed_done : (n : ℕ) (old new : List (ℕ × Found)) (body rest : List ℕ) → PackedSoFar n old new body rest → rest ≡ [] → PackedRead n old new body
packed_done n old new body rest s e = record {
  plains = s.plains;
  unpacked = plains_unpacked Int32 s.plains body (subst (PlainsFront wires.Varint s.plains body) e s.front);
  added = s.added;
}

element_fault : (e : DecodeError) (rest : List ℕ) → rest ≢ [] → VarintFault e rest → ElementFault wires.Varint e rest
element_fault errors.Truncated [] some f = absurd (some refl)
element_fault errors.Truncated (b ∷ rest) some f = ElementEnds f
element_fault errors.Varint rest some f = ElementPasses f
element_fault e rest some f = absurd f

pub packed_fault : (n : ℕ) (old new : List (ℕ × Found)) (e : DecodeError) (body rest : List ℕ) → PackedSoFar n old new body rest → rest ≢ [] → VarintFault e rest → ElementFault wires.Varint e body
packed_fault n old new e body rest s some f = fault_behind wires.Varint e s.plains body rest s.front (element_fault e rest some f)

-- WHAT KEEPS A FIELD FROM BEING READ

field_comes : (schema : Schema) (e : DecodeError) (place : Place) (n : ℕ) (w : WireType) (rest : List ℕ) (f : Field) → KeyFront n w place.bytes rest → field_at schema place.inside n ≡ Some f →
    (w ≡ wires.EndGroup → place.open_group ≢ Some n) → FieldFault e f w rest → Comes schema e place
field_comes schema errors.Truncated place n w rest f key found closes (inl fault) = inr (inr (inl (record { number = n; wire = w; rest = rest; key = key; behind = fault })))
field_comes schema errors.Truncated place n w rest f key found closes (inr fault) = inr (inr (inr (record { number = n; wire = w; field = f; rest = rest; key = key; found = found; behind = fault })))
field_comes schema errors.Varint place n w rest f key found closes (inl fault) = inr (inl (record { number = n; wire = w; rest = rest; key = key; behind = fault }))
field_comes schema errors.Varint place n w rest f key found closes (inr fault) = inr (inr (record { number = n; wire = w; field = f; rest = rest; key = key; found = found; behind = fault }))
field_comes schema errors.WireType place n w rest f key found closes fault = record { number = n; wire = w; field = f; rest = rest; key = key; found = found; behind = fault }
field_comes schema errors.EndGroup place n w rest f key found closes fault = record { number = n; wire = w; rest = rest; key = key; behind = (fault, closes fault) }
field_comes schema errors.Utf8 place n w rest f key found closes fault = record { number = n; wire = w; field = f; rest = rest; key = key; found = found; behind = fault }
field_comes schema e place n w rest f key found closes fault = absurd fault

-- behind the key of a known field
pub field_stands : (schema : Schema) (e : DecodeError) (place : Place) (n : ℕ) (w : WireType) (rest : List ℕ) (f : Field) → KeyFront n w place.bytes rest → field_at schema place.inside n ≡ Some f →
    (w ≡ wires.EndGroup → place.open_group ≢ Some n) → FieldFault e f w rest → Stands schema e place
field_stands schema e place n w rest f key found closes fault = Here (field_comes schema e place n w rest f key found closes fault)

-- refused numbers of a packed record are refused delimited bytes,
pub packed_refused : (kind : FieldKind) (r : Result (Unit {0}) DecodeError) (body : List ℕ) → kind ≡ kinds.Numbers → IfErr r (λ e. e ≢ errors.OutOfMemory → ElementFault wires.Varint e body) →
    IfErr r (λ e. e ≢ errors.OutOfMemory → DelimitedFault e kind body)
packed_refused kind (Ok x) body is f = tt
packed_refused kind (Err e) body is f = λ memory. go e (f memory) (element_name wires.Varint (f memory))
  where
    go : (e : DecodeError) → ElementFault wires.Varint e body → (e ≡ errors.Truncated) ⊎ (e ≡ errors.Varint) → DelimitedFault e kind body
    go e f (inl name) = subst (λ e. DelimitedFault e kind body) (sym name) (is, subst (λ e. ElementFault wires.Varint e body) name f)
    go e f (inr name) = subst (λ e. DelimitedFault e kind body) (sym name) (is, subst (λ e. ElementFault wires.Varint e body) name f)

packed_next : (e : DecodeError) (n : ℕ) (kind : FieldKind) (w : WireType) (body bytes rest : List ℕ) → w ≡ wires.LengthDelimited → DelimitedFront body bytes rest → kind ≡ kinds.Numbers → ElementFault wires.Varint e body →
    PackedNext e (field_of_row (n, kind)) w bytes
packed_next e n kind w body bytes rest wire front is fault =
    (wire, (false, ap form_of is), (Int32, ap (λ k. (value_type_of k).kind) is, refl, (body, rest, front, fault)))

text_next : (n : ℕ) (kind : FieldKind) (w : WireType) (body bytes rest : List ℕ) → w ≡ wires.LengthDelimited → DelimitedFront body bytes rest → (kind ≡ kinds.Text) ⊎ (kind ≡ kinds.Texts) → is_utf8 body ≡ false →
    TextNext (field_of_row (n, kind)) w bytes
text_next n kind w body bytes rest wire front (inl is) bad = (wire, ap (λ k. is_map (form_of k)) is, ap (λ k. (value_type_of k).kind) is, (body, rest, front, bad))
text_next n kind w body bytes rest wire front (inr is) bad = (wire, ap (λ k. is_map (form_of k)) is, ap (λ k. (value_type_of k).kind) is, (body, rest, front, bad))

-- and these are a refused field
pub delimited_refused : (e : DecodeError) (n : ℕ) (kind : FieldKind) (w : WireType) (body bytes rest : List ℕ) → w ≡ wires.LengthDelimited → DelimitedFront body bytes rest → DelimitedFault e kind body →
    FieldFault e (field_of_row (n, kind)) w bytes
delimited_refused errors.Truncated n kind w body bytes rest wire front (is, fault) = inr (packed_next errors.Truncated n kind w body bytes rest wire front is fault)
delimited_refused errors.Varint n kind w body bytes rest wire front (is, fault) = inr (packed_next errors.Varint n kind w body bytes rest wire front is fault)
delimited_refused errors.WireType n kind w body bytes rest wire front fault =
    ((λ end. not_end (sym wire ∙ end)), ap (takes (form_of kind) (value_type_of kind).kind) wire ∙ fault)
  where
    not_end : wires.LengthDelimited ≡ wires.EndGroup → ⊥
    not_end e = cc
delimited_refused errors.Utf8 n kind w body bytes rest wire front (is, bad) = text_next n kind w body bytes rest wire front is bad
delimited_refused e n kind w body bytes rest wire front fault = absurd fault

-- FIELDS

pub fields_none : (levels : ℕ) (t : RecordType) (body : List ℕ) → Fields levels t [] body body
fields_none levels t body = record { records = []; front = none_front body; found = refl }

found_append : (levels : ℕ) (rs : List (ℕ × FieldKind)) (records : List Record) (r : Record) (fields : List (ℕ × Found)) (own : List Found) →
    found_in_records levels rs records ≡ Some fields → found_in_record levels rs r ≡ Some own → found_in_records levels rs (records ++ r ∷ []) ≡ Some (fields ++ under r.number own)
found_append levels rs [] r fields own h g =
    ap (λ (o : Option (List Found)). o >>= λ own. Some (under r.number own ++ [])) g
    ∙ ap Some (append-nil (under r.number own) ∙ ap (λ l. l ++ under r.number own) (same_Some _ _ h))
found_append levels rs (q ∷ records) r fields own h g =
    let (first, f, rest) = bind_ok (λ own. found_in_records levels rs records >>= λ others. Some (under q.number own ++ others)) (found_in_record levels rs q) fields h in
    let (others, o, whole) = bind_ok (λ others. Some (under q.number first ++ others)) (found_in_records levels rs records) fields rest in
    ap (λ (o : Option (List Found)). o >>= λ own. found_in_records levels rs (records ++ r ∷ []) >>= λ others. Some (under q.number own ++ others)) f
    ∙ ap (λ (o : Option (List (ℕ × Found))). o >>= λ others. Some (under q.number first ++ others)) (found_append levels rs records r others own o g)
    ∙ ap Some (sym (append_assoc (under q.number first) others (under r.number own)) ∙ ap (λ l. l ++ under r.number own) (same_Some _ _ whole))

module _ (levels : ℕ) (t : RecordType) (fields : List (ℕ × Found)) (body mid : List ℕ) (done : Fields levels t fields body mid) where
  one_more : (r : Record) (rest : List ℕ) (own : List Found) → RecordFront r mid rest → found_in_record levels (rows t) r ≡ Some own → Fields levels t (fields ++ under r.number own) body rest
  one_more r rest own front found = record {
    records = done.records ++ r ∷ [];
    front = last_front done.records r body mid rest done.front front;
    found = found_append levels (rows t) done.records r fields own done.found found;
  }

  -- a field of a known number is read,
  pub known_read : (n : ℕ) (w : WireType) (after rest : List ℕ) (kind : FieldKind) (newer : List (ℕ × Found)) → KeyFront n w mid after → Some kind ≡ kind_at (rows t) n →
      FieldRead kind n w fields newer after rest → Fields levels t newer body rest
  known_read n w after rest kind newer key known f =
      subst (λ l. Fields levels t l body rest) (sym f.added)
      (one_more (record_at n (Flat f.plain)) rest f.own (record_front n (Flat f.plain) mid after rest (subst (λ v. KeyFront n v mid after) (sym f.wire) key) f.front)
      (ap (λ (o : Option FieldKind). elim o [ None ↦ guard (nat_le 0 levels) [] | Some kind ↦ found_in kind (Flat f.plain) ]) (sym known) ∙ f.found))

  -- or one of an unknown number passed over
  pub unknown_read : (n : ℕ) (w : WireType) (after rest : List ℕ) → KeyFront n w mid after → None ≡ kind_at (rows t) n → SkipsValue n w levels after rest → Fields levels t fields body rest
  unknown_read n w after rest key unknown (p, f) =
      subst (λ l. Fields levels t l body rest) (append-nil fields)
      (one_more (record_at n p) rest [] (record_front n p mid after rest (subst (λ v. KeyFront n v mid after) (sym f.wire) key) f.front)
      (ap (λ (o : Option FieldKind). elim o [ None ↦ guard (nat_le (payload_levels p) levels) [] | Some kind ↦ found_in kind p ]) (sym unknown)
      ∙ ap (λ b. guard b []) (le-leb (payload_levels p) levels f.within)))

  abbrev Here_at : Place
  Here_at = record { bytes = body; inside = OfType (type_place t); levels = levels; open_group = None }

  -- WHAT IS REFUSED

  behind : (e : DecodeError) → Stands record_schema e (record Here_at { bytes = mid }) → StandsInMessage record_schema (type_place t) levels e body
  behind e s = stands_behind record_schema e Here_at (body_of done.records) mid done.front s

  pub no_key : (e : DecodeError) → mid ≢ [] → KeyFault e mid → StandsInMessage record_schema (type_place t) levels e body
  no_key e some f = behind e (key_stands record_schema (record Here_at { bytes = mid }) e f (λ none. absurd (some none)))

  pub no_unknown : (e : DecodeError) (n : ℕ) (w : WireType) (after : List ℕ) → KeyFront n w mid after → None ≡ kind_at (rows t) n → ValueFault e n w levels after → StandsInMessage record_schema (type_place t) levels e body
  no_unknown e n w after key unknown f = behind e (value_stands record_schema (record Here_at { bytes = mid }) e n w after (unknown_field t n (sym unknown)) key (λ _ same. none-some _ same) f)

  pub no_known : (e : DecodeError) (n : ℕ) (w : WireType) (after : List ℕ) (kind : FieldKind) → KeyFront n w mid after → Some kind ≡ kind_at (rows t) n → FieldFault e (field_of_row (n, kind)) w after → StandsInMessage record_schema (type_place t) levels e body
  no_known e n w after kind key known f = behind e (field_stands record_schema e (record Here_at { bytes = mid }) n w after (field_of_row (n, kind)) key (known_field t n kind (sym known)) (λ _. none-some _) f)
