-- What is written of a map of scalars.
use Rattle.std.specs.Prelude.{◌≡◌, ◌&&◌, ◌∷◌, ◌++◌}
use Rattle.prost_reflect_dynamic.proofs.Common.{ℕ, true, false, cond, List, [], map, Some, refl, sym, ap, ap₂, ◌∙◌, subst, append_assoc, true≢false, IsSomeAnd, and_parts, Len, record_at, short_key, short_plain, spelled, Scalar, ScalarKind, kind_wire, scalar_valid, written, ScalarOf, ValueType, MapFrom, Field, field_of, ScalarValue, MessageValue, ListValue, MapValue, Pair, is_default_of, pair_payloads, kind_takes, element_valid, pairs_valid, value_valid, value_bytes, TableKind, FieldRow, EnumRow, schema_kind, own_type, MapKey, Value, pairs_shown, plain_kind, TakesScalar, scalar_record_bytes, kept_scalar_bytes, TakesPairs, entry_bytes, pairs_bytes, key_of, value_of}
use Rattle.prost_reflect_wire.specs.declared.key.WireType.TheVariants as wires
use Rattle.prost_reflect_wire.specs.Content as contents
use Rattle.prost_reflect_laws.proofs.MapWritten.{part_bytes, pair_written, map_written}
use Rattle.prost_reflect_rows.proofs.PlainKinds.{SamePayloads, plain_payloads}

-- the row of an entry's key or value, and its type
pub record PartRow (enums : List EnumRow) (row : FieldRow) (t : ValueType) (kind : ScalarKind) : Type 0 where
  pub plain : ScalarKind
  pub named : plain_kind row.kind ≡ Some plain
  pub shown : schema_kind enums row.kind false ≡ ScalarOf kind
  pub is : t.kind ≡ ScalarOf kind
  pub own : own_type enums row ≡ t

module _ (enums : List EnumRow) (row : FieldRow) (t : ValueType) (kind : ScalarKind) (part : PartRow enums row t kind) where
  part_alike : SamePayloads part.plain kind
  part_alike = plain_payloads enums row.kind part.plain kind part.named part.shown

  record_part : (n : ℕ) (s : Scalar) → scalar_record_bytes n (plain_kind row.kind) (ScalarValue s) ≡ short_key n (kind_wire kind) ++ short_plain (written kind s)
  record_part n s = ap (λ o. scalar_record_bytes n o (ScalarValue s)) part.named ∙ ap₂ (λ w p. short_key n w ++ short_plain p) part_alike.wire (part_alike.write s)

  pub part_written_as : (n : ℕ) (s : Scalar) → kept_scalar_bytes n enums row (ScalarValue s) ≡ part_bytes t n kind s
  part_written_as n s =
      ap (λ l. cond (is_default_of (own_type enums row) (ScalarValue s)) [] l) (record_part n s)
      ∙ ap (λ (t : ValueType). cond (is_default_of t (ScalarValue s)) [] (short_key n (kind_wire kind) ++ short_plain (written kind s))) part.own

  -- a value of the part's kind is one of the plain kind
  pub part_takes : (v : contents.Value) → element_valid (ScalarOf kind) v ≡ true → TakesScalar row.kind v
  part_takes v h = subst (λ o. IsSomeAnd o (λ k. element_valid (ScalarOf k) v ≡ true)) (sym part.named) (go v h)
    where
      go : (v : contents.Value) → element_valid (ScalarOf kind) v ≡ true → element_valid (ScalarOf part.plain) v ≡ true
      go (ScalarValue s) h = part_alike.takes s h
      go (MessageValue m) h = absurd (true≢false (sym h))
      go (ListValue vs) h = absurd (true≢false (sym h))
      go (MapValue ps) h = absurd (true≢false (sym h))

-- the row of a map's key, and its type
pub record KeyRow (enums : List EnumRow) (row : FieldRow) (t : ValueType) : Type 0 where
  pub kind : ScalarKind
  pub part : PartRow enums row t kind

-- what the writer of a map needs to know, and what it has to write
pub record MapWritten (fields : List Field) (n : ℕ) (enums : List EnumRow) (key value_row : FieldRow) (es : List (MapKey × Value)) : Type 0 where
  pub takes : TakesPairs key.kind value_row.kind es
  pub bytes : value_bytes fields n (MapValue (pairs_shown es)) ≡ pairs_bytes n enums key value_row es

module _ (n : ℕ) (enums : List EnumRow) (key value_row : FieldRow) (key_type value_type : ValueType) (key_kind kind : ScalarKind) (key_part_row : PartRow enums key key_type key_kind) (part_row : PartRow enums value_row value_type kind) where
  key_fits : (k : Scalar) → kind_takes key_type.kind k ≡ true → scalar_valid key_kind k ≡ true
  key_fits k h = ap (λ kind. kind_takes kind k) (sym key_part_row.is) ∙ h

  takes_pairs : (es : List (MapKey × Value)) → pairs_valid (MapFrom key_type) (ScalarOf kind) (pairs_shown es) ≡ true → TakesPairs key.kind value_row.kind es
  takes_pairs [] h = tt
  takes_pairs (e ∷ es) h =
      let (one, more) = and_parts (kind_takes key_type.kind (key_of e.0) && element_valid (ScalarOf kind) (value_of e.1)) (pairs_valid (MapFrom key_type) (ScalarOf kind) (pairs_shown es)) h in
      let (a, b) = and_parts (kind_takes key_type.kind (key_of e.0)) (element_valid (ScalarOf kind) (value_of e.1)) one in
      ((part_takes enums key key_type key_kind key_part_row (ScalarValue (key_of e.0)) (key_fits (key_of e.0) a), part_takes enums value_row value_type kind part_row (value_of e.1) b), takes_pairs es more)

  pairs_spelled : (es : List (MapKey × Value)) → pairs_valid (MapFrom key_type) (ScalarOf kind) (pairs_shown es) ≡ true → spelled (map (record_at n) (pair_payloads key_type value_type (pairs_shown es))) ≡ pairs_bytes n enums key value_row es
  pairs_spelled [] h = refl
  pairs_spelled (e ∷ es) h =
      let (one, more) = and_parts (kind_takes key_type.kind (key_of e.0) && element_valid (ScalarOf kind) (value_of e.1)) (pairs_valid (MapFrom key_type) (ScalarOf kind) (pairs_shown es)) h in
      let (a, b) = and_parts (kind_takes key_type.kind (key_of e.0)) (element_valid (ScalarOf kind) (value_of e.1)) one in
      go (value_of e.1) (key_fits (key_of e.0) a) b (pairs_spelled es more)
    where
      go : (c : contents.Value) → scalar_valid key_kind (key_of e.0) ≡ true → element_valid (ScalarOf kind) c ≡ true → spelled (map (record_at n) (pair_payloads key_type value_type (pairs_shown es))) ≡ pairs_bytes n enums key value_row es →
          spelled (map (record_at n) (pair_payloads key_type value_type (Pair (key_of e.0) c (pairs_shown es)))) ≡ entry_bytes n enums key value_row (key_of e.0) c ++ pairs_bytes n enums key value_row es
      go (ScalarValue s) a b more =
          pair_written n key_type value_type key_kind kind (key_of e.0) s (pairs_shown es) key_part_row.is part_row.is a b
          ∙ ap₂ (λ (body : List ℕ) (rest : List ℕ). (short_key n wires.LengthDelimited ++ short_plain (Len body)) ++ rest)
          (ap₂ ◌++◌ (sym (part_written_as enums key key_type key_kind key_part_row 1 (key_of e.0))) (sym (part_written_as enums value_row value_type kind part_row 2 s))) more
      go (MessageValue m) a b more = absurd (true≢false (sym b))
      go (ListValue vs) a b more = absurd (true≢false (sym b))
      go (MapValue ps) a b more = absurd (true≢false (sym b))

  pub map_of_kinds : (fields : List Field) (f : Field) (es : List (MapKey × Value)) → field_of fields n ≡ Some f → f.form ≡ MapFrom key_type → f.value_type ≡ value_type → value_valid f (MapValue (pairs_shown es)) ≡ true → MapWritten fields n enums key value_row es
  map_of_kinds fields f es found form type h =
      let valid : pairs_valid (MapFrom key_type) (ScalarOf kind) (pairs_shown es) ≡ true = ap₂ (λ form kind. pairs_valid form kind (pairs_shown es)) (sym form) (sym (ap (λ (t : ValueType). t.kind) type ∙ part_row.is)) ∙ h in
      record {
        takes = takes_pairs es valid;
        bytes = map_written fields n f key_type kind (pairs_shown es) found form valid ∙ ap (λ t. spelled (map (record_at n) (pair_payloads key_type t (pairs_shown es)))) type ∙ pairs_spelled es valid;
      }

-- ENTRIES FROM THE LAST ON

-- where the entries are cut
pub cut_pairs : {A : Type 0} (items left rest done : List A) (e : A) → items ≡ left ++ done → left ≡ rest ++ e ∷ [] → items ≡ rest ++ e ∷ done
cut_pairs items left rest done e all cut = all ∙ ap (λ l. l ++ done) cut ∙ append_assoc rest (e ∷ []) done

-- each entry is taken
pub takes_at : (key value_kind : TableKind) (left done : List (MapKey × Value)) (e : MapKey × Value) → TakesPairs key value_kind (left ++ e ∷ done) → TakesScalar key (ScalarValue (key_of e.0)) × TakesScalar value_kind (value_of e.1)
takes_at key value_kind [] done e h = h.0
takes_at key value_kind (x ∷ left) done e h = takes_at key value_kind left done e h.1
