-- Records read into a message.
use Rattle.std.specs.Prelude.{◌≡◌, ◌≢◌, ◌≤◌, ◌<◌, ◌^◌}
use Rattle.prost_reflect_dynamic.proofs.Common.{inl, inr, arith, ℕ, List, Option, Some, None, sym, ap, ◌∙◌, subst, true, false, and_from, lt-ltb, WireType, DecodeError, AreBytes, Payload, Flat, record_at, payload_levels, ValueFront, Scalar, ScalarKind, is_undeclared, ScalarOf, Singular, Field, known, field_of, numbers_differ, schema_valid, Content, ContentOf, ScalarValue, schema_of, type_of, is_whole_stray, unknown_fits, WellStored, with_field_value, is_stray, stray_levels, OfType, ValueFault, same_wire, Step, ScalarRead, ScalarFault, StandsBehindKey, value_once, TableKind, PooledType, DynamicMessage, Value, pool_rows, known_of, keeps_unknown, value_of, content_of, message_type_of, PlainField, ReadsScalar, RefusesScalar, ReadsStray, StaysUnknown, is_stray_number, value_set, unknown_added}
use Rattle.prost_reflect_wire.specs.declared.error.DecodeError.TheVariants as errors
use Rattle.prost_reflect_wire.specs.Content as contents
use Rattle.prost_reflect_laws.proofs.Holding.{scalar_holds, unknown_holds, stray_holds, payload_front_valid}
use Rattle.prost_reflect_laws.proofs.ScalarFaults.{scalar_stands}
use Rattle.prost_reflect_wire.proofs.PlaceFaults.{value_stands}
use Rattle.prost_reflect_rows.proofs.Described.{schema_at_valid}
use Rattle.prost_reflect_dynamic.proofs.Views.{content_of_message}
use Rattle.prost_reflect_rows.proofs.PlainKinds.{SamePayloads, plain_payloads, stray_payload}
use Rattle.prost_reflect_fields.proofs.Siblings.{known_differ}

-- a scalar's value was set
pub set_step : (levels n : ℕ) (w : WireType) (c d : Content) (f : Field) (kind : ScalarKind) (v : contents.Value) (s : Scalar) (bytes rest : List ℕ) → WellStored c → numbers_differ (known (schema_of c) (type_of c)) ≡ true →
    field_of (known (schema_of c) (type_of c)) n ≡ Some f → f.form ≡ Singular → f.value_type.kind ≡ ScalarOf kind → (read : ScalarRead kind w s bytes rest) → is_undeclared kind (Flat read.plain) ≡ false → AreBytes bytes →
    v ≡ ScalarValue s → d ≡ value_set n v c → Step levels n w c d bytes rest
set_step levels n w (ContentOf schema T es) d f kind v s bytes rest sound differ found form is read declared small value new =
    subst (λ d. Step levels n w (ContentOf schema T es) d bytes rest)
    (sym (new ∙ ap (λ v. value_set n v (ContentOf schema T es)) value ∙ ap (λ (o : Option Field). ContentOf schema T (elim o [ None ↦ es | Some f ↦ with_field_value (known schema T) f (Some (ScalarValue s)) es ])) found))
    (scalar_holds schema T es differ sound levels n f kind w s bytes rest found form is read declared small)

-- an unknown field was added
pub added_step : (levels n : ℕ) (w : WireType) (c d : Content) (p : Payload) (bytes rest : List ℕ) → WellStored c → numbers_differ (known (schema_of c) (type_of c)) ≡ true →
    field_of (known (schema_of c) (type_of c)) n ≡ None → 1 ≤ n → n < 2 ^ 29 → AreBytes bytes → ValueFront n w levels p bytes rest → d ≡ unknown_added (record_at n p) c → Step levels n w c d bytes rest
added_step levels n w (ContentOf schema T es) d p bytes rest sound differ absent some below small front new =
    subst (λ d. Step levels n w (ContentOf schema T es) d bytes rest) (sym new) (unknown_holds schema T es differ sound levels n w p bytes rest absent some below small front)

-- a stray was added
pub stray_step : (levels n : ℕ) (w : WireType) (c d : Content) (f : Field) (p : Payload) (bytes rest : List ℕ) → schema_valid (schema_of c) ≡ true → WellStored c → numbers_differ (known (schema_of c) (type_of c)) ≡ true →
    field_of (known (schema_of c) (type_of c)) n ≡ Some f → is_whole_stray f.form f.value_type p ≡ true → stray_levels f.form p ≤ levels → AreBytes bytes → ValueFront n w levels p bytes rest → d ≡ unknown_added (record_at n p) c → Step levels n w c d bytes rest
stray_step levels n w (ContentOf schema T es) d f p bytes rest valid sound differ found whole within small front new =
    subst (λ d. Step levels n w (ContentOf schema T es) d bytes rest) (sym new) (stray_holds schema T es differ sound levels n f w p bytes rest valid found whole within small front)

-- MESSAGES

-- the definitions know of a message's content what its descriptor knows
pub known_in : (m : DynamicMessage) → known (schema_of (content_of m)) (type_of (content_of m)) ≡ known_of (message_type_of m)
known_in m = ap (λ c. known (schema_of c) (type_of c)) (content_of_message m)

pub differ_in : (m : DynamicMessage) → numbers_differ (known (schema_of (content_of m)) (type_of (content_of m))) ≡ true
differ_in m = ap numbers_differ (known_in m) ∙ known_differ (message_type_of m)

-- the schema of a message is checked
pub valid_in : (m : DynamicMessage) → schema_valid (schema_of (content_of m)) ≡ true
valid_in m = ap (λ c. schema_valid (schema_of c)) (content_of_message m) ∙ schema_at_valid (message_type_of m)

-- what is read by the plain kind is read by the own
pub read_own : (plain own : ScalarKind) (w : WireType) (s : Scalar) (bytes rest : List ℕ) → SamePayloads plain own → ScalarRead plain w s bytes rest → ScalarRead own w s bytes rest
read_own plain own w s bytes rest same r = record { plain = r.plain; wire = r.wire; front = r.front; value = sym (same.read (Flat r.plain)) ∙ r.value }

own_read : (d : PooledType) (n : ℕ) (kind : TableKind) (w : WireType) (v : Value) (bytes rest : List ℕ) → (field : PlainField d n kind) → (read : ReadsScalar kind w v bytes rest) → ScalarRead field.scalar_kind w read.scalar bytes rest
own_read d n kind w v bytes rest field read =
    read_own read.scalar_kind field.scalar_kind w read.scalar bytes rest (plain_payloads (pool_rows d.pool).enums kind read.scalar_kind field.scalar_kind read.plain field.named) read.read

pub scalar_set : (m new : DynamicMessage) (levels n : ℕ) (w : WireType) (kind : TableKind) (v : Value) (bytes rest : List ℕ) → WellStored (content_of m) → PlainField (message_type_of m) n kind → AreBytes bytes → ReadsScalar kind w v bytes rest →
    is_stray_number (pool_rows (message_type_of m).pool).enums kind (value_of v) ≡ false → content_of new ≡ value_set n (value_of v) (content_of m) → Step levels n w (content_of m) (content_of new) bytes rest
scalar_set m new levels n w kind v bytes rest sound field small read declared content =
    let own : ScalarRead field.scalar_kind w read.scalar bytes rest = own_read (message_type_of m) n kind w v bytes rest field read in
    set_step levels n w (content_of m) (content_of new) field.field field.scalar_kind (value_of v) read.scalar bytes rest sound (differ_in m) (ap (λ fields. field_of fields n) (known_in m) ∙ field.found)
    field.form field.kind_is own (stray_payload (pool_rows (message_type_of m).pool).enums kind field.scalar_kind own.plain read.scalar field.named own.value ∙ ap (is_stray_number (pool_rows (message_type_of m).pool).enums kind) (sym read.value) ∙ declared)
    small read.value content

-- a number that its closed enum does not declare stays unknown
pub scalar_stray : (m : DynamicMessage) (levels n : ℕ) (w : WireType) (kind : TableKind) (v : Value) (bytes rest : List ℕ) → PlainField (message_type_of m) n kind → ReadsScalar kind w v bytes rest →
    is_stray_number (pool_rows (message_type_of m).pool).enums kind (value_of v) ≡ true → ReadsStray (known_of (message_type_of m)) levels n w bytes
scalar_stray m levels n w kind v bytes rest field read stray =
    let own : ScalarRead field.scalar_kind w read.scalar bytes rest = own_read (message_type_of m) n kind w v bytes rest field read in
    let level : payload_levels (Flat own.plain) ≤ levels = omega arith in
    record {
      field = field.field;
      payload = Flat own.plain;
      rest = rest;
      found = field.found;
      whole = ap (λ form. is_whole_stray form field.field.value_type (Flat own.plain)) field.form ∙ ap (λ k. is_stray k (Flat own.plain)) field.kind_is
          ∙ stray_payload (pool_rows (message_type_of m).pool).enums kind field.scalar_kind own.plain read.scalar field.named own.value ∙ ap (is_stray_number (pool_rows (message_type_of m).pool).enums kind) (sym read.value) ∙ stray;
      within = subst (λ form. stray_levels form (Flat own.plain) ≤ levels) (sym field.form) level;
      front = record { wire = own.wire; front = own.front; within = level };
    }

pub unknown_set : (m new : DynamicMessage) (levels n : ℕ) (w : WireType) (p : Payload) (bytes rest : List ℕ) → WellStored (content_of m) → StaysUnknown (known_of (message_type_of m)) levels n w bytes → 1 ≤ n → n < 2 ^ 29 → AreBytes bytes →
    ValueFront n w levels p bytes rest → content_of new ≡ unknown_added (record_at n p) (content_of m) → Step levels n w (content_of m) (content_of new) bytes rest
unknown_set m new levels n w p bytes rest sound (inl absent) some below small front content =
    added_step levels n w (content_of m) (content_of new) p bytes rest sound (differ_in m) (ap (λ fields. field_of fields n) (known_in m) ∙ absent) some below small front content
unknown_set m new levels n w p bytes rest sound (inr s) some below small front content =
    let (same, more) = value_once n w levels s.payload p bytes s.rest rest s.front front in
    stray_step levels n w (content_of m) (content_of new) s.field p bytes rest (valid_in m) sound (differ_in m) (ap (λ fields. field_of fields n) (known_in m) ∙ s.found)
    (ap (is_whole_stray s.field.form s.field.value_type) (sym same) ∙ s.whole) (subst (λ q. stray_levels s.field.form q ≤ levels) same s.within) small front content

-- so it may stand at its number
pub unknown_stands : (d : PooledType) (levels n : ℕ) (w : WireType) (p : Payload) (bytes rest : List ℕ) → StaysUnknown (known_of d) levels n w bytes → 1 ≤ n → n < 2 ^ 29 → AreBytes bytes → ValueFront n w levels p bytes rest → keeps_unknown (known_of d) n p ≡ true
unknown_stands d levels n w p bytes rest (inl absent) some below small front =
    ap (λ o. unknown_fits o n p) absent ∙ and_from _ _ (and_from _ _ (lt-ltb 0 n some) (lt-ltb n (2 ^ 29) below)) (payload_front_valid n p bytes rest small front.front)
unknown_stands d levels n w p bytes rest (inr s) some below small front =
    let (same, more) = value_once n w levels s.payload p bytes s.rest rest s.front front in
    ap (λ o. unknown_fits o n p) s.found ∙ and_from _ _ (payload_front_valid n p bytes rest small front.front) (ap (is_whole_stray s.field.form s.field.value_type) (sym same) ∙ s.whole)

-- REFUSALS

pub scalar_refused : (c : Content) (levels n : ℕ) (w : WireType) (e : DecodeError) (rest : List ℕ) (f : Field) (kind : ScalarKind) → field_of (known (schema_of c) (type_of c)) n ≡ Some f → f.form ≡ Singular → f.value_type.kind ≡ ScalarOf kind →
    ScalarFault kind w e rest → StandsBehindKey c levels n w e rest
scalar_refused c levels n w e rest f kind found form is fault = λ bytes opened key closes.
    scalar_stands (schema_of c) e (record { bytes = bytes; inside = OfType (type_of c); levels = levels; open_group = opened }) n w rest f kind key found form is closes fault

pub unknown_refused : (c : Content) (levels n : ℕ) (w : WireType) (e : DecodeError) (rest : List ℕ) → field_of (known (schema_of c) (type_of c)) n ≡ None → ValueFault e n w levels rest → StandsBehindKey c levels n w e rest
unknown_refused c levels n w e rest absent fault = λ bytes opened key closes.
    value_stands (schema_of c) (record { bytes = bytes; inside = OfType (type_of c); levels = levels; open_group = opened }) e n w rest absent key closes fault

-- a fault of the plain kind is one of the field's own
pub own_fault : (plain own : ScalarKind) (w : WireType) (e : DecodeError) (bytes : List ℕ) → SamePayloads plain own → ScalarFault plain w e bytes → ScalarFault own w e bytes
own_fault plain own w errors.Truncated bytes same fault = fault
own_fault plain own w errors.Varint bytes same fault = fault
own_fault plain own w errors.WireType bytes same (unended, other) = (unended, ap (same_wire w) (sym same.wire) ∙ other)
own_fault plain own w errors.EndGroup bytes same fault = fault
own_fault plain own w errors.Utf8 bytes same (delimited, text, body) = (delimited, same.text text, body)
own_fault plain own w _ bytes same fault = absurd fault

pub scalar_fault : (m : DynamicMessage) (levels n : ℕ) (w : WireType) (kind : TableKind) (e : DecodeError) (rest : List ℕ) → PlainField (message_type_of m) n kind → RefusesScalar kind w e rest → StandsBehindKey (content_of m) levels n w e rest
scalar_fault m levels n w kind e rest field refused =
    scalar_refused (content_of m) levels n w e rest field.field field.scalar_kind (ap (λ fields. field_of fields n) (known_in m) ∙ field.found) field.form field.kind_is
    (own_fault refused.scalar_kind field.scalar_kind w e rest (plain_payloads (pool_rows (message_type_of m).pool).enums kind refused.scalar_kind field.scalar_kind refused.plain field.named) refused.fault)

-- only being out of memory keeps a stray from being read
pub unknown_fault : (m : DynamicMessage) (levels n : ℕ) (w : WireType) (e : DecodeError) (rest : List ℕ) → StaysUnknown (known_of (message_type_of m)) levels n w rest → ValueFault e n w levels rest →
    ((p : Payload) (after : List ℕ) → ValueFront n w levels p rest after → e ≡ errors.OutOfMemory) → e ≢ errors.OutOfMemory → StandsBehindKey (content_of m) levels n w e rest
unknown_fault m levels n w e rest (inl absent) fault only not_memory = unknown_refused (content_of m) levels n w e rest (ap (λ fields. field_of fields n) (known_in m) ∙ absent) fault
unknown_fault m levels n w e rest (inr s) fault only not_memory = absurd (not_memory (only s.payload s.rest s.front))

-- two names of one kind
pub same_kind : {k l : ScalarKind} {o : Option ScalarKind} → o ≡ Some k → o ≡ Some l → k ≡ l
same_kind e f = cc
