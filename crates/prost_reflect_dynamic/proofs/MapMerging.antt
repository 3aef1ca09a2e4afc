-- An entry read into a message: its step, and what it is refused for.
use Rattle.std.specs.Prelude.{◌≡◌}
use Rattle.prost_reflect_dynamic.proofs.Common.{ℕ, true, false, List, [], Option, Some, None, refl, sym, ap, ◌∙◌, subst, true≢false, arith, IsSome, WireType, DecodeError, AreBytes, Len, Flat, DelimitedFront, Scalar, ScalarKind, Float, Double, BytesKind, Enum, scalar_valid, ScalarOf, ValueType, MapFrom, Field, known, field_of, is_key_kind, numbers_differ, schema_valid, Content, ContentOf, ScalarValue, MapValue, value_at, schema_of, type_of, entries_of, has_level, put, pairs_in, WellStored, with_field_value, Step, StandsBehindKey, IsMapped, ScalarEntryTo, BodyFault, field_checked, map_keyed, key_read_valid, StaysWhole, scalar_entry_stays, scalar_entry_holds, TableKind, EnumRow, DynamicMessage, MapKey, Value, pool_rows, known_of, ReadsStray, is_stray_number, value_set, key_among, key_in, ScalarMap, ReadsEntry, RefusesEntry, key_of, value_of, content_of, message_type_of}
use Rattle.prost_reflect_wire.specs.declared.key.WireType.TheVariants as wires
use Rattle.prost_reflect_wire.specs.Scalar as scalars
use Rattle.prost_reflect_laws.proofs.EntryDefaults.{is_undeclared_value}
use Rattle.prost_reflect_laws.proofs.MapSteps.{FoundMap, mapped_at, body_refused, entry_stands}
use Rattle.prost_reflect_laws.proofs.BodyFronts.{delimited_bytes}
use Rattle.prost_reflect_rows.proofs.PlainKinds.{stray_value}
use Rattle.prost_reflect_dynamic.proofs.Merging.{known_in, differ_in, valid_in, same_kind}

-- KEYS

-- a scalar of a key's kind is a key
pub found_key : (kind : ScalarKind) (s : Scalar) → is_key_kind (ScalarOf kind) ≡ true → scalar_valid kind s ≡ true → IsSome (key_among s)
found_key kind (scalars.Boolean b) h v = refl
found_key kind (scalars.I32 z) h v = refl
found_key kind (scalars.I64 z) h v = refl
found_key kind (scalars.U32 n) h v = refl
found_key kind (scalars.U64 n) h v = refl
found_key kind (scalars.Text x) h v = refl
found_key Float (scalars.F32 n) h v = absurd (true≢false (sym h))
found_key _ (scalars.F32 n) h v = absurd (true≢false (sym v))
found_key Double (scalars.F64 n) h v = absurd (true≢false (sym h))
found_key _ (scalars.F64 n) h v = absurd (true≢false (sym v))
found_key BytesKind (scalars.Bytes x) h v = absurd (true≢false (sym h))
found_key _ (scalars.Bytes x) h v = absurd (true≢false (sym v))
found_key (Enum first numbers) (scalars.EnumNumber z) h v = absurd (true≢false (sym h))
found_key _ (scalars.EnumNumber z) h v = absurd (true≢false (sym v))

pub key_itself : (s t : Scalar) → key_among s ≡ Some t → t ≡ s
key_itself (scalars.Boolean b) t h = cc
key_itself (scalars.I32 z) t h = cc
key_itself (scalars.I64 z) t h = cc
key_itself (scalars.U32 n) t h = cc
key_itself (scalars.U64 n) t h = cc
key_itself (scalars.Text x) t h = cc
key_itself (scalars.F32 n) t h = cc
key_itself (scalars.F64 n) t h = cc
key_itself (scalars.Bytes x) t h = cc
key_itself (scalars.EnumNumber z) t h = cc

-- AN ENTRY WAS PUT IN

set_entry : (levels n : ℕ) (c d : Content) (f : Field) (key_type : ValueType) (key value_kind : ScalarKind) (x s : Scalar) (body bytes rest : List ℕ) → schema_valid (schema_of c) ≡ true → WellStored c → numbers_differ (known (schema_of c) (type_of c)) ≡ true →
    field_of (known (schema_of c) (type_of c)) n ≡ Some f → f.form ≡ MapFrom key_type → key_type.kind ≡ ScalarOf key → f.value_type.kind ≡ ScalarOf value_kind → is_undeclared_value value_kind s ≡ false → AreBytes bytes →
    ScalarEntryTo levels key value_kind x s body [] → DelimitedFront body bytes rest → d ≡ value_set n (MapValue (put x (ScalarValue s) (pairs_in (value_at n (entries_of c))))) c → Step levels n wires.LengthDelimited c d bytes rest
set_entry levels n (ContentOf schema T es) d f key_type key value_kind x s body bytes rest valid sound differ found form key_is value_is declared small done front new =
    subst (λ d. Step levels n wires.LengthDelimited (ContentOf schema T es) d bytes rest)
    (sym (new ∙ ap (λ (o : Option Field). ContentOf schema T (elim o [ None ↦ es | Some f ↦ with_field_value (known schema T) f (Some (MapValue (put x (ScalarValue s) (pairs_in (value_at n es))))) es ])) found))
    (scalar_entry_holds schema f (field_checked schema T n f valid found) key_type form key value_kind key_is value_is T es sound differ levels n x s body bytes rest found small done declared front)

-- MESSAGES

module _ (m : DynamicMessage) (n : ℕ) (key value_kind : TableKind) (map : ScalarMap (message_type_of m) n key value_kind) where
  abbrev enums : List EnumRow
  enums = (pool_rows (message_type_of m).pool).enums

  found_in : field_of (known (schema_of (content_of m)) (type_of (content_of m))) n ≡ Some map.field
  found_in = ap (λ fields. field_of fields n) (known_in m) ∙ map.found

  abbrev at_map : FoundMap (schema_of (content_of m)) (type_of (content_of m)) n map.key_type
  at_map = record { field = map.field; found = found_in; form = map.form }

  -- there is a map, or nothing yet
  pub mapped_in : WellStored (content_of m) → IsMapped (value_at n (entries_of (content_of m)))
  mapped_in sound = mapped_at (content_of m) n map.key_type at_map sound

  -- the key that was read is a key
  pub key_found : (levels : ℕ) (k v : Value) (body bytes rest : List ℕ) → ReadsEntry (pool_rows (message_type_of m).pool).enums levels key value_kind k v body [] → AreBytes bytes → DelimitedFront body bytes rest → IsSome (key_in (value_of k))
  key_found levels k v body bytes rest read small front =
      subst (λ w. IsSome (key_in w)) (sym read.key_is)
      (found_key read.key_scalar read.key_read keyed (key_read_valid levels read.key_scalar read.value_scalar read.key_read read.value_read body read.read (delimited_bytes body bytes rest small front) keyed))
    where
      keyed : is_key_kind (ScalarOf read.key_scalar) ≡ true
      keyed =
          ap (λ kind. is_key_kind (ScalarOf kind)) (same_kind read.key_plain map.key_plain) ∙ ap is_key_kind (sym map.key_is)
          ∙ map_keyed (schema_of (content_of m)) map.field map.key_type (field_checked (schema_of (content_of m)) (type_of (content_of m)) n map.field (valid_in m) found_in) map.form

  module _ (levels : ℕ) (w : WireType) (k v : Value) (body bytes rest : List ℕ) (small : AreBytes bytes) (read : ReadsEntry (pool_rows (message_type_of m).pool).enums levels key value_kind k v body []) (delimited : w ≡ wires.LengthDelimited) (front : DelimitedFront body bytes rest) where
    key_typed : map.key_type.kind ≡ ScalarOf read.key_scalar
    key_typed = map.key_is ∙ ap ScalarOf (same_kind map.key_plain read.key_plain)

    value_typed : map.field.value_type.kind ≡ ScalarOf read.value_scalar
    value_typed = map.value_is ∙ sym map.value_named ∙ read.value_named

    value_stray : is_undeclared_value read.value_scalar read.value_read ≡ is_stray_number (pool_rows (message_type_of m).pool).enums value_kind (value_of v)
    value_stray = stray_value enums value_kind read.value_scalar read.value_read read.value_named ∙ ap (is_stray_number enums value_kind) (sym read.value_is)

    pub entry_set : (new : DynamicMessage) (x : MapKey) → WellStored (content_of m) → is_stray_number (pool_rows (message_type_of m).pool).enums value_kind (value_of v) ≡ false → key_in (value_of k) ≡ Some (key_of x) →
        content_of new ≡ value_set n (MapValue (put (key_of x) (value_of v) (pairs_in (value_at n (entries_of (content_of m)))))) (content_of m) → Step levels n w (content_of m) (content_of new) bytes rest
    entry_set new x sound declared is content =
        subst (λ w. Step levels n w (content_of m) (content_of new) bytes rest) (sym delimited)
        (set_entry levels n (content_of m) (content_of new) map.field map.key_type read.key_scalar read.value_scalar read.key_read read.value_read body bytes rest (valid_in m) sound (differ_in m) found_in map.form
        key_typed value_typed (value_stray ∙ declared) small read.read front
        (content ∙ ap (λ s. value_set n (MapValue (put s (value_of v) (pairs_in (value_at n (entries_of (content_of m)))))) (content_of m)) (key_itself read.key_read (key_of x) (ap key_in (sym read.key_is) ∙ is))
        ∙ ap (λ s. value_set n (MapValue (put read.key_read s (pairs_in (value_at n (entries_of (content_of m)))))) (content_of m)) read.value_is))

    -- an entry whose value its closed enum does not declare stays unknown
    pub entry_stray : is_stray_number (pool_rows (message_type_of m).pool).enums value_kind (value_of v) ≡ true → ReadsStray (known_of (message_type_of m)) levels n w bytes
    entry_stray stray =
        let s : StaysWhole map.field levels (Flat (Len body)) = scalar_entry_stays (schema_of (content_of m)) map.field (field_checked (schema_of (content_of m)) (type_of (content_of m)) n map.field (valid_in m) found_in) map.key_type map.form
        read.key_scalar read.value_scalar key_typed value_typed levels read.key_read read.value_read body bytes rest small read.read (value_stray ∙ stray) front in
        record {
          field = map.field;
          payload = Flat (Len body);
          rest = rest;
          found = map.found;
          whole = s.whole;
          within = s.within;
          front = record { wire = sym delimited; front = record { front = front.front; spelled = front.spelled; parts = front.parts }; within = omega arith };
        }

  -- REFUSALS

  pub body_fault : (levels : ℕ) (w : WireType) (e : DecodeError) (rest : List ℕ) → BodyFault e w rest → StandsBehindKey (content_of m) levels n w e rest
  body_fault levels w e rest fault = body_refused (content_of m) n map.key_type at_map levels w e rest fault

  pub entry_fault : (levels : ℕ) (w : WireType) (e : DecodeError) (body rest after : List ℕ) → w ≡ wires.LengthDelimited → DelimitedFront body rest after → RefusesEntry (pool_rows (message_type_of m).pool).enums levels key value_kind e body → StandsBehindKey (content_of m) levels n w e rest
  entry_fault levels w e body rest after delimited front refused =
      subst (λ w. StandsBehindKey (content_of m) levels n w e rest) (sym delimited)
      (entry_stands (content_of m) n map.key_type at_map levels e body rest after (ap (λ kind. has_level levels kind) map.value_is) front
      (refused.fault (schema_of (content_of m)) map.key_type map.field.value_type (map.key_is ∙ ap ScalarOf (same_kind map.key_plain refused.key_plain)) (map.value_is ∙ sym map.value_named ∙ refused.value_named)))
