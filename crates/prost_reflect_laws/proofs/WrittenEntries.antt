-- What is written of entries, number by number.
use Rattle.std.specs.Prelude.{◌≡◌, ◌&&◌, ◌||◌, ◌∷◌, ◌++◌}
use Rattle.prost_reflect_laws.proofs.Common.{ℕ, Bool, true, false, cond, not, List, [], map, Option, Some, None, refl, ap, sym, ◌∙◌, append_assoc, append-nil, true≢false, ◌>>=◌, Record, Payload, Flat, Group, before, body_of, plain_wire, short_key, short_plain, short_body, spelled, Scalar, F64, F32, I64, U64, I32, U32, Boolean, Text, Bytes, EnumNumber, ScalarKind, Double, Float, Int64, Uint64, Int32, Fixed64, Fixed32, BoolKind, StringKind, BytesKind, Uint32, Sfixed32, Sfixed64, Sint32, Sint64, Enum, kind_wire, scalar_eq, scalar_valid, written, ScalarOf, Singular, Field, field_of, is_singular, Entries, Unknown, Value, ScalarValue, Slot, then_unknowns, then_value, store, Content, MessageValue, record_at, is_default_of, field_payloads, entries_records, scalar_payload, records, message_payload, kept_records, value_bytes, stored_bytes, slot_bytes, kept_value, kept_inside, kept_entries, is_empty_value, kept}
use Rattle.prost_reflect_wire.specs.declared.key.WireType.TheVariants as wires
use Rattle.prost_reflect_laws.proofs.ByNumber.{unknowns_first}

pub spelled_append : (rs qs : List Record) → spelled (rs ++ qs) ≡ spelled rs ++ spelled qs
spelled_append [] qs = refl
spelled_append (r ∷ rs) qs = go r.payload (spelled_append rs qs)
  where
    go : (p : Payload) → spelled (rs ++ qs) ≡ spelled rs ++ spelled qs →
        short_body (before (record { number = r.number; payload = p }) (body_of (rs ++ qs))) ≡ short_body (before (record { number = r.number; payload = p }) (body_of rs)) ++ spelled qs
    go (Flat p) more =
        ap (λ l. short_key r.number (plain_wire p) ++ (short_plain p ++ l)) more
        ∙ sym (append_assoc (short_key r.number (plain_wire p)) (short_plain p ++ spelled rs) (spelled qs)
        ∙ ap (λ l. short_key r.number (plain_wire p) ++ l) (append_assoc (short_plain p) (spelled rs) (spelled qs)))
    go (Group inside) more =
        ap (λ l. start ++ (short_body inside ++ (stop ++ l))) more
        ∙ sym (append_assoc start (short_body inside ++ (stop ++ spelled rs)) (spelled qs)
        ∙ ap (λ l. start ++ l) (append_assoc (short_body inside) (stop ++ spelled rs) (spelled qs) ∙ ap (λ l. short_body inside ++ l) (append_assoc stop (spelled rs) (spelled qs))))
      where
        start : List ℕ
        start = short_key r.number wires.StartGroup

        stop : List ℕ
        stop = short_key r.number wires.EndGroup

-- ONE NUMBER

pub kept_unknowns : (fields : List Field) (n : ℕ) (ps : List Payload) (es : Entries) → kept_entries fields (then_unknowns n ps es) ≡ then_unknowns n ps (kept_entries fields es)
kept_unknowns fields n [] es = refl
kept_unknowns fields n (p ∷ ps) es = ap (Unknown n p) (kept_unknowns fields n ps es)

-- what is written of a slot, and then of the entries behind it
pub written_slot : (fields : List Field) (n : ℕ) (slot : Slot) (es : Entries) →
    spelled (entries_records fields (kept_entries fields (store n slot es)))
    ≡ spelled (kept_records fields n (slot.value >>= λ v. kept_value (field_of fields n) (kept_inside v))) ++ (spelled (map (record_at n) slot.unknowns) ++ spelled (entries_records fields (kept_entries fields es)))
written_slot fields n slot es = go slot.value
  where
    behind : List Record
    behind = map (record_at n) slot.unknowns ++ entries_records fields (kept_entries fields es)

    unknowns : entries_records fields (kept_entries fields (then_unknowns n slot.unknowns es)) ≡ map (record_at n) slot.unknowns ++ entries_records fields (kept_entries fields es)
    unknowns = ap (entries_records fields) (kept_unknowns fields n slot.unknowns es) ∙ unknowns_first fields n slot.unknowns (kept_entries fields es)

    split : spelled (map (record_at n) slot.unknowns ++ entries_records fields (kept_entries fields es)) ≡ spelled (map (record_at n) slot.unknowns) ++ spelled (entries_records fields (kept_entries fields es))
    split = spelled_append (map (record_at n) slot.unknowns) (entries_records fields (kept_entries fields es))

    valued : (o : Option Value) → spelled (entries_records fields (then_value n o (kept_entries fields (then_unknowns n slot.unknowns es))))
        ≡ spelled (kept_records fields n o) ++ (spelled (map (record_at n) slot.unknowns) ++ spelled (entries_records fields (kept_entries fields es)))
    valued None = ap spelled unknowns ∙ split
    valued (Some v) =
        ap (λ l. spelled (map (record_at n) (field_payloads (field_of fields n) v) ++ l)) unknowns
        ∙ spelled_append (map (record_at n) (field_payloads (field_of fields n) v)) (map (record_at n) slot.unknowns ++ entries_records fields (kept_entries fields es))
        ∙ ap (λ l. spelled (map (record_at n) (field_payloads (field_of fields n) v)) ++ l) split

    go : (o : Option Value) → spelled (entries_records fields (kept_entries fields (then_value n o (then_unknowns n slot.unknowns es))))
        ≡ spelled (kept_records fields n (o >>= λ v. kept_value (field_of fields n) (kept_inside v))) ++ (spelled (map (record_at n) slot.unknowns) ++ spelled (entries_records fields (kept_entries fields es)))
    go None = valued None
    go (Some v) = valued (kept_value (field_of fields n) (kept_inside v))

-- the same with the bytes of the slot in front
pub written_store : (fields : List Field) (n : ℕ) (slot : Slot) (es : Entries) →
    spelled (entries_records fields (kept_entries fields (store n slot es))) ≡ slot_bytes fields n slot ++ spelled (entries_records fields (kept_entries fields es))
written_store fields n slot es =
    written_slot fields n slot es
    ∙ ap (λ l. l ++ (spelled (map (record_at n) slot.unknowns) ++ spelled (entries_records fields (kept_entries fields es)))) (go slot.value)
    ∙ sym (append_assoc (stored_bytes fields n slot.value) (spelled (map (record_at n) slot.unknowns)) (spelled (entries_records fields (kept_entries fields es))))
  where
    go : (o : Option Value) → spelled (kept_records fields n (o >>= λ v. kept_value (field_of fields n) (kept_inside v))) ≡ stored_bytes fields n o
    go None = refl
    go (Some v) = refl

-- SCALARS

-- a scalar that fits is written with its kind's wire type
pub written_wire : (kind : ScalarKind) (v : Scalar) → scalar_valid kind v ≡ true → plain_wire (written kind v) ≡ kind_wire kind
written_wire Double (F64 n) h = refl
written_wire Float (F32 n) h = refl
written_wire Int64 (I64 z) h = refl
written_wire Uint64 (U64 n) h = refl
written_wire Int32 (I32 z) h = refl
written_wire Fixed64 (U64 n) h = refl
written_wire Fixed32 (U32 n) h = refl
written_wire BoolKind (Boolean b) h = refl
written_wire StringKind (Text x) h = refl
written_wire BytesKind (Bytes x) h = refl
written_wire Uint32 (U32 n) h = refl
written_wire (Enum first numbers) (EnumNumber z) h = refl
written_wire Sfixed32 (I32 z) h = refl
written_wire Sfixed64 (I64 z) h = refl
written_wire Sint32 (I32 z) h = refl
written_wire Sint64 (I64 z) h = refl
written_wire kind v h = absurd (true≢false (sym h))

-- what is written of a singular scalar
pub scalar_written : (fields : List Field) (n : ℕ) (f : Field) (kind : ScalarKind) (v : Scalar) → field_of fields n ≡ Some f → f.form ≡ Singular → f.value_type.kind ≡ ScalarOf kind → scalar_valid kind v ≡ true →
    value_bytes fields n (ScalarValue v)
    ≡ cond (not f.value_type.presence && scalar_eq v f.value_type.default) [] (short_key n (kind_wire kind) ++ short_plain (written kind v))
scalar_written fields n f kind v found form is fits =
    ap (λ o. spelled (kept_records fields n (kept_value o (ScalarValue v)))) found
    ∙ ap (λ form. spelled (kept_records fields n (cond (is_empty_value form (ScalarValue v) || (is_singular form && is_default_of f.value_type (ScalarValue v))) None (Some (ScalarValue v))))) form
    ∙ go (not f.value_type.presence && scalar_eq v f.value_type.default)
  where
    go : (b : Bool) → spelled (kept_records fields n (cond b None (Some (ScalarValue v)))) ≡ cond b [] (short_key n (kind_wire kind) ++ short_plain (written kind v))
    go true = refl
    go false =
        ap (λ o. spelled (map (record_at n) (field_payloads o (ScalarValue v)))) found
        ∙ ap (λ k. spelled (map (record_at n) (scalar_payload k v ∷ []))) is
        ∙ ap (λ w. short_key n w ++ (short_plain (written kind v) ++ [])) (written_wire kind v fits)
        ∙ ap (λ l. short_key n (kind_wire kind) ++ l) (append-nil (short_plain (written kind v)))

-- MESSAGES

-- what is written of a message or a group
pub message_written : (fields : List Field) (n : ℕ) (f : Field) (c : Content) → field_of fields n ≡ Some f → f.form ≡ Singular → value_bytes fields n (MessageValue c) ≡ spelled (record_at n (message_payload f.value_type.kind (records (kept c))) ∷ [])
message_written fields n f c found form =
    ap (λ o. spelled (kept_records fields n (kept_value o (MessageValue (kept c))))) found
    ∙ ap (λ form. spelled (kept_records fields n (cond (is_empty_value form (MessageValue (kept c)) || (is_singular form && is_default_of f.value_type (MessageValue (kept c)))) None (Some (MessageValue (kept c)))))) form
    ∙ ap (λ o. spelled (map (record_at n) (field_payloads o (MessageValue (kept c))))) found
