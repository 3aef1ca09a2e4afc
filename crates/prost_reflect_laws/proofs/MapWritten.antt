-- What is written of a map, and of one of scalars.
use Rattle.std.specs.Prelude.{◌≡◌, ◌&&◌, ◌∷◌, ◌++◌}
use Rattle.prost_reflect_laws.proofs.Common.{ℕ, Bool, true, false, cond, not, List, [], map, Some, refl, ap, ap₂, sym, ◌∙◌, append_assoc, append-nil, true≢false, and_parts, Len, Payload, Record, record_at, short_key, short_plain, spelled, Scalar, ScalarKind, kind_wire, scalar_eq, scalar_valid, written, ScalarOf, ValueType, MapFrom, Field, field_of, Value, ScalarValue, MapValue, Pairs, NoPairs, Pair, present_map, key_of, scalar_payload, entry_record, entry_payload, field_payloads, pair_payloads, pairs_valid, kept_value, kept_pairs, kept_records, value_bytes}
use Rattle.prost_reflect_wire.specs.declared.key.WireType.TheVariants as wires
use Rattle.prost_reflect_laws.proofs.ValueCarried.{kept_map}
use Rattle.prost_reflect_laws.proofs.WrittenEntries.{spelled_append, written_wire}

-- what an entry writes of its key or its value
abbrev pub part_bytes : ValueType → ℕ → ScalarKind → Scalar → List ℕ
part_bytes value_type n kind v = cond (not value_type.presence && scalar_eq v value_type.default) [] (short_key n (kind_wire kind) ++ short_plain (written kind v))

pub part_written : (value_type : ValueType) (n : ℕ) (kind : ScalarKind) (v : Scalar) → value_type.kind ≡ ScalarOf kind → scalar_valid kind v ≡ true → spelled (entry_record value_type n (ScalarValue v) (scalar_payload value_type.kind v)) ≡ part_bytes value_type n kind v
part_written value_type n kind v is fits = ap (λ k. spelled (entry_record value_type n (ScalarValue v) (scalar_payload k v))) is ∙ go (not value_type.presence && scalar_eq v value_type.default)
  where
    go : (b : Bool) → spelled (cond b [] (record_at n (scalar_payload (ScalarOf kind) v) ∷ [])) ≡ cond b [] (short_key n (kind_wire kind) ++ short_plain (written kind v))
    go true = refl
    go false = ap (λ w. short_key n w ++ (short_plain (written kind v) ++ [])) (written_wire kind v fits) ∙ ap (λ l. short_key n (kind_wire kind) ++ l) (append-nil (short_plain (written kind v)))

-- an entry in front of others
pub pair_front : (n : ℕ) (key value_type : ValueType) (k : Scalar) (v : Value) (p : Payload) (rs : List Record) → spelled (record_at n (entry_payload key value_type k v p) ∷ rs)
    ≡ (short_key n wires.LengthDelimited ++ short_plain (Len (spelled (entry_record key 1 (ScalarValue k) (scalar_payload key.kind k)) ++ spelled (entry_record value_type 2 v p)))) ++ spelled rs
pair_front n key value_type k v p rs =
    ap (λ body. short_key n wires.LengthDelimited ++ (short_plain (Len body) ++ spelled rs)) (spelled_append (entry_record key 1 (ScalarValue k) (scalar_payload key.kind k)) (entry_record value_type 2 v p))
    ∙ sym (append_assoc (short_key n wires.LengthDelimited) (short_plain (Len (spelled (entry_record key 1 (ScalarValue k) (scalar_payload key.kind k)) ++ spelled (entry_record value_type 2 v p)))) (spelled rs))

-- one of scalars
pub pair_written : (n : ℕ) (key value_type : ValueType) (key_kind kind : ScalarKind) (k v : Scalar) (ps : Pairs) → key.kind ≡ ScalarOf key_kind → value_type.kind ≡ ScalarOf kind → scalar_valid key_kind k ≡ true → scalar_valid kind v ≡ true →
    spelled (map (record_at n) (pair_payloads key value_type (Pair k (ScalarValue v) ps)))
    ≡ (short_key n wires.LengthDelimited ++ short_plain (Len (part_bytes key 1 key_kind k ++ part_bytes value_type 2 kind v))) ++ spelled (map (record_at n) (pair_payloads key value_type ps))
pair_written n key value_type key_kind kind k v ps key_is is key_fits fits =
    pair_front n key value_type k (ScalarValue v) (scalar_payload value_type.kind v) (map (record_at n) (pair_payloads key value_type ps))
    ∙ ap (λ body. (short_key n wires.LengthDelimited ++ short_plain (Len body)) ++ spelled (map (record_at n) (pair_payloads key value_type ps)))
    (ap₂ ◌++◌ (part_written key 1 key_kind k key_is key_fits) (part_written value_type 2 kind v is fits))

-- maps of scalars are kept as they are
pub scalars_kept : (key : ValueType) (kind : ScalarKind) (ps : Pairs) → pairs_valid (MapFrom key) (ScalarOf kind) ps ≡ true → kept_pairs ps ≡ ps
scalars_kept key kind NoPairs h = refl
scalars_kept key kind (Pair k (ScalarValue v) ps) h = ap (Pair k (ScalarValue v)) (scalars_kept key kind ps (and_parts _ (pairs_valid (MapFrom key) (ScalarOf kind) ps) h).1)
scalars_kept key kind (Pair k _ ps) h = absurd (true≢false (sym (and_parts _ _ (and_parts _ (pairs_valid (MapFrom key) (ScalarOf kind) ps) h).0).1))

-- what is written of a map is what is written of the pairs that are kept
pub map_kept_written : (fields : List Field) (n : ℕ) (f : Field) (key : ValueType) (ps : Pairs) → field_of fields n ≡ Some f → f.form ≡ MapFrom key →
    value_bytes fields n (MapValue ps) ≡ spelled (map (record_at n) (pair_payloads key f.value_type (kept_pairs ps)))
map_kept_written fields n f key ps found form =
    ap (λ o. spelled (kept_records fields n (kept_value o (MapValue (kept_pairs ps))))) found
    ∙ ap (λ o. spelled (kept_records fields n o)) (kept_map f key (kept_pairs ps) form)
    ∙ go (kept_pairs ps)
  where
    go : (ps : Pairs) → spelled (kept_records fields n (present_map ps)) ≡ spelled (map (record_at n) (pair_payloads key f.value_type ps))
    go NoPairs = refl
    go (Pair k v ps) =
        ap (λ o. spelled (map (record_at n) (field_payloads o (MapValue (Pair k v ps))))) found
        ∙ ap (λ form. spelled (map (record_at n) (pair_payloads (key_of form f.value_type) f.value_type (Pair k v ps)))) form

pub map_written : (fields : List Field) (n : ℕ) (f : Field) (key : ValueType) (kind : ScalarKind) (ps : Pairs) → field_of fields n ≡ Some f → f.form ≡ MapFrom key → pairs_valid (MapFrom key) (ScalarOf kind) ps ≡ true →
    value_bytes fields n (MapValue ps) ≡ spelled (map (record_at n) (pair_payloads key f.value_type ps))
map_written fields n f key kind ps found form valid =
    map_kept_written fields n f key ps found form ∙ ap (λ ps. spelled (map (record_at n) (pair_payloads key f.value_type ps))) (scalars_kept key kind ps valid)
