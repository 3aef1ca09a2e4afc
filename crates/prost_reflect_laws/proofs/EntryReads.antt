-- The records of an entry, read one behind another: each key and each value takes the place of the one before, and other records are passed over.
use Rattle.std.specs.Prelude.{◌≡◌, ◌≢◌, ◌∷◌, ◌++◌}
use Rattle.prost_reflect_laws.proofs.Common.{ℕ, Bool, true, false, cond, List, [], nat_eq, nat_le, Option, Some, None, refl, ap, ap₂, sym, subst, ◌∙◌, append-nil, is_some, eqb-true, le-leb, and_from, none-some, DecodeError, WireType, ◌>>=◌, Record, Payload, Flat, record_at, body_of, payload_levels, KeyFront, RecordFront, KeyFault, Scalar, ScalarKind, elem, kind_default, ValueType, Schema, Value, ScalarValue, AllowsInside, nothing_inside, has_number, payloads, numbered, last, fits, in_entry_allowed, MeansInside, empty_inside, last_or, entry_key, entry_value, Stands, entry_field, field_at, ValueFault, ScalarRead, ScalarFault, EntryTo, EntryPlace, plain_type, ScalarEntryTo, StandsInEntry, all_append, filter_append, map_append, last_append, record_front, last_front, none_front, key_stands, value_stands, stands_behind}
use Rattle.prost_reflect_wire.specs.Unknown.{SkipsValue}
use Rattle.prost_reflect_laws.proofs.ScalarFaults.{scalar_stands}

-- ONE RECORD MORE

pub numbered_last : (n : ℕ) (rs : List Record) (r : Record) → numbered n (rs ++ r ∷ []) ≡ numbered n rs ++ payloads (cond (nat_eq r.number n) (r ∷ []) [])
numbered_last n rs r = ap payloads (filter_append (has_number n) rs (r ∷ [])) ∙ map_append (λ r. r.payload) _ _

-- a record of the number is its last
numbered_own : (n : ℕ) (rs : List Record) (r : Record) → nat_eq r.number n ≡ true → last (numbered n (rs ++ r ∷ [])) ≡ Some r.payload
numbered_own n rs r own = ap last (numbered_last n rs r ∙ ap (λ b. numbered n rs ++ payloads (cond b (r ∷ []) [])) own) ∙ last_append (numbered n rs) r.payload []

-- a record of another number is not
pub numbered_other : (n : ℕ) (rs : List Record) (r : Record) → nat_eq r.number n ≡ false → numbered n (rs ++ r ∷ []) ≡ numbered n rs
numbered_other n rs r other = numbered_last n rs r ∙ ap (λ b. numbered n rs ++ payloads (cond b (r ∷ []) [])) other ∙ append-nil (numbered n rs)

pub last_read : (kind : ScalarKind) (d : Scalar) (n : ℕ) (rs : List Record) (r : Record) (v : Scalar) → nat_eq r.number n ≡ true → elem kind r.payload ≡ Some v → last_or kind d (numbered n (rs ++ r ∷ [])) ≡ v
last_read kind d n rs r v own read =
    ap (λ (o : Option Payload). elim (o >>= elem kind) [ None ↦ d | Some w ↦ w ]) (numbered_own n rs r own) ∙ ap (λ (o : Option Scalar). elim o [ None ↦ d | Some w ↦ w ]) read

module _ (allow : AllowsInside) (inner : MeansInside) (levels : ℕ) (key value_type : ValueType) where
  pub entry_nothing : (bytes : List ℕ) → EntryTo allow inner levels key value_type (entry_key key []) (entry_value inner value_type value_type.kind []) bytes bytes
  entry_nothing bytes = record { records = []; front = none_front bytes; allowed = refl; key_is = refl; value_is = refl }

  -- one record more that an entry takes, where it is known which key and value it leaves
  pub entry_more : (k x : Scalar) (v w : Value) (bytes mid rest : List ℕ) (done : EntryTo allow inner levels key value_type k v bytes mid) (r : Record) → RecordFront r mid rest → in_entry_allowed levels allow key value_type r ≡ true →
      entry_key key (done.records ++ r ∷ []) ≡ x → entry_value inner value_type value_type.kind (done.records ++ r ∷ []) ≡ w → EntryTo allow inner levels key value_type x w bytes rest
  entry_more k x v w bytes mid rest done r front allowed key_is value_is = record {
    records = done.records ++ r ∷ [];
    front = last_front done.records r bytes mid rest done.front front;
    allowed = all_append (in_entry_allowed levels allow key value_type) done.records (r ∷ []) done.allowed (and_from _ _ allowed refl);
    key_is = key_is;
    value_is = value_is;
  }

  -- what stands behind the records that were read stands in the body
  pub entry_behind : (schema : Schema) (e : DecodeError) (k : Scalar) (v : Value) (bytes mid : List ℕ) → EntryTo allow inner levels key value_type k v bytes mid → (one two : ValueType) → Stands schema e (EntryPlace one two levels mid) → Stands schema e (EntryPlace one two levels bytes)
  entry_behind schema e k v bytes mid done one two s = stands_behind schema e (EntryPlace one two levels bytes) (body_of done.records) mid done.front s

-- SCALAR KEYS AND VALUES

pub one_two : (n : ℕ) → nat_eq n 1 ≡ true → nat_eq n 2 ≡ false
one_two n e = ap (λ m. nat_eq m 2) (eqb-true n 1 e)

pub two_one : (n : ℕ) → nat_eq n 2 ≡ true → nat_eq n 1 ≡ false
two_one n e = ap (λ m. nat_eq m 1) (eqb-true n 2 e)

module _ (levels : ℕ) (key value_kind : ScalarKind) where
  pub scalar_entry_nothing : (bytes : List ℕ) → ScalarEntryTo levels key value_kind (kind_default key) (kind_default value_kind) bytes bytes
  scalar_entry_nothing bytes = entry_nothing nothing_inside (empty_inside []) levels (plain_type key) (plain_type value_kind) bytes

  abbrev entry_takes : Bool → Bool → Payload → Bool
  entry_takes a b p = cond a (fits key p) (cond b (fits value_kind p) (nat_le (payload_levels p) levels))

  module _ (k v : Scalar) (bytes mid : List ℕ) (done : ScalarEntryTo levels key value_kind k v bytes mid) (n : ℕ) (w : WireType) (after : List ℕ) (front : KeyFront n w mid after) where
    -- a key
    pub key_read : (x : Scalar) (rest : List ℕ) → nat_eq n 1 ≡ true → ScalarRead key w x after rest → ScalarEntryTo levels key value_kind x v bytes rest
    key_read x rest is read =
        let p : Payload = Flat read.plain in
        entry_more nothing_inside (empty_inside []) levels (plain_type key) (plain_type value_kind) k x (ScalarValue v) (ScalarValue v) bytes mid rest done (record_at n p)
        (record_front n p mid after rest (subst (λ w. KeyFront n w mid after) (sym read.wire) front) read.front)
        (ap (λ b. entry_takes b (nat_eq n 2) p) is ∙ ap is_some read.value)
        (last_read key (kind_default key) 1 done.records (record_at n p) x is read.value)
        (ap (λ ps. ScalarValue (last_or value_kind (kind_default value_kind) ps)) (numbered_other 2 done.records (record_at n p) (one_two n is)) ∙ done.value_is)

    -- a value
    pub value_read : (x : Scalar) (rest : List ℕ) → nat_eq n 2 ≡ true → ScalarRead value_kind w x after rest → ScalarEntryTo levels key value_kind k x bytes rest
    value_read x rest is read =
        let p : Payload = Flat read.plain in
        entry_more nothing_inside (empty_inside []) levels (plain_type key) (plain_type value_kind) k k (ScalarValue v) (ScalarValue x) bytes mid rest done (record_at n p)
        (record_front n p mid after rest (subst (λ w. KeyFront n w mid after) (sym read.wire) front) read.front)
        (ap₂ (λ a b. entry_takes a b p) (two_one n is) is ∙ ap is_some read.value)
        (ap (last_or key (kind_default key)) (numbered_other 1 done.records (record_at n p) (two_one n is)) ∙ done.key_is)
        (ap ScalarValue (last_read value_kind (kind_default value_kind) 2 done.records (record_at n p) x is read.value))

    -- a record of another number
    pub other_read : (rest : List ℕ) → nat_eq n 1 ≡ false → nat_eq n 2 ≡ false → SkipsValue n w levels after rest → ScalarEntryTo levels key value_kind k v bytes rest
    other_read rest first second (p, f) =
        entry_more nothing_inside (empty_inside []) levels (plain_type key) (plain_type value_kind) k k (ScalarValue v) (ScalarValue v) bytes mid rest done (record_at n p)
        (record_front n p mid after rest (subst (λ w. KeyFront n w mid after) (sym f.wire) front) f.front)
        (ap₂ (λ a b. entry_takes a b p) first second ∙ le-leb (payload_levels p) levels f.within)
        (ap (last_or key (kind_default key)) (numbered_other 1 done.records (record_at n p) first) ∙ done.key_is)
        (ap (λ ps. ScalarValue (last_or value_kind (kind_default value_kind) ps)) (numbered_other 2 done.records (record_at n p) second) ∙ done.value_is)

    -- WHAT IS REFUSED

    key_field : (schema : Schema) (one two : ValueType) → nat_eq n 1 ≡ true → field_at schema (EntryPlace one two levels mid).inside n ≡ Some (entry_field 1 one)
    key_field schema one two is = ap (λ b. cond b (Some (entry_field 1 one)) (cond (nat_eq n 2) (Some (entry_field 2 two)) None)) is

    value_field : (schema : Schema) (one two : ValueType) → nat_eq n 2 ≡ true → field_at schema (EntryPlace one two levels mid).inside n ≡ Some (entry_field 2 two)
    value_field schema one two is = ap₂ (λ a b. cond a (Some (entry_field 1 one)) (cond b (Some (entry_field 2 two)) None)) (two_one n is) is

    pub key_refused : (e : DecodeError) → nat_eq n 1 ≡ true → ScalarFault key w e after → StandsInEntry levels key value_kind e bytes
    key_refused e is fault = λ schema one two a b. entry_behind nothing_inside (empty_inside []) levels (plain_type key) (plain_type value_kind) schema e k (ScalarValue v) bytes mid done one two
        (scalar_stands schema e (EntryPlace one two levels mid) n w after (entry_field 1 one) key front (key_field schema one two is) refl a (λ _. none-some _) fault)

    pub value_refused : (e : DecodeError) → nat_eq n 2 ≡ true → ScalarFault value_kind w e after → StandsInEntry levels key value_kind e bytes
    value_refused e is fault = λ schema one two a b. entry_behind nothing_inside (empty_inside []) levels (plain_type key) (plain_type value_kind) schema e k (ScalarValue v) bytes mid done one two
        (scalar_stands schema e (EntryPlace one two levels mid) n w after (entry_field 2 two) value_kind front (value_field schema one two is) refl b (λ _. none-some _) fault)

    pub other_refused : (e : DecodeError) → nat_eq n 1 ≡ false → nat_eq n 2 ≡ false → ValueFault e n w levels after → StandsInEntry levels key value_kind e bytes
    other_refused e first second fault = λ schema one two a b. entry_behind nothing_inside (empty_inside []) levels (plain_type key) (plain_type value_kind) schema e k (ScalarValue v) bytes mid done one two
        (value_stands schema (EntryPlace one two levels mid) e n w after
        (ap₂ (λ a b. cond a (Some (entry_field 1 one)) (cond b (Some (entry_field 2 two)) None)) first second) front (λ _. none-some _) fault)

  -- no key is there
  pub no_key_read : (e : DecodeError) (k v : Scalar) (bytes mid : List ℕ) → ScalarEntryTo levels key value_kind k v bytes mid → mid ≢ [] → KeyFault e mid → StandsInEntry levels key value_kind e bytes
  no_key_read e k v bytes mid done some fault = λ schema one two a b. entry_behind nothing_inside (empty_inside []) levels (plain_type key) (plain_type value_kind) schema e k (ScalarValue v) bytes mid done one two
      (key_stands schema (EntryPlace one two levels mid) e fault (λ none. absurd (some none)))
