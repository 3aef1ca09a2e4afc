-- An entry with a scalar key and a scalar value, read into a content that holds.
use Rattle.std.specs.Prelude.{◌≡◌, ◌≤◌, ◌&&◌}
use Rattle.prost_reflect_laws.proofs.Common.{ℕ, true, false, cond, nat_eq, nat_le, List, [], Some, None, refl, ap, ap₂, sym, ◌∙◌, subst, list_all, leb-true, and_parts, and_from, AreBytes, Len, Record, Payload, Flat, body_of, payload_levels, payload_valid, valid, DelimitedFront, RecordsFront, Scalar, ScalarKind, kind_default, is_undeclared, scalar_eq, scalar_valid, ScalarOf, ValueType, MapFrom, Field, Schema, known, field_of, is_key_kind, default_valid, field_valid, numbers_differ, schema_valid, passes, ContentOf, Entries, Value, ScalarValue, MapValue, value_at, changed, AllowsInside, nothing_inside, numbered, last, or_none, is_stray, is_stray_entry, one_allowed, has_level, in_entry_allowed, field_allowed, MeansInside, empty_inside, last_or, entry_value, put, pairs_in, stray_levels, kind_takes, is_whole_stray, WellStored, with_stored, Step, EntryTo, plain_type, ScalarEntryTo, bytes_front, field_number, scalar_decides}
use Rattle.prost_reflect_wire.specs.declared.key.WireType.TheVariants as wires
use Rattle.prost_reflect_laws.proofs.SpelledValid.{spelled_valid}
use Rattle.prost_reflect_laws.proofs.Checked.{known_valid, found_valid, CheckedField, checked_field, CheckedMap, checked_map}
use Rattle.prost_reflect_laws.proofs.EntryDefaults.{default_valid_key, key_stays, last_or_valid, is_undeclared_value, last_undeclared}
use Rattle.prost_reflect_laws.proofs.Readable.{numbered_valid}
use Rattle.prost_reflect_laws.proofs.Allowed.{inside}
use Rattle.prost_reflect_laws.proofs.Means.{below}
use Rattle.prost_reflect_laws.proofs.StraysStay.{entry_stays}
use Rattle.prost_reflect_laws.proofs.Holding.{payload_front_valid}
use Rattle.prost_reflect_laws.proofs.MapSteps.{entry_records, entry_holds}
use Rattle.prost_reflect_laws.proofs.BodyFronts.{delimited_bytes}

-- a field of a checked schema
pub field_checked : (schema : Schema) (T n : ℕ) (f : Field) → schema_valid schema ≡ true → field_of (known schema T) n ≡ Some f → field_valid schema f ≡ true
field_checked schema T n f h e = found_valid schema (known schema T) n f (known_valid schema T h) e

-- the key of a map of a checked schema
pub map_keyed : (schema : Schema) (f : Field) (key : ValueType) → field_valid schema f ≡ true → f.form ≡ MapFrom key → is_key_kind key.kind ≡ true
map_keyed schema f key h form = (checked_map schema f key (checked_field schema f h) form).keyed

-- a default that is its kind's
default_is : (value_type : ValueType) (kind : ScalarKind) → value_type.kind ≡ ScalarOf kind → (elim value_type.kind [ ScalarOf kind ↦ scalar_eq value_type.default (kind_default kind) | _ ↦ true ]) ≡ true → value_type.default ≡ kind_default kind
default_is value_type kind is h = (scalar_decides value_type.default (kind_default kind)).0 (ap (λ kind. elim kind [ ScalarOf kind ↦ scalar_eq value_type.default (kind_default kind) | _ ↦ true ]) (sym is) ∙ h)

-- the bytes of a delimited payload are bytes
-- WHAT IS READ FITS

-- the key of an entry, whatever its value is
pub entry_key_valid : (allow : AllowsInside) (inner : MeansInside) (levels : ℕ) (key : ScalarKind) (value_type : ValueType) (k : Scalar) (v : Value) (bytes : List ℕ) → EntryTo allow inner levels (plain_type key) value_type k v bytes [] → AreBytes bytes → is_key_kind (ScalarOf key) ≡ true → scalar_valid key k ≡ true
entry_key_valid allow inner levels key value_type k v bytes done small keyed =
    ap (scalar_valid key) (sym done.key_is) ∙ last_or_valid key (kind_default key) (numbered 1 done.records) (default_valid_key key keyed) (numbered_valid 1 done.records spelt) (λ p e. key_stays key p keyed)
  where
    spelt : valid (body_of done.records) ≡ true
    spelt = let f : RecordsFront (body_of done.records) bytes [] = done.front in spelled_valid (body_of done.records) f.front (bytes_front f.front [] (subst AreBytes f.parts small)) f.spelled

module _ (levels : ℕ) (key value_kind : ScalarKind) (k v : Scalar) (bytes : List ℕ) (done : ScalarEntryTo levels key value_kind k v bytes []) (small : AreBytes bytes) where
  spelt : valid (body_of done.records) ≡ true
  spelt = let f : RecordsFront (body_of done.records) bytes [] = done.front in spelled_valid (body_of done.records) f.front (bytes_front f.front [] (subst AreBytes f.parts small)) f.spelled

  pub key_read_valid : is_key_kind (ScalarOf key) ≡ true → scalar_valid key k ≡ true
  key_read_valid keyed = entry_key_valid nothing_inside (empty_inside []) levels key (plain_type value_kind) k (ScalarValue v) bytes done small keyed

  -- the value is that of the last record of number 2
  pub value_left : last_or value_kind (kind_default value_kind) (numbered 2 done.records) ≡ v
  value_left = ap (λ (w : Value). elim w [ ScalarValue s ↦ s | _ ↦ v ]) done.value_is

  pub value_read_valid : scalar_valid value_kind (kind_default value_kind) ≡ true → is_undeclared_value value_kind v ≡ false → scalar_valid value_kind v ≡ true
  value_read_valid default declared =
      ap (scalar_valid value_kind) (sym value_left) ∙ last_or_valid value_kind (kind_default value_kind) (numbered 2 done.records) default (numbered_valid 2 done.records spelt)
      (λ p e. ap (λ o. elim o [ None ↦ false | Some q ↦ is_undeclared value_kind q ]) (sym e) ∙ last_undeclared value_kind (kind_default value_kind) v (numbered 2 done.records) default value_left ∙ declared)

-- AS THE FIELD'S TYPES SAY IT

module _ (allow : AllowsInside) (inner : MeansInside) (levels : ℕ) (key value_kind : ScalarKind) (key_type value_type : ValueType) (key_is : key_type.kind ≡ ScalarOf key) (value_is : value_type.kind ≡ ScalarOf value_kind) (default : value_type.default ≡ kind_default value_kind) where
  entry_typed : (k v : Scalar) (bytes rest : List ℕ) → ScalarEntryTo levels key value_kind k v bytes rest → EntryTo allow inner levels key_type value_type k (ScalarValue v) bytes rest
  entry_typed k v bytes rest done = record {
    records = done.records;
    front = done.front;
    allowed = ap₂ (λ a b. list_all (λ (r : Record). cond (nat_eq r.number 1) (one_allowed allow a r.payload) (cond (nat_eq r.number 2) (one_allowed allow b r.payload) (nat_le (payload_levels r.payload) levels))) done.records) key_is value_is ∙ done.allowed;
    key_is = ap (λ kind. elim kind [ ScalarOf kind ↦ last_or kind (kind_default kind) (numbered 1 done.records) | _ ↦ key_type.default ]) key_is ∙ done.key_is;
    value_is = ap (λ kind. entry_value inner value_type kind done.records) value_is ∙ ap (λ d. ScalarValue (last_or value_kind d (numbered 2 done.records))) default ∙ done.value_is;
  }

  -- an entry is a stray where its value is undeclared
  typed_stray : (k v : Scalar) (bytes : List ℕ) → AreBytes bytes → scalar_valid value_kind (kind_default value_kind) ≡ true → ScalarEntryTo levels key value_kind k v bytes [] → is_stray_entry value_type (Flat (Len bytes)) ≡ is_undeclared_value value_kind v
  typed_stray k v bytes small taken done =
      ap (λ rs. elim (last (numbered 2 rs)) [ None ↦ false | Some q ↦ is_stray value_type.kind q ]) (ap or_none (entry_records nothing_inside (empty_inside []) levels (plain_type key) (plain_type value_kind) k (ScalarValue v) bytes done))
      ∙ ap (λ kind. elim (last (numbered 2 done.records)) [ None ↦ false | Some q ↦ is_stray kind q ]) value_is
      ∙ last_undeclared value_kind (kind_default value_kind) v (numbered 2 done.records) taken (value_left levels key value_kind k v bytes done small)

-- A FIELD

-- a record that stays whole as a stray, and needs no more than these levels
pub record StaysWhole (f : Field) (levels : ℕ) (p : Payload) : Type 0 where
  pub whole : is_whole_stray f.form f.value_type p ≡ true
  pub within : stray_levels f.form p ≤ levels

module _ (schema : Schema) (f : Field) (checked : field_valid schema f ≡ true) (key_type : ValueType) (form : f.form ≡ MapFrom key_type) (key value_kind : ScalarKind) (key_is : key_type.kind ≡ ScalarOf key) (value_is : f.value_type.kind ≡ ScalarOf value_kind) where
  map_checks : CheckedMap f key_type
  map_checks = checked_map schema f key_type (checked_field schema f checked) form

  default : f.value_type.default ≡ kind_default value_kind
  default = default_is f.value_type value_kind value_is map_checks.value_default

  taken : scalar_valid value_kind (kind_default value_kind) ≡ true
  taken = let c : CheckedField schema f = checked_field schema f checked in ap (scalar_valid value_kind) (sym default) ∙ ap (λ kind. default_valid kind f.value_type.default) (sym value_is) ∙ c.default

  has_no_level : (k : ℕ) → has_level k f.value_type.kind ≡ true
  has_no_level k = ap (λ kind. has_level k kind) value_is

  -- an entry of an undeclared number stays whole
  pub scalar_entry_stays : (k : ℕ) (x v : Scalar) (inside_bytes bytes rest : List ℕ) → AreBytes bytes → ScalarEntryTo k key value_kind x v inside_bytes [] → is_undeclared_value value_kind v ≡ true → DelimitedFront inside_bytes bytes rest → StaysWhole f k (Flat (Len inside_bytes))
  scalar_entry_stays k x v inside_bytes bytes rest small done undeclared front =
      let (whole, level) = and_parts (payload_valid p && is_whole_stray (MapFrom key_type) f.value_type p) (nat_le (stray_levels (MapFrom key_type) p) k)
      (entry_stays k nothing_inside key_type f.value_type p map_checks.keyed (payload_front_valid 1 p bytes rest small (record { front = front.front; spelled = front.spelled; parts = front.parts })) allowed
      (typed_stray nothing_inside (empty_inside []) k key value_kind key_type f.value_type key_is value_is default x v inside_bytes (delimited_bytes inside_bytes bytes rest small front) taken done ∙ undeclared)) in
      record {
        whole = ap (λ form. is_whole_stray form f.value_type p) form ∙ (and_parts (payload_valid p) (is_whole_stray (MapFrom key_type) f.value_type p) whole).1;
        within = leb-true (stray_levels f.form p) k (ap (λ form. nat_le (stray_levels form p) k) form ∙ level);
      }
    where
      p : Payload
      p = Flat (Len inside_bytes)

      allowed : field_allowed k nothing_inside (MapFrom key_type) f.value_type (Flat (Len inside_bytes)) ≡ true
      allowed = let typed : EntryTo nothing_inside (empty_inside []) k key_type f.value_type x (ScalarValue v) inside_bytes [] = entry_typed nothing_inside (empty_inside []) k key value_kind key_type f.value_type key_is value_is default x v inside_bytes [] done in
          and_from _ _ (has_no_level k)
          (ap (λ o. passes o (list_all (in_entry_allowed k nothing_inside key_type f.value_type))) (entry_records nothing_inside (empty_inside []) k key_type f.value_type x (ScalarValue v) inside_bytes typed) ∙ typed.allowed)

  module _ (T : ℕ) (es : Entries) (sound : WellStored (ContentOf schema T es)) (differ : numbers_differ (known schema T) ≡ true) where
    at_number : (k : ℕ) (x v : Scalar) (inside_bytes bytes rest : List ℕ) → field_of (known schema T) f.number ≡ Some f → AreBytes bytes → ScalarEntryTo k key value_kind x v inside_bytes [] → is_undeclared_value value_kind v ≡ false → DelimitedFront inside_bytes bytes rest →
        Step k f.number wires.LengthDelimited (ContentOf schema T es) (ContentOf schema T (changed f.number (with_stored (known schema T) f (MapValue (put x (ScalarValue v) (pairs_in (value_at f.number es))))) es)) bytes rest
    at_number k x v inside_bytes bytes rest found small done declared front =
        let within : AreBytes inside_bytes = delimited_bytes inside_bytes bytes rest small front in
        let keyed : is_key_kind (ScalarOf key) ≡ true = ap is_key_kind (sym key_is) ∙ map_checks.keyed in
        entry_holds schema T es sound differ f found key_type form k x (ScalarValue v) inside_bytes bytes rest
        (record {
          key_taken = ap (λ kind. kind_takes kind x) key_is ∙ key_read_valid k key value_kind x v inside_bytes done within keyed;
          valid = ap (λ kind. kind_takes kind v) value_is ∙ value_read_valid k key value_kind x v inside_bytes done within taken declared;
          fits = refl;
          types = tt;
          order = refl;
          members = refl;
        })
        (has_no_level k)
        (entry_typed (inside schema k) (below schema k) k key value_kind key_type f.value_type key_is value_is default x v inside_bytes [] done)
        (typed_stray (inside schema k) (below schema k) k key value_kind key_type f.value_type key_is value_is default x v inside_bytes within taken done ∙ declared) front

    -- an entry behind the key of a map of scalars, whose value is declared
    pub scalar_entry_holds : (k n : ℕ) (x v : Scalar) (inside_bytes bytes rest : List ℕ) → field_of (known schema T) n ≡ Some f → AreBytes bytes → ScalarEntryTo k key value_kind x v inside_bytes [] → is_undeclared_value value_kind v ≡ false → DelimitedFront inside_bytes bytes rest →
        Step k n wires.LengthDelimited (ContentOf schema T es) (ContentOf schema T (changed f.number (with_stored (known schema T) f (MapValue (put x (ScalarValue v) (pairs_in (value_at n es))))) es)) bytes rest
    scalar_entry_holds k n x v inside_bytes bytes rest found small done declared front =
        let number : f.number ≡ n = field_number (known schema T) n f found in
        subst (λ m. Step k m wires.LengthDelimited (ContentOf schema T es) (ContentOf schema T (changed f.number (with_stored (known schema T) f (MapValue (put x (ScalarValue v) (pairs_in (value_at m es))))) es)) bytes rest) number
        (at_number k x v inside_bytes bytes rest (ap (field_of (known schema T)) number ∙ found) small done declared front)
