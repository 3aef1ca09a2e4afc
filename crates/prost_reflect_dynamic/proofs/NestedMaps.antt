-- Entries of maps of messages, read one record behind another and put into the map of their field.
use Rattle.std.specs.Prelude.{◌≡◌, ◌≢◌, ◌≤◌, ◌-◌}
use Rattle.prost_reflect_dynamic.proofs.Common.{ℕ, suc, true, false, nat_eq, List, [], Option, Some, None, refl, ap, sym, ◌∙◌, subst, arith, IsSome, IsSomeAnd, DecodeError, WireType, AreBytes, KeyFront, DelimitedFront, KeyFault, ScalarKind, kind_default, ScalarOf, known, field_of, is_key_kind, Content, ScalarValue, MessageValue, MapValue, empty, value_at, schema_of, type_of, entries_of, allows, has_level, put, pairs_in, meaning, kept, WellStored, SkipsValue, ValueFault, Step, StandsBehindKey, ScalarRead, ScalarFault, IsMapped, BodyFault, field_checked, map_keyed, entry_key_valid, TableKind, DynamicMessage, MapKey, Value, value_set, IsDefaultOf, NestedMap, ReadsNestedEntry, RefusesNestedEntry, plain_kind, ReadsScalar, RefusesScalar, NestedRead, StandsBehindNested, nested_kind, key_in, key_of, value_of, content_of, message_type_of}
use Rattle.prost_reflect_wire.specs.declared.error.DecodeError.TheVariants as errors
use Rattle.prost_reflect_wire.specs.declared.key.WireType.TheVariants as wires
use Rattle.prost_reflect_wire.specs.MessageEntries.{nested_type, NestedEntryTo, NestedValueRead, NestedValueFault, StandsInNestedEntry}
use Rattle.prost_reflect_laws.proofs.MapSteps.{FoundMap, mapped_at, body_refused, entry_stands}
use Rattle.prost_reflect_laws.proofs.NestedEntries.{nested_entry_nothing, nested_no_key, nested_key_read, nested_value_read, nested_other_read, nested_key_refused, nested_value_refused, nested_other_refused, nested_level, nested_entry_holds, entry_depth}
use Rattle.prost_reflect_laws.proofs.BodyFronts.{delimited_bytes}
use Rattle.prost_reflect_dynamic.proofs.ElementReads.{EmptyElement}
use Rattle.prost_reflect_dynamic.proofs.MapMerging.{found_key, key_itself}
use Rattle.prost_reflect_dynamic.proofs.Merging.{known_in, differ_in, valid_in, same_kind}
use Rattle.prost_reflect_dynamic.proofs.NestedFaults.{one_less}
use Rattle.prost_reflect_dynamic.proofs.NestedReads.{step_set, whole}

-- ONE RECORD MORE

pub nested_start : (levels : ℕ) (key : TableKind) (k : Value) (c : Content) (bytes : List ℕ) → c ≡ empty (schema_of c) (type_of c) → IsDefaultOf key k → ReadsNestedEntry levels key k c c bytes bytes
nested_start levels key k c bytes none default = go (plain_kind key) refl default
  where
    go : (o : Option ScalarKind) → plain_kind key ≡ o → IsSomeAnd o (λ x. value_of k ≡ ScalarValue (kind_default x)) → ReadsNestedEntry levels key k c c bytes bytes
    go (Some x) e a = record {
      key_scalar = x;
      key_read = kind_default x;
      key_plain = e;
      key_is = a;
      read = subst (λ d. NestedEntryTo (schema_of c) levels (type_of c) x (kind_default x) d bytes bytes) (sym none) (nested_entry_nothing (schema_of c) levels (type_of c) x bytes);
    }
    go None e a = absurd a

module _ (levels : ℕ) (some : 1 ≤ levels) (key : TableKind) (k : Value) (old mid : Content) (bytes here : List ℕ) (done : ReadsNestedEntry (levels - 1) key k old mid bytes here) where
  refuses : (e : DecodeError) → StandsInNestedEntry (schema_of old) (suc (levels - 1)) (type_of old) done.key_scalar e bytes → RefusesNestedEntry (schema_of old) levels (type_of old) key e bytes
  refuses e fault = record { key_scalar = done.key_scalar; key_plain = done.key_plain; fault = subst (λ l. StandsInNestedEntry (schema_of old) l (type_of old) done.key_scalar e bytes) (one_less levels some) fault }

  pub nested_no_key_there : (e : DecodeError) → here ≢ [] → KeyFault e here → RefusesNestedEntry (schema_of old) levels (type_of old) key e bytes
  nested_no_key_there e rest fault = refuses e (nested_no_key (schema_of old) (levels - 1) (type_of old) done.key_scalar done.key_read mid bytes here done.read e rest fault)

  module _ (n : ℕ) (w : WireType) (after : List ℕ) (front : KeyFront n w here after) where
    pub nested_key_there : (x : Value) (rest : List ℕ) → nat_eq n 1 ≡ true → ReadsScalar key w x after rest → ReadsNestedEntry (levels - 1) key x old mid bytes rest
    nested_key_there x rest is r = record {
      key_scalar = done.key_scalar;
      key_read = r.scalar;
      key_plain = done.key_plain;
      key_is = r.value;
      read = nested_key_read (schema_of old) (levels - 1) (type_of old) done.key_scalar done.key_read mid bytes here done.read n w after front r.scalar rest is
          (subst (λ kind. ScalarRead kind w r.scalar after rest) (same_kind r.plain done.key_plain) r.read);
    }

    pub nested_value_there : (new : Content) (rest : List ℕ) → nat_eq n 2 ≡ true → NestedRead false levels n w mid new after rest → ReadsNestedEntry (levels - 1) key k old new bytes rest
    nested_value_there new rest is value = record {
      key_scalar = done.key_scalar;
      key_read = done.key_read;
      key_plain = done.key_plain;
      key_is = done.key_is;
      read = nested_value_read (schema_of old) (levels - 1) (type_of old) done.key_scalar done.key_read mid bytes here done.read n w after front new rest is
          (subst (λ k. NestedValueRead k w mid new after rest) (omega (arith, value.left)) value.read);
    }

    pub nested_other_there : (rest : List ℕ) → nat_eq n 1 ≡ false → nat_eq n 2 ≡ false → SkipsValue n w levels after rest → ReadsNestedEntry (levels - 1) key k old mid bytes rest
    nested_other_there rest first second skipped = record {
      key_scalar = done.key_scalar;
      key_read = done.key_read;
      key_plain = done.key_plain;
      key_is = done.key_is;
      read = nested_other_read (schema_of old) (levels - 1) (type_of old) done.key_scalar done.key_read mid bytes here done.read n w after front rest first second
          (subst (λ l. SkipsValue n w l after rest) (sym (one_less levels some)) skipped);
    }

    pub nested_no_key_value : (e : DecodeError) → nat_eq n 1 ≡ true → RefusesScalar key w e after → RefusesNestedEntry (schema_of old) levels (type_of old) key e bytes
    nested_no_key_value e is r = refuses e
        (nested_key_refused (schema_of old) (levels - 1) (type_of old) done.key_scalar done.key_read mid bytes here done.read n w after front e is (subst (λ kind. ScalarFault kind w e after) (same_kind r.plain done.key_plain) r.fault))

    pub nested_no_value : (e : DecodeError) → nat_eq n 2 ≡ true → StandsBehindNested (schema_of mid) levels n (nested_kind false (type_of mid)) w e after → RefusesNestedEntry (schema_of old) levels (type_of old) key e bytes
    nested_no_value e is fault = let h = done.read.holds in
        refuses e
        (nested_value_refused (schema_of old) (levels - 1) (type_of old) done.key_scalar done.key_read mid bytes here done.read n w after front e is
        (subst (λ l. NestedValueFault (schema_of old) l n (type_of old) w e after) (sym (one_less levels some))
        (subst (λ s. NestedValueFault s levels n (type_of old) w e after) h.schema (subst (λ T. NestedValueFault (schema_of mid) levels n T w e after) h.type fault))))

    pub nested_no_other : (e : DecodeError) → nat_eq n 1 ≡ false → nat_eq n 2 ≡ false → ValueFault e n w levels after → RefusesNestedEntry (schema_of old) levels (type_of old) key e bytes
    nested_no_other e first second fault = refuses e
        (nested_other_refused (schema_of old) (levels - 1) (type_of old) done.key_scalar done.key_read mid bytes here done.read n w after front e first second (subst (λ l. ValueFault e n w l after) (sym (one_less levels some)) fault))

-- MESSAGES

module _ (m : DynamicMessage) (n : ℕ) (key : TableKind) (T : ℕ) (map : NestedMap (message_type_of m) n key T) where
  nested_found : field_of (known (schema_of (content_of m)) (type_of (content_of m))) n ≡ Some map.field
  nested_found = ap (λ fields. field_of fields n) (known_in m) ∙ map.found

  abbrev nested_at : FoundMap (schema_of (content_of m)) (type_of (content_of m)) n map.key_type
  nested_at = record { field = map.field; found = nested_found; form = map.form }

  -- there is a map, or nothing yet
  pub nested_mapped : WellStored (content_of m) → IsMapped (value_at n (entries_of (content_of m)))
  nested_mapped sound = mapped_at (content_of m) n map.key_type nested_at sound

  module _ (inner : DynamicMessage) (fresh : EmptyElement m inner T) (levels : ℕ) (some : 1 ≤ levels) where
    moved : (k : Value) (c : Content) (body : List ℕ) → ReadsNestedEntry (levels - 1) key k (content_of inner) c body [] → ReadsNestedEntry (levels - 1) key k (empty (schema_of (content_of m)) T) c body []
    moved k c body read = subst (λ d. ReadsNestedEntry (levels - 1) key k d c body []) fresh.is read

    -- the key that was read is a key
    pub nested_key_found : (k : Value) (c : Content) (body bytes rest : List ℕ) → ReadsNestedEntry (levels - 1) key k (content_of inner) c body [] → AreBytes bytes → DelimitedFront body bytes rest → IsSome (key_in (value_of k))
    nested_key_found k c body bytes rest read small front =
        let r : ReadsNestedEntry (levels - 1) key k (empty (schema_of (content_of m)) T) c body [] = moved k c body read in
        let keyed : is_key_kind (ScalarOf r.key_scalar) ≡ true =
        ap (λ kind. is_key_kind (ScalarOf kind)) (same_kind r.key_plain map.key_plain) ∙ ap is_key_kind (sym map.key_is)
        ∙ map_keyed (schema_of (content_of m)) map.field map.key_type (field_checked (schema_of (content_of m)) (type_of (content_of m)) n map.field (valid_in m) nested_found) map.form in
        subst (λ w. IsSome (key_in w)) (sym r.key_is)
        (found_key r.key_scalar r.key_read keyed
        (entry_key_valid (allows (schema_of (content_of m)) (levels - 1)) (meaning (schema_of (content_of m)) (levels - 1)) (suc (levels - 1)) r.key_scalar (nested_type T) r.key_read (MessageValue (kept c)) body r.read.read (delimited_bytes body bytes rest small front) keyed))

    pub nested_entry_set : (new : DynamicMessage) (w : WireType) (k : Value) (x : MapKey) (c : Content) (body bytes rest : List ℕ) → WellStored (content_of m) → AreBytes bytes → ReadsNestedEntry (levels - 1) key k (content_of inner) c body [] → key_in (value_of k) ≡ Some (key_of x) →
        w ≡ wires.LengthDelimited → DelimitedFront body bytes rest → content_of new ≡ value_set n (MapValue (put (key_of x) (MessageValue c) (pairs_in (value_at n (entries_of (content_of m)))))) (content_of m) → Step levels n w (content_of m) (content_of new) bytes rest
    nested_entry_set new w k x c body bytes rest sound small read is wire front set =
        let r : ReadsNestedEntry (levels - 1) key k (empty (schema_of (content_of m)) T) c body [] = moved k c body read in
        let same : key_of x ≡ r.key_read = key_itself r.key_read (key_of x) (ap key_in (sym r.key_is) ∙ is) in
        subst (λ w. Step levels n w (content_of m) (content_of new) bytes rest) (sym wire)
        (subst (λ l. Step l n wires.LengthDelimited (content_of m) (content_of new) bytes rest) (one_less levels some)
        (step_set (content_of m) (content_of new) (suc (levels - 1)) n wires.LengthDelimited map.field (MapValue (put r.key_read (MessageValue c) (pairs_in (value_at n (entries_of (content_of m)))))) bytes rest nested_found
        (set ∙ ap (λ s. value_set n (MapValue (put s (MessageValue c) (pairs_in (value_at n (entries_of (content_of m)))))) (content_of m)) same)
        (nested_entry_holds (schema_of (content_of m)) (type_of (content_of m)) (entries_of (content_of m)) (subst WellStored (sym (whole (content_of m))) sound) (differ_in m) map.field
        (field_checked (schema_of (content_of m)) (type_of (content_of m)) n map.field (valid_in m) nested_found) map.key_type map.form r.key_scalar T (map.key_is ∙ ap ScalarOf (same_kind map.key_plain r.key_plain)) map.value_is
        (levels - 1) n r.key_read c body bytes rest nested_found small r.read front)))

    -- REFUSALS

    pub nested_entry_fault : (w : WireType) (e : DecodeError) (body rest after : List ℕ) → w ≡ wires.LengthDelimited → DelimitedFront body rest after → RefusesNestedEntry (schema_of (content_of inner)) levels (type_of (content_of inner)) key e body → StandsBehindKey (content_of m) levels n w e rest
    nested_entry_fault w e body rest after wire front refused =
        let r : RefusesNestedEntry (schema_of (content_of m)) levels T key e body = subst (λ d. RefusesNestedEntry (schema_of d) levels (type_of d) key e body) fresh.is refused in
        subst (λ w. StandsBehindKey (content_of m) levels n w e rest) (sym wire)
        (entry_stands (content_of m) n map.key_type nested_at levels e body rest after (subst (λ l. has_level l map.field.value_type.kind ≡ true) (one_less levels some) (nested_level map.field.value_type.kind T (levels - 1) map.value_is)) front
        (r.fault map.key_type map.field.value_type (map.key_is ∙ ap ScalarOf (same_kind map.key_plain r.key_plain)) map.value_is))

  pub nested_body_fault : (levels : ℕ) (w : WireType) (e : DecodeError) (rest : List ℕ) → BodyFault e w rest → StandsBehindKey (content_of m) levels n w e rest
  nested_body_fault levels w e rest fault = body_refused (content_of m) n map.key_type nested_at levels w e rest fault

  -- no level is left for the value
  pub nested_no_level : (levels : ℕ) (w : WireType) (rest : List ℕ) → levels ≡ 0 → w ≡ wires.LengthDelimited → StandsBehindKey (content_of m) levels n w errors.Depth rest
  nested_no_level levels w rest none wire =
      subst (λ w. StandsBehindKey (content_of m) levels n w errors.Depth rest) (sym wire)
      (subst (λ l. StandsBehindKey (content_of m) l n wires.LengthDelimited errors.Depth rest) (sym none) (entry_depth (content_of m) n T map.key_type nested_at map.value_is rest))
