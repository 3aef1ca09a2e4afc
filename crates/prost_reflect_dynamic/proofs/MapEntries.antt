-- Entries of maps of scalars, read one record behind another and put into a map.
use Rattle.std.specs.Prelude.{◌≡◌, ◌≢◌}
use Rattle.prost_reflect_dynamic.proofs.Common.{ℕ, true, false, nat_eq, List, [], Option, Some, None, refl, ap, sym, ◌∙◌, subst, IsSomeAnd, unwrap_or, BTreeMap, insert_entry, DecodeError, WireType, KeyFront, KeyFault, ScalarKind, kind_default, Kind, ScalarOf, MessageOf, GroupOf, Content, ScalarValue, MapValue, put, SkipsValue, ValueFault, ScalarRead, ScalarFault, IsMapped, TableKind, EnumRow, schema_kind, MapKey, Value, out-Value, Value-F, fold_out-Value, map-Value, DynamicMessage, plain_kind, ReadsScalar, RefusesScalar, IsDefaultOf, IsKindDefault, IsAbsentValue, ReadsEntry, RefusesEntry, key_of, value_step, message_step, value_of, content_of, pairs_shown, compare_keys}
use Rattle.prost_reflect_wire.specs.Content as contents
use Rattle.prost_reflect_wire.specs.Meaning as meaning
use Rattle.prost_reflect_laws.proofs.EntryReads.{scalar_entry_nothing, key_read, value_read, other_read, key_refused, value_refused, other_refused, no_key_read}
use Rattle.prost_reflect_dynamic.specs.declared.value.Value as values
use Rattle.prost_reflect_dynamic.specs.Variants.{pairs_in}
use Rattle.prost_reflect_dynamic.proofs.Views.{value_of_map}
use Rattle.prost_reflect_dynamic.proofs.Keys.{map_insert}
use Rattle.prost_reflect_rows.proofs.PlainKinds.{plain_payloads}
use Rattle.prost_reflect_dynamic.proofs.Merging.{read_own, own_fault, same_kind}

-- ONE RECORD MORE

module _ (enums : List EnumRow) (levels : ℕ) (key value_kind : TableKind) where
  pub entry_start : (k v : Value) (bytes : List ℕ) → IsDefaultOf key k → IsAbsentValue enums value_kind v → ReadsEntry enums levels key value_kind k v bytes bytes
  entry_start k v bytes a b = go (plain_kind key) refl a (schema_kind enums value_kind false) refl b
    where
      go : (o : Option ScalarKind) → plain_kind key ≡ o → IsSomeAnd o (λ x. value_of k ≡ ScalarValue (kind_default x)) → (kind : Kind) → schema_kind enums value_kind false ≡ kind → IsKindDefault kind v → ReadsEntry enums levels key value_kind k v bytes bytes
      go (Some x) e a (ScalarOf y) f b = record {
        key_scalar = x;
        value_scalar = y;
        key_read = kind_default x;
        value_read = kind_default y;
        key_plain = e;
        value_named = f;
        key_is = a;
        value_is = b;
        read = scalar_entry_nothing levels x y bytes;
      }
      go (Some x) e a (MessageOf T) f b = absurd b
      go (Some x) e a (GroupOf T) f b = absurd b
      go None e a kind f b = absurd a

  module _ (k v : Value) (bytes mid : List ℕ) (done : ReadsEntry enums levels key value_kind k v bytes mid) where
    pub no_key_there : (e : DecodeError) → mid ≢ [] → KeyFault e mid → RefusesEntry enums levels key value_kind e bytes
    no_key_there e some fault = record {
      key_scalar = done.key_scalar;
      value_scalar = done.value_scalar;
      key_plain = done.key_plain;
      value_named = done.value_named;
      fault = no_key_read levels done.key_scalar done.value_scalar e done.key_read done.value_read bytes mid done.read some fault;
    }

    module _ (n : ℕ) (w : WireType) (after : List ℕ) (front : KeyFront n w mid after) where
      pub key_there : (x : Value) (rest : List ℕ) → nat_eq n 1 ≡ true → ReadsScalar key w x after rest → ReadsEntry enums levels key value_kind x v bytes rest
      key_there x rest is r = record {
        key_scalar = done.key_scalar;
        value_scalar = done.value_scalar;
        key_read = r.scalar;
        value_read = done.value_read;
        key_plain = done.key_plain;
        value_named = done.value_named;
        key_is = r.value;
        value_is = done.value_is;
        read = key_read levels done.key_scalar done.value_scalar done.key_read done.value_read bytes mid done.read n w after front r.scalar rest is
            (subst (λ kind. ScalarRead kind w r.scalar after rest) (same_kind r.plain done.key_plain) r.read);
      }

      pub value_there : (x : Value) (rest : List ℕ) → nat_eq n 2 ≡ true → ReadsScalar value_kind w x after rest → ReadsEntry enums levels key value_kind k x bytes rest
      value_there x rest is r = record {
        key_scalar = done.key_scalar;
        value_scalar = done.value_scalar;
        key_read = done.key_read;
        value_read = r.scalar;
        key_plain = done.key_plain;
        value_named = done.value_named;
        key_is = done.key_is;
        value_is = r.value;
        read = value_read levels done.key_scalar done.value_scalar done.key_read done.value_read bytes mid done.read n w after front r.scalar rest is
            (read_own r.scalar_kind done.value_scalar w r.scalar after rest (plain_payloads enums value_kind r.scalar_kind done.value_scalar r.plain done.value_named) r.read);
      }

      pub other_there : (rest : List ℕ) → nat_eq n 1 ≡ false → nat_eq n 2 ≡ false → SkipsValue n w levels after rest → ReadsEntry enums levels key value_kind k v bytes rest
      other_there rest first second skipped = record {
        key_scalar = done.key_scalar;
        value_scalar = done.value_scalar;
        key_read = done.key_read;
        value_read = done.value_read;
        key_plain = done.key_plain;
        value_named = done.value_named;
        key_is = done.key_is;
        value_is = done.value_is;
        read = other_read levels done.key_scalar done.value_scalar done.key_read done.value_read bytes mid done.read n w after front rest first second skipped;
      }

      pub no_key_value : (e : DecodeError) → nat_eq n 1 ≡ true → RefusesScalar key w e after → RefusesEntry enums levels key value_kind e bytes
      no_key_value e is r = record {
        key_scalar = done.key_scalar;
        value_scalar = done.value_scalar;
        key_plain = done.key_plain;
        value_named = done.value_named;
        fault = key_refused levels done.key_scalar done.value_scalar done.key_read done.value_read bytes mid done.read n w after front e is (subst (λ kind. ScalarFault kind w e after) (same_kind r.plain done.key_plain) r.fault);
      }

      pub no_value : (e : DecodeError) → nat_eq n 2 ≡ true → RefusesScalar value_kind w e after → RefusesEntry enums levels key value_kind e bytes
      no_value e is r = record {
        key_scalar = done.key_scalar;
        value_scalar = done.value_scalar;
        key_plain = done.key_plain;
        value_named = done.value_named;
        fault = value_refused levels done.key_scalar done.value_scalar done.key_read done.value_read bytes mid done.read n w after front e is
            (own_fault r.scalar_kind done.value_scalar w e after (plain_payloads enums value_kind r.scalar_kind done.value_scalar r.plain done.value_named) r.fault);
      }

      pub no_other : (e : DecodeError) → nat_eq n 1 ≡ false → nat_eq n 2 ≡ false → ValueFault e n w levels after → RefusesEntry enums levels key value_kind e bytes
      no_other e first second fault = record {
        key_scalar = done.key_scalar;
        value_scalar = done.value_scalar;
        key_plain = done.key_plain;
        value_named = done.value_named;
        fault = other_refused levels done.key_scalar done.value_scalar done.key_read done.value_read bytes mid done.read n w after front e first second fault;
      }

-- AN ENTRY PUT INTO A MAP

abbrev Layer : Type 0
Layer = Value-F Value DynamicMessage

-- a value that holds these pairs
map_viewed : (v : Value) (es : List (MapKey × Value)) → pairs_in (out-Value v) ≡ Some es → value_of v ≡ MapValue (pairs_shown es)
map_viewed v es h = fold_out-Value contents.Value Content value_step message_step v ∙ go (out-Value v) h
  where
    go : (x : Layer) → pairs_in x ≡ Some es → value_step (map-Value Value DynamicMessage contents.Value Content value_of content_of x) ≡ MapValue (pairs_shown es)
    go (Value-F.Map m) h = ap (λ (o : Option (List (MapKey × Value))). MapValue (pairs_shown (unwrap_or o []))) h
    go (Value-F.Bool b) h = cc
    go (Value-F.I32 z) h = cc
    go (Value-F.I64 z) h = cc
    go (Value-F.U32 n) h = cc
    go (Value-F.U64 n) h = cc
    go (Value-F.F32 n) h = cc
    go (Value-F.F64 n) h = cc
    go (Value-F.String text) h = cc
    go (Value-F.Bytes bytes) h = cc
    go (Value-F.EnumNumber z) h = cc
    go (Value-F.Message m) h = cc
    go (Value-F.List vs) h = cc

-- what is lent of a map is that map, or an empty one
lent_pairs : (o : Option contents.Value) (v default : Value) (es : List (MapKey × Value)) → IsMapped o → value_of default ≡ MapValue contents.NoPairs → value_of v ≡ unwrap_or o (value_of default) → value_of v ≡ MapValue (pairs_shown es) → pairs_shown es ≡ meaning.pairs_in o
lent_pairs None v default es m d h s = let same : MapValue (pairs_shown es) ≡ MapValue contents.NoPairs = sym s ∙ h ∙ d in cc
lent_pairs (Some (MapValue ps)) v default es m d h s = let same : MapValue (pairs_shown es) ≡ MapValue ps = sym s ∙ h in cc
lent_pairs (Some (ScalarValue w)) v default es m d h s = absurd m
lent_pairs (Some (contents.MessageValue c)) v default es m d h s = absurd m
lent_pairs (Some (contents.ListValue vs)) v default es m d h s = absurd m

-- the map after an entry was put in
pub map_after : (o : Option contents.Value) (v default : Value) (es : List (MapKey × Value)) (new : BTreeMap MapKey Value) (k : MapKey) (x : Value) → IsMapped o → value_of default ≡ MapValue contents.NoPairs → value_of v ≡ unwrap_or o (value_of default) →
    pairs_in (out-Value v) ≡ Some es → new.entries ≡ insert_entry compare_keys es k x → value_of (values.Map new) ≡ MapValue (put (key_of k) (value_of x) (meaning.pairs_in o))
map_after o v default es new k x m d h is inserted =
    value_of_map new ∙ ap (λ es. MapValue (pairs_shown es)) inserted
    ∙ ap MapValue (map_insert es k x ∙ ap (put (key_of k) (value_of x)) (lent_pairs o v default es m d h (map_viewed v es is)))

-- an empty map
pub empty_map : (new : BTreeMap MapKey Value) → new.entries ≡ [] → value_of (values.Map new) ≡ MapValue contents.NoPairs
empty_map new h = value_of_map new ∙ ap (λ es. MapValue (pairs_shown es)) h
