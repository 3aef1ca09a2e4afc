-- Records of lists of enum numbers read into a message.
use Rattle.std.specs.Prelude.{◌≡◌, ◌^◌, ◌∷◌, ◌++◌}
use Rattle.prost_reflect_dynamic.proofs.Common.{ℕ, ℤ, pos, Bool, true, false, cond, not, List, [], map, filter, flat_map, Option, Some, None, refl, sym, ap, ◌∙◌, subst, unwrap_or, append_assoc, append-nil, true≢false, nat_lt, list_all, lt-ltb, and_parts, and_from, WireType, DecodeError, Var, Payload, Flat, record_at, payload_valid, VarintFront, DelimitedFront, PlainFault, ScalarKind, EnumNumbers, Enum, Open, EnumNumber, low_i32, elem, is_undeclared, ScalarOf, Repeated, Field, known, field_of, numbers_differ, Content, ContentOf, Values, ScalarValue, ListValue, NoValues, values_from, ◌and_then◌, schema_of, type_of, entries_of, value_at, scalar_values, values_in, unpacked, WellStored, with_field_value, OfType, ElementFault, same_wire, Step, ElementsJoined, NumbersJoined, BodyJoined, FieldFault, ScalarFault, StandsBehindKey, declared_values, field_number, varint_plain, IsListed, and_nothing, TableKind, EnumRow, PooledType, DynamicMessage, value_set, unknown_added, IsList, IsListOrNone, NumberList, BodyTaken, JoinsNumbers, number_element, is_stray_varint, strays_in, declared_in, varints_added, numbers_taken, pool_rows, is_stray_number, content_of, message_type_of}
use Rattle.prost_reflect_wire.specs.declared.key.WireType.TheVariants as wires
use Rattle.prost_reflect_wire.specs.Content as contents
use Rattle.prost_reflect_proto.proofs.FieldsFound.{field_stands}
use Rattle.prost_reflect_laws.proofs.PackedElements.{packed_refused, delimited_refused, single_refused}
use Rattle.prost_reflect_laws.proofs.NumberSteps.{declared_joined, stray_joined, packed_step, number_step}
use Rattle.prost_reflect_dynamic.proofs.ListMerging.{listed_at, values_or}
use Rattle.prost_reflect_dynamic.proofs.Merging.{known_in, differ_in, own_fault}
use Rattle.prost_reflect_rows.proofs.PlainKinds.{stray_payload, enum_payloads}

-- whether a number is a stray, as the tables and the definitions say it
stray_is : (d : PooledType) (n : ℕ) (kind : TableKind) (value : ℕ) (list : NumberList d n kind) → is_undeclared (Enum list.first list.numbers) (Flat (Var value)) ≡ is_stray_number (pool_rows d.pool).enums kind (ScalarValue (EnumNumber (low_i32 value)))
stray_is d n kind value list = stray_payload (pool_rows d.pool).enums kind (Enum list.first list.numbers) (Var value) (EnumNumber (low_i32 value)) list.named refl

-- a packed body of numbers of any enum
unpacked_by : (a b : ℤ) (ns ms : EnumNumbers) (body : List ℕ) → unpacked (Enum b ms) body ≡ unpacked (Enum a ns) body
unfolding unpacked
unpacked_by a b ns ms body = refl

-- VARINTS

-- payloads of varints
abbrev varint_payloads : List ℕ → List Payload
varint_payloads vs = map Flat (map Var vs)

module _ (d : PooledType) (n : ℕ) (kind : TableKind) (list : NumberList d n kind) where
  abbrev number_kind : ScalarKind
  number_kind = Enum list.first list.numbers

  abbrev enums : List EnumRow
  enums = (pool_rows d.pool).enums

  -- those that are declared, with their values
  declared_is : (vs : List ℕ) → flat_map (λ q. scalar_values (elem number_kind q)) (filter (λ q. not (is_undeclared number_kind q)) (varint_payloads vs)) ≡ map number_element (declared_in enums kind vs)
  declared_is [] = refl
  declared_is (v ∷ vs) = go (is_undeclared number_kind (Flat (Var v))) (is_stray_varint enums kind v) (stray_is d n kind v list) (declared_is vs)
    where
      go : (a b : Bool) → a ≡ b → flat_map (λ q. scalar_values (elem number_kind q)) (filter (λ q. not (is_undeclared number_kind q)) (varint_payloads vs)) ≡ map number_element (declared_in enums kind vs) →
          flat_map (λ q. scalar_values (elem number_kind q)) (cond (not a) (Flat (Var v) ∷ filter (λ q. not (is_undeclared number_kind q)) (varint_payloads vs)) (filter (λ q. not (is_undeclared number_kind q)) (varint_payloads vs)))
          ≡ map number_element (cond (not b) (v ∷ declared_in enums kind vs) (declared_in enums kind vs))
      go true true e h = h
      go false false e h = ap (λ l. number_element v ∷ l) h
      go true false e h = absurd (true≢false e)
      go false true e h = absurd (true≢false (sym e))

  -- and the strays
  strays_are : (vs : List ℕ) → varint_payloads (strays_in enums kind vs) ≡ filter (is_undeclared number_kind) (varint_payloads vs)
  strays_are [] = refl
  strays_are (v ∷ vs) = go (is_undeclared number_kind (Flat (Var v))) (is_stray_varint enums kind v) (stray_is d n kind v list) (strays_are vs)
    where
      go : (a b : Bool) → a ≡ b → varint_payloads (strays_in enums kind vs) ≡ filter (is_undeclared number_kind) (varint_payloads vs) →
          varint_payloads (cond b (v ∷ strays_in enums kind vs) (strays_in enums kind vs)) ≡ cond a (Flat (Var v) ∷ filter (is_undeclared number_kind) (varint_payloads vs)) (filter (is_undeclared number_kind) (varint_payloads vs))
      go true true e h = ap (λ l. Flat (Var v) ∷ l) h
      go false false e h = h
      go true false e h = absurd (true≢false e)
      go false true e h = absurd (true≢false (sym e))

  strays_undeclared : (vs : List ℕ) → list_all (is_stray_varint enums kind) vs ≡ true → list_all (λ v. is_undeclared number_kind (Flat (Var v))) vs ≡ true
  strays_undeclared [] h = refl
  strays_undeclared (v ∷ vs) h =
      let (one, more) = and_parts (is_stray_varint enums kind v) (list_all (is_stray_varint enums kind) vs) h in
      and_from _ _ (stray_is d n kind v list ∙ one) (strays_undeclared vs more)

valid_payloads : (vs : List ℕ) → list_all (λ v. nat_lt v (2 ^ 64)) vs ≡ true → list_all payload_valid (varint_payloads vs) ≡ true
valid_payloads [] h = refl
valid_payloads (v ∷ vs) h = let (one, more) = and_parts (nat_lt v (2 ^ 64)) (list_all (λ v. nat_lt v (2 ^ 64)) vs) h in and_from _ _ one (valid_payloads vs more)

-- what passes a filter passes its test, and each test that all pass
filter_passes : {X : Type 0} (p : X → Bool) (xs : List X) → list_all p (filter p xs) ≡ true
filter_passes p [] = refl
filter_passes p (x ∷ xs) = go (p x) refl (filter_passes p xs)
  where
    go : (b : Bool) → p x ≡ b → list_all p (filter p xs) ≡ true → list_all p (cond b (x ∷ filter p xs) (filter p xs)) ≡ true
    go true e h = and_from _ _ e h
    go false e h = h

filter_keeps : {X : Type 0} (q p : X → Bool) (xs : List X) → list_all q xs ≡ true → list_all q (filter p xs) ≡ true
filter_keeps q p [] h = refl
filter_keeps q p (x ∷ xs) h = let (one, more) = and_parts (q x) (list_all q xs) h in go (p x) one (filter_keeps q p xs more)
  where
    go : (b : Bool) → q x ≡ true → list_all q (filter p xs) ≡ true → list_all q (cond b (x ∷ filter p xs) (filter p xs)) ≡ true
    go true one h = and_from _ _ one h
    go false one h = h

-- CONTENTS

pub varints_behind : (n : ℕ) (vs ws : List ℕ) (c : Content) → varints_added n (vs ++ ws) c ≡ varints_added n ws (varints_added n vs c)
varints_behind n [] ws c = refl
varints_behind n (v ∷ vs) ws c = varints_behind n vs ws (unknown_added (record_at n (Flat (Var v))) c)

or_none : (o : Option contents.Value) → IsListed o → IsListOrNone o
or_none None h = tt
or_none (Some (ListValue vs)) h = tt
or_none (Some v) h = absurd h

list_or : (o : Option contents.Value) → IsListed o → unwrap_or o (ListValue NoValues) ≡ ListValue (values_in o)
list_or None h = refl
list_or (Some (ListValue vs)) h = refl
list_or (Some v) h = absurd h

module _ (n : ℕ) (f : Field) (packed : Bool) (kind : ScalarKind) (form : f.form ≡ Repeated packed) (is : f.value_type.kind ≡ ScalarOf kind) (alone : f.oneof ≡ None) where
  -- the value of the field was set
  set_to : (c : Content) (v : contents.Value) → field_of (known (schema_of c) (type_of c)) n ≡ Some f → value_set n v c ≡ ContentOf (schema_of c) (type_of c) (with_field_value (known (schema_of c) (type_of c)) f (Some v) (entries_of c))
  set_to (ContentOf schema T es) v found = ap (λ (o : Option Field). ContentOf schema T (elim o [ None ↦ es | Some f ↦ with_field_value (known schema T) f (Some v) es ])) found

  -- the declared ones were put behind the elements of the list
  declared_put : (c : Content) (ps : List Payload) → WellStored c → numbers_differ (known (schema_of c) (type_of c)) ≡ true → field_of (known (schema_of c) (type_of c)) n ≡ Some f → list_all payload_valid ps ≡ true →
      ElementsJoined f (declared_values kind ps) [] c (value_set n (ListValue (values_in (value_at n (entries_of c)) and_then declared_values kind ps)) c)
  declared_put (ContentOf schema T es) ps sound differ found valid =
      let number : f.number ≡ n = field_number (known schema T) n f found in
      subst (ElementsJoined f (declared_values kind ps) [] (ContentOf schema T es))
      (sym (ap (λ m. value_set n (ListValue (values_in (value_at m es) and_then declared_values kind ps)) (ContentOf schema T es)) (sym number)
      ∙ set_to (ContentOf schema T es) (ListValue (values_in (value_at f.number es) and_then declared_values kind ps)) found))
      (declared_joined schema T es f packed kind differ (ap (field_of (known schema T)) number ∙ found) form is ps alone valid sound)

  -- strays were put behind the unknown records
  strays_put : (old c : Content) (vs : Values) (strays : List Payload) (varints : List ℕ) → numbers_differ (known (schema_of c) (type_of c)) ≡ true → field_of (known (schema_of c) (type_of c)) n ≡ Some f →
      list_all (λ v. nat_lt v (2 ^ 64)) varints ≡ true → list_all (λ v. is_undeclared kind (Flat (Var v))) varints ≡ true → ElementsJoined f vs strays old c →
      ElementsJoined f vs (strays ++ varint_payloads varints) old (varints_added n varints c)
  strays_put old c vs strays [] differ found below undeclared j = subst (λ ps. ElementsJoined f vs ps old c) (sym (append-nil strays)) j
  strays_put old (ContentOf schema T es) vs strays (v ∷ varints) differ found below undeclared j =
      let number : f.number ≡ n = field_number (known schema T) n f found in
      let (small, less) = and_parts (nat_lt v (2 ^ 64)) (list_all (λ v. nat_lt v (2 ^ 64)) varints) below in
      let (one, more) = and_parts (is_undeclared kind (Flat (Var v))) (list_all (λ v. is_undeclared kind (Flat (Var v))) varints) undeclared in
      subst (λ ps. ElementsJoined f vs ps old (varints_added n (v ∷ varints) (ContentOf schema T es))) (append_assoc strays (Flat (Var v) ∷ []) (varint_payloads varints))
      (strays_put old (unknown_added (record_at n (Flat (Var v))) (ContentOf schema T es)) vs (strays ++ Flat (Var v) ∷ []) varints differ found less more
      (subst (ElementsJoined f vs (strays ++ Flat (Var v) ∷ []) old) (ap (λ m. unknown_added (record_at m (Flat (Var v))) (ContentOf schema T es)) number)
      (stray_joined schema T es f packed kind differ (ap (field_of (known schema T)) number ∙ found) form is old vs strays (Flat (Var v)) j small one)))

  -- both
  both_put : (c : Content) (ps : List Payload) (varints : List ℕ) → WellStored c → numbers_differ (known (schema_of c) (type_of c)) ≡ true → field_of (known (schema_of c) (type_of c)) n ≡ Some f → list_all payload_valid ps ≡ true →
      list_all (λ v. nat_lt v (2 ^ 64)) varints ≡ true → list_all (λ v. is_undeclared kind (Flat (Var v))) varints ≡ true →
      ElementsJoined f (declared_values kind ps) (varint_payloads varints) c (varints_added n varints (value_set n (ListValue (values_in (value_at n (entries_of c)) and_then declared_values kind ps)) c))
  both_put (ContentOf schema T es) ps varints sound differ found valid below undeclared =
      strays_put (ContentOf schema T es) (value_set n (ListValue (values_in (value_at n es) and_then declared_values kind ps)) (ContentOf schema T es)) (declared_values kind ps) [] varints differ found below undeclared
      (declared_put (ContentOf schema T es) ps sound differ found valid)

-- MESSAGES

module _ (m : DynamicMessage) (n : ℕ) (kind : TableKind) (list : NumberList (message_type_of m) n kind) where
  found_in : field_of (known (schema_of (content_of m)) (type_of (content_of m))) n ≡ Some list.field
  found_in = ap (λ fields. field_of fields n) (known_in m) ∙ list.found

  listed_there : WellStored (content_of m) → IsListed (value_at n (entries_of (content_of m)))
  listed_there sound = listed_at (content_of m) n list.field list.packed sound found_in list.form

  -- at the number stands a list, or nothing yet
  pub list_there : WellStored (content_of m) → IsListOrNone (value_at n (entries_of (content_of m)))
  list_there sound = or_none (value_at n (entries_of (content_of m))) (listed_there sound)

  -- what is lent is a list
  pub lent_numbers : (v default : contents.Value) → WellStored (content_of m) → default ≡ ListValue NoValues → v ≡ unwrap_or (value_at n (entries_of (content_of m))) default → IsList v
  lent_numbers v default sound d e = subst IsList (sym (e ∙ ap (unwrap_or (value_at n (entries_of (content_of m)))) d ∙ list_or (value_at n (entries_of (content_of m))) (listed_there sound))) tt

  -- the varints were taken
  numbers_joined : (varints : List ℕ) → WellStored (content_of m) → list_all (λ v. nat_lt v (2 ^ 64)) varints ≡ true →
      NumbersJoined list.field (Enum list.first list.numbers) (varint_payloads varints) (content_of m) (numbers_taken (pool_rows (message_type_of m).pool).enums n kind varints (content_of m))
  numbers_joined varints sound below =
      let d = message_type_of m in
      let rows = (pool_rows d.pool).enums in
      subst (λ ss. ElementsJoined list.field (declared_values (Enum list.first list.numbers) (varint_payloads varints)) ss (content_of m) (numbers_taken rows n kind varints (content_of m))) (strays_are d n kind list varints)
      (subst (λ vs. ElementsJoined list.field (declared_values (Enum list.first list.numbers) (varint_payloads varints)) (varint_payloads (strays_in rows kind varints)) (content_of m)
      (varints_added n (strays_in rows kind varints) (value_set n (ListValue (values_in (value_at n (entries_of (content_of m))) and_then values_from vs)) (content_of m)))) (declared_is d n kind list varints)
      (both_put n list.field list.packed (Enum list.first list.numbers) list.form list.kind_is list.alone (content_of m) (varint_payloads varints) (strays_in rows kind varints) sound (differ_in m) found_in (valid_payloads varints below)
      (filter_keeps (λ v. nat_lt v (2 ^ 64)) (is_stray_varint rows kind) varints below) (strays_undeclared d n kind list (strays_in rows kind varints) (filter_passes (is_stray_varint rows kind) varints))))

  -- a record of one number: a stray
  pub stray_taken : (varint : ℕ) (mid new : Content) → WellStored (content_of m) → is_stray_varint (pool_rows (message_type_of m).pool).enums kind varint ≡ true → mid ≡ value_set n (unwrap_or (value_at n (entries_of (content_of m))) (ListValue NoValues)) (content_of m) →
      new ≡ varints_added n (varint ∷ []) mid → new ≡ numbers_taken (pool_rows (message_type_of m).pool).enums n kind (varint ∷ []) (content_of m)
  stray_taken varint mid new sound stray list content =
      let o = value_at n (entries_of (content_of m)) in
      content ∙ ap (varints_added n (varint ∷ [])) (list ∙ ap (λ v. value_set n v (content_of m)) (list_or o (listed_there sound) ∙ ap ListValue (sym (and_nothing (values_in o)))))
      ∙ ap (λ b. varints_added n (cond b (varint ∷ []) []) (value_set n (ListValue (values_in o and_then values_from (map number_element (cond (not b) (varint ∷ []) [])))) (content_of m))) (sym stray)

  -- or any other
  pub number_taken_step : (new : DynamicMessage) (levels value : ℕ) (w : WireType) (bytes rest : List ℕ) → WellStored (content_of m) → w ≡ wires.Varint → VarintFront value bytes rest →
      content_of new ≡ numbers_taken (pool_rows (message_type_of m).pool).enums n kind (value ∷ []) (content_of m) → Step levels n w (content_of m) (content_of new) bytes rest
  number_taken_step new levels value w bytes rest sound wire front content =
      subst (λ w. Step levels n w (content_of m) (content_of new) bytes rest) (sym wire)
      (number_read (content_of m) (content_of new) found_in sound (differ_in m)
      (subst (NumbersJoined list.field (Enum list.first list.numbers) (Flat (Var value) ∷ []) (content_of m)) (sym content) (numbers_joined (value ∷ []) sound (and_from _ _ (lt-ltb value (2 ^ 64) front.varint.below) refl))))
    where
      number_read : (c d : Content) → field_of (known (schema_of c) (type_of c)) n ≡ Some list.field → WellStored c → numbers_differ (known (schema_of c) (type_of c)) ≡ true → NumbersJoined list.field (Enum list.first list.numbers) (Flat (Var value) ∷ []) c d →
          Step levels n wires.Varint c d bytes rest
      number_read (ContentOf schema T es) d found sound differ joined =
          let number : list.field.number ≡ n = field_number (known schema T) n list.field found in
          subst (λ i. Step levels i wires.Varint (ContentOf schema T es) d bytes rest) number
          (number_step schema T es sound levels list.field list.packed list.first list.numbers differ (ap (field_of (known schema T)) number ∙ found) list.form list.kind_is list.alone d value bytes rest joined (varint_plain value bytes rest front))

  -- a packed record
  pub body_taken_step : (new : DynamicMessage) (levels : ℕ) (w : WireType) (body bytes rest : List ℕ) → WellStored (content_of m) → w ≡ wires.LengthDelimited → DelimitedFront body bytes rest →
      BodyTaken (pool_rows (message_type_of m).pool).enums n kind (content_of m) (content_of new) body → Step levels n w (content_of m) (content_of new) bytes rest
  body_taken_step new levels w body bytes rest sound wire front taken =
      subst (λ w. Step levels n w (content_of m) (content_of new) bytes rest) (sym wire)
      (body_read (content_of m) (content_of new) found_in sound (differ_in m) (record {
        plains = map Var taken.varints;
        whole = unpacked_by (pos 0) list.first Open list.numbers body ∙ taken.read.whole;
        joined = subst (NumbersJoined list.field (Enum list.first list.numbers) (varint_payloads taken.varints) (content_of m)) (sym taken.taken) (numbers_joined taken.varints sound taken.read.below);
      }))
    where
      body_read : (c d : Content) → field_of (known (schema_of c) (type_of c)) n ≡ Some list.field → WellStored c → numbers_differ (known (schema_of c) (type_of c)) ≡ true → BodyJoined list.field (Enum list.first list.numbers) c d body →
          Step levels n wires.LengthDelimited c d bytes rest
      body_read (ContentOf schema T es) d found sound differ joined =
          let number : list.field.number ≡ n = field_number (known schema T) n list.field found in
          subst (λ i. Step levels i wires.LengthDelimited (ContentOf schema T es) d bytes rest) number
          (packed_step schema T es sound levels list.field list.packed list.first list.numbers differ (ap (field_of (known schema T)) number ∙ found) list.form list.kind_is list.alone d body bytes rest joined front)

  -- a packed record, whose numbers were put into the list that was lent, and then its strays
  module _ (old v default : contents.Value) (strays body : List ℕ) (mid : Content) (sound : WellStored (content_of m)) (none : default ≡ ListValue NoValues) (lent : old ≡ unwrap_or (value_at n (entries_of (content_of m))) default)
      (j : JoinsNumbers (pool_rows (message_type_of m).pool).enums kind old v strays body) (list_set : mid ≡ value_set n v (content_of m)) where
    set_is : mid ≡ value_set n (ListValue (values_in (value_at n (entries_of (content_of m))) and_then values_from (map number_element (declared_in (pool_rows (message_type_of m).pool).enums kind j.varints)))) (content_of m)
    set_is =
        let o = value_at n (entries_of (content_of m)) in
        list_set ∙ ap (λ v. value_set n v (content_of m)) (j.joined
        ∙ ap (λ vs. ListValue (vs and_then values_from (map number_element (declared_in (pool_rows (message_type_of m).pool).enums kind j.varints)))) (ap (λ w. values_in (Some w)) (lent ∙ ap (unwrap_or o) none) ∙ values_or o))

    pub body_put : (new : Content) → new ≡ varints_added n strays mid → BodyTaken (pool_rows (message_type_of m).pool).enums n kind (content_of m) new body
    body_put new content = record {
      varints = j.varints;
      read = j.read;
      taken = content ∙ ap (λ ss. varints_added n ss mid) j.left ∙ ap (varints_added n (strays_in (pool_rows (message_type_of m).pool).enums kind j.varints)) set_is;
    }

    pub put_sound : WellStored mid
    put_sound =
        let put = declared_put n list.field list.packed (Enum list.first list.numbers) list.form list.kind_is list.alone (content_of m) (varint_payloads j.varints) sound (differ_in m) found_in (valid_payloads j.varints j.read.below) in
        subst WellStored (ap (λ vs. value_set n (ListValue (values_in (value_at n (entries_of (content_of m))) and_then values_from vs)) (content_of m)) (declared_is (message_type_of m) n kind list j.varints) ∙ sym set_is) put.holds.sound

    pub all_strays : list_all (is_stray_varint (pool_rows (message_type_of m).pool).enums kind) strays ≡ true
    all_strays = ap (list_all (is_stray_varint (pool_rows (message_type_of m).pool).enums kind)) j.left ∙ filter_passes (is_stray_varint (pool_rows (message_type_of m).pool).enums kind) j.varints

  -- what is refused
  list_refused : (levels : ℕ) (w : WireType) (e : DecodeError) (rest : List ℕ) → FieldFault e list.field w rest → StandsBehindKey (content_of m) levels n w e rest
  list_refused levels w e rest fault = λ bytes opened key closes.
      field_stands (schema_of (content_of m)) e (record { bytes = bytes; inside = OfType (type_of (content_of m)); levels = levels; open_group = opened }) n w rest list.field key found_in closes fault

  pub length_refused : (levels : ℕ) (w : WireType) (e : DecodeError) (bytes : List ℕ) → w ≡ wires.LengthDelimited → PlainFault e wires.LengthDelimited bytes → StandsBehindKey (content_of m) levels n w e bytes
  length_refused levels w e bytes wire fault = list_refused levels w e bytes (delimited_refused list.field w e bytes wire fault)

  pub body_refused : (levels : ℕ) (w : WireType) (e : DecodeError) (body bytes rest : List ℕ) → w ≡ wires.LengthDelimited → DelimitedFront body bytes rest → ElementFault wires.Varint e body → StandsBehindKey (content_of m) levels n w e bytes
  body_refused levels w e body bytes rest wire front fault = list_refused levels w e bytes (packed_refused (Enum list.first list.numbers) list.field list.packed w e body bytes rest list.form list.kind_is refl wire front fault)

  pub number_refused : (levels : ℕ) (w : WireType) (e : DecodeError) (bytes : List ℕ) → same_wire w wires.LengthDelimited ≡ false → ScalarFault (Enum (pos 0) Open) w e bytes → StandsBehindKey (content_of m) levels n w e bytes
  number_refused levels w e bytes apart fault = list_refused levels w e bytes (single_refused (Enum list.first list.numbers) list.field list.packed w e bytes list.form list.kind_is apart (own_fault (Enum (pos 0) Open) (Enum list.first list.numbers) w e bytes (enum_payloads list.first list.numbers) fault))
