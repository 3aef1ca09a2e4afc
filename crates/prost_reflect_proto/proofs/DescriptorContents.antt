-- A descriptor record is accepted and means its fields, where each of these is what was found at its number.
use Rattle.std.specs.Prelude.{◌≡◌, ◌+◌, ◌||◌, ◌∷◌, ◌++◌}
use Rattle.prost_reflect_proto.proofs.Common.{ℕ, zero, suc, Bool, true, false, cond, List, [], map, flat_map, length, Option, Some, None, option_map, nat_eq, nat_le, refl, ap, ap₂, sym, subst, ◌∙◌, arith, append-nil, lit≤, eqb-true, eq-eqb, and_from, or_parts, list_all, is_some, is_utf8, none-some, same_Some, ◌>>=◌, guard, Var, Len, Payload, Flat, Record, Records, items, body_of, payload_levels, Spells, RecordsFront, Text, Int32, Field, known, Content, ContentOf, Value, Slot, then_unknowns, then_value, store, table, payloads, value_records, AllowsInside, allows, body, field_allowed, record_allowed, unpacked, passes, field_value, record_numbers, meaning_at, meaning, survive, value_meaning, rows, type_place, form_of, value_type_of, record_schema, gathered, entries_gathered, value_gathered, record_decoded, entries_from, record_content, Found, FoundText, FoundRecord, kind_at, found_in, found_in_record, found_in_records, at_number, record_in, nested_decoded, all_decoded, records_at, number_in_plain, Fields, RecordType, FieldKind, bind_ok, guard_ok, meaning_covers, below, meaning_below}
use Rattle.prost_reflect_types.specs.declared.table.RecordType.TheVariants as types
use Rattle.prost_reflect_types.specs.declared.table.FieldKind.TheVariants as kinds
use Rattle.prost_reflect_wire.proofs.Numbers.{Ascending, is_in, Covers, eqb-sym, numbers_ascending, table_covers}
use Rattle.prost_reflect_laws.proofs.Allowed.{inside, allows_inside}
use Rattle.prost_reflect_laws.proofs.Places.{passes_body}
use Rattle.prost_reflect_wire.proofs.Reading.{spelled_read}
use Rattle.prost_reflect_wire.proofs.Bodies.{items_body}
use Rattle.prost_reflect_proto.proofs.DescriptorRows.{known_field, unknown_field}
use Rattle.prost_reflect_types.proofs.DecodedRecords.{decoded_parts}
use Rattle.prost_reflect_proto.proofs.DescriptorKinds.{picked}
use Rattle.prost_reflect_proto.proofs.DescriptorNumbers.{SlotOf, slot_means, at_under, FirstRecord, first_record, known_found, unknown_found}

-- THE ROWS

rows_ascending : (t : RecordType) → Ascending 0 (map (λ row. row.0) (rows t))
rows_ascending types.FileSet = (lit≤ tt, tt)
rows_ascending types.File = (lit≤ tt, (lit≤ tt, (lit≤ tt, (lit≤ tt, (lit≤ tt, (lit≤ tt, (lit≤ tt, (lit≤ tt, (lit≤ tt, (lit≤ tt, (lit≤ tt, (lit≤ tt, tt))))))))))))
rows_ascending types.Message = (lit≤ tt, (lit≤ tt, (lit≤ tt, (lit≤ tt, (lit≤ tt, (lit≤ tt, (lit≤ tt, (lit≤ tt, (lit≤ tt, (lit≤ tt, tt))))))))))
rows_ascending types.ExtensionRange = (lit≤ tt, (lit≤ tt, (lit≤ tt, tt)))
rows_ascending types.ReservedRange = (lit≤ tt, (lit≤ tt, tt))
rows_ascending types.Field = (lit≤ tt, (lit≤ tt, (lit≤ tt, (lit≤ tt, (lit≤ tt, (lit≤ tt, (lit≤ tt, (lit≤ tt, (lit≤ tt, (lit≤ tt, (lit≤ tt, tt)))))))))))
rows_ascending types.Oneof = (lit≤ tt, (lit≤ tt, tt))
rows_ascending types.Enum = (lit≤ tt, (lit≤ tt, (lit≤ tt, (lit≤ tt, (lit≤ tt, tt)))))
rows_ascending types.EnumReservedRange = (lit≤ tt, (lit≤ tt, tt))
rows_ascending types.EnumValue = (lit≤ tt, (lit≤ tt, (lit≤ tt, tt)))
rows_ascending types.Service = (lit≤ tt, (lit≤ tt, (lit≤ tt, tt)))
rows_ascending types.Method = (lit≤ tt, (lit≤ tt, (lit≤ tt, (lit≤ tt, (lit≤ tt, (lit≤ tt, tt))))))

-- each row is the one of its number
abbrev RowsFound : List (ℕ × FieldKind) → List (ℕ × FieldKind) → Type 0
RowsFound all [] = Unit {0}
RowsFound all (row ∷ rs) = (kind_at all row.0 ≡ Some row.1) × RowsFound all rs

rows_found : (t : RecordType) → RowsFound (rows t) (rows t)
rows_found types.FileSet = (refl, tt)
rows_found types.File = (refl, (refl, (refl, (refl, (refl, (refl, (refl, (refl, (refl, (refl, (refl, (refl, tt))))))))))))
rows_found types.Message = (refl, (refl, (refl, (refl, (refl, (refl, (refl, (refl, (refl, (refl, tt))))))))))
rows_found types.ExtensionRange = (refl, (refl, (refl, tt)))
rows_found types.ReservedRange = (refl, (refl, tt))
rows_found types.Field = (refl, (refl, (refl, (refl, (refl, (refl, (refl, (refl, (refl, (refl, (refl, tt)))))))))))
rows_found types.Oneof = (refl, (refl, tt))
rows_found types.Enum = (refl, (refl, (refl, (refl, (refl, tt)))))
rows_found types.EnumReservedRange = (refl, (refl, tt))
rows_found types.EnumValue = (refl, (refl, (refl, tt)))
rows_found types.Service = (refl, (refl, (refl, tt)))
rows_found types.Method = (refl, (refl, (refl, (refl, (refl, (refl, tt))))))

no_row : (rs : List (ℕ × FieldKind)) (n : ℕ) → is_in n (map (λ row. row.0) rs) ≡ false → kind_at rs n ≡ None
no_row [] n h = refl
no_row (row ∷ rs) n h =
    let (other, rest) = or_parts (nat_eq n row.0) (is_in n (map (λ row. row.0) rs)) h in
    ap (λ b. cond b (Some row.1) (kind_at rs n)) (eqb-sym row.0 n ∙ other) ∙ no_row rs n rest

-- FIELDS OF A RECORD

-- The fields in the table's order, each of them what was found at its number.
abbrev pub SlotsOf : ℕ → List (ℕ × Found) → List (ℕ × FieldKind) → List (ℕ × Option Value) → Type 0
SlotsOf levels fields [] [] = Unit {0}
SlotsOf levels fields (row ∷ rs) (slot ∷ slots) = (row.0 ≡ slot.0) × (SlotOf levels row.1 row.0 fields slot.1 × SlotsOf levels fields rs slots)
SlotsOf levels fields rs slots = ⊥

slot_found : (levels : ℕ) (fields : List (ℕ × Found)) (n : ℕ) (kind : FieldKind) (rs : List (ℕ × FieldKind)) (slots : List (ℕ × Option Value)) → SlotsOf levels fields rs slots → kind_at rs n ≡ Some kind → (v : Option Value) × SlotOf levels kind n fields v
slot_found levels fields n kind [] slots s h = absurd (none-some _ h)
slot_found levels fields n kind (row ∷ rs) [] s h = absurd s
slot_found levels fields n kind (row ∷ rs) (slot ∷ slots) (e, (s, more)) h = go (nat_eq row.0 n) refl h (slot_found levels fields n kind rs slots more)
  where
    go : (b : Bool) → nat_eq row.0 n ≡ b → cond b (Some row.1) (kind_at rs n) ≡ Some kind → (kind_at rs n ≡ Some kind → (v : Option Value) × SlotOf levels kind n fields v) → (v : Option Value) × SlotOf levels kind n fields v
    go true same h more = (slot.1, subst (λ k. SlotOf levels k n fields slot.1) (same_Some _ _ h) (subst (λ (m : ℕ). SlotOf levels row.1 m fields slot.1) (eqb-true row.0 n same) s))
    go false other h more = more h

-- WHAT IS ALLOWED

abbrev BodiesAllowed : AllowsInside → RecordType → List (List ℕ) → Type 0
BodiesAllowed a t [] = Unit {0}
BodiesAllowed a t (b ∷ bodies) = (passes (body (Flat (Len b))) (a (type_place t)) ≡ true) × BodiesAllowed a t bodies

bodies_front : (a : AllowsInside) (t : RecordType) (xs ys : List (List ℕ)) → BodiesAllowed a t (xs ++ ys) → BodiesAllowed a t xs
bodies_front a t [] ys h = tt
bodies_front a t (x ∷ xs) ys (one, more) = (one, bodies_front a t xs ys more)

bodies_behind : (a : AllowsInside) (t : RecordType) (xs ys : List (List ℕ)) → BodiesAllowed a t (xs ++ ys) → BodiesAllowed a t ys
bodies_behind a t [] ys h = h
bodies_behind a t (x ∷ xs) ys (one, more) = bodies_behind a t xs ys more

decoded_allowed : (levels : ℕ) (t : RecordType) (bytes : List ℕ) (c : Content) → nested_decoded levels t bytes ≡ Some c → passes (body (Flat (Len bytes))) (inside record_schema levels (type_place t)) ≡ true
unfolding inside
decoded_allowed zero t bytes c h = absurd (none-some _ h)
decoded_allowed (suc k) t bytes c h =
    let d = decoded_parts k t bytes c h in
    passes_body bytes d.records (allows record_schema k (type_place t)) d.read d.allowed

bodies_decoded : (levels : ℕ) (t : RecordType) (bodies : List (List ℕ)) (cs : List Content) → all_decoded levels t bodies ≡ Some cs → BodiesAllowed (inside record_schema levels) t bodies
bodies_decoded levels t [] cs h = tt
bodies_decoded levels t (b ∷ bodies) cs h =
    let (c, one, rest) = bind_ok (λ c. all_decoded levels t bodies >>= λ cs. Some (c ∷ cs)) (nested_decoded levels t b) cs h in
    let (ds, more, whole) = bind_ok (λ cs. Some (c ∷ cs)) (all_decoded levels t bodies) cs rest in
    (decoded_allowed levels t b c one, bodies_decoded levels t bodies ds more)

-- the nested records of each number are accepted
abbrev Nested : AllowsInside → List (ℕ × FieldKind) → List (ℕ × Found) → Type 0
Nested a rs fields = (n : ℕ) (t : RecordType) → kind_at rs n ≡ Some (kinds.Records t) → BodiesAllowed a t (at_number record_in n fields)

slots_nested : (levels : ℕ) (fields : List (ℕ × Found)) (rs : List (ℕ × FieldKind)) (slots : List (ℕ × Option Value)) → SlotsOf levels fields rs slots → Nested (inside record_schema levels) rs fields
unfolding records_at
slots_nested levels fields rs slots s n t known_kind =
    let (v, (cs, d, e)) = slot_found levels fields n (kinds.Records t) rs slots s known_kind in
    bodies_decoded levels t (at_number record_in n fields) cs d

text_allowed : (bytes : List ℕ) (own : List Found) → cond (is_utf8 bytes) (Some (FoundText bytes ∷ [])) None ≡ Some own → is_some (cond (is_utf8 bytes) (Some (Text bytes)) None) ≡ true
text_allowed bytes own h = go (is_utf8 bytes) h
  where
    go : (b : Bool) → cond b (Some (FoundText bytes ∷ [])) None ≡ Some own → is_some (cond b (Some (Text bytes)) None) ≡ true
    go true h = refl
    go false h = absurd (none-some _ h)

-- what is found of a payload, its field allows
kind_allowed : (levels : ℕ) (a : AllowsInside) (kind : FieldKind) (p : Payload) (own : List Found) → found_in kind p ≡ Some own →
    ((t : RecordType) → kind ≡ kinds.Records t → BodiesAllowed a t (picked record_in own)) → field_allowed levels a (form_of kind) (value_type_of kind) p ≡ true
kind_allowed levels a kinds.Text (Flat (Len bytes)) own h nested = text_allowed bytes own h
kind_allowed levels a kinds.Texts (Flat (Len bytes)) own h nested = ap (λ b. b || false) (text_allowed bytes own h)
kind_allowed levels a kinds.Number (Flat (Var v)) own h nested = refl
kind_allowed levels a kinds.Numbers (Flat (Var v)) own h nested = refl
kind_allowed levels a kinds.Numbers (Flat (Len bytes)) own h nested =
    let (ps, found, whole) = bind_ok (λ ps. Some (flat_map number_in_plain ps)) (unpacked Int32 bytes) own h in ap is_some found
kind_allowed levels a kinds.Flag (Flat (Var v)) own h nested = refl
kind_allowed levels a kinds.Bytes (Flat (Len bytes)) own h nested = refl
kind_allowed levels a (kinds.Records t) (Flat (Len bytes)) own h nested =
    let own_is : FoundRecord bytes ∷ [] ≡ own = same_Some _ _ h in
    let bodies : BodiesAllowed a t (picked record_in (FoundRecord bytes ∷ [])) = subst (λ own. BodiesAllowed a t (picked record_in own)) (sym own_is) (nested t refl) in
    ap (λ b. b || false) bodies.0
kind_allowed levels a kind p own h nested = absurd (none-some _ h)

one_allowed : (levels : ℕ) (a : AllowsInside) (t : RecordType) (r : Record) (own : List Found) → found_in_record levels (rows t) r ≡ Some own →
    ((u : RecordType) → kind_at (rows t) r.number ≡ Some (kinds.Records u) → BodiesAllowed a u (picked record_in own)) → record_allowed levels a (known record_schema (type_place t)) r ≡ true
one_allowed levels a t r own h nested = go (kind_at (rows t) r.number) refl
  where
    go : (o : Option FieldKind) → kind_at (rows t) r.number ≡ o → record_allowed levels a (known record_schema (type_place t)) r ≡ true
    go None e =
        ap (λ (o : Option Field). elim o [ None ↦ nat_le (payload_levels r.payload) levels | Some f ↦ field_allowed levels a f.form f.value_type r.payload ]) (unknown_field t r.number e)
        ∙ (guard_ok (nat_le (payload_levels r.payload) levels) [] own (unknown_found levels (rows t) r own e h)).0
    go (Some kind) e =
        ap (λ (o : Option Field). elim o [ None ↦ nat_le (payload_levels r.payload) levels | Some f ↦ field_allowed levels a f.form f.value_type r.payload ]) (known_field t r.number kind e)
        ∙ kind_allowed levels a kind r.payload own (known_found levels (rows t) r kind own e h) (λ u is. nested u (e ∙ ap Some is))

-- where nested records are accepted, all records are
all_allowed : (levels : ℕ) (a : AllowsInside) (t : RecordType) (records : List Record) (fields : List (ℕ × Found)) → found_in_records levels (rows t) records ≡ Some fields → Nested a (rows t) fields →
    list_all (record_allowed levels a (known record_schema (type_place t))) records ≡ true
all_allowed levels a t [] fields h nested = refl
all_allowed levels a t (r ∷ records) fields h nested =
    let f = first_record levels (rows t) r records fields h in
    and_from _ _ (one_allowed levels a t r f.own f.first (own_nested f)) (all_allowed levels a t records f.more f.others (more_nested f))
  where
    split : (f : FirstRecord levels (rows t) r records fields) (n : ℕ) → at_number record_in n fields ≡ cond (nat_eq r.number n) (picked record_in f.own ++ at_number record_in n f.more) (at_number record_in n f.more)
    split f n = ap (at_number record_in n) f.whole ∙ at_under record_in n r.number f.own f.more

    own_nested : (f : FirstRecord levels (rows t) r records fields) (u : RecordType) → kind_at (rows t) r.number ≡ Some (kinds.Records u) → BodiesAllowed a u (picked record_in f.own)
    own_nested f u e =
        bodies_front a u (picked record_in f.own) (at_number record_in r.number f.more)
        (subst (BodiesAllowed a u) (split f r.number ∙ ap (λ b. cond b (picked record_in f.own ++ at_number record_in r.number f.more) (at_number record_in r.number f.more)) (eq-eqb r.number r.number refl)) (nested r.number u e))

    more_nested : (f : FirstRecord levels (rows t) r records fields) → Nested a (rows t) f.more
    more_nested f n u e = go (nat_eq r.number n) (subst (BodiesAllowed a u) (split f n) (nested n u e))
      where
        go : (b : Bool) → BodiesAllowed a u (cond b (picked record_in f.own ++ at_number record_in n f.more) (at_number record_in n f.more)) → BodiesAllowed a u (at_number record_in n f.more)
        go true h = bodies_behind a u (picked record_in f.own) (at_number record_in n f.more) h
        go false h = h

-- WHAT IS MEANT

table_gathered : (at : ℕ → Slot) (ns : List ℕ) → entries_gathered (table at ns) ≡ table (λ n. record { value = option_map value_gathered (at n).value; unknowns = [] }) ns
table_gathered at [] = refl
table_gathered at (n ∷ ns) = value (at n).value ∙ ap (λ es. then_value n (option_map value_gathered (at n).value) es) (unknowns (at n).unknowns ∙ table_gathered at ns)
  where
    unknowns : (ps : List Payload) → entries_gathered (then_unknowns n ps (table at ns)) ≡ entries_gathered (table at ns)
    unknowns [] = refl
    unknowns (p ∷ ps) = unknowns ps

    value : (o : Option Value) → entries_gathered (then_value n o (then_unknowns n (at n).unknowns (table at ns))) ≡ then_value n (option_map value_gathered o) (entries_gathered (then_unknowns n (at n).unknowns (table at ns)))
    value None = refl
    value (Some v) = refl

table_slots : (levels : ℕ) (fields : List (ℕ × Found)) (all : List (ℕ × FieldKind)) (at : ℕ → Slot) →
    ((n : ℕ) (kind : FieldKind) (v : Option Value) → kind_at all n ≡ Some kind → SlotOf levels kind n fields v → at n ≡ record { value = v; unknowns = [] }) →
    (rs : List (ℕ × FieldKind)) (slots : List (ℕ × Option Value)) → RowsFound all rs → SlotsOf levels fields rs slots → table at (map (λ row. row.0) rs) ≡ entries_from slots
table_slots levels fields all at each [] [] found s = refl
table_slots levels fields all at each [] (slot ∷ slots) found s = absurd s
table_slots levels fields all at each (row ∷ rs) [] found s = absurd s
table_slots levels fields all at each (row ∷ rs) (slot ∷ slots) (e, found) (same, (s, more)) =
    ap₂ (store row.0) (each row.0 row.1 slot.1 e s) (table_slots levels fields all at each rs slots found more)
    ∙ ap (λ (n : ℕ). then_value n slot.1 (entries_from slots)) same

module _ (levels : ℕ) (t : RecordType) (records : List Record) (fields : List (ℕ × Found)) (found : found_in_records levels (rows t) records ≡ Some fields) (slots : List (ℕ × Option Value)) (s : SlotsOf levels fields (rows t) slots) where
  abbrev at : ℕ → Slot
  at n = record { value = option_map value_gathered (value_meaning (below record_schema levels) (known record_schema (type_place t)) records n); unknowns = [] }

  numbers_cover : Covers at 0 (record_numbers records)
  numbers_cover n low out = ap (λ (slot : Slot). record { value = option_map value_gathered slot.value; unknowns = [] }) (meaning_covers (below record_schema levels) (known record_schema (type_place t)) records n low out)

  rows_cover : Covers at 0 (map (λ row. row.0) (rows t))
  rows_cover n low out =
      ap (λ (o : Option Field). record { value = option_map value_gathered (o >>= λ f. field_value (below record_schema levels) f.form f.value_type (payloads (survive (known record_schema (type_place t)) f (flat_map (value_records (known record_schema (type_place t))) records)))); unknowns = [] })
      (unknown_field t n (no_row (rows t) n out))

  -- what the records mean, gathered
  record_means : gathered (meaning record_schema levels (type_place t) records) ≡ record_content t slots
  record_means =
      ap gathered (meaning_below record_schema levels (type_place t) records)
      ∙ ap (ContentOf record_schema (type_place t))
      (table_gathered (meaning_at (below record_schema levels) (known record_schema (type_place t)) records) (record_numbers records)
      ∙ table_covers at (length (record_numbers records) + length (map (λ row. row.0) (rows t))) 0 (record_numbers records) (map (λ row. row.0) (rows t)) (omega arith) (numbers_ascending records) (rows_ascending t) numbers_cover rows_cover
      ∙ table_slots levels fields (rows t) at (λ n kind v e s. ap (λ (o : Option Value). record { value = o; unknowns = [] }) (slot_means levels t n kind records fields v e found s)) (rows t) slots (rows_found t) s)

  records_allowed : allows record_schema levels (type_place t) records ≡ true
  records_allowed = allows_inside record_schema levels (type_place t) records ∙ all_allowed levels (inside record_schema levels) t records fields found (slots_nested levels fields (rows t) slots s)

-- The bytes of a record mean its fields, where each of these is what was found at its number.
pub record_read : (levels : ℕ) (t : RecordType) (fields : List (ℕ × Found)) (bytes : List ℕ) (slots : List (ℕ × Option Value)) → Fields levels t fields bytes [] → SlotsOf levels fields (rows t) slots → record_decoded levels t bytes ≡ Some (record_content t slots)
record_read levels t fields bytes slots f s =
    ap (λ (o : Option Records). option_map gathered (o >>= λ rs. guard (allows record_schema levels (type_place t) (items rs)) (meaning record_schema levels (type_place t) (items rs)))) (spelled_read (body_of f.records) bytes spelled)
    ∙ ap (λ rs. option_map gathered (guard (allows record_schema levels (type_place t) rs) (meaning record_schema levels (type_place t) rs))) (items_body f.records)
    ∙ ap (λ b. option_map gathered (guard b (meaning record_schema levels (type_place t) f.records))) (records_allowed levels t f.records fields f.found slots s)
    ∙ ap Some (record_means levels t f.records fields f.found slots s)
  where
    spelled : Spells (body_of f.records) bytes
    spelled = let front : RecordsFront (body_of f.records) bytes [] = f.front in subst (Spells (body_of f.records)) (sym (front.parts ∙ append-nil front.front)) front.spelled
