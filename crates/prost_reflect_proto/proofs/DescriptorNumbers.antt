-- What the values of a descriptor record's fields mean, number by number.
use Rattle.std.specs.Prelude.{◌≡◌, ◌||◌, ◌∷◌, ◌++◌}
use Rattle.prost_reflect_proto.proofs.Common.{ℕ, Bool, true, false, cond, List, [], map, filter, flat_map, Option, Some, None, option_map, nat_eq, nat_le, refl, ap, ap₂, sym, ◌∙◌, eqb-true, list_any, same_Some, ◌>>=◌, guard, Payload, Record, payload_levels, Field, field_of, is_sibling, known, I32, Text, Bytes, Content, Value, ScalarValue, ListValue, NoValues, Item, values_from, payloads, has_number, numbered, value_records, value_payloads, MeansInside, field_value, present_list, survive, value_meaning, rows, type_place, form_of, value_type_of, field_of_row, record_schema, value_gathered, of_records, Found, kind_at, found_in, found_in_record, found_in_records, under, in_front, at_number, record_in, text_in, bytes_in, number_in, joined_to, all_decoded, text_at, number_at, flag_at, bytes_at, texts_at, numbers_at, records_at, RecordType, FieldKind, bind_ok, below}
use Rattle.prost_reflect_types.specs.declared.table.FieldKind.TheVariants as kinds
use Rattle.prost_reflect_laws.proofs.StoredSound.{no_sibling}
use Rattle.prost_reflect_laws.proofs.ByNumber.{block_payloads, numbered_records, values_of_block, filter_values, after_none}
use Rattle.prost_reflect_proto.proofs.DescriptorRows.{known_field}
use Rattle.prost_reflect_proto.proofs.DescriptorKinds.{all_in, picked, text_means, number_means, flag_means, texts_mean, numbers_mean, bytes_mean, records_mean}

-- WHAT IS FOUND AT A NUMBER

picked_all : (xs : List Found) → picked (λ x. Some x) xs ≡ xs
picked_all [] = refl
picked_all (x ∷ xs) = ap (λ l. x ∷ l) (picked_all xs)

pub at_under : {A : Type 0} (of : Found → Option A) (n m : ℕ) (own : List Found) (others : List (ℕ × Found)) →
    at_number of n (under m own ++ others) ≡ cond (nat_eq m n) (picked of own ++ at_number of n others) (at_number of n others)
at_under of n m own others = go (nat_eq m n) refl own
  where
    put : {A : Type 0} (o : Option A) (xs ys : List A) → in_front o (xs ++ ys) ≡ in_front o xs ++ ys
    put None xs ys = refl
    put (Some x) xs ys = refl

    go : (b : Bool) → nat_eq m n ≡ b → (own : List Found) → at_number of n (under m own ++ others) ≡ cond b (picked of own ++ at_number of n others) (at_number of n others)
    go true e [] = refl
    go false e [] = refl
    go true e (x ∷ own) = ap (λ b. cond b (in_front (of x) (at_number of n (under m own ++ others))) (at_number of n (under m own ++ others))) e ∙ ap (in_front (of x)) (go true e own) ∙ put (of x) (picked of own) (at_number of n others)
    go false e (x ∷ own) = ap (λ b. cond b (in_front (of x) (at_number of n (under m own ++ others))) (at_number of n (under m own ++ others))) e ∙ go false e own

-- what is read of the values of a number is read of all that was found there
pub at_picked : {A : Type 0} (of : Found → Option A) (n : ℕ) (fields : List (ℕ × Found)) → at_number of n fields ≡ picked of (at_number (λ x. Some x) n fields)
at_picked of n [] = refl
at_picked of n (field ∷ fields) = go (nat_eq field.0 n) (at_picked of n fields)
  where
    go : (b : Bool) → at_number of n fields ≡ picked of (at_number (λ x. Some x) n fields) →
        cond b (in_front (of field.1) (at_number of n fields)) (at_number of n fields) ≡ picked of (cond b (field.1 ∷ at_number (λ x. Some x) n fields) (at_number (λ x. Some x) n fields))
    go true more = ap (in_front (of field.1)) more
    go false more = more

pub record FirstRecord (levels : ℕ) (rs : List (ℕ × FieldKind)) (r : Record) (records : List Record) (fields : List (ℕ × Found)) : Type 0 where
  pub own : List Found
  pub more : List (ℕ × Found)
  pub first : found_in_record levels rs r ≡ Some own
  pub others : found_in_records levels rs records ≡ Some more
  pub whole : fields ≡ under r.number own ++ more

pub first_record : (levels : ℕ) (rs : List (ℕ × FieldKind)) (r : Record) (records : List Record) (fields : List (ℕ × Found)) → found_in_records levels rs (r ∷ records) ≡ Some fields → FirstRecord levels rs r records fields
first_record levels rs r records fields h =
    let (own, f, rest) = bind_ok (λ own. found_in_records levels rs records >>= λ others. Some (under r.number own ++ others)) (found_in_record levels rs r) fields h in
    let (more, o, whole) = bind_ok (λ others. Some (under r.number own ++ others)) (found_in_records levels rs records) fields rest in
    record { own = own; more = more; first = f; others = o; whole = sym (same_Some _ _ whole) }

-- a record of a known number has what its kind finds
pub known_found : (levels : ℕ) (rs : List (ℕ × FieldKind)) (r : Record) (kind : FieldKind) (own : List Found) → kind_at rs r.number ≡ Some kind → found_in_record levels rs r ≡ Some own → found_in kind r.payload ≡ Some own
known_found levels rs r kind own known h =
    sym (ap (λ (o : Option FieldKind). elim o [ None ↦ guard (nat_le (payload_levels r.payload) levels) [] | Some kind ↦ found_in kind r.payload ]) known) ∙ h

-- one of an unknown number is within the levels
pub unknown_found : (levels : ℕ) (rs : List (ℕ × FieldKind)) (r : Record) (own : List Found) → kind_at rs r.number ≡ None → found_in_record levels rs r ≡ Some own → guard (nat_le (payload_levels r.payload) levels) [] ≡ Some own
unknown_found levels rs r own unknown h =
    sym (ap (λ (o : Option FieldKind). elim o [ None ↦ guard (nat_le (payload_levels r.payload) levels) [] | Some kind ↦ found_in kind r.payload ]) unknown) ∙ h

found_numbered : (levels : ℕ) (rs : List (ℕ × FieldKind)) (n : ℕ) (kind : FieldKind) → kind_at rs n ≡ Some kind → (records : List Record) (fields : List (ℕ × Found)) → found_in_records levels rs records ≡ Some fields →
    all_in kind (numbered n records) ≡ Some (at_number (λ x. Some x) n fields)
found_numbered levels rs n kind known [] fields h = ap (λ fields. Some (at_number (λ x. Some x) n fields)) (same_Some _ _ h)
found_numbered levels rs n kind known (r ∷ records) fields h =
    let f = first_record levels rs r records fields h in
    go (nat_eq r.number n) refl f.own f.more f.first (found_numbered levels rs n kind known records f.more f.others)
    ∙ ap Some (sym (ap (at_number (λ x. Some x) n) f.whole ∙ at_under (λ x. Some x) n r.number f.own f.more))
  where
    go : (b : Bool) → nat_eq r.number n ≡ b → (own : List Found) (more : List (ℕ × Found)) → found_in_record levels rs r ≡ Some own → all_in kind (numbered n records) ≡ Some (at_number (λ x. Some x) n more) →
        all_in kind (payloads (cond b (r ∷ filter (has_number n) records) (filter (has_number n) records))) ≡ Some (cond b (picked (λ x. Some x) own ++ at_number (λ x. Some x) n more) (at_number (λ x. Some x) n more))
    go true e own more first others =
        ap (λ (o : Option (List Found)). o >>= λ own. all_in kind (numbered n records) >>= λ more. Some (own ++ more)) (known_found levels rs r kind own (ap (kind_at rs) (eqb-true r.number n e) ∙ known) first)
        ∙ ap (λ (o : Option (List Found)). o >>= λ more. Some (own ++ more)) others
        ∙ ap (λ l. Some (l ++ at_number (λ x. Some x) n more)) (sym (picked_all own))
    go false e own more first others = others

-- THE VALUE OF A ROW

not_sibling : (fields : List Field) (f : Field) (rs : List Record) → f.oneof ≡ None → list_any (λ r. is_sibling fields f r.number) rs ≡ false
not_sibling fields f [] e = refl
not_sibling fields f (r ∷ rs) e = ap₂ ◌||◌ (no_sibling fields f r.number e) (not_sibling fields f rs e)

-- the payloads of a row's number are what it means
row_payloads : (inner : MeansInside) (t : RecordType) (n : ℕ) (kind : FieldKind) (records : List Record) → kind_at (rows t) n ≡ Some kind →
    value_meaning inner (known record_schema (type_place t)) records n ≡ field_value inner (form_of kind) (value_type_of kind) (flat_map (value_payloads (form_of kind) (value_type_of kind)) (numbered n records))
row_payloads inner t n kind records known_kind =
    ap (λ (o : Option Field). o >>= λ f. field_value inner f.form f.value_type (payloads (survive fields f (flat_map (value_records fields) records)))) found
    ∙ ap (λ rs. field_value inner (form_of kind) (value_type_of kind) (payloads rs))
    (ap (filter (has_number n)) (after_none (λ r. is_sibling fields (field_of_row (n, kind)) r.number) (flat_map (value_records fields) records) (not_sibling fields (field_of_row (n, kind)) (flat_map (value_records fields) records) refl))
    ∙ filter_values fields n records ∙ ap (flat_map (value_records fields)) (numbered_records n records)
    ∙ values_of_block fields n (field_of_row (n, kind)) (numbered n records) found)
    ∙ ap (field_value inner (form_of kind) (value_type_of kind)) (block_payloads n (flat_map (value_payloads (form_of kind) (value_type_of kind)) (numbered n records)))
  where
    fields : List Field
    fields = known record_schema (type_place t)

    found : field_of (known record_schema (type_place t)) n ≡ Some (field_of_row (n, kind))
    found = known_field t n kind known_kind

-- What stands in a record at the number of a row, by its kind.
abbrev pub SlotOf : ℕ → FieldKind → ℕ → List (ℕ × Found) → Option Value → Type 0
SlotOf levels kinds.Text n fields v = v ≡ text_at n fields
SlotOf levels kinds.Number n fields v = v ≡ number_at n fields
SlotOf levels kinds.Flag n fields v = v ≡ flag_at n fields
SlotOf levels kinds.Bytes n fields v = v ≡ bytes_at n fields
SlotOf levels kinds.Texts n fields v = v ≡ texts_at n fields
SlotOf levels kinds.Numbers n fields v = v ≡ numbers_at n fields
SlotOf levels (kinds.Records t) n fields v = (cs : List Content) × (records_at levels t n fields ≡ Some cs) × (v ≡ of_records cs)

slot_kind : (levels n : ℕ) (kind : FieldKind) (ps : List Payload) (fields : List (ℕ × Found)) (v : Option Value) → all_in kind ps ≡ Some (at_number (λ x. Some x) n fields) → SlotOf levels kind n fields v →
    option_map value_gathered (field_value (below record_schema levels) (form_of kind) (value_type_of kind) (flat_map (value_payloads (form_of kind) (value_type_of kind)) ps)) ≡ v
unfolding text_at number_at flag_at bytes_at texts_at numbers_at records_at of_records
slot_kind levels n kinds.Text ps fields v h s = text_means (below record_schema levels) ps (at_number (λ x. Some x) n fields) h ∙ sym s
slot_kind levels n kinds.Number ps fields v h s = number_means (below record_schema levels) ps (at_number (λ x. Some x) n fields) h ∙ sym s
slot_kind levels n kinds.Flag ps fields v h s = flag_means (below record_schema levels) ps (at_number (λ x. Some x) n fields) h ∙ sym s
slot_kind levels n kinds.Bytes ps fields v h s =
    bytes_mean (below record_schema levels) ps (at_number (λ x. Some x) n fields) h ∙ ap (λ bs. option_map (λ x. ListValue (Item (ScalarValue (Bytes x)) NoValues)) (joined_to None bs)) (sym (at_picked bytes_in n fields)) ∙ sym s
slot_kind levels n kinds.Texts ps fields v h s =
    texts_mean (below record_schema levels) ps (at_number (λ x. Some x) n fields) h ∙ ap (λ ts. present_list (values_from (map (λ t. ScalarValue (Text t)) ts))) (sym (at_picked text_in n fields)) ∙ sym s
slot_kind levels n kinds.Numbers ps fields v h s =
    numbers_mean (below record_schema levels) ps (at_number (λ x. Some x) n fields) h ∙ ap (λ zs. present_list (values_from (map (λ z. ScalarValue (I32 z)) zs))) (sym (at_picked number_in n fields)) ∙ sym s
slot_kind levels n (kinds.Records t) ps fields v h (cs, d, s) =
    records_mean levels t ps (at_number (λ x. Some x) n fields) cs h (ap (all_decoded levels t) (sym (at_picked record_in n fields)) ∙ d) ∙ sym s

pub slot_means : (levels : ℕ) (t : RecordType) (n : ℕ) (kind : FieldKind) (records : List Record) (fields : List (ℕ × Found)) (v : Option Value) → kind_at (rows t) n ≡ Some kind → found_in_records levels (rows t) records ≡ Some fields →
    SlotOf levels kind n fields v → option_map value_gathered (value_meaning (below record_schema levels) (known record_schema (type_place t)) records n) ≡ v
slot_means levels t n kind records fields v known_kind found s =
    ap (option_map value_gathered) (row_payloads (below record_schema levels) t n kind records known_kind)
    ∙ slot_kind levels n kind (numbered n records) fields v (found_numbered levels (rows t) n kind known_kind records fields found) s
