-- The records of a content mean it.
use Rattle.std.specs.Prelude.{◌≡◌, ◌&&◌, ◌∷◌, ◌++◌, ◌+◌, ◌⊎◌}
use Rattle.prost_reflect_laws.proofs.Common.{ℕ, suc, Bool, true, false, cond, List, [], map, filter, flat_map, nat_eq, Option, Some, None, refl, ap, ap₂, sym, ◌∙◌, arith, true≢false, length, append-nil, append_assoc, inl, inr, eqb-true, and_parts, or_parts, none-some, ◌>>=◌, Record, Payload, Field, Schema, known, field_of, is_sibling, ContentOf, Entries, NoEntries, Stored, Unknown, Value, value_at, unknowns_at, slot_at, numbers_in, comes_before, entries_ordered, value_ordered, has_number, value_records, unknown_payloads, meaning, steps, record_numbers, MeansInside, JoinsInside, field_value, unknowns_meaning, meaning_at, meaning_by, value_joined, value_steps, records, record_at, entries_records, field_payloads, has_value_of, numbers_ascending, slots_same, table_same, table_covers, entries_ascending, slot_outside, field_number, Joins, level_joins, flat_append, field_joins, field_nothing, surviving_value, value_all, unknowns_further, meaning_covers, block, ValueBack, EntriesBack}
use Rattle.prost_reflect_laws.proofs.Commuting.{steps_append, Inert, Clears, inert, effect}
use Rattle.prost_reflect_laws.proofs.Rebuilt.{rebuilt, no_value_below}

pub filter_block : (n m : ℕ) (ps : List Payload) → filter (has_number m) (map (record_at n) ps) ≡ cond (nat_eq n m) (map (record_at n) ps) []
filter_block n m ps = go (nat_eq n m) refl ps
  where
    go : (b : Bool) → nat_eq n m ≡ b → (ps : List Payload) → filter (has_number m) (map (record_at n) ps) ≡ cond b (map (record_at n) ps) []
    go true e [] = refl
    go false e [] = refl
    go true e (p ∷ ps) = ap (λ b. cond b (record_at n p ∷ filter (has_number m) (map (record_at n) ps)) (filter (has_number m) (map (record_at n) ps))) e ∙ ap (λ l. record_at n p ∷ l) (go true e ps)
    go false e (p ∷ ps) = ap (λ b. cond b (record_at n p ∷ filter (has_number m) (map (record_at n) ps)) (filter (has_number m) (map (record_at n) ps))) e ∙ go false e ps

pub unknowns_back : (inner : MeansInside) (fields : List Field) (es : Entries) (n : ℕ) → EntriesBack inner fields es → unknowns_meaning fields (entries_records fields es) n ≡ unknowns_at n es
unknowns_back inner fields NoEntries n h = refl
unknowns_back inner fields (Stored m v es) n (f, found, back, alone, h) =
    ap (λ (o : Option Field). unknowns_meaning fields (map (record_at m) (field_payloads o v) ++ entries_records fields es) n) found
    ∙ unknowns_further fields (map (record_at m) ps) (entries_records fields es) n
    ∙ ap₂ ◌++◌ (ap (flat_map (unknown_payloads fields)) (filter_block m n ps) ∙ go (nat_eq m n)) (unknowns_back inner fields es n h)
  where
    ps : List Payload
    ps = field_payloads (Some f) v

    go : (b : Bool) → flat_map (unknown_payloads fields) (cond b (map (record_at m) (field_payloads (Some f) v)) []) ≡ []
    go true = back.strays
    go false = refl
unknowns_back inner fields (Unknown m p es) n (back, h) = go (nat_eq m n) (unknowns_back inner fields es n h)
  where
    go : (b : Bool) → unknowns_meaning fields (entries_records fields es) n ≡ unknowns_at n es →
        flat_map (unknown_payloads fields) (cond b (record_at m p ∷ filter (has_number n) (entries_records fields es)) (filter (has_number n) (entries_records fields es))) ≡ cond b (p ∷ unknowns_at n es) (unknowns_at n es)
    go true more = ap₂ ◌++◌ back.stays more
    go false more = more

-- records of the field itself
own_block : (inner : MeansInside) (further : JoinsInside) (fields : List Field) (f : Field) (n : ℕ) (qs ps : List Payload) → Joins inner further → nat_eq n f.number ≡ true →
    value_steps inner further fields f (field_value inner f.form f.value_type qs) (block n ps) ≡ field_value inner f.form f.value_type (qs ++ ps)
own_block inner further fields f n qs [] j e = ap (field_value inner f.form f.value_type) (sym (append-nil qs))
own_block inner further fields f n qs (p ∷ ps) j e =
    ap (λ b. value_steps inner further fields f (cond b (value_joined inner further f.form f.value_type (field_value inner f.form f.value_type qs) p) (cond (is_sibling fields f n) None (field_value inner f.form f.value_type qs))) (block n ps)) e
    ∙ ap (λ o. value_steps inner further fields f o (block n ps)) (sym (field_joins inner further f.form f.value_type qs p j))
    ∙ own_block inner further fields f n (qs ++ (p ∷ [])) ps j e
    ∙ ap (field_value inner f.form f.value_type) (append_assoc qs (p ∷ []) ps)

-- of another number, no value stays none
other_block : (inner : MeansInside) (further : JoinsInside) (fields : List Field) (f : Field) (n : ℕ) (ps : List Payload) → nat_eq n f.number ≡ false → value_steps inner further fields f None (block n ps) ≡ None
other_block inner further fields f n ps e = go (effect inner further fields f n ps e)
  where
    go : Inert inner further fields f (block n ps) ⊎ Clears inner further fields f (block n ps) → value_steps inner further fields f None (block n ps) ≡ None
    go (inl h) = h None
    go (inr h) = h None

value_records_first : (inner : MeansInside) (fields : List Field) (n : ℕ) (f : Field) (v : Value) (es : Entries) → field_of fields n ≡ Some f → (back : ValueBack inner fields n f v) →
    flat_map (value_records fields) (entries_records fields (Stored n v es)) ≡ block n back.sources ++ flat_map (value_records fields) (entries_records fields es)
value_records_first inner fields n f v es found back =
    ap (λ (o : Option Field). flat_map (value_records fields) (map (record_at n) (field_payloads o v) ++ entries_records fields es)) found
    ∙ flat_append (value_records fields) (map (record_at n) (field_payloads (Some f) v)) (entries_records fields es)
    ∙ ap (λ l. l ++ flat_map (value_records fields) (entries_records fields es)) back.read

-- the entries behind leave the value alone
after : (inner : MeansInside) (further : JoinsInside) (fields : List Field) (f : Field) (es : Entries) (o : Option Value) → EntriesBack inner fields es →
    has_value_of (is_sibling fields f) es ≡ false → value_at f.number es ≡ None → value_steps inner further fields f o (flat_map (value_records fields) (entries_records fields es)) ≡ o
after inner further fields f NoEntries o h lone none = refl
after inner further fields f (Stored m v es) o (g, found, back, alone, h) lone none =
    ap (value_steps inner further fields f o) (value_records_first inner fields m g v es found back)
    ∙ steps_append inner further fields f o (block m back.sources) (flat_map (value_records fields) (entries_records fields es))
    ∙ go (nat_eq m f.number) refl (or_parts (is_sibling fields f m) (has_value_of (is_sibling fields f) es) lone) (after inner further fields f es o h)
  where
    go : (b : Bool) → nat_eq m f.number ≡ b → (is_sibling fields f m ≡ false) × (has_value_of (is_sibling fields f) es ≡ false) →
        (has_value_of (is_sibling fields f) es ≡ false → value_at f.number es ≡ None → value_steps inner further fields f o (flat_map (value_records fields) (entries_records fields es)) ≡ o) →
        value_steps inner further fields f (value_steps inner further fields f o (block m back.sources)) (flat_map (value_records fields) (entries_records fields es)) ≡ o
    go true e l more = absurd (none-some _ (sym (sym (ap (λ b. cond b (Some v) (value_at f.number es)) e) ∙ none)))
    go false e l more = ap (λ o. value_steps inner further fields f o (flat_map (value_records fields) (entries_records fields es))) (inert inner further fields f m back.sources e l.0 o)
        ∙ more l.1 (sym (ap (λ b. cond b (Some v) (value_at f.number es)) e) ∙ none)
after inner further fields f (Unknown m p es) o (back, h) lone none =
    ap (λ l. value_steps inner further fields f o (l ++ flat_map (value_records fields) (entries_records fields es))) back.read ∙ after inner further fields f es o h lone none

found_same : {f g : Field} {o : Option Field} → o ≡ Some f → o ≡ Some g → f ≡ g
found_same {f} e d = ap (λ (o : Option Field). elim o [ None ↦ f | Some x ↦ x ]) (sym e ∙ d)

pub value_back : (inner : MeansInside) (further : JoinsInside) (fields : List Field) (f : Field) (es : Entries) → Joins inner further → EntriesBack inner fields es → entries_ordered es ≡ true →
    field_of fields f.number ≡ Some f → value_steps inner further fields f None (flat_map (value_records fields) (entries_records fields es)) ≡ value_at f.number es
value_back inner further fields f NoEntries j h order found = refl
value_back inner further fields f (Stored m v es) j (g, at, back, alone, h) order found =
    ap (value_steps inner further fields f None) (value_records_first inner fields m g v es at back)
    ∙ steps_append inner further fields f None (block m back.sources) (flat_map (value_records fields) (entries_records fields es))
    ∙ go (nat_eq m f.number) refl (value_back inner further fields f es j h (and_parts (comes_before m es && value_ordered v) (entries_ordered es) order).1 found)
  where
    ordered_parts : ((comes_before m es && value_ordered v) ≡ true) × (entries_ordered es ≡ true)
    ordered_parts = and_parts (comes_before m es && value_ordered v) (entries_ordered es) order

    run : Option Value → Option Value
    run o = value_steps inner further fields f o (flat_map (value_records fields) (entries_records fields es))

    go : (b : Bool) → nat_eq m f.number ≡ b → run None ≡ value_at f.number es → run (value_steps inner further fields f None (block m back.sources)) ≡ cond b (Some v) (value_at f.number es)
    go true e more =
        let same : g ≡ f = found_same at (ap (field_of fields) (eqb-true m f.number e) ∙ found) in
        let number : f.number ≡ m = sym (eqb-true m f.number e) in
        let none : value_at f.number es ≡ None = ap (λ (k : ℕ). value_at k es) number ∙ no_value_below m m es (and_parts (comes_before m es) (value_ordered v) ordered_parts.0).0 ordered_parts.1 (omega arith) in
        ap (λ o. run (value_steps inner further fields f o (block m back.sources))) (sym (field_nothing inner f.form f.value_type))
        ∙ ap run (own_block inner further fields f m [] back.sources j e ∙ ap (λ (x : Field). field_value inner x.form x.value_type back.sources) (sym same) ∙ back.value)
        ∙ after inner further fields f es (Some v) h (ap (λ (x : Field). has_value_of (is_sibling fields x) es) (sym same) ∙ alone) none
    go false e more = ap run (other_block inner further fields f m back.sources e) ∙ more
value_back inner further fields f (Unknown m p es) j (back, h) order found =
    ap (λ l. value_steps inner further fields f None (l ++ flat_map (value_records fields) (entries_records fields es))) back.read
    ∙ value_back inner further fields f es j h (and_parts (comes_before m es) (entries_ordered es) order).1 found

-- a number that is not known has no value
no_field : (inner : MeansInside) (fields : List Field) (n : ℕ) (es : Entries) → EntriesBack inner fields es → field_of fields n ≡ None → value_at n es ≡ None
no_field inner fields n NoEntries h e = refl
no_field inner fields n (Stored m v es) (f, found, back, alone, h) e = go (nat_eq m n) refl (no_field inner fields n es h e)
  where
    go : (b : Bool) → nat_eq m n ≡ b → value_at n es ≡ None → cond b (Some v) (value_at n es) ≡ None
    go true d more = absurd (true≢false (ap (λ (o : Option Field). elim o [ None ↦ false | Some x ↦ true ]) (sym found ∙ ap (field_of fields) (eqb-true m n d) ∙ e)))
    go false d more = more
no_field inner fields n (Unknown m p es) (back, h) e = no_field inner fields n es h e

pub entries_back : (inner : MeansInside) (further : JoinsInside) (schema : Schema) (T : ℕ) (es : Entries) → Joins inner further → EntriesBack inner (known schema T) es → entries_ordered es ≡ true →
    meaning_by inner schema T (entries_records (known schema T) es) ≡ ContentOf schema T es
entries_back inner further schema T es j h order = ap (ContentOf schema T)
    (table_covers (meaning_at inner fields rs) (length (record_numbers rs) + length (numbers_in es)) 0 (record_numbers rs) (numbers_in es) (omega arith) (numbers_ascending rs) (entries_ascending es)
    (meaning_covers inner fields rs) (λ k l out. same k ∙ slot_outside es k out)
    ∙ table_same (meaning_at inner fields rs) (slot_at es) (numbers_in es) same ∙ rebuilt es order)
  where
    fields : List Field
    fields = known schema T

    rs : List Record
    rs = entries_records (known schema T) es

    value : (n : ℕ) (o : Option Field) → field_of (known schema T) n ≡ o → (o >>= λ f. surviving_value inner (known schema T) f (flat_map (value_records (known schema T)) (entries_records (known schema T) es))) ≡ value_at n es
    value n None e = sym (no_field inner (known schema T) n es h e)
    value n (Some f) e =
        let number : f.number ≡ n = field_number (known schema T) n f e in
        value_all inner further (known schema T) f [] (flat_map (value_records (known schema T)) (entries_records (known schema T) es)) j
        ∙ ap (λ o. value_steps inner further (known schema T) f o (flat_map (value_records (known schema T)) (entries_records (known schema T) es))) (field_nothing inner f.form f.value_type)
        ∙ value_back inner further (known schema T) f es j h order (ap (field_of (known schema T)) number ∙ e) ∙ ap (λ (k : ℕ). value_at k es) number

    same : (n : ℕ) → meaning_at inner (known schema T) (entries_records (known schema T) es) n ≡ slot_at es n
    same n = slots_same (meaning_at inner (known schema T) (entries_records (known schema T) es) n) (slot_at es n) (value n (field_of (known schema T) n) refl) (unknowns_back inner (known schema T) es n h)

pub entries_mean : (schema : Schema) (k T : ℕ) (es : Entries) → EntriesBack (meaning schema k) (known schema T) es → entries_ordered es ≡ true →
    meaning schema (suc k) T (records (ContentOf schema T es)) ≡ ContentOf schema T es
unfolding meaning
entries_mean schema k T es h order = entries_back (meaning schema k) (steps k) schema T es (level_joins schema k) h order
