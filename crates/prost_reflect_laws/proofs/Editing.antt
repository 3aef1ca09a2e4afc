-- A value set at a path through an older type of a reduction is set there in what the newer one reads.
use Rattle.std.specs.Prelude.{◌≡◌, ◌≤◌, ◌<◌, ◌^◌, ◌∷◌}
use Rattle.prost_reflect_laws.proofs.Common.{ℕ, zero, suc, nat_lt, true, false, List, [], flat_map, length, Option, Some, None, refl, ap, sym, subst, ◌∙◌, arith, list_all, lt-ltb, eq-eqb, AreBytes, ◌>>=◌, Payload, Record, items, body_of, valid, Kind, ScalarOf, MessageOf, GroupOf, Singular, Field, Schema, known, field_of, schema_valid, Content, ContentOf, Entries, Value, MessageValue, Slot, value_at, table, schema_of, type_of, empty, AllowsInside, payloads, value_records, record_allowed, nothing_inside, allows, Accepts, MeansInside, joined, message_value, one_value, record_numbers, survive, field_value, meaning_at, meaning_by, empty_inside, meaning, decoded, records, entries_records, encoded, is_of_type, kept, kept_value, kept_inside, ValueStored, with_field_value, set_field, default_of, default_value, value_or_default, in_message, set_at, message_of_kind, PathTo, holds_message, edited, TypePairs, holds, Ascending, Covers, numbers_ascending, slot_table, field_number, surviving_value, meaning_covers, meaning_empty}
use Rattle.prost_reflect_laws.proofs.Checked.{checked_field, found_valid}
use Rattle.prost_reflect_laws.proofs.Spelt.{Sound}
use Rattle.prost_reflect_laws.proofs.Setting.{set_well, in_found}
use Rattle.prost_reflect_laws.proofs.Kept.{kept_content}
use Rattle.prost_reflect_laws.proofs.GoodSteps.{meaning_typed}
use Rattle.prost_reflect_laws.proofs.NormalForms.{meaning_schema, meaning_type}
use Rattle.prost_reflect_laws.proofs.Older.{allows_smaller}
use Rattle.prost_reflect_laws.proofs.Matches.{AllMatch, Relates, Like, like}
use Rattle.prost_reflect_laws.proofs.ByNumber.{stored_payloads}
use Rattle.prost_reflect_laws.proofs.Inside.{joined_valid}
use Rattle.prost_reflect_laws.proofs.Again.{written_again, FieldAgain}
use Rattle.prost_reflect_laws.proofs.SingleAgain.{single_source, sources_valid, value_again}
use Rattle.prost_reflect_laws.proofs.EntryAgain.{message_records}
use Rattle.prost_reflect_laws.proofs.FieldAgain.{source}
use Rattle.prost_reflect_laws.proofs.SameSurvivors.{same_survivors}
use Rattle.prost_reflect_laws.proofs.WrittenSlots.{BothSlots, Numbered, table_numbered, both_sound, both_allowed, both_read}
use Rattle.prost_reflect_laws.proofs.Relaying.{Step, survivors_source, meaning_slots}
use Rattle.prost_reflect_laws.proofs.Passing.{step_zero, step_next, accepted_decoded, older_decoded, accepted_valid, written_read}
use Rattle.prost_reflect_laws.proofs.SetSlots.{set_slot, set_numbers, set_table, set_ascending, set_covers, set_both}
use Rattle.prost_reflect_laws.proofs.ValueCarried.{all_kept, kept_by, single_like, value_carried}
use Rattle.prost_reflect_laws.proofs.PathLike.{message_like, path_like}

-- what the older type wrote, and what the newer one is to read
pub record Edited (a : AllowsInside) (j : MeansInside) (B : ℕ) (c d : Content) : Type 0 where
  pub sound : Sound (records c)
  pub allowed : valid (body_of (records c)) ≡ true → a B (records c) ≡ true
  pub same : valid (body_of (records c)) ≡ true → j B (records c) ≡ d

-- ONE NUMBER

-- a value set at the number of a field that both know
set_edited : (pairs : TypePairs) (k : ℕ) (i : MeansInside) (a : AllowsInside) (j : MeansInside) (older newer : Schema) (A B : ℕ) (rs : List Record) (n : ℕ) (f g : Field) (o p : Option Value) → Step pairs k i a j older newer A B rs →
    field_of (known older A) n ≡ Some f → Like pairs (known older A) (known newer B) f g → FieldAgain k a j g.form g.value_type (stored_payloads (Some f) o) p →
    Edited (λ B rs. list_all (record_allowed k a (known newer B)) rs) (meaning_by j newer) B
    (ContentOf older A (with_field_value (known older A) f o (table (meaning_at i (known older A) rs) (record_numbers rs)))) (ContentOf newer B (with_field_value (known newer B) g p (table (meaning_at j (known newer B) rs) (record_numbers rs))))
set_edited pairs k i a j older newer A B rs n f g o p s found l again =
    subst (λ es. Edited (λ B rs. list_all (record_allowed k a (known newer B)) rs) (meaning_by j newer) B (ContentOf older A es) (ContentOf newer B (with_field_value (known newer B) g p (table by ns)))) (sym wholeA)
    (subst (λ es. Edited (λ B rs. list_all (record_allowed k a (known newer B)) rs) (meaning_by j newer) B (ContentOf older A (table (set_slot (known older A) f o at) (set_numbers f at ns))) (ContentOf newer B es)) (sym wholeB) (record {
      sound = both_sound pairs k a j (known older A) (known newer B) (set_slot (known older A) f o at) (set_slot (known newer B) g p by) (set_numbers f at ns) both;
      allowed = λ ok. both_allowed pairs k a j (known older A) (known newer B) (set_slot (known older A) f o at) (set_slot (known newer B) g p by) (set_numbers f at ns) both (written ok);
      same = λ ok. both_read pairs k a j (known older A) newer B (set_slot (known older A) f o at) (set_slot (known newer B) g p by) (entries_records (known older A) (table (set_slot (known older A) f o at) (set_numbers f at ns))) (set_numbers g by ns) both (written ok)
          (set_ascending g by ns) (set_covers (known newer B) g p by ns asc coversB);
    }))
  where
    at : ℕ → Slot
    at = meaning_at i (known older A) rs

    by : ℕ → Slot
    by = meaning_at j (known newer B) rs

    ns : List ℕ
    ns = record_numbers rs

    asc : Ascending 0 (record_numbers rs)
    asc = numbers_ascending rs

    coversA : Covers (meaning_at i (known older A) rs) 0 (record_numbers rs)
    coversA = meaning_covers i (known older A) rs

    coversB : Covers (meaning_at j (known newer B) rs) 0 (record_numbers rs)
    coversB = meaning_covers j (known newer B) rs

    wholeA : with_field_value (known older A) f o (table (meaning_at i (known older A) rs) (record_numbers rs)) ≡ table (set_slot (known older A) f o (meaning_at i (known older A) rs)) (set_numbers f (meaning_at i (known older A) rs) (record_numbers rs))
    wholeA = set_table (known older A) f o at ns asc coversA

    wholeB : with_field_value (known newer B) g p (table (meaning_at j (known newer B) rs) (record_numbers rs)) ≡ table (set_slot (known newer B) g p (meaning_at j (known newer B) rs)) (set_numbers g (meaning_at j (known newer B) rs) (record_numbers rs))
    wholeB = set_table (known newer B) g p by ns asc coversB

    both : BothSlots pairs k a j (known older A) (known newer B) (set_slot (known older A) f o (meaning_at i (known older A) rs)) (set_slot (known newer B) g p (meaning_at j (known newer B) rs))
    both = set_both pairs k a j (known older A) (known newer B) at by n f g o p (meaning_slots pairs k i a j older newer A B rs s) s.differ found l again

    written : valid (body_of (entries_records (known older A) (table (set_slot (known older A) f o (meaning_at i (known older A) rs)) (set_numbers f (meaning_at i (known older A) rs) (record_numbers rs))))) ≡ true →
        Numbered (known older A) (set_slot (known older A) f o (meaning_at i (known older A) rs)) (entries_records (known older A) (table (set_slot (known older A) f o (meaning_at i (known older A) rs)) (set_numbers f (meaning_at i (known older A) rs) (record_numbers rs))))
    written ok = table_numbered (known older A) (set_slot (known older A) f o at) (set_numbers f at ns) (set_ascending f at ns) (set_covers (known older A) f o at ns asc coversA) ok

-- the fields of both types at a number
record BothKnow (pairs : TypePairs) (older newer : List Field) (n : ℕ) (f : Field) : Type 0 where
  field : Field
  like : Like pairs older newer f field
  found : field_of newer n ≡ Some field

both_know : (pairs : TypePairs) (k : ℕ) (i : MeansInside) (a : AllowsInside) (j : MeansInside) (older newer : Schema) (A B : ℕ) (rs : List Record) (n : ℕ) (f : Field) → Step pairs k i a j older newer A B rs → field_of (known older A) n ≡ Some f → BothKnow pairs (known older A) (known newer B) n f
both_know pairs k i a j older newer A B rs n f s found =
    let (g, l) = like pairs (known older A) (known newer B) n f s.match found in
    record { field = g; like = l; found = ap (field_of (known newer B)) (sym (field_number (known older A) n f found)) ∙ l.found }

-- a value without messages
leaf_edited : (pairs : TypePairs) (k : ℕ) (i : MeansInside) (a : AllowsInside) (j : MeansInside) (older newer : Schema) (A B : ℕ) (rs : List Record) (n : ℕ) (f : Field) (v : Value) → Step pairs k i a j older newer A B rs → field_of (known older A) n ≡ Some f → ValueStored older f v → holds_message v ≡ false →
    Edited (λ B rs. list_all (record_allowed k a (known newer B)) rs) (meaning_by j newer) B (set_at (n ∷ []) v (meaning_by i older A rs)) (set_at (n ∷ []) v (meaning_by j newer B rs))
leaf_edited pairs k i a j older newer A B rs n f v s found stored none =
    let b : BothKnow pairs (known older A) (known newer B) n f = both_know pairs k i a j older newer A B rs n f s found in
    let g : Field = b.field in
    let l : Like pairs (known older A) (known newer B) f b.field = b.like in
    let same : kept_inside v ≡ v = all_kept v none in
    let again : FieldAgain k a j b.field.form b.field.value_type (stored_payloads (Some f) (kept_value (Some f) (kept_inside v))) (kept_value (Some b.field) (kept_inside v)) =
    subst (λ w. FieldAgain k a j g.form g.value_type (stored_payloads (Some f) (kept_value (Some f) w)) (kept_value (Some g) w)) (sym same)
    (value_carried pairs k a j older f g v l.form l.type (checked_field older f (found_valid older (known older A) n f s.checked found)) stored.valid stored.order none) in
    subst (λ c. Edited (λ B rs. list_all (record_allowed k a (known newer B)) rs) (meaning_by j newer) B c (set_at (n ∷ []) v (meaning_by j newer B rs))) (sym (in_found older A n (table (meaning_at i (known older A) rs) (record_numbers rs)) f (λ schema fields f es. set_field fields f v es) found))
    (subst (λ d. Edited (λ B rs. list_all (record_allowed k a (known newer B)) rs) (meaning_by j newer) B (ContentOf older A (set_field (known older A) f v (table (meaning_at i (known older A) rs) (record_numbers rs)))) d)
    (sym (in_found newer B n (table (meaning_at j (known newer B) rs) (record_numbers rs)) g (λ schema fields f es. set_field fields f v es) b.found))
    (set_edited pairs k i a j older newer A B rs n f g (kept_value (Some f) (kept_inside v)) (kept_value (Some g) (kept_inside v)) s found l again))

-- A MESSAGE

-- what is lent of a field of one message
lent_message : (inner : MeansInside) (schema : Schema) (fields : List Field) (rs : List Record) (n U : ℕ) (f : Field) → field_of fields n ≡ Some f → f.form ≡ Singular → message_of_kind f.value_type.kind ≡ Some U → inner U [] ≡ empty schema U →
    value_or_default schema f (table (meaning_at inner fields rs) (record_numbers rs)) ≡ MessageValue (inner U (joined (payloads (survive fields f (flat_map (value_records fields) rs)))))
lent_message inner schema fields rs n U f found form e nothing =
    ap (λ (o : Option Value). elim o [ None ↦ default_value schema f.form f.value_type | Some v ↦ v ]) (stored ∙ by_form ∙ by_kind f.value_type.kind ps e)
    ∙ ap (λ c. elim (message_value inner U ps) [ None ↦ default_value schema c f.value_type | Some v ↦ v ]) form ∙ by_payloads ps
  where
    ps : List Payload
    ps = payloads (survive fields f (flat_map (value_records fields) rs))

    stored : value_at f.number (table (meaning_at inner fields rs) (record_numbers rs)) ≡ surviving_value inner fields f (flat_map (value_records fields) rs)
    stored = ap (λ (s : Slot). s.value) (slot_table (meaning_at inner fields rs) f.number (record_numbers rs) (numbers_ascending rs) (meaning_covers inner fields rs))
        ∙ ap (λ o. o >>= λ f. surviving_value inner fields f (flat_map (value_records fields) rs)) (ap (field_of fields) (field_number fields n f found) ∙ found)

    by_form : surviving_value inner fields f (flat_map (value_records fields) rs) ≡ one_value inner f.value_type f.value_type.kind (payloads (survive fields f (flat_map (value_records fields) rs)))
    by_form = ap (λ c. field_value inner c f.value_type ps) form

    by_kind : (kind : Kind) (ps : List Payload) → message_of_kind kind ≡ Some U → one_value inner f.value_type kind ps ≡ message_value inner U ps
    by_kind (ScalarOf kind) ps e = cc
    by_kind (MessageOf V) ps e = ap (λ (o : Option ℕ). message_value inner (elim o [ None ↦ V | Some x ↦ x ]) ps) e
    by_kind (GroupOf V) ps e = ap (λ (o : Option ℕ). message_value inner (elim o [ None ↦ V | Some x ↦ x ]) ps) e

    default : (kind : Kind) → message_of_kind kind ≡ Some U → default_of schema f.value_type kind ≡ MessageValue (empty schema U)
    default (ScalarOf kind) e = cc
    default (MessageOf V) e = ap (λ (o : Option ℕ). MessageValue (empty schema (elim o [ None ↦ V | Some x ↦ x ]))) e
    default (GroupOf V) e = ap (λ (o : Option ℕ). MessageValue (empty schema (elim o [ None ↦ V | Some x ↦ x ]))) e

    by_payloads : (ps : List Payload) → (elim (message_value inner U ps) [ None ↦ default_value schema Singular f.value_type | Some v ↦ v ]) ≡ MessageValue (inner U (joined ps))
    by_payloads [] = default f.value_type.kind e ∙ ap MessageValue (sym nothing)
    by_payloads (p ∷ ps) = refl

-- a message is kept as its content is
kept_message : (f : Field) (c : Content) → f.form ≡ Singular → kept c ≡ c → kept_value (Some f) (kept_inside (MessageValue c)) ≡ Some (MessageValue c)
kept_message f c form e = ap (λ c. kept_value (Some f) (MessageValue c)) e ∙ kept_by f Singular (MessageValue c) form

-- what is known one level down of a set at the rest of the path
pub record EditsInside (pairs : TypePairs) (i : MeansInside) (a : AllowsInside) (j : MeansInside) (older : Schema) (path : List ℕ) (v : Value) : Type 0 where
  pub edited : (A B : ℕ) (rs : List Record) → holds pairs A B ≡ true → valid (body_of rs) ≡ true → a B rs ≡ true → PathTo older A path v → Edited a j B (set_at path v (i A rs)) (set_at path v (j B rs))
  pub kept_older : (A B : ℕ) (rs : List Record) → holds pairs A B ≡ true → valid (body_of rs) ≡ true → a B rs ≡ true → PathTo older A path v → kept (set_at path v (i A rs)) ≡ set_at path v (i A rs)
  pub kept_newer : (A B : ℕ) (rs : List Record) → holds pairs A B ≡ true → valid (body_of rs) ≡ true → a B rs ≡ true → PathTo older A path v → kept (set_at path v (j B rs)) ≡ set_at path v (j B rs)

of_type : (kind : Kind) (U : ℕ) → message_of_kind kind ≡ Some U → is_of_type kind U ≡ true
of_type (ScalarOf kind) U e = cc
of_type (MessageOf V) U e = eq-eqb U V (ap (λ (o : Option ℕ). elim o [ None ↦ U | Some x ↦ x ]) (sym e))
of_type (GroupOf V) U e = eq-eqb U V (ap (λ (o : Option ℕ). elim o [ None ↦ U | Some x ↦ x ]) (sym e))

-- a message set in a content
message_set : (inner : MeansInside) (schema : Schema) (T : ℕ) (rs : List Record) (n m U : ℕ) (path : List ℕ) (v : Value) (f : Field) (ps : List Payload) → field_of (known schema T) n ≡ Some f → f.form ≡ Singular → message_of_kind f.value_type.kind ≡ Some U → inner U [] ≡ empty schema U →
    payloads (survive (known schema T) f (flat_map (value_records (known schema T)) rs)) ≡ ps → kept (set_at (m ∷ path) v (inner U (joined ps))) ≡ set_at (m ∷ path) v (inner U (joined ps)) →
    set_at (n ∷ m ∷ path) v (meaning_by inner schema T rs) ≡ ContentOf schema T (with_field_value (known schema T) f (Some (MessageValue (set_at (m ∷ path) v (inner U (joined ps))))) (table (meaning_at inner (known schema T) rs) (record_numbers rs)))
message_set inner schema T rs n m U path v f ps found form e nothing same stays =
    let es : Entries = table (meaning_at inner (known schema T) rs) (record_numbers rs) in
    in_found schema T n es f (λ schema fields f es. set_field fields f (in_message (value_or_default schema f es) (set_at (m ∷ path) v)) es) found
    ∙ ap (λ w. ContentOf schema T (set_field (known schema T) f (in_message w (set_at (m ∷ path) v)) es))
    (lent_message inner schema (known schema T) rs n U f found form e nothing ∙ ap (λ ps. MessageValue (inner U (joined ps))) same)
    ∙ ap (λ o. ContentOf schema T (with_field_value (known schema T) f o es)) (kept_message f (set_at (m ∷ path) v (inner U (joined ps))) form stays)

message_edited : (pairs : TypePairs) (k : ℕ) (i : MeansInside) (a : AllowsInside) (j : MeansInside) (older newer : Schema) (A B : ℕ) (rs : List Record) (n m : ℕ) (path : List ℕ) (v : Value) (f g : Field) (U V : ℕ) → Step pairs k i a j older newer A B rs → nat_lt 0 k ≡ true →
    i U [] ≡ empty older U → j V [] ≡ empty newer V → EditsInside pairs i a j older (m ∷ path) v → field_of (known older A) n ≡ Some f → field_of (known newer B) n ≡ Some g → Like pairs (known older A) (known newer B) f g → f.form ≡ Singular → g.form ≡ Singular →
    message_of_kind f.value_type.kind ≡ Some U → message_of_kind g.value_type.kind ≡ Some V → holds pairs U V ≡ true → PathTo older U (m ∷ path) v →
    Edited (λ B rs. list_all (record_allowed k a (known newer B)) rs) (meaning_by j newer) B (set_at (n ∷ m ∷ path) v (meaning_by i older A rs)) (set_at (n ∷ m ∷ path) v (meaning_by j newer B rs))
message_edited pairs k i a j older newer A B rs n m path v f g U V s level nothingA nothingB inside found foundB l form formB e e' h to =
    subst (λ c. Edited (λ B rs. list_all (record_allowed k a (known newer B)) rs) (meaning_by j newer) B c (set_at (n ∷ m ∷ path) v (meaning_by j newer B rs)))
    (sym (message_set i older A rs n m U path v f ps found form e nothingA same (inside.kept_older U V (joined ps) h ok fits to)))
    (subst (λ d. Edited (λ B rs. list_all (record_allowed k a (known newer B)) rs) (meaning_by j newer) B (ContentOf older A (with_field_value (known older A) f (Some (MessageValue older_message)) (table (meaning_at i (known older A) rs) (record_numbers rs)))) d)
    (sym (message_set j newer B rs n m V path v g ps foundB formB e' nothingB refl (inside.kept_newer U V (joined ps) h ok fits to)))
    (set_edited pairs k i a j older newer A B rs n f g (Some (MessageValue older_message)) (Some (MessageValue newer_message)) s found l again))
  where
    ps : List Payload
    ps = payloads (survive (known newer B) g (flat_map (value_records (known newer B)) rs))

    same : payloads (survive (known older A) f (flat_map (value_records (known older A)) rs)) ≡ payloads (survive (known newer B) g (flat_map (value_records (known newer B)) rs))
    same = ap payloads (sym (same_survivors pairs (known older A) (known newer B) n f g rs s.match found l))

    sources : list_all (single_source a g.value_type.kind) (payloads (survive (known newer B) g (flat_map (value_records (known newer B)) rs))) ≡ true
    sources = ap (λ c. list_all (source k a c g.value_type) ps) (sym formB) ∙ survivors_source k a (known newer B) rs n g foundB s.spelt s.allowed

    ok : valid (body_of (joined (payloads (survive (known newer B) g (flat_map (value_records (known newer B)) rs))))) ≡ true
    ok = joined_valid ps (sources_valid a g.value_type.kind ps sources).0

    fits : a V (joined (payloads (survive (known newer B) g (flat_map (value_records (known newer B)) rs)))) ≡ true
    fits = message_records k a g.value_type.kind V ps s.carries.join s.carries.nothing level (of_type g.value_type.kind V e') (sources_valid a g.value_type.kind ps sources).1

    older_message : Content
    older_message = set_at (m ∷ path) v (i U (joined (payloads (survive (known newer B) g (flat_map (value_records (known newer B)) rs)))))

    newer_message : Content
    newer_message = set_at (m ∷ path) v (j V (joined (payloads (survive (known newer B) g (flat_map (value_records (known newer B)) rs)))))

    inner : Edited a j V (set_at (m ∷ path) v (i U (joined (payloads (survive (known newer B) g (flat_map (value_records (known newer B)) rs)))))) (set_at (m ∷ path) v (j V (joined (payloads (survive (known newer B) g (flat_map (value_records (known newer B)) rs))))))
    inner = inside.edited U V (joined ps) h ok fits to

    again : FieldAgain k a j g.form g.value_type (stored_payloads (Some f) (Some (MessageValue (set_at (m ∷ path) v (i U (joined (payloads (survive (known newer B) g (flat_map (value_records (known newer B)) rs)))))))))
        (Some (MessageValue (set_at (m ∷ path) v (j V (joined (payloads (survive (known newer B) g (flat_map (value_records (known newer B)) rs))))))))
    again = subst (λ c. FieldAgain k a j c g.value_type (stored_payloads (Some f) (Some (MessageValue older_message))) (Some (MessageValue newer_message))) (sym formB)
        (value_again k a j f g.value_type (MessageValue older_message) (MessageValue newer_message) tt
        (written_again pairs a j f.value_type.kind g.value_type.kind V older_message newer_message l.type.kind (of_type g.value_type.kind V e') inner.sound inner.allowed inner.same))

path_edited : (pairs : TypePairs) (k : ℕ) (i : MeansInside) (a : AllowsInside) (j : MeansInside) (older newer : Schema) (A B : ℕ) (rs : List Record) (n m : ℕ) (path : List ℕ) (v : Value) (f : Field) (U : ℕ) → Step pairs k i a j older newer A B rs → nat_lt 0 k ≡ true →
    ((U : ℕ) → i U [] ≡ empty older U) → ((V : ℕ) → j V [] ≡ empty newer V) → EditsInside pairs i a j older (m ∷ path) v →
    field_of (known older A) n ≡ Some f → f.form ≡ Singular → message_of_kind f.value_type.kind ≡ Some U → PathTo older U (m ∷ path) v →
    Edited (λ B rs. list_all (record_allowed k a (known newer B)) rs) (meaning_by j newer) B (set_at (n ∷ m ∷ path) v (meaning_by i older A rs)) (set_at (n ∷ m ∷ path) v (meaning_by j newer B rs))
path_edited pairs k i a j older newer A B rs n m path v f U s level nothingA nothingB inside found form e to =
    let b : BothKnow pairs (known older A) (known newer B) n f = both_know pairs k i a j older newer A B rs n f s found in
    let (V, e', h) = message_like pairs f.value_type.kind b.field.value_type.kind U b.like.type.kind e in
    message_edited pairs k i a j older newer A B rs n m path v f b.field U V s level (nothingA U) (nothingB V) inside found b.found b.like form (single_like pairs f.form b.field.form form b.like.form) e e' h to

-- AT ALL LEVELS

-- what a set leaves is kept as it is
set_kept : (schema : Schema) (k T : ℕ) (rs : List Record) (path : List ℕ) (v : Value) → schema_valid schema ≡ true → valid (body_of rs) ≡ true → allows schema k T rs ≡ true → PathTo schema T path v → kept (set_at path v (meaning schema k T rs)) ≡ set_at path v (meaning schema k T rs)
set_kept schema k T rs path v checked ok allowed to =
    let c : Content = meaning schema k T rs in
    let schema_same : schema_of (meaning schema k T rs) ≡ schema = meaning_schema schema k T rs in
    let type_same : type_of (meaning schema k T rs) ≡ T = meaning_type schema k T rs in
    kept_content (set_at path v c) (set_well path v c (ap schema_valid schema_same ∙ checked) (meaning_typed schema k T rs checked ok allowed)
    (subst (λ (s : Schema). PathTo s (type_of c) path v) (sym schema_same) (subst (λ (n : ℕ). PathTo schema n path v) (sym type_same) to)))

pub edited_at : (pairs : TypePairs) (older newer : Schema) (k : ℕ) (path : List ℕ) (v : Value) (A B : ℕ) (rs : List Record) → schema_valid older ≡ true → schema_valid newer ≡ true → AllMatch pairs older newer → length path ≤ suc k → holds_message v ≡ false →
    holds pairs A B ≡ true → valid (body_of rs) ≡ true → allows newer k B rs ≡ true → PathTo older A path v → Edited (allows newer k) (meaning newer k) B (set_at path v (meaning older k A rs)) (set_at path v (meaning newer k B rs))
unfolding meaning allows
edited_at pairs older newer k [] v A B rs cA cB all short none h ok e to = absurd to
edited_at pairs older newer zero (n ∷ []) v A B rs cA cB all short none h ok e (f, found, stored) =
    leaf_edited pairs 0 (empty_inside older) nothing_inside (empty_inside newer) older newer A B rs n f v (step_zero pairs older newer A B rs cA all h ok e) found stored none
edited_at pairs older newer (suc k) (n ∷ []) v A B rs cA cB all short none h ok e (f, found, stored) =
    leaf_edited pairs (suc k) (meaning older k) (allows newer k) (meaning newer k) older newer A B rs n f v (step_next pairs older newer k A B rs cA all h ok e) found stored none
edited_at pairs older newer zero (n ∷ m ∷ path) v A B rs cA cB all short none h ok e to = absurd (omega arith)
edited_at pairs older newer (suc k) (n ∷ m ∷ path) v A B rs cA cB all short none h ok e (f, found, form, (U, is, rest)) =
    path_edited pairs (suc k) (meaning older k) (allows newer k) (meaning newer k) older newer A B rs n m path v f U (step_next pairs older newer k A B rs cA all h ok e) (lt-ltb 0 (suc k) (omega arith))
    (meaning_empty older k) (meaning_empty newer k)
    (record {
      edited = λ A B rs h ok e to. edited_at pairs older newer k (m ∷ path) v A B rs cA cB all (omega arith) none h ok e to;
      kept_older = λ A B rs h ok e to. set_kept older k A rs (m ∷ path) v cA ok (allows_smaller pairs older newer k A B rs all h e) to;
      kept_newer = λ A B rs h ok e to. set_kept newer k B rs (m ∷ path) v cB ok e (path_like pairs older newer A B (m ∷ path) v all h none to);
    })
    found form is rest

-- BYTES

-- what was edited through the older type, the newer one accepts, with the value set
pub edit_related : (older newer : Schema) (k A B : ℕ) (bytes : List ℕ) (path : List ℕ) (v : Value) (again : List ℕ) → schema_valid older ≡ true → schema_valid newer ≡ true → AreBytes bytes → Relates older A newer B → length path ≤ suc k → PathTo older A path v → holds_message v ≡ false →
    Accepts newer k B bytes → edited older k A bytes path v ≡ Some again → length again < 2 ^ 64 → Accepts newer k B again × (decoded newer k B again ≡ (decoded newer k B bytes >>= λ d. Some (set_at path v d)))
edit_related older newer k A B bytes path v again cA cB small r short to none acc e fits =
    let ok : valid (body_of (items acc.records)) ≡ true = accepted_valid newer k B bytes acc small in
    let here : Edited (allows newer k) (meaning newer k) B (set_at path v (meaning older k A (items acc.records))) (set_at path v (meaning newer k B (items acc.records))) =
    edited_at r.pairs older newer k path v A B (items acc.records) cA cB r.all short none r.first ok acc.allowed to in
    let same : encoded (set_at path v (meaning older k A (items acc.records))) ≡ again =
    ap (λ (o : Option (List ℕ)). elim o [ None ↦ again | Some x ↦ x ]) (sym (ap (λ (o : Option Content). o >>= λ c. Some (encoded (set_at path v c))) (older_decoded older newer k A B bytes r acc)) ∙ e) in
    let (accepts, read) = written_read newer k B (set_at path v (meaning older k A (items acc.records))) (set_at path v (meaning newer k B (items acc.records))) here.sound here.allowed here.same (subst (λ (x : List ℕ). length x < 2 ^ 64) (sym same) fits) in
    subst (λ (x : List ℕ). Accepts newer k B x × (decoded newer k B x ≡ (decoded newer k B bytes >>= λ d. Some (set_at path v d)))) same
    (accepts, read ∙ sym (ap (λ (o : Option Content). o >>= λ d. Some (set_at path v d)) (accepted_decoded newer k B bytes acc)))
