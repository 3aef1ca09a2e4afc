-- A value set at a path through the message that a lent value holds.
use Rattle.std.specs.Prelude.{◌≡◌, ◌∷◌}
use Rattle.prost_reflect_dynamic.proofs.Common.{ℕ, true, false, List, [], length, nat_eq, Option, Some, None, ap, sym, ◌∙◌, subst, true≢false, unwrap_or, IfSome, Singular, Field, known, field_of, schema_valid, Content, ContentOf, MessageValue, empty, schema_of, type_of, entries_of, value_at, WellStored, default_value, message_of_kind, PathTo, known_differ, Nested, nested_sound, schema_at, known_of, IsStoredOr, IsLentOf, value_set, IsSetAt, HeldPath, SetInHeld, message_in, value_of, content_of, message_type_of, Value, out-Value, DynamicMessage}
use Rattle.prost_reflect_wire.specs.Content as contents
use Rattle.prost_reflect_dynamic.proofs.Merging.{known_in, valid_in}
use Rattle.prost_reflect_dynamic.proofs.NestedReads.{schema_in, held_is, held_of}
use Rattle.prost_reflect_rows.proofs.PathPlaces.{not_empty}
use Rattle.prost_reflect_dynamic.proofs.SetPaths.{default_message, set_one, set_more}

-- at its last number
pub set_last : (m : DynamicMessage) (d : Content) (n : ℕ) (path rest : List ℕ) (v : contents.Value) → WellStored (content_of m) → path ≡ n ∷ rest → nat_eq (length rest) 0 ≡ true → PathTo (schema_of (content_of m)) (type_of (content_of m)) path v →
    d ≡ value_set n v (content_of m) → IsSetAt path v (content_of m) d
set_last m d n path (k ∷ rest) v w e none to is = absurd (not_empty k rest none)
set_last m d n path [] v w e none to is =
    let (f, found, stored) = subst (λ p. PathTo (schema_of (content_of m)) (type_of (content_of m)) p v) e to in
    subst (λ p. IsSetAt p v (content_of m) d) (sym e) (subst (IsSetAt (n ∷ []) v (content_of m)) (sym is) (set_one (content_of m) n f v (valid_in m) w found stored))

-- THE MESSAGE ON THE WAY

lent_as : (m : DynamicMessage) (n U : ℕ) (f : Field) (lent : contents.Value) (o : Option contents.Value) → field_of (known_of (message_type_of m)) n ≡ Some f → f.form ≡ Singular → message_of_kind f.value_type.kind ≡ Some U → IsStoredOr (message_type_of m) n o lent →
    lent ≡ unwrap_or o (MessageValue (empty (schema_of (content_of m)) U))
lent_as m n U f lent (Some v) found single names h = h
lent_as m n U f lent None found single names h =
    subst (λ o. IfSome o (λ f. lent ≡ default_value (schema_at (message_type_of m)) f.form f.value_type)) found h
    ∙ ap (λ form. default_value (schema_at (message_type_of m)) form f.value_type) single
    ∙ default_message (schema_at (message_type_of m)) f.value_type f.value_type.kind U names
    ∙ ap (λ s. MessageValue (empty s U)) (sym (schema_in m))

nested_in : (c : Content) (n U : ℕ) (f : Field) (lent : contents.Value) → schema_valid (schema_of c) ≡ true → WellStored c → field_of (known (schema_of c) (type_of c)) n ≡ Some f → f.form ≡ Singular → message_of_kind f.value_type.kind ≡ Some U →
    lent ≡ unwrap_or (value_at n (entries_of c)) (MessageValue (empty (schema_of c) U)) → Nested (schema_of c) U lent
nested_in (ContentOf schema T es) n U f lent checked w found single names is = nested_sound schema T es w (known_differ schema T checked) n f found U (record { form = single; names = names }) lent (sym is)

one_content : {c d : Content} → MessageValue c ≡ MessageValue d → c ≡ d
one_content e = cc

pub held_path : (m : DynamicMessage) (n : ℕ) (path rest : List ℕ) (v : contents.Value) (lent : Value) → WellStored (content_of m) → path ≡ n ∷ rest → nat_eq (length rest) 0 ≡ false → PathTo (schema_of (content_of m)) (type_of (content_of m)) path v → IsLentOf m n lent →
    HeldPath rest v (message_in (out-Value lent))
held_path m n path [] v lent w e some to h = absurd (true≢false some)
held_path m n path (k ∷ rest) v lent w e some to h =
    let (f, found, single, (U, names, leads)) = subst (λ p. PathTo (schema_of (content_of m)) (type_of (content_of m)) p v) e to in
    let is = lent_as m n U f (value_of lent) (value_at n (entries_of (content_of m))) (ap (λ fields. field_of fields n) (sym (known_in m)) ∙ found) single names h in
    let nested : Nested (schema_of (content_of m)) U (value_of lent) = nested_in (content_of m) n U f (value_of lent) (valid_in m) w found single names is in
    let held = held_of lent nested.content nested.is in
    let same : nested.content ≡ content_of held.message = one_content {c = nested.content} {d = content_of held.message} (sym nested.is ∙ held_is lent held.message held.is) in
    record {
      message = held.message;
      is = held.is;
      sound = subst WellStored same nested.sound;
      leads = subst (λ c. PathTo (schema_of c) (type_of c) (k ∷ rest) v) same
          (subst (λ s. PathTo s (type_of nested.content) (k ∷ rest) v) (sym nested.schema_is) (subst (λ T. PathTo (schema_of (content_of m)) T (k ∷ rest) v) (sym nested.type_is) leads));
    }

pub set_through : (m : DynamicMessage) (d : Content) (n : ℕ) (path rest : List ℕ) (v after : contents.Value) (lent : Value) → WellStored (content_of m) → path ≡ n ∷ rest → nat_eq (length rest) 0 ≡ false → PathTo (schema_of (content_of m)) (type_of (content_of m)) path v → IsLentOf m n lent →
    SetInHeld rest v (message_in (out-Value lent)) after → d ≡ value_set n after (content_of m) → IsSetAt path v (content_of m) d
set_through m d n path [] v after lent w e some to h s set = absurd (true≢false some)
set_through m d n path (k ∷ rest) v after lent w e some to h s set =
    let (f, found, single, (U, names, leads)) = subst (λ p. PathTo (schema_of (content_of m)) (type_of (content_of m)) p v) e to in
    let is = lent_as m n U f (value_of lent) (value_at n (entries_of (content_of m))) (ap (λ fields. field_of fields n) (sym (known_in m)) ∙ found) single names h in
    let nested : Nested (schema_of (content_of m)) U (value_of lent) = nested_in (content_of m) n U f (value_of lent) (valid_in m) w found single names is in
    let there = held_is lent s.before s.was in
    let same : nested.content ≡ content_of s.before = one_content (sym nested.is ∙ there) in
    let done = set_more (content_of m) (content_of s.before) (content_of s.after) n k U rest f v (valid_in m) w found single names (sym is ∙ there) (ap schema_of (sym same) ∙ nested.schema_is) (ap type_of (sym same) ∙ nested.type_is) s.set in
    subst (λ p. IsSetAt p v (content_of m) d) (sym e) (subst (IsSetAt (n ∷ k ∷ rest) v (content_of m)) (sym (set ∙ ap (λ x. value_set n x (content_of m)) s.is)) done)
