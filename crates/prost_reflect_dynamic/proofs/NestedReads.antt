-- Messages and groups read into the message of their field.
use Rattle.std.specs.Prelude.{◌≡◌}
use Rattle.prost_reflect_dynamic.proofs.Common.{ℕ, suc, Bool, true, false, List, Option, Some, None, refl, sym, ap, ◌∙◌, subst, unwrap_or, option_map, WireType, DecodeError, KeyFront, Field, known, field_of, numbers_differ, is_map, Content, ContentOf, MessageValue, empty, value_at, schema_of, type_of, entries_of, WellStored, with_field_value, message_of_kind, Step, StandsBehindKey, field_number, OneMessage, ReadInto, Nested, FoundNested, nested_sound, message_holds, group_holds, DynamicMessage, Value, out-Value, Value-F, fold_out-Value, map-Value, schema_at, type_at, value_step, message_step, value_of, content_of, message_type_of, value_set, nested_kind, NestedField, ReadInside, NestedRead, StandsBehindNested, HeldMessage, ReadIntoHeld, StandsInHeld, message_in}
use Rattle.prost_reflect_wire.specs.declared.key.WireType.TheVariants as wires
use Rattle.prost_reflect_wire.specs.Content as contents
use Rattle.prost_reflect_dynamic.specs.declared.value.Value as values
use Rattle.prost_reflect_dynamic.proofs.NestedFaults.{behind_key}
use Rattle.prost_reflect_rows.proofs.RowKinds.{message_named}
use Rattle.prost_reflect_dynamic.proofs.Views.{content_of_message, value_of_message}
use Rattle.prost_reflect_dynamic.proofs.Merging.{differ_in, known_in}

pub schema_in : (m : DynamicMessage) → schema_of (content_of m) ≡ schema_at (message_type_of m)
schema_in m = ap schema_of (content_of_message m)

pub type_in : (m : DynamicMessage) → type_of (content_of m) ≡ type_at (message_type_of m)
type_in m = ap type_of (content_of_message m)

-- the field of the number, as the message's content knows it
abbrev pub found_in : (m : DynamicMessage) (n T : ℕ) (g : Bool) → NestedField (message_type_of m) n T g → FoundNested (schema_of (content_of m)) (type_of (content_of m)) n T (nested_kind g T)
found_in m n T g at = record { field = at.field; found = ap (λ fields. field_of fields n) (known_in m) ∙ at.found; form = ap is_map at.form; kind_is = at.kind_is; names = message_named g T }

one_of : (m : DynamicMessage) (n T : ℕ) (g : Bool) → (at : NestedField (message_type_of m) n T g) → OneMessage at.field T
one_of m n T g at = record { form = at.form; names = ap message_of_kind at.kind_is ∙ message_named g T }

-- what stands behind the key, as a message of the type sees it
pub behind_inside : (m inner : DynamicMessage) (n T levels : ℕ) (g : Bool) (w : WireType) → FoundNested (schema_of (content_of m)) (type_of (content_of m)) n T (nested_kind g T) → schema_of (content_of inner) ≡ schema_of (content_of m) → type_of (content_of inner) ≡ T →
    (e : DecodeError) (bytes : List ℕ) → StandsBehindNested (schema_of (content_of inner)) levels n (nested_kind g (type_of (content_of inner))) w e bytes → StandsBehindKey (content_of m) levels n w e bytes
behind_inside m inner n T levels g w found schema_is type_is e bytes stands =
    behind_key (content_of m) levels n T g w e bytes found
    (subst (λ s. StandsBehindNested s levels n (nested_kind g T) w e bytes) schema_is (subst (λ U. StandsBehindNested (schema_of (content_of inner)) levels n (nested_kind g U) w e bytes) type_is stands))

-- WHAT IS HELD

abbrev content_held : contents.Value → Option Content
content_held (MessageValue c) = Some c
content_held v = None

-- the message that a value holds is the one that its content is
held_content : (v : Value) → option_map content_of (message_in (out-Value v)) ≡ content_held (value_of v)
held_content v = go (out-Value v) ∙ ap content_held (sym (fold_out-Value contents.Value Content value_step message_step v))
  where
    go : (x : Value-F Value DynamicMessage) → option_map content_of (message_in x) ≡ content_held (value_step (map-Value Value DynamicMessage contents.Value Content value_of content_of x))
    go (Value-F.Bool b) = refl
    go (Value-F.I32 z) = refl
    go (Value-F.I64 z) = refl
    go (Value-F.U32 n) = refl
    go (Value-F.U64 n) = refl
    go (Value-F.F32 n) = refl
    go (Value-F.F64 n) = refl
    go (Value-F.String text) = refl
    go (Value-F.Bytes bytes) = refl
    go (Value-F.EnumNumber z) = refl
    go (Value-F.Message m) = refl
    go (Value-F.List vs) = refl
    go (Value-F.Map m) = refl

pub held_is : (v : Value) (m : DynamicMessage) → message_in (out-Value v) ≡ Some m → value_of v ≡ MessageValue (content_of m)
held_is v m e = only (value_of v) (sym (held_content v) ∙ ap (option_map content_of) e)
  where
    only : (w : contents.Value) → content_held w ≡ Some (content_of m) → w ≡ MessageValue (content_of m)
    only (MessageValue c) e = ap MessageValue (let same : c ≡ content_of m = cc in same)
    only (contents.ScalarValue s) e = cc
    only (contents.ListValue vs) e = cc
    only (contents.MapValue ps) e = cc

pub record IsHeld (v : Value) : Type 0 where
  pub message : DynamicMessage
  pub is : message_in (out-Value v) ≡ Some message

mapped_some : {A B : Type 0} (f : A → B) (o : Option A) (b : B) → option_map f o ≡ Some b → (a : A) × (o ≡ Some a)
mapped_some f None b h = cc
mapped_some f (Some a) b h = (a, refl)

pub held_of : (v : Value) (c : Content) → value_of v ≡ MessageValue c → IsHeld v
held_of v c e =
    let (m, is) = mapped_some content_of (message_in (out-Value v)) c (held_content v ∙ ap content_held e) in
    record { message = m; is = is }

-- WHAT IS LENT

lent_in : (c : Content) (n T : ℕ) (f : Field) (v default : contents.Value) → WellStored c → numbers_differ (known (schema_of c) (type_of c)) ≡ true → field_of (known (schema_of c) (type_of c)) n ≡ Some f → OneMessage f T → default ≡ MessageValue (empty (schema_of c) T) →
    v ≡ unwrap_or (value_at n (entries_of c)) default → Nested (schema_of c) T v
lent_in (ContentOf schema U es) n T f v default sound differ found one is lent = nested_sound schema U es sound differ n f found T one v (sym (lent ∙ ap (unwrap_or (value_at n es)) is))

-- the value that is lent for a field of one message is one
pub record LentMessage (m : DynamicMessage) (n T : ℕ) (v : Value) : Type 0 where
  pub content : Content
  pub is : value_of v ≡ MessageValue content
  pub schema_is : schema_of content ≡ schema_of (content_of m)
  pub type_is : type_of content ≡ T
  pub sound : WellStored content
  pub into : ReadInto (schema_of (content_of m)) T n (entries_of (content_of m)) content

pub lent_message : (m : DynamicMessage) (n T : ℕ) (g : Bool) (v : Value) → WellStored (content_of m) → NestedField (message_type_of m) n T g → value_of v ≡ unwrap_or (value_at n (entries_of (content_of m))) (MessageValue (empty (schema_at (message_type_of m)) T)) →
    LentMessage m n T v
lent_message m n T g v sound at lent =
    let empties : MessageValue (empty (schema_at (message_type_of m)) T) ≡ MessageValue (empty (schema_of (content_of m)) T) = ap (λ s. MessageValue (empty s T)) (sym (schema_in m)) in
    let found = found_in m n T g at in
    let nested : Nested (schema_of (content_of m)) T (value_of v) = lent_in (content_of m) n T at.field (value_of v) (MessageValue (empty (schema_at (message_type_of m)) T)) sound (differ_in m) found.found (one_of m n T g at) empties lent in
    record {
      content = nested.content;
      is = nested.is;
      schema_is = nested.schema_is;
      type_is = nested.type_is;
      sound = nested.sound;
      into = record { is = ap (unwrap_or (value_at n (entries_of (content_of m)))) (sym empties) ∙ sym lent ∙ nested.is };
    }

-- the message in it, which records are read into
pub record InsideMessage (m inner : DynamicMessage) (n T : ℕ) : Type 0 where
  pub schema_is : schema_of (content_of inner) ≡ schema_of (content_of m)
  pub type_is : type_of (content_of inner) ≡ T
  pub sound : WellStored (content_of inner)
  pub into : ReadInto (schema_of (content_of m)) T n (entries_of (content_of m)) (content_of inner)

pub inside_message : (m inner : DynamicMessage) (n T : ℕ) (v : Value) → LentMessage m n T v → value_of v ≡ MessageValue (content_of inner) → InsideMessage m inner n T
inside_message m inner n T v lent is =
    let same : lent.content ≡ content_of inner = one_content (sym lent.is ∙ is) in
    let schemas : schema_of (content_of inner) ≡ schema_of (content_of m) = ap schema_of (sym same) ∙ lent.schema_is in
    record {
      schema_is = schemas;
      type_is = ap type_of (sym same) ∙ lent.type_is;
      sound = subst WellStored same lent.sound;
      into = subst (ReadInto (schema_of (content_of m)) T n (entries_of (content_of m))) same lent.into;
    }
  where
    one_content : {c d : Content} → MessageValue c ≡ MessageValue d → c ≡ d
    one_content e = cc

-- the message that a lent value holds
pub held_message : (m : DynamicMessage) (n T : ℕ) (v : Value) → LentMessage m n T v → HeldMessage (message_in (out-Value v))
held_message m n T v lent =
    let held = held_of v lent.content lent.is in
    let at = inside_message m held.message n T v lent (held_is v held.message held.is) in
    record { message = held.message; is = held.is; sound = at.sound }

-- where nothing is there, records are read into an empty message
pub first_message : (m first : DynamicMessage) (n T : ℕ) (g : Bool) → WellStored (content_of m) → NestedField (message_type_of m) n T g → content_of first ≡ empty (schema_at (message_type_of m)) T → value_at n (entries_of (content_of m)) ≡ None → InsideMessage m first n T
first_message m first n T g sound at is none =
    let v = values.Message first in
    inside_message m first n T v (lent_message m n T g v sound at (value_of_message first ∙ ap MessageValue is ∙ sym (ap (λ o. unwrap_or o (MessageValue (empty (schema_at (message_type_of m)) T))) none))) (value_of_message first)

-- ONE MORE RECORD

pub set_in : (c : Content) (n : ℕ) (f : Field) (v : contents.Value) → field_of (known (schema_of c) (type_of c)) n ≡ Some f → value_set n v c ≡ ContentOf (schema_of c) (type_of c) (with_field_value (known (schema_of c) (type_of c)) f (Some v) (entries_of c))
set_in (ContentOf schema T es) n f v found = ap (λ (o : Option Field). ContentOf schema T (elim o [ None ↦ es | Some f ↦ with_field_value (known schema T) f (Some v) es ])) found

-- the content of a message, taken apart
pub whole : (c : Content) → ContentOf (schema_of c) (type_of c) (entries_of c) ≡ c
whole (ContentOf schema T es) = refl

-- a step that sets a value, as the definitions say it
pub step_set : (c d : Content) (levels n : ℕ) (w : WireType) (f : Field) (v : contents.Value) (bytes rest : List ℕ) → field_of (known (schema_of c) (type_of c)) n ≡ Some f → d ≡ value_set n v c →
    Step levels n w (ContentOf (schema_of c) (type_of c) (entries_of c)) (ContentOf (schema_of c) (type_of c) (with_field_value (known (schema_of c) (type_of c)) f (Some v) (entries_of c))) bytes rest → Step levels n w c d bytes rest
step_set (ContentOf schema T es) d levels n w f v bytes rest found set step = subst (λ d. Step levels n w (ContentOf schema T es) d bytes rest) (sym (set ∙ set_in (ContentOf schema T es) n f v found)) step

module _ (m inner done new : DynamicMessage) (n T levels : ℕ) (g : Bool) (w : WireType) (sound : WellStored (content_of m)) (field : NestedField (message_type_of m) n T g) (at : InsideMessage m inner n T)
    (set : content_of new ≡ value_set n (MessageValue (content_of done)) (content_of m)) where
  abbrev fields : List Field
  fields = known (schema_of (content_of m)) (type_of (content_of m))

  abbrev old : Content
  old = ContentOf (schema_of (content_of m)) (type_of (content_of m)) (entries_of (content_of m))

  abbrev joined : Content
  joined = ContentOf (schema_of (content_of m)) (type_of (content_of m)) (with_field_value fields field.field (Some (MessageValue (content_of done))) (entries_of (content_of m)))

  here : field_of fields n ≡ Some field.field
  here = let found = found_in m n T g field in found.found

  number : field.field.number ≡ n
  number = field_number fields n field.field here

  at_number : (k : ℕ) (bytes rest : List ℕ) (g : Bool) → field.field.value_type.kind ≡ nested_kind g T → OneMessage field.field T → ReadInside g k n w (content_of inner) (content_of done) bytes rest → Step (suc k) field.field.number w old joined bytes rest
  at_number k bytes rest true kind one (wire, group) = let progress = group.progress in
      subst (λ w. Step (suc k) field.field.number w old joined bytes rest) (sym wire)
      (group_holds (schema_of (content_of m)) (type_of (content_of m)) (entries_of (content_of m)) (subst WellStored (sym (whole (content_of m))) sound) (differ_in m) field.field (ap (field_of fields) number ∙ here) T one
      (content_of inner) (content_of done) (subst (λ i. ReadInto (schema_of (content_of m)) T i (entries_of (content_of m)) (content_of inner)) (sym number) at.into) at.schema_is at.type_is progress.holds k bytes group.end rest kind progress.read
      (subst (λ i. KeyFront i wires.EndGroup group.end rest) (sym number) group.stop))
  at_number k bytes rest false kind one r = let progress = r.progress in
      subst (λ w. Step (suc k) field.field.number w old joined bytes rest) (sym r.wire)
      (message_holds (schema_of (content_of m)) (type_of (content_of m)) (entries_of (content_of m)) (subst WellStored (sym (whole (content_of m))) sound) (differ_in m) field.field (ap (field_of fields) number ∙ here) T one
      (content_of inner) (content_of done) (subst (λ i. ReadInto (schema_of (content_of m)) T i (entries_of (content_of m)) (content_of inner)) (sym number) at.into) at.schema_is at.type_is progress.holds k r.body bytes rest kind progress.read r.front)

  pub nested_step : (bytes rest : List ℕ) → NestedRead g levels n w (content_of inner) (content_of done) bytes rest → Step levels n w (content_of m) (content_of new) bytes rest
  nested_step bytes rest r =
      step_set (content_of m) (content_of new) levels n w field.field (MessageValue (content_of done)) bytes rest here set
      (subst (λ l. Step l n w old joined bytes rest) (sym r.left) (subst (λ i. Step (suc r.inside) i w old joined bytes rest) number (at_number r.inside bytes rest g field.kind_is (one_of m n T g field) r.read)))

-- WHAT WAS READ INTO THE LENT VALUE, AND WHAT WAS REFUSED

module _ (m : DynamicMessage) (n T levels : ℕ) (g : Bool) (w : WireType) (v : Value) (sound : WellStored (content_of m)) (field : NestedField (message_type_of m) n T g) (lent : LentMessage m n T v) where
  pub read_in : (new : DynamicMessage) (after : contents.Value) (bytes rest : List ℕ) → ReadIntoHeld g levels n w (message_in (out-Value v)) after bytes rest → content_of new ≡ value_set n after (content_of m) → Step levels n w (content_of m) (content_of new) bytes rest
  read_in new after bytes rest r set =
      nested_step m r.before r.after new n T levels g w sound field (inside_message m r.before n T v lent (held_is v r.before r.was)) (set ∙ ap (λ x. value_set n x (content_of m)) r.is) bytes rest r.read

  pub refused_in : (e : DecodeError) (bytes : List ℕ) → StandsInHeld g levels n w (message_in (out-Value v)) e bytes → StandsBehindKey (content_of m) levels n w e bytes
  refused_in e bytes f =
      let at = inside_message m f.before n T v lent (held_is v f.before f.was) in
      behind_inside m f.before n T levels g w (found_in m n T g field) at.schema_is at.type_is e bytes f.stands

-- WHAT WAS READ INTO AN EMPTY MESSAGE, AND WHAT WAS REFUSED

module _ (m first : DynamicMessage) (n T levels : ℕ) (g : Bool) (w : WireType) (sound : WellStored (content_of m)) (field : NestedField (message_type_of m) n T g) (at : InsideMessage m first n T) where
  pub read_first : (done new : DynamicMessage) (bytes rest : List ℕ) → NestedRead g levels n w (content_of first) (content_of done) bytes rest → content_of new ≡ value_set n (value_of (values.Message done)) (content_of m) → Step levels n w (content_of m) (content_of new) bytes rest
  read_first done new bytes rest r set = nested_step m first done new n T levels g w sound field at (set ∙ ap (λ v. value_set n v (content_of m)) (value_of_message done)) bytes rest r

  pub refused_first : (e : DecodeError) (bytes : List ℕ) → StandsBehindNested (schema_of (content_of first)) levels n (nested_kind g (type_of (content_of first))) w e bytes → StandsBehindKey (content_of m) levels n w e bytes
  refused_first e bytes stands = behind_inside m first n T levels g w (found_in m n T g field) at.schema_is at.type_is e bytes stands
