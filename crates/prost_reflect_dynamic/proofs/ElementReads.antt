-- Messages and groups read as elements of the list of their field.
use Rattle.std.specs.Prelude.{◌≡◌, ◌++◌, ◌∷◌}
use Rattle.prost_reflect_dynamic.proofs.Common.{ℕ, suc, Bool, true, false, List, [], Option, Some, None, refl, sym, ap, ◌∙◌, subst, Vec, unwrap_or, map, Global, map-append, DecodeError, WireType, KeyFront, Field, known, field_of, is_map, Content, ContentOf, MessageValue, ListValue, NoValues, ◌and_then◌, empty, value_at, entries_of, schema_of, type_of, values_from, WellStored, with_field_value, message_of_kind, Step, StandsBehindKey, field_number, IsListed, FoundNested, DynamicMessage, Value, value_set, schema_at, IsList, IsListOrNone, with_element, nested_kind, NestedList, ReadInside, NestedRead, StandsBehindNested, value_of, content_of, message_type_of}
use Rattle.prost_reflect_wire.specs.declared.key.WireType.TheVariants as wires
use Rattle.prost_reflect_wire.specs.Content as contents
use Rattle.prost_reflect_laws.proofs.ElementSteps.{ManyMessages, elements_at, message_element_holds, group_element_holds}
use Rattle.prost_reflect_dynamic.specs.declared.value.Value as values
use Rattle.prost_reflect_dynamic.proofs.Merging.{known_in, differ_in}
use Rattle.prost_reflect_dynamic.proofs.NestedReads.{behind_inside, schema_in, step_set, whole}
use Rattle.prost_reflect_rows.proofs.RowKinds.{message_named}
use Rattle.prost_reflect_dynamic.proofs.Views.{value_of_list}

-- THE LIST

module _ (m : DynamicMessage) (n T : ℕ) (g : Bool) (at : NestedList (message_type_of m) n T g) where
  found_here : field_of (known (schema_of (content_of m)) (type_of (content_of m))) n ≡ Some at.field
  found_here = ap (λ fields. field_of fields n) (known_in m) ∙ at.found

  pub found_element : FoundNested (schema_of (content_of m)) (type_of (content_of m)) n T (nested_kind g T)
  found_element = record { field = at.field; found = found_here; form = ap is_map at.form; kind_is = at.kind_is; names = message_named g T }

  many_of : ManyMessages at.field T
  many_of = record { packed = at.packed; form = at.form; names = ap message_of_kind at.kind_is ∙ message_named g T }

  -- at the number stands a list, or nothing yet
  pub list_or_none : WellStored (content_of m) → IsListOrNone (value_at n (entries_of (content_of m)))
  list_or_none sound = of (content_of m) sound found_here
    where
      listed : (o : Option contents.Value) → IsListed o → IsListOrNone o
      listed None l = tt
      listed (Some (ListValue vs)) l = tt
      listed (Some v) l = absurd l

      of : (c : Content) → WellStored c → field_of (known (schema_of c) (type_of c)) n ≡ Some at.field → IsListOrNone (value_at n (entries_of c))
      of (ContentOf schema U es) sound found = listed (value_at n es) (let here = elements_at schema U es sound n at.field found at.packed at.form in here.listed)

-- what is lent of it is a list
pub lent_or_empty : (o : Option contents.Value) (default v : contents.Value) → IsListOrNone o → default ≡ ListValue NoValues → v ≡ unwrap_or o default → IsList v
lent_or_empty None default v l d e = subst IsList (sym (e ∙ d)) tt
lent_or_empty (Some w) default v l d e = subst IsList (sym e) l

pub with_lent : (o : Option contents.Value) (default v w : contents.Value) → default ≡ ListValue NoValues → v ≡ unwrap_or o default → with_element (Some v) w ≡ with_element o w
with_lent None default v w d e = ap (λ v. with_element (Some v) w) (e ∙ d)
with_lent (Some u) default v w d e = ap (λ v. with_element (Some v) w) e

-- an element behind others
from_append : (vs : List contents.Value) (w : contents.Value) → values_from (vs ++ w ∷ []) ≡ (values_from vs and_then contents.Item w NoValues)
from_append [] w = refl
from_append (v ∷ vs) w = ap (contents.Item v) (from_append vs w)

pub element_pushed : (v : Value) (olds : List Value) (news : Vec Value Global) (w : Value) → value_of v ≡ ListValue (values_from (map value_of olds)) → news.items ≡ olds ++ w ∷ [] → value_of (values.List news) ≡ with_element (Some (value_of v)) (value_of w)
element_pushed v olds news w is e =
    value_of_list news ∙ ap (λ l. ListValue (values_from l)) (ap (map value_of) e ∙ map-append value_of olds (w ∷ []))
    ∙ ap ListValue (from_append (map value_of olds) (value_of w))
    ∙ ap (λ v. with_element (Some v) (value_of w)) (sym is)

-- THE ELEMENT

-- an empty message of the type
pub record EmptyElement (m inner : DynamicMessage) (T : ℕ) : Type 0 where
  pub schema_is : schema_of (content_of inner) ≡ schema_of (content_of m)
  pub type_is : type_of (content_of inner) ≡ T
  pub sound : WellStored (content_of inner)
  pub is : content_of inner ≡ empty (schema_of (content_of m)) T

pub empty_element : (m inner : DynamicMessage) (T : ℕ) → content_of inner ≡ empty (schema_at (message_type_of m)) T → EmptyElement m inner T
empty_element m inner T is =
    let same : content_of inner ≡ empty (schema_of (content_of m)) T = is ∙ ap (λ s. empty s T) (sym (schema_in m)) in
    record {
      schema_is = ap schema_of same;
      type_is = ap type_of same;
      sound = subst WellStored (sym same) (record { fits = refl; types = tt; order = refl; members = refl });
      is = same;
    }

-- ONE MORE RECORD

module _ (m inner done new : DynamicMessage) (n T levels : ℕ) (g : Bool) (w : WireType) (sound : WellStored (content_of m)) (at : NestedList (message_type_of m) n T g) (fresh : EmptyElement m inner T)
    (set : content_of new ≡ value_set n (with_element (value_at n (entries_of (content_of m))) (MessageValue (content_of done))) (content_of m)) where
  abbrev fields : List Field
  fields = known (schema_of (content_of m)) (type_of (content_of m))

  abbrev old : Content
  old = ContentOf (schema_of (content_of m)) (type_of (content_of m)) (entries_of (content_of m))

  abbrev joined : ℕ → Content
  joined i = ContentOf (schema_of (content_of m)) (type_of (content_of m)) (with_field_value fields at.field (Some (with_element (value_at i (entries_of (content_of m))) (MessageValue (content_of done)))) (entries_of (content_of m)))

  here : field_of fields n ≡ Some at.field
  here = found_here m n T g at

  number : at.field.number ≡ n
  number = field_number fields n at.field here

  at_number : (k : ℕ) (bytes rest : List ℕ) (g : Bool) → at.field.value_type.kind ≡ nested_kind g T → ManyMessages at.field T → ReadInside g k n w (empty (schema_of (content_of m)) T) (content_of done) bytes rest →
      Step (suc k) at.field.number w old (joined at.field.number) bytes rest
  at_number k bytes rest true kind many (wire, group) = let progress = group.progress in
      subst (λ w. Step (suc k) at.field.number w old (joined at.field.number) bytes rest) (sym wire)
      (group_element_holds (schema_of (content_of m)) (type_of (content_of m)) (entries_of (content_of m)) (subst WellStored (sym (whole (content_of m))) sound) (differ_in m) at.field (ap (field_of fields) number ∙ here) T many
      (content_of done) progress.holds k bytes group.end rest kind progress.read (subst (λ i. KeyFront i wires.EndGroup group.end rest) (sym number) group.stop))
  at_number k bytes rest false kind many r = let progress = r.progress in
      subst (λ w. Step (suc k) at.field.number w old (joined at.field.number) bytes rest) (sym r.wire)
      (message_element_holds (schema_of (content_of m)) (type_of (content_of m)) (entries_of (content_of m)) (subst WellStored (sym (whole (content_of m))) sound) (differ_in m) at.field (ap (field_of fields) number ∙ here) T many
      (content_of done) progress.holds k r.body bytes rest kind progress.read r.front)

  pub element_step : (bytes rest : List ℕ) → NestedRead g levels n w (content_of inner) (content_of done) bytes rest → Step levels n w (content_of m) (content_of new) bytes rest
  element_step bytes rest read =
      let r : NestedRead g levels n w (empty (schema_of (content_of m)) T) (content_of done) bytes rest = subst (λ c. NestedRead g levels n w c (content_of done) bytes rest) fresh.is read in
      step_set (content_of m) (content_of new) levels n w at.field (with_element (value_at n (entries_of (content_of m))) (MessageValue (content_of done))) bytes rest here set
      (subst (λ l. Step l n w old (joined n) bytes rest) (sym r.left) (subst (λ i. Step (suc r.inside) i w old (joined i) bytes rest) number (at_number r.inside bytes rest g at.kind_is (many_of m n T g at) r.read)))

-- what is refused of it
pub element_refused : (m inner : DynamicMessage) (n T levels : ℕ) (g : Bool) (w : WireType) → NestedList (message_type_of m) n T g → EmptyElement m inner T → (e : DecodeError) (bytes : List ℕ) →
    StandsBehindNested (schema_of (content_of inner)) levels n (nested_kind g (type_of (content_of inner))) w e bytes → StandsBehindKey (content_of m) levels n w e bytes
element_refused m inner n T levels g w at fresh e bytes stands = behind_inside m inner n T levels g w (found_element m n T g at) fresh.schema_is fresh.type_is e bytes stands
