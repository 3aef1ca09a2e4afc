-- Records of lists read into a message.
use Rattle.std.specs.Prelude.{◌≡◌, ◌∷◌, ◌++◌}
use Rattle.prost_reflect_dynamic.proofs.Common.{ℕ, Bool, true, List, [], map, Option, Some, None, refl, sym, ap, ◌∙◌, subst, unwrap_or, Vec, Global, WireType, DecodeError, AreBytes, ScalarKind, ScalarOf, Repeated, Field, known, field_of, numbers_differ, Content, ContentOf, ListValue, NoValues, Item, values_from, ◌and_then◌, schema_of, type_of, entries_of, value_at, values_in, WellStored, with_field_value, OfType, Step, ElementsRead, StandsBehindKey, field_number, IsListed, TableKind, DynamicMessage, Value, known_of, value_of, content_of, message_type_of, value_set, AddsElements, RefusesElements, JoinsElements, IsList, ListField}
use Rattle.prost_reflect_wire.specs.Content as contents
use Rattle.prost_reflect_proto.proofs.FieldsFound.{field_stands}
use Rattle.prost_reflect_laws.proofs.ListReads.{IsOpen, stored_list, list_holds}
use Rattle.prost_reflect_dynamic.specs.declared.value.Value as values
use Rattle.prost_reflect_dynamic.proofs.Views.{value_of_list}
use Rattle.prost_reflect_dynamic.proofs.Merging.{known_in, differ_in, same_kind}

-- A LIST

pub from_append : (vs ws : List contents.Value) → values_from (vs ++ ws) ≡ (values_from vs and_then values_from ws)
from_append [] ws = refl
from_append (v ∷ vs) ws = ap (Item v) (from_append vs ws)

pub list_joined : (kind : TableKind) (w : WireType) (v : Value) (olds : List Value) (news : Vec Value Global) (bytes rest : List ℕ) → value_of v ≡ ListValue (values_from (map value_of olds)) → AddsElements kind w olds news.items bytes rest →
    JoinsElements kind w (value_of v) (value_of (values.List news)) bytes rest
list_joined kind w v olds news bytes rest is a = record {
  scalar_kind = a.scalar_kind;
  plain = a.plain;
  added = a.added;
  joined = value_of_list news ∙ ap (λ l. ListValue (values_from l)) a.appended ∙ ap ListValue (from_append (map value_of olds) a.added)
      ∙ ap (λ v. ListValue (values_in (Some v) and_then values_from a.added)) (sym is);
  read = a.read;
}

-- A CONTENT

-- elements were put behind those of the list at the number
joined_step : (levels n : ℕ) (w : WireType) (c d : Content) (f : Field) (packed : Bool) (kind : ScalarKind) (v : contents.Value) (vs : List contents.Value) (bytes rest : List ℕ) → WellStored c → numbers_differ (known (schema_of c) (type_of c)) ≡ true →
    field_of (known (schema_of c) (type_of c)) n ≡ Some f → f.form ≡ Repeated packed → f.value_type.kind ≡ ScalarOf kind → f.oneof ≡ None → IsOpen kind → AreBytes bytes → ElementsRead kind w vs bytes rest →
    v ≡ ListValue (values_in (value_at n (entries_of c)) and_then values_from vs) → d ≡ value_set n v c → Step levels n w c d bytes rest
joined_step levels n w (ContentOf schema T es) d f packed kind v vs bytes rest sound differ found form is alone whole small read value new =
    subst (λ d. Step levels n w (ContentOf schema T es) d bytes rest)
    (sym (new ∙ ap (λ v. value_set n v (ContentOf schema T es)) value
    ∙ ap (λ (o : Option Field). ContentOf schema T (elim o [ None ↦ es | Some f ↦ with_field_value (known schema T) f (Some (ListValue (values_in (value_at n es) and_then values_from vs))) es ])) found))
    (list_holds schema T es sound levels n f packed kind w vs bytes rest differ found form is alone whole small read)

-- at the number of a list stands a list, or nothing yet
pub listed_at : (c : Content) (n : ℕ) (f : Field) (packed : Bool) → WellStored c → field_of (known (schema_of c) (type_of c)) n ≡ Some f → f.form ≡ Repeated packed → IsListed (value_at n (entries_of c))
listed_at (ContentOf schema T es) n f packed sound found form =
    let number : f.number ≡ n = field_number (known schema T) n f found in
    let s = stored_list (known schema T) es f packed sound.fits (ap (field_of (known schema T)) number ∙ found) form in
    subst (λ m. IsListed (value_at m es)) number s.listed

list_or : (o : Option contents.Value) → IsListed o → IsList (unwrap_or o (ListValue NoValues))
list_or None h = tt
list_or (Some (ListValue vs)) h = tt
list_or (Some v) h = absurd h

pub values_or : (o : Option contents.Value) → values_in (Some (unwrap_or o (ListValue NoValues))) ≡ values_in o
values_or None = refl
values_or (Some v) = refl

-- MESSAGES

module _ (m : DynamicMessage) (n : ℕ) (kind : TableKind) (field : ListField (known_of (message_type_of m)) n kind) where
  found_in : field_of (known (schema_of (content_of m)) (type_of (content_of m))) n ≡ Some field.field
  found_in = ap (λ fields. field_of fields n) (known_in m) ∙ field.found

  -- what is lent is a list
  pub lent_list : (v default : contents.Value) → WellStored (content_of m) → default ≡ ListValue NoValues → v ≡ unwrap_or (value_at n (entries_of (content_of m))) default → IsList v
  lent_list v default sound d e =
      subst IsList (sym (e ∙ ap (unwrap_or (value_at n (entries_of (content_of m)))) d)) (list_or (value_at n (entries_of (content_of m))) (listed_at (content_of m) n field.field field.packed sound found_in field.form))

  pub elements_set : (new : DynamicMessage) (levels : ℕ) (w : WireType) (old v default : contents.Value) (bytes rest : List ℕ) → WellStored (content_of m) → AreBytes bytes →
      default ≡ ListValue NoValues → old ≡ unwrap_or (value_at n (entries_of (content_of m))) default → JoinsElements kind w old v bytes rest → content_of new ≡ value_set n v (content_of m) → Step levels n w (content_of m) (content_of new) bytes rest
  elements_set new levels w old v default bytes rest sound small d e j content =
      joined_step levels n w (content_of m) (content_of new) field.field field.packed j.scalar_kind v j.added bytes rest sound (differ_in m) found_in field.form
      (field.kind_is ∙ ap ScalarOf (same_kind field.plain j.plain)) field.alone (subst IsOpen (same_kind field.plain j.plain) (record { declared = field.whole })) small j.read
      (j.joined ∙ ap (λ old. ListValue (values_in (Some old) and_then values_from j.added)) (e ∙ ap (unwrap_or (value_at n (entries_of (content_of m)))) d)
      ∙ ap (λ vs. ListValue (vs and_then values_from j.added)) (values_or (value_at n (entries_of (content_of m))))) content

  pub elements_fault : (levels : ℕ) (w : WireType) (e : DecodeError) (rest : List ℕ) → RefusesElements kind w e rest → StandsBehindKey (content_of m) levels n w e rest
  elements_fault levels w e rest refused = λ bytes opened key closes.
      field_stands (schema_of (content_of m)) e (record { bytes = bytes; inside = OfType (type_of (content_of m)); levels = levels; open_group = opened }) n w rest field.field key found_in closes
      (refused.fault field.field field.packed field.form (field.kind_is ∙ ap ScalarOf (same_kind field.plain refused.plain)))
