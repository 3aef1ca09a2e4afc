-- A message that is lent, changed and left keeps what writing asks for of the message around it.
use Rattle.std.specs.Prelude.{◌≡◌}
use Rattle.prost_reflect_dynamic.proofs.Common.{ℕ, true, Option, Some, None, refl, ap, sym, ◌∙◌, subst, Kind, Field, Schema, field_of, passes, Content, MessageValue, schema_of, type_of, IsOf, is_of_type, kind_for, Typed, ValueTyped, fit_test, alone_test, value_passes, value_valid, WellStored, pool_contents, pool_rows, known_of, schema_at, type_at, takes_at, left_at, IsAscending, IsPart, IsWhole, LeavesMessage, Sets, StaysTyped, content_of, message_type_of, stored_in, value_of, DynamicMessage, StoredMessage, StoredInside, message_stored, value_stored, place_for, typed_as, typed_at}
use Rattle.prost_reflect_wire.specs.Content.{value_ordered}
use Rattle.prost_reflect_dynamic.specs.declared.value.Value as values
use Rattle.prost_reflect_dynamic.proofs.StoredViews.{stored_inside}
use Rattle.prost_reflect_dynamic.proofs.TypedSteps.{left_typed}
use Rattle.prost_reflect_dynamic.proofs.TypedValues.{message_stays}
use Rattle.prost_reflect_dynamic.proofs.Views.{content_of_message, value_of_message}

-- FIELDS OF MESSAGES

-- a field that takes one message takes any
any_fits : (o : Option Field) (c d : Content) → passes o (λ f. value_valid f (MessageValue c)) ≡ true → passes o (λ f. value_valid f (MessageValue d)) ≡ true
any_fits None c d h = h
any_fits (Some f) c d h = h

kinds_same : (o : Option Field) (c d : Content) → kind_for o (MessageValue c) ≡ kind_for o (MessageValue d)
kinds_same None c d = refl
kinds_same (Some f) c d = refl

places_same : (o : Option Field) (a b : StoredMessage) → place_for o (StoredInside a) ≡ place_for o (StoredInside b)
places_same None a b = refl
places_same (Some f) a b = refl

of_same : (schema : Schema) (o : Option Kind) (c d : Content) → schema_of d ≡ schema_of c → type_of d ≡ type_of c → IsOf schema o c → IsOf schema o d
of_same schema None c d s t h = absurd h
of_same schema (Some kind) c d s t h = (s ∙ h.0, ap (is_of_type kind) t ∙ h.1)

schema_is : (m : DynamicMessage) → schema_of (content_of m) ≡ schema_at (message_type_of m)
schema_is m = ap schema_of (content_of_message m)

type_is : (m : DynamicMessage) → type_of (content_of m) ≡ type_at (message_type_of m)
type_is m = ap type_of (content_of_message m)

-- WHAT IS LENT AND LEFT

module _ (m : DynamicMessage) (n : ℕ) (v : values.Value) (a b : DynamicMessage) (is : v ≡ values.Message a) where
  lent_is : value_of v ≡ MessageValue (content_of a)
  lent_is = ap value_of is ∙ value_of_message a

  left_valid : takes_at (message_type_of m) n v ≡ true → takes_at (message_type_of m) n (values.Message b) ≡ true
  left_valid h =
      let o = field_of (known_of (message_type_of m)) n in
      ap (λ w. passes o (λ f. value_valid f w)) (value_of_message b) ∙ any_fits o (content_of a) (content_of b) (sym (ap (λ w. passes o (λ f. value_valid f w)) lent_is) ∙ h)

  left_whole : message_type_of b ≡ message_type_of a → (WellStored (content_of a) → WellStored (content_of b)) → IsWhole (message_type_of m) n v → IsWhole (message_type_of m) n (values.Message b)
  left_whole type keeps whole =
      let t = message_type_of m in
      let o = field_of (known_of t) n in
      let types : IsOf (schema_at t) (kind_for o (MessageValue (content_of a))) (content_of a) × Typed (content_of a) = subst (λ w. ValueTyped (schema_at t) (kind_for o w) w) lent_is whole.types in
      let before : WellStored (content_of a) = record {
        fits = sym (ap (value_passes fit_test) lent_is) ∙ whole.fits;
        types = types.1;
        order = sym (ap value_ordered lent_is) ∙ whole.order;
        members = sym (ap (value_passes alone_test) lent_is) ∙ whole.members;
      } in
      let after : WellStored (content_of b) = keeps before in
      let there : IsOf (schema_at t) (kind_for o (MessageValue (content_of b))) (content_of b) =
      subst (λ k. IsOf (schema_at t) k (content_of b)) (kinds_same o (content_of a) (content_of b))
      (of_same (schema_at t) (kind_for o (MessageValue (content_of a))) (content_of a) (content_of b) (schema_is b ∙ ap schema_at type ∙ sym (schema_is a)) (type_is b ∙ ap type_at type ∙ sym (type_is a)) types.0) in
      record {
        fits = ap (value_passes fit_test) (value_of_message b) ∙ after.fits;
        types = subst (λ w. ValueTyped (schema_at t) (kind_for o w) w) (sym (value_of_message b)) (there, after.types);
        order = ap value_ordered (value_of_message b) ∙ after.order;
        members = ap (value_passes alone_test) (value_of_message b) ∙ after.members;
      }

  left_there : message_type_of b ≡ message_type_of a → StaysTyped a b → typed_at (message_type_of m) n (value_stored v) ≡ true → typed_at (message_type_of m) n (value_stored (values.Message b)) ≡ true
  left_there type stays h =
      let t = message_type_of m in
      let o = field_of (known_of t) n in
      ap (typed_at t n) (stored_inside b)
      ∙ ap (λ p. typed_as t p (StoredInside (message_stored b))) (places_same o (message_stored b) (message_stored a))
      ∙ message_stays (pool_contents t.pool) (pool_rows t.pool) (place_for o (StoredInside (message_stored a))) a b type stays (sym (ap (typed_at t n) (ap value_stored is ∙ stored_inside a)) ∙ h)

pub leaves_message : (m : DynamicMessage) (n : ℕ) (v : values.Value) → IsAscending (stored_in m) → IsPart m n v → ((w : values.Value) → takes_at (message_type_of m) n w ≡ true → Sets (Some n) w m (left_at m n w)) → LeavesMessage (Some n) m v
leaves_message m n v s part sets = record {
  sound = λ a b is type keeps w.
      let set : Sets (Some n) (values.Message b) m (left_at m n (values.Message b)) = sets (values.Message b) (left_valid m n v a b is (part.valid w.fits)) in
      set.sound (left_whole m n v a b is type keeps (part.sound w)) w;
  encodable = λ a b is keeps h.
      let set : Sets (Some n) (values.Message b) m (left_at m n (values.Message b)) = sets (values.Message b) (left_valid m n v a b is (part.valid h)) in
      set.encodable (ap (value_passes fit_test) (value_of_message b) ∙ keeps (sym (ap (value_passes fit_test) (lent_is m n v a b is)) ∙ part.encodable h)) h;
  typed = λ a b is type keeps h.
      let stays : StaysTyped m (left_at m n (values.Message b)) = left_typed m n (values.Message b) s (values.Message b) (left_there m n v a b is type (record { typed = keeps }) (part.typed h)) in
      stays.typed h;
}
