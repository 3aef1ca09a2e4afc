-- What is left where a lent value was written over doesn't depend on the default that was there first.
use Rattle.std.specs.Prelude.{◌≡◌}
use Rattle.prost_reflect_dynamic.proofs.Common.{ℕ, Bool, true, false, cond, List, Option, Some, None, refl, ap, sym, ◌∙◌, subst, option_and_then, unwrap_or, Field, FieldSlot, has_value, with_value_in, revalued, left_in, put_slot, put_value, with_slot, IsAscending, item_at, known_of, are_siblings, set_value_at, prepared, Apart, by_number, apart_back, put_same, put_apart, with_same, with_apart, item_without, ascending_put, ascending_with_value, siblings_self, PooledType, IsStoredOr, DynamicMessage, Value, message_type_of, stored_in, written_at}
use Rattle.prost_reflect_fields.specs.declared.slot.FieldSlot.TheVariants.{Value as ValueSlot, Unknown, Both}
use Rattle.prost_reflect_fields.specs.FieldSlots.{with_value}
use Rattle.prost_reflect_maps.proofs.ItemChanges.{same_items}
use Rattle.prost_reflect_fields.proofs.SoundChanges.{ascending_set_at}
use Rattle.prost_reflect_wire.specs.Content as contents

module _ {V : Type 0} where
  -- a slot with the value, or one of its own
  abbrev slot_put : V → Option (FieldSlot V) → FieldSlot V
  slot_put v None = ValueSlot v
  slot_put v (Some e) = with_value_in e v

  item_put : (es : List (ℕ × FieldSlot V)) (n : ℕ) (v : V) → item_at (put_value es n v) n ≡ Some (slot_put v (item_at es n))
  item_put es n v = cases (item_at es n) refl
    where
      cases : (o : Option (FieldSlot V)) → item_at es n ≡ o → item_at (put_slot es n v o) n ≡ Some (slot_put v o)
      cases None h = put_same es n (ValueSlot v)
      cases (Some e) h = with_same es n (with_value_in e v) e h

  item_put_apart : (es : List (ℕ × FieldSlot V)) (n k : ℕ) (v : V) → Apart n k → item_at (put_value es n v) k ≡ item_at es k
  item_put_apart es n k v a = cases (item_at es n)
    where
      cases : (o : Option (FieldSlot V)) → item_at (put_slot es n v o) k ≡ item_at es k
      cases None = put_apart es n k (ValueSlot v) (apart_back n k a)
      cases (Some e) = with_apart es n k (with_value_in e v) a

  item_written : (es : List (ℕ × FieldSlot V)) (n : ℕ) (w : V) (e : FieldSlot V) → item_at es n ≡ Some e → item_at (with_value es n w) n ≡ Some (revalued e w)
  item_written es n w e h = ap (λ o. item_at (with_slot es n w o) n) h ∙ with_same es n (revalued e w) e h

  item_written_apart : (es : List (ℕ × FieldSlot V)) (n k : ℕ) (w : V) → Apart n k → item_at (with_value es n w) k ≡ item_at es k
  item_written_apart es n k w a = cases (item_at es n)
    where
      cases : (o : Option (FieldSlot V)) → item_at (with_slot es n w o) k ≡ item_at es k
      cases None = refl
      cases (Some e) = with_apart es n k (revalued e w) a

  item_set : (fields : List Field) (es : List (ℕ × FieldSlot V)) (n : ℕ) (v : V) → IsAscending es → item_at (set_value_at fields es n v) n ≡ Some (slot_put v (item_at es n))
  item_set fields es n v s =
      item_without (are_siblings fields n) (put_value es n v) n (ascending_put es n v s)
      ∙ ap (λ b. cond b (option_and_then left_in (item_at (put_value es n v) n)) (item_at (put_value es n v) n)) (siblings_self fields n)
      ∙ item_put es n v

  item_set_apart : (fields : List Field) (es : List (ℕ × FieldSlot V)) (n k : ℕ) (v : V) → IsAscending es → Apart n k
      → item_at (set_value_at fields es n v) k ≡ cond (are_siblings fields n k) (option_and_then left_in (item_at es k)) (item_at es k)
  item_set_apart fields es n k v s a =
      item_without (are_siblings fields n) (put_value es n v) k (ascending_put es n v s)
      ∙ ap (λ o. cond (are_siblings fields n k) (option_and_then left_in o) o) (item_put_apart es n k v a)

  put_over : (v w : V) (o : Option (FieldSlot V)) → revalued (slot_put v o) w ≡ slot_put w o
  put_over v w None = refl
  put_over v w (Some (ValueSlot x)) = refl
  put_over v w (Some (Unknown u)) = refl
  put_over v w (Some (Both x u)) = refl

  -- a value that is set and then written over
  set_over : (fields : List Field) (es : List (ℕ × FieldSlot V)) (n : ℕ) (v w : V) → IsAscending es → with_value (set_value_at fields es n v) n w ≡ set_value_at fields es n w
  set_over fields es n v w s =
      same_items (with_value (set_value_at fields es n v) n w) (set_value_at fields es n w)
      (ascending_with_value (set_value_at fields es n v) n w (ascending_set_at fields es n v s)) (ascending_set_at fields es n w s)
      (λ k. by_number n k
      (λ same. ap (λ k. item_at (with_value (set_value_at fields es n v) n w) k) (sym same) ∙ here ∙ ap (item_at (set_value_at fields es n w)) same)
      (λ apart. item_written_apart (set_value_at fields es n v) n k w apart ∙ item_set_apart fields es n k v s apart ∙ sym (item_set_apart fields es n k w s apart)))
    where
      here : item_at (with_value (set_value_at fields es n v) n w) n ≡ item_at (set_value_at fields es n w) n
      here = item_written (set_value_at fields es n v) n w (slot_put v (item_at es n)) (item_set fields es n v s) ∙ ap Some (put_over v w (item_at es n)) ∙ sym (item_set fields es n w s)

  prepared_over : (fields : List Field) (es : List (ℕ × FieldSlot V)) (n : ℕ) (v w : V) → IsAscending es → with_value (prepared fields es n v) n w ≡ with_value (prepared fields es n w) n w
  prepared_over fields es n v w s = cases (has_value es n)
    where
      cases : (b : Bool) → with_value (cond b es (set_value_at fields es n v)) n w ≡ with_value (cond b es (set_value_at fields es n w)) n w
      cases true = refl
      cases false = set_over fields es n v w s ∙ sym (set_over fields es n w w s)

pub written_over : (m : DynamicMessage) (n : ℕ) (v w : Value) → IsAscending (stored_in m) → written_at m n v w ≡ written_at m n w w
written_over m n v w s = ap (λ (es : List (ℕ × FieldSlot Value)). record { fields = (message_type_of m, es) }) (prepared_over (known_of (message_type_of m)) (stored_in m) n v w s)

-- the value that is lent, where the default is made only if nothing is stored
pub lent_or_default : (t : PooledType) (n : ℕ) (o : Option contents.Value) (lent default : contents.Value) → lent ≡ unwrap_or o default → (o ≡ None → IsStoredOr t n None default) → IsStoredOr t n o lent
lent_or_default t n None lent default is made = subst (IsStoredOr t n None) (sym is) (made refl)
lent_or_default t n (Some v) lent default is made = is
