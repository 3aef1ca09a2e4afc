use Rattle.std.specs.Prelude.{◌≡◌, ◌∷◌, ◌++◌}
use Rattle.prost_reflect_dynamic.proofs.Common.{true, [], ap, sym, ◌∙◌, pool_contents, pool_rows, known_of, items_left, entries_typed, value_typed, stored_entries, value_stored, message_type_of}
use Rattle.prost_reflect_fields.specs.declared.slot.FieldSlot.TheVariants as slots
use Rattle.prost_reflect_dynamic.proofs.Copied.{one_given}
use Rattle.prost_reflect_dynamic.proofs.DeepTypes.{typed_message, slot_typed, slot_passed}
use Rattle.prost_reflect_dynamic.proofs.StoredViews.{stored_list, stored_map}
use Rattle.prost_reflect_dynamic.proofs.message.typed.+typing.Goals as goal
use Rattle.prost_reflect_dynamic.proofs.message.typed.+typing.Goals.{message_typed-in-Value, message_typed-in-Both, message_typed-in-Unknown}

pub message_typed-loop-number-init : goal.message_typed-loop-number-init
message_typed-loop-number-init t c = (
  ap (λ es. entries_typed (pool_contents (message_type_of c.args.message.now).pool) (pool_rows (message_type_of c.args.message.now).pool) (known_of (message_type_of c.args.message.now)) (stored_entries value_stored es)) (ap items_left c.into_iter-number-iterator.ensures.into_iter_gives ∙ c.slots-number-items.ensures.slots)
      ∙ typed_message c.args.message.now,
  ([], sym (ap items_left c.into_iter-number-iterator.ensures.into_iter_gives ∙ c.slots-number-items.ensures.slots)),
)

pub message_typed-loop-number-preserved : goal.message_typed-loop-number-preserved
message_typed-loop-number-preserved t c =
    let l = c.loop-number.invariant in
    let item = c.in-Some.field-0.now in
    let d = message_type_of c.args.message.now in
    let typed : slot_typed d item.0 item.1 ≡ true = elim c.match-slot.branch [
      | message_typed-in-Value w ↦
          ap (slot_typed d item.0) w.in-Value.is ∙ ap (λ d. slot_typed d item.0 (slots.Value w.in-Value.value)) (sym w.message_type.ensures) ∙ sym w.stored_typed-typed.ensures ∙ sym w.typed-is ∙ c.if-not-typed.false
      | message_typed-in-Both w ↦
          ap (slot_typed d item.0) w.in-Both.is ∙ ap (λ d. slot_typed d item.0 (slots.Value w.in-Both.value)) (sym w.message_type-in-Both.ensures) ∙ sym w.stored_typed-typed-in-Both.ensures ∙ sym w.typed-is ∙ c.if-not-typed.false
      | message_typed-in-Unknown w ↦ ap (slot_typed d item.0) w.in-Unknown.is
    ] in (
      slot_passed d _ _ item _ c.in-Some.ensures.steps typed l.0,
      (l.1.0 ++ item ∷ [], one_given _ l.1.0 item _ _ l.1.1 c.in-Some.ensures.steps),
    )

pub value_typed-returns-in-List : goal.value_typed-returns-in-List
value_typed-returns-in-List t c = c.items_typed.ensures ∙ ap (value_typed (pool_contents c.args.message_type.now.pool) (pool_rows c.args.message_type.now.pool) c.args.place) (sym (ap value_stored c.in-List.is ∙ stored_list c.in-List.values))

pub value_typed-returns-in-Map : goal.value_typed-returns-in-Map
value_typed-returns-in-Map t c = c.pairs_typed.ensures ∙ ap (value_typed (pool_contents c.args.message_type.now.pool) (pool_rows c.args.message_type.now.pool) c.args.place) (sym (ap value_stored c.in-Map.is ∙ stored_map c.in-Map.pairs))
