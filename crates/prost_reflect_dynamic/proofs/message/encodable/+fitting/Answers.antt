use Rattle.std.specs.Prelude.{◌≡◌, ◌∷◌, ◌++◌}
use Rattle.prost_reflect_dynamic.proofs.Common.{rules, true, [], ap, sym, ◌∙◌, drop_all, fit_test, value_passes, known_of, items_left, fits_at, slot_passes, slots_pass, items_pass, entries_pass, value_arranged, message_type_of, value_of}
use Rattle.prost_reflect_dynamic.proofs.Copied.{one_given}
use Rattle.prost_reflect_dynamic.proofs.Encodables.{encodable_slots, slot_passed, items_are, entries_are, items_arranged, entries_arranged, slots_arranged}
use Rattle.prost_reflect_dynamic.proofs.Views.{value_of_list, value_of_map}
use Rattle.prost_reflect_dynamic.proofs.message.encodable.+fitting.Goals as goal
use Rattle.prost_reflect_dynamic.proofs.message.encodable.+fitting.Goals.{message_fits-in-Value, message_fits-in-Both, message_fits-in-Unknown}

pub message_fits-loop-number-init : goal.message_fits-loop-number-init
message_fits-loop-number-init t c =
    let slots = c.slots-number-items.ensures in
    let all = ap items_left c.into_iter-number-iterator.ensures.into_iter_gives ∙ slots.slots in (
      ap (slots_pass (fits_at (known_of (message_type_of c.args.message.now)))) all ∙ encodable_slots c.args.message.now slots.ascending slots.sound,
      ap (slots_pass (λ n v. value_arranged v)) all,
      ([], sym all),
    )

pub message_fits-loop-number-preserved : goal.message_fits-loop-number-preserved
message_fits-loop-number-preserved t c =
    let l = c.loop-number.invariant in
    let item = c.in-Some.field-0.now in
    let d = message_type_of c.args.message.now in
    let fits : slot_passes (fits_at (known_of d)) item.0 item.1 ≡ true = elim c.match-slot.branch [
      | message_fits-in-Value w ↦
          ap (slot_passes (fits_at (known_of d)) item.0) w.in-Value.is ∙ ap (λ d. fits_at (known_of d) item.0 (value_of w.in-Value.value)) (sym w.message_type.ensures) ∙ sym w.value_fits-fits.ensures.fits ∙ sym w.fits-is ∙ c.if-not-fits.false
      | message_fits-in-Both w ↦
          ap (slot_passes (fits_at (known_of d)) item.0) w.in-Both.is ∙ ap (λ d. fits_at (known_of d) item.0 (value_of w.in-Both.value)) (sym w.message_type-in-Both.ensures) ∙ sym w.value_fits-fits-in-Both.ensures.fits ∙ sym w.fits-is
          ∙ c.if-not-fits.false
      | message_fits-in-Unknown w ↦ ap (slot_passes (fits_at (known_of d)) item.0) w.in-Unknown.is
    ] in
    let arranged : slot_passes (λ n v. value_arranged v) item.0 item.1 ≡ true = elim c.match-slot.branch [
      | message_fits-in-Value w ↦ ap (slot_passes (λ n v. value_arranged v) item.0) w.in-Value.is ∙ w.value_fits-fits.ensures.arranged (sym w.fits-is ∙ c.if-not-fits.false)
      | message_fits-in-Both w ↦ ap (slot_passes (λ n v. value_arranged v) item.0) w.in-Both.is ∙ w.value_fits-fits-in-Both.ensures.arranged (sym w.fits-is ∙ c.if-not-fits.false)
      | message_fits-in-Unknown w ↦ ap (slot_passes (λ n v. value_arranged v) item.0) w.in-Unknown.is
    ] in (
      slot_passed (fits_at (known_of d)) _ _ item _ c.in-Some.ensures.steps fits l.0,
      slot_passed (λ n v. value_arranged v) _ _ item _ c.in-Some.ensures.steps arranged l.1,
      (l.2.0 ++ item ∷ [], one_given _ l.2.0 item _ _ l.2.1 c.in-Some.ensures.steps),
    )

pub inside_fits-returns-in-List-clause-fits : goal.inside_fits-returns-in-List-clause-fits
inside_fits-returns-in-List-clause-fits t c = c.items_fit.ensures.fits ∙ items_are fit_test c.in-List.values.items ∙ ap (value_passes fit_test) (sym (ap value_of c.in-List.is ∙ value_of_list c.in-List.values))

pub inside_fits-returns-in-List-clause-arranged : goal.inside_fits-returns-in-List-clause-arranged
inside_fits-returns-in-List-clause-arranged t c = λ yes. ap value_arranged (ap value_of c.in-List.is ∙ value_of_list c.in-List.values) ∙ c.items_fit.ensures.arranged yes

pub inside_fits-returns-in-Map-clause-fits : goal.inside_fits-returns-in-Map-clause-fits
inside_fits-returns-in-Map-clause-fits t c = c.entries_fit.ensures.fits ∙ entries_are fit_test c.in-Map.pairs.entries ∙ ap (value_passes fit_test) (sym (ap value_of c.in-Map.is ∙ value_of_map c.in-Map.pairs))

pub inside_fits-returns-in-Map-clause-arranged : goal.inside_fits-returns-in-Map-clause-arranged
inside_fits-returns-in-Map-clause-arranged t c = λ yes. ap value_arranged (ap value_of c.in-Map.is ∙ value_of_map c.in-Map.pairs) ∙ c.entries_fit.ensures.arranged yes

pub message_fits-returns-clause-arranged : goal.message_fits-returns-clause-arranged
message_fits-returns-clause-arranged t c =
    let slots = c.slots-number-items.ensures in
    λ yes. slots_arranged c.args.message.now slots.ascending slots.sound
    (sym c.loop-number.invariant.1 ∙ ap (slots_pass (λ n v. value_arranged v)) c.in-None.ensures.steps.0)

pub items_fit-returns-clause-arranged : goal.items_fit-returns-clause-arranged
items_fit-returns-clause-arranged t c =
    λ yes. items_arranged c.args.values.now.items (sym c.loop-value.invariant.1 ∙ ap (items_pass value_arranged) (drop_all c.loop-value.value-index _ c.loop-value-test.false))

pub entries_fit-returns-clause-arranged : goal.entries_fit-returns-clause-arranged
entries_fit-returns-clause-arranged t c =
    let all : entries_pass value_arranged c.args.pairs.now.entries ≡ true = search rules in
    λ yes. entries_arranged c.args.pairs.now.entries c.iter-value-items.ensures.ordered all
