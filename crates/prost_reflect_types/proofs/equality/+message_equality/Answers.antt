use Rattle.prost_reflect_types.proofs.Common.{refl, sym, ◌∙◌, true≢false, arith, of_message}
use Rattle.prost_reflect_types.specs.declared.table.RecordType.TheVariants as types
use Rattle.prost_reflect_types.proofs.SameFields.{lengths_apart, elements_apart, records_whole}
use Rattle.prost_reflect_types.proofs.RecordSlots.{message_slots, message_out}
use Rattle.prost_reflect_types.proofs.SameRecords.{all_equal, and_also, record_decided, decided_along}
use Rattle.prost_reflect_types.proofs.equality.+message_equality.Goals as goal

pub equal_message-returns : goal.equal_message-returns
equal_message-returns t c = decided_along (message_out c.args.a.now) (message_out c.args.b.now)
    (record_decided types.Message (message_slots c.args.a.now) (message_slots c.args.b.now) refl _ (and_also (and_also (and_also (and_also (and_also (and_also (and_also (and_also (and_also (and_also all_equal c.text.ensures) c.records.ensures) c.compare_messages.ensures) c.records-2.ensures) c.records-3.ensures) c.records-4.ensures) c.bytes.ensures) c.records-5.ensures) c.records-6.ensures) c.texts.ensures))

pub equal_messages-returns-then-len : goal.equal_messages-returns-then-len
equal_messages-returns-then-len t c = let a = c.args.a.now in let b = c.args.b.now in
    (λ yes. absurd (true≢false (sym yes)), λ e. absurd (lengths_apart of_message a.items b.items (λ same. c.if-len.true (omega (arith, same, a.ok.0, b.ok.0))) e))

pub equal_messages-returns-then-not-equal_message : goal.equal_messages-returns-then-not-equal_message
equal_messages-returns-then-not-equal_message t c = let a = c.args.a.now in let b = c.args.b.now in (
  λ yes. absurd (true≢false (sym yes)),
  λ e. absurd (elements_apart of_message a.items b.items c.loop-index.index c.index.result.now c.index-in-loop-index.result.now (omega (arith, a.ok.0, b.ok.0)) (omega (arith, a.ok.0, b.ok.0)) c.index.ensures c.index-in-loop-index.ensures (λ same. absurd (true≢false (sym (c.equal_message.ensures.1 same) ∙ c.if-not-equal_message.true))) e),
)

pub equal_messages-returns : goal.equal_messages-returns
equal_messages-returns t c = let a = c.args.a.now in let b = c.args.b.now in
    (λ _. records_whole of_message a.items b.items c.loop-index.index (omega (arith, a.ok.0)) (omega (arith, a.ok.0, b.ok.0)) c.loop-index.invariant, λ _. refl)
