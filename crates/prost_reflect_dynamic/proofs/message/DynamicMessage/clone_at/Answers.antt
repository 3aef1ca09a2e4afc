use Rattle.std.specs.Prelude.{◌≡◌}
use Rattle.prost_reflect_dynamic.proofs.Common.{ℕ, List, sym, ap, ◌∙◌, subst, SameMessage, PooledType, FieldSlot, Value}
use Rattle.prost_reflect_dynamic.proofs.Copied.{parts_of}
use Rattle.prost_reflect_dynamic.proofs.MessageParts.{part_kept, message_part}
use Rattle.prost_reflect_dynamic.proofs.PartCopies.{IsCopying, all_copied, copied_on, copying_begun, passed_on}
use Rattle.prost_reflect_dynamic.proofs.TypedSteps.{part_typed}
use Rattle.prost_reflect_dynamic.proofs.message.DynamicMessage.clone_at.Goals as goal

of_same : (a b c : PooledType) → b ≡ a → SameMessage b c → SameMessage a c
of_same a b c e h = subst (λ d. SameMessage d c) e h

pub loop-number-init : goal.loop-number-init
loop-number-init c =
    let numbers = c.args.numbers.now in
    let es = c.args.self.now.fields.1 in
    let given = c.into_iter-number-iterator.ensures.into_iter_gives in
    let none = ap (λ held. held.0) c.new-fields.ensures in
    subst (λ left. IsCopying numbers es left c.new-fields.result.0) (sym given.0)
    (subst (λ fields. IsCopying numbers es numbers.keys fields) (sym none) (copying_begun numbers es c.sound.ensures.ascending given.4))

pub loop-number-preserved-in_ok-insert : goal.loop-number-preserved-in_ok-insert
loop-number-preserved-in_ok-insert c =
    let numbers = c.args.numbers.now in
    let es = c.args.self.now.fields.1 in
    let fields = c.loop-number.fields.0 in
    let first = subst (λ left. IsCopying numbers es left fields) c.in-Some.ensures.steps c.loop-number.invariant in
    let put = ap (λ held. held.0) c.in_ok-insert.ensures.ok in
    subst (λ all. IsCopying numbers es c.next.new.self all) (sym put)
    (copied_on numbers es c.in-Some.number.now c.next.new.self fields first c.in-Some-slot.slot.now c.in_ok-copy_slot.field-0 (sym c.in-Some-slot.ensures) c.in_ok-copy_slot.ensures)

pub loop-number-preserved : goal.loop-number-preserved
loop-number-preserved c =
    let numbers = c.args.numbers.now in
    let es = c.args.self.now.fields.1 in
    let fields = c.loop-number.fields.0 in
    let first = subst (λ left. IsCopying numbers es left fields) c.in-Some.ensures.steps c.loop-number.invariant in
    passed_on numbers es c.in-Some.number.now c.next.new.self fields first (sym c.in_default.ensures)

pub from_slots-requires : goal.from_slots-requires
from_slots-requires c =
    let message = c.args.self.now in
    let numbers = c.args.numbers.now in
    let fields = c.loop-number.fields.0 in
    let same = of_same message.fields.0 c.message_type.result.now c.in_ok-shared.shared c.message_type.ensures c.in_ok-shared.ensures.cases in
    let walked = subst (λ left. IsCopying numbers message.fields.1 left fields) c.in-None.ensures.steps.0 c.loop-number.invariant in
    part_kept numbers message.fields.0 c.in_ok-shared.shared message.fields.1 fields same c.sound.ensures.ascending (all_copied numbers message.fields.1 fields c.sound.ensures.ascending walked) c.sound.ensures.sound

pub returns-clause-content : goal.returns-clause-content
returns-clause-content c =
    let message = c.args.self.now in
    let numbers = c.args.numbers.now in
    let fields = c.loop-number.fields.0 in
    let same = of_same message.fields.0 c.message_type.result.now c.in_ok-shared.shared c.message_type.ensures c.in_ok-shared.ensures.cases in
    let walked = subst (λ left. IsCopying numbers message.fields.1 left fields) c.in-None.ensures.steps.0 c.loop-number.invariant in
    let all = all_copied numbers message.fields.1 fields c.sound.ensures.ascending walked in
    let is = c.from_slots.ensures in
    let kept = subst (λ (p : PooledType × List (ℕ × FieldSlot Value)). SameMessage message.fields.0 p.0) (sym is) same in
    message_part numbers message c.from_slots.result kept c.sound.ensures.ascending (ap (λ (p : PooledType × List (ℕ × FieldSlot Value)). parts_of p.1) is ∙ all)

pub returns-clause-typed : goal.returns-clause-typed
returns-clause-typed c =
    let message = c.args.self.now in
    let numbers = c.args.numbers.now in
    let fields = c.loop-number.fields.0 in
    let same = of_same message.fields.0 c.message_type.result.now c.in_ok-shared.shared c.message_type.ensures c.in_ok-shared.ensures.cases in
    let walked = subst (λ left. IsCopying numbers message.fields.1 left fields) c.in-None.ensures.steps.0 c.loop-number.invariant in
    let all = all_copied numbers message.fields.1 fields c.sound.ensures.ascending walked in
    let is = c.from_slots.ensures in
    let kept = subst (λ (p : PooledType × List (ℕ × FieldSlot Value)). SameMessage message.fields.0 p.0) (sym is) same in
    part_typed numbers message c.from_slots.result kept c.sound.ensures.ascending (ap (λ (p : PooledType × List (ℕ × FieldSlot Value)). parts_of p.1) is ∙ all)
