use Rattle.prost_reflect_fields.proofs.Common.{arith, cond, length, None, Some, ap, ◌∙◌, value_in, left_in, known_of, is_listed}
use Rattle.prost_reflect_fields.proofs.SlotsParted.{taken_more, kept_more}
use Rattle.prost_reflect_fields.proofs.parting.parted.Goals as goal

pub loop-number-preserved : goal.loop-number-preserved
loop-number-preserved g c =
    let test = is_listed c.args.of_extensions (known_of c.args.message_type.now) in
    let slot = c.in-Some.slot in
    record {
      taken = taken_more test c.in-Some.number slot _ _ _ _ _ _ c.in-Some.ensures.steps.0 (c.split-value.ensures.value ∙ ap (λ b. cond b (value_in slot) None) c.is_listed.ensures) c.push_numbered.ensures.items c.loop-number.invariant.taken;
      kept = kept_more test c.in-Some.number slot _ _ _ _ _ _ c.in-Some.ensures.steps.0 (c.split-value.ensures.left ∙ ap (λ b. cond b (left_in slot) (Some slot)) c.is_listed.ensures) c.push_numbered-in-loop-number.ensures.items c.loop-number.invariant.kept;
      taken_room = omega (arith, ap length c.in-Some.ensures.steps.0, c.push_numbered.ensures.len, c.push_numbered.ensures.room, c.loop-number.invariant.taken_room);
      kept_room = omega (arith, ap length c.in-Some.ensures.steps.0, c.push_numbered-in-loop-number.ensures.len, c.push_numbered-in-loop-number.ensures.room, c.loop-number.invariant.kept_room);
    }
