use Rattle.std.specs.Prelude.{◌∷◌}
use Rattle.prost_reflect_dynamic.proofs.Common.{[], ◌∙◌, ap, sym, take, take_more, varints_added, content_of}
use Rattle.prost_reflect_dynamic.proofs.NumberMerging.{varints_behind}
use Rattle.prost_reflect_dynamic.proofs.TypedSteps.{still_typed}
use Rattle.prost_reflect_dynamic.proofs.message.DynamicMessage.add_strays.Goals as goal

pub loop-varint-preserved : goal.loop-varint-preserved
loop-varint-preserved c =
    let n = c.args.number.value in
    let items = c.deref-varint-items.result.now in
    let i = c.loop-varint.varint-index in record {
      content = c.in_ok-add_stray.ensures.content ∙ ap (varints_added n (_ ∷ [])) c.loop-varint.invariant.content ∙ sym (varints_behind n (take i items) (_ ∷ []) (content_of c.args.self.now))
          ∙ ap (λ vs. varints_added n vs (content_of c.args.self.now)) (sym (take_more items i 0 c.loop-varint-test.true));
      message_type = c.add_stray.ensures.message_type ∙ c.loop-varint.invariant.message_type;
      typed = still_typed _ _ _ c.loop-varint.invariant.typed c.in_ok-add_stray.ensures.typed;
    }
