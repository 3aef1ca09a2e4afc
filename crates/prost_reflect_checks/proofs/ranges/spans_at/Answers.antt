use Rattle.std.specs.Prelude.{option_map}
use Rattle.prost_reflect_checks.proofs.Common.{sym, ap, subst, ◌∙◌, flat_rows, all_rows, AreSpansIn}
use Rattle.prost_reflect_checks.proofs.ListedSpans.{spans_more}
use Rattle.prost_reflect_checks.proofs.ranges.spans_at.Goals as goal
use Rattle.prost_reflect_checks.proofs.ranges.spans_at.Goals.{in-Some+in_ok-spans_of+in_ok-push, in_default}

pub loop-place-preserved : goal.loop-place-preserved
loop-place-preserved c =
    let rows = all_rows c.args.resolved.now.index.base (flat_rows c.args.flat.now) in
    elim c.match-ranges_at.branch [
      | in-Some+in_ok-spans_of+in_ok-push w ↦
          subst (AreSpansIn rows) (sym (ap (λ v. v.items) w.spans-is ∙ w.in_ok-push.ensures.items))
          (spans_more rows c.loop-place.spans.items _ w.in-Some.ranges.now (sym c.ranges_at.ensures ∙ ap (option_map (λ r. r.now)) w.in-Some.is) w.in_ok-spans_of.ensures c.loop-place.invariant)
      | in_default w ↦ subst (AreSpansIn rows) (sym (ap (λ v. v.items) w.spans-is)) c.loop-place.invariant
    ]
