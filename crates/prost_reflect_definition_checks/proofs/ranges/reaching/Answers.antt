use Rattle.std.specs.Prelude.{◌≡◌, ◌+◌, ◌<◌, ◌∷◌, ◌++◌}
use Rattle.prost_reflect_definition_checks.proofs.Common.{ℕ, List, [], length, drop, get_or, cond, sym, ap, ◌∙◌, append_assoc, lt-ltb, le-ltb, greater, reaching, front_at}
use Rattle.prost_reflect_definition_checks.proofs.ranges.reaching.Goals as goal
use Rattle.prost_reflect_definition_checks.proofs.ranges.reaching.Goals.{then-farthest-span, else-farthest-span}

reaching_more : (farthest new : ℕ) (made spans : List (ℕ × ℕ)) (i : ℕ) (d : ℕ × ℕ) → i < length spans → new ≡ greater farthest (get_or spans i d).1
    → (made ++ ((get_or spans i d).0, new) ∷ []) ++ reaching new (drop (i + 1) spans) ≡ made ++ reaching farthest (drop i spans)
reaching_more farthest new made spans i d h told =
    append_assoc made (((get_or spans i d).0, new) ∷ []) (reaching new (drop (i + 1) spans))
    ∙ (ap (λ far. made ++ ((get_or spans i d).0, far) ∷ reaching far (drop (i + 1) spans)) told ∙ sym (ap (λ left. made ++ reaching farthest left) (front_at spans i d h)))

pub loop-span-preserved : goal.loop-span-preserved
loop-span-preserved c =
    let farthest = c.loop-span.farthest in
    let end = (get_or c.args.spans.now c.loop-span.span-index (0, 0)).1 in
    ap (λ farther. farther ++ reaching c.if-farthest-span.farthest (drop (c.loop-span.span-index + 1) c.args.spans.now)) c.in_ok-push.ensures.items
    ∙ (reaching_more farthest c.if-farthest-span.farthest c.loop-span.farther.items c.args.spans.now c.loop-span.span-index (0, 0) c.loop-span-test.true
    (elim c.if-farthest-span.branch [
      | then-farthest-span w ↦ w.farthest-is ∙ sym (ap (λ b. cond b end farthest) (lt-ltb farthest end w.if-farthest-span.true))
      | else-farthest-span w ↦ w.farthest-is ∙ sym (ap (λ b. cond b end farthest) (le-ltb farthest end w.if-farthest-span.false))
    ])
    ∙ c.loop-span.invariant)
