use Rattle.prost_reflect_types.proofs.Common.{refl, sym, ◌∙◌, true≢false, arith}
use Rattle.prost_reflect_types.proofs.SameFields.{lengths_apart, elements_apart, records_whole}
use Rattle.prost_reflect_types.proofs.equality.equal_records.Goals as goal

pub returns-then-len : goal.returns-then-len
returns-then-len g c = let a = c.args.a.now in let b = c.args.b.now in
    (λ yes. absurd (true≢false (sym yes)), λ e. absurd (lengths_apart g.P.HasContent.content a.items b.items (λ same. c.if-len.true (omega (arith, same, a.ok.0, b.ok.0))) e))

pub returns-then-not-equal_record : goal.returns-then-not-equal_record
returns-then-not-equal_record g c = let a = c.args.a.now in let b = c.args.b.now in (
  λ yes. absurd (true≢false (sym yes)),
  λ e. absurd (elements_apart g.P.HasContent.content a.items b.items c.loop-index.index c.index.result.now c.index-in-loop-index.result.now (omega (arith, a.ok.0, b.ok.0)) (omega (arith, a.ok.0, b.ok.0)) c.index.ensures c.index-in-loop-index.ensures (λ same. absurd (true≢false (sym (c.equal_record.ensures.1 same) ∙ c.if-not-equal_record.true))) e),
)

pub returns : goal.returns
returns g c = let a = c.args.a.now in let b = c.args.b.now in
    (λ _. records_whole g.P.HasContent.content a.items b.items c.loop-index.index (omega (arith, a.ok.0)) (omega (arith, a.ok.0, b.ok.0)) c.loop-index.invariant, λ _. refl)
