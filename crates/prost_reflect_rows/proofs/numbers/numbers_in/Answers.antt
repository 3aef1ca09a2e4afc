use Rattle.prost_reflect_rows.proofs.Common.{sym, ap, ◌∙◌, true≢false, list_any}
use Rattle.prost_reflect_rows.proofs.ChangedNumbers.{nothing_noted, rest_shorter, number_noted, all_noted}
use Rattle.prost_reflect_rows.proofs.numbers.numbers_in.Goals as goal

pub loop-number-init : goal.loop-number-init
loop-number-init c = record {
  whole = λ n k h siblings. absurd (true≢false (sym h ∙ ap (list_any _) c.new-numbers.ensures.empty));
  noted = nothing_noted c.args.bytes.now c.new-numbers.result;
}

pub loop-number-smaller : goal.loop-number-smaller
loop-number-smaller c = rest_shorter _ _ _ c.in-Some.ensures.some

pub loop-number-preserved : goal.loop-number-preserved
loop-number-preserved c = record {
  whole = c.in_ok-add_number.ensures.whole;
  noted = number_noted c.args.bytes.now c.loop-number.rest.now c.in-Some.after.now c.loop-number.numbers c.add_number.new.numbers c.in-Some.number c.loop-number.invariant.noted c.in-Some.ensures.some c.in_ok-add_number.ensures.added c.in_ok-add_number.ensures.stay;
}

pub returns-clause-numbers : goal.returns-clause-numbers
returns-clause-numbers c = all_noted c.args.bytes.now c.loop-number.rest.now c.loop-number.numbers c.loop-number.invariant.noted c.in_default.ensures.none
