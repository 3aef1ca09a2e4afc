use Rattle.prost_reflect_rows.proofs.Common.{length, known_of, HasWholeOneofs}
use Rattle.prost_reflect_rows.proofs.ChangedNumbers.{Noted}
use Rattle.prost_reflect_rows.proofs.numbers.numbers_in.Given as goal

abbrev pub decreases-loop-number : goal.decreases-loop-number
decreases-loop-number l = length l.rest

abbrev pub invariant-loop-number : goal.invariant-loop-number
invariant-loop-number l = record {
  whole : HasWholeOneofs (known_of l.message_type) l.numbers;
  noted : Noted l.bytes l.rest l.numbers;
}
