-- The worked examples of the test of reduction.
use Rattle.prost_reflect_laws.proofs.Common.{refl, is_utf8, chars, refined_times, WorkedReductions}

pub worked_reductions : WorkedReductions
unfolding refined_times is_utf8 chars
worked_reductions = record { whole_valid = refl; less_valid = refl; other_valid = refl; itself = refl; without_field = refl; backwards = refl; inner = refl; inside = refl; greatest = refl }
