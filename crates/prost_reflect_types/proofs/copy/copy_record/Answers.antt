use Rattle.prost_reflect_types.proofs.Common.{MatchResult-weaker}
use Rattle.prost_reflect_types.proofs.copy.copy_record.Goals as goal

pub returns : goal.returns
returns g c = MatchResult-weaker _ c.clone.ensures.cases (λ copied is. g.met.P.OwnedRecord.copies _ copied is) (λ _ _. tt)
