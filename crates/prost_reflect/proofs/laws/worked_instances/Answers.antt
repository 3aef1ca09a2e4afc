use Rattle.prost_reflect.proofs.LawInstances.{of_content_laws, of_kept_laws, of_depth}
use Rattle.prost_reflect.proofs.laws.worked_instances.Goals as goal

pub returns : goal.returns
returns c = record { contents = of_content_laws; kept = of_kept_laws; depth = of_depth }
