use Rattle.prost_reflect_catalog.proofs.Common.{rules, same_sorted}
use Rattle.prost_reflect_catalog.proofs.catalog.sorted_places.Goals as goal

pub returns : goal.returns
returns c = same_sorted _ _ (search rules) (search rules) (search rules) (search rules) (search rules) (search rules)
