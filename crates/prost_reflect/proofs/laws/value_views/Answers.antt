use Rattle.prost_reflect_dynamic.proofs.Views.{value_views}
use Rattle.prost_reflect.proofs.laws.value_views.Goals as goal

pub returns : goal.returns
returns c = value_views
