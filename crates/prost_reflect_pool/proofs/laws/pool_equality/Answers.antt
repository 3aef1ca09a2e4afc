use Rattle.prost_reflect_pool.proofs.Common.{contents_of, pool_contents, contents_decide}
use Rattle.prost_reflect_pool.proofs.EqualTypes.{rows_of_same}
use Rattle.prost_reflect_pool.proofs.laws.pool_equality.Goals as goal

pub returns-clause-files : goal.returns-clause-files
unfolding contents_of
returns-clause-files c = λ a b. contents_decide (pool_contents a) (pool_contents b)

pub returns-clause-tables : goal.returns-clause-tables
returns-clause-tables c = λ a b h. rows_of_same a b ((contents_decide (pool_contents a) (pool_contents b)).0 h)
