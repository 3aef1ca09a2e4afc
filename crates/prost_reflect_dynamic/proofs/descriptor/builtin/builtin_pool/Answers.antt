use Rattle.prost_reflect_dynamic.proofs.Common.{map, ap, sym, ◌∙◌, subst, schema_from, LinkedPool}
use Rattle.prost_reflect_building.specs.BuiltinFiles.{AreBuiltin}
use Rattle.prost_reflect_pool.specs.Pools.{files_of, pool_rows}
use Rattle.prost_reflect_dynamic.proofs.descriptor.builtin.builtin_pool.Goals as goal

pub returns-clause-files : goal.returns-clause-files
returns-clause-files c = subst (λ (pool : LinkedPool). AreBuiltin (files_of pool)) (sym c.in_ok-new.ensures.ok) c.in_ok-pool.ensures.files

pub returns-clause-rows : goal.returns-clause-rows
returns-clause-rows c = ap pool_rows c.in_ok-new.ensures.ok ∙ c.in_ok-pool.ensures.rows

pub returns-clause-schema : goal.returns-clause-schema
returns-clause-schema c = ap (λ pool. schema_from (pool_rows pool)) c.in_ok-new.ensures.ok ∙ c.in_ok-pool.ensures.schema

pub returns-clause-names : goal.returns-clause-names
returns-clause-names c = ap (λ pool. map (λ m. m.id.full_name) (pool_rows pool).messages) c.in_ok-new.ensures.ok ∙ c.in_ok-pool.ensures.names
