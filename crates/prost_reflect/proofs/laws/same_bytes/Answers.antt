use Rattle.std.proofs.Common.{◌≡◌, ap, sym, ◌∙◌}
use Rattle.prost_reflect_tables.specs.Schema.{rows_of}
use Rattle.prost_reflect_tables.specs.Shown.{schema_from}
use Rattle.prost_reflect_pool.specs.MessageTypes.{schema_at, type_at}
use Rattle.prost_reflect_pool.specs.declared.pool.LinkedPool.{LinkedPool}
use Rattle.prost_reflect_dynamic.specs.View.{message_type_of}
use Rattle.prost_reflect_dynamic.proofs.ReadBack.{same_bytes}
use Rattle.prost_reflect.proofs.laws.same_bytes.Goals as goal

pub returns : goal.returns
returns c = λ a b a_type b_type a_is b_is equal a_stored b_stored short.
    let schema : schema_at (message_type_of a) ≡ schema_at (message_type_of b) =
    sym (ap (λ (pool : LinkedPool). schema_from (rows_of pool.tables)) a_is.0) ∙ c.descriptor_equality.ensures.schema a_type b_type equal ∙ ap (λ (pool : LinkedPool). schema_from (rows_of pool.tables)) b_is.0 in
    let type : type_at (message_type_of a) ≡ type_at (message_type_of b) = sym a_is.1 ∙ c.descriptor_equality.ensures.place a_type b_type equal ∙ b_is.1 in
    same_bytes a b schema type a_stored b_stored short
