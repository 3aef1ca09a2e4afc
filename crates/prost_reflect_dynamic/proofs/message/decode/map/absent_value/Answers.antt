use Rattle.std.specs.Prelude.{◌≡◌}
use Rattle.prost_reflect_dynamic.proofs.Common.{false, subst, None, TableRows, schema_default, schema_kind, pool_rows, scalar_of}
use Rattle.prost_reflect_dynamic.proofs.ScalarRefs.{kind_blank, kind_shown}
use Rattle.prost_reflect_dynamic.proofs.message.decode.map.absent_value.Goals as goal

pub blank-requires : goal.blank-requires
blank-requires c = kind_blank (schema_kind (pool_rows c.args.message_type.now.pool).enums c.args.kind false) (scalar_of c.kind_default.result)
    (subst (λ (rows : TableRows). scalar_of c.kind_default.result ≡ schema_default None (schema_kind rows.enums c.args.kind false)) c.tables.ensures (c.kind_default.ensures false))

pub returns : goal.returns
returns c = kind_shown (pool_rows c.args.message_type.now.pool).enums c.args.kind (scalar_of c.kind_default.result) c.blank.result c.requires
    (subst (λ (rows : TableRows). scalar_of c.kind_default.result ≡ schema_default None (schema_kind rows.enums c.args.kind false)) c.tables.ensures (c.kind_default.ensures false)) c.blank.ensures
