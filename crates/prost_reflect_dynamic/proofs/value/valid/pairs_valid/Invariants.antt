use Rattle.std.specs.Prelude.{◌≡◌}
use Rattle.prost_reflect_dynamic.proofs.Common.{false, list_all, option_copied, schema_kind, enums_in}
use Rattle.prost_reflect_dynamic.specs.Valid.{pair_fits}
use Rattle.prost_reflect_dynamic.proofs.value.valid.pairs_valid.Given as goal

-- all fit where those that are left do
abbrev pub invariant-loop-key : goal.invariant-loop-key
invariant-loop-key l = list_all (pair_fits (schema_kind (enums_in (option_copied l.pool)) l.key_kind false) (schema_kind (enums_in (option_copied l.pool)) l.kind false)) l.pairs.entries
    ≡ list_all (pair_fits (schema_kind (enums_in (option_copied l.pool)) l.key_kind false) (schema_kind (enums_in (option_copied l.pool)) l.kind false)) l.key-iterator
