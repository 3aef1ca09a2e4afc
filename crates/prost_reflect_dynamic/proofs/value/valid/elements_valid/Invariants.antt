use Rattle.std.specs.Prelude.{◌≡◌}
use Rattle.prost_reflect_dynamic.proofs.Common.{false, drop, list_all, option_copied, element_valid, schema_kind, enums_in, value_of}
use Rattle.prost_reflect_dynamic.proofs.value.valid.elements_valid.Given as goal

-- all fit where those that are left do
abbrev pub invariant-loop-value : goal.invariant-loop-value
invariant-loop-value l = list_all (λ v. element_valid (schema_kind (enums_in (option_copied l.pool)) l.kind false) (value_of v)) l.values
    ≡ list_all (λ v. element_valid (schema_kind (enums_in (option_copied l.pool)) l.kind false) (value_of v)) (drop l.value-index l.values)
