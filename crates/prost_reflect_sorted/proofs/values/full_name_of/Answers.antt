use Rattle.std.specs.Prelude.{◌-◌}
use Rattle.prost_reflect_sorted.proofs.Common.{List, map, arith, ap, ◌∙◌, flat_rows, enum_row, names_of, text_in, FlatEnumRow}
use Rattle.prost_reflect_base.specs.Below.{rows_below}
use Rattle.prost_reflect_flat.specs.declared.definitions.FlatEnum.{FlatEnum}
use Rattle.prost_reflect_sorted.proofs.Merged.{front_value, back_value}
use Rattle.prost_reflect_sorted.proofs.values.full_name_of.Goals as goal

pub returns-then-pair-count : goal.returns-then-pair-count
returns-then-pair-count c =
    c.value_name.ensures ∙ front_value (rows_below c.args.base) (flat_rows c.args.flat.now) c.args.pair (omega (arith, c.if-pair-count.true, c.enum_count-count.ensures))

pub returns-else-pair-count : goal.returns-else-pair-count
returns-else-pair-count c =
    let k = c.args.pair.0 - c.enum_count-count.result in
    c.full_name_in.ensures
    ∙ (ap (λ (es : List FlatEnum). text_in (map (λ (e : FlatEnumRow). names_of e.values) (map enum_row es)) (k, c.args.pair.1)) c.as_slice.ensures.value
    ∙ back_value (rows_below c.args.base) (flat_rows c.args.flat.now) c.args.pair k (omega (arith, c.if-pair-count.false, c.enum_count-count.ensures)))
