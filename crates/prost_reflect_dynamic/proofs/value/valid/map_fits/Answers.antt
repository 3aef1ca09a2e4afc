use Rattle.prost_reflect_dynamic.proofs.Common.{◌∙◌, false, option_copied, field_row, schema_kind, enums_in}
use Rattle.prost_reflect_dynamic.proofs.Views.{value_of_map}
use Rattle.prost_reflect_dynamic.proofs.Valid.{pairs_are}
use Rattle.prost_reflect_dynamic.proofs.value.valid.map_fits.Goals as goal

pub returns-in-Map : goal.returns-in-Map
returns-in-Map c =
    let enums = enums_in (option_copied c.args.pool) in
    rw (c.in-Map.is, value_of_map) (c.pairs_valid.ensures ∙ pairs_are (schema_kind enums (field_row c.args.key.now).kind false) (schema_kind enums (field_row c.args.part.now).kind false) c.in-Map.pairs.entries)
