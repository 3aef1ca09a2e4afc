use Rattle.prost_reflect_pool.proofs.Common.{List, ap, sym, ◌∙◌, json_names, own_fields, by_text, FieldRow, pool_rows, files_of}
use Rattle.prost_reflect_pool.proofs.InCatalog.{lists_order}
use Rattle.prost_reflect_pool.proofs.pool.LinkedPool.field_place_by_json_name.Goals as goal

pub json_named_among-requires : goal.json_named_among-requires
json_named_among-requires c =
    let pool = c.args.self.now in
    c.as_slice.ensures.value
    ∙ ((lists_order (files_of pool) (pool_rows pool) pool.catalog c.args.message _ pool.built pool.listed c.message_lists-lists.ensures.row).by_json_name
    ∙ ap (λ (fields : List FieldRow). by_text (json_names fields) (own_fields fields)) (sym c.field_tables.ensures))
