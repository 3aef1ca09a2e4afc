use Rattle.std.specs.Option.{option_copied}
use Rattle.std.proofs.lemmas.Option.{get_or_from_slice_get, slice_get_within}
use Rattle.prost_reflect_pool.proofs.Common.{List, map, refl, sym, ap, ◌∙◌, text_at, EnumRow, enum_row, enum_value_row, texts_there, no_texts}
use Rattle.prost_reflect_tables.specs.declared.tables.EnumValueTable.{EnumValueTable}
use Rattle.prost_reflect_pool.proofs.InCatalog.{value_full_name}
use Rattle.prost_reflect_pool.proofs.PoolLinks.{nothing_past}
use Rattle.prost_reflect_pool.proofs.pool.LinkedPool.value_name.Goals as goal

pub returns-in-Some : goal.returns-in-Some
returns-in-Some c =
    let xs = c.args.self.now.tables.enums in
    let place = c.args.place.0 in
    let found = sym c.get.ensures ∙ ap option_copied c.in-Some.is in
    c.value_full_name.ensures
    ∙ (ap (λ (values : List EnumValueTable). text_at (map value_full_name (map enum_value_row values)) c.args.place.1) c.as_slice.ensures.value
    ∙ texts_there enum_row (λ (e : EnumRow). map value_full_name e.values) xs xs c.args.place c.in-Some.declared.now refl
    (slice_get_within xs place c.in-Some.declared.now found) (sym (get_or_from_slice_get xs place c.in-Some.declared.now c.in-Some.declared.now found)))

pub returns-in-None : goal.returns-in-None
returns-in-None c =
    let xs = c.args.self.now.tables.enums in
    no_texts enum_row (λ (e : EnumRow). map value_full_name e.values) xs xs c.args.place refl (nothing_past xs c.args.place.0 (sym c.get.ensures ∙ ap option_copied c.in-None.is))
