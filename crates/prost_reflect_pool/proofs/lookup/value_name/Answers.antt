use Rattle.prost_reflect_pool.proofs.Common.{rules, refl, ◌∙◌, enum_value_row, text_there, no_text}
use Rattle.prost_reflect_pool.proofs.InCatalog.{value_name}
use Rattle.prost_reflect_pool.proofs.lookup.value_name.Goals as goal

pub returns-in-Some : goal.returns-in-Some
returns-in-Some c =
    let h = c.in-Some.ensures.lookup.3 in
    c.name.ensures ∙ text_there enum_value_row value_name c.args.values.now _ c.args.place c.in-Some.value.now refl h.0 (h.1 c.in-Some.value.now)

pub returns-in-None : goal.returns-in-None
returns-in-None c = no_text enum_value_row value_name c.args.values.now c.args.values.now c.args.place refl (let h = c.in-None.ensures.lookup in search rules)
