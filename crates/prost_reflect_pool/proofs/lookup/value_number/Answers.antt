use Rattle.std.specs.Prelude.{◌≡◌}
use Rattle.prost_reflect_pool.proofs.Common.{◌∙◌, rules, w32, to_z, of_z, to_z-of_z, enum_value_row}
use Rattle.prost_reflect_pool.proofs.InCatalog.{number_of, number_there, no_number}
use Rattle.prost_reflect_pool.proofs.lookup.value_number.Goals as goal

pub returns-in-Some : goal.returns-in-Some
returns-in-Some c =
    let h = c.in-Some.ensures.lookup.3 in
    let same : to_z w32 (of_z w32 c.in-Some.value.now.number) ≡ c.in-Some.value.now.number = search (rules, to_z-of_z) in
    same ∙ number_there enum_value_row number_of c.args.values.now c.args.place c.in-Some.value.now h.0 (h.1 c.in-Some.value.now)

pub returns-in-None : goal.returns-in-None
returns-in-None c = no_number enum_value_row number_of c.args.values.now c.args.place (let h = c.in-None.ensures.lookup in search rules)
