use Rattle.std.specs.Prelude.{◌≡◌}
use Rattle.std.proofs.Common.{Some, rules, ap, ◌∙◌, w32, to_z, of_z}
use Rattle.std.proofs.Math.Facts.{to_z-of_z}
use Rattle.prost_reflect_base.proofs.Linked.{value_there, no_value}
use Rattle.prost_reflect_base.proofs.base.Base.value_number.Goals as goal

pub returns-in-Some : goal.returns-in-Some
returns-in-Some c =
    let same : to_z w32 (of_z w32 c.index.result.now.number) ≡ c.index.result.now.number = search (rules, to_z-of_z) in
    ap Some same ∙ value_there c.args.self.now.pool.now c.args.enumeration c.in-Some.place c.args.name.now c.enum_table.result.now c.index.result.now c.in-Some.ensures c.enum_table.ensures.row c.index.ensures

pub returns-in-None : goal.returns-in-None
returns-in-None c = no_value c.args.self.now.pool.now c.args.enumeration c.args.name.now c.in-None.ensures
