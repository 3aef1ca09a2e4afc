use Rattle.std.proofs.Common.{◌∙◌, arith}
use Rattle.std.proofs.lemmas.List.{length-map}
use Rattle.prost_reflect_tables.specs.Faults.{names_of}
use Rattle.prost_reflect_tables.specs.Rows.{field_row}
use Rattle.prost_reflect_base.proofs.Linked.{flat_of, extension_count}
use Rattle.prost_reflect_base.proofs.NamedPlaces.{extension_there, name_past}
use Rattle.prost_reflect_base.proofs.base.Base.extension_name.Goals as goal

pub returns-then-place-extension_count : goal.returns-then-place-extension_count
returns-then-place-extension_count c = c.full_name.ensures ∙ extension_there c.args.self.now.pool.now c.args.place (field_row c.extension_field.result.now) c.extension_field.ensures.row

pub returns-else-place-extension_count : goal.returns-else-place-extension_count
returns-else-place-extension_count c =
    let pool = c.args.self.now.pool.now in
    let flat = flat_of pool in
    name_past (names_of flat.extensions) c.args.place (omega (arith, length-map flat.extensions (λ d. d.full_name), extension_count pool, c.extension_count.ensures, c.if-place-extension_count.false))
