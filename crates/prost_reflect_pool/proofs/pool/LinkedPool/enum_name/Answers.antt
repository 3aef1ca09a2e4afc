use Rattle.std.specs.Option.{option_copied}
use Rattle.std.proofs.lemmas.Option.{get_or_from_slice_get, slice_get_within}
use Rattle.prost_reflect_pool.proofs.Common.{refl, sym, ap, ◌∙◌, enum_row, text_there, no_text}
use Rattle.prost_reflect_pool.proofs.InCatalog.{enum_name}
use Rattle.prost_reflect_pool.proofs.PoolLinks.{nothing_past}
use Rattle.prost_reflect_pool.proofs.pool.LinkedPool.enum_name.Goals as goal

pub returns-in-Some : goal.returns-in-Some
returns-in-Some c =
    let xs = c.args.self.now.tables.enums in
    let found = sym c.get.ensures ∙ ap option_copied c.in-Some.is in
    c.full_name.ensures
    ∙ text_there enum_row enum_name xs xs c.args.place c.in-Some.declared.now refl (slice_get_within xs c.args.place c.in-Some.declared.now found)
    (sym (get_or_from_slice_get xs c.args.place c.in-Some.declared.now c.in-Some.declared.now found))

pub returns-in-None : goal.returns-in-None
returns-in-None c =
    let xs = c.args.self.now.tables.enums in
    no_text enum_row enum_name xs xs c.args.place refl (nothing_past xs c.args.place (sym c.get.ensures ∙ ap option_copied c.in-None.is))
