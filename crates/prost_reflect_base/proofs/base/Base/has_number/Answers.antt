use Rattle.std.specs.Prelude.{◌≡◌}
use Rattle.std.specs.List.{list_any}
use Rattle.std.proofs.Common.{rules, ap, ◌∙◌, w32, to_z, of_z}
use Rattle.std.proofs.Math.Facts.{to_z-of_z}
use Rattle.prost_reflect_tables.specs.Faults.{all_numbered, same_numbered}
use Rattle.prost_reflect_base.specs.Below.{rows_below}
use Rattle.prost_reflect_base.proofs.Numbers.{number_read, number_unread}
use Rattle.prost_reflect_base.proofs.base.Base.has_number.Goals as goal

pub returns-in-Ok : goal.returns-in-Ok
returns-in-Ok c =
    let same : to_z w32 (of_z w32 c.args.number) ≡ c.args.number = search (rules, to_z-of_z) in
    c.has_row.ensures
    ∙ (number_read c.args.self.now.pool.now c.args.place c.in-Ok.number (to_z w32 (of_z w32 c.args.number)) c.in-Ok.ensures.0 c.in-Ok.ensures.1
    ∙ ap (λ z. list_any (same_numbered (record { message = c.args.place; number = z })) (all_numbered (rows_below c.args.self.now))) same)

pub returns-in-Err : goal.returns-in-Err
returns-in-Err c =
    let same : to_z w32 (of_z w32 c.args.number) ≡ c.args.number = search (rules, to_z-of_z) in
    number_unread c.args.self.now.pool.now c.args.place (to_z w32 (of_z w32 c.args.number)) c.in-Err.ensures
    ∙ ap (λ z. list_any (same_numbered (record { message = c.args.place; number = z })) (all_numbered (rows_below c.args.self.now))) same
