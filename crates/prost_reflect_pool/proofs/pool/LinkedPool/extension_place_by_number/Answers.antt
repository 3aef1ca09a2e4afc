use Rattle.std.specs.Prelude.{◌≡◌}
use Rattle.prost_reflect_pool.proofs.Common.{ℕ, List, None, rules, sym, ap, ◌∙◌, bytes_eq, field_row, extension_where}
use Rattle.prost_reflect_pool.proofs.ExtensionLookups.{number_named, number_of_field, number_nowhere}
use Rattle.prost_reflect_pool.proofs.pool.LinkedPool.extension_place_by_number.Goals as goal

pub returns-in_err-field-clause-found : goal.returns-in_err-field-clause-found
returns-in_err-field-clause-found c =
    let none : c.from_residual.result ≡ None = search rules in
    rw none (number_nowhere c.args.self.now c.args.message c.args.number c.requires (sym c.in_err-field.ensures.row))

pub returns-then-field-clause-found : goal.returns-then-field-clause-found
returns-then-field-clause-found c =
    c.extension_place_by_full_name.ensures.found
    ∙ ap (λ (name : List ℕ). extension_where c.args.self.now c.args.message (λ g. bytes_eq g.id.full_name name)) c.full_name.ensures
    ∙ number_named c.args.self.now c.args.message c.args.number (field_row c.in_ok-field.field.now) c.requires (sym c.in_ok-field.ensures.row) c.if-field.true

pub returns-else-field-clause-found : goal.returns-else-field-clause-found
returns-else-field-clause-found c =
    number_of_field c.args.self.now c.args.message c.args.number (field_row c.in_ok-field.field.now) c.requires (sym c.in_ok-field.ensures.row) c.if-field.false
