use Rattle.std.specs.Prelude.{◌≡◌}
use Rattle.prost_reflect_pool.proofs.Common.{None, rules, sym}
use Rattle.prost_reflect_pool.proofs.ExtensionLookups.{named_here, named_elsewhere, named_nowhere}
use Rattle.prost_reflect_pool.proofs.pool.LinkedPool.extension_place_by_full_name.Goals as goal

pub returns-in_err-place-clause-found : goal.returns-in_err-place-clause-found
returns-in_err-place-clause-found c =
    let none : c.from_residual.result ≡ None = search rules in
    rw none (named_nowhere c.args.self.now c.args.message c.args.full_name.now c.requires (sym c.in_err-place.ensures))

pub returns-then-extension-message-clause-found : goal.returns-then-extension-message-clause-found
returns-then-extension-message-clause-found c = named_here c.args.self.now c.args.message c.args.full_name.now c.in_ok-place.place _ c.requires (sym c.in_ok-place.ensures) c.extension_table-extension.ensures.row c.if-extension-message.true

pub returns-else-extension-message-clause-found : goal.returns-else-extension-message-clause-found
returns-else-extension-message-clause-found c = named_elsewhere c.args.self.now c.args.message c.args.full_name.now c.in_ok-place.place _ c.requires (sym c.in_ok-place.ensures) c.extension_table-extension.ensures.row c.if-extension-message.false
