use Rattle.std.proofs.Common.{rules, ◌≡◌, ◌+◌, ◌∷◌, [], length, length-append, ap, ◌∙◌, arith}
use Rattle.std.specs.Prelude.{option_copied}
use Rattle.prototool_commands.specs.Naming.{shown_name}
use Rattle.prototool_commands.proofs.PathSteps.{no_name, no_field, too_long, found_same, found_last, found_outside, found_pool, found_more}
use Rattle.prototool_commands.proofs.redact.path.numbers_of.Goals as goal

pub returns-in_default : goal.returns-in_default
returns-in_default c =
    let l = c.loop-step in
    let d = c.args.descriptor.now in
    no_name d.pool.inner.value d.index c.args.path.now l.numbers.items l.from.index l.left.now l.invariant.2 c.in_default.ensures

pub returns-in_default-2 : goal.returns-in_default-2
returns-in_default-2 c =
    let l = c.loop-step in
    let d = c.args.descriptor.now in
    let none = rw c.in_default-2.is at (found_same l.from.pool.inner.value d.pool.inner.value l.from.index (shown_name c.in-Some.name) c.in_ok-found.field-0 l.invariant.1 c.in_ok-found.ensures) in
    no_field d.pool.inner.value d.index c.args.path.now l.numbers.items l.from.index l.left.now l.invariant.2 (shown_name c.in-Some.name) (option_copied c.in-Some.rest) c.in-Some.ensures none

pub returns-in_default-rest : goal.returns-in_default-rest
returns-in_default-rest c =
    let l = c.loop-step in
    let d = c.args.descriptor.now in
    let found = rw c.in-Some-2.is at (found_same l.from.pool.inner.value d.pool.inner.value l.from.index (shown_name c.in-Some.name) c.in_ok-found.field-0 l.invariant.1 c.in_ok-found.ensures) in
    let begins = rw c.in_default-rest.is at c.in-Some.ensures in
    let count : length c.push.new.self.items ≡ length l.numbers.items + 1 = ap length c.in_ok-push.ensures.items ∙ length-append l.numbers.items (c.in-Some-2.found.number ∷ []) in
    found_last d.pool.inner.value d.index c.args.path.now l.numbers.items l.from.index l.left.now l.invariant.2 (shown_name c.in-Some.name) c.in-Some-2.found found c.push.new.self.items c.in_ok-push.ensures.items begins (omega (arith, count, l.invariant.3))

pub returns-in_default-inside : goal.returns-in_default-inside
returns-in_default-inside c =
    let l = c.loop-step in
    let d = c.args.descriptor.now in
    let found = rw c.in-Some-2.is at (found_same l.from.pool.inner.value d.pool.inner.value l.from.index (shown_name c.in-Some.name) c.in_ok-found.field-0 l.invariant.1 c.in_ok-found.ensures) in
    let begins = rw c.in-Some-rest.is at c.in-Some.ensures in
    found_outside d.pool.inner.value d.index c.args.path.now l.numbers.items l.from.index l.left.now l.invariant.2 (shown_name c.in-Some.name) c.in-Some-2.found found c.push.new.self.items c.in_ok-push.ensures.items c.in-Some-rest.rest.now begins c.in_default-inside.is

pub loop-step-preserved : goal.loop-step-preserved
loop-step-preserved c =
    let l = c.loop-step in
    let d = c.args.descriptor.now in
    let found = rw c.in-Some-2.is at (found_same l.from.pool.inner.value d.pool.inner.value l.from.index (shown_name c.in-Some.name) c.in_ok-found.field-0 l.invariant.1 c.in_ok-found.ensures) in
    let begins = rw c.in-Some-rest.is at c.in-Some.ensures in
    let items = c.push.new.self.items in
    let count : length items ≡ length l.numbers.items + 1 = ap length c.in_ok-push.ensures.items ∙ length-append l.numbers.items (c.in-Some-2.found.number ∷ []) in (
      search rules,
      found_pool d.pool.inner.value d.index c.args.path.now l.numbers.items l.from.index l.left.now l.invariant.2 (shown_name c.in-Some.name) c.in-Some-2.found found items c.in_ok-push.ensures.items c.in-Some-inside.inside c.in-Some-inside.is,
      found_more d.pool.inner.value d.index c.args.path.now l.numbers.items l.from.index l.left.now l.invariant.2 (shown_name c.in-Some.name) c.in-Some-2.found found items c.in_ok-push.ensures.items c.in-Some-inside.inside c.in-Some-inside.is c.in-Some-rest.rest.now begins,
      omega (arith, count, l.invariant.3),
    )

pub returns : goal.returns
returns c =
    let l = c.loop-step in
    let d = c.args.descriptor.now in
    too_long d.pool.inner.value d.index c.args.path.now l.numbers.items l.from.index l.left.now l.invariant.2 (omega (arith, l.invariant.3))
