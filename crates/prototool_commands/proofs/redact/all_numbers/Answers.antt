use Rattle.std.proofs.Common.{rules, ℕ, ◌+◌, ◌<◌, [], ◌∷◌, length, map, take, Vec, Global, string_bytes, ap, sym, ◌∙◌, subst}
use Rattle.std.proofs.lemmas.List.{map-append}
use Rattle.prototool_commands.specs.Naming.{ArePathsTo}
use Rattle.prototool_commands.specs.Refusals.{RefusesPath}
use Rattle.prototool_commands.proofs.NamedRedaction.{led_next, led_nowhere}
use Rattle.prototool_commands.proofs.redact.all_numbers.Goals as goal

pub returns-in-None-clause-refused : goal.returns-in-None-clause-refused
returns-in-None-clause-refused c =
    let d = c.args.descriptor.now in
    let paths = c.args.paths.now in
    let i = c.loop-path.path-index in
    let less : i < length paths = search rules in
    let none = rw c.in-None.is at c.in_ok-numbers.ensures in
    let refuses = subst (λ path. RefusesPath path c.of_path.result) (c.as_str-in-None.ensures.value ∙ sym c.as_str.ensures.value) c.of_path.ensures in
    led_nowhere d.pool.inner.value d.index string_bytes paths i c.path-item.result less c.as_str.result.now (c.as_str.ensures.value ∙ ap string_bytes c.path-item.is) c.of_path.result none refuses

pub loop-path-preserved : goal.loop-path-preserved
loop-path-preserved c =
    let d = c.args.descriptor.now in
    let paths = c.args.paths.now in
    let l = c.loop-path in
    let less : l.path-index < length paths = search rules in
    let found = rw c.in-Some.is at c.in_ok-numbers.ensures in
    let items = λ (numbers : Vec ℕ Global). numbers.items in
    subst (ArePathsTo d.pool.inner.value d.index (map string_bytes (take (l.path-index + 1) paths))) (sym (ap (map items) c.in_ok-push-in-Some.ensures.items ∙ map-append items l.all.items (c.in-Some.numbers ∷ [])))
    (led_next d.pool.inner.value d.index string_bytes paths l.path-index c.path-item.result less c.as_str.result.now (c.as_str.ensures.value ∙ ap string_bytes c.path-item.is) (map items l.all.items) c.in-Some.numbers.items l.invariant found)
