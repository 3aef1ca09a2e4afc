use Rattle.std.proofs.Common.{rules, ◌≡◌, ◌<◌, ◌≤◌, length, map, arith, get_or}
use Rattle.prost_reflect_dynamic.specs.View.{content_of}
use Rattle.prototool_commands.proofs.ClearedPaths.{no_path, next_path, every_path}
use Rattle.prototool_commands.proofs.redact.clear_all.Goals as goal

pub loop-path-init : goal.loop-path-init
loop-path-init c = no_path (map (λ path. path.items) c.args.paths.now) (content_of c.args.message.now) c.requires

pub loop-path-preserved : goal.loop-path-preserved
loop-path-preserved c =
    let l = c.loop-path in
    let paths = c.args.paths.now in
    let less : l.path-index < length paths = search rules in
    let at : c.as_slice.result.now ≡ (get_or paths l.path-index c.path-item.result).items = search rules in
    next_path (λ path. path.items) l.message c.clear_along.new.message (content_of c.args.message.now) paths l.path-index _ c.path-item.result c.as_slice.result.now less (omega arith) at l.invariant c.in_ok-clear_along.ensures

pub returns : goal.returns
returns c =
    let l = c.loop-path in
    let paths = c.args.paths.now in
    let done : length paths ≤ l.path-index = search rules in
    every_path (λ path. path.items) (content_of c.args.message.now) (content_of l.message) paths l.path-index done l.invariant
