use Rattle.std.proofs.Common.{arith}
use Rattle.std.proofs.lemmas.Str.Pattern.{split_parts}
use Rattle.prototool_commands.proofs.NameTexts.{own_cut, own_whole}
use Rattle.prototool_commands.proofs.redact.path.own_name.Goals as goal

pub returns-in-Some : goal.returns-in-Some
returns-in-Some c =
    let cut = rw c.in-Some.is at (split_parts 46 c.args.path.now c.split_once.result c.split_once.ensures.cases (omega arith)) in
    own_cut c.args.path.now c.requires c.in-Some.name.now c.in-Some.rest.now cut.0 cut.1

pub returns-in-None : goal.returns-in-None
returns-in-None c =
    let none = rw c.in-None.is at (split_parts 46 c.args.path.now c.split_once.result c.split_once.ensures.cases (omega arith)) in
    own_whole c.args.path.now c.requires none
