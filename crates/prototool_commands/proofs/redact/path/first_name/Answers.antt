use Rattle.std.proofs.Common.{sym, subst, arith}
use Rattle.std.proofs.lemmas.Str.Pattern.{strip_prefix_char}
use Rattle.prototool_commands.specs.Naming.{IsFirstName}
use Rattle.prototool_commands.proofs.redact.path.first_name.Goals as goal

pub returns-in-Some : goal.returns-in-Some
returns-in-Some c =
    let is = rw c.in-Some.is at (strip_prefix_char 91 c.args.path.now c.strip_prefix.result c.strip_prefix.ensures.cases (omega arith)) in
    subst (λ path. IsFirstName path c.bracketed_name.result) (sym is) c.bracketed_name.ensures

pub own_name-requires : goal.own_name-requires
own_name-requires c = rw c.in-None.is at (strip_prefix_char 91 c.args.path.now c.strip_prefix.result c.strip_prefix.ensures.cases (omega arith))
