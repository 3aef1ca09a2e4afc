use Rattle.std.proofs.Common.{◌≡◌, ◌==◌, Some, None, length, ap, sym, ◌∙◌, arith, eqb-true, true≢false}
use Rattle.std.proofs.lemmas.List.{nil_from_length}
use Rattle.std.proofs.lemmas.Str.Pattern.{split_parts, strip_prefix_char}
use Rattle.prototool_commands.proofs.NameTexts.{full_cut, full_open, full_wrong}
use Rattle.prototool_commands.proofs.redact.path.bracketed_name.Goals as goal

pub returns-in_err-name : goal.returns-in_err-name
returns-in_err-name c =
    let none = rw c.in_err-name.was at (split_parts 93 c.args.text.now c.split_once.result c.split_once.ensures.cases (omega arith)) in
    let gone : c.from_residual.result ≡ None = grind arith in
    rw gone (full_open c.args.text.now none)

pub returns-then-is_empty : goal.returns-then-is_empty
returns-then-is_empty c =
    let cut = rw c.in_ok-name.was at (split_parts 93 c.args.text.now c.split_once.result c.split_once.ensures.cases (omega arith)) in
    let behind = c.in_ok-name.behind.now in
    full_cut c.args.text.now c.in_ok-name.name.now behind None cut.0 cut.1 (nil_from_length behind (eqb-true (length behind) 0 (sym c.is_empty.ensures ∙ c.if-is_empty.true)))

pub returns-in_err-rest : goal.returns-in_err-rest
returns-in_err-rest c =
    let cut = rw c.in_ok-name.was at (split_parts 93 c.args.text.now c.split_once.result c.split_once.ensures.cases (omega arith)) in
    let behind = c.in_ok-name.behind.now in
    let undotted = rw c.in_err-rest.was at (strip_prefix_char 46 behind c.strip_prefix.result c.strip_prefix.ensures.cases (omega arith)) in
    rw c.from_residual-in_err-rest.ensures (full_wrong c.args.text.now c.in_ok-name.name.now behind cut.0 cut.1 (λ e. true≢false (sym (c.is_empty.ensures ∙ ap (λ b. length b == 0) e) ∙ c.if-is_empty.false)) undotted)

pub returns : goal.returns
returns c =
    let cut = rw c.in_ok-name.was at (split_parts 93 c.args.text.now c.split_once.result c.split_once.ensures.cases (omega arith)) in
    let behind = c.in_ok-name.behind.now in
    let dotted = rw c.in_ok-rest.was at (strip_prefix_char 46 behind c.strip_prefix.result c.strip_prefix.ensures.cases (omega arith)) in
    full_cut c.args.text.now c.in_ok-name.name.now behind (Some c.in_ok-rest.rest.now) cut.0 cut.1 dotted
