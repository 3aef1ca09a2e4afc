use Rattle.std.proofs.Common.{ap, sym, ◌∙◌, ◌++◌, string_bytes, append-nil, drop_of_length-le}
use Rattle.protorelay_commands.specs.Showing.{lines}
use Rattle.protorelay_commands.proofs.show.lines.Goals as goal

pub returns : goal.returns
returns c =
    let text = string_bytes c.loop-number.text in
    sym (append-nil text) ∙ ap (λ numbers. text ++ lines numbers) (sym (drop_of_length-le c.args.numbers.now c.loop-number-test.false)) ∙ sym c.loop-number.invariant
