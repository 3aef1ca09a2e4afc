use Rattle.std.proofs.Common.{ℕ, List, string_bytes, refl, inr, subst}
use Rattle.std.specs.Io.KnownBytes.{Appends}
use Rattle.protorelay_commands.proofs.run.carry_out.Goals as goal

pub returns-in_err-write_text-in-Ok-clause-out : goal.returns-in_err-write_text-in-Ok-clause-out
returns-in_err-write_text-in-Ok-clause-out g c = inr (string_bytes c.in-Ok.text, record { command = c.in-Some.command; asked = c.in-Some.ensures.found; answered = c.in-Ok.ensures.answered })

pub returns-in_ok-write_text-in-Ok-clause-done : goal.returns-in_ok-write_text-in-Ok-clause-done
returns-in_ok-write_text-in-Ok-clause-done g c =
    let Printed : List ℕ → Type 0 = λ text. Appends (g.O.Write.contents c.args.out.now) (g.O.Write.contents c.write_text.new.to) text in
    λ done. (refl, (string_bytes c.in-Ok.text, record { command = c.in-Some.command; asked = c.in-Some.ensures.found; answered = c.in-Ok.ensures.answered }, subst Printed c.as_str.ensures.value c.in_ok-write_text-in-Ok.ensures))

pub returns-in_ok-write_text-in-Ok-clause-out : goal.returns-in_ok-write_text-in-Ok-clause-out
returns-in_ok-write_text-in-Ok-clause-out g c = inr (string_bytes c.in-Ok.text, record { command = c.in-Some.command; asked = c.in-Some.ensures.found; answered = c.in-Ok.ensures.answered })

pub returns-in_ok-write_line-in-Err-clause-refused : goal.returns-in_ok-write_line-in-Err-clause-refused
returns-in_ok-write_line-in-Err-clause-refused g c =
    λ refused. (refl, (c.in-Err.refusal, record { command = c.in-Some.command; asked = c.in-Some.ensures.found; refused = c.in-Err.ensures.refused }, c.in_ok-write_line-in-Err.ensures))
