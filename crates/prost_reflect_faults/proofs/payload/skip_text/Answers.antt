use Rattle.std.proofs.Common.{refl}
use Rattle.prost_reflect_wire.proofs.PlainFronts.{delimited_plain}
use Rattle.prost_reflect_wire.specs.Record.{Len}
use Rattle.prost_reflect_faults.proofs.Rows.{text_fits, not_text}
use Rattle.prost_reflect_faults.proofs.payload.skip_text.Goals as goal

pub returns-in-Ok-clause-ok : goal.returns-in-Ok-clause-ok
returns-in-Ok-clause-ok c = let e = c.in-Ok.ensures.cases in
    record { plain = Len c.in_ok-text.text.now; wire = refl; front = delimited_plain _ _ _ c.in_ok-text.ensures.ok; named = refl; text = λ _. text_fits c.in_ok-text.text.now e.1 }

pub returns-in-Err-clause-fault : goal.returns-in-Err-clause-fault
returns-in-Err-clause-fault c = let e = c.in-Err.ensures.cases in (refl, refl, (c.in_ok-text.text.now, c.in_ok-text.rest.now, c.in_ok-text.ensures.ok, not_text c.in_ok-text.text.now e.0))
