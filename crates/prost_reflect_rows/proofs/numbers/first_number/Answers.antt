use Rattle.prost_reflect_rows.proofs.Common.{sym, subst, payload_wire, BeginsWith}
use Rattle.prost_reflect_rows.proofs.ChangedNumbers.{keyed, value_moved, begins_with}
use Rattle.prost_reflect_rows.proofs.numbers.first_number.Goals as goal

pub returns-clause-some : goal.returns-clause-some
returns-clause-some c =
    let skipped = c.in-Ok-skip_value.ensures.ok in
    subst (λ n. BeginsWith n c.args.bytes.now c.in-Ok-skip_value.rest.now) (sym c.get.ensures.value) (begins_with _ _ skipped.0 _ _ _ c.in-Ok.ensures.ok skipped.1)

pub returns-in_default-clause-none : goal.returns-in_default-clause-none
returns-in_default-clause-none c = λ r rest f. let k = keyed r c.args.bytes.now rest f in c.in_default.ensures.only r.number (payload_wire r.payload) k.mid k.key

pub returns-in_default-skip_value-clause-none : goal.returns-in_default-skip_value-clause-none
returns-in_default-skip_value-clause-none c = λ r rest f. let k = keyed r c.args.bytes.now rest f in
    c.in_default-skip_value.ensures.only r.payload rest (value_moved _ _ _ _ r.payload _ _ rest (c.in-Ok.ensures.only r.number (payload_wire r.payload) k.mid k.key) k.value)
