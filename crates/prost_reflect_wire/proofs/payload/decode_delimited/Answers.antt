use Rattle.std.proofs.Common.{rules, arith, inr}
use Rattle.prost_reflect_wire.specs.declared.error.DecodeError.TheVariants as errors
use Rattle.prost_reflect_wire.proofs.PlainFronts.{delimited_once, delimited_cut, delimited_no_fault}
use Rattle.prost_reflect_wire.proofs.payload.decode_delimited.Goals as goal

pub returns-in_err-len-clause-only : goal.returns-in_err-len-clause-only
returns-in_err-len-clause-only c = λ body rest f. absurd (delimited_no_fault c.in_err-len.field-0.0 body c.args.bytes.now rest f (search rules))

pub returns-then-rest-len-clause-only : goal.returns-then-rest-len-clause-only
returns-then-rest-len-clause-only c = λ body rest f. delimited_no_fault errors.Truncated body c.args.bytes.now rest f (inr (record { size = c.in_ok-len.len; rest = c.in_ok-len.rest.now; front = c.in_ok-len.ensures.ok; short = omega arith }))

pub returns-clause-ok : goal.returns-clause-ok
returns-clause-ok c = delimited_cut c.in_ok-len.len _ _ _ _ c.in_ok-len.ensures.ok c.split_at.ensures.front c.split_at.ensures.back (omega arith)

pub returns-clause-only : goal.returns-clause-only
returns-clause-only c = λ body rest f.
    delimited_once _ body _ _ rest (delimited_cut c.in_ok-len.len _ _ _ _ c.in_ok-len.ensures.ok c.split_at.ensures.front c.split_at.ensures.back (omega arith)) f
