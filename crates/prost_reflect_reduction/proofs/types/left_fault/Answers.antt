use Rattle.prost_reflect_reduction.proofs.Common.{length, sym, ltb-true, ltb-false}
use Rattle.prost_reflect_reduction.proofs.Noting.{some_left, none_left}
use Rattle.prost_reflect_reduction.proofs.types.left_fault.Goals as goal

pub returns-in-Some : goal.returns-in-Some
returns-in-Some c = some_left c.args.tables.now c.args.fields.now c.args.place c.in-Some.field.now (ltb-true c.args.place (length c.args.fields.now) (sym c.in-Some.ensures.lookup.0)) c.in-Some.ensures.lookup.1

pub returns-in-None : goal.returns-in-None
returns-in-None c = none_left c.args.tables.now c.args.fields.now c.args.place (ltb-false c.args.place (length c.args.fields.now) (sym c.in-None.ensures.lookup.0))
