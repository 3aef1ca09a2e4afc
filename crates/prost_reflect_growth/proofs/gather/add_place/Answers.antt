use Rattle.prost_reflect_growth.proofs.Common.{arith}
use Rattle.prost_reflect_growth.proofs.GatheredFrom.{item_from, item_front, item_apart}
use Rattle.prost_reflect_growth.proofs.gather.add_place.Goals as goal

pub returns-in_ok-add_item : goal.returns-in_ok-add_item
returns-in_ok-add_item c = item_from c.args.place c.args.first c.in-Some.owner c.args.owner _ _ c.in-Some.is c.if-first-owner.true c.in_ok-add_item.ensures

pub returns-else-first-owner : goal.returns-else-first-owner
returns-else-first-owner c = item_front c.args.place c.args.first c.in-Some.owner c.args.owner _ c.in-Some.is (omega (arith, c.if-first-owner.false))

pub returns-in_default : goal.returns-in_default
returns-in_default c = item_apart c.args.place c.args.first c.args.owner _ c.in_default.is
