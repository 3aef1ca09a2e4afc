use Rattle.prost_reflect_dynamic.proofs.Common.{rules, sym}
use Rattle.prost_reflect_dynamic.proofs.Paths.{led_to, led_to_none}
use Rattle.prost_reflect_dynamic.proofs.descriptor.message.MessageDescriptor.get_field_by_path.Goals as goal

pub returns-in_ok-message-in-Some-clause-row : goal.returns-in_ok-message-in-Some-clause-row
returns-in_ok-message-in-Some-clause-row c =
    led_to c.args.self.now c.deref.result.now c.index.result c.args.path.now (search rules) (search rules) c.new.result c.in-Some.message c.in-Some.index (sym c.in-Some.ensures.place) (search rules) (search rules) (search rules)

pub returns-in-None-clause-row : goal.returns-in-None-clause-row
returns-in-None-clause-row c = led_to_none c.args.self.now c.deref.result.now c.index.result c.args.path.now (search rules) (search rules) (sym c.in-None.ensures.place)
