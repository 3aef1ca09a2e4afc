use Rattle.std.specs.Prelude.{◌<◌}
use Rattle.prost_reflect_dynamic.proofs.Common.{rules, sym, subst, size-DynamicMessage, size-Value}
use Rattle.prost_reflect_dynamic.proofs.Depths.{message_small}
use Rattle.prost_reflect_dynamic.proofs.value.Value.as_message_mut.Goals as goal

-- The search reaches its limits unless it is told that the value is a message, and may look into the layout of values.
pub returns-in-Message : goal.returns-in-Message
unfolding Rattle.prost_reflect_dynamic.specs.declared.value.Value.TheViews.out-Value Rattle.prost_reflect_dynamic.specs.declared.value.Value.TheBlock.shape-the_row-Value-0 Rattle.prost_reflect_dynamic.specs.declared.value.Value.TheBlock.hidden-the_row-Value-0 denote.Hole.Carrier.out
returns-in-Message c = (
  rw (c.in-Message.is) (search rules),
  record {
    writes_back = tt;
    value = rw (c.in-Message.is) (search rules);
    inside = subst (λ m. size-DynamicMessage m < size-Value c.args.self.now) (sym c.in-Message.value-is) (message_small c.args.self.now c.in-Message.value c.in-Message.is);
  },
)
