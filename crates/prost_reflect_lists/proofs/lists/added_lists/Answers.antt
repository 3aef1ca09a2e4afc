use Rattle.std.specs.Prelude.{◌≡◌, ◌+◌, ◌-◌, ◌<◌}
use Rattle.prost_reflect_lists.proofs.Common.{length, rules, arith, DefinitionRow, FlatMessageRow, FlatEnumRow, links_of, extended_place, same_lists}
use Rattle.prost_reflect_types.specs.declared.FieldDescriptorProto.{FieldDescriptorProto}
use Rattle.prost_reflect_base.specs.Below.{rows_below}
use Rattle.prost_reflect_tables.specs.Flat.{behind}
use Rattle.prost_reflect_growth.specs.GatheredFrom.{list_items}
use Rattle.prost_reflect_growth.proofs.GatheredFrom.{copied_at}
use Rattle.prost_reflect_lists.proofs.lists.added_lists.Goals as goal

pub returns : goal.returns
returns g c =
    let old = rows_below c.args.base in
    let new = g.new in
    let first = length old.messages in
    let n = length new.messages in
    let inner = c.args.inner.now in
    let place = c.args.place in
    let offset = place - c.message_count.result in
    let at : place ≡ first + offset = omega (arith, c.message_count.ensures, c.requires.1.0) in
    let within : offset < n = omega (arith, c.message_count.ensures, c.requires.1.1, c.requires.1.0) in
    same_lists _ _
    (copied_at (λ (m : FlatMessageRow). m.definition.parent) (length old.messages) new.messages first n offset place (list_items inner.messages) _ c.requires.0.messages within at (search rules))
    (copied_at (λ (e : FlatEnumRow). e.definition.parent) (length old.enums) new.enums first n offset place (list_items inner.enums) _ c.requires.0.enums within at (search rules))
    (copied_at (λ (d : DefinitionRow FieldDescriptorProto). d.parent) (length old.extensions) new.extensions first n offset place (list_items inner.extensions) _ c.requires.0.extensions within at (search rules))
    (copied_at (extended_place (links_of (behind old new))) (length old.extensions) new.extensions first n offset place (list_items inner.extending) _ c.requires.0.extending within at (search rules))
    (search rules)
    (search rules)
    (search rules)
