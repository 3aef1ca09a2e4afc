use Rattle.prost_reflect_dynamic.proofs.Common.{ap, sym, ◌∙◌, value_set, content_of, message_type_of}
use Rattle.prost_reflect_dynamic.specs.declared.value.Value as values
use Rattle.prost_reflect_dynamic.proofs.MapEntries.{map_after, empty_map}
use Rattle.prost_reflect_dynamic.proofs.TypedSteps.{lent_step}
use Rattle.prost_reflect_dynamic.proofs.TypedValues.{entry_added, empty_map_typed}
use Rattle.prost_reflect_dynamic.proofs.message.DynamicMessage.put_entry.Goals as goal

pub returns-clause-content : goal.returns-clause-content
returns-clause-content c =
    c.in_ok-map.ensures.content (values.Map c.insert.new.self)
    ∙ ap (λ v. value_set c.args.number v (content_of c.args.self.now))
    (map_after _ c.in_ok-map.map.now (values.Map c.new.result) _ c.insert.new.self c.args.key c.args.value c.requires.mapped (empty_map c.new.result c.new.ensures.empty) c.in_ok-map.ensures.value (sym c.in-Some.ensures.value) c.in_ok-insert-in-Some.ensures.entries)

pub returns-clause-typed : goal.returns-clause-typed
returns-clause-typed c =
    let d = message_type_of c.args.self.now in
    λ one. lent_step c.args.self.now c.args.number (values.Map c.new.result) c.in_ok-map.ensures.ascending c.in_ok-map.map.now (values.Map c.insert.new.self) c.in_ok-map.ensures.stored (empty_map_typed d c.args.number c.new.result c.new.ensures.empty)
    (λ h. entry_added d c.args.number c.in_ok-map.map.now _ c.insert.new.self c.args.key c.args.value (sym c.in-Some.ensures.value) c.in_ok-insert-in-Some.ensures.entries one h)
