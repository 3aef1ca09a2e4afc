use Rattle.prost_reflect_dynamic.proofs.Common.{rules, ℕ, List, ap, sym, subst, ◌∙◌, on_ok_weaker, FieldSlot, IsAscending, PooledType, Value, known_of, stored_at}
use Rattle.prost_reflect_fields.proofs.SoundChanges.{value_set, ascending_set_at}
use Rattle.prost_reflect_dynamic.proofs.Edits.{sets}
use Rattle.prost_reflect_dynamic.proofs.Stored.{message_set}
use Rattle.prost_reflect_dynamic.proofs.TypedSteps.{set_typed}
use Rattle.prost_reflect_dynamic.proofs.message.DynamicMessage.set_value.Goals as goal

pub returns-clause-message_type : goal.returns-clause-message_type
returns-clause-message_type c = search rules

pub returns-clause-content : goal.returns-clause-content
returns-clause-content c = on_ok_weaker c.set.result (message_set c.args.self.now c.set.new.self c.args.number c.args.value c.set.ensures.ascending c.requires) c.set.ensures.ok

pub returns-clause-typed : goal.returns-clause-typed
returns-clause-typed c = on_ok_weaker c.set.result (set_typed c.args.self.now c.set.new.self c.args.number c.args.value c.set.ensures.ascending) c.set.ensures.ok

pub returns-clause-sets : goal.returns-clause-sets
returns-clause-sets c =
    on_ok_weaker c.set.result
    (λ is. sets c.args.self.now _ c.args.number c.args.value c.set.ensures.ascending (returns-clause-message_type c) (message_set c.args.self.now c.set.new.self c.args.number c.args.value c.set.ensures.ascending c.requires is)
    (set_typed c.args.self.now c.set.new.self c.args.number c.args.value c.set.ensures.ascending is)
    (subst (λ (p : PooledType × List (ℕ × FieldSlot Value)). IsAscending p.1) (sym is) (ascending_set_at (known_of c.args.self.now.fields.0) c.args.self.now.fields.1 c.args.number c.args.value c.set.ensures.ascending))
    (ap (λ (p : PooledType × List (ℕ × FieldSlot Value)). stored_at p.1 c.args.number) is ∙ value_set (known_of c.args.self.now.fields.0) c.args.self.now.fields.1 c.args.number c.args.value c.set.ensures.ascending)) c.set.ensures.ok
