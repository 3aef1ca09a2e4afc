use Rattle.std.specs.Prelude.{◌++◌}
use Rattle.prost_reflect_dynamic.proofs.Common.{rules, ap, ap₂, flat_map, map, ◌∙◌, unknown_fields_of, unknown_record, stored_in}
use Rattle.prost_reflect_dynamic.proofs.Depths.{alone_depth}
use Rattle.prost_reflect_dynamic.proofs.Edits.{takes_unknown}
use Rattle.prost_reflect_dynamic.proofs.TypedSteps.{alone_typed}
use Rattle.prost_reflect_dynamic.proofs.UnknownLists.{all_taken, message_left, unknown_listed}
use Rattle.prost_reflect_dynamic.proofs.message.DynamicMessage.take_unknown_fields.Goals as goal

pub returns-clause-taken : goal.returns-clause-taken
returns-clause-taken c =
    ap₂ (λ xs us. xs ++ flat_map unknown_fields_of us) (c.into_iter.ensures.into_iter_gives.0 ∙ c.new.ensures.fields) (c.into_iter-2.ensures.rest ∙ c.in_ok-sets.ensures.sets)
    ∙ all_taken (stored_in c.args.self.now)

pub returns-clause-records : goal.returns-clause-records
returns-clause-records c =
    ap (map unknown_record)
    (ap₂ (λ xs us. xs ++ flat_map unknown_fields_of us) (c.into_iter.ensures.into_iter_gives.0 ∙ c.new.ensures.fields) (c.into_iter-2.ensures.rest ∙ c.in_ok-sets.ensures.sets)
    ∙ all_taken (stored_in c.args.self.now))
    ∙ unknown_listed c.args.self.now c.take_unknown.ensures.ascending c.take_unknown.ensures.sound

pub returns-clause-removes : goal.returns-clause-removes
returns-clause-removes c =
    takes_unknown c.args.self.now _ c.take_unknown.ensures.ascending (search rules) (message_left c.args.self.now c.take_unknown.new.self c.in_ok-sets.ensures.ok)
    (alone_typed c.args.self.now c.take_unknown.new.self c.take_unknown.ensures.ascending c.in_ok-sets.ensures.ok) (alone_depth c.args.self.now _ (ap (λ p. p.1) c.in_ok-sets.ensures.ok))
