use Rattle.prost_reflect_dynamic.proofs.Common.{ap, sym, subst, ◌∙◌, IfSome, option_and_then, known_of, saying, has_at, content_of, IsPart}
use Rattle.prost_reflect_dynamic.proofs.Depths.{Small, had_small}
use Rattle.prost_reflect_dynamic.proofs.Had.{had_found}
use Rattle.prost_reflect_dynamic.proofs.Parts.{had_part}
use Rattle.prost_reflect_dynamic.proofs.message.DynamicMessage.take_had.Goals as goal

pub returns-clause-value : goal.returns-clause-value
returns-clause-value c =
    c.saying.ensures
    ∙ ap (λ t. option_and_then (saying (known_of t) c.args.number) c.take_value-value.result) (c.message_type.ensures ∙ c.take_value-value.ensures.removes.message_type)
    ∙ sym (had_found c.args.self.now c.args.number c.take_value-value.result c.take_value-value.ensures.ascending c.take_value-value.ensures.stored)

pub returns-clause-inside : goal.returns-clause-inside
returns-clause-inside c =
    let m = c.args.self.now in
    subst (λ r. IfSome r (Small m)) (sym (returns-clause-value c)) (had_small m c.args.number (has_at c.args.number (content_of m)))

pub returns-clause-part : goal.returns-clause-part
returns-clause-part c =
    let m = c.args.self.now in
    subst (λ r. IfSome r (IsPart m c.args.number)) (sym (returns-clause-value c)) (had_part m c.take_value-value.ensures.ascending c.args.number)
