use Rattle.prost_reflect_dynamic.proofs.Common.{map, ap, ◌∙◌, zip, known_of, said}
use Rattle.prost_reflect_dynamic.proofs.message.DynamicMessage.take_paired.Goals as goal

pub returns-clause-pairs : goal.returns-clause-pairs
returns-clause-pairs g c =
    c.paired.ensures
    ∙ ap (λ t. zip c.args.descriptors.items (map (λ p. p.1) (said (known_of t) c.in_ok-taken.taken.items))) (c.message_type.ensures ∙ c.take_listed.ensures.message_type)
    ∙ ap (λ l. zip c.args.descriptors.items (map (λ p. p.1) l)) c.in_ok-taken.ensures.pairs
