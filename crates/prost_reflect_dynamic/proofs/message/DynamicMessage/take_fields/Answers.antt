use Rattle.prost_reflect_dynamic.proofs.Common.{map, false, sym, ap, subst, ◌∙◌, All, IsOwnField, number_of, had_pairs, message_type_of, IsPart}
use Rattle.prost_reflect_dynamic.proofs.Depths.{Small, pairs_small}
use Rattle.prost_reflect_dynamic.proofs.Edits.{taken_gone}
use Rattle.prost_reflect_dynamic.proofs.OwnFields.{number_listed}
use Rattle.prost_reflect_dynamic.proofs.Parts.{all_of, pairs_part}
use Rattle.prost_reflect_walks.proofs.Walks.{each_taken}
use Rattle.prost_reflect_dynamic.proofs.ValueLists.{numbers_zipped, all_zipped}
use Rattle.prost_reflect_dynamic.proofs.message.DynamicMessage.take_fields.Goals as goal

pub returns-clause-pairs : goal.returns-clause-pairs
returns-clause-pairs c =
    ap (map (λ p. (number_of p.0, p.1))) (c.into_iter.ensures.rest ∙ c.in_ok-taken.ensures.pairs)
    ∙ numbers_zipped number_of c.in_ok-fields.fields.items (had_pairs false c.args.self.now) c.in_ok-fields.ensures.numbers

pub returns-clause-own : goal.returns-clause-own
returns-clause-own c =
    subst (All (λ p. IsOwnField (message_type_of c.args.self.now) p.0)) (sym (c.into_iter.ensures.rest ∙ c.in_ok-taken.ensures.pairs))
    (all_zipped (IsOwnField (message_type_of c.args.self.now)) c.in_ok-fields.fields.items (map (λ p. p.1) (had_pairs false c.args.self.now)) c.in_ok-fields.ensures.own)

pub returns-clause-inside : goal.returns-clause-inside
returns-clause-inside c =
    let m = c.args.self.now in
    each_taken (λ p. Small m p.1) _ (all_of (λ p. (number_of p.0, p.1)) (λ p. Small m p.1) _ (had_pairs false m) (returns-clause-pairs c) (pairs_small m false))

pub returns-clause-parts : goal.returns-clause-parts
returns-clause-parts c =
    let m = c.args.self.now in
    each_taken (λ p. IsPart m (number_of p.0) p.1) _ (all_of (λ p. (number_of p.0, p.1)) (λ p. IsPart m p.0 p.1) _ (had_pairs false m) (returns-clause-pairs c) (pairs_part m c.in_ok-taken.ensures.ascending false))

pub returns-clause-gone : goal.returns-clause-gone
returns-clause-gone c = λ n declared. taken_gone c.args.self.now _ false c.in_ok-taken.ensures.removes n (number_listed (message_type_of c.args.self.now) n declared)
