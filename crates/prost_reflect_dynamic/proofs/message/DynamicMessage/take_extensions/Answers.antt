use Rattle.prost_reflect_dynamic.proofs.Common.{map, true, sym, ap, subst, ◌∙◌, All, IsOwnExtension, extension_number, had_pairs, message_type_of, IsPart}
use Rattle.prost_reflect_dynamic.proofs.Depths.{Small, pairs_small}
use Rattle.prost_reflect_dynamic.proofs.Edits.{taken_gone}
use Rattle.prost_reflect_dynamic.proofs.Parts.{all_of, pairs_part}
use Rattle.prost_reflect_walks.proofs.Walks.{each_taken}
use Rattle.prost_reflect_dynamic.proofs.ValueLists.{numbers_zipped, all_zipped}
use Rattle.prost_reflect_dynamic.proofs.message.DynamicMessage.take_extensions.Goals as goal

pub returns-clause-pairs : goal.returns-clause-pairs
returns-clause-pairs c =
    ap (map (λ p. (extension_number p.0, p.1))) (c.into_iter.ensures.rest ∙ c.in_ok-taken.ensures.pairs)
    ∙ numbers_zipped extension_number c.in_ok-extensions.extensions.items (had_pairs true c.args.self.now) c.in_ok-extensions.ensures.numbers

pub returns-clause-own : goal.returns-clause-own
returns-clause-own c =
    subst (All (λ p. IsOwnExtension (message_type_of c.args.self.now) p.0)) (sym (c.into_iter.ensures.rest ∙ c.in_ok-taken.ensures.pairs))
    (all_zipped (IsOwnExtension (message_type_of c.args.self.now)) c.in_ok-extensions.extensions.items (map (λ p. p.1) (had_pairs true c.args.self.now)) c.in_ok-extensions.ensures.own)

pub returns-clause-inside : goal.returns-clause-inside
returns-clause-inside c =
    let m = c.args.self.now in
    each_taken (λ p. Small m p.1) _ (all_of (λ p. (extension_number p.0, p.1)) (λ p. Small m p.1) _ (had_pairs true m) (returns-clause-pairs c) (pairs_small m true))

pub returns-clause-parts : goal.returns-clause-parts
returns-clause-parts c =
    let m = c.args.self.now in
    each_taken (λ p. IsPart m (extension_number p.0) p.1) _ (all_of (λ p. (extension_number p.0, p.1)) (λ p. IsPart m p.0 p.1) _ (had_pairs true m) (returns-clause-pairs c) (pairs_part m c.in_ok-taken.ensures.ascending true))

pub returns-clause-gone : goal.returns-clause-gone
returns-clause-gone c = taken_gone c.args.self.now _ true c.in_ok-taken.ensures.removes
