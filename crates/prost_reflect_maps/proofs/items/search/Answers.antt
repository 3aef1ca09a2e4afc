use Rattle.prost_reflect_maps.proofs.Common.{rules}
use Rattle.std.proofs.lemmas.List.Sorted.{answers_always}
use Rattle.prost_reflect_maps.proofs.Places.{place_is}
use Rattle.prost_reflect_maps.proofs.items.search.Goals as goal

pub returns : goal.returns
returns g c =
    let facts = c.binary_search_by_key.ensures in
    let by_number = facts.position (λ item. item.0) (answers_always _ _ _ (λ f a r g called. search rules)) in
    place_is c.args.number _ _ c.requires facts.bound by_number
