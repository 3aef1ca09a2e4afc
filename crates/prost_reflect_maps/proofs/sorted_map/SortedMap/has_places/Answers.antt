use Rattle.std.specs.Prelude.{◌≡◌, is_none, is_some}
use Rattle.prost_reflect_maps.proofs.Common.{rules, false, HavePlaces, item_at, has_place, true, subst, sym}
use Rattle.prost_reflect_maps.proofs.Moving.{no_places, place_more, place_of, place_unasked}
use Rattle.prost_reflect_maps.proofs.sorted_map.SortedMap.has_places.Goals as goal
use Rattle.prost_reflect_maps.proofs.sorted_map.SortedMap.has_places.Goals.{else-is_some-via-then-is_some+else-is_none, else-is_some-via-else-is_some}

pub loop-number-init : goal.loop-number-init
loop-number-init g c = subst (λ left. HavePlaces left c.args.self.now.0 c.args.others.now.0) c.into_iter-number-iterator.ensures.into_iter_gives.0

pub loop-number-preserved : goal.loop-number-preserved
loop-number-preserved g c rest =
    let n = c.in-Some.number.now in
    let es = c.args.self.now.0 in
    let ds = c.args.others.now.0 in
    let here : has_place (item_at ds n) (item_at es n) ≡ true = elim c.else-is_some.branch [
      | else-is_some-via-then-is_some+else-is_none w ↦
          let found : is_none w.get-then-is_some.result ≡ false = search rules in
          place_of w.get-then-is_some.result (item_at ds n) (item_at es n) found w.get-then-is_some.ensures
      | else-is_some-via-else-is_some w ↦
          let missing : is_some c.get.result ≡ false = search rules in
          place_unasked c.get.result (item_at ds n) (item_at es n) missing c.get.ensures
    ] in
    c.loop-number.invariant (subst (λ left. HavePlaces left es ds) (sym c.in-Some.ensures.steps) (place_more n c.next.new.self es ds here rest))

pub returns : goal.returns
returns g c _ = c.loop-number.invariant (subst (λ left. HavePlaces left c.args.self.now.0 c.args.others.now.0) (sym c.in-None.ensures.steps.0) (no_places _ _))
