use Rattle.std.specs.Prelude.{◌≡◌, ◌∷◌}
use Rattle.prost_reflect_maps.proofs.Common.{ap, sym, ◌∙◌, slice_get, items_from, items_left}
use Rattle.prost_reflect_maps.proofs.Above.{other_first, behind_same, nothing_from}
use Rattle.prost_reflect_maps.proofs.sorted_map.SortedMapNumberMap.first_above.Goals as goal

pub returns-in-Some : goal.returns-in-Some
returns-in-Some g c =
    let first = c.in-Some.field-0.now in
    sym (other_first c.args.number c.args.self.now.0 (items_left c.next.new.self) first (sym c.walks_at.ensures.from ∙ c.in-Some.ensures.steps) c.if-first-number.true)

pub returns-in-Some-next : goal.returns-in-Some-next
returns-in-Some-next g c =
    let first = c.in-Some.field-0.now in
    let cut : items_from c.args.self.now.0 c.args.number ≡ first ∷ items_left c.next.new.self = sym c.walks_at.ensures.from ∙ c.in-Some.ensures.steps in
    sym (behind_same c.args.number c.args.self.now.0 (items_left c.next.new.self) first c.ascends.ensures cut c.if-first-number.false ∙ ap (λ l. slice_get l 0) c.in-Some-next.ensures.steps)

pub returns-in-None-next : goal.returns-in-None-next
returns-in-None-next g c =
    let first = c.in-Some.field-0.now in
    let cut : items_from c.args.self.now.0 c.args.number ≡ first ∷ items_left c.next.new.self = sym c.walks_at.ensures.from ∙ c.in-Some.ensures.steps in
    sym (behind_same c.args.number c.args.self.now.0 (items_left c.next.new.self) first c.ascends.ensures cut c.if-first-number.false ∙ ap (λ l. slice_get l 0) c.in-None-next.ensures.steps.0)

pub returns-in-None : goal.returns-in-None
returns-in-None g c = sym (nothing_from c.args.number c.args.self.now.0 (sym c.walks_at.ensures.from ∙ c.in-None.ensures.steps.0))
