use Rattle.std.specs.Prelude.{◌≡◌}
use Rattle.prost_reflect_fields.proofs.Common.{[], Some, ap, sym, subst, ◌∙◌, items_left, known_of, AreNoted}
use Rattle.prost_reflect_fields.proofs.AllNoted.{notes_of, all_noted}
use Rattle.prost_reflect_fields.proofs.Siblings.{known_differ}
use Rattle.prost_reflect_fields.proofs.noting.noted_members.Goals as goal

pub returns : goal.returns
returns g c =
    let fields = known_of c.args.message_type.now in
    let es = items_left c.args.slots in
    let notes = c.loop-number.notes.entries in
    let is : notes ≡ notes_of fields [] es = ap (notes_of fields notes) (sym c.in-None.ensures.steps.0) ∙ c.loop-number.invariant in
    subst (λ ns. AreNoted fields (Some ns) es) (sym is) (all_noted fields es (known_differ c.args.message_type.now) c.requires.ascending c.requires.single)
