use Rattle.std.specs.Prelude.{◌≡◌}
use Rattle.prost_reflect_fields.proofs.Common.{true, sym, subst, ◌∙◌, known_of, is_known, Sound}
use Rattle.prost_reflect_fields.proofs.Siblings.{known_differ}
use Rattle.prost_reflect_fields.proofs.SoundChanges.{sound_set}
use Rattle.prost_reflect_maps.proofs.Results.{either}
use Rattle.prost_reflect_fields.proofs.field_set.FieldSet.set_member.Goals as goal
use Rattle.prost_reflect_fields.proofs.field_set.FieldSet.set_member.Goals.{then-is_some, else-is_some}

pub invariant_of-self : goal.invariant_of-self
invariant_of-self g c =
    let inside = c.self.inside in
    let fields = known_of inside.message_type in
    let n = c.args.number in
    let same : c.if-is_some.self ≡ c.args.self.now = elim c.if-is_some.branch [
      | then-is_some w ↦ w.self-is ∙ w.note_members.ensures
      | else-is_some w ↦ w.self-is
    ] in
    let known = subst (λ m. is_known (known_of m.0) n ≡ true) (sym (c.self.view_is ∙ same)) c.requires.known in
    let is_set = c.set_value.ensures in
    either c.set_value.result is_set.ok is_set.err
    (λ is. (subst (Sound fields) (sym is) (sound_set fields inside.fields.0 n c.args.value is_set.ascending (known_differ inside.message_type) known c.self.invariant.0), is_set.noted))
    (λ is. (subst (Sound fields) (sym is) c.self.invariant.0, is_set.noted))
