use Rattle.prost_reflect_fields.proofs.Common.{sym, subst, known_of, AreNoted, Sound}
use Rattle.prost_reflect_fields.proofs.ValuesAlone.{sound_alone}
use Rattle.prost_reflect_maps.proofs.Results.{either}
use Rattle.prost_reflect_fields.proofs.field_set.FieldSet.take_unknown.Goals as goal

pub invariant_of-self : goal.invariant_of-self
invariant_of-self g c =
    let inside = c.self.inside in
    let fields = known_of inside.message_type in
    let taken = c.take_unknown.ensures in
    either c.take_unknown.result taken.ok taken.err
    (λ is. subst (λ held. Sound fields held.0 × AreNoted fields held.1 held.0) (sym is) (sound_alone fields inside.fields.0 taken.ascending c.self.invariant.0, tt))
    (λ is. subst (λ held. Sound fields held.0 × AreNoted fields held.1 held.0) (sym is) c.self.invariant)
