use Rattle.prost_reflect_fields.proofs.Common.{nat_eq, sym, subst, known_of, Sound}
use Rattle.prost_reflect_fields.proofs.NotedMembers.{noted_after, noted_without}
use Rattle.prost_reflect_fields.proofs.SoundChanges.{sound_without}
use Rattle.prost_reflect_fields.proofs.field_set.FieldSet.take.Goals as goal

pub invariant_of-self : goal.invariant_of-self
invariant_of-self g c =
    let inside = c.self.inside in
    let fields = known_of inside.message_type in
    let taken = c.take_value.ensures in (
      subst (Sound fields) (sym taken.entries) (sound_without fields (nat_eq c.args.number) inside.fields.0 taken.ascending c.self.invariant.0),
      noted_after fields taken.entries taken.noted (noted_without fields inside.fields.1 (nat_eq c.args.number) inside.fields.0 taken.ascending c.self.invariant.1),
    )
