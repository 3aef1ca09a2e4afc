use Rattle.std.specs.Prelude.{◌≡◌}
use Rattle.prost_reflect_fields.proofs.Common.{true, refl, sym, ◌∙◌, ap, subst, unknown_record, known_of, keeps_unknown}
use Rattle.prost_reflect_fields.proofs.NotedMembers.{noted_after, noted_stored}
use Rattle.prost_reflect_fields.proofs.SoundChanges.{sound_added, sound_stored}
use Rattle.prost_reflect_maps.proofs.Results.{either}
use Rattle.prost_reflect_fields.proofs.field_set.FieldSet.add_unknown.Goals as goal

pub invariant_of-self : goal.invariant_of-self
invariant_of-self g c =
    let inside = c.self.inside in
    let fields = known_of inside.message_type in
    let before = inside.fields.0 in
    let added_record = unknown_record c.args.field in
    let keeps : keeps_unknown fields added_record.number added_record.payload ≡ true = ap (λ n. keeps_unknown fields n added_record.payload) c.requires.own ∙ subst (λ m. keeps_unknown (known_of m.0) c.args.number added_record.payload ≡ true) (sym c.self.view_is) c.requires.kept in
    either c.add_unknown.result c.add_unknown.ensures.ok c.add_unknown.ensures.err
    (λ added. (
      sound_added fields before _ added_record added keeps c.self.invariant.0,
      noted_after fields refl c.add_unknown.ensures.noted (noted_stored fields inside.fields.1 _ before added.values c.self.invariant.1),
    ))
    (λ same. (
      sound_stored fields before _ same c.self.invariant.0,
      noted_after fields refl c.add_unknown.ensures.noted (noted_stored fields inside.fields.1 _ before same.values c.self.invariant.1),
    ))
