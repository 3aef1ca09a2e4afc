use Rattle.std.specs.Prelude.{◌++◌}
use Rattle.prost_reflect_fields.proofs.Common.{arith, length, sym, ◌∙◌, ap, subst, without_values, IsAscending, known_of, is_listed, AreNoted, Sound, IsSound}
use Rattle.prost_reflect_fields.proofs.SlotChanges.{ascending_without_values}
use Rattle.prost_reflect_fields.proofs.SoundChanges.{sound_without}
use Rattle.prost_reflect_fields.proofs.field_set.FieldSet.take_listed.Goals as goal

pub parted-taken-requires-clause-taken_room : goal.parted-taken-requires-clause-taken_room
parted-taken-requires-clause-taken_room g c = omega (arith, c.in-Some.ensures.count, c.in_ok-taken.ensures.len, c.in_ok-taken.ensures.exact, ap length (c.move_items.ensures.items ∙ ap (λ l. l ++ c.self.inside.fields.0) c.in_ok-slots.ensures.items))

pub parted-taken-requires-clause-kept_room : goal.parted-taken-requires-clause-kept_room
parted-taken-requires-clause-kept_room g c = omega (arith, c.in-Some.ensures.count, c.in_ok-kept.ensures.len, c.in_ok-kept.ensures.exact, ap length (c.move_items.ensures.items ∙ ap (λ l. l ++ c.self.inside.fields.0) c.in_ok-slots.ensures.items))

pub from_items-requires : goal.from_items-requires
from_items-requires g c =
    let inside = c.self.inside in
    let test = is_listed c.args.of_extensions (known_of inside.message_type) in
    subst IsAscending (sym (c.parted-taken.ensures.kept ∙ ap (without_values test) (c.move_items.ensures.items ∙ ap (λ l. l ++ inside.fields.0) c.in_ok-slots.ensures.items))) (ascending_without_values test inside.fields.0 c.move_items.ensures.ascending)

pub invariant_of-self : goal.invariant_of-self
invariant_of-self g c =
    let inside = c.self.inside in
    let fields = known_of inside.message_type in
    let test = is_listed c.args.of_extensions fields in
    let kept = c.parted-taken.ensures.kept ∙ ap (without_values test) (c.move_items.ensures.items ∙ ap (λ l. l ++ inside.fields.0) c.in_ok-slots.ensures.items) in
    subst (λ held. Sound fields held.0 × AreNoted fields held.1 held.0) (sym c.from_items.ensures) (subst (Sound fields) (sym kept) (sound_without fields test inside.fields.0 c.move_items.ensures.ascending c.self.invariant.0), tt)

pub returns-clause-sound : goal.returns-clause-sound
returns-clause-sound g c = subst (λ m. IsSound m.0 m.1) c.self.view_is c.self.invariant.0
