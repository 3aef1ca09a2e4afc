use Rattle.std.specs.Prelude.{◌≡◌}
use Rattle.prost_reflect_fields.proofs.Common.{sym, ◌∙◌, known_of, oneof_of}
use Rattle.prost_reflect_fields.proofs.MembersCleared.{siblings_cleared}
use Rattle.prost_reflect_fields.proofs.PresentSiblings.{others_cleared}
use Rattle.prost_reflect_fields.proofs.stored.clear_siblings.Goals as goal

pub returns-then-not-clear_listed-clause-cleared : goal.returns-then-not-clear_listed-clause-cleared
returns-then-not-clear_listed-clause-cleared g c =
    let d = c.args.message_type.now in
    let number = c.args.number in
    let oneof = c.args.oneof in
    let before = g.S.NumberMap.entries c.args.fields.now in
    let between = g.S.NumberMap.entries c.clear_listed.new.fields in
    let is : oneof ≡ oneof_of (known_of d) number = c.requires in
    c.clear_members.ensures.cleared
    ∙ siblings_cleared d c.field_tables.result.now c.member_places-places.result.now number oneof between c.field_tables.ensures c.member_places-places.ensures is
    ∙ sym (others_cleared d number oneof between is)
    ∙ c.clear_listed.ensures.left
    ∙ others_cleared d number oneof before is

pub returns-else-not-clear_listed-clause-cleared : goal.returns-else-not-clear_listed-clause-cleared
returns-else-not-clear_listed-clause-cleared g c =
    c.clear_listed.ensures.cleared c.if-not-clear_listed.false
    ∙ others_cleared c.args.message_type.now c.args.number c.args.oneof (g.S.NumberMap.entries c.args.fields.now) c.requires
