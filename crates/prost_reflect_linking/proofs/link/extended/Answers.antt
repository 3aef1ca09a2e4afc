use Rattle.std.specs.List.{zip}
use Rattle.prost_reflect_linking.proofs.Common.{true, map, ap, ◌∙◌, definition_row, grouped}
use Rattle.prost_reflect_linking.proofs.Paired.{empty_rows, extendee_of}
use Rattle.prost_reflect_linking.specs.Meanings.{field_meant, meaning_row}
use Rattle.prost_reflect_linking.proofs.link.extended.Goals as goal

pub returns : goal.returns
returns c =
    let pairs = zip (map definition_row c.args.definitions.now) (map meaning_row c.args.meanings.now) in
    c.in_ok-add_extensions.ensures
    ∙ ap (grouped extendee_of (field_meant true) pairs c.args.first) (empty_rows c.args.count c.in_ok-lists.lists.items c.in_ok-lists.ensures)
