use Rattle.std.specs.Prelude.{◌≡◌, ◌+◌}
use Rattle.prost_reflect_fields.proofs.Common.{sym, ◌∙◌, ap, Some, None, drop, drop_of_length-le, get_or, refl, length, slice_get, slice_get_read, slice_get_past, without_values, is_member, rows_at}
use Rattle.prost_reflect_fields.proofs.MembersCleared.{then_cleared, all_cleared, row_and_rest, no_row_and_rest}
use Rattle.prost_reflect_fields.proofs.stored.clear_members.Goals as goal
use Rattle.prost_reflect_fields.proofs.stored.clear_members.Goals.{in-Some, in_default}

pub loop-place-preserved : goal.loop-place-preserved
loop-place-preserved g c =
    let entries = g.S.NumberMap.entries in
    let table = c.args.table.now in
    let places = c.args.places.now in
    let oneof = c.args.oneof in
    let number = c.args.number in
    let i = c.loop-place.place-index in
    let before = entries c.loop-place.fields in
    let rest = rows_at table (drop (i + 1) places) in
    let left : without_values (is_member rest oneof number) (entries c.match-get.fields) ≡ without_values (is_member (rows_at table places) oneof number) (entries c.args.fields.now) = elim c.match-get.branch [
      | in-Some w ↦
          let field = w.in-Some.field.now in
          let at : slice_get table (get_or places i 0) ≡ Some field = slice_get_read table (length table) (get_or places i 0) field refl w.in-Some.ensures.lookup.3.0 w.in-Some.ensures.lookup.1 in
          ap (λ s. without_values (is_member rest oneof number) (entries s)) w.fields-is
          ∙ ap (without_values (is_member rest oneof number)) w.clear_member.ensures.cleared
          ∙ then_cleared field oneof number rest before w.clear_member.ensures.ascending
          ∙ ap (λ fs. without_values (is_member fs oneof number) before) (sym (row_and_rest table places i field c.loop-place-test.true at))
          ∙ c.loop-place.invariant.left
      | in_default w ↦
          let none : slice_get table (get_or places i 0) ≡ None = slice_get_past table (get_or places i 0) w.in_default.ensures.lookup.3 in
          ap (λ s. without_values (is_member rest oneof number) (entries s)) w.fields-is
          ∙ ap (λ fs. without_values (is_member fs oneof number) before) (sym (no_row_and_rest table places i c.loop-place-test.true none))
          ∙ c.loop-place.invariant.left
    ] in
    let noted : g.S.NumberMap.noted c.match-get.fields ≡ g.S.NumberMap.noted c.args.fields.now = elim c.match-get.branch [
      | in-Some w ↦ ap g.S.NumberMap.noted w.fields-is ∙ w.clear_member.ensures.noted ∙ c.loop-place.invariant.noted
      | in_default w ↦ ap g.S.NumberMap.noted w.fields-is ∙ c.loop-place.invariant.noted
    ] in
    record { left = left; noted = noted }

pub returns-clause-cleared : goal.returns-clause-cleared
returns-clause-cleared g c =
    let last = g.S.NumberMap.entries c.loop-place.fields in
    sym (all_cleared c.args.oneof c.args.number last)
    ∙ ap (λ is. without_values (is_member (rows_at c.args.table.now is) c.args.oneof c.args.number) last) (sym (drop_of_length-le c.args.places.now c.loop-place-test.false))
    ∙ c.loop-place.invariant.left
