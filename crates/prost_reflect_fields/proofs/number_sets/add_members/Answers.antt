use Rattle.std.specs.Prelude.{◌≡◌, ◌+◌, ◌||◌}
use Rattle.prost_reflect_fields.proofs.Common.{sym, ◌∙◌, ap, Some, None, drop, drop_of_length-le, get_or, refl, length, slice_get, slice_get_read, slice_get_past, rows_at, has, is_in_oneof}
use Rattle.prost_reflect_fields.proofs.MembersCleared.{row_and_rest, no_row_and_rest}
use Rattle.prost_reflect_fields.proofs.WholeOneofs.{then_added, members_done}
use Rattle.prost_reflect_fields.proofs.number_sets.add_members.Goals as goal
use Rattle.prost_reflect_fields.proofs.number_sets.add_members.Goals.{in-Some+in_ok-add_member, in_default}

pub loop-place-preserved : goal.loop-place-preserved
loop-place-preserved c =
    let table = c.args.table.now in
    let places = c.args.places.now in
    let oneof = c.args.oneof in
    let i = c.loop-place.place-index in
    let before = c.loop-place.numbers in
    let rest = rows_at table (drop (i + 1) places) in
    λ k. elim c.match-get.branch [
      | in-Some+in_ok-add_member w ↦
          let field = w.in-Some.field.now in
          let at : slice_get table (get_or places i 0) ≡ Some field = slice_get_read table (length table) (get_or places i 0) field refl w.in-Some.ensures.lookup.3.0 w.in-Some.ensures.lookup.1 in
          ap (λ numbers. has numbers k || is_in_oneof rest oneof k) w.numbers-is
          ∙ then_added field oneof before w.add_member.new.numbers rest k (w.in_ok-add_member.ensures k)
          ∙ ap (λ fs. has before k || is_in_oneof fs oneof k) (sym (row_and_rest table places i field c.loop-place-test.true at))
          ∙ c.loop-place.invariant k
      | in_default w ↦
          let none : slice_get table (get_or places i 0) ≡ None = slice_get_past table (get_or places i 0) w.in_default.ensures.lookup.3 in
          ap (λ numbers. has numbers k || is_in_oneof rest oneof k) w.numbers-is
          ∙ ap (λ fs. has before k || is_in_oneof fs oneof k) (sym (no_row_and_rest table places i c.loop-place-test.true none))
          ∙ c.loop-place.invariant k
    ]

pub returns : goal.returns
returns c = λ k.
    members_done c.loop-place.numbers c.args.oneof k
    ∙ ap (λ is. has c.loop-place.numbers k || is_in_oneof (rows_at c.args.table.now is) c.args.oneof k) (sym (drop_of_length-le c.args.places.now c.loop-place-test.false))
    ∙ c.loop-place.invariant k
