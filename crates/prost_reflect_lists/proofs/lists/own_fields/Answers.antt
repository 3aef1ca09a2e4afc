use Rattle.std.specs.Prelude.{◌≡◌, ◌+◌, ◌<◌, ◌∷◌, ◌++◌}
use Rattle.prost_reflect_lists.proofs.Common.{ℕ, true, false, not, cond, List, [], length, map, drop, get_or, sym, ap, ◌∙◌, append_assoc, FieldRow, field_row, places_from, front_left}
use Rattle.prost_reflect_tables.specs.declared.tables.FieldTable.{FieldTable}
use Rattle.prost_reflect_lists.proofs.lists.own_fields.Goals as goal
use Rattle.prost_reflect_lists.proofs.lists.own_fields.Goals.{then-not-field+in_ok-push, else-not-field}

abbrev own_from : ℕ → List FieldTable → List ℕ
own_from place fields = places_from (λ (f : FieldRow). not f.is_extension) place (map field_row fields)

own_pushed : (places : List ℕ) (fields : List FieldTable) (i : ℕ) (f : FieldTable) → i < length fields → f ≡ get_or fields i f → f.is_extension ≡ false → (places ++ i ∷ []) ++ own_from (i + 1) (drop (i + 1) fields) ≡ places ++ own_from i (drop i fields)
own_pushed places fields i f h is own =
    let rest = own_from (i + 1) (drop (i + 1) fields) in
    append_assoc places (i ∷ []) rest ∙ (sym (ap (λ b. places ++ cond (not b) (i ∷ rest) rest) own) ∙ sym (ap (λ fs. places ++ own_from i fs) (front_left fields i f h is)))

other_passed : (places : List ℕ) (fields : List FieldTable) (i : ℕ) (f : FieldTable) → i < length fields → f ≡ get_or fields i f → f.is_extension ≡ true → places ++ own_from (i + 1) (drop (i + 1) fields) ≡ places ++ own_from i (drop i fields)
other_passed places fields i f h is other =
    let rest = own_from (i + 1) (drop (i + 1) fields) in
    sym (ap (λ b. places ++ cond (not b) (i ∷ rest) rest) other) ∙ sym (ap (λ fs. places ++ own_from i fs) (front_left fields i f h is))

pub loop-place-preserved : goal.loop-place-preserved
loop-place-preserved c =
    let rest = own_from (c.loop-place.place + 1) (drop (c.loop-place.place + 1) c.args.fields.now) in
    elim c.if-not-field.branch [
      | then-not-field+in_ok-push w ↦
          ap (λ places. places.items ++ rest) w.places-is ∙ (ap (λ places. places ++ rest) w.in_ok-push.ensures.items
          ∙ (own_pushed c.loop-place.places.items c.args.fields.now c.loop-place.place c.index-fields-place.result c.loop-place-test.true c.index-fields-place.is w.if-not-field.true ∙ c.loop-place.invariant))
      | else-not-field w ↦
          ap (λ places. places.items ++ rest) w.places-is
          ∙ (other_passed c.loop-place.places.items c.args.fields.now c.loop-place.place c.index-fields-place.result c.loop-place-test.true c.index-fields-place.is w.if-not-field.false ∙ c.loop-place.invariant)
    ]
