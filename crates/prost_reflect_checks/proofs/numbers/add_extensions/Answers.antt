use Rattle.std.specs.Prelude.{◌≡◌, ◌+◌, ◌∷◌, ◌++◌}
use Rattle.prost_reflect_checks.proofs.Common.{ℕ, ℤ, List, [], map, drop, Some, rules, sym, ap, ◌∙◌, append_assoc, ResolvedField, Numbered, number_or_zero, numbered_at, numbered, numbered_list, resolved_row, numbered_found, front_left}
use Rattle.std.proofs.lemmas.List.{map-append}
use Rattle.prost_reflect_checks.proofs.numbers.add_extensions.Goals as goal
use Rattle.prost_reflect_checks.proofs.numbers.add_extensions.Goals.{in-Some+in_ok-push, in_default}

abbrev number_of : ResolvedField → ℤ
number_of f = number_or_zero (resolved_row f).definition.proto.number

pushed : (numbers : List (ℕ × ℤ)) (t : ℕ × ℤ) (rest : List Numbered) (f : ResolvedField) (place : ℕ) → f.extendee ≡ Some place → numbered t ≡ record { message = place; number = number_of f }
    → numbered_list (numbers ++ t ∷ []) ++ rest ≡ numbered_list numbers ++ (numbered_at (number_of f) f.extendee ++ rest)
pushed numbers t rest f place is told =
    ap (λ ns. ns ++ rest) (map-append numbered numbers (t ∷ []))
    ∙ (append_assoc (numbered_list numbers) (numbered t ∷ []) rest
    ∙ (ap (λ n. numbered_list numbers ++ n ∷ rest) told ∙ sym (ap (λ o. numbered_list numbers ++ (numbered_at (number_of f) o ++ rest)) is)))

pub loop-extension-preserved : goal.loop-extension-preserved
loop-extension-preserved c =
    let f = c.extension-item.result in
    let before = c.loop-extension.numbers.items in
    let rest = numbered_found (map resolved_row (drop (c.loop-extension.extension-index + 1) c.args.extensions.now)) in
    let step = sym (ap (λ fs. numbered_list before ++ numbered_found (map resolved_row fs)) (front_left c.args.extensions.now c.loop-extension.extension-index f c.loop-extension-test.true c.extension-item.is)) ∙ c.loop-extension.invariant in
    elim c.match-extension.branch [
      | in-Some+in_ok-push w ↦
          ap (λ numbers. numbered_list numbers.items ++ rest) w.numbers-is ∙ (ap (λ numbers. numbered_list numbers ++ rest) w.in_ok-push.ensures.items
          ∙ (pushed before _ rest f w.in-Some.place w.in-Some.is (search rules) ∙ step))
      | in_default w ↦
          ap (λ numbers. numbered_list numbers.items ++ rest) w.numbers-is
          ∙ (sym (ap (λ o. numbered_list before ++ (numbered_at (number_of f) o ++ rest)) w.in_default.is) ∙ step)
    ]
