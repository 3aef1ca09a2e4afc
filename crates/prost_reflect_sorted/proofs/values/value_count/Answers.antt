use Rattle.std.specs.Prelude.{◌≡◌, ◌+◌, ◌-◌, ◌^◌, ◌<◌, ◌∷◌}
use Rattle.std.specs.List.{sum_by}
use Rattle.std.proofs.Common.{take, min}
use Rattle.std.proofs.lemmas.List.{map-append, take_more, take_all}
use Rattle.std.proofs.lemmas.List.Sums.{sum_by_push}
use Rattle.prost_reflect_sorted.proofs.Common.{ℕ, List, [], length, map, get_or, sym, ap, ◌∙◌, arith, length-map, definition_row, enum_row, FlatEnumRow}
use Rattle.prost_reflect_flat.specs.declared.definitions.FlatEnum.{FlatEnum}
use Rattle.prost_reflect_sorted.proofs.values.value_count.Goals as goal

abbrev total : List FlatEnum → ℕ
total enums = sum_by (λ (e : FlatEnumRow). length e.values) (map enum_row enums)

counted : (enums : List FlatEnum) (i : ℕ) (e : FlatEnum) → i < length enums → e ≡ get_or enums i e → total (take (i + 1) enums) ≡ total (take i enums) + length e.values.items
counted enums i e h is =
    ap total (take_more enums i e h)
    ∙ (ap (sum_by (λ (e : FlatEnumRow). length e.values)) (map-append enum_row (take i enums) (get_or enums i e ∷ []))
    ∙ (sum_by_push (λ (e : FlatEnumRow). length e.values) (map enum_row (take i enums)) (enum_row (get_or enums i e))
    ∙ (ap (λ (d : FlatEnum). total (take i enums) + length (map definition_row d.values.items)) (sym is)
    ∙ ap (λ n. total (take i enums) + n) (length-map e.values.items definition_row))))

-- A sum that stops at a limit.
limited : (sum more limit count new : ℕ) → count ≡ min sum limit → new ≡ min (count + more) limit → new ≡ min (sum + more) limit
limited sum more limit count new e f = omega arith

pub loop-declared-preserved : goal.loop-declared-preserved
loop-declared-preserved c =
    let enums = c.args.enums.now in
    let i = c.loop-declared.declared-index in
    let e = c.declared-item.result in
    let size : c.len.result ≡ length e.values.items = omega (arith, c.len.ensures, e.values.ok.0) in
    limited (total (take i enums)) (length e.values.items) (2 ^ 64 - 1) c.loop-declared.count _ c.loop-declared.invariant (c.saturating_add-count.ensures ∙ ap (λ n. min (c.loop-declared.count + n) (2 ^ 64 - 1)) size)
    ∙ ap (λ n. min n (2 ^ 64 - 1)) (sym (counted enums i e c.loop-declared-test.true c.declared-item.is))

pub returns : goal.returns
returns c = c.loop-declared.invariant ∙ ap (λ (es : List FlatEnum). min (total es) (2 ^ 64 - 1)) (take_all c.loop-declared.declared-index c.args.enums.now (omega arith))
