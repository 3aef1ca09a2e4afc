-- Flat lists grow at the end.
use Rattle.std.specs.Prelude.{◌≡◌, ◌+◌, ◌∷◌, ◌++◌}
use Rattle.prost_reflect_growth.proofs.Common.{ℕ, List, [], length, refl, sym, ap, ◌∙◌, arith, length-append, add-zero, zero-add, FileDescriptorProto, file_at, behind, files_from, flattened}
use Rattle.prost_reflect_tables.proofs.Behind.{behind_behind}
use Rattle.prost_reflect_growth.specs.Growth.{FlatGrows}

grown_from : (old new : List FileDescriptorProto) (i n : ℕ) →
    files_from (old ++ new) i n ≡ behind (files_from old i n) (files_from new (i + length old) (n + length (files_from old i n).messages))
grown_from [] new i n = rw (add-zero i, add-zero n) refl
grown_from (f ∷ old) new i n =
    let first = file_at f i n in
    let k : ℕ = n + length first.messages in
    let rest = files_from old (i + 1) k in
    let place : i + 1 + length old ≡ i + length (f ∷ old) = omega arith in
    let count : k + length rest.messages ≡ n + length (first.messages ++ rest.messages) = omega (arith, length-append first.messages rest.messages) in
    ap (behind first) (grown_from old new (i + 1) k)
    ∙ (sym (behind_behind first rest (files_from new (i + 1 + length old) (k + length rest.messages)))
    ∙ (ap (λ j. behind (behind first rest) (files_from new j (k + length rest.messages))) place
    ∙ ap (λ j. behind (behind first rest) (files_from new (i + length (f ∷ old)) j)) count))

pub flat_grows : FlatGrows
flat_grows old new =
    grown_from old new 0 0
    ∙ (ap (λ j. behind (flattened old) (files_from new j (0 + length (flattened old).messages))) (zero-add (length old))
    ∙ ap (λ j. behind (flattened old) (files_from new (length old) j)) (zero-add (length (flattened old).messages)))
