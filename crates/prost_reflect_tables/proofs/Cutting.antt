-- Where a text may be cut, as that of the two names of a definition.
use Rattle.std.proofs.Common.{◌≡◌, ◌-◌, ◌+◌, ℕ, List, length, drop, true, sym, ap, ◌∙◌, subst, arith, nat_eq}
use Rattle.std.specs.Str.{IsUtf8, IsCharBoundary}
use Rattle.std.specs.Cmp.Lexicographic.{pointwise}
use Rattle.std.proofs.lemmas.Str.{IsCharBoundary-from_drop}
use Rattle.std.proofs.lemmas.Slice.Eq.{bytes_eq-Decides}

-- where the rest of a text begins that ends so
pub before_end : (text own front : List ℕ) → IsUtf8 own → pointwise nat_eq (drop (length text - length own) text) own ≡ true → length front + length own ≡ length text → (drop (length front) text ≡ own) × IsCharBoundary text (length front)
before_end text own front u same sum =
    let at : length text - length own ≡ length front = omega (arith, sum) in
    let e : drop (length front) text ≡ own = ap (λ n. drop n text) (sym at) ∙ (bytes_eq-Decides _ own).0 same in
    (e, IsCharBoundary-from_drop text (length front) (omega (arith, sum)) (subst IsUtf8 (sym e) u))

-- a text may be cut where it ends
pub at_end : (text : List ℕ) (n : ℕ) → n ≡ length text → IsCharBoundary text n
at_end text n e = (omega (arith, e), λ l. absurd (omega (arith, e, l)))
