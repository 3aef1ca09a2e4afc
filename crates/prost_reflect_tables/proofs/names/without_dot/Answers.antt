use Rattle.std.specs.Prelude.{◌≡◌, ◌∷◌}
use Rattle.prost_reflect_tables.proofs.Common.{ℕ, Bool, true, false, cond, List, [], eqb, refl, ap, eqb-true, without_dot}
use Rattle.prost_reflect_tables.proofs.names.without_dot.Goals as goal

undotted : (name : List ℕ) → ((rest : List ℕ) → name ≡ 46 ∷ rest → ⊥) → name ≡ without_dot name
undotted [] h = refl
undotted (b ∷ name) h = by_dot (eqb b 46) refl
  where
    by_dot : (v : Bool) → eqb b 46 ≡ v → b ∷ name ≡ cond v name (b ∷ name)
    by_dot true is = absurd (h name (ap (λ x. x ∷ name) (eqb-true b 46 is)))
    by_dot false is = refl

pub returns-in-None : goal.returns-in-None
unfolding lib.Utf8.encode
returns-in-None c = undotted c.args.name.now c.in-None.ensures.cases
