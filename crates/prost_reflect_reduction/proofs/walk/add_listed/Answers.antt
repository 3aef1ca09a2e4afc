use Rattle.prost_reflect_reduction.proofs.Common.{ℕ, Option, ap, sym, ◌∙◌, subst, OnOk, Schema, joined, listed, LeadsOn, AreSources}
use Rattle.prost_reflect_reduction.proofs.Walking.{joined_none}
use Rattle.prost_reflect_reduction.proofs.walk.add_listed.Goals as goal

pub returns-in-None-clause-pairs : goal.returns-in-None-clause-pairs
returns-in-None-clause-pairs c = sym (ap (λ p. joined c.args.pairs.now.items (listed p)) c.in-None.is ∙ joined_none c.args.pairs.now.items)

pub returns-in-Some-clause-sources : goal.returns-in-Some-clause-sources
returns-in-Some-clause-sources c =
    subst (λ (p : Option (ℕ × ℕ)). OnOk c.add.result ((older newer : Schema) → AreSources older newer c.args.pairs.now.items c.args.sources.now.items → LeadsOn older newer c.args.pairs.now.items c.args.source (listed p) → AreSources older newer c.add.new.pairs.items c.add.new.sources.items)) (sym c.in-Some.is) c.add.ensures.sources
