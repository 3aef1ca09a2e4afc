use Rattle.std.specs.Prelude.{◌≡◌, ◌∷◌, ◌++◌}
use Rattle.prost_reflect_pool.proofs.Common.{ℕ, List, [], None, rules, sym, ap, ◌∙◌, bracketed}
use Rattle.prost_reflect_pool.proofs.ExtensionLookups.{bracketed_found, unbracketed, behind_bracket}
use Rattle.prost_reflect_pool.proofs.pool.LinkedPool.extension_place_by_json_name.Goals as goal

pub returns-in_err-rest-clause-found : goal.returns-in_err-rest-clause-found
returns-in_err-rest-clause-found c =
    let none : c.from_residual.result ≡ None = search rules in
    rw none (unbracketed c.args.self.now c.args.message c.args.json_name.now c.requires (λ name is. c.in_err-rest.ensures.cases (name ++ 93 ∷ []) is))

pub returns-in_err-full_name-clause-found : goal.returns-in_err-full_name-clause-found
returns-in_err-full_name-clause-found c =
    let none : c.from_residual-in_err-full_name.result ≡ None = search rules in
    let cut = c.in_ok-rest.ensures.cases in
    let whole : c.args.json_name.now ≡ 91 ∷ c.in_ok-rest.rest.now = cut.1.1 ∙ ap (λ (r : List ℕ). 91 ∷ r) (sym cut.2) in
    rw none (unbracketed c.args.self.now c.args.message c.args.json_name.now c.requires (λ name is. c.in_err-full_name.ensures.cases name (behind_bracket c.args.json_name.now c.in_ok-rest.rest.now name whole is)))

pub returns-clause-found : goal.returns-clause-found
returns-clause-found c =
    let cut = c.in_ok-rest.ensures.cases in
    let end = c.in_ok-full_name.ensures.cases in
    let rest : c.in_ok-rest.rest.now ≡ c.in_ok-full_name.full_name.now ++ 93 ∷ [] = end.1.1 ∙ ap (λ (t : List ℕ). t ++ 93 ∷ []) (sym end.2) in
    let whole : c.args.json_name.now ≡ bracketed c.in_ok-full_name.full_name.now = cut.1.1 ∙ ap (λ (r : List ℕ). 91 ∷ r) (sym cut.2 ∙ rest) in
    c.extension_place_by_full_name.ensures.found ∙ bracketed_found c.args.self.now c.args.message c.in_ok-full_name.full_name.now c.args.json_name.now c.requires whole
