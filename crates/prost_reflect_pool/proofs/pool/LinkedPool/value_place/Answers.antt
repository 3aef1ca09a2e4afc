use Rattle.std.specs.Prelude.{◌≡◌, IfSome}
use Rattle.prost_reflect_pool.proofs.Common.{ℕ, Option, rules, sym, ap, ◌∙◌, subst, is_some, files_of, pool_rows, value_place}
use Rattle.prost_reflect_pool.proofs.InCatalog.{value_order}
use Rattle.prost_reflect_pool.proofs.ValuePlaces.{IsValue, value_name_order, value_found, value_there, value_known}
use Rattle.prost_reflect_pool.proofs.pool.LinkedPool.value_place.Goals as goal

pub returns : goal.returns
returns c =
    let pool = c.args.self.now in
    let rows = pool_rows pool in
    let w = c.args.full_name.now in
    let found : c.first_equal.result ≡ value_place rows w =
    value_found rows w _ _ (c.as_slice.ensures ∙ value_order (files_of pool) rows pool.catalog pool.built pool.listed)
    (c.first_equal.ensures (value_name_order rows w) (λ x r h. search rules)) in
    record {
      found = found;
      there = subst (λ (o : Option (ℕ × ℕ)). IfSome o (IsValue rows)) (sym found) (value_there rows w);
      known = ap (λ (o : Option (ℕ × ℕ)). is_some o) found ∙ value_known rows w;
    }
