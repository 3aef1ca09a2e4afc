-- Shared pools whose files hold the same have the same tables.
use Rattle.std.specs.Prelude.{◌≡◌, ◌&&◌}
use Rattle.prost_reflect_pool.proofs.Common.{Bool, true, false, refl, sym, ◌∙◌, Global, Rc, linked_of, contents_eq, contents_decide, contents_of, LinkedPool}
use Rattle.prost_reflect_tables.specs.Equality.{rows_eq, rows_decide}
use Rattle.prost_reflect_tables.proofs.EqualFiles.{equal_tables}
use Rattle.prost_reflect_pool.specs.Pools as pools
use Rattle.prost_reflect_pool.specs.SharedPools.{pool_rows, pool_contents}

pub rows_of_same : (a b : LinkedPool) → pools.pool_contents a ≡ pools.pool_contents b → pools.pool_rows a ≡ pools.pool_rows b
unfolding contents_of
rows_of_same a b h = linked_of (pools.files_of a) (pools.pool_rows a) a.built
    ∙ equal_tables (pools.files_of a) (pools.files_of b) h
    ∙ sym (linked_of (pools.files_of b) (pools.pool_rows b) b.built)

pub rows_same : (a b : Rc LinkedPool Global) → pool_contents a ≡ pool_contents b → pool_rows a ≡ pool_rows b
rows_same a b h = rows_of_same a.value b.value h

with_more : (p q : Bool) → (p ≡ true → q ≡ true) → p ≡ (p && q)
with_more false q h = refl
with_more true q h = sym (h refl)

-- so a test of the contents is one of the rows, too
pub rows_follow : (a b : Rc LinkedPool Global) → contents_eq (pool_contents a) (pool_contents b) ≡ (contents_eq (pool_contents a) (pool_contents b) && rows_eq (pool_rows a) (pool_rows b))
rows_follow a b = with_more (contents_eq (pool_contents a) (pool_contents b)) (rows_eq (pool_rows a) (pool_rows b))
    (λ yes. (rows_decide (pool_rows a) (pool_rows b)).1 (rows_same a b ((contents_decide (pool_contents a) (pool_contents b)).0 yes)))
