-- Which pool the word for a descriptor set stands for.
use Rattle.std.specs.Prelude.{◌≡◌, ◌≢◌, ◌⊎◌, ℕ, List, [], codes, Ok, IsErr}
use Rattle.hex.specs.Hex.{decode_of}
use Rattle.prost_reflect_types.specs.declared.table.RecordType.TheVariants as types
use Rattle.prost_reflect_tables.specs.declared.error.PoolError.{PoolError}
use Rattle.prost_reflect_pool.specs.declared.pool.LinkedPool.{LinkedPool}
use Rattle.prost_reflect_pool.specs.Pools.{pool_rows, IsPoolOfBytes, Refuses}
use Rattle.prost_reflect_building.specs.BuiltinRows.{builtin_rows}

-- The word for the built-in files.
abbrev pub IsBuiltin : List ℕ → Type 0
IsBuiltin set = set ≡ codes "-"

-- The digits spell a descriptor set, and the pool is made of its files.
pub record SpellsPool (set : List ℕ) (pool : LinkedPool) : Type 0 where
  pub bytes : List ℕ
  pub spelled : decode_of set ≡ Ok bytes
  pub made : IsPoolOfBytes types.FileSet bytes [] pool

abbrev pub IsPoolOfSet : List ℕ → LinkedPool → Type 0
IsPoolOfSet set pool = (IsBuiltin set × (pool_rows pool ≡ builtin_rows)) ⊎ ((set ≢ codes "-") × SpellsPool set pool)

-- The digits spell bytes that make no pool. The built-in files always make one.
pub record RefusesSet (set : List ℕ) (e : PoolError) : Type 0 where
  pub other : set ≢ codes "-"
  pub bytes : List ℕ
  pub spelled : decode_of set ≡ Ok bytes
  pub refuses : Refuses types.FileSet bytes [] e

-- The word spells nothing.
abbrev pub IsNoSet : List ℕ → Type 0
IsNoSet set = (set ≢ codes "-") × IsErr (decode_of set)
