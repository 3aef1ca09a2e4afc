use Rattle.std.specs.Prelude.{◌<◌}
use Rattle.prost_reflect_pool.proofs.Common.{ℕ, length, All-same, file_table_row, files_of}
use Rattle.prost_reflect_pool.proofs.PoolLinks.{imports_of}
use Rattle.prost_reflect_pool.proofs.pool.LinkedPool.dependencies_of.Goals as goal

pub returns-clause-there : goal.returns-clause-there
returns-clause-there c =
    let pool = c.args.self.now in
    let file = c.file_table.result.now in
    let there = imports_of pool c.args.index (file_table_row file) c.file_table.ensures.row in
    All-same (λ (d : ℕ). d < length (files_of pool)) c.as_slice.result.now file.dependencies.items c.as_slice.ensures.value there.dependencies
