-- Buffers in front of one another.
use Rattle.std.specs.Prelude.{ℕ, List, ◌++◌}
use Rattle.prost_reflect_wire.specs.Buffer.{bytes_of, joined}
use Rattle.prost_reflect_wire.specs.declared.blocks.Blocks.{Blocks}

-- What was added.
abbrev pub bytes_in : Blocks → List ℕ
bytes_in blocks = bytes_of blocks.front ++ joined blocks.behind.items
