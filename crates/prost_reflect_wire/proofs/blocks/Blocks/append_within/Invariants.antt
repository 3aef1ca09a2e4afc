use Rattle.std.specs.Prelude.{◌≡◌, ◌≤◌, ◌+◌, ◌++◌}
use Rattle.prost_reflect_wire.proofs.Common.{drop, length, vec_len, vec_capacity, bytes_of, joined, bytes_in}
use Rattle.prost_reflect_wire.proofs.blocks.Blocks.append_within.Given as goal

-- the buffers from the index on are written, and there is room for all
abbrev pub invariant-loop-index : goal.invariant-loop-index
invariant-loop-index l = (l.out.items ≡ l.fn.out.items ++ (bytes_of l.self.front ++ joined (drop l.index l.self.behind.items))) × (vec_len l.fn.out + length (bytes_in l.self) ≤ vec_capacity l.out)
