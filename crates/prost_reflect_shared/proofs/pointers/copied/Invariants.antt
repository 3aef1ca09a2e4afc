use Rattle.std.proofs.Common.{◌≡◌, take}
use Rattle.prost_reflect_shared.specs.Chunks.{values}
use Rattle.prost_reflect_shared.proofs.pointers.copied.Given as goal

abbrev pub invariant-loop-pointer : goal.invariant-loop-pointer
invariant-loop-pointer g l = values l.copies.items ≡ values (take l.pointer-index l.pointers)
