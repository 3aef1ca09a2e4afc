use Rattle.std.specs.Prelude.{◌++◌}
use Rattle.prost_reflect_wire.proofs.Common.{ap, arith, drop, length, length-append, bytes_of, joined}
use Rattle.prost_reflect_wire.proofs.BlockSteps.{block_fits}
use Rattle.prost_reflect_wire.proofs.blocks.Blocks.append_within.Goals as goal

-- all that is to be written fits, so what is there with one buffer more does
pub append_slice-requires-in-loop-index : goal.append_slice-requires-in-loop-index
append_slice-requires-in-loop-index c =
    let front = bytes_of c.args.self.now.front in
    let later = joined (drop c.loop-index.index c.args.self.now.behind.items) in
    let behind = c.args.self.now.behind in
    omega (
      arith,
      c.loop-index.invariant.1,
      ap length c.loop-index.invariant.0,
      length-append c.args.out.now.items (front ++ later),
      length-append front later,
      length-append front (joined behind.items),
      c.loop-index.out.ok.0,
      c.args.out.now.ok.0,
      ap length c.as_slice-in-loop-index.ensures,
      block_fits behind.items c.loop-index.index c.index.result.now c.loop-index-test.true (omega (arith, c.loop-index.auto.index, c.len-index.ensures, behind.ok.0)) c.index.ensures,
    )
