use Rattle.std.specs.Prelude.{◌≡◌}
use Rattle.prost_reflect_flat.proofs.Common.{None, length, AreBytes, bool_in}
use Rattle.prost_reflect_flat.proofs.options.bool_in.Given as goal

-- what was found, and what the rest says
abbrev pub invariant-loop-rest : goal.invariant-loop-rest
invariant-loop-rest l = record {
  says : bool_in l.number l.found l.rest ≡ bool_in l.number None l.bytes;
  small : AreBytes l.rest;
}

abbrev pub decreases-loop-rest : goal.decreases-loop-rest
decreases-loop-rest l = length l.rest
