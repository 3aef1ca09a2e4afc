use Rattle.std.proofs.Common.{◌≡◌, length}
use Rattle.prost_reflect_wire.specs.Varint.{AreBytes}
use Rattle.prost_reflect_tables.specs.OptionFaults.{bytes_suit_option}
use Rattle.prost_reflect_definition_checks.proofs.options.bytes_suit_option.Given as goal

abbrev pub invariant-loop-rest : goal.invariant-loop-rest
invariant-loop-rest l = record {
  says : bytes_suit_option l.number l.rest ≡ bytes_suit_option l.number l.bytes;
  small : AreBytes l.rest;
}

abbrev pub decreases-loop-rest : goal.decreases-loop-rest
decreases-loop-rest l = length l.rest
