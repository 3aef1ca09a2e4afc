use Rattle.std.proofs.Common.{sym}
use Rattle.prost_reflect_wire.specs.Record.{Var, Len}
use Rattle.prost_reflect_wire.proofs.PlainFronts.{delimited_plain, varint_plain}
use Rattle.prost_reflect_faults.proofs.payload.skip_plain.Goals as goal

pub returns-in_ok-rest-in-Varint-clause-ok : goal.returns-in_ok-rest-in-Varint-clause-ok
returns-in_ok-rest-in-Varint-clause-ok c = record { plain = Var c.in_ok-rest-in-Varint.field-0-0; wire = sym c.in-Varint.is; front = varint_plain _ _ _ c.in_ok-rest-in-Varint.ensures.ok }

pub returns-in_ok-rest-in-LengthDelimited-clause-ok : goal.returns-in_ok-rest-in-LengthDelimited-clause-ok
returns-in_ok-rest-in-LengthDelimited-clause-ok c =
    record { plain = Len c.in_ok-rest-in-LengthDelimited.field-0-0.now; wire = sym c.in-LengthDelimited.is; front = delimited_plain _ _ _ c.in_ok-rest-in-LengthDelimited.ensures.ok }
