use Rattle.prost_reflect_dynamic.proofs.Common.{Var, Len, sym, delimited_plain, varint_plain}
use Rattle.prost_reflect_dynamic.proofs.ScalarReads.{reads_element}
use Rattle.prost_reflect_dynamic.proofs.message.decode.scalar.scalar_at.Goals as goal

pub returns-in_ok-value-in-Varint-clause-ok : goal.returns-in_ok-value-in-Varint-clause-ok
returns-in_ok-value-in-Varint-clause-ok c = reads_element _ _ _ (Var _) _ _ c.varint_value.ensures (sym c.in-Varint.is) (varint_plain _ _ _ c.in_ok-value-in-Varint.ensures.ok)

pub returns-in_ok-delimited_value-in-LengthDelimited-clause-ok : goal.returns-in_ok-delimited_value-in-LengthDelimited-clause-ok
returns-in_ok-delimited_value-in-LengthDelimited-clause-ok c = reads_element _ _ _ (Len _) _ _ c.in_ok-delimited_value-in-LengthDelimited.ensures.ok (sym c.in-LengthDelimited.is) (delimited_plain _ _ _ c.in_ok-payload-in-LengthDelimited.ensures.ok)
