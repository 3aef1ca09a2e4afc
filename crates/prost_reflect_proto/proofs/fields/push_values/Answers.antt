use Rattle.prost_reflect_proto.proofs.Common.{err_from_is_err_and}
use Rattle.prost_reflect_proto.proofs.FieldsFound.{delimited_refused}
use Rattle.prost_reflect_proto.proofs.fields.push_values.Goals as goal

pub returns-in_err-push_delimited-in-LengthDelimited-clause-fault : goal.returns-in_err-push_delimited-in-LengthDelimited-clause-fault
returns-in_err-push_delimited-in-LengthDelimited-clause-fault c =
    let p = err_from_is_err_and c.from_residual-in_err-push_delimited-in-LengthDelimited.result c.from_residual-in_err-push_delimited-in-LengthDelimited.ensures.1 in
    rw (p.1, p.2) (λ ne. delimited_refused _ _ _ _ _ _ _ c.in-LengthDelimited.is c.in_ok-body-in-LengthDelimited.ensures.ok (c.in_err-push_delimited-in-LengthDelimited.ensures.fault ne))
