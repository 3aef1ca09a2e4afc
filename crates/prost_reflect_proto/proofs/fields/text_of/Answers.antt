use Rattle.prost_reflect_proto.proofs.Common.{refl, false_from_ne_true}
use Rattle.std.proofs.lemmas.Str.{IsUtf8-from_is_utf8, is_utf8-from_IsUtf8}
use Rattle.prost_reflect_proto.proofs.fields.text_of.Goals as goal

pub returns-in-Ok-clause-ok : goal.returns-in-Ok-clause-ok
returns-in-Ok-clause-ok c = let e = c.in-Ok.ensures.cases in (is_utf8-from_IsUtf8 _ e.1, e.0)

pub returns-in-Err-clause-fault : goal.returns-in-Err-clause-fault
returns-in-Err-clause-fault c = let e = c.in-Err.ensures.cases in (refl, false_from_ne_true _ (λ yes. e.0 (IsUtf8-from_is_utf8 _ yes)))
