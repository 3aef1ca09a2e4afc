use Rattle.prost_reflect_dynamic.proofs.Common.{refl, ap, Text}
use Rattle.prost_reflect_dynamic.proofs.value.MapKeyClone.clone.Goals as goal

pub returns-in-Bool : goal.returns-in-Bool
returns-in-Bool c = rw c.in-Bool.is (record { cases = refl })

pub returns-in-U32 : goal.returns-in-U32
returns-in-U32 c = rw c.in-U32.is (record { cases = refl })

pub returns-in-U64 : goal.returns-in-U64
returns-in-U64 c = rw c.in-U64.is (record { cases = refl })

pub returns-in_ok-clone-in-String : goal.returns-in_ok-clone-in-String
returns-in_ok-clone-in-String c = rw c.in-String.is (record { cases = ap Text c.in_ok-clone-in-String.ensures.cases })
