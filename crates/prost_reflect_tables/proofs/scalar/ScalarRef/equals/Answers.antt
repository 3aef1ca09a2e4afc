use Rattle.prost_reflect_tables.proofs.Common.{◌∙◌, texts_ties}
use Rattle.prost_reflect_tables.proofs.scalar.ScalarRef.equals.Goals as goal

pub returns-in-String-String : goal.returns-in-String-String
returns-in-String-String c = rw (c.in-String-String.is-0, c.in-String-String.is-1) (c.eq.ensures ∙ texts_ties c.in-String-String.text.now c.in-String-String.other.now)

pub returns-in-Bytes-Bytes : goal.returns-in-Bytes-Bytes
returns-in-Bytes-Bytes c = rw (c.in-Bytes-Bytes.is-0, c.in-Bytes-Bytes.is-1) (c.eq-in-Bytes-Bytes.ensures ∙ texts_ties c.in-Bytes-Bytes.bytes.now c.in-Bytes-Bytes.other.now)
