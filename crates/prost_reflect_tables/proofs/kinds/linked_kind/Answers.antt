use Rattle.std.proofs.Common.{refl, ◌∙◌}
use Rattle.prost_reflect_tables.proofs.kinds.linked_kind.Goals as goal

pub returns : goal.returns
returns c = c.kind_of_code.ensures ∙ rw (c.unwrap_or.ensures, c.unwrap_or-2.ensures, c.natural_or_zero.ensures) refl
