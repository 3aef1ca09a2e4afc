use Rattle.prost_reflect_rows.proofs.types.are_equal_types.Goals as goal

pub returns : goal.returns
returns c = rw (c.pool.ensures, c.index.ensures) at c.stands_at.ensures
