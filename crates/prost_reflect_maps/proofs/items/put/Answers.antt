use Rattle.prost_reflect_maps.proofs.Common.{arith, ◌∙◌}
use Rattle.prost_reflect_maps.proofs.Places.{seek_within, gap_within, set_same, put_absent}
use Rattle.prost_reflect_maps.proofs.items.put.Goals as goal

pub index_mut-requires : goal.index_mut-requires
index_mut-requires g c = omega (arith, c.args.items.now.ok.0, seek_within c.args.number c.args.items.now.items c.in-Ok.index (rw c.deref.ensures.value at c.in-Ok.ensures))

pub insert-requires : goal.insert-requires
insert-requires g c = omega (arith, c.args.items.now.ok.0, gap_within c.args.number c.args.items.now.items c.in-Err.index (rw c.deref.ensures.value at c.in-Err.ensures))

pub returns-in-Ok-clause-ok : goal.returns-in-Ok-clause-ok
returns-in-Ok-clause-ok g c = set_same _ _ _ _ (rw c.deref.ensures.value at c.in-Ok.ensures)

pub returns-in_ok-insert-in-Err-clause-ok : goal.returns-in_ok-insert-in-Err-clause-ok
returns-in_ok-insert-in-Err-clause-ok g c = c.in_ok-insert-in-Err.ensures.items ∙ put_absent _ _ _ c.requires (rw c.deref.ensures.value at c.in-Err.ensures) _
