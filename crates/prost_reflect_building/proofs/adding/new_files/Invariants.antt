use Rattle.std.specs.Prelude.{◌≡◌, ◌++◌}
use Rattle.prost_reflect_building.proofs.Common.{IsTrue, shared_files, added, AreNamesOf, files_of, names_differ}
use Rattle.std.specs.Vec.Iter.{into_iter_items}
use Rattle.prost_reflect_building.proofs.adding.new_files.Given as goal

abbrev pub invariant-loop-file : goal.invariant-loop-file
invariant-loop-file l = record {
  names : AreNamesOf (shared_files l.new.items) l.names;
  left : added (files_of l.pool ++ shared_files l.new.items) (into_iter_items l.file-iterator) ≡ added (files_of l.pool) l.fn.batch.items;
  differ : IsTrue (names_differ (files_of l.pool ++ shared_files l.new.items));
}
