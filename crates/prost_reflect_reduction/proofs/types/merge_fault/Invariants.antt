use Rattle.std.specs.Prelude.{◌≡◌}
use Rattle.prost_reflect_reduction.proofs.Common.{drop, rows_of, merge_fault, AreSameEnums, shown_fields}
use Rattle.prost_reflect_reduction.proofs.types.merge_fault.Given as goal

abbrev pub invariant-loop-other : goal.invariant-loop-other
invariant-loop-other l = record {
  enums : AreSameEnums l.same_enums (rows_of l.older.tables.now).enums (rows_of l.newer.tables.now).enums;
  left : merge_fault (shown_fields l.older.tables.now (drop l.place l.older.fields.now)) (shown_fields l.newer.tables.now (drop l.other l.newer.fields.now)) ≡ merge_fault (shown_fields l.older.tables.now l.older.fields.now) (shown_fields l.newer.tables.now l.newer.fields.now);
}
