use Rattle.std.specs.Prelude.{◌≡◌, ◌≤◌}
use Rattle.prost_reflect_reduction.proofs.Common.{drop, length, shown_fields, next_members, AreFirst}
use Rattle.prost_reflect_reduction.proofs.oneofs.next_members.Given as goal

abbrev pub invariant-loop-place : goal.invariant-loop-place
invariant-loop-place l = record {
  within : l.place ≤ length l.fields;
  next : length l.next.items ≡ length l.fields;
  first : length l.first.items ≡ l.oneofs;
  are : AreFirst l.first.items (shown_fields l.tables (drop l.place l.fields));
  done : drop l.place l.next.items ≡ next_members (shown_fields l.tables (drop l.place l.fields));
}

abbrev pub decreases-loop-place : goal.decreases-loop-place
decreases-loop-place l = l.place
