use Rattle.std.specs.Prelude.{◌≡◌}
use Rattle.std.specs.List.{list_any}
use Rattle.std.specs.Str.{bytes_eq}
use Rattle.std.proofs.Common.{map, drop}
use Rattle.prost_reflect_tables.specs.Rows.{oneof_row}
use Rattle.prost_reflect_base.proofs.names.is_oneof_name.Given as goal

abbrev pub invariant-loop-oneof : goal.invariant-loop-oneof
invariant-loop-oneof l = list_any (λ o. bytes_eq l.name o.id.name) (map oneof_row l.oneofs) ≡ list_any (λ o. bytes_eq l.name o.id.name) (map oneof_row (drop l.oneof-index l.oneofs))
