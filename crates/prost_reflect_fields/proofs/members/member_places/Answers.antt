use Rattle.std.specs.Prelude.{◌≡◌, ◌≤◌}
use Rattle.prost_reflect_fields.proofs.Common.{ℕ, ◌∙◌, Some, length, nat_eq, sym, ap, ap₂, arith, List, map, slice_get, list_any, length-map, same_oneof, oneof_row, message_row}
use Rattle.prost_reflect_tables.specs.declared.tables.OneofTable.{OneofTable}
use Rattle.prost_reflect_pool.specs.Pools.{pool_rows}
use Rattle.prost_reflect_pool.specs.SharedPools as shared
use Rattle.prost_reflect_pool.specs.declared.pool.LinkedPool.{LinkedPool}
use Rattle.prost_reflect_pool.proofs.PoolRanges.{row_at}
use Rattle.prost_reflect_fields.proofs.OneofPlaces.{members_listed, none_listed}
use Rattle.prost_reflect_fields.proofs.members.member_places.Goals as goal

pub returns-in-Some-get : goal.returns-in-Some-get
returns-in-Some-get c =
    let d = c.args.message_type.now in
    let o = c.in-Some.oneof in
    let table = c.message_table-table.result.now in
    let row : slice_get (shared.pool_rows d.pool).messages d.index ≡ Some (message_row table) =
    sym (ap₂ (λ (p : LinkedPool) (i : ℕ). slice_get (pool_rows p).messages i) (c.deref.ensures ∙ ap (λ r. r.value) c.pool.ensures) c.index.ensures) ∙ c.message_table-table.ensures.row in
    let there : slice_get (map oneof_row c.deref-2.result.now) o ≡ Some (oneof_row c.in-Some-get.oneof.now) =
    row_at oneof_row c.deref-2.result.now o c.in-Some-get.oneof.now c.in-Some-get.ensures.lookup.3.0 c.in-Some-get.ensures.lookup.1 in
    λ i f found same.
    ap (list_any (nat_eq i)) c.as_slice.ensures.value
    ∙ members_listed d (message_row table) o (oneof_row c.in-Some-get.oneof.now) row (ap (λ (xs : List OneofTable). slice_get (map oneof_row xs) o) (sym c.deref-2.ensures.value) ∙ there) i f found (ap (same_oneof f.oneof) (sym c.in-Some.is) ∙ same)

pub returns-in-None : goal.returns-in-None
returns-in-None c =
    let d = c.args.message_type.now in
    let o = c.in-Some.oneof in
    let table = c.message_table-table.result.now in
    let row : slice_get (shared.pool_rows d.pool).messages d.index ≡ Some (message_row table) =
    sym (ap₂ (λ (p : LinkedPool) (i : ℕ). slice_get (pool_rows p).messages i) (c.deref.ensures ∙ ap (λ r. r.value) c.pool.ensures) c.index.ensures) ∙ c.message_table-table.ensures.row in
    let past : length (map oneof_row table.oneofs.items) ≤ o = omega (arith, length-map table.oneofs.items oneof_row, ap length c.deref-2.ensures.value, c.in-None.ensures.lookup.3) in
    λ i f found same. none_listed d (message_row table) o row past i f found (ap (same_oneof f.oneof) (sym c.in-Some.is) ∙ same)
