use Rattle.std.proofs.Common.{rules, ◌≡◌, ◌≢◌, ◌≤◌, ◌+◌, ◌-◌, length, [], true, false, arith, sym, ◌∙◌}
use Rattle.std.proofs.lemmas.Result.{err_from_is_err_and}
use Rattle.prost_reflect_wire.specs.declared.key.WireType.TheVariants as wires
use Rattle.prost_reflect_tables.specs.Schema.{rows_of}
use Rattle.prost_reflect_faults.proofs.Bounds.{stands_short, stands_within}
use Rattle.prost_reflect_faults.proofs.Standing.{key_refused, plain_refused, group_refused, message_refused, entry_refused}
use Rattle.prost_reflect_faults.proofs.Taking.{found_at, stop_taken, stop_refused, record_searched, unknown_taken, group_taken, message_taken, entry_taken}
use Rattle.prost_reflect_faults.proofs.Passing.{found_here, kind_as, at_wire, group_kind, message_kind, message_there, scalar_passed, scalar_failed, packed_passed, packed_failed, taken_at, message_wire, group_wire, map_wire, delimited_failed, message_deep, map_deep, group_deep}
use Rattle.prost_reflect_faults.proofs.search.+searching.Goals as goal

pub search_body-returns-in-Err-clause-fault : goal.search_body-returns-in-Err-clause-fault
search_body-returns-in-Err-clause-fault t c =
    found_at _ _ _ c.loop-rest.invariant.searched c.in-Err.error 0 _ [] _ (key_refused _ _ _ c.in-Err.ensures.fault (c.is_over.ensures.no c.if-is_over.false)) (omega arith) c.loop-rest.invariant.path

pub search_body-returns-then-closes-clause-ok : goal.search_body-returns-then-closes-clause-ok
search_body-returns-then-closes-clause-ok t c =
    let is : c.in-Ok.key.1 ≡ wires.EndGroup = search rules in
    stop_taken _ _ _ c.loop-rest.invariant.searched _ _ _ _ c.in-Ok.ensures.ok is (c.closes.ensures.yes c.if-closes.true) c.get.ensures.value

pub search_body-returns-then-eq-clause-fault : goal.search_body-returns-then-eq-clause-fault
search_body-returns-then-eq-clause-fault t c =
    let is : c.in-Ok.key.1 ≡ wires.EndGroup = search rules in
    stop_refused _ _ _ c.loop-rest.invariant.searched _ _ _ _ _ c.in-Ok.ensures.ok is (c.closes.ensures.no c.if-closes.false) c.get.ensures.value c.loop-rest.invariant.path

pub search_body-loop-rest-preserved : goal.search_body-loop-rest-preserved
search_body-loop-rest-preserved t c = record {
  searched = record_searched _ _ _ c.loop-rest.invariant.searched _ _ _ _ c.in-Ok.ensures.ok c.in-Ok-search_record.ensures.ok;
  path = c.in-Ok-search_record.ensures.kept;
}

pub search_body-overflow_add-result : goal.search_body-overflow_add-result
search_body-overflow_add-result t c =
    let within = stands_within _ _ _ _ _ c.in-Err-search_record.ensures.fault in
    let shorter = c.loop-rest.invariant.searched.shorter in
    let low : (length c.args.bytes.now - length c.loop-rest.rest.now) + c.in-Err-search_record.found.offset ≤ length c.args.bytes.now = omega (arith, within, shorter) in
    search rules

pub search_entry-returns-then-ne-clause-fault : goal.search_entry-returns-then-ne-clause-fault
search_entry-returns-then-ne-clause-fault t c =
    let other : c.args.keyed.wire_type ≢ wires.LengthDelimited = search rules in
    found_here _ _ _ _ _ _ (map_wire _ _ _ _ _ c.requires.key _ _ c.requires.field c.requires.other other) c.from.ensures.0 c.from.ensures.1 c.requires.path

pub search_entry-returns-in_err-body-clause-fault : goal.search_entry-returns-in_err-body-clause-fault
search_entry-returns-in_err-body-clause-fault t c =
    let is : c.args.keyed.wire_type ≡ wires.LengthDelimited = search rules in
    let p = err_from_is_err_and c.from_residual.result c.from_residual.ensures.1 in
    rw p.1 (found_here _ _ _ _ _ _ (delimited_failed _ _ _ _ _ c.requires.key is _ c.in_err-body.ensures.fault) p.2.0 p.2.1 c.requires.path)

pub search_entry-returns-then-not-has_level-clause-fault : goal.search_entry-returns-then-not-has_level-clause-fault
search_entry-returns-then-not-has_level-clause-fault t c =
    let is : c.args.keyed.wire_type ≡ wires.LengthDelimited = search rules in
    let short : c.has_level.result ≡ false = search rules in
    found_here _ _ _ _ _ _ (map_deep _ _ _ _ _ c.requires.key _ _ c.requires.field is (sym (c.has_level.ensures (rows_of c.args.tables.now).enums) ∙ short)) c.from-then-not-has_level.ensures.0 c.from-then-not-has_level.ensures.1 c.requires.path

pub search_entry-returns-in-Ok-clause-ok : goal.search_entry-returns-in-Ok-clause-ok
search_entry-returns-in-Ok-clause-ok t c =
    let is : c.args.keyed.wire_type ≡ wires.LengthDelimited = search rules in
    let level : c.has_level.result ≡ true = search rules in
    taken_at _ _ _ _ wires.LengthDelimited _ _ is (entry_taken _ _ _ _ _ _ _ _ _ c.requires.field (sym (c.has_level.ensures (rows_of c.args.tables.now).enums) ∙ level) c.in_ok-body.ensures.ok c.in-Ok.ensures.ok)

pub search_entry-returns-in-Err-clause-fault : goal.search_entry-returns-in-Err-clause-fault
search_entry-returns-in-Err-clause-fault t c =
    let is : c.args.keyed.wire_type ≡ wires.LengthDelimited = search rules in
    let level : c.has_level.result ≡ true = search rules in
    entry_refused _ _ _ _ _ c.requires.key _ _ is c.requires.field (sym (c.has_level.ensures (rows_of c.args.tables.now).enums) ∙ level) _ _ c.in_ok-body.ensures.ok _ _ _ c.in-Err.ensures.fault

pub search_group-returns-then-region-eq0-clause-fault : goal.search_group-returns-then-region-eq0-clause-fault
search_group-returns-then-region-eq0-clause-fault t c =
    found_here _ _ _ _ _ _ (group_deep _ _ _ _ _ c.requires.key _ c.requires.group c.requires.start (omega (arith, c.if-region-eq0.true))) c.from.ensures.0 c.from.ensures.1 c.requires.path

pub search_group-returns-in-Ok-clause-ok : goal.search_group-returns-in-Ok-clause-ok
search_group-returns-in-Ok-clause-ok t c =
    taken_at _ _ _ _ wires.StartGroup _ _ c.requires.start (group_taken _ _ _ _ _ _ _ (omega (arith, c.if-region-eq0.false)) c.requires.group (rw c.get.ensures.value at c.in-Ok.ensures.ok))

pub search_group-returns-in-Err-clause-fault : goal.search_group-returns-in-Err-clause-fault
search_group-returns-in-Err-clause-fault t c =
    group_refused _ _ _ _ _ c.requires.key _ _ c.requires.start (omega (arith, c.if-region-eq0.false)) c.requires.group _ _ _ (rw c.get.ensures.value at c.in-Err.ensures.fault)

pub search_inside-insert-requires : goal.search_inside-insert-requires
search_inside-insert-requires t c =
    let short = stands_short _ _ _ _ _ c.in-Err.ensures.fault in
    (omega arith, (omega arith, omega (arith, short, c.requires.short)))

pub search_inside-overflow_add-result : goal.search_inside-overflow_add-result
search_inside-overflow_add-result t c =
    let within = stands_within _ _ _ _ _ c.in-Err.ensures.fault in
    omega (arith, within, c.requires.before)

pub search_known-returns-in_err-skip_packed-in-List-clause-fault : goal.search_known-returns-in_err-skip_packed-in-List-clause-fault
search_known-returns-in_err-skip_packed-in-List-clause-fault t c =
    let x = rw c.in-List.is at c.requires.known in
    let packed = c.is_packed.ensures.yes c.if-is_packed.true in
    let p = err_from_is_err_and c.from_residual.result c.from_residual.ensures.1 in
    rw p.1 (found_here _ _ _ _ _ _ (packed_failed (rows_of c.args.tables.now) c.args.region c.args.keyed.from.now c.args.keyed.number.value x.field x.found c.in-List.row.now x.is.1 x.is.0.0 x.is.0.1 packed.1 _ _ packed.0 c.requires.key _ c.in_err-skip_packed-in-List.ensures.fault) p.2.0 p.2.1 c.requires.path)

pub search_known-returns-then-is_packed-clause-ok : goal.search_known-returns-then-is_packed-clause-ok
search_known-returns-then-is_packed-clause-ok t c =
    let x = rw c.in-List.is at c.requires.known in
    let packed = c.is_packed.ensures.yes c.if-is_packed.true in
    taken_at _ _ _ _ wires.LengthDelimited _ _ packed.0 (packed_passed (rows_of c.args.tables.now) c.args.region c.args.keyed.from.now c.args.keyed.number.value x.field x.found c.in-List.row.now x.is.1 x.is.0.0 x.is.0.1 packed.1 _ _ c.in_ok-skip_packed-in-List.ensures.ok)

pub search_message-returns-then-ne-clause-fault : goal.search_message-returns-then-ne-clause-fault
search_message-returns-then-ne-clause-fault t c =
    let other : c.args.keyed.wire_type ≢ wires.LengthDelimited = search rules in
    found_here _ _ _ _ _ _ (message_wire _ _ _ _ _ c.requires.key _ c.requires.field c.requires.other other) c.from.ensures.0 c.from.ensures.1 c.requires.path

pub search_message-returns-then-region-eq0-clause-fault : goal.search_message-returns-then-region-eq0-clause-fault
search_message-returns-then-region-eq0-clause-fault t c =
    let is : c.args.keyed.wire_type ≡ wires.LengthDelimited = search rules in
    found_here _ _ _ _ _ _ (message_deep _ _ _ _ _ c.requires.key _ c.requires.field is (omega (arith, c.if-region-eq0.true))) c.from-then-region-eq0.ensures.0 c.from-then-region-eq0.ensures.1 c.requires.path

pub search_message-returns-in_err-body-clause-fault : goal.search_message-returns-in_err-body-clause-fault
search_message-returns-in_err-body-clause-fault t c =
    let is : c.args.keyed.wire_type ≡ wires.LengthDelimited = search rules in
    let p = err_from_is_err_and c.from_residual.result c.from_residual.ensures.1 in
    rw p.1 (found_here _ _ _ _ _ _ (delimited_failed _ _ _ _ _ c.requires.key is _ c.in_err-body.ensures.fault) p.2.0 p.2.1 c.requires.path)

pub search_message-returns-in-Ok-clause-ok : goal.search_message-returns-in-Ok-clause-ok
search_message-returns-in-Ok-clause-ok t c =
    let is : c.args.keyed.wire_type ≡ wires.LengthDelimited = search rules in
    taken_at _ _ _ _ wires.LengthDelimited _ _ is (message_taken _ _ _ _ _ _ _ _ _ (omega (arith, c.if-region-eq0.false)) (at_wire _ _ _ _ _ _ is c.requires.field) c.in_ok-body.ensures.ok c.in-Ok.ensures.ok)

pub search_message-returns-in-Err-clause-fault : goal.search_message-returns-in-Err-clause-fault
search_message-returns-in-Err-clause-fault t c =
    let is : c.args.keyed.wire_type ≡ wires.LengthDelimited = search rules in
    message_refused _ _ _ _ _ c.requires.key _ _ is (omega (arith, c.if-region-eq0.false)) c.requires.field _ _ c.in_ok-body.ensures.ok _ _ _ c.in-Err.ensures.fault

pub search_record-returns-in_err-skip_plain-in-None-2-clause-fault : goal.search_record-returns-in_err-skip_plain-in-None-2-clause-fault
search_record-returns-in_err-skip_plain-in-None-2-clause-fault t c =
    let p = err_from_is_err_and c.from_residual.result c.from_residual.ensures.1 in
    rw p.1 (found_here _ _ _ _ _ _ (plain_refused _ _ _ _ _ c.requires.key _ c.in_err-skip_plain-in-None-2.ensures.fault) p.2.0 p.2.1 c.requires.path)

pub search_record-returns-in_ok-skip_plain-in-None-2-clause-ok : goal.search_record-returns-in_ok-skip_plain-in-None-2-clause-ok
search_record-returns-in_ok-skip_plain-in-None-2-clause-ok t c =
    unknown_taken _ _ _ _ _ _ (rw c.get.ensures.value at c.in-None-2.ensures) c.in_ok-skip_plain-in-None-2.ensures.ok

pub search_value-search_message-requires : goal.search_value-search_message-requires
search_value-search_message-requires t c =
    let single : c.args.row.now.is_group ≡ false = search rules in
    let is = message_kind (rows_of c.args.tables.now) c.args.row.now c.in-Message.place c.in-Message.is single in
    (omega arith, (c.requires.levels, (c.requires.path, (c.requires.key, (c.requires.other, (kind_as _ _ _ _ _ _ c.requires.field is, message_there (rows_of c.args.tables.now) c.args.row.now c.in-Message.place c.in-Message.is c.requires.there))))))

pub search_value-returns-then-ne-clause-fault : goal.search_value-returns-then-ne-clause-fault
search_value-returns-then-ne-clause-fault t c =
    let group : c.args.row.now.is_group ≡ true = search rules in
    let other : c.args.keyed.wire_type ≢ wires.StartGroup = search rules in
    let is = group_kind (rows_of c.args.tables.now) c.args.row.now c.in-Message.place c.in-Message.is group in
    found_here _ _ _ _ _ _ (group_wire _ _ _ _ _ c.requires.key _ (kind_as _ _ _ _ _ _ c.requires.field is) c.requires.other other) c.from.ensures.0 c.from.ensures.1 c.requires.path

pub search_value-search_group-requires : goal.search_value-search_group-requires
search_value-search_group-requires t c =
    let group : c.args.row.now.is_group ≡ true = search rules in
    let start : c.args.keyed.wire_type ≡ wires.StartGroup = search rules in
    let is = group_kind (rows_of c.args.tables.now) c.args.row.now c.in-Message.place c.in-Message.is group in
    (omega arith, (c.requires.levels, (c.requires.path, (c.requires.key, (start, (at_wire _ _ _ _ _ _ start (kind_as _ _ _ _ _ _ c.requires.field is), message_there (rows_of c.args.tables.now) c.args.row.now c.in-Message.place c.in-Message.is c.requires.there))))))

pub search_value-returns-in_err-skip_scalar-in_default : goal.search_value-returns-in_err-skip_scalar-in_default
search_value-returns-in_err-skip_scalar-in_default t c =
    let p = err_from_is_err_and c.from_residual.result c.from_residual.ensures.1 in
    rw p.1 (record {
      ok = tt;
      kept = tt;
      fault = found_here _ _ _ _ _ _ (scalar_failed (rows_of c.args.tables.now) _ _ _ _ [] c.args.row.now c.requires.key c.requires.field c.in_default.not-Message c.requires.other _ c.in_err-skip_scalar-in_default.ensures.fault) p.2.0 p.2.1 c.requires.path;
    })

pub search_value-returns-in_ok-skip_scalar-in_default : goal.search_value-returns-in_ok-skip_scalar-in_default
search_value-returns-in_ok-skip_scalar-in_default t c = record {
  ok = scalar_passed (rows_of c.args.tables.now) _ _ _ _ _ c.args.row.now c.requires.field c.in_default.not-Message c.in_ok-skip_scalar-in_default.ensures.ok;
  kept = c.requires.path;
  fault = tt;
}
