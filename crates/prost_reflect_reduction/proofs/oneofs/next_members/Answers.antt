use Rattle.std.specs.Prelude.{◌-◌, ◌<◌}
use Rattle.prost_reflect_reduction.proofs.Common.{length, drop, sym, ap, ◌∙◌, subst, arith, List, ℕ, length-replicate, length-set, oneof_in_range, shown_fields, AreFirst}
use Rattle.prost_reflect_reduction.proofs.Noting.{noted_length, none_noted, nothing_left, in_range_at, first_kept, next_kept}
use Rattle.prost_reflect_reduction.proofs.oneofs.next_members.Goals as goal

pub loop-place-init : goal.loop-place-init
loop-place-init c =
    let next_len = ap length (c.in_ok-next.ensures.items_if_clones_equal (λ y h. h)) ∙ length-replicate (length c.args.fields.now) 0 in
    let zeros = c.in_ok-first.ensures.items_if_clones_equal (λ y h. h) in
    record {
      within = omega arith;
      next = next_len;
      first = ap length zeros ∙ length-replicate c.args.oneofs 0;
      are = none_noted c.in_ok-first.first.items c.args.oneofs c.args.tables.now c.args.fields.now zeros;
      done = nothing_left c.in_ok-next.next.items c.args.tables.now c.args.fields.now next_len;
    }

pub noted_for-requires : goal.noted_for-requires
noted_for-requires c =
    let within : c.loop-place.place - 1 < length c.args.fields.now = omega (arith, c.loop-place.invariant.within, c.loop-place-test.true) in
    ap (λ n. oneof_in_range n c.index-fields-place.result.oneof) (ap length c.deref.ensures.value ∙ c.loop-place.invariant.first) ∙ in_range_at c.args.oneofs c.args.fields.now (c.loop-place.place - 1) c.index-fields-place.result c.requires within c.index-fields-place.is

pub note-requires : goal.note-requires
note-requires c =
    let within : c.loop-place.place - 1 < length c.args.fields.now = omega (arith, c.loop-place.invariant.within, c.loop-place-test.true) in
    ap (λ n. oneof_in_range n c.index-fields-place.result.oneof) c.loop-place.invariant.first ∙ in_range_at c.args.oneofs c.args.fields.now (c.loop-place.place - 1) c.index-fields-place.result c.requires within c.index-fields-place.is

pub loop-place-preserved : goal.loop-place-preserved
loop-place-preserved c =
    let left = shown_fields c.args.tables.now (drop c.loop-place.place c.args.fields.now) in
    let v_is = c.noted_for.ensures left (subst (λ (f : List ℕ). AreFirst f left) (sym c.deref.ensures.value) c.loop-place.invariant.are) in
    record {
      within = omega (arith, c.loop-place.invariant.within);
      next = length-set c.loop-place.next.items (c.loop-place.place - 1) c.noted_for.result ∙ c.loop-place.invariant.next;
      first = ap length c.note.ensures ∙ (noted_length c.loop-place.first.items c.index-fields-place.result.oneof c.index-fields-place.result.number ∙ c.loop-place.invariant.first);
      are = first_kept c.args.tables.now c.args.fields.now c.loop-place.place c.index-fields-place.result c.loop-place.first.items c.note.new.first.items c.loop-place-test.true c.loop-place.invariant.within c.index-fields-place.is c.loop-place.invariant.are c.note.ensures;
      done = next_kept c.args.tables.now c.args.fields.now c.loop-place.place c.index-fields-place.result c.loop-place.next.items c.noted_for.result c.loop-place-test.true c.loop-place.invariant.within c.loop-place.invariant.next c.index-fields-place.is c.loop-place.invariant.done v_is;
    }
