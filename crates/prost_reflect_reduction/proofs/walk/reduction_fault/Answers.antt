use Rattle.std.specs.Prelude.{◌<◌, ◌≤◌, ◌+◌, ◌∷◌}
use Rattle.prost_reflect_reduction.proofs.Common.{[], List, Option, length, ap, sym, ◌∙◌, subst, arith, message_type, rows_of, schema_of, all_pairs, Explains, FaultStands, IsSetOf, Walking, AreSources, AreBefore, joined}
use Rattle.std.proofs.lemmas.Option.{same_Some}
use Rattle.prost_reflect_tables.proofs.Keeping.{schema_is_valid}
use Rattle.prost_reflect_reduction.specs.declared.fault.TypeFault.{TypeFault}
use Rattle.prost_reflect_reduction.specs.declared.walk.Source.{Source}
use Rattle.prost_reflect_reduction.proofs.Enums.{no_pairs}
use Rattle.prost_reflect_reduction.proofs.Sources.{no_pairs_sourced, first_alone, pair_here, pair_kept, sources_before, fault_stands}
use Rattle.prost_reflect_reduction.proofs.Walking.{walking_in, walking_far, walking_done, walking_start, walking_next, listed_few, shown_length, set_empty}
use Rattle.prost_reflect_reduction.proofs.walk.reduction_fault.Goals as goal

pub add-requires : goal.add-requires
add-requires c = subst (IsSetOf c.new-set.result) (sym c.new-pairs.ensures.items) (set_empty c.new-set.result c.new-set.ensures.empty)

pub loop-next-init : goal.loop-next-init
loop-next-init c =
    let low : c.args.older_place < length (schema_of c.args.older.now) = omega (arith, c.requires.older, shown_length c.args.older.now) in
    let low' : c.args.newer_place < length (schema_of c.args.newer.now) = omega (arith, c.requires.newer, shown_length c.args.newer.now) in
    let pairs = c.in_ok-add.ensures.pairs ∙ ap (λ ps. joined ps ((c.args.older_place, c.args.newer_place) ∷ [])) c.new-pairs.ensures.items in
    record {
      set = c.in_ok-add.ensures.set;
      enums = no_pairs c.new-same_enums.result (rows_of c.args.older.now).enums (rows_of c.args.newer.now).enums c.new-same_enums.ensures.empty;
      walking = subst (Walking (schema_of c.args.older.now) c.args.older_place (schema_of c.args.newer.now) c.args.newer_place 0) (sym pairs)
          (walking_start (schema_of c.args.older.now) c.args.older_place (schema_of c.args.newer.now) c.args.newer_place low low');
      first = first_alone c.add.new.pairs.items c.args.older_place c.args.newer_place pairs;
      sources = c.in_ok-add.ensures.sources (schema_of c.args.older.now) (schema_of c.args.newer.now)
          (no_pairs_sourced (schema_of c.args.older.now) (schema_of c.args.newer.now) c.new-pairs.result.items c.new-sources.result.items c.new-pairs.ensures.items c.new-sources.ensures.items)
          (λ more. absurd (omega (arith, more, ap length c.new-pairs.ensures.items)));
    }

pub type_fault-requires-clause-older : goal.type_fault-requires-clause-older
type_fault-requires-clause-older c =
    let below : c.loop-next.next < length c.loop-next.pairs.items = omega (arith, c.loop-next-test.true, c.len.ensures) in
    let in_both = walking_in (schema_of c.args.older.now) c.args.older_place (schema_of c.args.newer.now) c.args.newer_place c.loop-next.next c.loop-next.pairs.items c.index.result.now c.loop-next.invariant.walking below c.index.ensures in
    omega (arith, in_both.0, shown_length c.args.older.now)

pub type_fault-requires-clause-newer : goal.type_fault-requires-clause-newer
type_fault-requires-clause-newer c =
    let below : c.loop-next.next < length c.loop-next.pairs.items = omega (arith, c.loop-next-test.true, c.len.ensures) in
    let in_both = walking_in (schema_of c.args.older.now) c.args.older_place (schema_of c.args.newer.now) c.args.newer_place c.loop-next.next c.loop-next.pairs.items c.index.result.now c.loop-next.invariant.walking below c.index.ensures in
    omega (arith, in_both.1, shown_length c.args.newer.now)

pub path_to-requires-clause-place : goal.path_to-requires-clause-place
path_to-requires-clause-place c = omega (arith, c.loop-next-test.true, c.len.ensures, c.loop-next.invariant.sources.same, ap length c.deref.ensures.value)

pub path_to-requires-clause-before : goal.path_to-requires-clause-before
path_to-requires-clause-before c = subst AreBefore (sym c.deref.ensures.value) (sources_before (schema_of c.args.older.now) (schema_of c.args.newer.now) c.loop-next.pairs.items c.loop-next.sources.items c.loop-next.invariant.sources)

pub returns-in-Some-clause-none : goal.returns-in-Some-clause-none
returns-in-Some-clause-none c =
    let below : c.loop-next.next < length c.loop-next.pairs.items = omega (arith, c.loop-next-test.true, c.len.ensures) in
    let explained = subst (λ (o : Option TypeFault). Explains o (message_type (schema_of c.args.older.now) c.index.result.now.0) (message_type (schema_of c.args.newer.now) c.index.result.now.1)) c.in-Some.is c.in_ok-fault.ensures.fault in (
      λ r. walking_far (schema_of c.args.older.now) c.args.older_place (schema_of c.args.newer.now) c.args.newer_place c.loop-next.next c.loop-next.pairs.items c.index.result.now (schema_is_valid (rows_of c.args.older.now) c.args.older.now.linked) c.loop-next.invariant.walking below c.index.ensures explained.0 r,
      λ h. cc,
    )

pub returns-in-Some-clause-stands : goal.returns-in-Some-clause-stands
returns-in-Some-clause-stands c = λ fault e.
    let below : c.loop-next.next < length c.loop-next.pairs.items = omega (arith, c.loop-next-test.true, c.len.ensures) in
    let explained = subst (λ (o : Option TypeFault). Explains o (message_type (schema_of c.args.older.now) c.index.result.now.0) (message_type (schema_of c.args.newer.now) c.index.result.now.1)) c.in-Some.is c.in_ok-fault.ensures.fault in
    let sources = subst (λ (sources : List Source). AreSources (schema_of c.args.older.now) (schema_of c.args.newer.now) c.loop-next.pairs.items sources) (sym c.deref.ensures.value) c.loop-next.invariant.sources in
    subst (FaultStands (schema_of c.args.older.now) c.args.older_place (schema_of c.args.newer.now) c.args.newer_place) (same_Some _ fault e)
    (fault_stands (schema_of c.args.older.now) (schema_of c.args.newer.now) c.args.older_place c.args.newer_place c.loop-next.pairs.items c.loop-next.next c.index.result.now
    (record { path = c.in_ok-path_to-in-Some.field-0; number = c.in-Some.fault.number; kind = c.in-Some.fault.kind })
    c.loop-next.invariant.first (pair_here c.loop-next.pairs.items c.loop-next.next c.index.result.now below c.index.ensures)
    (c.in_ok-path_to-in-Some.ensures (schema_of c.args.older.now) (schema_of c.args.newer.now) c.loop-next.pairs.items sources) explained.1)

pub add_asked-requires-clause-older : goal.add_asked-requires-clause-older
add_asked-requires-clause-older c =
    let below : c.loop-next.next < length c.loop-next.pairs.items = omega (arith, c.loop-next-test.true, c.len.ensures) in
    let in_both = walking_in (schema_of c.args.older.now) c.args.older_place (schema_of c.args.newer.now) c.args.newer_place c.loop-next.next c.loop-next.pairs.items c.index.result.now c.loop-next.invariant.walking below c.index.ensures in
    omega (arith, in_both.0, shown_length c.args.older.now)

pub add_asked-requires-clause-newer : goal.add_asked-requires-clause-newer
add_asked-requires-clause-newer c =
    let below : c.loop-next.next < length c.loop-next.pairs.items = omega (arith, c.loop-next-test.true, c.len.ensures) in
    let in_both = walking_in (schema_of c.args.older.now) c.args.older_place (schema_of c.args.newer.now) c.args.newer_place c.loop-next.next c.loop-next.pairs.items c.index.result.now c.loop-next.invariant.walking below c.index.ensures in
    omega (arith, in_both.1, shown_length c.args.newer.now)

pub loop-next-smaller : goal.loop-next-smaller
loop-next-smaller c =
    let below : c.loop-next.next < length c.loop-next.pairs.items = omega (arith, c.loop-next-test.true, c.len.ensures) in
    let few : length c.loop-next.pairs.items ≤ length (all_pairs (schema_of c.args.older.now) (schema_of c.args.newer.now)) =
    listed_few (schema_of c.args.older.now) c.args.older_place (schema_of c.args.newer.now) c.args.newer_place c.loop-next.next c.loop-next.pairs.items c.loop-next.invariant.walking in
    omega (arith, below, few)

pub loop-next-preserved : goal.loop-next-preserved
loop-next-preserved c =
    let below : c.loop-next.next < length c.loop-next.pairs.items = omega (arith, c.loop-next-test.true, c.len.ensures) in
    let explained = subst (λ (o : Option TypeFault). Explains o (message_type (schema_of c.args.older.now) c.index.result.now.0) (message_type (schema_of c.args.newer.now) c.index.result.now.1)) c.in-None.is c.in_ok-fault.ensures.fault in
    record {
      set = c.in_ok-add_asked-in-None.ensures.set;
      enums = c.in_ok-fault.ensures.enums;
      walking = subst (Walking (schema_of c.args.older.now) c.args.older_place (schema_of c.args.newer.now) c.args.newer_place (c.loop-next.next + 1)) (sym c.in_ok-add_asked-in-None.ensures.pairs)
          (walking_next (schema_of c.args.older.now) c.args.older_place (schema_of c.args.newer.now) c.args.newer_place c.loop-next.next c.loop-next.pairs.items c.index.result.now
          (schema_is_valid (rows_of c.args.older.now) c.args.older.now.linked) (schema_is_valid (rows_of c.args.newer.now) c.args.newer.now.linked) c.loop-next.invariant.walking below c.index.ensures explained);
      first = pair_kept c.loop-next.pairs.items _ c.add_asked.new.pairs.items 0 c.args.older_place c.args.newer_place c.loop-next.invariant.first c.in_ok-add_asked-in-None.ensures.pairs;
      sources = c.in_ok-add_asked-in-None.ensures.sources (pair_here c.loop-next.pairs.items c.loop-next.next c.index.result.now below c.index.ensures) c.loop-next.invariant.sources;
    }

pub returns-clause-none : goal.returns-clause-none
returns-clause-none c =
    let over : length c.loop-next.pairs.items ≤ c.loop-next.next = omega (arith, c.loop-next-test.false, c.len.ensures) in
    (λ r. cc, λ h. walking_done (schema_of c.args.older.now) c.args.older_place (schema_of c.args.newer.now) c.args.newer_place c.loop-next.next c.loop-next.pairs.items c.loop-next.invariant.walking over)
