use Rattle.std.specs.Prelude.{◌+◌}
use Rattle.prost_reflect_reduction.proofs.Common.{map, flat_map, drop, ap, sym, ◌∙◌, known, schema_field, field_row, rows_of, schema_of, field_asks, joined, listed}
use Rattle.prost_reflect_reduction.proofs.Sources.{pair_kept, field_leads}
use Rattle.prost_reflect_reduction.proofs.Walking.{joined_next, joined_done}
use Rattle.prost_reflect_reduction.proofs.walk.add_all.Goals as goal

pub loop-field-preserved : goal.loop-field-preserved
loop-field-preserved c =
    let g = field_asks (known (schema_of c.args.newer.now) c.args.newer_place) in
    let s = schema_field (rows_of c.args.older.now) in
    record {
      set = c.in_ok-add_listed.ensures.set;
      left = ap (λ ps. joined ps (flat_map g (map s (map field_row (drop (c.loop-field.field-index + 1) c.args.fields.now))))) (c.in_ok-add_listed.ensures.pairs ∙ ap (joined c.loop-field.pairs.items) c.field_asks.ensures) ∙ (joined_next c.loop-field.pairs.items g s c.args.fields.now c.loop-field.field-index c.field-item.result c.loop-field-test.true c.field-item.is ∙ c.loop-field.invariant.left);
      sources = λ older_place at is differ are.
          let so_far = c.loop-field.invariant.sources older_place at is differ are in (
            pair_kept c.loop-field.pairs.items (listed c.field_asks.result) c.add_listed.new.pairs.items c.args.pair older_place c.args.newer_place so_far.0 c.in_ok-add_listed.ensures.pairs,
            c.in_ok-add_listed.ensures.sources (schema_of c.args.older.now) (schema_of c.args.newer.now) so_far.1
                (λ more. (so_far.0.0, field_leads c.args.older.now (schema_of c.args.older.now) (schema_of c.args.newer.now) older_place c.args.newer_place c.loop-field.pairs.items c.args.pair c.args.fields.now c.loop-field.field-index c.field-item.result (listed c.field_asks.result) so_far.0 is differ c.loop-field-test.true c.field-item.is c.field_asks.ensures)),
          );
    }

pub returns-clause-pairs : goal.returns-clause-pairs
returns-clause-pairs c =
    sym (joined_done c.loop-field.pairs.items (field_asks (known (schema_of c.args.newer.now) c.args.newer_place)) (schema_field (rows_of c.args.older.now)) c.args.fields.now c.loop-field.field-index c.loop-field-test.false) ∙ c.loop-field.invariant.left
