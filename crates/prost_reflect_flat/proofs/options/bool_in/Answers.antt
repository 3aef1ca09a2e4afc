use Rattle.std.specs.Prelude.{◌≡◌, ◌≢◌}
use Rattle.prost_reflect_flat.proofs.Common.{true, false, length, nat_eq, sym, ap, ◌∙◌, arith, bool_in}
use Rattle.prost_reflect_wire.proofs.PlaceFaults.{key_stands_in_field, value_stands_in_field}
use Rattle.prost_reflect_flat.proofs.OptionBytes.{bool_none, bool_chosen, bool_passed, bool_left, rest_small}
use Rattle.prost_reflect_flat.proofs.options.bool_in.Goals as goal

pub returns-in_default : goal.returns-in_default
returns-in_default c =
    let some : nat_eq (length c.loop-rest.rest.now) 0 ≡ false = sym c.is_empty.ensures ∙ c.loop-rest-test.true in
    sym (bool_none c.args.number c.loop-rest.found _ c.loop-rest.rest.now c.loop-rest.invariant.small (grind (arith, some)) (key_stands_in_field _ _ _ c.in_default.ensures.fault)) ∙ c.loop-rest.invariant.says

pub returns-in_default-skip_value : goal.returns-in_default-skip_value
returns-in_default-skip_value c =
    let some : nat_eq (length c.loop-rest.rest.now) 0 ≡ false = sym c.is_empty.ensures ∙ c.loop-rest-test.true in
    sym (bool_none c.args.number c.loop-rest.found _ c.loop-rest.rest.now c.loop-rest.invariant.small (grind (arith, some)) (value_stands_in_field _ _ _ _ _ _ c.in-Ok.ensures.ok c.in_default-skip_value.ensures.fault)) ∙ c.loop-rest.invariant.says

pub loop-rest-preserved-then-get-number : goal.loop-rest-preserved-then-get-number
loop-rest-preserved-then-get-number c =
    let skipped = c.in-Ok-skip_value.ensures.ok in
    let same : c.in-Ok.key.value ≡ c.args.number = grind (arith, c.get.ensures.value, c.if-get-number.true) in
    record {
      says = ap (λ f. bool_in c.args.number f c.in-Ok-skip_value.end.now) (c.bool_at-found.ensures _ _ skipped.0 _ skipped.1)
          ∙ (bool_chosen _ _ _ skipped.0 c.loop-rest.found _ _ _ c.loop-rest.invariant.small c.in-Ok.ensures.ok skipped.1 same ∙ c.loop-rest.invariant.says);
      small = rest_small _ _ skipped.0 _ _ _ c.loop-rest.invariant.small c.in-Ok.ensures.ok skipped.1;
    }

pub loop-rest-preserved : goal.loop-rest-preserved
loop-rest-preserved c =
    let skipped = c.in-Ok-skip_value.ensures.ok in
    let other : c.in-Ok.key.value ≢ c.args.number = λ same. grind (arith, c.get.ensures.value, c.if-get-number.false, same) in
    record {
      says = bool_passed _ _ _ skipped.0 c.loop-rest.found _ _ _ c.loop-rest.invariant.small c.in-Ok.ensures.ok skipped.1 other ∙ c.loop-rest.invariant.says;
      small = rest_small _ _ skipped.0 _ _ _ c.loop-rest.invariant.small c.in-Ok.ensures.ok skipped.1;
    }

pub returns : goal.returns
returns c =
    let none : nat_eq (length c.loop-rest.rest.now) 0 ≡ true = sym c.is_empty.ensures ∙ c.loop-rest-test.false in
    sym (bool_left c.args.number c.loop-rest.found c.loop-rest.rest.now (grind (arith, none))) ∙ c.loop-rest.invariant.says
