use Rattle.std.proofs.Common.{◌≡◌, true, false, length, nat_eq, sym, ap, ◌∙◌, arith}
use Rattle.prost_reflect_wire.specs.Record.{record_at}
use Rattle.prost_reflect_wire.proofs.PlaceFaults.{key_stands_in_field, value_stands_in_field}
use Rattle.prost_reflect_tables.specs.OptionFaults.{suits_option}
use Rattle.prost_reflect_flat.proofs.OptionBytes.{suit_passed, suit_refused, suit_none, suit_left, rest_small}
use Rattle.prost_reflect_definition_checks.proofs.options.bytes_suit_option.Goals as goal

pub returns-in_default : goal.returns-in_default
returns-in_default c =
    let some : nat_eq (length c.loop-rest.rest.now) 0 ≡ false = sym c.is_empty.ensures ∙ c.loop-rest-test.true in
    sym (suit_none c.args.number _ c.loop-rest.rest.now c.loop-rest.invariant.small (grind (arith, some)) (key_stands_in_field _ _ _ c.in_default.ensures.fault)) ∙ c.loop-rest.invariant.says

pub returns-in_default-skip_value : goal.returns-in_default-skip_value
returns-in_default-skip_value c =
    let some : nat_eq (length c.loop-rest.rest.now) 0 ≡ false = sym c.is_empty.ensures ∙ c.loop-rest-test.true in
    sym (suit_none c.args.number _ c.loop-rest.rest.now c.loop-rest.invariant.small (grind (arith, some)) (value_stands_in_field _ _ _ _ _ _ c.in-Ok.ensures.ok c.in_default-skip_value.ensures.fault)) ∙ c.loop-rest.invariant.says

pub returns-then-not-suits_option : goal.returns-then-not-suits_option
returns-then-not-suits_option c =
    let skipped = c.in-Ok-skip_value.ensures.ok in
    let told = c.suits_option.ensures skipped.0 skipped.1.wire ∙ ap (λ n. suits_option c.args.number (record_at n skipped.0)) c.get.ensures.value in
    sym (suit_refused c.args.number _ _ skipped.0 _ _ _ c.loop-rest.invariant.small c.in-Ok.ensures.ok skipped.1 (sym c.if-not-suits_option.true ∙ told)) ∙ c.loop-rest.invariant.says

pub loop-rest-preserved : goal.loop-rest-preserved
loop-rest-preserved c =
    let skipped = c.in-Ok-skip_value.ensures.ok in
    let told = c.suits_option.ensures skipped.0 skipped.1.wire ∙ ap (λ n. suits_option c.args.number (record_at n skipped.0)) c.get.ensures.value in
    record {
      says = suit_passed c.args.number _ _ skipped.0 _ _ _ c.loop-rest.invariant.small c.in-Ok.ensures.ok skipped.1 (sym c.if-not-suits_option.false ∙ told) ∙ c.loop-rest.invariant.says;
      small = rest_small _ _ skipped.0 _ _ _ c.loop-rest.invariant.small c.in-Ok.ensures.ok skipped.1;
    }

pub returns : goal.returns
returns c =
    let none : nat_eq (length c.loop-rest.rest.now) 0 ≡ true = sym c.is_empty.ensures ∙ c.loop-rest-test.false in
    sym (suit_left c.args.number c.loop-rest.rest.now (grind (arith, none))) ∙ c.loop-rest.invariant.says
