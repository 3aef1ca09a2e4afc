use Rattle.std.proofs.Common.{◌≡◌, ◌%◌, get_or, arith, ◌∙◌}
use Rattle.std.proofs.lemmas.Nat.{and_mask}
use Rattle.prost_reflect_wire.proofs.VarintDigits.{digits_more, digits_last, digits_pass, value_fits, scale_more, tenth, before_tenth}
use Rattle.prost_reflect_wire.proofs.varint.decode_steps.Goals as goal

pub returns-then-byte-gt1-clause-fault : goal.returns-then-byte-gt1-clause-fault
returns-then-byte-gt1-clause-fault c = digits_pass _ _ _ _ (omega arith) c.if-index-eq9.true c.if-byte-gt1.true c.loop-index.invariant

pub overflow_add-value : goal.overflow_add-value
overflow_add-value c =
    let b = get_or c.args.bytes.now c.loop-index.index 0 in
    let is : c.from.result ≡ b % 128 = c.from.ensures ∙ and_mask b 7 in
    record { fits = value_fits _ _ _ _ c.from.result c.loop-index.invariant (omega arith) (tenth _ b _ is c.else-index-eq9.either) }

pub returns-then-byte-lt128-clause-ok : goal.returns-then-byte-lt128-clause-ok
returns-then-byte-lt128-clause-ok c =
    let b = get_or c.args.bytes.now c.loop-index.index 0 in
    let is : c.from.result ≡ b % 128 = c.from.ensures ∙ and_mask b 7 in
    digits_last _ _ _ _ _ (omega arith) c.if-byte-lt128.true is (value_fits _ _ _ _ _ c.loop-index.invariant (omega arith) (tenth _ b _ is c.else-index-eq9.either)) c.loop-index.invariant

pub overflow_mul-scale : goal.overflow_mul-scale
overflow_mul-scale c =
    record { fits = scale_more _ _ _ _ (before_tenth _ _ c.loop-index.invariant.few c.if-byte-lt128.false c.else-index-eq9.either) c.loop-index.invariant }

pub loop-index-preserved : goal.loop-index-preserved
loop-index-preserved c =
    let b = get_or c.args.bytes.now c.loop-index.index 0 in
    let is : c.from.result ≡ b % 128 = c.from.ensures ∙ and_mask b 7 in
    let few = before_tenth _ b c.loop-index.invariant.few c.if-byte-lt128.false c.else-index-eq9.either in
    digits_more _ _ _ _ _ (omega arith) few c.if-byte-lt128.false (omega (arith, c.type_inv.bytes c.loop-index.index)) is c.loop-index.invariant
