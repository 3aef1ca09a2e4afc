use Rattle.std.proofs.Common.{◌≡◌, ◌%◌, get_or, arith, ◌∙◌}
use Rattle.std.proofs.lemmas.Nat.{and_mask}
use Rattle.prost_reflect_wire.proofs.VarintDigits.{digits_more, digits_last, digits_pass, digits_stop, value_fits, scale_more, tenth, before_tenth}
use Rattle.prost_reflect_wire.proofs.VarintFronts.{varint_no_fault, varint_once}
use Rattle.prost_reflect_wire.specs.declared.error.DecodeError.TheVariants as errors
use Rattle.prost_reflect_wire.proofs.varint.decode_varint_plain.Goals as goal

pub returns-then-byte-gt1-clause-fault : goal.returns-then-byte-gt1-clause-fault
returns-then-byte-gt1-clause-fault c = digits_pass _ _ _ _ c.loop-place-test.true c.if-place-eq9.true c.if-byte-gt1.true c.loop-place.invariant

pub returns-then-byte-gt1-clause-only : goal.returns-then-byte-gt1-clause-only
returns-then-byte-gt1-clause-only c = λ v rest f. varint_no_fault errors.Varint v _ rest f (digits_pass _ _ _ _ c.loop-place-test.true c.if-place-eq9.true c.if-byte-gt1.true c.loop-place.invariant)

pub overflow_add-value : goal.overflow_add-value
overflow_add-value c =
    let b = get_or c.args.bytes.now c.loop-place.place 0 in
    let is : c.from.result ≡ b % 128 = c.from.ensures ∙ and_mask b 7 in
    record { fits = value_fits _ _ _ _ c.from.result c.loop-place.invariant (omega arith) (tenth _ b _ is c.else-place-eq9.either) }

pub returns-then-byte-lt128-clause-ok : goal.returns-then-byte-lt128-clause-ok
returns-then-byte-lt128-clause-ok c =
    let b = get_or c.args.bytes.now c.loop-place.place 0 in
    let is : c.from.result ≡ b % 128 = c.from.ensures ∙ and_mask b 7 in
    digits_last _ _ _ _ _ c.loop-place-test.true c.if-byte-lt128.true is (value_fits _ _ _ _ _ c.loop-place.invariant (omega arith) (tenth _ b _ is c.else-place-eq9.either)) c.loop-place.invariant

pub returns-then-byte-lt128-clause-only : goal.returns-then-byte-lt128-clause-only
returns-then-byte-lt128-clause-only c = λ v rest f.
    let b = get_or c.args.bytes.now c.loop-place.place 0 in
    let is : c.from.result ≡ b % 128 = c.from.ensures ∙ and_mask b 7 in
    varint_once _ v _ _ rest (digits_last _ _ _ _ _ c.loop-place-test.true c.if-byte-lt128.true is (value_fits _ _ _ _ _ c.loop-place.invariant (omega arith) (tenth _ b _ is c.else-place-eq9.either)) c.loop-place.invariant) f

pub overflow_mul-scale : goal.overflow_mul-scale
overflow_mul-scale c =
    record { fits = scale_more _ _ _ _ (before_tenth _ _ c.loop-place.invariant.few c.if-byte-lt128.false c.else-place-eq9.either) c.loop-place.invariant }

pub loop-place-preserved : goal.loop-place-preserved
loop-place-preserved c =
    let b = get_or c.args.bytes.now c.loop-place.place 0 in
    let is : c.from.result ≡ b % 128 = c.from.ensures ∙ and_mask b 7 in
    let few = before_tenth _ b c.loop-place.invariant.few c.if-byte-lt128.false c.else-place-eq9.either in
    digits_more _ _ _ _ _ c.loop-place-test.true few c.if-byte-lt128.false (omega (arith, c.type_inv.bytes c.loop-place.place)) is c.loop-place.invariant

pub returns-clause-only : goal.returns-clause-only
returns-clause-only c = λ v rest f. varint_no_fault errors.Truncated v _ rest f (digits_stop _ _ _ _ (omega (arith, c.loop-place-test.false)) c.loop-place.invariant)
