use Rattle.std.specs.Prelude.{◌∷◌, ◌+◌, ◌%◌, ◌/◌}
use Rattle.prost_reflect_wire.proofs.Common.{List, ℕ, ap, sym, ◌∙◌, subst, arith, bytes_of, Prepended}
use Rattle.prost_reflect_wire.proofs.ShortDigits.{short_low, short_up}
use Rattle.prost_reflect_wire.proofs.buffer.BackBuffer.prepend_varint.Goals as goal

pub returns-then-value-lt128-clause-ok : goal.returns-then-value-lt128-clause-ok
returns-then-value-lt128-clause-ok c = subst (λ (l : List ℕ). Prepended c.prepend.result (bytes_of c.args.self.now) (bytes_of c.prepend.new.self) l) (sym (short_low c.args.value c.if-value-lt128.true)) c.prepend.ensures.ok

pub returns-then-value-lt16384-clause-ok : goal.returns-then-value-lt16384-clause-ok
returns-then-value-lt16384-clause-ok c =
    let v = c.args.value in
    let both = short_up v (omega arith) (omega arith) ∙ ap (λ (l : List ℕ). (128 + v % 128) ∷ l) (short_low (v / 128) (omega arith)) in
    subst (λ (l : List ℕ). Prepended c.prepend-then-value-lt16384.result (bytes_of c.args.self.now) (bytes_of c.prepend-then-value-lt16384.new.self) l) (sym both) c.prepend-then-value-lt16384.ensures.ok
