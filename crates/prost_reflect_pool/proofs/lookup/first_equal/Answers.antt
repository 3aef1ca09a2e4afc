use Rattle.std.specs.Prelude.{◌≡◌, ◌+◌, ◌-◌, ◌/◌}
use Rattle.prost_reflect_pool.proofs.Common.{arith, rules, refl, sym, ap, ◌∙◌, is_lt, is_eq}
use Rattle.std.proofs.lemmas.Fn.{says_at}
use Rattle.prost_reflect_pool.proofs.Searching.{upper_half, lower_half, found, differs, past_all}
use Rattle.prost_reflect_pool.proofs.lookup.first_equal.Goals as goal

pub loop-low-preserved-then-is_lt : goal.loop-low-preserved-then-is_lt
loop-low-preserved-then-is_lt g c = record {
  low = omega arith;
  high = omega arith;
  between = λ o is up.
      let middle = c.loop-low.low + (c.loop-low.high - c.loop-low.low) / 2 in
      let x = c.index-places-middle.result in
      let told : c.compare.result ≡ o x = is _ _ (says_at g.C.Fn c.compare.ensures refl) in
      upper_half o c.args.places.now c.loop-low.low c.loop-low.high middle x up (c.loop-low.invariant.between o is up) (omega arith) c.index-places-middle.is (ap is_lt (sym told) ∙ (sym c.is_lt.ensures ∙ c.if-is_lt.true));
}

pub loop-low-preserved : goal.loop-low-preserved
loop-low-preserved g c = record {
  low = omega arith;
  high = omega arith;
  between = λ o is up.
      let middle = c.loop-low.low + (c.loop-low.high - c.loop-low.low) / 2 in
      let x = c.index-places-middle.result in
      let told : c.compare.result ≡ o x = is _ _ (says_at g.C.Fn c.compare.ensures refl) in
      lower_half o c.args.places.now c.loop-low.low c.loop-low.high middle x up (c.loop-low.invariant.between o is up) (omega arith) c.index-places-middle.is (ap is_lt (sym told) ∙ (sym c.is_lt.ensures ∙ c.if-is_lt.false));
}

pub returns-then-is_eq : goal.returns-then-is_eq
returns-then-is_eq g c =
    λ o is up.
    let told : c.compare-order.result ≡ o c.in-Some.place.now = is _ _ (says_at g.C.Fn c.compare-order.ensures refl) in
    found o c.args.places.now c.loop-low.low c.loop-low.high c.in-Some.place.now (c.loop-low.invariant.between o is up) c.in-Some.ensures.lookup.3.0 (c.in-Some.ensures.lookup.3.1 c.in-Some.place.now) (ap is_eq (sym told) ∙ (sym c.is_eq.ensures ∙ c.if-is_eq.true))

pub returns-else-is_eq : goal.returns-else-is_eq
returns-else-is_eq g c =
    λ o is up.
    let told : c.compare-order.result ≡ o c.in-Some.place.now = is _ _ (says_at g.C.Fn c.compare-order.ensures refl) in
    differs o c.args.places.now c.loop-low.low c.loop-low.high c.in-Some.place.now up (c.loop-low.invariant.between o is up) c.loop-low-test.false c.in-Some.ensures.lookup.3.0 (c.in-Some.ensures.lookup.3.1 c.in-Some.place.now) (ap is_eq (sym told) ∙ (sym c.is_eq.ensures ∙ c.if-is_eq.false))

pub returns-in-None : goal.returns-in-None
returns-in-None g c =
    λ o is up.
    let h = c.in-None.ensures in
    past_all o c.args.places.now c.loop-low.low c.loop-low.high (c.loop-low.invariant.between o is up) (search rules)
