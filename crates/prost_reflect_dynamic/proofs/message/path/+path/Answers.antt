use Rattle.std.specs.Prelude.{◌≡◌}
use Rattle.prost_reflect_dynamic.proofs.Common.{rules, true, false, length, nat_eq, sym, IfOk-weaker, left_at, value_of, content_of}
use Rattle.prost_reflect_dynamic.proofs.Views.{value_of_message}
use Rattle.prost_reflect_dynamic.proofs.LentPaths.{set_last, held_path, set_through}
use Rattle.prost_reflect_dynamic.proofs.message.path.+path.Goals as goal

pub set_in_held-returns : goal.set_in_held-returns
set_in_held-returns t c = IfOk-weaker c.set_at_path.result _ _ (λ _ s. record { before = c.in-Some.message.now; after = c.set_at_path.new.message; was = sym c.in-Some.ensures.value; is = value_of_message c.set_at_path.new.message; set = s }) c.set_at_path.ensures

pub set_at_path-set_in_held-requires : goal.set_at_path-set_in_held-requires
set_at_path-set_in_held-requires t c =
    let some : nat_eq (length c.in-Some.rest.now) 0 ≡ false = search rules in
    (search rules, held_path c.args.message.now _ c.args.path.now _ _ c.in_ok-lent.lent.now c.requires.sound c.in-Some.ensures.cases.0 some c.requires.path c.in_ok-lent.ensures.value)

pub set_at_path-returns-then-is_empty : goal.set_at_path-returns-then-is_empty
set_at_path-returns-then-is_empty t c =
    let none : nat_eq (length c.in-Some.rest.now) 0 ≡ true = search rules in
    IfOk-weaker c.set_value.result _ _
    (λ _ is. set_last c.args.message.now (content_of c.set_value.new.self) c.in-Some.number.now c.args.path.now c.in-Some.rest.now (value_of c.args.value) c.requires.sound c.in-Some.ensures.cases.0 none c.requires.path is)
    c.set_value.ensures.content

pub set_at_path-returns : goal.set_at_path-returns
set_at_path-returns t c =
    let some : nat_eq (length c.in-Some.rest.now) 0 ≡ false = search rules in
    IfOk-weaker c.set_in_held.result _ _
    (λ _ set. set_through c.args.message.now (content_of (left_at c.args.message.now c.in-Some.number.now c.set_in_held.new.lent)) c.in-Some.number.now c.args.path.now c.in-Some.rest.now (value_of c.args.value) (value_of c.set_in_held.new.lent) c.in_ok-lent.lent.now
    c.requires.sound c.in-Some.ensures.cases.0 some c.requires.path c.in_ok-lent.ensures.value set (c.in_ok-lent.ensures.content c.set_in_held.new.lent))
    c.set_in_held.ensures
