-- Items stand in order where sorting them changes nothing.
use Rattle.std.specs.Prelude.{◌≡◌}
use Rattle.prost_reflect_growth.proofs.Common.{IsStrictWeakOrder, Bool, List, sym, subst, sorted_by}
use Rattle.prost_reflect_tables.proofs.Orders.{Rises, one_order, order_rises, order_there}

module _ {X : Type 0} (lt : X → X → Bool) (o : IsStrictWeakOrder lt) where
  pub sorted_already : (xs : List X) → Rises lt xs → sorted_by lt xs ≡ xs
  sorted_already xs h = sym (one_order lt o xs (sorted_by lt xs) h (order_rises lt o xs) (λ z. sym (order_there lt o z xs)))

  pub rises_already : (xs : List X) → sorted_by lt xs ≡ xs → Rises lt xs
  rises_already xs e = subst (Rises lt) e (order_rises lt o xs)
