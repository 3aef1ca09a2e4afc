-- The names that most proofs cite, handed on from one place. Declares nothing.
pub use Rattle.std.specs.List.{AllByRecursion, list_all}
pub use Rattle.std.specs.Prelude.{All, IfOk, IfSome, Result, slice_get}
pub use Rattle.std.specs.declared.alloc.AllocError.{AllocError}
pub use Rattle.std.specs.declared.alloc.Global.{Global}
pub use Rattle.std.specs.declared.result.Result.TheVariants.{Err, Ok}
pub use Rattle.std.proofs.Common.{Bor, IsTrue, List, Option, Some, [], ap, arith, length, nat_lt, refl, rules, subst, suc, sym, zero, ℕ, ◌∙◌}
pub use Rattle.std.proofs.lemmas.List.Elements.{recursion_from_All}
pub use Rattle.prost_reflect_walks.specs.Places.{GivesNext, places_from, places_left}
pub use Rattle.prost_reflect_walks.specs.Walks.{EachGiven, EachTaken, GivesEach, descriptor_steps}
