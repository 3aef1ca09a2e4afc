-- When pools are equal: a test that decides whether their files hold the same.
use Rattle.std.specs.Prelude.{◌≡◌, Bool, List}
use Rattle.std.specs.Bool.{Decides}
use Rattle.std.specs.Cmp.{IsEquivalence}
use Rattle.std.specs.Cmp.Lexicographic.{pointwise}
use Rattle.prost_reflect_wire.specs.Content.{Content}
use Rattle.prost_reflect_wire.specs.Deciding.{list_decides, equivalence}
use Rattle.prost_reflect_wire.specs.ContentEquality.{content_eq, content_decides}

-- As many contents, equal one by one.
unfoldable pub contents_eq : List Content → List Content → Bool
contents_eq = pointwise content_eq

pub contents_decide : (cs ds : List Content) → Decides (contents_eq cs ds) (cs ≡ ds)
unfolding contents_eq
contents_decide = list_decides content_decides

pub contents_equivalence : IsEquivalence contents_eq
contents_equivalence = equivalence contents_eq contents_decide
