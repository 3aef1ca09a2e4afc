use Rattle.std.proofs.Common.{arith}
use Rattle.std.proofs.lemmas.Str.{IsCharBoundary-before_ascii, IsCharBoundary-after_ascii}
use Rattle.prost_reflect_base.proofs.names.around_dot.Goals as goal

pub split_at-requires : goal.split_at-requires
split_at-requires c = IsCharBoundary-before_ascii c.args.text.now c.args.place c.requires.within (omega (arith, c.requires.dot))

pub range_from-requires : goal.range_from-requires
range_from-requires c = λ some. IsCharBoundary-after_ascii c.args.text.now c.args.place c.utf8.text c.requires.within (omega (arith, c.requires.dot))
