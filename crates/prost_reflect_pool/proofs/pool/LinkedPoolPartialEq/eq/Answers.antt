use Rattle.std.specs.Prelude.{◌≡◌}
use Rattle.prost_reflect_pool.proofs.Common.{◌∙◌, sym, ap, shared_files, contents_decide, contents_of}
use Rattle.prost_reflect_identity.specs.Values.{value_of}
use Rattle.prost_reflect_pool.proofs.EqualDescriptors.{files_compared}
use Rattle.prost_reflect_pool.proofs.pool.LinkedPoolPartialEq.eq.Goals as goal

pub returns-then-is_same : goal.returns-then-is_same
returns-then-is_same c =
    let a = c.args.self.now in
    let b = c.args.other.now in
    let same : a.files ≡ b.files = sym a.identified ∙ ap value_of (c.is_same.ensures.0 c.if-is_same.true) ∙ b.identified in
    c.if-is_same.true ∙ sym ((contents_decide _ _).1 (ap (λ files. contents_of (shared_files files.items)) same))

pub returns-else-is_same : goal.returns-else-is_same
returns-else-is_same c = c.eq.ensures ∙ files_compared c.args.self.now.files.items c.args.other.now.files.items
