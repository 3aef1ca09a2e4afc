use Rattle.std.specs.Prelude.{◌≡◌}
use Rattle.prost_reflect_types.specs.DescriptorViews.{shared_files}
use Rattle.prost_reflect_pool.specs.Pools.{files_of}
use Rattle.prost_reflect_dynamic.proofs.Common.{ap, ◌∙◌, on_ok_weaker}
use Rattle.prost_reflect_pool.proofs.OwnEncoding.{own_checked, written_again}
use Rattle.prost_reflect_dynamic.proofs.descriptor.pool.DescriptorPool.encode.Goals as goal

pub returns-clause-checked : goal.returns-clause-checked
returns-clause-checked c = own_checked c.args.self.now.inner.value

pub returns-clause-again : goal.returns-clause-again
returns-clause-again c =
    let pool = c.args.self.now.inner.value in
    let files : shared_files c.shared_files.result.now ≡ files_of pool = c.shared_files.ensures ∙ ap files_of c.deref.ensures in
    on_ok_weaker _ (written_again (shared_files c.shared_files.result.now) pool files) c.encode_files.ensures.reads
