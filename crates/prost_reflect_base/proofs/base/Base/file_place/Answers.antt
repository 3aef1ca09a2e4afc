use Rattle.std.proofs.Common.{◌∙◌}
use Rattle.prost_reflect_tables.specs.Names.{text_or_empty}
use Rattle.prost_reflect_base.specs.Below.{files_below}
use Rattle.prost_reflect_base.proofs.Lists.{first_named}
use Rattle.prost_reflect_base.proofs.base.Base.file_place.Goals as goal

pub returns : goal.returns
returns c = c.file_place.ensures ∙ first_named (λ f. text_or_empty f.name) c.args.name.now (files_below c.args.self.now)
