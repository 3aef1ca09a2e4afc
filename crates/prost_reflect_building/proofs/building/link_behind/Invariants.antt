use Rattle.prost_reflect_growth.specs.Growth.{added_rows}
use Rattle.prost_reflect_base.specs.Below.{files_below}
use Rattle.prost_reflect_flat.specs.FlatViews.{file_list}
use Rattle.prost_reflect_building.proofs.building.link_behind.Given as goal

abbrev pub ghost-linked_catalog : goal.ghost-linked_catalog
ghost-linked_catalog a = added_rows (files_below a.base) (file_list a.files.now)
