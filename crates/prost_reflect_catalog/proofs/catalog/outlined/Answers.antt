use Rattle.prost_reflect_catalog.proofs.Common.{ap, ◌∙◌, map, rules, List, flat_rows, all_rows, service_row, links_of, linked_service, ResolvedRow}
use Rattle.prost_reflect_base.specs.declared.Base.{Base}
use Rattle.prost_reflect_base.specs.Below.{catalog_below}
use Rattle.std.specs.Prelude.{◌++◌}
use Rattle.prost_reflect_flat.specs.declared.definitions.FlatService.{FlatService}
use Rattle.prost_reflect_lists.specs.ExtendedRows.{found_extended}
use Rattle.prost_reflect_lists.proofs.ExtendedRows.{extended_are}
use Rattle.prost_reflect_catalog.proofs.catalog.outlined.Goals as goal

pub returns : goal.returns
returns c =
    let rows = flat_rows c.args.flat.now in
    record {
      files = search rules;
      inner = search rules;
      further = search rules;
      enums = search rules;
      extensions =
          c.in_ok-all_extended.ensures
          ∙ (ap (λ (rs : List ResolvedRow). map found_extended rs) c.requires.extensions ∙ extended_are (links_of (all_rows c.args.base rows)) rows.extensions);
      services =
          c.in_ok-linked_services.ensures
          ∙ (ap (λ (b : Base). (catalog_below b).services ++ map (linked_service (links_of (all_rows b rows))) (map service_row c.as_slice-2.result.now)) c.requires.base
          ∙ ap (λ (ss : List FlatService). (catalog_below c.args.base).services ++ map (linked_service (links_of (all_rows c.args.base rows))) (map service_row ss)) c.as_slice-2.ensures.value);
      by_name = search rules;
    }
