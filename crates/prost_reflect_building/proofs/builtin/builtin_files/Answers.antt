use Rattle.std.specs.Prelude.{◌++◌, ◌∷◌}
use Rattle.prost_reflect_building.proofs.Common.{[], ap, ◌∙◌}
use Rattle.prost_reflect_building.proofs.builtin.builtin_files.Goals as goal

pub returns : goal.returns
returns c = record {
  plain = c.in_ok-scalar_file.field-0;
  kept = c.in_ok-scalar_file-2.field-0;
  both = c.in_ok-push-2.ensures.items ∙ ap (λ l. l ++ c.in_ok-scalar_file-2.field-0 ∷ []) (c.in_ok-push.ensures.items ∙ ap (λ l. l ++ c.in_ok-scalar_file.field-0 ∷ []) c.new-files.ensures.items);
  is_plain = c.in_ok-scalar_file.ensures;
  is_kept = c.in_ok-scalar_file-2.ensures;
}
