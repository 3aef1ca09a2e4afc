use Rattle.std.specs.Prelude.{◌++◌, ◌∷◌}
use Rattle.prost_reflect_building.proofs.Common.{[], refl, ap, ◌∙◌}
use Rattle.prost_reflect_building.proofs.builtin.scalar_file.Goals as goal

pub returns : goal.returns
returns c = record {
  proto = c.in_ok-scalar_message.field-0;
  named = c.in_ok-from_str.ensures.ok;
  in_package = c.in_ok-from_str-2.ensures.ok;
  of_syntax = c.in_ok-from_str-3.ensures.ok;
  messages = c.in_ok-push.ensures.items ∙ ap (λ l. l ++ c.in_ok-scalar_message.field-0 ∷ []) c.new-message_type.ensures.items;
  is_message = c.in_ok-scalar_message.ensures;
  no_dependencies = c.new.ensures.items;
  no_enums = c.new-2.ensures.items;
  no_services = c.new-3.ensures.items;
  no_extensions = c.new-4.ensures.items;
  no_public = c.new-5.ensures.items;
  no_weak = c.new-6.ensures.items;
  no_options = refl;
  no_source = refl;
}
