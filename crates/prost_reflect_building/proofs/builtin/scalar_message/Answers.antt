use Rattle.prost_reflect_building.proofs.Common.{Some, None, refl, sym, subst, DescriptorProto, out-roll-DescriptorProto, scalar_names, HasScalars}
use Rattle.prost_reflect_types.specs.declared.DescriptorProto.TheOpen.{DescriptorProto-F}
use Rattle.prost_reflect_building.proofs.builtin.scalar_message.Goals as goal

pub returns : goal.returns
unfolding scalar_names
returns c =
    let parts : DescriptorProto-F DescriptorProto = record {
      name = Some c.in_ok-from_str.field-0;
      field = c.in_ok-scalar_fields.field-0;
      nested_type = c.new.result;
      enum_type = c.new-2.result;
      extension_range = c.new-3.result;
      extension = c.new-4.result;
      options = None;
      oneof_decl = c.new-5.result;
      reserved_range = c.new-6.result;
      reserved_name = c.new-7.result;
    } in
    subst (HasScalars c.args.name.now) (sym (out-roll-DescriptorProto parts)) (record {
      named = c.in_ok-from_str.ensures.ok;
      fields = c.in_ok-scalar_fields.ensures;
      no_messages = c.new.ensures.items;
      no_enums = c.new-2.ensures.items;
      no_extension_ranges = c.new-3.ensures.items;
      no_extensions = c.new-4.ensures.items;
      no_options = refl;
      no_oneofs = c.new-5.ensures.items;
      no_reserved_ranges = c.new-6.ensures.items;
      no_reserved_names = c.new-7.ensures.items;
    })
