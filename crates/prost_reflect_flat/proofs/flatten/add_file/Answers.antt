use Rattle.std.specs.Prelude.{◌≡◌, ◌+◌, ◌++◌}
use Rattle.prost_reflect_flat.proofs.Common.{[], List, map, length, None, refl, sym, ap, ◌∙◌, arith, length-map, drop_all, DescriptorProto, EnumDescriptorProto, FieldDescriptorProto, ServiceDescriptorProto, ScopeRow, message_at, all_from, with_given, enums_from, services_from, defined_from, field_name, definition_row, enum_row, service_row, message_row, flat_rows}
use Rattle.prost_reflect_flat.proofs.Flattening.{message_added, file_closed, same_scope, given_nothing}
use Rattle.prost_reflect_tables.proofs.Behind.{same_rows}
use Rattle.prost_reflect_flat.proofs.flatten.add_file.Goals as goal

pub loop-place-preserved : goal.loop-place-preserved
loop-place-preserved c =
    let old = flat_rows c.loop-place.flat in
    let front = c.args.flat.now.before in
    let before = front + length c.loop-place.flat.messages.items in
    let scope : ScopeRow = record { name = c.text_or_empty.result.now; path = []; file = c.args.file; is_proto3 = c.is_proto3.result; parent = None } in (
      message_added front old (flat_rows c.add_message.new.flat) c.deref-message-items.result.now c.loop-place.place c.message-item.result scope 4 before (front + length c.add_message.new.flat.messages.items)
          c.loop-place-test.true (ap (λ n. front + n) (sym (length-map c.loop-place.flat.messages.items message_row))) (ap (λ n. front + n) (sym (length-map c.add_message.new.flat.messages.items message_row)))
          (ap (λ (m : DescriptorProto). with_given old (message_at m scope 4 c.loop-place.place before)) (sym c.message-item.is)
          ∙ (ap (λ n. with_given old (message_at c.message-item.result scope 4 c.loop-place.place (n + length c.loop-place.flat.messages.items))) (sym c.loop-place.invariant.1)
          ∙ c.in_ok-add_message.ensures.added))
          ∙ c.loop-place.invariant.0,
      c.in_ok-add_message.ensures.before ∙ c.loop-place.invariant.1,
    )

pub returns-clause-added : goal.returns-clause-added
returns-clause-added c =
    let flat = c.args.flat.now in
    let proto = c.args.proto.now in
    let front = flat.before in
    let before = front + length flat.messages.items in
    let messages = c.deref-message-items.result.now in
    let scope : ScopeRow = record { name = c.text_or_empty.result.now; path = []; file = c.args.file; is_proto3 = c.is_proto3.result; parent = None } in
    let is_looped : flat_rows c.loop-place.flat ≡ with_given (flat_rows flat) (all_from (map message_at proto.message_type.items) scope 4 0 before) =
    sym (given_nothing (flat_rows c.loop-place.flat))
    ∙ (ap (λ (ms : List DescriptorProto). with_given (flat_rows c.loop-place.flat) (all_from (map message_at ms) scope 4 c.loop-place.place (front + length c.loop-place.flat.messages.items))) (sym (drop_all c.loop-place.place messages (omega arith)))
    ∙ (c.loop-place.invariant.0
    ∙ ap (λ (ms : List DescriptorProto). with_given (flat_rows flat) (all_from (map message_at ms) scope 4 0 before)) c.deref-message-items.ensures.value)) in
    file_closed (flat_rows flat) (flat_rows c.loop-place.flat) _ proto c.args.file before scope
    (same_scope _ _ c.text_or_empty.ensures refl refl c.is_proto3.ensures refl) is_looped
    (same_rows _ _ refl
    (c.in_ok-add_enums.ensures ∙ ap (λ (es : List EnumDescriptorProto). map enum_row c.loop-place.flat.enums.items ++ enums_from scope 5 0 es) c.as_slice.ensures.value)
    (c.in_ok-add_fields.ensures ∙ ap (λ (fs : List FieldDescriptorProto). map definition_row c.loop-place.flat.extensions.items ++ defined_from field_name scope 7 0 fs) c.as_slice-2.ensures.value)
    (c.in_ok-add_services.ensures ∙ ap (λ (ss : List ServiceDescriptorProto). map service_row c.loop-place.flat.services.items ++ services_from scope 6 0 ss) c.as_slice-3.ensures.value))
