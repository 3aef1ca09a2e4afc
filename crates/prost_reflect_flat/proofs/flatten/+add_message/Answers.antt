use Rattle.std.specs.Prelude.{◌≡◌, ◌+◌, ◌++◌, ◌∷◌}
use Rattle.prost_reflect_flat.proofs.Common.{[], List, map, length, Some, rules, refl, sym, ap, ◌∙◌, arith, length-map, map-append, drop_all, DescriptorProto, out-DescriptorProto, EnumDescriptorProto, FieldDescriptorProto, ScopeRow, FlatRows, FlatMessageRow, inside, enums_from, defined_from, field_name, own_message, message_at, all_from, with_given, scope_row, definition_row, enum_row, message_row, flat_rows}
use Rattle.prost_reflect_flat.proofs.Flattening.{message_added, message_closed, same_scope, given_nothing}
use Rattle.prost_reflect_tables.proofs.Behind.{same_rows}
use Rattle.prost_reflect_flat.proofs.flatten.+add_message.Goals as goal

pub loop-place-preserved : goal.loop-place-preserved
loop-place-preserved t c =
    let old = flat_rows c.loop-place.flat in
    let new = flat_rows c.add_message.new.flat in
    let front = c.args.flat.now.before in
    let before = front + length c.loop-place.flat.messages.items in
    let within : ScopeRow = record { name = c.as_str.result.now; path = c.as_slice.result.now; file = c.args.scope.now.file; is_proto3 = c.args.scope.now.is_proto3; parent = Some c.in_ok-before.before } in (
      message_added front old new c.deref-nested-items.result.now c.loop-place.place c.nested-item.result within 3 before (front + length c.add_message.new.flat.messages.items)
          c.loop-place-test.true (ap (λ n. front + n) (sym (length-map c.loop-place.flat.messages.items message_row))) (ap (λ n. front + n) (sym (length-map c.add_message.new.flat.messages.items message_row)))
          (ap (λ (m : DescriptorProto). with_given old (message_at m within 3 c.loop-place.place before)) (sym c.nested-item.is)
          ∙ (ap (λ n. with_given old (message_at c.nested-item.result within 3 c.loop-place.place (n + length c.loop-place.flat.messages.items))) (sym c.loop-place.invariant.1)
          ∙ c.in_ok-add_message.ensures.added))
          ∙ c.loop-place.invariant.0,
      c.in_ok-add_message.ensures.before ∙ c.loop-place.invariant.1,
    )

pub returns-clause-added : goal.returns-clause-added
returns-clause-added t c =
    let flat = c.args.flat.now in
    let proto = c.args.proto.now in
    let scope = scope_row c.args.scope.now in
    let own = message_row c.in_ok-message.message in
    let front = flat.before in
    let before = front + length flat.messages.items in
    let pushed : FlatRows = record (flat_rows flat) { messages = map message_row c.push.new.self.items } in
    let nested = c.deref-nested-items.result.now in
    let within : ScopeRow = record { name = c.as_str.result.now; path = c.as_slice.result.now; file = c.args.scope.now.file; is_proto3 = c.args.scope.now.is_proto3; parent = Some c.in_ok-before.before } in
    let before_is : c.in_ok-before.before ≡ before = c.in_ok-before.ensures in
    let is_own : own ≡ own_message (out-DescriptorProto proto) scope c.args.number c.args.place before = c.in_ok-message.ensures ∙ ap (own_message (out-DescriptorProto proto) scope c.args.number c.args.place) before_is in
    let is_within : within ≡ inside own.definition before = same_scope _ _ (search rules) (search rules) (sym (ap (λ (m : FlatMessageRow). m.definition.file) is_own)) (sym (ap (λ (m : FlatMessageRow). m.definition.is_proto3) is_own)) (ap Some before_is) in
    let is_pushed : pushed ≡ record (flat_rows flat) { messages = map message_row flat.messages.items ++ own ∷ [] } =
    same_rows _ _ (ap (map message_row) c.in_ok-push.ensures.items ∙ map-append message_row flat.messages.items (c.in_ok-message.message ∷ [])) refl refl refl in
    let is_looped : flat_rows c.loop-place.flat ≡ with_given pushed (all_from (map message_at (out-DescriptorProto proto).nested_type.items) within 3 0 (front + length c.push.new.self.items)) =
    sym (given_nothing (flat_rows c.loop-place.flat))
    ∙ (ap (λ (ms : List DescriptorProto). with_given (flat_rows c.loop-place.flat) (all_from (map message_at ms) within 3 c.loop-place.place (front + length c.loop-place.flat.messages.items))) (sym (drop_all c.loop-place.place nested (omega arith)))
    ∙ (c.loop-place.invariant.0
    ∙ ap (λ (ms : List DescriptorProto). with_given pushed (all_from (map message_at ms) within 3 0 (front + length c.push.new.self.items))) c.deref-nested-items.ensures.value)) in
    message_closed front (flat_rows flat) pushed (flat_rows c.loop-place.flat) _ proto scope c.args.number c.args.place before (front + length c.push.new.self.items) own within
    (ap (λ n. front + n) (sym (length-map flat.messages.items message_row))) is_own is_within is_pushed (ap (λ n. front + n) (sym (length-map c.push.new.self.items message_row))) is_looped
    (same_rows _ _ refl
    (c.in_ok-add_enums.ensures ∙ ap (λ (es : List EnumDescriptorProto). map enum_row c.loop-place.flat.enums.items ++ enums_from within 4 0 es) c.as_slice-2.ensures.value)
    (c.in_ok-add_fields.ensures ∙ ap (λ (fs : List FieldDescriptorProto). map definition_row c.loop-place.flat.extensions.items ++ defined_from field_name within 6 0 fs) c.as_slice-3.ensures.value)
    refl)
