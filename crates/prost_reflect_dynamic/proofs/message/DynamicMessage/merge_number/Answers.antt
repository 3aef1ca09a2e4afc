use Rattle.std.specs.Prelude.{◌≡◌}
use Rattle.prost_reflect_dynamic.proofs.Common.{◌∙◌, ap, sym, rules, IfOk-weaker, ScalarValue, EnumNumber, low_i32, pool_rows, is_stray_varint, is_stray_number, content_of, message_type_of}
use mir.Syntax.{w32}
use mir.Val.{to_z, of_z}
use Rattle.prost_reflect_dynamic.proofs.NumberMerging.{list_there, stray_taken}
use Rattle.prost_reflect_dynamic.proofs.TypedValues.{scalar_element}
use Rattle.prost_reflect_dynamic.proofs.Views.{value_of_enum_number}
use Rattle.prost_reflect_dynamic.proofs.message.DynamicMessage.merge_number.Goals as goal

pub returns-then-is_stray-clause-content : goal.returns-then-is_stray-clause-content
returns-then-is_stray-clause-content c =
    let number = to_z w32 (of_z w32 c.low_i32.result) in
    let low : low_i32 c.args.varint ≡ number = search rules in
    let stray = ap (λ d. is_stray_varint (pool_rows d.pool).enums c.args.kind c.args.varint) (sym c.message_type.ensures)
    ∙ ap (is_stray_number (pool_rows c.message_type.result.now.pool).enums c.args.kind) (ap (λ z. ScalarValue (EnumNumber z)) low ∙ sym (value_of_enum_number number)) ∙ sym c.is_stray.ensures ∙ c.if-is_stray.true in
    IfOk-weaker c.add_stray.result _ _
    (λ u content. stray_taken c.args.self.now c.args.number.value c.args.kind c.requires.field c.args.varint (content_of c.make_list.new.self) _ c.requires.sound stray (rw c.get.ensures.value at c.in_ok-make_list.ensures.content) content) c.add_stray.ensures.content

pub push_value-requires-clause-list : goal.push_value-requires-clause-list
push_value-requires-clause-list c = rw c.get-2.ensures.value (list_there c.args.self.now c.args.number.value c.args.kind c.requires.field c.requires.sound)

pub returns-clause-typed : goal.returns-clause-typed
returns-clause-typed c = IfOk-weaker c.push_value.result _ _ (λ u step. step (scalar_element (message_type_of c.args.self.now) c.get-2.result _ _ (value_of_enum_number (to_z w32 (of_z w32 c.low_i32.result))))) c.push_value.ensures.typed
