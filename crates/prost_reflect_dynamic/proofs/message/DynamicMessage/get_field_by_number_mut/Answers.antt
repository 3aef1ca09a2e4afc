use Rattle.std.specs.Prelude.{◌≡◌}
use Rattle.prost_reflect_dynamic.proofs.Common.{ℕ, cond, Option, Some, None, inl, ap, subst, sym, ◌∙◌, IsLentIf, left_if, number_declared, set_if, LendsInside, LeavesMessage, LeavesSet, value_of, content_of, message_type_of, Value}
use Rattle.prost_reflect_dynamic.proofs.OwnFields.{number_known}
use Rattle.prost_reflect_dynamic.proofs.message.DynamicMessage.get_field_by_number_mut.Goals as goal

pub value_or_default_mut-requires : goal.value_or_default_mut-requires
value_or_default_mut-requires c = number_known (message_type_of c.args.self.now) c.args.number (sym c.is_field_number.ensures ∙ c.if-is_field_number.true)

pub returns-in-Ok : goal.returns-in-Ok
returns-in-Ok c =
    let is : number_declared (message_type_of c.args.self.now) c.args.number ≡ Some c.args.number = ap (λ b. cond b (Some c.args.number) None) (sym c.is_field_number.ensures ∙ c.if-is_field_number.true) in (
      ap (λ (o : Option ℕ). inl (c.in-Ok.value.ghost_name, left_if o c.args.self.now)) (sym is),
      record {
        writes_back = tt;
        value = subst (λ (o : Option ℕ). IsLentIf o c.args.self.now c.in-Ok.value.now) (sym is) c.in-Ok.ensures.value;
        part = c.in-Ok.ensures.part;
        inside = subst (λ (o : Option ℕ). LendsInside o c.args.self.now c.in-Ok.value.now) (sym is) c.in-Ok.ensures.inside;
        sets = subst (λ (o : Option ℕ). LeavesSet o c.args.self.now) (sym is) c.in-Ok.ensures.sets;
        message = subst (λ (o : Option ℕ). LeavesMessage o c.args.self.now c.in-Ok.value.now) (sym is) c.in-Ok.ensures.message;
        found = λ _. sym c.is_field_number.ensures ∙ c.if-is_field_number.true;
        message_type = subst (λ (o : Option ℕ). (v : Value) → message_type_of (left_if o c.args.self.now v) ≡ message_type_of c.args.self.now) (sym is) c.in-Ok.ensures.message_type;
        content = subst (λ (o : Option ℕ). (v : Value) → content_of (left_if o c.args.self.now v) ≡ set_if o (value_of v) (content_of c.args.self.now)) (sym is) c.in-Ok.ensures.content;
        refused = tt;
      },
    )
