use Rattle.std.specs.Prelude.{◌≡◌}
use Rattle.prost_reflect_dynamic.proofs.Common.{ℕ, Option, Some, IfSome, inl, ap, subst, sym, ◌∙◌, IsLentIf, left_if, number_named, set_if, LendsInside, IsPart, LeavesMessage, LeavesSet, value_of, content_of, message_type_of, Value}
use Rattle.prost_reflect_dynamic.proofs.OwnFields.{named_known}
use Rattle.prost_reflect_dynamic.proofs.message.DynamicMessage.get_field_by_name_mut.Goals as goal

pub value_or_default_mut-requires : goal.value_or_default_mut-requires
value_or_default_mut-requires c = named_known (message_type_of c.args.self.now) c.args.name.now c.in-Some.number (sym c.number_named.ensures ∙ c.in-Some.is)

pub returns-in-Ok : goal.returns-in-Ok
returns-in-Ok c =
    let is : number_named (message_type_of c.args.self.now) c.args.name.now ≡ Some c.in-Some.number = sym c.number_named.ensures ∙ c.in-Some.is in (
      ap (λ (o : Option ℕ). inl (c.in-Ok.value.ghost_name, left_if o c.args.self.now)) (sym is),
      (subst (λ (o : Option ℕ). IsLentIf o c.args.self.now c.in-Ok.value.now) (sym is) c.in-Ok.ensures.value, (subst (λ (o : Option ℕ). IfSome o (λ n. IsPart c.args.self.now n c.in-Ok.value.now)) (sym is) c.in-Ok.ensures.part, (subst (λ (o : Option ℕ). LendsInside o c.args.self.now c.in-Ok.value.now) (sym is) c.in-Ok.ensures.inside, (subst (λ (o : Option ℕ). LeavesSet o c.args.self.now) (sym is) c.in-Ok.ensures.sets, (subst (λ (o : Option ℕ). LeavesMessage o c.args.self.now c.in-Ok.value.now) (sym is) c.in-Ok.ensures.message, (subst (λ (o : Option ℕ). (v : Value) → message_type_of (left_if o c.args.self.now v) ≡ message_type_of c.args.self.now) (sym is) c.in-Ok.ensures.message_type, (subst (λ (o : Option ℕ). (v : Value) → content_of (left_if o c.args.self.now v) ≡ set_if o (value_of v) (content_of c.args.self.now)) (sym is) c.in-Ok.ensures.content, tt))))))),
    )
