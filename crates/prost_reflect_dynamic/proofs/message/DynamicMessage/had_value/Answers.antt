use Rattle.prost_reflect_dynamic.proofs.Common.{true, false, None, sym, ap, ◌∙◌, field_of, passes, kept_inside, is_field_default, known_of, value_of}
use Rattle.prost_reflect_dynamic.proofs.Had.{had_found, has_found, had_tested, has_tested}
use Rattle.prost_reflect_dynamic.proofs.message.DynamicMessage.had_value.Goals as goal

pub returns-then-says_nothing : goal.returns-then-says_nothing
returns-then-says_nothing c =
    let is = ap (λ t. passes (field_of (known_of t) c.args.number) (λ f. is_field_default f (kept_inside (value_of c.in-Some.value.now)))) (sym c.message_type.ensures) ∙ sym c.says_nothing.ensures ∙ c.if-says_nothing.true in
    record {
      value = had_tested c.args.self.now c.args.number c.in-Some.value.now true c.stored_value.ensures.ascending c.in-Some.ensures.stored is;
      has = has_tested c.args.self.now c.args.number c.in-Some.value.now true c.stored_value.ensures.ascending c.in-Some.ensures.stored is;
    }

pub returns-else-says_nothing : goal.returns-else-says_nothing
returns-else-says_nothing c =
    let is = ap (λ t. passes (field_of (known_of t) c.args.number) (λ f. is_field_default f (kept_inside (value_of c.in-Some.value.now)))) (sym c.message_type.ensures) ∙ sym c.says_nothing.ensures ∙ c.if-says_nothing.false in
    record {
      value = had_tested c.args.self.now c.args.number c.in-Some.value.now false c.stored_value.ensures.ascending c.in-Some.ensures.stored is;
      has = has_tested c.args.self.now c.args.number c.in-Some.value.now false c.stored_value.ensures.ascending c.in-Some.ensures.stored is;
    }

pub returns-in-None : goal.returns-in-None
returns-in-None c = record {
  value = sym (had_found c.args.self.now c.args.number None c.stored_value.ensures.ascending c.in-None.ensures.stored);
  has = sym (has_found c.args.self.now c.args.number None c.stored_value.ensures.ascending c.in-None.ensures.stored);
}
