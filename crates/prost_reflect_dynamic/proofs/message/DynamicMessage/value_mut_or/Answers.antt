use Rattle.prost_reflect_dynamic.proofs.Common.{refl, IfOk-weaker, known_of, message_type_of, stored_in}
use Rattle.prost_reflect_dynamic.proofs.Stored.{prepared_value, value_lent, content_written}
use Rattle.prost_reflect_dynamic.proofs.message.DynamicMessage.value_mut_or.Goals as goal

pub returns : goal.returns
returns c =
    let lent = c.get_mut_or.ensures in (
      refl,
      record {
        writes_back = tt;
        stored = IfOk-weaker c.get_mut_or.result _ _ (λ v. prepared_value (known_of (message_type_of c.args.self.now)) (stored_in c.args.self.now) c.args.number c.args.default v.now lent.ascending) lent.value;
        value = IfOk-weaker c.get_mut_or.result _ _ (λ v. value_lent c.args.self.now c.args.number c.args.default v.now lent.ascending) lent.value;
        message_type = λ v. refl;
        content = λ v. content_written c.args.self.now c.args.number c.args.default v lent.ascending lent.sound c.requires;
        ascending = lent.ascending;
      },
    )
