use Rattle.std.specs.Prelude.{◌≡◌}
use Rattle.prost_reflect_dynamic.proofs.Common.{true, Option, Some, None, refl, sym, ap, ◌∙◌, option_map, option_copied_mut, is_some, IfSome, value_of, Value}
use Rattle.std.specs.Borrow.{MutBor}
use Rattle.prost_reflect_dynamic.proofs.Stored.{value_of_message, content_overwritten}
use Rattle.prost_reflect_dynamic.proofs.message.DynamicMessage.value_mut.Goals as goal

pub returns : goal.returns
returns c =
    let m = c.args.self.now in
    let n = c.args.number in
    let lent = c.get_mut.ensures in (
      refl,
      record {
        writes_back = tt;
        stored = lent.value;
        value = ap (option_map value_of) lent.value ∙ value_of_message m n lent.ascending;
        content = λ v. written c.get_mut.result lent.value (content_overwritten m n v lent.ascending lent.sound);
        ascending = lent.ascending;
      },
    )
  where
    written : {P : Type 0} {o : Option Value} (r : Option (MutBor Value)) → option_copied_mut r ≡ o → (is_some o ≡ true → P) → IfSome r (λ _. P)
    written None e h = tt
    written (Some x) e h = h (ap is_some (sym e))
