use Rattle.std.specs.Prelude.{◌≡◌}
use Rattle.prost_reflect_dynamic.proofs.Common.{ap, refl, sym, ◌∙◌, Result, Ok, Err, IfOk-weaker, entries_of, value_at, kept, held_set, value_of, content_of, message_type_of, stored_in, known_of, stored_at, left_at, takes_at, true, unwrap_or, Some, IsPart, Sets, written_at, Value}
use Rattle.std.specs.Result.{OnOk}
use Rattle.std.specs.Borrow.{name_if_ok}
use borrow.Follows.Closed.{read_of}
use Rattle.prost_reflect_dynamic.proofs.ContentChanges.{message_arranged}
use Rattle.prost_reflect_dynamic.proofs.Depths.{lent_small, left_depth}
use Rattle.prost_reflect_dynamic.proofs.DefaultParts.{lent_part}
use Rattle.prost_reflect_dynamic.proofs.Edits.{sets, set_held}
use Rattle.prost_reflect_dynamic.proofs.LentMessages.{leaves_message}
use Rattle.prost_reflect_dynamic.proofs.Stored.{stored_written}
use Rattle.prost_reflect_dynamic.proofs.TypedSteps.{ascending_written, left_typed}
use Rattle.prost_reflect_dynamic.proofs.LentWriting.{written_over, lent_or_default}
use Rattle.prost_reflect_dynamic.proofs.message.DynamicMessage.value_or_default_mut.Goals as goal

always : {T E P : Type 0} (r : Result T E) → P → OnOk r P
always (Ok x) p = p
always (Err e) p = tt

pub returns-in-Ok : goal.returns-in-Ok
returns-in-Ok c =
    let m = c.args.self.now in
    let n = c.args.number in
    let lent = c.value_mut_or.ensures in
    let over : (w : Value) → written_at m n c.in-Ok.default w ≡ written_at m n w w = λ w. written_over m n c.in-Ok.default w lent.ascending in
    let set : (v : Value) → takes_at (message_type_of m) n v ≡ true → Sets (Some n) v m (left_at m n v) =
    λ v. sets m (left_at m n v) n v lent.ascending refl (ap content_of (sym (over v)) ∙ lent.content v) (left_typed m n v lent.ascending v) (ascending_written m n v lent.ascending v) (stored_written (known_of (message_type_of m)) (stored_in m) n v v lent.ascending) in
    let held : (v : Value) → kept (content_of (left_at m n v)) ≡ held_set n (value_of v) (kept (content_of m)) =
    λ v. ap (λ l. kept (content_of l)) (sym (over v)) ∙ ap kept (lent.content v) ∙ set_held (content_of m) n (value_of v) (message_arranged m lent.ascending) in
    let part : (v : Value) → v ≡ unwrap_or (stored_at (stored_in m) n) c.in-Ok.default → IsPart m n v = λ v is. lent_part m n c.in-Ok.default v lent.ascending c.requires is c.in-Ok.ensures.default c.in-Ok.ensures.typed in (
      λ i. read_of (name_if_ok (λ x. x.ghost_name) c.value_mut_or.result) (λ w. over w i) m,
      record {
        writes_back = tt;
        value = IfOk-weaker c.value_mut_or.result _ _ (λ v is. lent_or_default (message_type_of m) n (value_at n (entries_of (content_of m))) (value_of v.now) (value_of c.in-Ok.default) is c.in-Ok.ensures.default) lent.value;
        part = IfOk-weaker c.value_mut_or.result _ _ (λ v is. part v.now is) lent.stored;
        inside = IfOk-weaker c.value_mut_or.result _ _ (λ v is. record { less = lent_small m n c.in-Ok.default v.now lent.ascending is; left = λ w less. left_depth m n w less }) lent.stored;
        sets = always c.value_mut_or.result (record { each = set; held = held });
        message = IfOk-weaker c.value_mut_or.result _ _ (λ v is. leaves_message m n v.now lent.ascending (part v.now is) set) lent.stored;
        message_type = λ v. refl;
        content = always c.value_mut_or.result (λ v. ap content_of (sym (over v)) ∙ lent.content v);
      },
    )
