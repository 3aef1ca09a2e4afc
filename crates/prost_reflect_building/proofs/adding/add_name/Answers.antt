use Rattle.std.specs.Prelude.{◌≡◌}
use Rattle.prost_reflect_building.proofs.Common.{not, true, false, length, nat_eq, string_bytes, ap, sym, ◌∙◌, text_or_empty, is_unnamed, unnamed_new, name_new, name_more, no_length}
use Rattle.std.proofs.lemmas.Map.Text.{btree_set_updates_text}
use Rattle.prost_reflect_building.proofs.adding.add_name.Goals as goal

pub returns-then-is_empty-clause-new : goal.returns-then-is_empty-clause-new
returns-then-is_empty-clause-new c = λ files h. sym (ap not (unnamed_new files c.args.file.now (sym c.text_or_empty-name.ensures ∙ no_length _ (sym c.if-is_empty.ensures))))

pub returns-clause-new : goal.returns-clause-new
returns-clause-new c =
    let key : string_bytes c.in_ok-from_str.field-0 ≡ text_or_empty c.args.file.now.name = c.in_ok-from_str.ensures.ok ∙ c.text_or_empty-name.ensures in
    λ files h. name_new files c.args.file.now c.args.names.now (string_bytes c.in_ok-from_str.field-0) _ key c.in_ok-insert.ensures.added h

pub returns-clause-names : goal.returns-clause-names
returns-clause-names c =
    let key : string_bytes c.in_ok-from_str.field-0 ≡ text_or_empty c.args.file.now.name = c.in_ok-from_str.ensures.ok ∙ c.text_or_empty-name.ensures in
    let named : is_unnamed c.args.file.now.name ≡ false = ap (λ l. nat_eq (length l) 0) (sym c.text_or_empty-name.ensures) ∙ (sym c.is_empty.ensures ∙ c.if-is_empty.false) in
    λ files h. name_more files c.args.file.now c.args.names.now _ (string_bytes c.in_ok-from_str.field-0) key named
    (btree_set_updates_text (string_bytes c.in_ok-from_str.field-0) c.args.names.now _ true c.in_ok-insert.ensures.updates) h
