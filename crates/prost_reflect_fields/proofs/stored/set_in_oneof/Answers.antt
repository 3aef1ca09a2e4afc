use Rattle.prost_reflect_fields.proofs.Common.{ap, sym, subst, ◌∙◌, IsAscending, put_item, put_value, known_of, AreNoted, without_noted}
use Rattle.prost_reflect_fields.proofs.NotedMembers.{set_noted, noted_set, noted_kept}
use Rattle.prost_reflect_fields.proofs.Siblings.{known_differ}
use Rattle.prost_reflect_fields.proofs.stored.set_in_oneof.Goals as goal

pub returns-in-Some-clause-ok : goal.returns-in-Some-clause-ok
returns-in-Some-clause-ok g c =
    let es = g.S.NumberMap.entries c.args.fields.now in
    let fields = known_of c.args.message_type.now in
    let n = c.args.number in
    let same = c.take_notes-notes.ensures.entries in
    let noted = subst (λ q. AreNoted fields q es) (sym c.in-Some.ensures.notes) c.requires.noted in
    let ascending = subst IsAscending same c.put_value.ensures.ascending in
    c.note.ensures.entries
    ∙ c.clear_noted.ensures.cleared
    ∙ ap (λ ds. without_noted ds n c.copied.result) (c.in_ok-put_value.ensures.ok ∙ ap (λ ds. put_value ds n c.args.value) same)
    ∙ set_noted fields c.in-Some.notes.entries es c.args.oneof n c.args.value ascending (known_differ c.args.message_type.now) c.requires.oneof noted c.copied.result (c.copied.ensures ∙ c.get.ensures.value)

pub returns-in-Some-clause-noted : goal.returns-in-Some-clause-noted
returns-in-Some-clause-noted g c =
    let es = g.S.NumberMap.entries c.args.fields.now in
    let fields = known_of c.args.message_type.now in
    let n = c.args.number in
    let same = c.take_notes-notes.ensures.entries in
    let noted = subst (λ q. AreNoted fields q es) (sym c.in-Some.ensures.notes) c.requires.noted in
    let ascending = subst IsAscending same c.put_value.ensures.ascending in
    let none = c.clear_noted.ensures.noted ∙ c.put_value.ensures.noted ∙ c.take_notes-notes.ensures.left in
    let is = returns-in-Some-clause-ok g c in
    subst (AreNoted fields (g.S.NumberMap.noted c.note.new.fields)) (sym is)
    (noted_kept fields (g.S.NumberMap.noted c.note.new.fields) (put_item c.in-Some.notes.entries c.args.oneof n) _ (c.note.ensures.noted none)
    (noted_set fields c.in-Some.notes.entries es c.args.oneof n c.args.value ascending (known_differ c.args.message_type.now) c.requires.oneof noted))
