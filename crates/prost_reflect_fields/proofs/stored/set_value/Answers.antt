use Rattle.prost_reflect_fields.proofs.Common.{sym, subst, ◌∙◌, on_ok_weaker, known_of, OneofsSingle}
use Rattle.prost_reflect_fields.proofs.NotedMembers.{set_alone, noted_alone, noted_after}
use Rattle.prost_reflect_maps.proofs.Results.{either}
use Rattle.prost_reflect_fields.proofs.Siblings.{known_differ}
use Rattle.prost_reflect_fields.proofs.SoundChanges.{single_set}
use Rattle.prost_reflect_fields.proofs.stored.set_value.Goals as goal

pub returns-in-None-clause-ok : goal.returns-in-None-clause-ok
returns-in-None-clause-ok g c =
    on_ok_weaker c.put_value.result (λ is. is ∙ set_alone (known_of c.args.message_type.now) (g.S.NumberMap.entries c.args.fields.now) c.args.number c.args.value (known_differ c.args.message_type.now) (sym c.in-None.is ∙ c.requires.oneof)) c.put_value.ensures.ok

pub returns-in-None-clause-noted : goal.returns-in-None-clause-noted
returns-in-None-clause-noted g c =
    let fields = known_of c.args.message_type.now in
    let es = g.S.NumberMap.entries c.args.fields.now in
    let noted = g.S.NumberMap.noted c.args.fields.now in
    either c.put_value.result c.put_value.ensures.ok c.put_value.ensures.err
    (λ is. noted_after fields is c.put_value.ensures.noted (noted_alone fields noted es c.args.number c.args.value (sym c.in-None.is ∙ c.requires.oneof) c.requires.noted))
    (λ is. noted_after fields is c.put_value.ensures.noted c.requires.noted)

pub returns-in-None-clause-single : goal.returns-in-None-clause-single
returns-in-None-clause-single g c before =
    let fields = known_of c.args.message_type.now in
    let es = g.S.NumberMap.entries c.args.fields.now in
    either c.put_value.result (returns-in-None-clause-ok g c) c.put_value.ensures.err
    (λ is. subst (OneofsSingle fields) (sym is) (single_set fields es c.args.number c.args.value c.put_value.ensures.ascending (known_differ c.args.message_type.now) before))
    (λ is. subst (OneofsSingle fields) (sym is) before)

pub returns-in-Some-clause-single : goal.returns-in-Some-clause-single
returns-in-Some-clause-single g c before =
    let fields = known_of c.args.message_type.now in
    let es = g.S.NumberMap.entries c.args.fields.now in
    either c.set_in_oneof.result c.set_in_oneof.ensures.ok c.set_in_oneof.ensures.err
    (λ is. subst (OneofsSingle fields) (sym is) (single_set fields es c.args.number c.args.value c.set_in_oneof.ensures.ascending (known_differ c.args.message_type.now) before))
    (λ is. subst (OneofsSingle fields) (sym is) before)
