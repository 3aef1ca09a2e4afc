use Rattle.prost_reflect_dynamic.proofs.Common.{sym, subst, err_from_is_err_and, SameMessage, known_of, HasWholeOneofs, message_type_of}
use Rattle.prost_reflect_dynamic.proofs.MessageParts.{part_holds, part_fault, message_read}
use Rattle.prost_reflect_dynamic.proofs.message.DynamicMessage.read_into_part.Goals as goal

pub merge_records-requires : goal.merge_records-requires
merge_records-requires c =
    let whole = subst (λ d. HasWholeOneofs (known_of d) c.in_ok-numbers.numbers) c.message_type.ensures c.in_ok-numbers.ensures.whole in
    record { sound = part_holds c.in_ok-numbers.numbers c.args.self.now c.in_ok-part.part whole c.requires.sound c.in_ok-part.ensures.content }

pub replace_at-requires-clause-message_type : goal.replace_at-requires-clause-message_type
replace_at-requires-clause-message_type c = subst (SameMessage (message_type_of c.args.self.now)) (sym c.merge_records.ensures.message_type) c.in_ok-part.ensures.message_type

pub replace_at-requires-clause-whole : goal.replace_at-requires-clause-whole
replace_at-requires-clause-whole c = subst (λ d. HasWholeOneofs (known_of d) c.in_ok-numbers.numbers) c.message_type.ensures c.in_ok-numbers.ensures.whole

pub returns-clause-ok : goal.returns-clause-ok
returns-clause-ok c =
    let whole = subst (λ d. HasWholeOneofs (known_of d) c.in_ok-numbers.numbers) c.message_type.ensures c.in_ok-numbers.ensures.whole in
    message_read c.in_ok-numbers.numbers c.args.self.now c.in_ok-part.part whole c.requires.sound c.in_ok-part.ensures.content c.merge_records.new.self c.replace_at.new.self c.args.bytes.now c.in_ok-numbers.ensures.numbers c.in_ok-merge_records.ensures.ok c.in_ok-replace_at.ensures.content

pub returns-in_err-merge_records-clause-fault : goal.returns-in_err-merge_records-clause-fault
returns-in_err-merge_records-clause-fault c =
    let q = err_from_is_err_and c.from_residual-in_err-merge_records.result c.from_residual-in_err-merge_records.ensures.1 in
    let whole = subst (λ d. HasWholeOneofs (known_of d) c.in_ok-numbers.numbers) c.message_type.ensures c.in_ok-numbers.ensures.whole in
    rw (q.1, q.2) (λ ne. part_fault c.in_ok-numbers.numbers c.args.self.now c.in_ok-part.part whole c.requires.sound c.in_ok-part.ensures.content _ c.args.bytes.now (c.in_err-merge_records.ensures.fault ne))

pub returns-clause-typed : goal.returns-clause-typed
returns-clause-typed c = record { typed = λ typed. let stays = c.in_ok-replace_at.ensures.typed (c.in_ok-merge_records.ensures.typed.typed (c.in_ok-part.ensures.typed.typed typed)) in stays.typed typed }
