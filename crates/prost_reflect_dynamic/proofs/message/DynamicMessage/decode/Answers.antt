use Rattle.prost_reflect_dynamic.proofs.Common.{err_from_is_err_and, LEVEL_LIMIT, bytes_below, kept, content_of, schema_named, type_named}
use Rattle.prost_reflect_laws.proofs.FaultLaws.{accepted_only_memory}
use Rattle.prost_reflect_laws.proofs.Progressing.{progress_decoded, progress_accepts}
use Rattle.prost_reflect_dynamic.proofs.ReadBack.{decoded_again, named_valid}
use Rattle.prost_reflect_dynamic.proofs.message.DynamicMessage.decode.Goals as goal

pub returns-clause-means : goal.returns-clause-means
returns-clause-means c = progress_decoded _ _ _ _ _ (rw c.new-message.ensures.content at c.in_ok-merge_records.ensures.ok)

pub returns-clause-accepts : goal.returns-clause-accepts
returns-clause-accepts c = progress_accepts _ _ _ _ _ (rw c.new-message.ensures.content at c.in_ok-merge_records.ensures.ok)

pub returns-in_err-merge_records-clause-accepted : goal.returns-in_err-merge_records-clause-accepted
returns-in_err-merge_records-clause-accepted c = let q = err_from_is_err_and c.from_residual.result c.from_residual.ensures.1 in
    rw (q.1, q.2) (λ accepted. accepted_only_memory (schema_named c.args.descriptor) LEVEL_LIMIT (type_named c.args.descriptor) c.args.bytes.now (bytes_below _ c.type_inv.bytes) accepted _ (rw c.new-message.ensures.content at c.in_err-merge_records.ensures.fault))

pub returns-clause-again : goal.returns-clause-again
returns-clause-again c = λ l. decoded_again (schema_named c.args.descriptor) (type_named c.args.descriptor) c.args.bytes.now (kept (content_of c.merge_records.new.self)) (bytes_below _ c.type_inv.bytes) (named_valid c.args.descriptor)
    (progress_decoded _ _ _ _ _ (rw c.new-message.ensures.content at c.in_ok-merge_records.ensures.ok)) l

pub returns-clause-typed : goal.returns-clause-typed
returns-clause-typed c = c.in_ok-merge_records.ensures.typed.typed c.new-message.ensures.typed

pub returns-in_err-merge_records-clause-fault : goal.returns-in_err-merge_records-clause-fault
returns-in_err-merge_records-clause-fault c = let q = err_from_is_err_and c.from_residual.result c.from_residual.ensures.1 in
    rw (q.1, q.2) (rw c.new-message.ensures.content at c.in_err-merge_records.ensures.fault)

pub returns-clause-message_type : goal.returns-clause-message_type
returns-clause-message_type c = rw c.in_ok-merge_records.ensures.message_type c.new-message.ensures.message_type
