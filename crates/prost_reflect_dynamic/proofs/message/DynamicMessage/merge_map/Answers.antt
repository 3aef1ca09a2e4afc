use Rattle.prost_reflect_dynamic.proofs.Common.{sym, ap, inr, ◌∙◌, err_from_is_err_and, bytes_below, PooledType, pool_rows, is_stray_number, value_of, message_type_of}
use Rattle.prost_reflect_dynamic.proofs.MapMerging.{mapped_in, key_found, entry_set, entry_stray, body_fault, entry_fault}
use Rattle.prost_reflect_dynamic.proofs.TypedValues.{scalar_entry}
use Rattle.prost_reflect_dynamic.proofs.message.DynamicMessage.merge_map.Goals as goal

pub returns-in_err-body-clause-fault : goal.returns-in_err-body-clause-fault
returns-in_err-body-clause-fault c = let p = err_from_is_err_and c.from_residual.result c.from_residual.ensures.1 in
    rw (p.1, p.2) (λ ne. body_fault c.args.self.now _ _ _ c.requires.field _ _ _ _ c.in_err-body.ensures.fault)

pub returns-in_err-key-clause-fault : goal.returns-in_err-key-clause-fault
returns-in_err-key-clause-fault c = let p = err_from_is_err_and c.from_residual-in_err-key.result c.from_residual-in_err-key.ensures.1 in
    rw (p.1, p.2) (λ ne. entry_fault c.args.self.now _ _ _ c.requires.field _ _ _ _ _ _ c.in_ok-body.ensures.ok.0 c.in_ok-body.ensures.ok.1 (rw c.message_type.ensures at c.in_err-key.ensures.fault ne))

pub merge_unknown-requires-clause-unknown : goal.merge_unknown-requires-clause-unknown
merge_unknown-requires-clause-unknown c =
    let test = λ (d : PooledType). is_stray_number (pool_rows d.pool).enums c.args.kinds.1 (value_of c.in_ok-key.value) in
    inr (entry_stray c.args.self.now _ _ _ c.requires.field _ _ c.in_ok-key.key c.in_ok-key.value _ _ _ (bytes_below _ c.type_inv.bytes) (rw c.message_type.ensures at c.in_ok-key.ensures.ok) c.in_ok-body.ensures.ok.0 c.in_ok-body.ensures.ok.1
    (ap test (sym c.message_type-2.ensures) ∙ sym c.is_stray.ensures ∙ c.if-is_stray.true))

pub map_key-requires : goal.map_key-requires
map_key-requires c = key_found c.args.self.now _ _ _ c.requires.field _ _ c.in_ok-key.value _ _ _ (rw c.message_type.ensures at c.in_ok-key.ensures.ok) (bytes_below _ c.type_inv.bytes) c.in_ok-body.ensures.ok.1

pub put_entry-requires-clause-mapped : goal.put_entry-requires-clause-mapped
put_entry-requires-clause-mapped c = rw c.get.ensures.value (mapped_in c.args.self.now _ _ _ c.requires.field c.requires.sound)

pub returns-clause-ok : goal.returns-clause-ok
returns-clause-ok c =
    let test = λ (d : PooledType). is_stray_number (pool_rows d.pool).enums c.args.kinds.1 (value_of c.in_ok-key.value) in
    entry_set c.args.self.now _ _ _ c.requires.field _ _ c.in_ok-key.key c.in_ok-key.value _ _ _ (bytes_below _ c.type_inv.bytes) (rw c.message_type.ensures at c.in_ok-key.ensures.ok) c.in_ok-body.ensures.ok.0 c.in_ok-body.ensures.ok.1
    c.put_entry.new.self c.map_key.result c.requires.sound (ap test (sym c.message_type-2.ensures) ∙ sym c.is_stray.ensures ∙ c.if-is_stray.false) c.map_key.ensures (rw c.get.ensures.value at c.in_ok-put_entry.ensures.content)

pub returns-clause-typed : goal.returns-clause-typed
returns-clause-typed c = c.in_ok-put_entry.ensures.typed (scalar_entry (message_type_of c.args.self.now) c.get.result c.in_ok-key.value c.in_ok-key.ensures.ok.value_read c.in_ok-key.ensures.ok.value_is)
