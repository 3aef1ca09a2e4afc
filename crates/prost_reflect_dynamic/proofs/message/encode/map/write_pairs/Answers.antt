use Rattle.std.specs.Prelude.{◌∷◌}
use Rattle.prost_reflect_dynamic.proofs.Common.{subst, adds_in_turn, MapKey, Value, field_row, TakesPairs}
use Rattle.prost_reflect_dynamic.proofs.WrittenMaps.{cut_pairs, takes_at}
use Rattle.prost_reflect_dynamic.proofs.message.encode.map.write_pairs.Goals as goal

pub write_pair-requires-clause-key : goal.write_pair-requires-clause-key
write_pair-requires-clause-key g c =
    let e : MapKey × Value = (c.in-Some.key.now, c.in-Some.value.now) in
    let cut = cut_pairs _ _ _ _ e c.loop-key.invariant.1 c.in-Some.ensures.steps in
    (takes_at (field_row c.args.key_field.now).kind (field_row c.args.value_field.now).kind _ _ e (subst (TakesPairs (field_row c.args.key_field.now).kind (field_row c.args.value_field.now).kind) cut c.requires)).0

pub write_pair-requires-clause-value : goal.write_pair-requires-clause-value
write_pair-requires-clause-value g c =
    let e : MapKey × Value = (c.in-Some.key.now, c.in-Some.value.now) in
    let cut = cut_pairs _ _ _ _ e c.loop-key.invariant.1 c.in-Some.ensures.steps in
    (takes_at (field_row c.args.key_field.now).kind (field_row c.args.value_field.now).kind _ _ e (subst (TakesPairs (field_row c.args.key_field.now).kind (field_row c.args.value_field.now).kind) cut c.requires)).1

pub loop-key-preserved : goal.loop-key-preserved
loop-key-preserved g c =
    let done = c.loop-key.invariant.0 in
    let e : MapKey × Value = (c.in-Some.key.now, c.in-Some.value.now) in
    (e ∷ done, cut_pairs _ _ _ _ e c.loop-key.invariant.1 c.in-Some.ensures.steps, adds_in_turn g.S.Sink.added _ _ _ _ _ c.loop-key.invariant.2 c.write_pair.ensures)
