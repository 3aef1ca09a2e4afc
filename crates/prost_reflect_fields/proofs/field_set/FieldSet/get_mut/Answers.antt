use Rattle.std.specs.Prelude.{◌≡◌}
use Rattle.std.specs.Option.{ghost_name_of}
use Rattle.std.proofs.Common.{rules}
use borrow.Follows.Closed.{read_of}
use Rattle.prost_reflect_fields.proofs.Common.{◌∙◌, ap, ℕ, List, sym, subst, PooledType, FieldSlot, with_value, known_of, Sound}
use Rattle.prost_reflect_fields.proofs.NotedMembers.{noted_after, noted_written}
use Rattle.prost_reflect_fields.proofs.SoundChanges.{sound_written}
use Rattle.prost_reflect_fields.proofs.field_set.FieldSet.get_mut.Goals as goal

pub invariant_of-self-lent : goal.invariant_of-self-lent
invariant_of-self-lent g c =
    let inside = c.self.inside in
    let fields = known_of inside.message_type in
    let n = c.args.number in
    λ o. (
      λ w.
          let holds = c.value_mut.follows.holds w in (
            subst (Sound fields) (sym holds.0) (sound_written fields inside.fields.0 n w c.self.invariant.0),
            noted_after fields holds.0 holds.1 (noted_written fields inside.fields.1 inside.fields.0 n w c.self.invariant.1),
          ),
      (let still = c.value_mut.follows.holds-at-none in (subst (Sound fields) (sym still.0) c.self.invariant.0, noted_after fields still.0 still.1 c.self.invariant.1)),
    )

pub returns : goal.returns
returns g c =
    let inside = c.self.inside in
    let n = c.args.number in
    let whole : List (ℕ × FieldSlot g.row.V.Denot) → PooledType × List (ℕ × FieldSlot g.row.V.Denot) = λ es. (inside.message_type, es) in
    let put : g.row.V.Denot → PooledType × List (ℕ × FieldSlot g.row.V.Denot) → PooledType × List (ℕ × FieldSlot g.row.V.Denot) = λ w m. (m.0, with_value m.1 n w) in
    let viewed : whole inside.fields.0 ≡ c.args.self.now = c.self.view_is in (
      (λ i. read_of (ghost_name_of c.value_mut.result) (λ w. (ap whole (c.value_mut.follows.holds w).0 ∙ ap (put w) viewed) i) ((ap whole c.value_mut.follows.holds-at-none.0 ∙ viewed) i)),
      record { writes_back = tt; value = search rules; ascending = search rules; sound = search rules },
    )
