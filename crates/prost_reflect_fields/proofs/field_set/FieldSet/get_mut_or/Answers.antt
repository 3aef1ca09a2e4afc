use Rattle.std.specs.Prelude.{◌≡◌}
use Rattle.prost_reflect_fields.proofs.Common.{◌∙◌, ap, true, ℕ, List, inr, sym, subst, Ok, Err, Result, Some, PooledType, FieldSlot, stored_at, with_value, IsAscending, known_of, is_known, Sound, prepared}
use mathlib.Core.Option.{some}
use borrow.Follows.Closed.{read_of}
use Rattle.std.specs.Borrow.{MutBor, name_if_ok}
use Rattle.std.specs.Result.{OnOk, OnErr, IfOk}
use Rattle.prost_reflect_fields.proofs.Siblings.{known_differ}
use Rattle.prost_reflect_fields.proofs.SoundChanges.{sound_written, sound_prepared}
use Rattle.prost_reflect_maps.proofs.Results.{either}
use Rattle.prost_reflect_fields.proofs.field_set.FieldSet.get_mut_or.Goals as goal

pub invariant_of-self-lent : goal.invariant_of-self-lent
invariant_of-self-lent g c =
    let inside = c.self.inside in
    let fields = known_of inside.message_type in
    let n = c.args.number in
    let known = subst (λ m. is_known (known_of m.0) n ≡ true) (sym c.self.view_is) (subst (λ m. is_known (known_of m.0) n ≡ true) (sym c.note_members.ensures) c.requires) in
    let ready = sound_prepared fields inside.fields.0 n c.args.default c.value_mut_or.ensures.ascending (known_differ inside.message_type) known c.self.invariant.0 in
    λ r. (
      λ w.
          let holds = c.value_mut_or.follows.holds w in
          either c.value_mut_or.result holds.0 holds.1
          (λ is. (subst (Sound fields) (sym is.0) (sound_written fields (prepared fields inside.fields.0 n c.args.default) n w ready), is.1))
          (λ is. (subst (Sound fields) (sym is.0) c.self.invariant.0, is.1)),
      (
          let still = c.value_mut_or.follows.holds-at-none in
          either c.value_mut_or.result still.0 still.1 (λ is. (subst (Sound fields) (sym is.0) ready, is.1)) (λ is. (subst (Sound fields) (sym is.0) c.self.invariant.0, is.1))
          ),
    )

-- what follows the lent value through a pairing
agree : {T D L X : Type 0} {Q : T → Type 0} (P K : T → Type 0) (S U : Type 0) (r : Result (MutBor T) X) (pair : L → D) (lender put : T → L) (rest old : L) (written : T → D) (now : D) → ((w : T) → OnOk r ((lender w ≡ put w) × P w × K w) × Q w) → OnErr r ((rest ≡ old) × S × U)
    → ((w : T) → pair (put w) ≡ written w) → pair old ≡ now → read_of (name_if_ok (λ x. x.ghost_name) r) (λ w. pair (lender w)) (pair rest) ≡ read_of (name_if_ok (λ x. x.ghost_name) r) written now
agree P K S U (Ok x) pair lender put rest old written now holds stays is same = λ i. read_of (some x.ghost_name) (λ w. (ap pair (holds w).0.0 ∙ is w) i) now
agree P K S U (Err e) pair lender put rest old written now holds stays is same = ap inr (ap pair stays.0 ∙ same)

pub returns : goal.returns
returns g c =
    let inside = c.self.inside in
    let fields = known_of inside.message_type in
    let n = c.args.number in
    let default = c.args.default in
    let lent = c.value_mut_or.ensures in
    let whole : List (ℕ × FieldSlot g.row.V.Denot) → PooledType × List (ℕ × FieldSlot g.row.V.Denot) = λ es. (inside.message_type, es) in
    let put : g.row.V.Denot → PooledType × List (ℕ × FieldSlot g.row.V.Denot) → PooledType × List (ℕ × FieldSlot g.row.V.Denot) = λ w m. (m.0, with_value (prepared (known_of m.0) m.1 n default) n w) in
    let before = inside.fields.0 in
    let viewed : whole before ≡ c.args.self.now = c.self.view_is ∙ c.note_members.ensures in (
      agree _ _ _ _ c.value_mut_or.result whole (λ w. (c.value_mut_or.follows.lender w).0) (λ w. with_value (prepared fields before n default) n w) c.value_mut_or.follows.lender-at-none.0 before (λ w. put w c.args.self.now) c.args.self.now
          c.value_mut_or.follows.holds c.value_mut_or.follows.holds-at-none.1 (λ w. ap (put w) viewed) viewed,
      record {
        writes_back = tt;
        value = subst (λ (m : PooledType × List (ℕ × FieldSlot g.row.V.Denot)). IfOk c.value_mut_or.result (λ v. stored_at (prepared (known_of m.0) m.1 n default) n ≡ Some v.now)) viewed lent.value;
        ascending = subst (λ (m : PooledType × List (ℕ × FieldSlot g.row.V.Denot)). IsAscending m.1) viewed lent.ascending;
        sound = subst (λ (m : PooledType × List (ℕ × FieldSlot g.row.V.Denot)). Sound (known_of m.0) m.1) viewed c.self.invariant.0;
      },
    )
