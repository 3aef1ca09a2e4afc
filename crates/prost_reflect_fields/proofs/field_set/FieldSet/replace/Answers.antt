use Rattle.std.specs.Prelude.{◌≡◌}
use Rattle.prost_reflect_fields.proofs.Common.{ℕ, List, sym, ◌∙◌, ap, subst, PooledType, FieldSlot, known_of, AreNoted, Sound, HasWholeOneofs}
use Rattle.prost_reflect_fields.proofs.Siblings.{known_differ}
use Rattle.prost_reflect_fields.proofs.Replaced.{sound_replaced}
use Rattle.prost_reflect_maps.proofs.Results.{either_both}
use Rattle.prost_reflect_fields.proofs.field_set.FieldSet.replace.Goals as goal

pub invariant_of-self : goal.invariant_of-self
invariant_of-self g c =
    let inside = c.self.inside in
    let others = c.others.inside in
    let fields = known_of inside.message_type in
    let known : PooledType × List (ℕ × FieldSlot g.row.V.Denot) → Type 0 = λ m. HasWholeOneofs (known_of m.0) c.args.numbers.now in
    let same : known_of others.message_type ≡ fields =
    ap (λ (m : PooledType × List (ℕ × FieldSlot g.row.V.Denot)). known_of m.0) c.others.view_is ∙ c.requires.message_type ∙ sym (ap (λ (m : PooledType × List (ℕ × FieldSlot g.row.V.Denot)). known_of m.0) c.self.view_is) in
    either_both c.replace.result c.replace.ensures.ok c.replace.ensures.notes c.replace.ensures.err
    (λ replaced none. (
      sound_replaced c.args.numbers.now inside.fields.0 others.fields.0 c.replace.new.self.0 replaced fields (known_differ inside.message_type) (subst known (sym c.self.view_is) c.requires.whole) c.self.invariant.0
          (subst (λ known. Sound known others.fields.0) same c.others.invariant.0),
      subst (λ notes. AreNoted fields notes c.replace.new.self.0) (sym none) tt,
    ))
    (λ is. subst (λ held. Sound fields held.0 × AreNoted fields held.1 held.0) (sym is) c.self.invariant)
