-- What a map ends as whose value is lent for writing by a call that may fail.
use Rattle.std.specs.Prelude.{◌≡◌, ℕ, List, Option, OnOk, OnErr, Result}
use Rattle.std.specs.Borrow.{MutBor, Fml, RattleType, follows_so, name_if_ok}
use Rattle.prost_reflect_wire.specs.Schema.{Field}
use Rattle.prost_reflect_fields.specs.FieldSlots.{with_value}
use Rattle.prost_reflect_fields.specs.Noted.{AreNoted}
use Rattle.prost_reflect_fields.specs.Sound.{prepared, KeepsOneofs}
use Rattle.prost_reflect_fields.specs.declared.slot.FieldSlot.{FieldSlot}

-- s ends as `written` says with the last value behind r, and as `ready` says where none was written; where the call failed, as `stays` says.
abbrev pub LendsOrStays : (R T : RattleType) → MutBor R.Denot → {E : Type 0} → Result (MutBor T.Denot) E
    → (R.Denot → T.Denot → Type 0)
    → (R.Denot → Type 0)
    → (R.Denot → Type 0)
    → Fml
LendsOrStays R T s r written ready stays =
    follows_so R T s.ghost_name (name_if_ok (λ x. x.ghost_name) r) (λ w n. OnOk r (written n w) × OnErr r (stays n)) (λ n. OnOk r (ready n) × OnErr r (stays n))

-- The slots are the wanted ones, their notes hold, and of each oneof at most one member has a value, if it was so of the old slots.
abbrev pub SlotsEndAs : {V : Type 0} → List Field → List (ℕ × FieldSlot V) → List (ℕ × FieldSlot V)
    → Option (List (ℕ × ℕ))
    → List (ℕ × FieldSlot V)
    → Type 0
SlotsEndAs fields old wanted notes new = (new ≡ wanted) × AreNoted fields notes new × KeepsOneofs fields old new

-- The value at n is lent, which is v where there was none. A failed call leaves the old slots.
abbrev pub LendsValue : (R V : RattleType) → MutBor R.Denot → {E : Type 0} → Result (MutBor V.Denot) E
    → (R.Denot → List (ℕ × FieldSlot V.Denot))
    → (R.Denot → Option (List (ℕ × ℕ)))
    → List Field
    → List (ℕ × FieldSlot V.Denot)
    → ℕ
    → V.Denot
    → Fml
LendsValue R V s r entries noted fields old n v =
    LendsOrStays R V s r (λ after w. SlotsEndAs fields old (with_value (prepared fields old n v) n w) (noted after) (entries after)) (λ after. SlotsEndAs fields old (prepared fields old n v) (noted after) (entries after)) (λ after. SlotsEndAs fields old old (noted after) (entries after))
