-- The flag of an identity is had through a reference while the token of the thread is without the identity's key, and is given back
-- for it, whatever it is then. Assumes `Logic`.
use Rattle.std.proofs.Common.{◌≡◌, ℕ, List, [], ◌∷◌, refl, Bool, true}
use seplogic.Ra.Ura.{Ura}
use mir.Val.{Val}
use base.Fraction.{full_share}
use base.Logic.{sep, wand, apply∗}
use base.Fml.{Lft, Key, Mask, Share, Fml, Incl-refl, fsep, fex, fat, flft, ftok}
use base.Mask.{less}
use types.Logic.{Logic, sem}
use types.Kit.{Item, Goal, Seq, Step, Soaks, step, ‵, raw, ◌⊛◌, later, ◌$◌, move, use0, use2, use3, split, join, fsplit, fjoin, fpick, fpack, rewrite, await}
use types.Na.{na_bor, na_acc_in}
use denote.RattleType.{RattleType}
use denote.Memory.{cell_at}
use denote.Shadow.{pure_l}
use Rattle.prost_reflect_identity.specs.Ownership.{is_alone, place_number, fields_at}
use Rattle.prost_reflect_identity.specs.contracts.Identity.TheInside as inside
use Rattle.prost_reflect_identity.proofs.Flags.{flag_type, flag_word, owns_flag, flag_shown, flag_made}

module _ (T : RattleType) (identity : (ℕ × ℕ) × T.Denot) (block at : ℕ) where
  abbrev F : RattleType
  F = inside.the_row T

  -- what is borrowed behind a reference
  abbrev pub Lent : Fml
  Lent = fields_at F T.coded identity block at

  abbrev pub key : Key
  key = (identity.0.0, place_number block at)

  abbrev flag_at : Bool → Fml
  flag_at flag = fat full_share flag_type block at (flag_word flag)

  -- the way back: what was borrowed, for the share of its lifetime and the whole token
  abbrev Back : {M : Type 1} {𝓤 : Ura M} (𝓛 : Logic 𝓤) → Lft → Share → Mask → Item 𝓤
  Back {𝓤 = 𝓤} 𝓛 κ q E = raw (wand 𝓤 (sep 𝓤 (sem 𝓛 Lent) (𝓛.A.tok (less E key))) (𝓛.H.⇛ (sep 𝓤 (𝓛.A.lft κ q) (𝓛.A.tok E))))

  module _ {M : Type 1} {𝓤 : Ura M} {𝓛 : Logic 𝓤} {K : Type 0} {Γ : List (Item 𝓤)} {G : Goal 𝓤 𝓛.H} where
    open 𝓛 use {H, A}

    pub opens_flag : K → Soaks G → {κ : Lft} {q : Share} (E : Mask) → E key ≡ true
        → ((flag : Bool) → Seq K 𝓛 (‵ (flag_at flag) ∷ ‵ (is_alone T.coded identity) ∷ ‵ (ftok (less E key)) ∷ Back 𝓛 κ q E ∷ Γ) G)
        → Seq K 𝓛 (‵ (na_bor κ key Lent) ∷ ‵ (flft κ q) ∷ ‵ (ftok E) ∷ Γ) G
    opens_flag t soaks {κ} {q} E has rest =
        use3 𝓛 (later (‵ Lent ⊛ ‵ (ftok (less E key)) ⊛ Back 𝓛 κ q E)) (na_acc_in 𝓛 κ ((κ, q) ∷ []) E key Lent (Incl-refl κ) has) $ await t soaks $ split t $
        fpick t (λ words. fsplit t $ move t (1 ∷ []) $ fpick t (λ fields. fsplit t $ pure_l t (owns_flag fields.flag words) (λ shown.
        rewrite t 1 (λ (us : List Val). ‵ (cell_at full_share F.mir us block at)) (flag_shown fields.flag words shown) refl $ move t (2 ∷ []) $ split t $ move t (3 ∷ 2 ∷ []) $ rest fields.flag)))

    pub closes_flag : K → Soaks G → {κ : Lft} {q : Share} (E : Mask) (flag : Bool)
        → Step K 𝓛 (‵ (flft κ q) ∷ ‵ (ftok E) ∷ Γ) G (‵ (flag_at flag) ∷ ‵ (is_alone T.coded identity) ∷ ‵ (ftok (less E key)) ∷ Back 𝓛 κ q E ∷ Γ) G
    closes_flag t soaks {κ} {q} E flag = step (λ rest.
        let words : List Val = flag_word flag ∷ [] in
        let fields : F.Denot = record { flag = flag; marker = record {} } in
        move t (1 ∷ []) $ use0 𝓛 (‵ (F.own_val fields words)) (flag_made 𝓛 flag) $ fjoin t $
        fpack t F.Denot (λ j. fsep (F.own_val j words) (is_alone T.coded identity)) fields $ move t (1 ∷ 0 ∷ []) $ fjoin t $
        fpack t (List Val) (λ us. fsep (cell_at full_share F.mir us block at) (fex F.Denot (λ j. fsep (F.own_val j us) (is_alone T.coded identity)))) words $ join t $
        use2 𝓛 (later (‵ (flft κ q) ⊛ ‵ (ftok E))) (apply∗ 𝓤 (sep 𝓤 (sem 𝓛 Lent) (A.tok (less E key))) (H.⇛ (sep 𝓤 (A.lft κ q) (A.tok E)))) $ await t soaks $ split t $ rest)
