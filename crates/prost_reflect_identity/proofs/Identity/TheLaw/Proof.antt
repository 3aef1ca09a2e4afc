-- A reference to an identity is made of a borrow of it: what stands under its number is known for good, and the flag is opened by the
-- token of the thread. Assumes `Logic`.
use Rattle.std.proofs.Common.{ℕ, List, [], ◌∷◌}
use seplogic.Ra.Ura.{Ura}
use mir.Val.{Val}
use base.Fraction.{full_share}
use base.Stored.{Gv, coded_ℕ, coded×}
use base.Logic.{ent, sep, snd∗}
use base.Fml.{Lft, Share, Fml, fsep, fex, fres, fbor, flft}
use base.Before.{before}
use types.Logic.{Logic, sem}
use types.Kit.{‵, later, ◌$◌, ◌∵◌, !, qed, move, use1, fsplit, fjoin, fpick, fpack, await, updating, now, done}
use types.Tokens.{bor_open, obor_close, res_dup}
use types.Na.{na_bor, bor_na}
use denote.RattleType.{RattleType}
use denote.Memory.{cell_at, part_at, part_of}
use denote.Sharing.{ShrLaws, said}
use denote.SharingLaws.{beside_shr_laws}
use denote.Hidden.{guarded, guarded_shr_laws}
use denote.Param.Laws.{Laws}
use Rattle.core.proofs.cell.Borrows.{by_one}
use Rattle.prost_reflect_identity.specs.Ownership.{stands_under, is_alone, place_number}
use Rattle.prost_reflect_identity.specs.contracts.Identity as C
use Rattle.prost_reflect_identity.specs.contracts.Identity.TheInside as inside
use Rattle.prost_reflect_identity.proofs.Identity.TheLaw.Statement.{statement}

-- what stands under a number is for all who know it, at any lifetime
standing_shared : (number : ℕ) (code : Gv) → ShrLaws (said (fres number code))
standing_shared number code = record {
  contraction = λ M 𝓤 𝓛 κ. 𝓛.names.res_dup number code;
  mono = λ M 𝓤 𝓛 κ' κ. snd∗ 𝓤 (sem 𝓛 (before κ' κ)) (sem 𝓛 (fres number code));
}

module _ (T : RattleType) {M : Type 1} {𝓤 : Ura M} (𝓛 : Logic 𝓤) (identity : (C.the_written T).Denot) (block at : ℕ) (κ : Lft) where
  open 𝓛 use {H, A}

  abbrev F : RattleType
  F = inside.the_row T

  abbrev Lent : Fml
  Lent = part_at (C.the_written T) full_share identity block at

  abbrev Stands : Fml
  Stands = stands_under T.coded identity

  abbrev Alone : Fml
  Alone = is_alone T.coded identity

  lends : (q : Share) → ent 𝓤 (sep 𝓤 (A.bor κ Lent) (A.lft κ q)) (H.⇛ (sep 𝓤 (sem 𝓛 (fsep Stands (na_bor κ (identity.0.0, place_number block at) Lent))) (A.lft κ q)))
  unfolding part_of
  lends q = qed 𝓛 (‵ (fbor κ Lent) ∷ ‵ (flft κ q) ∷ []) ∵ updating ! $ bor_open ! tt $ move ! (1 ∷ []) $
      fpick ! (λ words. fsplit ! $ move ! (1 ∷ []) $ fpick ! (λ fields. fsplit ! $ move ! (1 ∷ []) $ fsplit ! $ res_dup ! $
      move ! (0 ∷ 2 ∷ []) $ fjoin ! $ move ! (2 ∷ 0 ∷ []) $ fjoin ! $ fpack ! F.Denot (λ j. fsep (F.own_val j words) Alone) fields $ move ! (2 ∷ 0 ∷ []) $ fjoin ! $
      fpack ! (List Val) (λ us. fsep (cell_at full_share F.mir us block at) (fex F.Denot (λ j. fsep (F.own_val j us) Alone))) words $ move ! (2 ∷ 0 ∷ []) $ obor_close ! tt $
      use1 𝓛 (later (‵ (na_bor κ (identity.0.0, place_number block at) Lent))) (bor_na 𝓛 κ (identity.0.0, place_number block at) Lent) $ await ! tt $ move ! (2 ∷ 0 ∷ []) $ fjoin ! $ now ! $ done !))

pub shares : (T : RattleType) (L : Laws T) → statement T L
unfolding part_of
shares T L = record {
  shr_laws = λ identity block at.
      let lent : Fml = part_at (C.the_written T) full_share identity block at in
      beside_shr_laws (said (stands_under T.coded identity)) (guarded (identity.0.0, place_number block at) lent) (standing_shared identity.0.0 ((coded× coded_ℕ T.coded).code (identity.0.1, identity.1))) (guarded_shr_laws (identity.0.0, place_number block at) lent);
  shares = λ M 𝓤 𝓛 identity κ ts block at inc sp.
      let lent : Fml = part_at (C.the_written T) full_share identity block at in
      by_one 𝓛 κ ts sp (𝓛.A.bor κ lent) (sem 𝓛 (fsep (stands_under T.coded identity) (na_bor κ (identity.0.0, place_number block at) lent))) (lends T 𝓛 identity block at κ);
}
