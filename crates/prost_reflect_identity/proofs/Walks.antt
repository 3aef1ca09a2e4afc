-- A function is proved with the token of its thread in hand, which the caller has and gets back. Assumes `Logic`.
use Rattle.std.proofs.Common.{ℕ, zero, suc, List, [], ◌∷◌, subst}
use seplogic.Ra.Ura.{Ura}
use mir.Syntax.{Fn, Callee}
use base.Logic.{SProp, ent, via, fst∗, snd∗}
use base.Mask.{every}
use prog.Wp.{Calls, Loops, WpFn, Tables}
use prog.Model.{Model}
use prog.Routine.{over, ◌≼⁺◌}
use types.Logic.{Logic, sem}
use contract.Monad.{fact_use}
use contract.Running.{Running, tables_of, bare_tables}
use contract.Beside.{Carries}
use contract.Named.{bare_unfolds}
use sound.WpLaws.{WpFn-mono}
use denote.RattleType.{owns}
use denote.Laws.{Ises, Are, owns_show, showss}
use denote.Builtin.{unit}
use denote.Signature.{Signature, Slot, plain, types_at}
use denote.Triple.Clauses.{Ended, Clauses, closing}
use denote.Triple.Entry.{on_entry, alive}
use denote.Triple.Spec.{Meets, triple_of}
use denote.Triple.Table.{entered}
use denote.Triple.Handed.{holding, hands}
use denote.Triple.Walked.{Stays, AllGo, walk_of, walk_Meets}

-- the parameter at a place
abbrev pub parameter : {n : ℕ} → ℕ → List (Slot n) → Slot n
parameter k [] = plain (λ _. unit)
parameter zero (slot ∷ slots) = slot
parameter (suc k) (slot ∷ slots) = parameter k slots

module _ {M : Type 1} {𝓤 : Ura M} (𝓛 : Logic 𝓤) (T : Ended) (stays : Stays T.signature.params T.kept) (clauses : Clauses 𝓤 T) where
  open 𝓛 use {H, A}

  abbrev S : Signature
  S = T.signature

  -- the clauses, with the token among what is required and what is ensured
  abbrev pub with_token : Clauses 𝓤 T
  with_token = holding 𝓤 T (A.tok every) clauses

  pub proved_with_token : (𝓜 : Model 𝓤 H) (𝓡 : Running 𝓤 H 𝓜) → AllGo 𝓛 S.lifetimes S.params T.kept stays → (k : Callee) (fn : Fn) → over 𝓡.env fn ≼⁺ 𝓡.env k
      → ((C : Calls 𝓤 H) (Λ : Loops 𝓤 H) (y : (walk_of 𝓛 T stays with_token).Ghost) → Are (types_at S.params y.0.0) (Ises (types_at S.params y.0.0)) y.0.3 y.0.4
      → ent 𝓤 ((walk_of 𝓛 T stays with_token).pre y) (WpFn 𝓤 H C Λ fn ((walk_of 𝓛 T stays with_token).args y) ((walk_of 𝓛 T stays with_token).post y)))
      → Meets 𝓛 S (𝓡.run (𝓡.env k)) (closing 𝓛 T clauses)
  unfolding tables_of
  proved_with_token 𝓜 𝓡 go k fn is walk =
      let carries : Carries 𝓤 H 𝓜 (A.tok every) = subst (Carries 𝓤 H 𝓜) 𝓛.turn_is 𝓡.carries in
      let 𝓣 : Tables 𝓤 H = tables_of 𝓤 H carries.inner (bare_tables 𝓤 H carries.inner 𝓡.allowed 𝓡.how 𝓡.env) in
      let W = walk_of 𝓛 T stays with_token in
      let walked : (y : W.Ghost) → ent 𝓤 (W.pre y) (WpFn 𝓤 H 𝓣.C 𝓣.Λ fn (W.args y) (W.post y)) = λ y.
      let Rs = types_at S.params y.0.0 in
      let entry : SProp 𝓤 = on_entry 𝓛 S y.0.0 y.0.1 y.0.3 y.0.4 in
      let owned = via 𝓤 entry (fst∗ 𝓤 entry ((with_token y.0.0 y.0.3).requires y.1)) (snd∗ 𝓤 (alive 𝓛 S y.0.0 y.0.1) (sem 𝓛 (owns Rs y.0.3 y.0.4))) in
      fact_use 𝓤 (Are Rs (Ises Rs) y.0.3 y.0.4) (via 𝓤 (sem 𝓛 (owns Rs y.0.3 y.0.4)) owned (owns_show 𝓛 Rs (Ises Rs) (showss 𝓛 Rs) y.0.3 y.0.4)) (walk 𝓣.C 𝓣.Λ y) in
      hands 𝓛 T (A.tok every) clauses 𝓜 carries 𝓡 (𝓡.env k)
      (entered 𝓤 H (triple_of 𝓛 S (closing 𝓛 T with_token)) 𝓣.C 𝓣.Λ k fn (bare_unfolds 𝓤 H carries.inner 𝓡.allowed 𝓡.how 𝓡.env k fn is)
      (walk_Meets 𝓛 T stays go with_token (WpFn 𝓤 H 𝓣.C 𝓣.Λ fn) (WpFn-mono 𝓤 H 𝓛.laws 𝓣 fn) walked))
