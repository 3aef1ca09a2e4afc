-- `of` takes a number to have alone, and one more, under which that number and the value stand for good. Assumes `Logic`.
use Rattle.std.proofs.Common.{◌≡◌, ℕ, List, [], ◌∷◌, ◌++◌, refl, false}
use mir.Syntax.{Fn, Args, a_type}
use mir.Val.{Val, vptr}
use mir.MapTy.{inst_fn}
use base.Logic.{SProp, emp}
use base.Stored.{Coded, coded_ℕ, coded×}
use base.Fml.{ftrue, fsep, fres}
use prog.Wp.{Env, WpFn}
use contract.BorrowLft.{◌⊑◌}
use contract.Monad.{fact, fact_i}
use contract.Running.{tables}
use types.Kit.{‵, raw, ◌⊛◌, prop, ◌$◌, ◌∵◌, !, qed, by, move, drop, use0, use1, split, regoal, fjoin, fpack}
use types.Tokens.{name_new}
use types.Part.{agg}
use types.Run.{false_lit, no_more, and_then, returns, enter}
use types.ByLocal.{alloc_all, pass_all, free_all, look_at, get, sets, env}
use denote.RattleType.{RattleType, owns}
use denote.Param.{layouts}
use denote.Laws.{Typed}
use denote.Signature.{types_at}
use denote.Steps.{nothing, heard}
use denote.Triple.Entry.{alive}
use denote.Triple.Walked.{Stays, AllGo, stay_dropped, walk_of, Goes-dropped}
use Rattle.std.proofs.raw_atomic.Walks.{proved_at, leaves}
use Rattle.prost_reflect_identity.proofs.Walks.{parameter}
use Rattle.prost_reflect_identity.proofs.Flags.{flag_word, owns_flag, flag_made, flag_typed}
use Rattle.prost_reflect_identity.specs.Ownership.{is_alone}
use Rattle.prost_reflect_identity.specs.contracts.Identity.TheInside as inside
use Rattle.prost_reflect_identity.specs.contracts.Identity.of.{ended, clauses}
use Rattle.prost_reflect_identity.specs.contracts.Identity.of.Key.{name as #self}
use Rattle.prost_reflect_identity.proofs.Identity.of.Statement.{statement}
use Rattle.prost_reflect_identity.proofs.Identity.of.Code as compiled

pub of_spec : {M : Type 1} → statement M
of_spec 𝓤 𝓛 𝓜 𝓡 wired T L =
    let H = 𝓛.H in
    let signed = ended T in
    let said = clauses T 𝓛 𝓜.mem 𝓡.returns in
    let args : Args = layouts (a_type ∷ []) (T, tt) in
    let fn : Fn = inst_fn args compiled.function in
    let stays : Stays signed.signature.params signed.kept = (stay_dropped (parameter 0 signed.signature.params) signed.kept.0, tt) in
    let go : AllGo 𝓛 signed.signature.lifetimes signed.signature.params signed.kept stays = (Goes-dropped 𝓛 2 (parameter 0 signed.signature.params) signed.kept.0 (λ κs x f. refl), tt) in
    let C = (tables 𝓤 H 𝓜 𝓡 𝓡.env).C in
    let Λ = (tables 𝓤 H 𝓜 𝓡 𝓡.env).Λ in
    proved_at 𝓛 signed stays said 𝓜 𝓡 go (#self args) fn (compiled.unfolded 𝓤 H 𝓜 𝓡 wired (T, tt)) (λ z are.
    let Post : Val → SProp 𝓤 = (walk_of 𝓛 signed stays said).post z in
    let given = z.0.3 in
    let words = z.0.4 in
    let value = given.0.now in
    let pairs : Coded (ℕ × T.Denot) = coded× coded_ℕ T.coded in
    let F : RattleType = inside.the_row T in
    let word : Val = flag_word false in
    qed 𝓛 ((raw (alive 𝓛 signed.signature z.0.0 z.0.1) ⊛ ‵ (owns (types_at signed.signature.params z.0.0) given words)) ∷ (raw (fact 𝓤 (z.0.0.1.0 ⊑ T.lives)) ⊛ ‵ ftrue) ∷ []) ∵
    move ! (1 ∷ []) $ split ! $ heard ! (z.0.0.1.0 ⊑ T.lives) (λ le. drop ! $ split ! $ move ! (1 ∷ []) $ drop ! $
    regoal ! (λ (us : List Val). prop (WpFn 𝓤 H C Λ fn us Post)) (λ i. are.0.0 i ++ []) refl $
    enter ! C Λ fn (vptr given.0.ref_ptr.0 given.0.ref_ptr.1 ∷ []) Post $
    alloc_all ! (λ l. pass_all ! refl ((tt, tt), tt) $ let En : Env 𝓤 𝓛.H = env fn.locals l in
    sets ! (agg ! (no_more !)) refl (tt, tt) $
    sets ! (agg ! (and_then ! (false_lit !) (and_then ! (get ! refl) (no_more !)))) refl (tt, (tt, (tt, tt))) $
    name_new ! tt (coded_ℕ.code 0) (λ alone. fjoin ! $
    name_new ! tt (pairs.code (alone, value)) (λ number. use1 𝓛 (‵ (fres number (pairs.code (alone, value)))) (𝓛.names.obs-res number (pairs.code (alone, value))) $
    move ! (1 ∷ []) $ drop ! $ fjoin ! $
    returns ! (look_at ! 0 refl) $ free_all ! refl $
    use0 𝓛 (‵ (owns_flag false (word ∷ []))) (flag_made 𝓛 false) $ fjoin ! $
    fpack ! F.Denot (λ i. fsep (F.own_val i (word ∷ [])) (is_alone T.coded ((number, alone), value))) (record { flag = false; marker = record {} }) $
    nothing ! $ fpack ! (Typed F.mir (word ∷ [])) (λ _. ftrue) (flag_typed false, tt) $ fjoin ! $
    use0 𝓛 (raw (fact 𝓤 (value ≡ value))) (fact_i 𝓤 (value ≡ value) (emp 𝓤) refl) $ nothing ! $ nothing ! $ fjoin ! $ move ! (3 ∷ 0 ∷ 2 ∷ 1 ∷ []) $
    by ! (leaves 𝓛 signed stays said z word ((number, alone), value) (tt, tt) (tt, tt)))))))
