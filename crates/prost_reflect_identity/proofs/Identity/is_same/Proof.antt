-- Of two identities with one first number the rest is one, too, and they lie in one place, since both have the second number alone: so
-- what was written last is read. Those with two first numbers are had at once, so their flags lie in two places, and what is written to
-- the one is not read from the other. Assumes `Logic`.
use Rattle.std.proofs.Common.{◌≡◌, ℕ, List, [], ◌∷◌, ◌++◌, refl, sym, ap, Bool, true, false}
use mathlib.Core.Bool.{false≢true}
use Rattle.std.specs.Prelude.{◌↔◌, IsTrue}
use mir.Syntax.{Fn, Args, a_type}
use mir.Val.{Val, vptr, vbool}
use mir.MapTy.{inst_fn}
use base.Logic.{SProp, ent, sep, emp}
use base.Fml.{Lft, Key, Share, ftrue, flft, ftok}
use base.Mask.{every, less, less_other}
use native.Mathlib.Decide.{ℕ_discrete}
use prog.Wp.{Env, WpFn}
use contract.BorrowLft.{◌⊑◌}
use contract.Monad.{fact, fact_i}
use types.Kit.{‵, raw, ◌⊛◌, prop, at_ret, ◌$◌, ◌∵◌, !, qed, by, move, keep, drop, use0, use2, split, split3, join, rewrite, regoal, fsplit, fjoin, feq_i}
use types.Part.{whole, sub, look_in, store_in}
use types.Run.{stop, fld, load, true_lit, false_lit, addr, of_opd, assigns, first, blocks, exec, returns, enter}
use types.ByLocal.{alloc_all, pass_all, free_all, look_at, get, through, sets, sets_last, env}
use denote.RattleType.{owns}
use denote.Param.{layouts}
use denote.Signature.{types_at}
use denote.Opens.{unhide}
use denote.Steps.{nothing, heard}
use denote.Triple.Walked.{Stays, AllGo, stay_dropped, walk_of, Goes-dropped}
use Rattle.core.proofs.alloc.Shapes.{after}
use Rattle.std.proofs.raw_atomic.Walks.{leaves}
use Rattle.prost_reflect_identity.proofs.Walks.{parameter, with_token, proved_with_token}
use Rattle.prost_reflect_identity.proofs.Numbers.{either_way, one_place, one_value, never_twice}
use Rattle.prost_reflect_identity.proofs.Opened.{opens_flag, closes_flag}
use Rattle.prost_reflect_identity.specs.Ownership.{stands_under, lone, place_number}
use Rattle.prost_reflect_identity.specs.contracts.Identity.is_same.{ended, clauses}
use Rattle.prost_reflect_identity.specs.contracts.Identity.is_same.Key.{name as #self}
use Rattle.prost_reflect_identity.proofs.Identity.is_same.Statement.{statement}
use Rattle.prost_reflect_identity.proofs.Identity.is_same.Code as compiled
use Rattle.prost_reflect_identity.proofs.Identity.is_same.Code.{code}

pub is_same_spec : {M : Type 1} → statement M
unfolding code
is_same_spec 𝓤 𝓛 𝓜 𝓡 wired T L =
    let H = 𝓛.H in
    let signed = ended T in
    let plainly = clauses T 𝓛 𝓜.mem 𝓡.returns in
    let args : Args = layouts (a_type ∷ []) (T, tt) in
    let fn : Fn = inst_fn args compiled.function in
    let slot₁ = parameter 0 signed.signature.params in
    let slot₂ = parameter 1 signed.signature.params in
    let stays : Stays signed.signature.params signed.kept = (stay_dropped slot₁ signed.kept.0, (stay_dropped slot₂ signed.kept.1.0, tt)) in
    let go : AllGo 𝓛 signed.signature.lifetimes signed.signature.params signed.kept stays = (Goes-dropped 𝓛 3 slot₁ signed.kept.0 (λ κs x f. refl), (Goes-dropped 𝓛 3 slot₂ signed.kept.1.0 (λ κs x f. refl), tt)) in
    let said = with_token 𝓛 signed stays plainly in
    proved_with_token 𝓛 signed stays plainly 𝓜 𝓡 go (#self args) fn (wired.0.0 (#self args) refl) (λ C Λ z are.
    let Post : Val → SProp 𝓤 = (walk_of 𝓛 signed stays said).post z in
    let given = z.0.3 in
    let words = z.0.4 in
    let κ₁ : Lft = z.0.0.0 in
    let q₁ : Share = z.0.1.0 in
    let κ₂ : Lft = z.0.0.1.0 in
    let q₂ : Share = z.0.1.1.0 in
    let κ : Lft = z.0.0.1.1.0 in
    let q : Share = z.0.1.1.1.0 in
    let b₁ = given.0.ref_ptr.0 in
    let o₁ = given.0.ref_ptr.1 in
    let i₁ = given.0.now in
    let b₂ = given.1.0.ref_ptr.0 in
    let o₂ = given.1.0.ref_ptr.1 in
    let i₂ = given.1.0.now in
    let n₁ : ℕ = i₁.0.0 in
    let n₂ : ℕ = i₂.0.0 in
    let under₁ : ℕ × T.Denot = (i₁.0.1, i₁.1) in
    let under₂ : ℕ × T.Denot = (i₂.0.1, i₂.1) in
    let k₁ : Key = (n₁, place_number b₁ o₁) in
    let k₂ : Key = (n₂, place_number b₂ o₂) in
    let Says : Bool → Type 0 = λ answer. IsTrue answer ↔ (i₁ ≡ i₂) in
    let exits : (answer : Bool) → Says answer → ent 𝓤 (sep 𝓤 (𝓛.A.lft κ₁ q₁) (sep 𝓤 (𝓛.A.lft κ₂ q₂) (sep 𝓤 (𝓛.A.lft κ q) (𝓛.A.tok every)))) (Post (vbool answer)) = λ answer says.
    qed 𝓛 (‵ (flft κ₁ q₁) ∷ ‵ (flft κ₂ q₂) ∷ ‵ (flft κ q) ∷ ‵ (ftok every) ∷ []) ∵
    feq_i ! (List Val) (vbool answer ∷ []) (vbool answer ∷ []) refl $ use0 𝓛 (raw (fact 𝓤 (Says answer))) (fact_i 𝓤 (Says answer) (emp 𝓤) says) $ move ! (5 ∷ 0 ∷ []) $ join ! $
    nothing ! $ nothing ! $ fjoin ! $ nothing ! $ fjoin ! $ nothing ! $ move ! (6 ∷ 0 ∷ []) $ join ! $ move ! (5 ∷ 0 ∷ []) $ join ! $ move ! (4 ∷ 0 ∷ []) $ join ! $ move ! (0 ∷ 1 ∷ 3 ∷ []) $
    by ! (leaves 𝓛 signed stays said z (vbool answer) answer (tt, (tt, tt)) (tt, (tt, tt))) in
    qed 𝓛 (((‵ (flft κ₁ q₁) ⊛ ‵ (flft κ₂ q₂) ⊛ ‵ (flft κ q) ⊛ ‵ ftrue) ⊛ ‵ (owns (types_at signed.signature.params z.0.0) given words)) ∷ (‵ (ftok every) ⊛ raw (fact 𝓤 (κ ⊑ T.lives)) ⊛ ‵ ftrue) ∷ []) ∵
    move ! (1 ∷ []) $ split3 ! $ move ! (3 ∷ []) $ split ! $ move ! (1 ∷ []) $ fsplit ! $ fsplit ! $ drop ! $ move ! (1 ∷ []) $ fsplit ! $ fsplit ! $ keep ! (1 ∷ 3 ∷ 4 ∷ 5 ∷ []) $
    -- [what the second reference holds; what the first holds; the lifetimes; the thread's token]
    move ! (2 ∷ []) $ split ! $ move ! (1 ∷ []) $ split ! $ move ! (1 ∷ []) $ split ! $ keep ! (5 ∷ 3 ∷ 4 ∷ 2 ∷ 6 ∷ 0 ∷ []) $
    unhide ! $ fsplit ! $ move ! (3 ∷ []) $ unhide ! $ fsplit ! $
    -- [under the second number; the second borrow; under the first number; the first borrow; the two lifetimes; the token; that of `T`]
    regoal ! (λ (us : List Val). prop (WpFn 𝓤 H C Λ fn us Post)) (λ i. are.0.0 i ++ (are.1.0.0 i ++ [])) refl $
    either_way (ℕ_discrete n₁ n₂)
    (λ equal. rewrite ! 0 (λ (number : ℕ). ‵ (stands_under T.coded ((number, i₂.0.1), i₂.1))) (sym equal) refl $ move ! (2 ∷ 0 ∷ []) $
    use2 𝓛 (raw (fact 𝓤 (under₁ ≡ under₂))) (one_value 𝓛 T.coded n₁ under₁ under₂) $ heard ! (under₁ ≡ under₂) (λ same.
    -- [the second borrow; the first borrow; the two lifetimes; the token; that of `T`]
    either_way (ℕ_discrete (place_number b₁ o₁) (place_number b₂ o₂))
    (λ places. let place = one_place b₁ o₁ b₂ o₂ places in
    regoal ! (λ (us : List Val). prop (WpFn 𝓤 H C Λ fn us Post)) (λ i. vptr b₁ o₁ ∷ vptr (sym place.0 i) (sym place.1 i) ∷ []) refl $
    enter ! C Λ fn (vptr b₁ o₁ ∷ vptr b₁ o₁ ∷ []) Post $
    alloc_all ! (λ l. pass_all ! refl ((tt, tt), ((tt, tt), tt)) $ let En : Env 𝓤 𝓛.H = env fn.locals l in
    sets ! (addr ! (through ! refl (fld ! refl (stop !)))) refl (tt, tt) $
    sets ! (addr ! (through ! refl (fld ! refl (stop !)))) refl (tt, tt) $
    move ! (1 ∷ 2 ∷ 4 ∷ []) $ opens_flag T i₁ b₁ o₁ ! tt every refl (λ _.
    -- [the one flag; ..]
    first ! $ blocks ! $
    assigns ! (of_opd ! (false_lit !)) (through ! refl (stop !)) (store_in ! 0 (sub ! 0 refl (whole !)) (tt, tt)) $
    assigns ! (of_opd ! (true_lit !)) (through ! refl (stop !)) (store_in ! 0 (sub ! 0 refl (whole !)) (tt, tt)) $
    sets_last ! (of_opd ! (load ! (through ! refl (stop !)) (look_in ! 0 (sub ! 0 refl (whole !))))) refl (tt, tt) $
    exec ! C Λ En (after 3 fn.body) (at_ret En Post) $
    sets ! (of_opd ! (get ! refl)) refl (tt, tt) $
    closes_flag T i₁ b₁ o₁ ! tt every true $
    -- [the first lifetime; the token; the second borrow; the second lifetime; that of `T`]
    returns ! (look_at ! 0 refl) $ free_all ! refl $ keep ! (0 ∷ 3 ∷ 4 ∷ 1 ∷ []) $
    by ! (exits true (λ _. (λ i. ((equal i, (same i).0), (same i).1)), λ _. refl)))))
    (λ differ. enter ! C Λ fn (vptr b₁ o₁ ∷ vptr b₂ o₂ ∷ []) Post $ alloc_all ! (λ l. pass_all ! refl ((tt, tt), ((tt, tt), tt)) $
    -- in two places each has alone what is had once
    move ! (1 ∷ 2 ∷ 4 ∷ []) $ opens_flag T i₁ b₁ o₁ ! tt every refl (λ _.
    move ! (4 ∷ 5 ∷ 2 ∷ []) $ opens_flag T i₂ b₂ o₂ ! tt (less every k₁) (less_other every k₁ k₂ (λ e. differ (ap (λ (k : Key). k.1) e))) (λ _.
    -- [the second flag; what is alone; the token; the way back; the first flag; what is alone; ..]
    move ! (1 ∷ 5 ∷ []) $ fsplit ! $ rewrite ! 1 (λ (number : ℕ). ‵ (lone number)) (sym (ap (λ (u : ℕ × T.Denot). u.0) same)) refl $
    move ! (2 ∷ []) $ fsplit ! $ move ! (1 ∷ 3 ∷ []) $ never_twice ! tt under₁.0))))))
    (λ differ. enter ! C Λ fn (vptr b₁ o₁ ∷ vptr b₂ o₂ ∷ []) Post $
    alloc_all ! (λ l. pass_all ! refl ((tt, tt), ((tt, tt), tt)) $ let En : Env 𝓤 𝓛.H = env fn.locals l in
    sets ! (addr ! (through ! refl (fld ! refl (stop !)))) refl (tt, tt) $
    sets ! (addr ! (through ! refl (fld ! refl (stop !)))) refl (tt, tt) $
    move ! (3 ∷ 4 ∷ 6 ∷ []) $ opens_flag T i₁ b₁ o₁ ! tt every refl (λ _.
    -- [the first flag; what is alone; the token; the way back; under the second number; the second borrow; under the first; the second lifetime; that of `T`]
    move ! (5 ∷ 7 ∷ 2 ∷ []) $ opens_flag T i₂ b₂ o₂ ! tt (less every k₁) (less_other every k₁ k₂ (λ e. differ (ap (λ (k : Key). k.0) e))) (λ _.
    -- [the second flag; what is alone; the token; the way back; the first flag; what is alone; the way back; ..]
    first ! $ blocks ! $
    assigns ! (of_opd ! (false_lit !)) (through ! refl (stop !)) (store_in ! 4 (sub ! 0 refl (whole !)) (tt, tt)) $
    assigns ! (of_opd ! (true_lit !)) (through ! refl (stop !)) (store_in ! 0 (sub ! 0 refl (whole !)) (tt, tt)) $
    sets_last ! (of_opd ! (load ! (through ! refl (stop !)) (look_in ! 4 (sub ! 0 refl (whole !))))) refl (tt, tt) $
    exec ! C Λ En (after 3 fn.body) (at_ret En Post) $
    sets ! (of_opd ! (get ! refl)) refl (tt, tt) $
    closes_flag T i₂ b₂ o₂ ! tt (less every k₁) true $
    move ! (2 ∷ 3 ∷ 1 ∷ 4 ∷ []) $ closes_flag T i₁ b₁ o₁ ! tt every false $
    returns ! (look_at ! 0 refl) $ free_all ! refl $ keep ! (0 ∷ 2 ∷ 5 ∷ 1 ∷ []) $
    by ! (exits false (λ says. absurd (false≢true says), λ same. absurd (differ (ap (λ (i : (ℕ × ℕ) × T.Denot). i.0.0) same)))))))))
