-- Items one after another in parts of 64 each, and some behind them: reading, writing and adding at a place.
use Rattle.std.proofs.Common.{◌≡◌, ℕ, zero, suc, ◌+◌, ◌*◌, ◌<◌, List, [], ◌∷◌, ◌++◌, length, get_or, sym, ap, ◌∙◌, refl, arith, length-append, append_assoc}
use Rattle.std.proofs.Math.ListN.{set}
use Rattle.std.proofs.lemmas.List.{get_or_append_left, get_or-append-add, set-append_left, append-nil}
use Rattle.prost_reflect_shared.specs.Chunks.{joined, AreFull}

module _ {T : Type 0} where
  pub length-joined : (ps : List (List T)) → AreFull ps → length (joined ps) ≡ 64 * length ps
  length-joined [] full = refl
  length-joined (p ∷ ps) full = omega (arith, length-append p (joined ps), full.0, length-joined ps full.1)

  set-append-add : (xs ys : List T) (i : ℕ) (y : T) → set (xs ++ ys) (length xs + i) y ≡ xs ++ set ys i y
  set-append-add [] ys i y = let e : 0 + i ≡ i = omega arith in ap (λ k. set ys k y) e
  set-append-add (x ∷ xs) ys i y =
      let e : suc (length xs) + i ≡ suc (length xs + i) = omega arith in
      ap (λ k. set (x ∷ (xs ++ ys)) k y) e ∙ ap (λ zs. x ∷ zs) (set-append-add xs ys i y)

  pub length-part : (ps : List (List T)) (q : ℕ) (e : List T) → AreFull ps → q < length ps → length (get_or ps q e) ≡ 64
  length-part [] q e full inside = absurd (omega arith)
  length-part (p ∷ ps) zero e full inside = full.0
  length-part (p ∷ ps) (suc q) e full inside = length-part ps q e full.1 (omega arith)

  -- what is read in a part
  pub get_in : (ps : List (List T)) (rest : List T) (q r : ℕ) (d : T) (e : List T) → AreFull ps → q < length ps → r < 64 → get_or (joined ps ++ rest) (64 * q + r) d ≡ get_or (get_or ps q e) r d
  get_in [] rest q r d e full inside small = absurd (omega arith)
  get_in (p ∷ ps) rest zero r d e full inside small =
      let place : 64 * zero + r ≡ r = omega arith in
      let within : r < length p = omega (arith, full.0) in
      ap (λ k. get_or ((p ++ joined ps) ++ rest) k d) place ∙ ap (λ xs. get_or xs r d) (append_assoc p (joined ps) rest) ∙ get_or_append_left p (joined ps ++ rest) d r within
  get_in (p ∷ ps) rest (suc q) r d e full inside small =
      let place : 64 * suc q + r ≡ length p + (64 * q + r) = omega (arith, full.0) in
      ap (λ k. get_or ((p ++ joined ps) ++ rest) k d) place ∙ ap (λ xs. get_or xs (length p + (64 * q + r)) d) (append_assoc p (joined ps) rest)
      ∙ get_or-append-add p (joined ps ++ rest) (64 * q + r) d ∙ get_in ps rest q r d e full.1 (omega arith) small

  -- what is read behind the parts
  pub get_behind : (ps : List (List T)) (rest : List T) (r : ℕ) (d : T) → AreFull ps → get_or (joined ps ++ rest) (64 * length ps + r) d ≡ get_or rest r d
  get_behind ps rest r d full = ap (λ n. get_or (joined ps ++ rest) (n + r) d) (sym (length-joined ps full)) ∙ get_or-append-add (joined ps) rest r d

  -- what is written in a part
  pub set_in : (ps : List (List T)) (rest : List T) (q r : ℕ) (y : T) (e : List T) → AreFull ps → q < length ps → r < 64 → set (joined ps ++ rest) (64 * q + r) y ≡ joined (set ps q (set (get_or ps q e) r y)) ++ rest
  set_in [] rest q r y e full inside small = absurd (omega arith)
  set_in (p ∷ ps) rest zero r y e full inside small =
      let place : 64 * zero + r ≡ r = omega arith in
      let within : r < length p = omega (arith, full.0) in
      ap (λ k. set ((p ++ joined ps) ++ rest) k y) place ∙ ap (λ xs. set xs r y) (append_assoc p (joined ps) rest) ∙ set-append_left p (joined ps ++ rest) r y within ∙ sym (append_assoc (set p r y) (joined ps) rest)
  set_in (p ∷ ps) rest (suc q) r y e full inside small =
      let place : 64 * suc q + r ≡ length p + (64 * q + r) = omega (arith, full.0) in
      ap (λ k. set ((p ++ joined ps) ++ rest) k y) place ∙ ap (λ xs. set xs (length p + (64 * q + r)) y) (append_assoc p (joined ps) rest)
      ∙ set-append-add p (joined ps ++ rest) (64 * q + r) y ∙ ap (λ xs. p ++ xs) (set_in ps rest q r y e full.1 (omega arith) small)
      ∙ sym (append_assoc p (joined (set ps q (set (get_or ps q e) r y))) rest)

  -- what is written behind the parts
  pub set_behind : (ps : List (List T)) (rest : List T) (r : ℕ) (y : T) → AreFull ps → set (joined ps ++ rest) (64 * length ps + r) y ≡ joined ps ++ set rest r y
  set_behind ps rest r y full = ap (λ n. set (joined ps ++ rest) (n + r) y) (sym (length-joined ps full)) ∙ set-append-add (joined ps) rest r y

  -- one part more
  pub joined-push : (ps : List (List T)) (p : List T) → joined (ps ++ p ∷ []) ≡ joined ps ++ p
  joined-push [] p = append-nil p
  joined-push (q ∷ ps) p = ap (λ xs. q ++ xs) (joined-push ps p) ∙ sym (append_assoc q (joined ps) p)

  pub AreFull-push : (ps : List (List T)) (p : List T) → AreFull ps → length p ≡ 64 → AreFull (ps ++ p ∷ [])
  AreFull-push [] p full is = (is, tt)
  AreFull-push (q ∷ ps) p full is = (full.0, AreFull-push ps p full.1 is)

  -- another part in the place of one
  pub AreFull-set : (ps : List (List T)) (q : ℕ) (p : List T) → AreFull ps → length p ≡ 64 → AreFull (set ps q p)
  AreFull-set [] q p full is = tt
  AreFull-set (x ∷ ps) zero p full is = (is, full.1)
  AreFull-set (x ∷ ps) (suc q) p full is = (full.0, AreFull-set ps q p full.1 is)
