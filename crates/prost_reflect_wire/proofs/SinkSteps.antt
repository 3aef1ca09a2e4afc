-- A length in front of what was added since.
use Rattle.std.specs.Prelude.{◌≡◌, ◌+◌, ◌-◌, ◌^◌, ◌≤◌, ◌++◌, ◌<◌}
use Rattle.prost_reflect_wire.proofs.Common.{ℕ, List, [], length, Option, Result, Ok, Err, true≢false, refl, sym, ap, ◌∙◌, subst, arith, append_assoc, append-nil, length-append, zero-add, lit<, true, is_ok, EncodeError, short, Prepended, bytes_in}
use Rattle.std.specs.Option.{SomeIff}
use Rattle.prost_reflect_wire.specs.declared.sink.LengthSink.{LengthSink}
use Rattle.prost_reflect_wire.specs.declared.error.EncodeError.TheVariants.{TooLong}
use Rattle.prost_reflect_wire.specs.declared.sink.ByteSink.{ByteSink}
use Rattle.prost_reflect_wire.proofs.BlockSteps.{blocks_fit}
use Rattle.prost_reflect_wire.specs.Sinks.{Adds, outcome_since, written_since, count_since, counted_since, HasNoBytes, HasNoCount}

abbrev Answer : Type 0
Answer = Result (Unit {0}) EncodeError

-- once refused, nothing changes the refusal
refused_on : (old new : ByteSink) (e : EncodeError) (front : List ℕ) → old.outcome ≡ Err e → Adds written_since old new front → new.outcome ≡ Err e
refused_on old new e front is adds = subst (λ (o : Answer). outcome_since o old new (front ++ [])) is (adds old [] (subst (λ (o : Answer). outcome_since o old old []) (sym is) is))

pub length_added : (start mid old new : ByteSink) (done body : List ℕ) (before len : ℕ) → written_since start mid done → length (bytes_in mid.blocks) ≡ before → written_since mid old body → len ≡ length (bytes_in old.blocks) - before →
    Adds written_since old new (short len) → written_since start new (short (length body) ++ (body ++ done))
length_added start mid old new done body before len h m b is adds = go start.outcome refl old.outcome refl mid.outcome refl
  where
    first : (s : Answer) → start.outcome ≡ s → outcome_since s start mid done
    first s si = subst (λ (o : Answer). outcome_since o start mid done) si h

    second : (o : Answer) → mid.outcome ≡ o → outcome_since o mid old body
    second o mi = subst (λ (o : Answer). outcome_since o mid old body) mi b

    late : (s o : Answer) (e : EncodeError) → mid.outcome ≡ o → old.outcome ≡ Err e → Prepended o (bytes_in start.blocks) (bytes_in mid.blocks) done → outcome_since o mid old body → e ≡ TooLong → 2 ^ 64 ≤ length (short (length body) ++ (body ++ done)) + length (bytes_in start.blocks)
    late s (Ok w) e mi oi p q at = let r : Prepended (Err e) (bytes_in mid.blocks) (bytes_in old.blocks) body = subst (λ (o : Answer). Prepended o (bytes_in mid.blocks) (bytes_in old.blocks) body) oi q in
        omega (arith, r at, ap length p, length-append done (bytes_in start.blocks), length-append (short (length body)) (body ++ done), length-append body done)
    late s (Err d) e mi oi p q at = let same : d ≡ e = cc in
        omega (arith, p (same ∙ at), length-append (short (length body)) (body ++ done), length-append body done)

    go : (s : Answer) → start.outcome ≡ s → (o : Answer) → old.outcome ≡ o → (m : Answer) → mid.outcome ≡ m → outcome_since s start new (short (length body) ++ (body ++ done))
    go (Err e) si o oi m mi = refused_on old new e (short len) (second (Err e) (first (Err e) si)) adds
    go (Ok u) si (Err e) oi m mi =
        subst (λ (o : Answer). Prepended o (bytes_in start.blocks) (bytes_in new.blocks) (short (length body) ++ (body ++ done))) (sym (refused_on old new e (short len) oi adds))
        (late (Ok u) m e mi oi (subst (λ (o : Answer). Prepended o (bytes_in start.blocks) (bytes_in mid.blocks) done) mi (first (Ok u) si)) (second m mi))
    go (Ok u) si (Ok v) oi (Err e) mi = let r : old.outcome ≡ Err e = second (Err e) mi in cc
    go (Ok u) si (Ok v) oi (Ok w) mi =
        let p : bytes_in mid.blocks ≡ done ++ bytes_in start.blocks = subst (λ (o : Answer). Prepended o (bytes_in start.blocks) (bytes_in mid.blocks) done) mi (first (Ok u) si) in
        let q : bytes_in old.blocks ≡ body ++ bytes_in mid.blocks = subst (λ (o : Answer). Prepended o (bytes_in mid.blocks) (bytes_in old.blocks) body) oi (second (Ok w) mi) in
        let all : bytes_in old.blocks ≡ (body ++ done) ++ bytes_in start.blocks = q ∙ ap (λ (l : List ℕ). body ++ l) p ∙ sym (append_assoc body done (bytes_in start.blocks)) in
        let size : len ≡ length body = omega (arith, is, m, ap length q, length-append body (bytes_in mid.blocks)) in
        let there : written_since start old (body ++ done) =
        subst (λ (o : Answer). outcome_since o start old (body ++ done)) (sym si) (subst (λ (o : Answer). Prepended o (bytes_in start.blocks) (bytes_in old.blocks) (body ++ done)) (sym oi) all) in
        subst (λ (o : Answer). outcome_since o start new (short (length body) ++ (body ++ done))) si (subst (λ (n : ℕ). written_since start new (short n ++ (body ++ done))) size (adds start (body ++ done) there))

-- nothing is added to begin with
nothing_yet : (start : ByteSink) → start.outcome ≡ Ok tt → written_since start start []
nothing_yet start is = subst (λ (o : Answer). outcome_since o start start []) (sym is) (subst (λ (o : Answer). Prepended o (bytes_in start.blocks) (bytes_in start.blocks) []) (sym is) refl)

-- a step of a sink that took all so far
pub step_added : (old new : ByteSink) (front : List ℕ) → is_ok old.outcome ≡ true → Prepended new.outcome (bytes_in old.blocks) (bytes_in new.blocks) front → Adds written_since old new front
step_added old new front took p = λ start done h. go start done start.outcome refl old.outcome refl new.outcome refl h
  where
    go : (start : ByteSink) (done : List ℕ) (s : Answer) → start.outcome ≡ s → (o : Answer) → old.outcome ≡ o → (n : Answer) → new.outcome ≡ n → outcome_since s start old done → outcome_since s start new (front ++ done)
    go start done s si (Err e) oi n ni h = absurd (true≢false (sym took ∙ ap is_ok oi))
    go start done (Err e) si (Ok v) oi n ni h = absurd (true≢false (sym (ap is_ok oi) ∙ ap is_ok h))
    go start done (Ok u) si (Ok v) oi (Ok w) ni h =
        let q : bytes_in old.blocks ≡ done ++ bytes_in start.blocks = subst (λ (a : Answer). Prepended a (bytes_in start.blocks) (bytes_in old.blocks) done) oi h in
        let r : bytes_in new.blocks ≡ front ++ bytes_in old.blocks = subst (λ (a : Answer). Prepended a (bytes_in old.blocks) (bytes_in new.blocks) front) ni p in
        subst (λ (a : Answer). Prepended a (bytes_in start.blocks) (bytes_in new.blocks) (front ++ done)) (sym ni) (r ∙ ap (λ (l : List ℕ). front ++ l) q ∙ sym (append_assoc front done (bytes_in start.blocks)))
    go start done (Ok u) si (Ok v) oi (Err e) ni h =
        let q : bytes_in old.blocks ≡ done ++ bytes_in start.blocks = subst (λ (a : Answer). Prepended a (bytes_in start.blocks) (bytes_in old.blocks) done) oi h in
        let r : e ≡ TooLong → 2 ^ 64 ≤ length front + length (bytes_in old.blocks) = subst (λ (a : Answer). Prepended a (bytes_in old.blocks) (bytes_in new.blocks) front) ni p in
        subst (λ (a : Answer). Prepended a (bytes_in start.blocks) (bytes_in new.blocks) (front ++ done)) (sym ni) (λ late. omega (arith, r late, ap length q, length-append done (bytes_in start.blocks), length-append front done))

-- what was added behind a sink that took all
pub written_behind : (start w : ByteSink) (front : List ℕ) → start.outcome ≡ Ok tt → Adds written_since start w front → Prepended w.outcome (bytes_in start.blocks) (bytes_in w.blocks) front
written_behind start w front is adds =
    let p : Prepended w.outcome (bytes_in start.blocks) (bytes_in w.blocks) (front ++ []) = subst (λ (o : Answer). outcome_since o start w (front ++ [])) is (adds start [] (nothing_yet start is)) in
    subst (λ (l : List ℕ). Prepended w.outcome (bytes_in start.blocks) (bytes_in w.blocks) l) (append-nil front) p

-- all that was written
written_alone : (start w : ByteSink) (front : List ℕ) → HasNoBytes start → Adds written_since start w front → Prepended w.outcome [] (bytes_in w.blocks) front
written_alone start w front h adds = subst (λ (l : List ℕ). Prepended w.outcome l (bytes_in w.blocks) front) h.bytes (written_behind start w front h.outcome adds)

pub written_whole : (start w : ByteSink) (front : List ℕ) (u : Unit {0}) → HasNoBytes start → Adds written_since start w front → w.outcome ≡ Ok u → bytes_in w.blocks ≡ front
written_whole start w front u h adds is = let p : bytes_in w.blocks ≡ front ++ [] = subst (λ (o : Answer). Prepended o [] (bytes_in w.blocks) front) is (written_alone start w front h adds) in p ∙ append-nil front

-- a buffer holds fewer bytes than a usize counts
pub whole_fits : (w : ByteSink) (front : List ℕ) → bytes_in w.blocks ≡ front → length front < 2 ^ 64
whole_fits w front is = omega (arith, ap length is, blocks_fit w.blocks)

pub written_refused : (start w : ByteSink) (front : List ℕ) (r : EncodeError) → HasNoBytes start → Adds written_since start w front → w.outcome ≡ Err r → r ≡ TooLong → 2 ^ 64 ≤ length front
written_refused start w front r h adds is late = let p : r ≡ TooLong → 2 ^ 64 ≤ length front + 0 = subst (λ (o : Answer). Prepended o [] (bytes_in w.blocks) front) is (written_alone start w front h adds) in omega (arith, p late)

-- all that was counted
pub counted_alone : (start c : LengthSink) (front : List ℕ) → HasNoCount start → Adds counted_since start c front → SomeIff c.count (length front < 2 ^ 64) (length front)
counted_alone start c front h adds =
    let none : counted_since start start [] = subst (λ (o : Option ℕ). count_since o start.count []) (sym h) (subst (λ (o : Option ℕ). SomeIff o (0 + 0 < 2 ^ 64) (0 + 0)) (sym h) (lit< tt, refl)) in
    let p : SomeIff c.count (0 + length (front ++ []) < 2 ^ 64) (0 + length (front ++ [])) = subst (λ (o : Option ℕ). count_since o c.count (front ++ [])) h (adds start [] none) in
    subst (λ (n : ℕ). SomeIff c.count (n < 2 ^ 64) n) (ap (λ (l : List ℕ). 0 + length l) (append-nil front) ∙ zero-add (length front)) p

-- TWO STEPS

-- Two fronts that are added in turn are one, the later one first.
pub adds_in_turn : {A : Type 0} (added : A → A → List ℕ → Type 0) (old mid new : A) (first second : List ℕ) → Adds added old mid first → Adds added mid new second → Adds added old new (second ++ first)
adds_in_turn added old mid new first second a b = λ start done h. subst (λ (l : List ℕ). added start new l) (sym (append_assoc second first done)) (b start (first ++ done) (a start done h))

pub adds_same : {A : Type 0} (added : A → A → List ℕ → Type 0) (old new : A) (front other : List ℕ) → front ≡ other → Adds added old new front → Adds added old new other
adds_same added old new front other is a = subst (λ (l : List ℕ). Adds added old new l) is a
