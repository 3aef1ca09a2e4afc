use Rattle.std.proofs.Common.{◌≡◌, ◌<◌, ◌≤◌, length, List, [], ◌∷◌, map, string_bytes, slice_index_or, sym, ◌∙◌, ap, arith}
use Rattle.std.proofs.lemmas.Slice.Eq.{bytes_eq-Decides}
use Rattle.protorelay_commands.proofs.command.Command.parse_edit.Goals as goal

-- A list of six items.
six_items : {A : Type 0} (xs : List A) (a b c d e f : A) → 6 ≤ length xs → length xs < 7 →
    a ≡ slice_index_or xs 0 a → b ≡ slice_index_or xs 1 b → c ≡ slice_index_or xs 2 c → d ≡ slice_index_or xs 3 d → e ≡ slice_index_or xs 4 e → f ≡ slice_index_or xs 5 f → xs ≡ a ∷ b ∷ c ∷ d ∷ e ∷ f ∷ []
six_items [] a b c d e f least most is_a is_b is_c is_d is_e is_f = absurd (omega arith)
six_items (u ∷ []) a b c d e f least most is_a is_b is_c is_d is_e is_f = absurd (omega arith)
six_items (u ∷ v ∷ []) a b c d e f least most is_a is_b is_c is_d is_e is_f = absurd (omega arith)
six_items (u ∷ v ∷ w ∷ []) a b c d e f least most is_a is_b is_c is_d is_e is_f = absurd (omega arith)
six_items (u ∷ v ∷ w ∷ x ∷ []) a b c d e f least most is_a is_b is_c is_d is_e is_f = absurd (omega arith)
six_items (u ∷ v ∷ w ∷ x ∷ y ∷ []) a b c d e f least most is_a is_b is_c is_d is_e is_f = absurd (omega arith)
six_items (u ∷ v ∷ w ∷ x ∷ y ∷ z ∷ []) a b c d e f least most is_a is_b is_c is_d is_e is_f = cc
six_items (u ∷ v ∷ w ∷ x ∷ y ∷ z ∷ t ∷ xs) a b c d e f least most is_a is_b is_c is_d is_e is_f = absurd (omega arith)

pub returns-then-eq-clause-found : goal.returns-then-eq-clause-found
returns-then-eq-clause-found c =
    let words = six_items c.args.words.now _ _ _ _ _ _ c.in-len6.len_at_least c.in-len6.len_below c.verb-item.is c.set-item.is c.name-item.is c.digits-item.is c.path-item.is c.text-item.is in
    let verb = (bytes_eq-Decides c.as_str.result.now _).0 (sym c.eq.ensures ∙ c.if-eq.true) in
    ap (map string_bytes) words ∙ (cc)
