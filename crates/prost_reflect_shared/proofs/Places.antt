-- What stands at the places of a list in chunks, and what a change of a chunk does to all items.
use Rattle.std.proofs.Common.{◌≡◌, ℕ, ◌+◌, ◌*◌, ◌/◌, ◌%◌, ◌^◌, ◌<◌, ◌≤◌, List, [], ◌∷◌, ◌++◌, Some, length, get_or, slice_get, sym, ap, ap₂, ◌∙◌, subst, arith, length-append, append_assoc}
use Rattle.std.proofs.Math.ListN.{set, get_or-map}
use Rattle.std.proofs.lemmas.List.{length-map, map-append, map-set, length-set, append-nil}
use Rattle.std.proofs.lemmas.Option.{slice_get_read}
use Rattle.prost_reflect_shared.specs.Chunks.{Pointer, Chunk, values, joined, AreFull, parts_of, parts, items_in, AreChunks}
use Rattle.prost_reflect_shared.proofs.Parts.{length-joined, length-part, get_in, get_behind, set_in, set_behind, joined-push, AreFull-push, AreFull-set}

module _ {T : Type 0} where
  -- the items of a chunk
  abbrev pub items_at : Chunk T → List T
  items_at chunk = values chunk.value

  pub length-items_at : (c : Chunk T) → length (items_at c) ≡ length c.value
  length-items_at c = length-map c.value (λ r. r.value)

  length-parts : (chunks : List (Chunk T)) → length (parts chunks) ≡ length chunks
  length-parts chunks = length-map (values chunks) (λ l. values l) ∙ length-map chunks (λ r. r.value)

  get_or-parts : (chunks : List (Chunk T)) (q : ℕ) (c : Chunk T) → get_or (parts chunks) q (items_at c) ≡ items_at (get_or chunks q c)
  get_or-parts chunks q c = get_or-map (λ l. values l) (values chunks) q c.value ∙ ap (λ l. values l) (get_or-map (λ r. r.value) chunks q c)

  set-parts : (chunks : List (Chunk T)) (q : ℕ) (c : Chunk T) → parts (set chunks q c) ≡ set (parts chunks) q (items_at c)
  set-parts chunks q c = ap parts_of (map-set (λ r. r.value) chunks q c) ∙ map-set (λ l. values l) (values chunks) q c.value

  push-parts : (chunks : List (Chunk T)) (c : Chunk T) → parts (chunks ++ c ∷ []) ≡ parts chunks ++ items_at c ∷ []
  push-parts chunks c = ap parts_of (map-append (λ r. r.value) chunks (c ∷ [])) ∙ map-append (λ l. values l) (values chunks) (c.value ∷ [])

  -- one chunk more, of items that came next
  pub chunk_taken : (chunks chunks' : List (Chunk T)) (c : Chunk T) (left left' all : List T) → chunks' ≡ chunks ++ c ∷ [] → items_at c ++ left' ≡ left → joined (parts chunks) ++ left ≡ all
      → joined (parts chunks') ++ left' ≡ all
  chunk_taken chunks chunks' c left left' all are came whole =
      ap (λ cs. joined (parts cs) ++ left') are ∙ ap (λ xs. xs ++ left') (ap joined (push-parts chunks c) ∙ joined-push (parts chunks) (items_at c)) ∙ append_assoc (joined (parts chunks)) (items_at c) left'
      ∙ ap (λ xs. joined (parts chunks) ++ xs) came ∙ whole

  pub AreFull-pushed : (chunks chunks' : List (Chunk T)) (c : Chunk T) → chunks' ≡ chunks ++ c ∷ [] → length (items_at c) ≡ 64 → AreFull (parts chunks) → AreFull (parts chunks')
  AreFull-pushed chunks chunks' c are size full = subst AreFull (sym (ap parts are ∙ push-parts chunks c)) (AreFull-push (parts chunks) (items_at c) full size)

  module _ (chunks : List (Chunk T)) (rest : List (Pointer T)) (laid : AreChunks chunks rest) where
    pub length-items_in : length (items_in chunks rest) ≡ 64 * length chunks + length rest
    length-items_in = omega (arith, length-append (joined (parts chunks)) (values rest), length-joined (parts chunks) laid.full, length-parts chunks, length-map rest (λ r. r.value))

    part_of : (q : ℕ) (c : Chunk T) → c ≡ get_or chunks q c → get_or (parts chunks) q (items_at c) ≡ items_at c
    part_of q c is = get_or-parts chunks q c ∙ ap (λ (k : Chunk T). items_at k) (sym is)

    -- a chunk has 64 items
    pub length-chunk : (q : ℕ) (c : Chunk T) → q < length chunks → c ≡ get_or chunks q c → length c.value ≡ 64
    length-chunk q c inside is =
        let fewer : q < length (parts chunks) = omega (arith, length-parts chunks) in
        sym (length-items_at c) ∙ ap length (sym (part_of q c is)) ∙ length-part (parts chunks) q (items_at c) laid.full fewer

    found : (place : ℕ) (y : T) → place < 64 * length chunks + length rest → get_or (items_in chunks rest) place y ≡ y → slice_get (items_in chunks rest) place ≡ Some y
    found place y below is = slice_get_read (items_in chunks rest) (64 * length chunks + length rest) place y (sym length-items_in) below (sym is)

    -- what is read in a chunk
    pub found_in_chunk : (place : ℕ) (c : Chunk T) (v : Pointer T) → place / 64 < length chunks → c ≡ get_or chunks (place / 64) c → v ≡ get_or c.value (place % 64) v → slice_get (items_in chunks rest) place ≡ Some v.value
    found_in_chunk place c v inside is_chunk is =
        let q : ℕ = place / 64 in
        let r : ℕ = place % 64 in
        let split : place ≡ 64 * q + r = omega arith in
        let fewer : q < length (parts chunks) = omega (arith, length-parts chunks) in
        let small : r < 64 = omega arith in
        found place v.value (omega arith)
        (ap (λ k. get_or (items_in chunks rest) k v.value) split ∙ get_in (parts chunks) (values rest) q r v.value (items_at c) laid.full fewer small
        ∙ ap (λ xs. get_or xs r v.value) (part_of q c is_chunk) ∙ get_or-map (λ p. p.value) c.value r v ∙ ap (λ (p : Pointer T). p.value) (sym is))

    -- what is read behind the chunks
    pub found_behind : (place : ℕ) (v : Pointer T) → length chunks ≤ place / 64 → place < 64 * length chunks + length rest → v ≡ get_or rest (place % 64) v → slice_get (items_in chunks rest) place ≡ Some v.value
    found_behind place v outside below is =
        let r : ℕ = place % 64 in
        let split : place ≡ 64 * length (parts chunks) + r = omega (arith, length-parts chunks, laid.fewer) in
        found place v.value below
        (ap (λ k. get_or (items_in chunks rest) k v.value) split ∙ get_behind (parts chunks) (values rest) r v.value laid.full
        ∙ get_or-map (λ p. p.value) rest r v ∙ ap (λ (p : Pointer T). p.value) (sym is))

    -- another chunk in the place of one
    pub chunk_replaced : (place : ℕ) (c n : Chunk T) (y : T) → place / 64 < length chunks → c ≡ get_or chunks (place / 64) c → items_at n ≡ set (items_at c) (place % 64) y
        → items_in (set chunks (place / 64) n) rest ≡ set (items_in chunks rest) place y
    chunk_replaced place c n y inside is_chunk is =
        let q : ℕ = place / 64 in
        let r : ℕ = place % 64 in
        let split : 64 * q + r ≡ place = omega arith in
        let fewer : q < length (parts chunks) = omega (arith, length-parts chunks) in
        let small : r < 64 = omega arith in
        ap (λ ps. joined ps ++ values rest) (set-parts chunks q n ∙ ap (λ p. set (parts chunks) q p) (is ∙ ap (λ xs. set xs r y) (sym (part_of q c is_chunk))))
        ∙ sym (set_in (parts chunks) (values rest) q r y (items_at c) laid.full fewer small) ∙ ap (λ k. set (items_in chunks rest) k y) split

    pub AreChunks-replaced : (q r : ℕ) (c n : Chunk T) (y : T) → q < length chunks → c ≡ get_or chunks q c → items_at n ≡ set (items_at c) r y → AreChunks (set chunks q n) rest
    AreChunks-replaced q r c n y inside is_chunk is =
        let size : length (items_at n) ≡ 64 = ap length is ∙ length-set (items_at c) r y ∙ length-items_at c ∙ length-chunk q c inside is_chunk in
        record {
          full = subst AreFull (sym (set-parts chunks q n)) (AreFull-set (parts chunks) q (items_at n) laid.full size);
          few = omega (arith, length-set chunks q n, laid.few);
          fewer = laid.fewer;
        }

    -- another item behind the chunks
    pub rest_replaced : (place : ℕ) (v : Pointer T) → length chunks ≤ place / 64 → place < 64 * length chunks + length rest → items_in chunks (set rest (place % 64) v) ≡ set (items_in chunks rest) place v.value
    rest_replaced place v outside below =
        let r : ℕ = place % 64 in
        let split : 64 * length (parts chunks) + r ≡ place = omega (arith, length-parts chunks, laid.fewer) in
        ap (λ xs. joined (parts chunks) ++ xs) (map-set (λ r. r.value) rest r v) ∙ sym (set_behind (parts chunks) (values rest) r v.value laid.full) ∙ ap (λ k. set (items_in chunks rest) k v.value) split

    -- one chunk more, of the items behind the chunks and one item
    pub chunk_pushed : (chunks' : List (Chunk T)) (rest' : List (Pointer T)) (c : Chunk T) (y : T) → chunks' ≡ chunks ++ c ∷ [] → rest' ≡ [] → items_at c ≡ values rest ++ y ∷ []
        → items_in chunks' rest' ≡ items_in chunks rest ++ y ∷ []
    chunk_pushed chunks' rest' c y are none is =
        ap₂ items_in are none ∙ append-nil (joined (parts (chunks ++ c ∷ []))) ∙ ap joined (push-parts chunks c) ∙ joined-push (parts chunks) (items_at c)
        ∙ ap (λ xs. joined (parts chunks) ++ xs) is ∙ sym (append_assoc (joined (parts chunks)) (values rest) (y ∷ []))

    pub AreChunks-pushed : (chunks' : List (Chunk T)) (rest' : List (Pointer T)) (c : Chunk T) (y : T) → chunks' ≡ chunks ++ c ∷ [] → rest' ≡ [] → items_at c ≡ values rest ++ y ∷ []
        → 64 ≤ length rest + 1 → length chunks + 1 < 2 ^ 58 → AreChunks chunks' rest'
    AreChunks-pushed chunks' rest' c y are none is whole room =
        let size : length (items_at c) ≡ 64 = omega (arith, ap length is, length-append (values rest) (y ∷ []), length-map rest (λ r. r.value), laid.fewer) in
        record {
          full = AreFull-pushed chunks chunks' c are size laid.full;
          few = omega (arith, ap length are, length-append chunks (c ∷ []));
          fewer = omega (arith, ap length none);
        }
