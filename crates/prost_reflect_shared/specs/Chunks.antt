-- A list laid out in chunks of pointers to items, and pointers to the last few items.
use Rattle.std.specs.Prelude.{◌≡◌, ◌<◌, ◌^◌, List, [], ◌∷◌, ◌++◌, ⊤, map, length}
use Rattle.std.specs.declared.alloc.Global.{Global}
use Rattle.std.specs.declared.rc.Rc.{Rc}

abbrev pub Pointer : Type 0 → Type 0
Pointer X = Rc X Global

abbrev pub Chunk : Type 0 → Type 0
Chunk T = Pointer (List (Pointer T))

-- What the pointers point to.
abbrev pub values : {X : Type 0} → List (Pointer X) → List X
values pointers = map (λ r. r.value) pointers

-- The parts one after another.
abbrev pub joined : {T : Type 0} → List (List T) → List T
joined [] = []
joined (p ∷ ps) = p ++ joined ps

-- Each part has 64 items.
abbrev pub AreFull : {T : Type 0} → List (List T) → Type 0
AreFull [] = ⊤
AreFull (p ∷ ps) = (length p ≡ 64) × AreFull ps

module _ {T : Type 0} where
  -- The items of each list of pointers, and of each chunk.
  abbrev pub parts_of : List (List (Pointer T)) → List (List T)
  parts_of lists = map (λ pointers. values pointers) lists

  abbrev pub parts : List (Chunk T) → List (List T)
  parts chunks = parts_of (values chunks)

  -- The items in their order.
  abbrev pub items_in : List (Chunk T) → List (Pointer T) → List T
  items_in chunks rest = joined (parts chunks) ++ values rest

  -- The chunks are full, the last few items are fewer, and the number of all is one of 64 bits.
  pub record AreChunks (chunks : List (Chunk T)) (rest : List (Pointer T)) : Type 0 where
    pub full : AreFull (parts chunks)
    pub few : length chunks < 2 ^ 58
    pub fewer : length rest < 64
