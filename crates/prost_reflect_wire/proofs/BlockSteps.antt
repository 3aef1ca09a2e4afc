-- Buffers in front of one another.
use Rattle.std.specs.Prelude.{◌≡◌, ◌+◌, ◌-◌, ◌^◌, ◌<◌, ◌≤◌, ◌∷◌, ◌++◌}
use Rattle.prost_reflect_wire.proofs.Common.{ℕ, suc, zero, List, [], length, drop, slice_index_or, sym, ap, ◌∙◌, arith, append_assoc, append-nil, length-append, length-drop, bytes_of, joined, bytes_in}
use Rattle.prost_reflect_wire.specs.declared.buffer.BackBuffer.{BackBuffer}
use Rattle.prost_reflect_wire.specs.declared.blocks.Blocks.{Blocks}

pub buffer_small : (b : BackBuffer) → length (bytes_of b) < 2 ^ 63
buffer_small b = let v = b.bytes in omega (arith, length-drop b.start v.items, v.ok.0, v.ok.1, v.small)

-- fewer bytes than a usize counts
pub blocks_fit : (b : Blocks) → length (bytes_in b) < 2 ^ 64
blocks_fit b = omega (arith, length-append (bytes_of b.front) (joined b.behind.items), buffer_small b.front, b.counted, b.small)

-- one buffer more, in front of the others
pub joined_more : (bs : List BackBuffer) (b : BackBuffer) → joined (bs ++ b ∷ []) ≡ bytes_of b ++ joined bs
joined_more [] b = sym (append-nil (bytes_of b))
joined_more (a ∷ bs) b = ap (λ (l : List ℕ). l ++ bytes_of a) (joined_more bs b) ∙ append_assoc (bytes_of b) (joined bs) (bytes_of a)

-- A FURTHER BUFFER

pub put_counted : (old : Blocks) (full : BackBuffer) (news : List BackBuffer) (len : ℕ) → len ≡ length (bytes_in old) → full ≡ old.front → news ≡ old.behind.items ++ full ∷ [] → len ≡ length (joined news)
put_counted old full news len counted is items = counted ∙ ap length (sym (ap joined items ∙ joined_more old.behind.items full ∙ ap (λ (b : BackBuffer). bytes_of b ++ joined old.behind.items) is))

pub put_bytes : (old : Blocks) (full first next : BackBuffer) (news : List BackBuffer) → first ≡ next → full ≡ old.front → news ≡ old.behind.items ++ full ∷ [] → bytes_of first ++ joined news ≡ bytes_of next ++ bytes_in old
put_bytes old full first next news same is items =
    ap (λ (b : BackBuffer). bytes_of b ++ joined news) same
    ∙ ap (λ (l : List ℕ). bytes_of next ++ l) (ap joined items ∙ joined_more old.behind.items full ∙ ap (λ (b : BackBuffer). bytes_of b ++ joined old.behind.items) is)

-- ROOM FOR ONE BUFFER OF SEVERAL

-- a buffer and those that were filled later are no more than all
at_fits : (bs : List BackBuffer) (i : ℕ) (b : BackBuffer) → i < length bs → b ≡ slice_index_or bs i b → length (joined (drop (suc i) bs)) + length (bytes_of b) ≤ length (joined bs)
at_fits [] i b low is = absurd (omega (arith, low))
at_fits (a ∷ bs) zero b low is = omega (arith, length-append (joined bs) (bytes_of a), ap (λ (x : BackBuffer). length (bytes_of x)) is)
at_fits (a ∷ bs) (suc i) b low is = omega (arith, length-append (joined bs) (bytes_of a), at_fits bs i b (omega (arith, low)) is)

suc_less : (i : ℕ) → suc i - 1 ≡ i
suc_less i = omega arith

pub block_fits : (bs : List BackBuffer) (n : ℕ) (b : BackBuffer) → 0 < n → n ≤ length bs → b ≡ slice_index_or bs (n - 1) b → length (joined (drop n bs)) + length (bytes_of b) ≤ length (joined bs)
block_fits bs zero b some high is = absurd (omega (arith, some))
block_fits bs (suc i) b some high is = at_fits bs i b (omega (arith, high)) (is ∙ ap (λ (k : ℕ). slice_index_or bs k b) (suc_less i))
