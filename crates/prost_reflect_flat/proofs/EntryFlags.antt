-- The flags that say which messages are entries of maps.
use Rattle.std.specs.Prelude.{◌≡◌, ◌<◌, ◌∷◌}
use Rattle.prost_reflect_flat.proofs.Common.{ℕ, zero, suc, Bool, List, [], length, map, get_or, sym, ap, ◌∙◌, arith, is_entry, message_row, FlatMessage}

flag_of : (ms : List FlatMessage) (k : ℕ) (m : FlatMessage) (d : Bool) → k < length ms → m ≡ get_or ms k m → get_or (map is_entry (map message_row ms)) k d ≡ is_entry (message_row m)
flag_of [] k m d within is = absurd (omega arith)
flag_of (x ∷ ms) zero m d within is = ap (λ (y : FlatMessage). is_entry (message_row y)) (sym is)
flag_of (x ∷ ms) (suc k) m d within is = flag_of ms k m d (omega arith) is

pub flag_at : (ms : List FlatMessage) (flags : List Bool) (k : ℕ) (m : FlatMessage) (d : Bool) → flags ≡ map is_entry (map message_row ms) → k < length ms → m ≡ get_or ms k m → get_or flags k d ≡ is_entry (message_row m)
flag_at ms flags k m d e within is = ap (λ (l : List Bool). get_or l k d) e ∙ flag_of ms k m d within is
