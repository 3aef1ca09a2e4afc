-- Laws of reduction: what an older message type makes of the bytes of a newer one (the encoding guide's account of unknown fields, "Updating A Message Type").
use Rattle.std.specs.Prelude.{◌≡◌, ◌≤◌, ◌<◌, ◌^◌}
use Rattle.prost_reflect_laws.specs.Common.{ℕ, suc, true, false, List, length, Some, AreBytes, ◌>>=◌, Schema, schema_valid, Content, Value, Accepts, decoded, encoded, set_at, PathTo, holds_message, edited, Reduced}

-- What the newer type accepts its reduction accepts.
abbrev pub OlderAccepts : Type 0
OlderAccepts = (older newer : Schema) (k A B : ℕ) (bytes : List ℕ) → Reduced older A newer B → Accepts newer k B bytes
    → Accepts older k A bytes

-- What a reduction reads and writes again the newer type accepts, and it means the same to it.
abbrev pub Passage : Type 0
Passage = (older newer : Schema) (k A B : ℕ) (bytes : List ℕ) (c : Content) → schema_valid older ≡ true → AreBytes bytes
    → Reduced older A newer B
    → Accepts newer k B bytes
    → decoded older k A bytes ≡ Some c
    → length (encoded c) < 2 ^ 64
    → Accepts newer k B (encoded c) × (decoded newer k B (encoded c) ≡ decoded newer k B bytes)

-- A value without messages that is set at a path through a reduction is set there in what the newer type reads. The path opens no more levels than there are.
abbrev pub EditPassage : Type 0
EditPassage = (older newer : Schema) (k A B : ℕ) (bytes : List ℕ) (path : List ℕ) (v : Value) (again : List ℕ)
    → schema_valid older ≡ true
    → schema_valid newer ≡ true
    → AreBytes bytes
    → Reduced older A newer B
    → length path ≤ suc k
    → PathTo older A path v
    → holds_message v ≡ false
    → Accepts newer k B bytes
    → edited older k A bytes path v ≡ Some again
    → length again < 2 ^ 64
    → Accepts newer k B again × (decoded newer k B again ≡ (decoded newer k B bytes >>= λ d. Some (set_at path v d)))
