-- What a command line asks for.
use Rattle.std.specs.Prelude.{◌≡◌, ℕ, List, [], ◌∷◌, codes, string_bytes}
use Rattle.protorelay_commands.specs.declared.command.Command.{Command}
use Rattle.protorelay_commands.specs.declared.command.Command.TheVariants.{Relay, Show, Edit}

-- The words, without the program's name, are the verb, a set, the name of a message type and hex digits.
abbrev pub AreOf : List ℕ → List (List ℕ) → (set name digits : List ℕ) → Type 0
AreOf verb words set name digits = words ≡ verb ∷ set ∷ name ∷ digits ∷ []

-- They are `edit`, these, a path and a text.
abbrev pub AreOfEdit : List (List ℕ) → (set name digits path text : List ℕ) → Type 0
AreOfEdit words set name digits path text = words ≡ codes "edit" ∷ set ∷ name ∷ digits ∷ path ∷ text ∷ []

-- The words ask for the command.
abbrev pub AsksFor : List (List ℕ) → Command → Type 0
AsksFor words (Relay set name digits) = AreOf (codes "relay") words (string_bytes set.now) (string_bytes name.now) (string_bytes digits.now)
AsksFor words (Show set name digits) = AreOf (codes "show") words (string_bytes set.now) (string_bytes name.now) (string_bytes digits.now)
AsksFor words (Edit set name digits path text) = AreOfEdit words (string_bytes set.now) (string_bytes name.now) (string_bytes digits.now) (string_bytes path.now) (string_bytes text.now)

-- They ask for no message to be relayed or shown.
pub record AsksForNoReading (words : List (List ℕ)) : Type 0 where
  pub no_relay : (set name digits : List ℕ) → AreOf (codes "relay") words set name digits → ⊥
  pub no_show : (set name digits : List ℕ) → AreOf (codes "show") words set name digits → ⊥

-- They ask for none to be edited.
abbrev pub AsksForNoEdit : List (List ℕ) → Type 0
AsksForNoEdit words = (set name digits path text : List ℕ) → AreOfEdit words set name digits path text → ⊥

-- They ask for nothing.
pub record AsksForNone (words : List (List ℕ)) : Type 0 where
  pub no_reading : AsksForNoReading words
  pub no_edit : AsksForNoEdit words
