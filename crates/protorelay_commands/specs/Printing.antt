-- What the program writes.
use Rattle.std.specs.Prelude.{ℕ, List, [], ◌∷◌, ◌++◌, Option, codes, string_bytes}
use Rattle.std.specs.Io.KnownBytes.{Appends}
use Rattle.protorelay_commands.specs.declared.command.Command.{Command}
use Rattle.protorelay_commands.specs.declared.command.Command.TheVariants.{Relay, Show, Edit}
use Rattle.protorelay_commands.specs.CommandLine.{AsksFor}
use Rattle.protorelay_commands.specs.Reading.{Refuses}
use Rattle.protorelay_commands.specs.Relaying.{IsRelayed, RefusesRelay}
use Rattle.protorelay_commands.specs.Editing.{IsEdited, RefusesEdit}
use Rattle.protorelay_commands.specs.Showing.{IsShown}
use Rattle.protorelay_commands.specs.declared.refusal.Refusal.{Refusal}

-- A line behind what a writer holds, where that is known.
abbrev pub AppendsLine : Option (List ℕ) → Option (List ℕ) → List ℕ → Type 0
AppendsLine old new text = Appends old new (text ++ 10 ∷ [])

-- The text, with its line feeds, answers the command.
abbrev pub Answers : Command → List ℕ → Type 0
Answers (Relay set name digits) text = IsRelayed (string_bytes set.now) (string_bytes name.now) (string_bytes digits.now) text
Answers (Show set name digits) text = IsShown (string_bytes set.now) (string_bytes name.now) (string_bytes digits.now) text
Answers (Edit set name digits path spelled) text = IsEdited (string_bytes set.now) (string_bytes name.now) (string_bytes digits.now) (string_bytes path.now) (string_bytes spelled.now) text

-- The words ask for a command that the text answers.
pub record AnswersWords (words : List (List ℕ)) (text : List ℕ) : Type 0 where
  pub command : Command
  pub asked : AsksFor words command
  pub answered : Answers command text

-- The first step of the command that fails.
abbrev pub RefusesCommand : Command → Refusal → Type 0
RefusesCommand (Relay set name digits) refusal = RefusesRelay (string_bytes set.now) (string_bytes name.now) (string_bytes digits.now) refusal
RefusesCommand (Show set name digits) refusal = Refuses (string_bytes set.now) (string_bytes name.now) (string_bytes digits.now) refusal
RefusesCommand (Edit set name digits path text) refusal = RefusesEdit (string_bytes set.now) (string_bytes name.now) (string_bytes digits.now) (string_bytes path.now) (string_bytes text.now) refusal

-- The words ask for a command that is refused for this reason.
pub record RefusesWords (words : List (List ℕ)) (refusal : Refusal) : Type 0 where
  pub command : Command
  pub asked : AsksFor words command
  pub refused : RefusesCommand command refusal

-- The line that any other command line gets.
abbrev pub usage_line : List ℕ
usage_line = codes "usage: protorelay relay|show SET NAME HEX | edit SET NAME HEX PATH TEXT"
