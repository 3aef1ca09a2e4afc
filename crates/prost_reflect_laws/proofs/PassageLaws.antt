-- The laws of reduction.
use Rattle.prost_reflect_laws.specs.Passage.{OlderAccepts, Passage, EditPassage}
use Rattle.prost_reflect_laws.proofs.Matches.{relates}
use Rattle.prost_reflect_laws.proofs.Older.{accepts_related}
use Rattle.prost_reflect_laws.proofs.Passing.{passage_related}
use Rattle.prost_reflect_laws.proofs.Editing.{edit_related}

pub older_accepts : OlderAccepts
older_accepts older newer k A B bytes r = accepts_related older newer k A B bytes (relates older A newer B r)

pub passage : Passage
passage older newer k A B bytes c checked small r = passage_related older newer k A B bytes c checked small (relates older A newer B r)

pub edit_passage : EditPassage
edit_passage older newer k A B bytes path v again older_checked newer_checked small r = edit_related older newer k A B bytes path v again older_checked newer_checked small (relates older A newer B r)
