use Rattle.std.proofs.Common.{◌∙◌}
use Rattle.prost_reflect_resolving.proofs.EnumNumbers.{number_read, no_number}
use Rattle.prost_reflect_resolving.proofs.index.added_number.Goals as goal

pub returns-in-Some : goal.returns-in-Some
returns-in-Some c =
    c.number_in.ensures
    ∙ number_read c.args.index.now.numbers.items _ c.args.offset c.in-Some.numbers.now c.args.name.now c.requires.numbers (rw (← c.deref.ensures.value) c.in-Some.ensures.lookup.3.0) (rw (← c.deref.ensures.value) c.in-Some.ensures.lookup.1)

pub returns-in-None : goal.returns-in-None
returns-in-None c = no_number c.args.index.now.numbers.items _ c.args.offset c.args.name.now c.requires.numbers (rw (← c.deref.ensures.value) c.in-None.ensures.lookup.3)
