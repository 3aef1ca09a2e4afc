use Rattle.prost_reflect_dynamic.proofs.Common.{message_type_of, number_of}
use Rattle.prost_reflect_dynamic.proofs.Had.{one_member}
use Rattle.prost_reflect_dynamic.proofs.OwnFields.{own_siblings}
use Rattle.prost_reflect_dynamic.proofs.message.laws.one_member.Goals as goal

pub returns-clause-members : goal.returns-clause-members
returns-clause-members c = one_member c.args.message.now c.slots.ensures.ascending c.slots.ensures.sound

pub returns-clause-fields : goal.returns-clause-fields
returns-clause-fields c a b j k n o own other in_one in_other same numbered numbered_other apart has =
    returns-clause-members c (number_of a) (number_of b) (own_siblings (message_type_of c.args.message.now) a b j k n o own other in_one in_other same numbered numbered_other apart) has
