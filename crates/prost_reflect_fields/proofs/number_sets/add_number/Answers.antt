use Rattle.prost_reflect_fields.proofs.Common.{on_ok_weaker}
use Rattle.prost_reflect_fields.proofs.WholeOneofs.{whole_added}
use Rattle.prost_reflect_fields.proofs.number_sets.add_number.Goals as goal

pub returns-clause-whole : goal.returns-clause-whole
returns-clause-whole c =
    on_ok_weaker c.add_members.result
    (λ members. whole_added c.args.message_type.now c.args.numbers.now c.insert.new.self c.add_members.new.numbers c.args.number c.field_tables.result.now c.member_places-places.result.now c.oneof_of-oneof.result c.field_tables.ensures c.member_places-places.ensures c.oneof_of-oneof.ensures c.in_ok-insert.ensures.updates.0 members c.requires)
    c.add_members.ensures
