use Rattle.prost_reflect_resolving.proofs.Common.{definition_row, flat_rows, all_rows, links_of}
use Rattle.prost_reflect_tables.proofs.Resolving.{resolved_is}
use Rattle.prost_reflect_resolving.proofs.resolve.resolved_field.Goals as goal

pub returns : goal.returns
returns c = resolved_is (links_of (all_rows c.args.index.now.base (flat_rows c.args.flat.now))) (definition_row c.args.definition.now) _ c.lend.ensures c.message_place.ensures c.message_place-message.ensures c.enum_place-enumeration.ensures c.linked_kind-kind.ensures c.in_ok-linked_default.ensures
