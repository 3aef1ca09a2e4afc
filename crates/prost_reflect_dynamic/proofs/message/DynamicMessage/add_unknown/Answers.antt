use Rattle.prost_reflect_dynamic.proofs.Common.{on_ok_weaker, on_err_weaker, unknown_record}
use Rattle.prost_reflect_dynamic.proofs.Stored.{message_added, message_same}
use Rattle.prost_reflect_dynamic.proofs.TypedSteps.{added_typed}
use Rattle.prost_reflect_dynamic.proofs.message.DynamicMessage.add_unknown.Goals as goal

pub returns-clause-content : goal.returns-clause-content
returns-clause-content c =
    let added = c.add_unknown.ensures in
    on_ok_weaker c.add_unknown.result (message_added c.args.self.now c.add_unknown.new.self (unknown_record c.args.field) added.ascending added.message_type) added.ok

pub returns-clause-err : goal.returns-clause-err
returns-clause-err c =
    let added = c.add_unknown.ensures in
    on_err_weaker c.add_unknown.result (message_same c.args.self.now c.add_unknown.new.self added.ascending added.message_type) added.err

pub returns-clause-typed : goal.returns-clause-typed
returns-clause-typed c =
    let added = c.add_unknown.ensures in
    on_ok_weaker c.add_unknown.result (added_typed c.args.self.now c.add_unknown.new.self (unknown_record c.args.field) added.ascending added.message_type) added.ok
