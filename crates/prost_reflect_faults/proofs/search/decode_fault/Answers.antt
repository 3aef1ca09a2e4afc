use Rattle.std.proofs.Common.{refl, sym, true≢false}
use Rattle.prost_reflect_wire.specs.Grammar.{LEVEL_LIMIT}
use Rattle.prost_reflect_wire.proofs.ByteLists.{bytes_below}
use Rattle.prost_reflect_laws.proofs.FaultLaws.{accepted_has_no_fault}
use Rattle.prost_reflect_tables.specs.Schema.{schema_of}
use Rattle.prost_reflect_faults.proofs.Taking.{body_accepts}
use Rattle.prost_reflect_faults.proofs.search.decode_fault.Goals as goal

pub returns-in-Ok-clause-none : goal.returns-in-Ok-clause-none
returns-in-Ok-clause-none c = (λ _. refl, λ _. body_accepts (schema_of c.args.tables.now) LEVEL_LIMIT c.args.message c.args.bytes.now c.in-Ok.field-0.now c.in-Ok.ensures.ok)

pub returns-in-Err-clause-none : goal.returns-in-Err-clause-none
returns-in-Err-clause-none c =
    let found = c.in-Err.ensures.fault in
    (λ accepted. absurd (accepted_has_no_fault (schema_of c.args.tables.now) LEVEL_LIMIT c.args.message c.args.bytes.now (bytes_below _ c.type_inv.bytes) accepted c.in-Err.found.error found.stands), λ e. absurd (true≢false (sym e)))
