use Rattle.std.proofs.lemmas.Result.{err_from_is_err_and}
use Rattle.prost_reflect_dynamic.specs.Named.{schema_named, type_named}
use Rattle.prost_reflect.proofs.Passing.{spells_bytes, refuses_hex}
use Rattle.prost_reflect.proofs.relaying.relay_hex.Goals as goal

pub returns-in_err-bytes-clause-refused : goal.returns-in_err-bytes-clause-refused
returns-in_err-bytes-clause-refused c = let q = err_from_is_err_and c.from_residual.result c.from_residual.ensures.1 in
    let h = c.in_err-bytes.ensures.err in
    rw (q.1, q.2) (refuses_hex (schema_named c.args.older.now) (type_named c.args.older.now) c.args.text.now _ h)

pub returns-in_err-written-clause-refused : goal.returns-in_err-written-clause-refused
returns-in_err-written-clause-refused c = let q = err_from_is_err_and c.from_residual-in_err-written.result c.from_residual-in_err-written.ensures.1 in
    rw (q.1, q.2) (record { bytes = c.in_ok-bytes.bytes.items; spells = spells_bytes c.args.text.now c.in_ok-bytes.bytes.items c.in_ok-bytes.ensures.ok; refuses = rw c.as_slice.ensures.value at c.in_err-written.ensures.refused })

pub returns-clause-relayed : goal.returns-clause-relayed
returns-clause-relayed c = record {
  bytes = c.in_ok-bytes.bytes.items;
  written = c.in_ok-written.written.items;
  spells = spells_bytes c.args.text.now c.in_ok-bytes.bytes.items c.in_ok-bytes.ensures.ok;
  relayed = rw c.as_slice.ensures.value at c.in_ok-written.ensures.relayed;
  passes = rw c.as_slice.ensures.value at c.in_ok-written.ensures.passes;
  printed = rw c.as_slice-2.ensures.value at c.in_ok-digits.ensures;
}
