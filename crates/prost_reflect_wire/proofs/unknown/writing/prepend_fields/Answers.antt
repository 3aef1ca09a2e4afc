use Rattle.std.specs.Prelude.{◌++◌}
use Rattle.prost_reflect_wire.proofs.Common.{List, ℕ, ap, ◌∙◌, spelled, records_of}
use Rattle.prost_reflect_wire.proofs.unknown.writing.prepend_fields.Goals as goal

pub returns-clause-ok : goal.returns-clause-ok
returns-clause-ok c =
    let written = c.in_ok-append_to.ensures.ok _ _ c.new-sink.ensures c.write_fields.ensures.added in
    rw (c.as_slice.ensures.value ∙ written ∙ ap (λ (l : List ℕ). l ++ spelled (records_of c.args.fields.now)) c.new-bytes.ensures.items) at c.prepend.ensures.ok
