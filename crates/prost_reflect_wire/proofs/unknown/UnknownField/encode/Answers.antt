use Rattle.std.specs.Prelude.{◌∷◌, ◌++◌}
use Rattle.prost_reflect_wire.proofs.Common.{ℕ, List, [], spelled, RecordFront, unknown_record}
use Rattle.prost_reflect_wire.proofs.WrittenRecords.{spelled_front, on_ok}
use Rattle.prost_reflect_wire.proofs.unknown.UnknownField.encode.Goals as goal

pub returns-clause-first : goal.returns-clause-first
returns-clause-first c =
    let first : (tail : List ℕ) → RecordFront (unknown_record c.args.self.now) (spelled (unknown_record c.args.self.now ∷ []) ++ tail) tail = λ tail. spelled_front _ tail c.write_field.ensures.valid in
    on_ok _ first
