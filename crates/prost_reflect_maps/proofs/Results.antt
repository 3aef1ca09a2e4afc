-- What holds of an answer in both cases.
use Rattle.prost_reflect_maps.proofs.Common.{Result, Ok, Err}
use Rattle.std.specs.Result.{OnOk, OnErr}

pub either : {T E P Q R : Type 0} (r : Result T E) → OnOk r P → OnErr r Q → (P → R) → (Q → R) → R
either (Ok t) p q f h = f p
either (Err e) p q f h = h q

pub either_both : {T E P S Q R : Type 0} (r : Result T E) → OnOk r P → OnOk r S → OnErr r Q → (P → S → R) → (Q → R) → R
either_both (Ok t) p s q f h = f p s
either_both (Err e) p s q f h = h q
