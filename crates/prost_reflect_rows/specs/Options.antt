-- The bytes that a record stores of the options of its definition.
use Rattle.std.specs.Prelude.{ℕ, List, [], Option, Some, None, Vec}
use Rattle.std.specs.declared.alloc.Global.{Global}

-- Where nothing is stored there are no bytes.
abbrev pub bytes_or_none : Option (Vec ℕ Global) → List ℕ
bytes_or_none None = []
bytes_or_none (Some bytes) = bytes.items
