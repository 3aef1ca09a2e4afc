-- What the program refuses for faults of bytes, and for messages that are not written.
use Rattle.std.specs.Prelude.{◌≡◌, ⊤, Bool, true, false, List, ℕ, string_bytes}
use Rattle.prost_reflect_wire.specs.declared.error.DecodeError.{DecodeError}
use Rattle.prost_reflect_wire.specs.declared.error.DecodeError.TheVariants as decode_errors
use Rattle.prost_reflect_wire.specs.declared.error.EncodeError.{EncodeError}
use Rattle.prost_reflect_wire.specs.declared.error.EncodeError.TheVariants as encode_errors
use Rattle.prototool_commands.specs.declared.refusal.Refusal.{Refusal}
use Rattle.prototool_commands.specs.declared.refusal.Refusal.TheVariants.{Decode, Encode, Memory, Path}

-- Out of memory is one refusal, wherever it comes.
abbrev pub decode_refusal : DecodeError → Refusal
decode_refusal decode_errors.OutOfMemory = Memory
decode_refusal e = Decode e

abbrev pub encode_refusal : EncodeError → Refusal
encode_refusal encode_errors.OutOfMemory = Memory
encode_refusal e = Encode e

-- A path of names is refused.
abbrev pub is_path : Refusal → Bool
is_path (Path path) = true
is_path refusal = false

-- The path itself, or out of memory.
abbrev pub RefusesPath : List ℕ → Refusal → Type 0
RefusesPath path (Path text) = string_bytes text ≡ path
RefusesPath path Memory = ⊤
RefusesPath path refusal = ⊥
