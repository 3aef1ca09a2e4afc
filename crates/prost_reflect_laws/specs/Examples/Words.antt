-- The words that the worked examples are written in.
use Rattle.std.specs.Prelude.{◌≡◌, ◌+◌, ◌-◌, ◌*◌, ◌∷◌, ◌++◌, if◌then◌else◌}
use Prim.Native.String.{String}
use Rattle.prost_reflect_laws.specs.Common.{ℕ, zero, suc, false, not, pos, negsuc, List, [], length, filter, codes, nat_eq, nat_lt, Some, short, Var, Len, Payload, Flat, Scalar, I32, Text, EnumNumber, Content, ContentOf, Entries, Value, ScalarValue, MessageValue, ListValue, values_from, LEVEL_LIMIT, accepts, decoded, encoded, relayed, edited}
use Rattle.prost_reflect_laws.specs.Examples.Schemas.{examples}

-- BYTES

abbrev pub digit : ℕ → ℕ
digit c = if nat_lt c 58 then c - 48 else c - 87

abbrev pub from_digits : List ℕ → List ℕ
from_digits [] = []
from_digits (c ∷ []) = []
from_digits (c ∷ d ∷ cs) = (16 * digit c + digit d) ∷ from_digits cs

-- Bytes in lower-case hex; blanks are skipped.
abbrev pub hex : String → List ℕ
hex digits = from_digits (filter (λ c. not (nat_eq c 32)) (codes digits))

-- Bytes as the nested message of number 3, so many times.
abbrev pub in_message : List ℕ → List ℕ
in_message bytes = 0x1a ∷ (short (length bytes) ++ bytes)

abbrev pub nested : ℕ → List ℕ → List ℕ
nested zero bytes = bytes
nested (suc k) bytes = in_message (nested k bytes)

-- A byte, or a number of a path, so many times in front of others.
abbrev pub times : ℕ → ℕ → List ℕ → List ℕ
times zero b bytes = bytes
times (suc k) b bytes = b ∷ times k b bytes

-- CONTENTS

abbrev pub content : ℕ → Entries → Content
content T es = ContentOf examples T es

abbrev pub int : ℕ → Value
int n = ScalarValue (I32 (pos n))

abbrev pub minus_one : Value
minus_one = ScalarValue (I32 (negsuc 0))

abbrev pub enum : ℕ → Value
enum n = ScalarValue (EnumNumber (pos n))

-- A text of ASCII characters.
abbrev pub ascii : String → Scalar
ascii characters = Text (codes characters)

abbrev pub inner : ℕ → Entries → Value
inner T es = MessageValue (content T es)

abbrev pub list_of : List Value → Value
list_of vs = ListValue (values_from vs)

abbrev pub varint : ℕ → Payload
varint n = Flat (Var n)

abbrev pub delimited : String → Payload
delimited digits = Flat (Len (hex digits))

-- STATEMENTS

-- The type accepts the bytes, and they mean these entries.
abbrev pub Means : ℕ → String → Entries → Type 0
Means T bytes es = decoded examples LEVEL_LIMIT T (hex bytes) ≡ Some (content T es)

-- Read by the type and written again.
abbrev pub Becomes : ℕ → String → String → Type 0
Becomes T bytes again = relayed examples LEVEL_LIMIT T (hex bytes) ≡ Some (hex again)

-- Both: what the bytes mean, and what is written of it.
abbrev pub Reads : ℕ → String → Entries → String → Type 0
Reads T bytes es again = Means T bytes es × Becomes T bytes again

-- The type does not accept the bytes.
abbrev pub Refused : ℕ → String → Type 0
Refused T bytes = accepts examples LEVEL_LIMIT T (hex bytes) ≡ false

abbrev pub Writes : ℕ → Entries → String → Type 0
Writes T es bytes = encoded (content T es) ≡ hex bytes

-- A value set at a path in what the type reads, and all written again.
abbrev pub Sets : ℕ → String → List ℕ → Value → String → Type 0
Sets T bytes path v again = edited examples LEVEL_LIMIT T (hex bytes) path v ≡ Some (hex again)
