-- What showing prints of a descriptor set, the name of a message type and hex digits.
use Rattle.std.specs.Prelude.{◌≡◌, ℕ, List, [], ◌∷◌, ◌++◌, flat_map, codes, decimal}
use Rattle.prost_reflect_wire.specs.Content.{Content}
use Rattle.prost_reflect_dynamic.specs.Present.{present_in}
use Rattle.prost_reflect_dynamic.specs.declared.message.present.PresentNumber.{PresentNumber}
use Rattle.prost_reflect_dynamic.specs.declared.message.present.PresentNumber.TheVariants.{Field, Extension, Unknown}
use Rattle.protorelay_commands.specs.Reading.{IsRead}

-- The line of a number that is present.
abbrev pub line : PresentNumber → List ℕ
line (Field n) = codes "field " ++ (decimal n ++ 10 ∷ [])
line (Extension n) = codes "extension " ++ (decimal n ++ 10 ∷ [])
line (Unknown n count) = codes "unknown " ++ (decimal n ++ (codes " " ++ (decimal count ++ 10 ∷ [])))

abbrev pub lines : List PresentNumber → List ℕ
lines numbers = flat_map line numbers

-- A line for each number that is present in the message.
pub record IsShown (set name digits text : List ℕ) : Type 0 where
  pub content : Content
  pub read : IsRead set name digits content
  pub printed : text ≡ lines (present_in content)
