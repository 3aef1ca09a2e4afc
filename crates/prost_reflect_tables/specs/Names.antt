-- Full names: a package, the enclosing definitions and a name, joined by dots (the language guide, "Packages and Name Resolution").
use Rattle.std.specs.Prelude.{ℕ, List, [], ◌∷◌, ◌++◌, Option, Some, None, String, string_bytes, if◌then◌else◌, ◌==◌}
use Rattle.std.specs.declared.alloc.Global.{Global}

-- A text, or no characters where there is none.
abbrev pub text_or_empty : Option (String Global) → List ℕ
text_or_empty None = []
text_or_empty (Some s) = string_bytes s

-- A name in a scope; without a scope it stands alone.
abbrev pub joined : List ℕ → List ℕ → List ℕ
joined [] name = name
joined (b ∷ scope) name = (b ∷ scope) ++ 46 ∷ name

-- A type's name is fully qualified, with or without a dot in front.
abbrev pub without_dot : List ℕ → List ℕ
without_dot [] = []
without_dot (b ∷ name) = if b == 46 then name else b ∷ name

-- The JSON name of an extension: its full name in brackets.
abbrev pub bracketed : List ℕ → List ℕ
bracketed full_name = 91 ∷ (full_name ++ 93 ∷ [])
