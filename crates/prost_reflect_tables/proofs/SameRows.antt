-- Rows that hold the same, wherever it lies in memory.
use Rattle.std.specs.Prelude.{◌≡◌, ◌||◌, ◌∷◌, ◌++◌}
use Rattle.prost_reflect_tables.proofs.Common.{ℕ, Bool, true, false, cond, List, [], map, Option, Some, None, String, string_bytes, Vec, refl, sym, ap, ap₂, ◌∙◌, filter, AllZip, list_any, Global, SameText, SameBytes, SameExtensionRange, SameReservedRange, SameField, SameOneof, SameEnumValue, SameEnum, SameMethod, SameService, text_or_empty, DefinitionRow, MessageParts, FlatMessageRow, FlatEnumRow, FlatServiceRow, FlatRows, Given}

-- LISTS

pub zip_maps : {X Z Y : Type 0} (R : X → Z → Type 0) (f : X → Y) (g : Z → Y) → ((x : X) (z : Z) → R x z → f x ≡ g z) → (xs : List X) (zs : List Z) → AllZip R xs zs → map f xs ≡ map g zs
zip_maps R f g each [] [] h = refl
zip_maps R f g each [] (z ∷ zs) h = absurd h
zip_maps R f g each (x ∷ xs) [] h = absurd h
zip_maps {X} {Z} {Y} R f g each (x ∷ xs) (z ∷ zs) h = ap₂ (λ (y : Y) (ys : List Y). y ∷ ys) (each x z h.0) (zip_maps R f g each xs zs h.1)

pub zip_map : {X Y : Type 0} (R : X → X → Type 0) (f : X → Y) → ((x y : X) → R x y → f x ≡ f y) → (xs ys : List X) → AllZip R xs ys → map f xs ≡ map f ys
zip_map R f = zip_maps R f f

pub zip_append : {X : Type 0} (R : X → X → Type 0) (xs ys vs ws : List X) → AllZip R xs ys → AllZip R vs ws → AllZip R (xs ++ vs) (ys ++ ws)
zip_append R [] [] vs ws h k = k
zip_append R (x ∷ xs) (y ∷ ys) vs ws h k = (h.0, zip_append R xs ys vs ws h.1 k)
zip_append R _ _ vs ws h k = absurd h

pub zip_any : {X Z : Type 0} (R : X → Z → Type 0) (p : X → Bool) (q : Z → Bool) → ((x : X) (z : Z) → R x z → p x ≡ q z) → (xs : List X) (zs : List Z) → AllZip R xs zs → list_any p xs ≡ list_any q zs
zip_any R p q each [] [] h = refl
zip_any R p q each (x ∷ xs) (z ∷ zs) h = ap₂ (λ (a b : Bool). a || b) (each x z h.0) (zip_any R p q each xs zs h.1)
zip_any R p q each _ _ h = absurd h

pub zip_filter : {X : Type 0} (R : X → X → Type 0) (p : X → Bool) → ((x y : X) → R x y → p x ≡ p y) → (xs ys : List X) → AllZip R xs ys → AllZip R (filter p xs) (filter p ys)
zip_filter R p each [] [] h = tt
zip_filter R p each [] (y ∷ ys) h = absurd h
zip_filter R p each (x ∷ xs) [] h = absurd h
zip_filter {X} R p each (x ∷ xs) (y ∷ ys) h = go (p x) (p y) (each x y h.0) h.0 (zip_filter R p each xs ys h.1)
  where
    go : (a b : Bool) → a ≡ b → R x y → AllZip R (filter p xs) (filter p ys) → AllZip R (cond a (x ∷ filter p xs) (filter p xs)) (cond b (y ∷ filter p ys) (filter p ys))
    go true true e r rest = (r, rest)
    go true false e r rest = cc
    go false true e r rest = cc
    go false false e r rest = rest

-- TEXTS AND BYTES

-- What looks at a text's bytes alone does not tell two of the same bytes apart.
pub by_text : {Y : Type 0} (f : Option (String Global) → Y) (g : List ℕ → Y) → ((s : String Global) → f (Some s) ≡ g (string_bytes s)) → (a b : Option (String Global)) → SameText a b → f a ≡ f b
by_text f g reads None None h = refl
by_text f g reads None (Some t) h = cc
by_text f g reads (Some s) None h = cc
by_text f g reads (Some s) (Some t) h = let e : string_bytes s ≡ string_bytes t = cc in reads s ∙ ap g e ∙ sym (reads t)

pub by_bytes : {Y : Type 0} (f : Option (Vec ℕ Global) → Y) (g : List ℕ → Y) → ((v : Vec ℕ Global) → f (Some v) ≡ g v.items) → (a b : Option (Vec ℕ Global)) → SameBytes a b → f a ≡ f b
by_bytes f g reads None None h = refl
by_bytes f g reads None (Some w) h = cc
by_bytes f g reads (Some v) None h = cc
by_bytes f g reads (Some v) (Some w) h = let e : v.items ≡ w.items = cc in reads v ∙ ap g e ∙ sym (reads w)

pub text_same : (a b : Option (String Global)) → SameText a b → text_or_empty a ≡ text_or_empty b
text_same = by_text text_or_empty (λ bytes. bytes) (λ s. refl)

-- ROWS

pub record SameRow {R : Type 0} (Same : R → R → Type 0) (d e : DefinitionRow R) : Type 0 where
  pub full_name : d.full_name ≡ e.full_name
  pub path : d.path ≡ e.path
  pub file : d.file ≡ e.file
  pub is_proto3 : d.is_proto3 ≡ e.is_proto3
  pub parent : d.parent ≡ e.parent
  pub proto : Same d.proto e.proto

pub record SameParts (m n : MessageParts) : Type 0 where
  pub name : SameText m.name n.name
  pub extension_range : AllZip SameExtensionRange m.extension_range n.extension_range
  pub reserved_range : AllZip SameReservedRange m.reserved_range n.reserved_range
  pub reserved_name : map string_bytes m.reserved_name ≡ map string_bytes n.reserved_name
  pub options : SameBytes m.options n.options

pub record SameMessageRow (m n : FlatMessageRow) : Type 0 where
  pub definition : SameRow SameParts m.definition n.definition
  pub fields : AllZip (SameRow SameField) m.fields n.fields
  pub oneofs : AllZip (SameRow SameOneof) m.oneofs n.oneofs

pub record SameEnumRow (d e : FlatEnumRow) : Type 0 where
  pub definition : SameRow SameEnum d.definition e.definition
  pub values : AllZip (SameRow SameEnumValue) d.values e.values

pub record SameServiceRow (s t : FlatServiceRow) : Type 0 where
  pub definition : SameRow SameService s.definition t.definition
  pub methods : AllZip (SameRow SameMethod) s.methods t.methods

pub record SameRows (a b : FlatRows) : Type 0 where
  pub messages : AllZip SameMessageRow a.messages b.messages
  pub enums : AllZip SameEnumRow a.enums b.enums
  pub extensions : AllZip (SameRow SameField) a.extensions b.extensions
  pub services : AllZip SameServiceRow a.services b.services

pub record SameGiven (a b : Given) : Type 0 where
  pub messages : AllZip SameMessageRow a.messages b.messages
  pub enums : AllZip SameEnumRow a.enums b.enums
  pub extensions : AllZip (SameRow SameField) a.extensions b.extensions
