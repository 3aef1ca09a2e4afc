-- The records of a body are those that it was made of.
use Rattle.std.specs.Prelude.{◌≡◌, ◌∷◌}
use Rattle.prost_reflect_wire.proofs.Common.{List, [], refl, ap, ◌∙◌, Record, Records, Payload, Flat, Group, items, before, body_of}

pub items_before : (r : Record) (rest : Records) → items (before r rest) ≡ r ∷ items rest
items_before r rest = go r.payload
  where
    go : (p : Payload) → items (before (record { number = r.number; payload = p }) rest) ≡ record { number = r.number; payload = p } ∷ items rest
    go (Flat p) = refl
    go (Group inside) = refl

pub items_body : (rs : List Record) → items (body_of rs) ≡ rs
items_body [] = refl
items_body (r ∷ rs) = items_before r (body_of rs) ∙ ap (λ l. r ∷ l) (items_body rs)
