-- Flat lists behind others.
use Rattle.std.specs.Prelude.{◌≡◌}
use Rattle.prost_reflect_tables.proofs.Common.{ap, ◌∙◌, append_assoc, FlatRows, behind}

pub same_rows : (a b : FlatRows) → a.messages ≡ b.messages → a.enums ≡ b.enums → a.extensions ≡ b.extensions → a.services ≡ b.services → a ≡ b
same_rows a b m e x s =
    ap (λ v. record a { messages = v }) m
    ∙ (ap (λ v. record a { messages = b.messages; enums = v }) e
    ∙ (ap (λ v. record b { services = a.services; extensions = v }) x
    ∙ ap (λ v. record b { services = v }) s))

pub behind_behind : (a b c : FlatRows) → behind (behind a b) c ≡ behind a (behind b c)
behind_behind a b c = same_rows _ _ (append_assoc a.messages b.messages c.messages) (append_assoc a.enums b.enums c.enums) (append_assoc a.extensions b.extensions c.extensions) (append_assoc a.services b.services c.services)
