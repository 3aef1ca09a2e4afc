-- How a path is walked.
use Rattle.std.specs.Prelude.{◌≡◌, ◌-◌, ◌≤◌, ◌∷◌}
use Rattle.prost_reflect_pool.proofs.Common.{ℕ, ℤ, pos, List, [], length, get_or, take, drop, Option, None, Some, refl, sym, ap, ap₂, ◌∙◌, arith, length-drop, option_map, take_all, slice_get_past, FileDescriptorProto, AnyRecord, FileRecord, member, record_below, record_in}
use mir.Syntax.{w32}
use mir.Val.{to_z, of_z}

pub below_none : (path : List ℤ) → record_below None path ≡ None
below_none [] = refl
below_none (number ∷ []) = refl
below_none (number ∷ place ∷ path) = below_none path

pub walked : (r : AnyRecord) (path : List ℤ) (d e : ℤ) → 2 ≤ length path → record_below (Some r) path ≡ record_below (member (get_or path 0 d) (get_or path 1 e) r) (drop 2 path)
walked r [] d e h = absurd (omega arith)
walked r (number ∷ []) d e h = absurd (omega arith)
walked r (number ∷ place ∷ path) d e h = refl

-- A number of 32 bits as code holds it.
abbrev pub held : ℤ → ℤ
held z = to_z w32 (of_z w32 z)

-- Where the first two numbers name a record, the rest goes on from it.
pub walked_on : (r s : AnyRecord) (path : List ℤ) (result : Option AnyRecord) → 2 ≤ length path → held (get_or path 0 (pos 0)) ≡ get_or path 0 (pos 0) → held (get_or path 1 (pos 0)) ≡ get_or path 1 (pos 0) →
    Some s ≡ member (held (get_or path 0 (pos 0))) (held (get_or path 1 (pos 0))) r → result ≡ record_below (Some s) (take (length path - 2) (drop 2 path)) → result ≡ record_below (Some r) path
walked_on r s path result n first second h k =
    let all : take (length path - 2) (drop 2 path) ≡ drop 2 path = take_all (length path - 2) (drop 2 path) (omega (arith, length-drop 2 path)) in
    let here : Some s ≡ member (get_or path 0 (pos 0)) (get_or path 1 (pos 0)) r = h ∙ ap₂ (λ (a b : ℤ). member a b r) first second in
    k ∙ (ap (record_below (Some s)) all ∙ (ap (λ (o : Option AnyRecord). record_below o (drop 2 path)) here ∙ sym (walked r path (pos 0) (pos 0) n)))

pub walked_off : (r : AnyRecord) (path : List ℤ) → 2 ≤ length path → held (get_or path 0 (pos 0)) ≡ get_or path 0 (pos 0) → held (get_or path 1 (pos 0)) ≡ get_or path 1 (pos 0) →
    None ≡ member (held (get_or path 0 (pos 0))) (held (get_or path 1 (pos 0))) r → None ≡ record_below (Some r) path
walked_off r path n first second h =
    let here : None ≡ member (get_or path 0 (pos 0)) (get_or path 1 (pos 0)) r = h ∙ ap₂ (λ (a b : ℤ). member a b r) first second in
    sym (below_none (drop 2 path)) ∙ (ap (λ (o : Option AnyRecord). record_below o (drop 2 path)) here ∙ sym (walked r path (pos 0) (pos 0) n))

-- No record is in a file that is not there.
pub unfiled : (files : List FileDescriptorProto) (file : ℕ) (path : List ℤ) → length files ≤ file → None ≡ record_in files file path
unfiled files file path past = sym (below_none path) ∙ ap (λ (f : Option FileDescriptorProto). record_below (option_map FileRecord f) path) (sym (slice_get_past files file past))
