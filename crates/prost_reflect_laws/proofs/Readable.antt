-- Records that are read of bytes have a spelling, and so have those in a payload that has one.
use Rattle.std.specs.Prelude.{◌≡◌, ◌^◌, ◌&&◌, ◌∷◌, ◌++◌}
use Rattle.prost_reflect_laws.proofs.Common.{ℕ, zero, suc, Bool, true, false, cond, List, [], map, filter, length, nat_eq, nat_lt, Option, Some, None, refl, ap, sym, ◌∙◌, subst, list_all, and_parts, and_from, none-some, same_Some, AreBytes, are_bytes, ◌>>=◌, Plain, Var, Fix64, Len, Fix32, Records, NoRecords, PlainRecord, GroupRecord, Payload, Flat, Group, Record, items, before, body_of, plain_at, read, number_valid, plain_valid, valid, payload_valid, kind_wire, Kind, ScalarOf, MessageOf, GroupOf, is_packable, or_none, plains_within, unpacked, records_in, element_payloads_in, numbered, has_number, payloads, WireType, Front, plain_sound, bind_ok, read_spells, bytes_front, bytes_behind, test_bytes}
use Rattle.prost_reflect_laws.proofs.Means.{first_valid}
use Rattle.prost_reflect_laws.proofs.SpelledValid.{spelled_plain_valid, spelled_valid}

-- INSIDE A PAYLOAD

pub body_items : (rs : Records) → body_of (items rs) ≡ rs
body_items NoRecords = refl
body_items (PlainRecord n p rest) = ap (PlainRecord n p) (body_items rest)
body_items (GroupRecord n inside rest) = ap (GroupRecord n inside) (body_items rest)

pub inside_spelled : (p : Payload) → payload_valid p ≡ true → valid (body_of (records_in p)) ≡ true
inside_spelled (Group inside) h = ap valid (body_items inside) ∙ h
inside_spelled (Flat (Var v)) h = refl
inside_spelled (Flat (Fix64 eight)) h = refl
inside_spelled (Flat (Fix32 four)) h = refl
inside_spelled (Flat (Len bytes)) h = go (read bytes) refl
  where
    go : (o : Option Records) → read bytes ≡ o → valid (body_of (or_none (o >>= λ rs. Some (items rs)))) ≡ true
    go None e = refl
    go (Some rs) e =
        let bytes_small : AreBytes bytes = test_bytes bytes (and_parts (nat_lt (length bytes) (2 ^ 64)) (are_bytes bytes) h).1 in
        ap valid (body_items rs) ∙ spelled_valid rs bytes bytes_small (read_spells bytes rs bytes_small e)

pub append_valid : (rs qs : List Record) → valid (body_of rs) ≡ true → valid (body_of qs) ≡ true → valid (body_of (rs ++ qs)) ≡ true
append_valid [] qs h k = k
append_valid (r ∷ rs) qs h k = go r.payload h (λ c. append_valid rs qs c k)
  where
    go : (p : Payload) → valid (before (record { number = r.number; payload = p }) (body_of rs)) ≡ true → (valid (body_of rs) ≡ true → valid (body_of (rs ++ qs)) ≡ true) → valid (before (record { number = r.number; payload = p }) (body_of (rs ++ qs))) ≡ true
    go (Flat p) h more =
        let (a, bc) = and_parts (number_valid r.number) (plain_valid p && valid (body_of rs)) h in
        let (b, c) = and_parts (plain_valid p) (valid (body_of rs)) bc in
        and_from _ _ a (and_from _ _ b (more c))
    go (Group inside) h more =
        let (a, bc) = and_parts (number_valid r.number) (valid inside && valid (body_of rs)) h in
        let (b, c) = and_parts (valid inside) (valid (body_of rs)) bc in
        and_from _ _ a (and_from _ _ b (more c))

pub number_spelled : (r : Record) (rs : List Record) → valid (body_of (r ∷ rs)) ≡ true → number_valid r.number ≡ true
number_spelled r rs h = go r.payload h
  where
    go : (p : Payload) → valid (before (record { number = r.number; payload = p }) (body_of rs)) ≡ true → number_valid r.number ≡ true
    go (Flat p) h = (and_parts (number_valid r.number) (plain_valid p && valid (body_of rs)) h).0
    go (Group inside) h = (and_parts (number_valid r.number) (valid inside && valid (body_of rs)) h).0

-- the payloads of a number
pub numbered_valid : (n : ℕ) (rs : List Record) → valid (body_of rs) ≡ true → list_all payload_valid (numbered n rs) ≡ true
numbered_valid n [] h = refl
numbered_valid n (r ∷ rs) h =
    let (one, more) = first_valid r rs h in
    go (nat_eq r.number n) one (numbered_valid n rs more)
  where
    go : (b : Bool) → payload_valid r.payload ≡ true → list_all payload_valid (numbered n rs) ≡ true → list_all payload_valid (payloads (cond b (r ∷ filter (has_number n) rs) (filter (has_number n) rs))) ≡ true
    go true one more = and_from _ _ one more
    go false one more = more

-- PACKED ELEMENTS

plains_valid : (fuel : ℕ) (wire : WireType) (bytes : List ℕ) (ps : List Plain) → AreBytes bytes → plains_within fuel wire bytes ≡ Some ps → list_all payload_valid (map Flat ps) ≡ true
plains_valid zero wire bytes ps h e = absurd (none-some _ e)
plains_valid (suc fuel) wire [] ps h e = ap (λ ps. list_all payload_valid (map Flat ps)) (sym (same_Some _ _ e))
plains_valid (suc fuel) wire (b ∷ bytes) ps h e =
    let (p, m, f) = bind_ok (λ p. plains_within fuel wire p.1 >>= λ rest. Some (p.0 ∷ rest)) (plain_at wire (b ∷ bytes)) ps e in
    let (rest, k, g) = bind_ok (λ rest. Some (p.0 ∷ rest)) (plains_within fuel wire p.1) ps f in
    let s : Front wire (b ∷ bytes) p.0 p.1 = plain_sound wire (b ∷ bytes) p.0 p.1 h m in
    let all : AreBytes (s.front ++ p.1) = subst AreBytes s.whole h in
    ap (λ ps. list_all payload_valid (map Flat ps)) (sym (same_Some _ _ g))
    ∙ and_from _ _ (spelled_plain_valid p.0 s.front (bytes_front s.front p.1 all) s.spells) (plains_valid fuel wire p.1 rest (bytes_behind s.front p.1 all) k)

pub elements_in_valid : (kind : Kind) (p : Payload) → payload_valid p ≡ true → list_all payload_valid (element_payloads_in kind p) ≡ true
unfolding unpacked
elements_in_valid (ScalarOf kind) (Flat (Len bytes)) h = go (is_packable kind) (unpacked kind bytes) refl
  where
    go : (b : Bool) (o : Option (List Plain)) → plains_within (suc (length bytes)) (kind_wire kind) bytes ≡ o → list_all payload_valid (cond b (map Flat (or_none o)) (Flat (Len bytes) ∷ [])) ≡ true
    go false o e = and_from _ _ h refl
    go true None e = refl
    go true (Some ps) e = plains_valid (suc (length bytes)) (kind_wire kind) bytes ps (test_bytes bytes (and_parts (nat_lt (length bytes) (2 ^ 64)) (are_bytes bytes) h).1) e
elements_in_valid (ScalarOf kind) (Flat (Var v)) h = and_from _ _ h refl
elements_in_valid (ScalarOf kind) (Flat (Fix64 eight)) h = and_from _ _ h refl
elements_in_valid (ScalarOf kind) (Flat (Fix32 four)) h = and_from _ _ h refl
elements_in_valid (ScalarOf kind) (Group inside) h = and_from _ _ h refl
elements_in_valid (MessageOf T) p h = and_from _ _ h refl
elements_in_valid (GroupOf T) p h = and_from _ _ h refl
