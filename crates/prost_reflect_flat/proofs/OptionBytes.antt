-- The bool options in bytes, record by record.
use Rattle.std.specs.Prelude.{◌≡◌, ◌≢◌, ◌<◌, ◌≤◌, ◌∷◌, ◌&&◌}
use Rattle.prost_reflect_flat.proofs.Common.{ℕ, max, Bool, true, false, cond, not, List, [], length, Option, Some, None, refl, sym, ap, subst, ◌∙◌, arith, append-nil, nat_eq, nat_le, option_map, list_all, leb-true, eq-eqb, ne_eqb, AreBytes, Var, Fix64, Len, Fix32, Payload, Flat, Group, Record, record_at, Records, NoRecords, PlainRecord, GroupRecord, Spells, before, items, payload_wire, raw_levels, payload_levels, read, bool_of, bool_among, bool_in}
use Rattle.prost_reflect_wire.specs.declared.error.DecodeError.{DecodeError}
use Rattle.prost_reflect_wire.specs.declared.key.WireType.{WireType}
use Rattle.prost_reflect_wire.specs.declared.key.WireType.TheVariants as wires
use Rattle.prost_reflect_wire.specs.Grammar.{LEVEL_LIMIT}
use Rattle.prost_reflect_wire.specs.Front.{VarintFront, VarintFault, KeyFront, PayloadFront, ValueFront, RecordFront, RecordsFront}
use Rattle.prost_reflect_wire.specs.Fault.{StandsInField}
use Rattle.prost_reflect_wire.proofs.Reading.{spelled_read}
use Rattle.prost_reflect_wire.proofs.Sound.{read_spells}
use Rattle.prost_reflect_wire.proofs.ByteLists.{bytes_behind}
use Rattle.prost_reflect_laws.proofs.BodyFronts.{key_not_empty}
use Rattle.prost_reflect_wire.proofs.VarintFronts.{varint_once, varint_no_fault}
use Rattle.prost_reflect_wire.proofs.RecordFronts.{record_parts, first_front, first_parts, record_once, record_front, levels_first}
use Rattle.prost_reflect_wire.proofs.FieldFaults.{field_no_fault}
use Rattle.prost_reflect_wire.proofs.Bodies.{items_before}
use Rattle.prost_reflect_tables.specs.OptionFaults.{suits_option, records_suit_option, bytes_suit_option}

-- A VALUE

varint_of : (v : ℕ) (n : ℕ) (bytes rest : List ℕ) → PayloadFront n (Flat (Var v)) bytes rest → VarintFront v bytes rest
varint_of v n bytes rest f = record { front = f.front; varint = f.spelled; parts = f.parts }

pub bool_of_varint : (n levels : ℕ) (p : Payload) (v : ℕ) (bytes rest end : List ℕ) → ValueFront n wires.Varint levels p bytes rest → VarintFront v bytes end → Some (not (nat_eq v 0)) ≡ bool_of p
bool_of_varint n levels (Flat (Var u)) v bytes rest end f g = ap (λ x. Some (not (nat_eq x 0))) (varint_once v u bytes end rest g (varint_of u n bytes rest f.front)).0
bool_of_varint n levels (Flat (Fix64 b)) v bytes rest end f g = absurd (let e : payload_wire (Flat (Fix64 b)) ≡ wires.Varint = f.wire in cc)
bool_of_varint n levels (Flat (Len b)) v bytes rest end f g = absurd (let e : payload_wire (Flat (Len b)) ≡ wires.Varint = f.wire in cc)
bool_of_varint n levels (Flat (Fix32 b)) v bytes rest end f g = absurd (let e : payload_wire (Flat (Fix32 b)) ≡ wires.Varint = f.wire in cc)
bool_of_varint n levels (Group inside) v bytes rest end f g = absurd (let e : payload_wire (Group inside) ≡ wires.Varint = f.wire in cc)

pub bool_of_fault : (n levels : ℕ) (p : Payload) (e : DecodeError) (bytes rest : List ℕ) → ValueFront n wires.Varint levels p bytes rest → VarintFault e bytes → None ≡ bool_of p
bool_of_fault n levels (Flat (Var u)) e bytes rest f g = absurd (varint_no_fault e u bytes rest (varint_of u n bytes rest f.front) g)
bool_of_fault n levels (Flat (Fix64 b)) e bytes rest f g = refl
bool_of_fault n levels (Flat (Len b)) e bytes rest f g = refl
bool_of_fault n levels (Flat (Fix32 b)) e bytes rest f g = refl
bool_of_fault n levels (Group inside) e bytes rest f g = refl

-- RECORDS

pub whole_front : (rs : Records) (bytes : List ℕ) → Spells rs bytes → RecordsFront rs bytes []
whole_front rs bytes s = record { front = bytes; spelled = s; parts = sym (append-nil bytes) }

pub front_whole : (rs : Records) (bytes : List ℕ) → RecordsFront rs bytes [] → Spells rs bytes
front_whole rs bytes f = subst (λ (l : List ℕ). Spells rs l) (sym (f.parts ∙ append-nil f.front)) f.spelled

bytes_left : (r : Record) (bytes rest : List ℕ) → AreBytes bytes → RecordFront r bytes rest → AreBytes rest
bytes_left r bytes rest small f = bytes_behind f.front rest (subst AreBytes f.parts small)

not_empty : (n : ℕ) (p : Payload) (bytes rest : List ℕ) → RecordFront (record_at n p) bytes rest → bytes ≡ [] → ⊥
not_empty n p bytes rest f e = let parts = record_parts n p bytes rest f in key_not_empty n (payload_wire p) parts.mid (subst (λ (l : List ℕ). KeyFront n (payload_wire p) l parts.mid) e parts.key)

-- What stands behind the first record.
behind_first : (n m : ℕ) (p q : Payload) (qs : Records) (bytes rest : List ℕ) → RecordFront (record_at n p) bytes rest → Spells (before (record_at m q) qs) bytes → read rest ≡ Some qs
behind_first n m p q qs bytes rest f s =
    let parts = first_parts (record_at m q) qs bytes [] (whole_front (before (record_at m q) qs) bytes s) in
    let same = record_once n m p q bytes rest parts.mid f parts.first in
    spelled_read qs rest (front_whole qs rest (subst (λ (l : List ℕ). RecordsFront qs l []) (sym same.2) parts.others))

none_first : {A : Type 0} (o : Option A) (x : A) → o ≡ None → o ≡ Some x → ⊥
none_first o x e d = absurd cc

-- A record in front of bytes is read in front of their records.
read_before : (n : ℕ) (p : Payload) (bytes rest : List ℕ) → AreBytes bytes → RecordFront (record_at n p) bytes rest → read bytes ≡ option_map (before (record_at n p)) (read rest)
read_before n p bytes rest small f = go (read rest) refl (read bytes) refl
  where
    go : (o : Option Records) → read rest ≡ o → (q : Option Records) → read bytes ≡ q → q ≡ option_map (before (record_at n p)) o
    go (Some rs) e q d =
        let others = whole_front rs rest (read_spells rest rs (bytes_left (record_at n p) bytes rest small f) e) in
        sym d ∙ spelled_read (before (record_at n p) rs) bytes (front_whole (before (record_at n p) rs) bytes (first_front (record_at n p) rs bytes rest [] f others))
    go None e None d = refl
    go None e (Some NoRecords) d = absurd (not_empty n p bytes rest f (read_spells bytes NoRecords small d))
    go None e (Some (PlainRecord m q qs)) d = absurd (none_first (read rest) qs e (behind_first n m p (Flat q) qs bytes rest f (read_spells bytes (PlainRecord m q qs) small d)))
    go None e (Some (GroupRecord m inside qs)) d = absurd (none_first (read rest) qs e (behind_first n m p (Group inside) qs bytes rest f (read_spells bytes (GroupRecord m inside qs) small d)))

within_more : (a b limit : ℕ) → a ≤ limit → nat_le (max a b) limit ≡ nat_le b limit
within_more a b limit h = grind arith

pub bool_step : (number n : ℕ) (p : Payload) (found : Option Bool) (bytes rest : List ℕ) → AreBytes bytes → RecordFront (record_at n p) bytes rest → payload_levels p ≤ LEVEL_LIMIT →
    bool_in number found bytes ≡ bool_in number (cond (nat_eq n number) (bool_of p) found) rest
bool_step number n p found bytes rest small f low = ap (bool_among number found) (read_before n p bytes rest small f) ∙ go (read rest)
  where
    go : (o : Option Records) → bool_among number found (option_map (before (record_at n p)) o) ≡ bool_among number (cond (nat_eq n number) (bool_of p) found) o
    go None = refl
    go (Some rs) = rw (items_before (record_at n p) rs, levels_first (record_at n p) rs, within_more (payload_levels p) (raw_levels rs) LEVEL_LIMIT low) refl

-- Where a fault stands at the front, no records within the limit are there.

first_beyond : (n : ℕ) (p : Payload) (e : DecodeError) (qs : Records) (bytes : List ℕ) → Spells (before (record_at n p) qs) bytes → StandsInField LEVEL_LIMIT e bytes →
    nat_le (raw_levels (before (record_at n p) qs)) LEVEL_LIMIT ≡ false
first_beyond n p e qs bytes s stands =
    let parts = first_parts (record_at n p) qs bytes [] (whole_front (before (record_at n p) qs) bytes s) in
    choice (nat_le (raw_levels (before (record_at n p) qs)) LEVEL_LIMIT) refl parts.mid parts.first
  where
    choice : (b : Bool) → nat_le (raw_levels (before (record_at n p) qs)) LEVEL_LIMIT ≡ b → (mid : List ℕ) → RecordFront (record_at n p) bytes mid → b ≡ false
    choice true is mid first = let low = leb-true _ _ is in absurd (field_no_fault e (record_at n p) LEVEL_LIMIT bytes mid first (omega (arith, low, levels_first (record_at n p) qs)) stands)
    choice false is mid first = refl

read_beyond : (e : DecodeError) (bytes : List ℕ) → AreBytes bytes → 0 < length bytes → StandsInField LEVEL_LIMIT e bytes → (rs : Records) → read bytes ≡ Some rs → nat_le (raw_levels rs) LEVEL_LIMIT ≡ false
read_beyond e bytes small some stands NoRecords d = let empty : bytes ≡ [] = read_spells bytes NoRecords small d in absurd (omega (arith, ap length empty))
read_beyond e bytes small some stands (PlainRecord m q qs) d = first_beyond m (Flat q) e qs bytes (read_spells bytes (PlainRecord m q qs) small d) stands
read_beyond e bytes small some stands (GroupRecord m inside qs) d = first_beyond m (Group inside) e qs bytes (read_spells bytes (GroupRecord m inside qs) small d) stands

pub bool_none : (number : ℕ) (found : Option Bool) (e : DecodeError) (bytes : List ℕ) → AreBytes bytes → 0 < length bytes → StandsInField LEVEL_LIMIT e bytes → bool_in number found bytes ≡ None
bool_none number found e bytes small some stands = go (read bytes) refl
  where
    go : (o : Option Records) → read bytes ≡ o → bool_among number found o ≡ None
    go None d = refl
    go (Some rs) d = rw (read_beyond e bytes small some stands rs d) refl

-- AT A KEY

record_here : (n : ℕ) (w : WireType) (p : Payload) (bytes after rest : List ℕ) → KeyFront n w bytes after → ValueFront n w LEVEL_LIMIT p after rest → RecordFront (record_at n p) bytes rest
record_here n w p bytes after rest k v = record_front n p bytes after rest (subst (λ x. KeyFront n x bytes after) (sym v.wire) k) v.front

pub rest_small : (n : ℕ) (w : WireType) (p : Payload) (bytes after rest : List ℕ) → AreBytes bytes → KeyFront n w bytes after → ValueFront n w LEVEL_LIMIT p after rest → AreBytes rest
rest_small n w p bytes after rest small k v = bytes_left (record_at n p) bytes rest small (record_here n w p bytes after rest k v)

-- A record of the number says the bool anew.
pub bool_chosen : (number n : ℕ) (w : WireType) (p : Payload) (found : Option Bool) (bytes after rest : List ℕ) → AreBytes bytes → KeyFront n w bytes after → ValueFront n w LEVEL_LIMIT p after rest → n ≡ number →
    bool_in number (bool_of p) rest ≡ bool_in number found bytes
bool_chosen number n w p found bytes after rest small k v same =
    let step = bool_step number n p found bytes rest small (record_here n w p bytes after rest k v) v.within in
    sym (step ∙ ap (λ b. bool_in number (cond b (bool_of p) found) rest) (eq-eqb n number same))

-- A record of another number changes nothing.
pub bool_passed : (number n : ℕ) (w : WireType) (p : Payload) (found : Option Bool) (bytes after rest : List ℕ) → AreBytes bytes → KeyFront n w bytes after → ValueFront n w LEVEL_LIMIT p after rest → n ≢ number →
    bool_in number found rest ≡ bool_in number found bytes
bool_passed number n w p found bytes after rest small k v other =
    let step = bool_step number n p found bytes rest small (record_here n w p bytes after rest k v) v.within in
    sym (step ∙ ap (λ b. bool_in number (cond b (bool_of p) found) rest) (ne_eqb n number other))

-- Nothing is left.
pub bool_left : (number : ℕ) (found : Option Bool) (bytes : List ℕ) → length bytes ≡ 0 → bool_in number found bytes ≡ found
unfolding read
bool_left number found [] h = refl
bool_left number found (b ∷ bytes) h = absurd (omega arith)

-- RECORDS THAT SUIT AN OPTION

and_false : (a : Bool) → false ≡ (a && false)
and_false true = refl
and_false false = refl

and_swap : (a b c : Bool) → (b && (a && c)) ≡ (a && (b && c))
and_swap true true c = refl
and_swap true false c = refl
and_swap false true c = refl
and_swap false false c = refl

suit_step : (number n : ℕ) (p : Payload) (bytes rest : List ℕ) → AreBytes bytes → RecordFront (record_at n p) bytes rest → payload_levels p ≤ LEVEL_LIMIT →
    bytes_suit_option number bytes ≡ (suits_option number (record_at n p) && bytes_suit_option number rest)
suit_step number n p bytes rest small f low = ap (records_suit_option number) (read_before n p bytes rest small f) ∙ go (read rest)
  where
    go : (o : Option Records) → records_suit_option number (option_map (before (record_at n p)) o) ≡ (suits_option number (record_at n p) && records_suit_option number o)
    go None = and_false (suits_option number (record_at n p))
    go (Some rs) =
        rw (items_before (record_at n p) rs, levels_first (record_at n p) rs, within_more (payload_levels p) (raw_levels rs) LEVEL_LIMIT low)
        (and_swap (suits_option number (record_at n p)) (nat_le (raw_levels rs) LEVEL_LIMIT) (list_all (suits_option number) (items rs)))

module _ (number n : ℕ) (w : WireType) (p : Payload) (bytes after rest : List ℕ) where
  suit_here : AreBytes bytes → KeyFront n w bytes after → ValueFront n w LEVEL_LIMIT p after rest → (b : Bool) → b ≡ suits_option number (record_at n p) →
      bytes_suit_option number bytes ≡ (b && bytes_suit_option number rest)
  suit_here small k v b is = suit_step number n p bytes rest small (record_here n w p bytes after rest k v) v.within ∙ ap (λ x. x && bytes_suit_option number rest) (sym is)

  pub suit_passed : AreBytes bytes → KeyFront n w bytes after → ValueFront n w LEVEL_LIMIT p after rest → true ≡ suits_option number (record_at n p) →
      bytes_suit_option number rest ≡ bytes_suit_option number bytes
  suit_passed small k v is = sym (suit_here small k v true is)

  pub suit_refused : AreBytes bytes → KeyFront n w bytes after → ValueFront n w LEVEL_LIMIT p after rest → false ≡ suits_option number (record_at n p) →
      bytes_suit_option number bytes ≡ false
  suit_refused small k v is = suit_here small k v false is

pub suit_none : (number : ℕ) (e : DecodeError) (bytes : List ℕ) → AreBytes bytes → 0 < length bytes → StandsInField LEVEL_LIMIT e bytes → bytes_suit_option number bytes ≡ false
suit_none number e bytes small some stands = go (read bytes) refl
  where
    go : (o : Option Records) → read bytes ≡ o → records_suit_option number o ≡ false
    go None d = refl
    go (Some rs) d = rw (read_beyond e bytes small some stands rs d) refl

pub suit_left : (number : ℕ) (bytes : List ℕ) → length bytes ≡ 0 → bytes_suit_option number bytes ≡ true
unfolding read
suit_left number [] h = refl
suit_left number (b ∷ bytes) h = absurd (omega arith)
