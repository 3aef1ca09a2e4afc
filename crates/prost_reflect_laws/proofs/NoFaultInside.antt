-- Where a body stands, no fault stands at any further place.
use Rattle.std.specs.Prelude.{◌≡◌, ◌≢◌, ◌≤◌}
use Rattle.prost_reflect_laws.proofs.Common.{ℕ, suc, Bool, true, false, inl, inr, List, [], Some, None, refl, sym, ap, subst, ◌∙◌, arith, list_all, DecodeError, WireType, AreBytes, Len, Records, Record, Payload, Flat, Group, items, raw_levels, payload_levels, wire_code, payload_wire, MessageOf, GroupOf, ValueType, MapFrom, Field, Schema, passes, is_map, body, in_entry_allowed, field_allowed, allows, KeyFront, DelimitedFront, RecordFront, PayloadFront, Place, OfType, OfEntry, OfNothing, field_at, Comes, Stands, Here, Behind, InMessage, InGroup, InUnknown, InEntry, key_once, payload_once, record_parts, RecordParts}
use Rattle.prost_reflect_wire.specs.declared.key.WireType.TheVariants as wires
use Rattle.prost_reflect_laws.proofs.BodyFronts.{payload_no_end, key_not_empty, key_bytes, delimited_bytes}
use Rattle.prost_reflect_laws.proofs.Places.{inner, payload_allowed, allowed_at, allows_at, Ended, Body, NextRecord, EndNext, AtEnd, AtStop, FirstOf, first_of, read_body, Passed, body_passes, levels_inside, entry_same, len_no_end}
use Rattle.prost_reflect_laws.proofs.KindsTaken.{message_allowed, group_allowed, map_allowed, group_payload}
use Rattle.prost_reflect_laws.proofs.NoFault.{known_allowed, unknown_allowed, len_front, kind_allowed, end_no_fault, record_no_fault}

-- BEHIND A KEY

-- No records are allowed to the end of the body.
abbrev NoBody : Schema → Place → Type 0
NoBody schema place = (rs : Records) (rest : List ℕ) → Body schema place rs rest → ⊥

-- Behind the key at the front there is a payload that is allowed, and behind it a body.
record Keyed (schema : Schema) (place : Place) (n : ℕ) (w : WireType) (behind_key rest : List ℕ) : Type 0 where
  payload : Payload
  behind : List ℕ
  wire : payload_wire payload ≡ w
  front : PayloadFront n payload behind_key behind
  allowed : payload_allowed schema place n payload ≡ true
  records : Records
  body : Body schema (record place { bytes = behind }) records rest

no_end_key : (place : Place) (n : ℕ) (w : WireType) (rest : List ℕ) → EndNext place → KeyFront n w place.bytes rest → w ≢ wires.EndGroup → ⊥
no_end_key place n w rest (AtEnd e o) k other = key_not_empty n w rest (subst (λ b. KeyFront n w b rest) e k)
no_end_key place n w rest (AtStop m end o stop) k other = other (key_once n m w wires.EndGroup place.bytes rest end k stop).1

first_keyed : (schema : Schema) (place : Place) (n : ℕ) (w : WireType) (behind_key rest : List ℕ) → KeyFront n w place.bytes behind_key → FirstOf schema place rest → Keyed schema place n w behind_key rest
first_keyed schema place n w behind_key rest k f =
    let r : NextRecord schema place f.behind = f.next in
    let (a, b, c) = key_once r.number n (payload_wire r.payload) w place.bytes r.behind_key behind_key r.key k in
    record {
      payload = r.payload;
      behind = f.behind;
      wire = b;
      front = subst (λ x. PayloadFront x r.payload behind_key f.behind) a (subst (λ x. PayloadFront r.number r.payload x f.behind) c r.front);
      allowed = subst (λ x. payload_allowed schema place x r.payload ≡ true) a r.allowed;
      records = f.records;
      body = f.body;
    }

keyed : (schema : Schema) (place : Place) (n : ℕ) (w : WireType) (behind_key rest : List ℕ) (rs : Records) → KeyFront n w place.bytes behind_key → w ≢ wires.EndGroup → Body schema place rs rest → Keyed schema place n w behind_key rest
keyed schema place n w behind_key rest rs k other b = elim (first_of schema place rs rest b) [
  | inl x ↦ absurd (no_end_key place n w behind_key x k other)
  | inr f ↦ first_keyed schema place n w behind_key rest k f
]

-- AT EACH PLACE

here_none : (schema : Schema) (e : DecodeError) (place : Place) → Comes schema e place → NoBody schema place
here_none schema e place c rs rest b = elim (first_of schema place rs rest b) [
  | inl x ↦ end_no_fault schema place e x c
  | inr f ↦ record_no_fault schema place e f.behind b.small f.next c
]

behind_none : (schema : Schema) (place : Place) (r : Record) (behind : List ℕ) → RecordFront r place.bytes behind → NoBody schema (record place { bytes = behind }) → NoBody schema place
behind_none schema place r behind front none rs rest b =
    let x : RecordParts r.number r.payload place.bytes behind = record_parts r.number r.payload place.bytes behind front in
    let y : Keyed schema place r.number (payload_wire r.payload) x.mid rest = keyed schema place r.number (payload_wire r.payload) x.mid rest rs x.key (payload_no_end r.payload) b in
    let same = payload_once r.number y.payload r.payload x.mid y.behind behind y.wire y.front x.payload in
    none y.records rest (subst (λ l. Body schema (record place { bytes = l }) y.records rest) same.1 y.body)

start_no_end : wires.StartGroup ≢ wires.EndGroup
start_no_end e = let c : ◌≡◌ {A = ℕ} 3 4 = ap wire_code e in omega (arith, c)

-- a type's records one level further down
inside_allowed : (schema : Schema) (levels k T : ℕ) (rs : List Record) → levels ≡ suc k → inner schema levels T rs ≡ true → allows schema k T rs ≡ true
inside_allowed schema levels k T rs is h = sym (ap (λ (l : ℕ). inner schema l T rs) is) ∙ h

message_none : (schema : Schema) (place : Place) (n T k : ℕ) (f : Field) (body rest after : List ℕ) → field_at schema place.inside n ≡ Some f → is_map f.form ≡ false → f.value_type.kind ≡ MessageOf T → place.levels ≡ suc k
    → KeyFront n wires.LengthDelimited place.bytes rest → DelimitedFront body rest after → NoBody schema (record { bytes = body; inside = OfType T; levels = k; open_group = None }) → NoBody schema place
message_none schema place n T k f bytes rest after found m is left key d none rs end b =
    let y : Keyed schema place n wires.LengthDelimited rest end = keyed schema place n wires.LengthDelimited rest end rs key len_no_end b in
    let same : y.payload ≡ Flat (Len bytes) = (len_front n y.payload rest y.behind bytes after y.wire y.front d).0 in
    let h = kind_allowed place.levels (inner schema place.levels) f (MessageOf T) y.payload m is (known_allowed schema place n y.payload f y.allowed found) in
    let p : Passed bytes (inner schema place.levels T) = body_passes bytes (inner schema place.levels T)
    (ap (λ p. passes (body p) (inner schema place.levels T)) (sym same) ∙ (message_allowed (inner schema place.levels) T y.payload h).1) in
    let there : Place = record { bytes = bytes; inside = OfType T; levels = k; open_group = None } in
    let small : AreBytes bytes = delimited_bytes bytes rest after (key_bytes n wires.LengthDelimited place.bytes rest b.small key) d in
    none p.records [] (read_body schema there p.records small refl p.found (sym (allows_at schema there T (items p.records) refl) ∙ inside_allowed schema place.levels k T (items p.records) left p.holds))

-- a group whose records are allowed inside
group_body : (schema : Schema) (there : Place) (n : ℕ) (inside : Records) (behind : List ℕ) → AreBytes there.bytes → there.open_group ≡ Some n → PayloadFront n (Group inside) there.bytes behind
    → list_all (allowed_at schema there) (items inside) ≡ true → Body schema there inside behind
group_body schema there n inside behind small opened front allowed = record {
  small = small;
  end = front.end;
  records = front.records;
  ends = subst (λ o. Ended o front.end behind) (sym opened) front.stop;
  allowed = allowed;
}

group_none : (schema : Schema) (place : Place) (n T k : ℕ) (f : Field) (rest : List ℕ) → field_at schema place.inside n ≡ Some f → is_map f.form ≡ false → f.value_type.kind ≡ GroupOf T → place.levels ≡ suc k
    → KeyFront n wires.StartGroup place.bytes rest → NoBody schema (record { bytes = rest; inside = OfType T; levels = k; open_group = Some n }) → NoBody schema place
group_none schema place n T k f rest found m is left key none rs end b =
    let y : Keyed schema place n wires.StartGroup rest end = keyed schema place n wires.StartGroup rest end rs key start_no_end b in
    let (inside, same) = group_payload y.payload y.wire in
    let h = kind_allowed place.levels (inner schema place.levels) f (GroupOf T) y.payload m is (known_allowed schema place n y.payload f y.allowed found) in
    let holds : inner schema place.levels T (items inside) ≡ true = ap (λ p. passes (body p) (inner schema place.levels T)) (sym same) ∙ (group_allowed (inner schema place.levels) T y.payload h).1 in
    let there : Place = record { bytes = rest; inside = OfType T; levels = k; open_group = Some n } in
    none inside y.behind (group_body schema there n inside y.behind (key_bytes n wires.StartGroup place.bytes rest b.small key) refl (subst (λ p. PayloadFront n p rest y.behind) same y.front)
    (sym (allows_at schema there T (items inside) refl) ∙ inside_allowed schema place.levels k T (items inside) left holds))

unknown_none : (schema : Schema) (place : Place) (n k : ℕ) (rest : List ℕ) → field_at schema place.inside n ≡ None → place.levels ≡ suc k
    → KeyFront n wires.StartGroup place.bytes rest → NoBody schema (record { bytes = rest; inside = OfNothing; levels = k; open_group = Some n }) → NoBody schema place
unknown_none schema place n k rest found left key none rs end b =
    let y : Keyed schema place n wires.StartGroup rest end = keyed schema place n wires.StartGroup rest end rs key start_no_end b in
    let (inside, same) = group_payload y.payload y.wire in
    let fits : raw_levels inside ≤ k = omega (arith, unknown_allowed schema place n y.payload y.allowed found, ap payload_levels same, left) in
    let there : Place = record { bytes = rest; inside = OfNothing; levels = k; open_group = Some n } in
    none inside y.behind (group_body schema there n inside y.behind (key_bytes n wires.StartGroup place.bytes rest b.small key) refl (subst (λ p. PayloadFront n p rest y.behind) same y.front) (levels_inside k inside fits))

entry_none : (schema : Schema) (place : Place) (n : ℕ) (f : Field) (key_type : ValueType) (body rest after : List ℕ) → field_at schema place.inside n ≡ Some f → f.form ≡ MapFrom key_type
    → KeyFront n wires.LengthDelimited place.bytes rest → DelimitedFront body rest after → NoBody schema (record { bytes = body; inside = OfEntry key_type f.value_type; levels = place.levels; open_group = None }) → NoBody schema place
entry_none schema place n f key_type bytes rest after found form key d none rs end b =
    let y : Keyed schema place n wires.LengthDelimited rest end = keyed schema place n wires.LengthDelimited rest end rs key len_no_end b in
    let same : y.payload ≡ Flat (Len bytes) = (len_front n y.payload rest y.behind bytes after y.wire y.front d).0 in
    let test : List Record → Bool = list_all (in_entry_allowed place.levels (inner schema place.levels) key_type f.value_type) in
    let h : field_allowed place.levels (inner schema place.levels) (MapFrom key_type) f.value_type y.payload ≡ true =
    ap (λ c. field_allowed place.levels (inner schema place.levels) c f.value_type y.payload) (sym form) ∙ known_allowed schema place n y.payload f y.allowed found in
    let p : Passed bytes test = body_passes bytes test (ap (λ p. passes (body p) test) (sym same) ∙ (map_allowed place.levels (inner schema place.levels) key_type f.value_type y.payload h).2) in
    let there : Place = record { bytes = bytes; inside = OfEntry key_type f.value_type; levels = place.levels; open_group = None } in
    let small : AreBytes bytes = delimited_bytes bytes rest after (key_bytes n wires.LengthDelimited place.bytes rest b.small key) d in
    none p.records [] (read_body schema there p.records small refl p.found (sym (entry_same schema there key_type f.value_type (items p.records) refl) ∙ p.holds))

-- A body and a fault cannot both stand at a place.
pub body_no_fault : (schema : Schema) {e : DecodeError} {place : Place} → Stands schema e place → NoBody schema place
body_no_fault schema (Here {e} {place} c) = here_none schema e place c
body_no_fault schema (Behind {place} r rest front stands) = behind_none schema place r rest front (body_no_fault schema stands)
body_no_fault schema (InMessage {place} n T k f body rest after found m is left key d stands) = message_none schema place n T k f body rest after found m is left key d (body_no_fault schema stands)
body_no_fault schema (InGroup {place} n T k f rest found m is left key stands) = group_none schema place n T k f rest found m is left key (body_no_fault schema stands)
body_no_fault schema (InUnknown {place} n k rest found left key stands) = unknown_none schema place n k rest found left key (body_no_fault schema stands)
body_no_fault schema (InEntry {place} n f key_type body rest after found form level key d stands) = entry_none schema place n f key_type body rest after found form key d (body_no_fault schema stands)
