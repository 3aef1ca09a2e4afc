-- Bodies at their places: records that spell the bytes and are allowed there.
use Rattle.std.specs.Prelude.{◌&&◌, ◌≡◌, ◌≤◌, ◌⊎◌, ◌∷◌, ◌++◌, ◌≢◌, if◌then◌else◌}
use Rattle.prost_reflect_laws.proofs.Common.{ℕ, zero, suc, Bool, true, false, inl, inr, List, [], nat_eq, nat_le, Option, Some, None, refl, sym, ap, ap₂, subst, ◌∙◌, arith, append-nil, true≢false, list_all, leb-true, le-leb, and_parts, AreBytes, ◌>>=◌, Len, Records, NoRecords, PlainRecord, GroupRecord, Record, record_at, Payload, Flat, Group, before, items, raw_levels, payload_levels, payload_wire, Spells, read, wire_code, Schema, ValueType, known, passes, body, one_allowed, in_entry_allowed, field_allowed, record_allowed, allows, KeyFront, PayloadFront, Place, OfType, OfEntry, entry_field, read_spells, record_parts, RecordParts, first_parts, FrontParts, items_before}
use Rattle.prost_reflect_wire.specs.declared.key.WireType.TheVariants as wires
pub use Rattle.prost_reflect_laws.specs.Bodies.{inner, payload_allowed, allowed_at, Ended, Body}
use Rattle.prost_reflect_laws.proofs.BodyFronts.{none_first, key_bytes, payload_bytes}

pub len_no_end : wires.LengthDelimited ≢ wires.EndGroup
len_no_end e = let c : ◌≡◌ {A = ℕ} 2 4 = ap wire_code e in omega (arith, c)

-- WHAT IS ALLOWED AT A PLACE

allows_inner : (schema : Schema) (k T : ℕ) (rs : List Record) → allows schema k T rs ≡ list_all (record_allowed k (inner schema k) (known schema T)) rs
unfolding allows
allows_inner schema zero T rs = refl
allows_inner schema (suc k) T rs = refl

pub allows_at : (schema : Schema) (place : Place) (T : ℕ) (rs : List Record) → place.inside ≡ OfType T → allows schema place.levels T rs ≡ list_all (allowed_at schema place) rs
allows_at schema place T rs is = allows_inner schema place.levels T rs ∙ ap (λ i. list_all (allowed_at schema (record place { inside = i })) rs) (sym is)

-- BODIES

-- One record that is allowed at the place comes next.
pub record NextRecord (schema : Schema) (place : Place) (behind : List ℕ) : Type 0 where
  pub number : ℕ
  pub payload : Payload
  pub behind_key : List ℕ
  pub key : KeyFront number (payload_wire payload) place.bytes behind_key
  pub front : PayloadFront number payload behind_key behind
  pub allowed : payload_allowed schema place number payload ≡ true

-- Nothing comes next, or the end key of the open group.
pub data EndNext (place : Place) : Type 0 where
  AtEnd : place.bytes ≡ [] → place.open_group ≡ None → EndNext place
  AtStop : (n : ℕ) (rest : List ℕ) → place.open_group ≡ Some n → KeyFront n wires.EndGroup place.bytes rest → EndNext place

pub record FirstOf (schema : Schema) (place : Place) (rest : List ℕ) : Type 0 where
  pub behind : List ℕ
  pub next : NextRecord schema place behind
  pub records : Records
  pub body : Body schema (record place { bytes = behind }) records rest

end_next : (place : Place) (end rest : List ℕ) (opened : Option ℕ) → place.open_group ≡ opened → place.bytes ≡ end → Ended opened end rest → EndNext place
end_next place end rest None is at e = AtEnd (at ∙ e.0) is
end_next place end rest (Some n) is at e = AtStop n rest is (subst (λ b. KeyFront n wires.EndGroup b rest) (sym at) e)

module _ (schema : Schema) (place : Place) where
  first_behind : (n : ℕ) (p : Payload) (rs : Records) (rest : List ℕ) → Body schema place (before (record_at n p) rs) rest → FirstOf schema place rest
  first_behind n p rs rest b =
      let f : FrontParts (record_at n p) rs place.bytes b.end = first_parts (record_at n p) rs place.bytes b.end b.records in
      let r : RecordParts n p place.bytes f.mid = record_parts n p place.bytes f.mid f.first in
      let allowed = and_parts (payload_allowed schema place n p) (list_all (allowed_at schema place) (items rs)) (ap (list_all (allowed_at schema place)) (sym (items_before (record_at n p) rs)) ∙ b.allowed) in
      record {
        behind = f.mid;
        next = record { number = n; payload = p; behind_key = r.mid; key = r.key; front = r.payload; allowed = allowed.0 };
        records = rs;
        body = record { small = payload_bytes n p r.mid f.mid (key_bytes n (payload_wire p) place.bytes r.mid b.small r.key) r.payload; end = b.end; records = f.others; ends = b.ends; allowed = allowed.1 };
      }

  -- What comes next where a body stands.
  pub first_of : (rs : Records) (rest : List ℕ) → Body schema place rs rest → EndNext place ⊎ FirstOf schema place rest
  first_of NoRecords rest b = inl (end_next place b.end rest place.open_group refl (none_first place.bytes b.end b.records) b.ends)
  first_of (PlainRecord n p rs) rest b = inr (first_behind n (Flat p) rs rest b)
  first_of (GroupRecord n inside rs) rest b = inr (first_behind n (Group inside) rs rest b)

  -- BODIES INSIDE

  -- Bytes that are read spell a body.
  pub read_body : (rs : Records) → AreBytes place.bytes → place.open_group ≡ None → read place.bytes ≡ Some rs → list_all (allowed_at schema place) (items rs) ≡ true → Body schema place rs []
  read_body rs small is found allowed = record {
    small = small;
    end = [];
    records = record { front = place.bytes; spelled = read_spells place.bytes rs small found; parts = sym (append-nil place.bytes) };
    ends = subst (λ o. Ended o [] []) (sym is) (refl, refl);
    allowed = allowed;
  }

  -- The bytes of a body that ends with them.
  pub body_spells : (rs : Records) (rest : List ℕ) → place.open_group ≡ None → Body schema place rs rest → Spells rs place.bytes
  body_spells rs rest is b =
      let ended : Ended None b.end rest = subst (λ o. Ended o b.end rest) is b.ends in
      let whole : place.bytes ≡ b.records.front = b.records.parts ∙ ap (λ l. b.records.front ++ l) ended.0 ∙ append-nil b.records.front in
      subst (Spells rs) (sym whole) b.records.spelled

-- In a payload's records a test holds.
pub record Passed (bytes : List ℕ) (test : List Record → Bool) : Type 0 where
  pub records : Records
  pub found : read bytes ≡ Some records
  pub holds : test (items records) ≡ true

pub body_passes : (bytes : List ℕ) (test : List Record → Bool) → passes (body (Flat (Len bytes))) test ≡ true → Passed bytes test
body_passes bytes test h = go (read bytes) refl
  where
    go : (o : Option Records) → read bytes ≡ o → Passed bytes test
    go None e = absurd (true≢false (sym h ∙ ap (λ o. passes (o >>= λ rs. Some (items rs)) test) e))
    go (Some rs) e = record { records = rs; found = e; holds = sym (ap (λ o. passes (o >>= λ rs. Some (items rs)) test) e) ∙ h }

pub passes_body : (bytes : List ℕ) (rs : Records) (test : List Record → Bool) → read bytes ≡ Some rs → test (items rs) ≡ true → passes (body (Flat (Len bytes))) test ≡ true
passes_body bytes rs test e h = ap (λ o. passes (o >>= λ rs. Some (items rs)) test) e ∙ h

-- An unknown group's records are within the levels that its own are.
pub levels_inside : (k : ℕ) (rs : Records) → raw_levels rs ≤ k → list_all (λ r. nat_le (payload_levels r.payload) k) (items rs) ≡ true
levels_inside k NoRecords h = refl
levels_inside k (PlainRecord n p rs) h = rw (le-leb 0 k (omega arith)) (levels_inside k rs h)
levels_inside k (GroupRecord n inside rs) h = rw (le-leb (suc (raw_levels inside)) k (omega arith)) (levels_inside k rs (omega arith))

pub levels_outside : (k : ℕ) (rs : Records) → list_all (λ r. nat_le (payload_levels r.payload) k) (items rs) ≡ true → raw_levels rs ≤ k
levels_outside k NoRecords h = omega arith
levels_outside k (PlainRecord n p rs) h = levels_outside k rs (and_parts (nat_le 0 k) (list_all (λ r. nat_le (payload_levels r.payload) k) (items rs)) h).1
levels_outside k (GroupRecord n inside rs) h =
    let (one, more) = and_parts (nat_le (suc (raw_levels inside)) k) (list_all (λ r. nat_le (payload_levels r.payload) k) (items rs)) h in
    let here : suc (raw_levels inside) ≤ k = leb-true (suc (raw_levels inside)) k one in
    omega (arith, here, levels_outside k rs more)

-- In an entry the numbers 1 and 2 are known.
pub entry_same : (schema : Schema) (place : Place) (key value_type : ValueType) (rs : List Record) → place.inside ≡ OfEntry key value_type →
    list_all (in_entry_allowed place.levels (inner schema place.levels) key value_type) rs ≡ list_all (allowed_at schema place) rs
entry_same schema place key value_type rs is = all rs ∙ ap (λ i. list_all (allowed_at schema (record place { inside = i })) rs) (sym is)
  where
    entry_place : Place
    entry_place = record place { inside = OfEntry key value_type }

    one : (p : Payload) (first second : Bool) →
        (if first then one_allowed (inner schema place.levels) key.kind p else if second then one_allowed (inner schema place.levels) value_type.kind p else nat_le (payload_levels p) place.levels)
        ≡ elim (if first then Some (entry_field 1 key) else if second then Some (entry_field 2 value_type) else None) [
          | None ↦ nat_le (payload_levels p) place.levels
          | Some f ↦ field_allowed place.levels (inner schema place.levels) f.form f.value_type p
        ]
    one p true second = refl
    one p false true = refl
    one p false false = refl

    all : (rs : List Record) → list_all (in_entry_allowed place.levels (inner schema place.levels) key value_type) rs ≡ list_all (allowed_at schema entry_place) rs
    all [] = refl
    all (r ∷ rs) = ap₂ ◌&&◌ (one r.payload (nat_eq r.number 1) (nat_eq r.number 2)) (all rs)
