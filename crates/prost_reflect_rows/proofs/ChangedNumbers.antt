-- The numbers of the records of bytes, noted one by one.
use Rattle.std.specs.Prelude.{◌≡◌, ◌<◌, ◌≤◌, ◌∷◌}
use Rattle.prost_reflect_rows.proofs.Common.{ℕ, max, Bool, true, List, [], length, refl, ap, sym, subst, ◌∙◌, arith, list_all, BTreeSet, and_from, WireType, Payload, Record, record_at, Spells, body_of, raw_levels, payload_wire, payload_levels, KeyFront, ValueFront, FieldFront, Schema, LEVEL_LIMIT, allows, items_body, record_parts, first_parts, levels_first, field_front, field_once, key_shorter, payload_no_longer, greatest_level, has, BeginsWith, HasNumbersOf}
use Rattle.prost_reflect_laws.proofs.Older.{allowed_levels, items_level}
use Rattle.prost_reflect_flat.proofs.OptionBytes.{whole_front, front_whole}

-- What is left of the records of the bytes spells the rest, and the numbers of the others are in the set.
pub record Left (rest : List ℕ) (numbers : BTreeSet ℕ) (rs : List Record) : Type 0 where
  records : List Record
  spelled : Spells (body_of records) rest
  low : raw_levels (body_of records) ≤ LEVEL_LIMIT
  noted : (test : ℕ → Bool) → ((n : ℕ) → has numbers n ≡ true → test n ≡ true) → list_all (λ r. test r.number) records ≡ true → list_all (λ r. test r.number) rs ≡ true

pub record Noted (bytes rest : List ℕ) (numbers : BTreeSet ℕ) : Type 0 where
  each : (rs : List Record) → Spells (body_of rs) bytes → raw_levels (body_of rs) ≤ LEVEL_LIMIT → Left rest numbers rs

pub nothing_noted : (bytes : List ℕ) (numbers : BTreeSet ℕ) → Noted bytes bytes numbers
nothing_noted bytes numbers = record { each = λ rs s low. record { records = rs; spelled = s; low = low; noted = λ test h all. all } }

-- the key and the value of the record in front
pub record Keyed (r : Record) (bytes rest : List ℕ) : Type 0 where
  pub mid : List ℕ
  pub key : KeyFront r.number (payload_wire r.payload) bytes mid
  pub value : ValueFront r.number (payload_wire r.payload) LEVEL_LIMIT r.payload mid rest

pub keyed : (r : Record) (bytes rest : List ℕ) → FieldFront LEVEL_LIMIT r bytes rest → Keyed r bytes rest
keyed r bytes rest f = let parts = record_parts r.number r.payload bytes rest f.front in record { mid = parts.mid; key = parts.key; value = record { wire = refl; front = parts.payload; within = f.within } }

-- the same value behind the same key
pub value_moved : (n m : ℕ) (w v : WireType) (p : Payload) (bytes after rest : List ℕ) → (n ≡ m) × (w ≡ v) × (bytes ≡ after) → ValueFront m v LEVEL_LIMIT p after rest → ValueFront n w LEVEL_LIMIT p bytes rest
value_moved n m w v p bytes after rest same f =
    subst (λ (l : List ℕ). ValueFront n w LEVEL_LIMIT p l rest) (sym same.2) (subst (λ x. ValueFront n x LEVEL_LIMIT p after rest) (sym same.1) (subst (λ (i : ℕ). ValueFront i v LEVEL_LIMIT p after rest) (sym same.0) f))

pub begins_with : (n : ℕ) (w : WireType) (p : Payload) (bytes mid rest : List ℕ) → KeyFront n w bytes mid → ValueFront n w LEVEL_LIMIT p mid rest → BeginsWith n bytes rest
begins_with n w p bytes mid rest k v = record { payload = p; front = field_front n w LEVEL_LIMIT p bytes mid rest k v }

pub rest_shorter : (n : ℕ) (bytes rest : List ℕ) → BeginsWith n bytes rest → length rest < length bytes
rest_shorter n bytes rest b =
    let k = keyed (record_at n b.payload) bytes rest b.front in
    omega (arith, key_shorter n (payload_wire b.payload) bytes k.mid k.key, payload_no_longer n b.payload k.mid rest k.value.front)

record First (q : Record) (qs : List Record) (rest : List ℕ) : Type 0 where
  mid : List ℕ
  front : FieldFront LEVEL_LIMIT q rest mid
  others : Spells (body_of qs) mid
  low : raw_levels (body_of qs) ≤ LEVEL_LIMIT

first_of : (q : Record) (qs : List Record) (rest : List ℕ) → Spells (body_of (q ∷ qs)) rest → raw_levels (body_of (q ∷ qs)) ≤ LEVEL_LIMIT → First q qs rest
first_of q qs rest s low =
    let parts = first_parts q (body_of qs) rest [] (whole_front (body_of (q ∷ qs)) rest s) in
    let levels : raw_levels (body_of (q ∷ qs)) ≡ max (payload_levels q.payload) (raw_levels (body_of qs)) = levels_first q (body_of qs) in
    record {
      mid = parts.mid;
      front = record { front = parts.first; within = omega (arith, levels, low) };
      others = front_whole (body_of qs) parts.mid parts.others;
      low = omega (arith, levels, low);
    }

-- one number more
pub number_noted : (bytes rest after : List ℕ) (old new : BTreeSet ℕ) (number : ℕ) → Noted bytes rest old → BeginsWith number rest after →
    has new number ≡ true → ((k : ℕ) → has old k ≡ true → has new k ≡ true) → Noted bytes after new
number_noted bytes rest after old new number noted found added stay = record { each = λ rs s low. let l = noted.each rs s low in go rs l.records l.spelled l.low l.noted }
  where
    go : (rs qs : List Record) → Spells (body_of qs) rest → raw_levels (body_of qs) ≤ LEVEL_LIMIT →
        ((test : ℕ → Bool) → ((n : ℕ) → has old n ≡ true → test n ≡ true) → list_all (λ r. test r.number) qs ≡ true → list_all (λ r. test r.number) rs ≡ true) → Left after new rs
    go rs [] s low all = let empty : rest ≡ [] = s in absurd (omega (arith, ap length empty, rest_shorter number rest after found))
    go rs (q ∷ qs) s low all =
        let first = first_of q qs rest s low in
        let (is, behind) = field_once LEVEL_LIMIT (record_at number found.payload) q rest after first.mid found.front first.front in
        let same : number ≡ q.number = ap (λ (r : Record). r.number) is in
        record {
          records = qs;
          spelled = subst (Spells (body_of qs)) (sym behind) first.others;
          low = first.low;
          noted = λ test h more. all test (λ n x. h n (stay n x)) (and_from _ _ (h q.number (ap (has new) (sym same) ∙ added)) more);
        }

-- no record is left
pub all_noted : (bytes rest : List ℕ) (numbers : BTreeSet ℕ) → Noted bytes rest numbers → ((r : Record) (end : List ℕ) → FieldFront LEVEL_LIMIT r rest end → ⊥) → HasNumbersOf bytes numbers
all_noted bytes rest numbers noted none = record { each = λ rs s low. let l = noted.each rs s low in go rs l.records l.spelled l.low l.noted }
  where
    go : (rs qs : List Record) → Spells (body_of qs) rest → raw_levels (body_of qs) ≤ LEVEL_LIMIT →
        ((test : ℕ → Bool) → ((n : ℕ) → has numbers n ≡ true → test n ≡ true) → list_all (λ r. test r.number) qs ≡ true → list_all (λ r. test r.number) rs ≡ true) → list_all (λ r. has numbers r.number) rs ≡ true
    go rs [] s low all = all (has numbers) (λ n h. h) refl
    go rs (q ∷ qs) s low all = let first = first_of q qs rest s low in absurd (none q first.mid first.front)

-- allowed records nest within the limit
pub allowed_low : (schema : Schema) (k T : ℕ) (rs : List Record) → allows schema k T rs ≡ true → raw_levels (body_of rs) ≤ k
allowed_low schema k T rs h =
    let levels : greatest_level rs ≡ raw_levels (body_of rs) = ap greatest_level (sym (items_body rs)) ∙ items_level (body_of rs) in
    let low : greatest_level rs ≤ k = allowed_levels schema k T rs h in
    omega (arith, levels, low)
