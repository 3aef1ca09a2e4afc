-- Where a front of the bytes is a field, no fault stands in it but Depth, and that one only where the field nests deeper than the levels.
use Rattle.std.specs.Prelude.{◌≡◌, ◌≢◌, ◌<◌, ◌≤◌, ◌++◌, ◌⊎◌}
use Rattle.prost_reflect_wire.proofs.Common.{ℕ, suc, List, [], length, Option, Some, None, true, refl, sym, ap, subst, ◌∙◌, arith, inl, inr, DecodeError, WireType, record_at, Var, Fix64, Len, Fix32, Records, NoRecords, PlainRecord, GroupRecord, Record, Payload, Flat, Group, before, payload_wire, short_key, raw_levels, payload_levels, Field, KeyFront, RecordFront, GroupFront, PayloadFront, ValueFront, PlainFault, Place, OfNothing, field_at, same_wire, Next, NextField, Comes, Stands, Here, Behind, InMessage, InGroup, InUnknown, InEntry, InsideGroup, StandsInField, StandsInValue}
use Rattle.prost_reflect_wire.specs.declared.error.DecodeError.TheVariants as errors
use Rattle.prost_reflect_wire.specs.declared.key.WireType.TheVariants as wires
use Rattle.prost_reflect_wire.proofs.KeyFronts.{key_once, key_no_fault}
use Rattle.prost_reflect_wire.proofs.PlainFronts.{plain_no_fault}
use Rattle.prost_reflect_wire.proofs.RecordFronts.{record_front, record_parts, RecordParts, first_parts, levels_first, key_shorter, record_once, plain_no_group}

-- BEHIND A KEY

-- nothing but the levels can be wrong behind a key of the number and the wire type
record Sound (n : ℕ) (w : WireType) (open_group : Option ℕ) (rest : List ℕ) : Type 0 where
  plain : (e : DecodeError) → PlainFault e w rest → ⊥
  closes : w ≡ wires.EndGroup → open_group ≡ Some n

no_end : (p : Payload) → payload_wire p ≡ wires.EndGroup → ⊥
no_end (Flat (Var v)) e = cc
no_end (Flat (Fix64 v)) e = cc
no_end (Flat (Len v)) e = cc
no_end (Flat (Fix32 v)) e = cc
no_end (Group rs) e = cc

no_plain_fault : (w : WireType) → (w ≡ wires.StartGroup) ⊎ (w ≡ wires.EndGroup) → (e : DecodeError) (rest : List ℕ) → PlainFault e w rest → ⊥
no_plain_fault w (inl is) errors.Truncated rest f = rw is at f
no_plain_fault w (inr is) errors.Truncated rest f = rw is at f
no_plain_fault w (inl is) errors.Varint rest f = rw is at f
no_plain_fault w (inr is) errors.Varint rest f = rw is at f
no_plain_fault w is e rest f = f

payload_sound : (n : ℕ) (p : Payload) (open_group : Option ℕ) (bytes rest : List ℕ) → PayloadFront n p bytes rest → Sound n (payload_wire p) open_group bytes
payload_sound n (Flat p) open_group bytes rest f = record { plain = λ e. plain_no_fault e p bytes rest f; closes = λ is. absurd (no_end (Flat p) is) }
payload_sound n (Group inside) open_group bytes rest f = record { plain = λ e. no_plain_fault wires.StartGroup (inl refl) e bytes; closes = λ is. cc }

end_sound : (n : ℕ) (rest : List ℕ) → Sound n wires.EndGroup (Some n) rest
end_sound n rest = record { plain = λ e. no_plain_fault wires.EndGroup (inr refl) e rest; closes = λ is. refl }

start_levels : (p : Payload) → payload_wire p ≡ wires.StartGroup → 0 < payload_levels p
start_levels (Flat p) is = absurd (plain_no_group p is)
start_levels (Group inside) is = omega arith

group_wire : (w : WireType) → same_wire w wires.StartGroup ≡ true → w ≡ wires.StartGroup
group_wire wires.Varint e = cc
group_wire wires.SixtyFourBit e = cc
group_wire wires.LengthDelimited e = cc
group_wire wires.StartGroup e = refl
group_wire wires.EndGroup e = cc
group_wire wires.ThirtyTwoBit e = cc

-- AT A KEY

module _ (n : ℕ) (w : WireType) (levels : ℕ) (open_group : Option ℕ) (bytes rest : List ℕ) (k : KeyFront n w bytes rest) (s : Sound n w open_group rest) where
  abbrev At : Place
  At = record { bytes = bytes; inside = OfNothing; levels = levels; open_group = open_group }

  not_plain : (e : DecodeError) → Next At (λ m v after. PlainFault e v after) → ⊥
  not_plain e f = let (number, wire, behind) = key_once f.number n f.wire w bytes f.rest rest f.key k in
      s.plain e (subst (λ (l : List ℕ). PlainFault e w l) behind (subst (λ v. PlainFault e v f.rest) wire f.behind))

  no_field : (T : Field → WireType → List ℕ → Type 0) → NextField [] At T → ⊥
  no_field T f = let none = f.found in cc

  comes_only : (e : DecodeError) → Comes [] e At → (e ≡ errors.Depth) × (levels ≡ 0) × (w ≡ wires.StartGroup)
  comes_only errors.Truncated (inl f) = absurd (key_no_fault errors.Truncated n w bytes rest k f.1)
  comes_only errors.Truncated (inr (inl f)) = absurd (omega (arith, key_shorter n w bytes rest k, ap length f.0))
  comes_only errors.Truncated (inr (inr (inl f))) = absurd (not_plain errors.Truncated (record { number = f.number; wire = f.wire; rest = f.rest; key = f.key; behind = f.behind }))
  comes_only errors.Truncated (inr (inr (inr f))) = absurd (no_field _ f)
  comes_only errors.Varint (inl f) = absurd (key_no_fault errors.Varint n w bytes rest k f)
  comes_only errors.Varint (inr (inl f)) = absurd (not_plain errors.Varint (record { number = f.number; wire = f.wire; rest = f.rest; key = f.key; behind = f.behind }))
  comes_only errors.Varint (inr (inr f)) = absurd (no_field _ f)
  comes_only errors.Key f = absurd (key_no_fault errors.Key n w bytes rest k f)
  comes_only errors.WireType f = absurd (no_field _ f)
  comes_only errors.EndGroup f = let (number, wire, behind) = key_once f.number n f.wire w bytes f.rest rest f.key k in
      absurd (f.behind.1 (s.closes (sym wire ∙ f.behind.0) ∙ ap Some (sym number)))
  comes_only errors.Utf8 f = absurd (no_field _ f)
  comes_only errors.OutOfMemory f = absurd f
  comes_only errors.Depth (none, f) = let (number, wire, behind) = key_once f.number n f.wire w bytes f.rest rest f.key k in
      (refl, none, sym wire ∙ group_wire f.wire f.behind)

-- IN A WHOLE GROUP

-- a group of the number is at the front
record Whole (place : Place) (n : ℕ) (inside : Records) (rest : List ℕ) : Type 0 where
  group : GroupFront n inside place.bytes rest
  unknown : place.inside ≡ OfNothing
  opened : place.open_group ≡ Some n

-- a record of the group comes next
record NextRecord (n : ℕ) (inside : Records) (bytes rest : List ℕ) : Type 0 where
  number : ℕ
  payload : Payload
  others : Records
  is : inside ≡ before (record_at number payload) others
  mid : List ℕ
  end : List ℕ
  key : KeyFront number (payload_wire payload) bytes mid
  front : PayloadFront number payload mid end
  group : GroupFront n others end rest

-- or the group ends
next_in_group : (n : ℕ) (inside : Records) (bytes rest : List ℕ) → GroupFront n inside bytes rest → KeyFront n wires.EndGroup bytes rest ⊎ NextRecord n inside bytes rest
next_in_group n NoRecords bytes rest f = inl (subst (λ (l : List ℕ). KeyFront n wires.EndGroup l rest) (sym (f.records.parts ∙ ap (λ (l : List ℕ). l ++ f.end) f.records.spelled)) f.stop)
next_in_group n (PlainRecord m p rs) bytes rest f =
    let first = first_parts (record_at m (Flat p)) rs bytes f.end f.records in
    let parts = record_parts m (Flat p) bytes first.mid first.first in
    inr (record { number = m; payload = Flat p; others = rs; is = refl; mid = parts.mid; end = first.mid; key = parts.key; front = parts.payload; group = record { end = f.end; records = first.others; stop = f.stop } })
next_in_group n (GroupRecord m q rs) bytes rest f =
    let first = first_parts (record_at m (Group q)) rs bytes f.end f.records in
    let parts = record_parts m (Group q) bytes first.mid first.first in
    inr (record { number = m; payload = Group q; others = rs; is = refl; mid = parts.mid; end = first.mid; key = parts.key; front = parts.payload; group = record { end = f.end; records = first.others; stop = f.stop } })

module _ (place : Place) (n : ℕ) (inside : Records) (rest : List ℕ) (w : Whole place n inside rest) where
  next : KeyFront n wires.EndGroup place.bytes rest ⊎ NextRecord n inside place.bytes rest
  next = next_in_group n inside place.bytes rest w.group

  first_levels : (x : NextRecord n inside place.bytes rest) → payload_levels x.payload ≤ raw_levels inside
  first_levels x = omega (arith, levels_first (record_at x.number x.payload) x.others, ap raw_levels x.is)

  others_levels : (x : NextRecord n inside place.bytes rest) → raw_levels x.others ≤ raw_levels inside
  others_levels x = omega (arith, levels_first (record_at x.number x.payload) x.others, ap raw_levels x.is)

  here_only : (e : DecodeError) → Comes [] e place → (e ≡ errors.Depth) × (place.levels < raw_levels inside)
  here_only e f = go next (subst (λ i. Comes [] e (record place { inside = i })) w.unknown f)
    where
      go : KeyFront n wires.EndGroup place.bytes rest ⊎ NextRecord n inside place.bytes rest → Comes [] e (record place { inside = OfNothing }) → (e ≡ errors.Depth) × (place.levels < raw_levels inside)
      go (inl k) f = let (depth, none, wire) = comes_only n wires.EndGroup place.levels place.open_group place.bytes rest k (subst (λ o. Sound n wires.EndGroup o rest) (sym w.opened) (end_sound n rest)) e f in absurd cc
      go (inr x) f =
          let (depth, none, wire) = comes_only x.number (payload_wire x.payload) place.levels place.open_group place.bytes x.mid x.key (payload_sound x.number x.payload place.open_group x.mid x.end x.front) e f in
          (depth, omega (arith, start_levels x.payload wire, first_levels x))

  -- behind a record the rest of the group is whole
  behind_whole : (r : Record) (after : List ℕ) → RecordFront r place.bytes after → (rs : Records) × (Whole (record place { bytes = after }) n rs rest × (raw_levels rs ≤ raw_levels inside))
  behind_whole r after front = go next (record_parts r.number r.payload place.bytes after front)
    where
      go : KeyFront n wires.EndGroup place.bytes rest ⊎ NextRecord n inside place.bytes rest → RecordParts r.number r.payload place.bytes after
          → (rs : Records) × (Whole (record place { bytes = after }) n rs rest × (raw_levels rs ≤ raw_levels inside))
      go (inl k) parts = let (number, wire, behind) = key_once r.number n (payload_wire r.payload) wires.EndGroup place.bytes parts.mid rest parts.key k in absurd (no_end r.payload wire)
      go (inr x) parts =
          let (number, payload, behind) = record_once r.number x.number r.payload x.payload place.bytes after x.end front (record_front x.number x.payload place.bytes x.mid x.end x.key x.front) in
          (x.others, (record { group = subst (λ (l : List ℕ). GroupFront n x.others l rest) (sym behind) x.group; unknown = w.unknown; opened = w.opened }, others_levels x))

  -- so is a group that comes next
  inner_whole : (m k : ℕ) (after : List ℕ) → KeyFront m wires.StartGroup place.bytes after
      → (rs : Records) × ((end : List ℕ) × (Whole (record { bytes = after; inside = OfNothing; levels = k; open_group = Some m }) m rs end × (suc (raw_levels rs) ≤ raw_levels inside)))
  inner_whole m k after key = go next
    where
      of_payload : (x : NextRecord n inside place.bytes rest) (p : Payload) → payload_wire p ≡ wires.StartGroup → PayloadFront m p after x.end → payload_levels p ≤ raw_levels inside
          → (rs : Records) × ((end : List ℕ) × (Whole (record { bytes = after; inside = OfNothing; levels = k; open_group = Some m }) m rs end × (suc (raw_levels rs) ≤ raw_levels inside)))
      of_payload x (Flat p) wire front within = absurd (plain_no_group p wire)
      of_payload x (Group q) wire front within = (q, (x.end, (record { group = front; unknown = refl; opened = refl }, within)))

      go : KeyFront n wires.EndGroup place.bytes rest ⊎ NextRecord n inside place.bytes rest
          → (rs : Records) × ((end : List ℕ) × (Whole (record { bytes = after; inside = OfNothing; levels = k; open_group = Some m }) m rs end × (suc (raw_levels rs) ≤ raw_levels inside)))
      go (inl end) = let (number, wire, behind) = key_once m n wires.StartGroup wires.EndGroup place.bytes after rest key end in cc
      go (inr x) =
          let (number, wire, behind) = key_once m x.number wires.StartGroup (payload_wire x.payload) place.bytes after x.mid key x.key in
          of_payload x x.payload (sym wire) (subst (λ (i : ℕ). PayloadFront i x.payload after x.end) (sym number) (subst (λ (l : List ℕ). PayloadFront x.number x.payload l x.end) (sym behind) x.front)) (first_levels x)

whole_only : {e : DecodeError} {place : Place} (n : ℕ) (inside : Records) (rest : List ℕ) → Whole place n inside rest → Stands [] e place → (e ≡ errors.Depth) × (place.levels < raw_levels inside)
whole_only {e} {place} n inside rest w (Here f) = here_only place n inside rest w e f
whole_only {e} {place} n inside rest w (Behind r after front more) =
    let (rs, (behind, fewer)) = behind_whole place n inside rest w r after front in
    let (depth, past) = whole_only n rs rest behind more in
    (depth, omega (arith, past, fewer))
whole_only {e} {place} n inside rest w (InMessage m T k f body after end known map kind levels key front more) = let found = ap (λ i. field_at [] i m) w.unknown in cc
whole_only {e} {place} n inside rest w (InGroup m T k f after known map kind levels key more) = let found = ap (λ i. field_at [] i m) w.unknown in cc
whole_only {e} {place} n inside rest w (InUnknown m k after unknown levels key more) =
    let (rs, (end, (inner, fewer))) = inner_whole place n inside rest w m k after key in
    let (depth, past) = whole_only m rs end inner more in
    (depth, omega (arith, past, fewer, levels))
whole_only {e} {place} n inside rest w (InEntry m f key body after end known form levels front delimited more) = let found = ap (λ i. field_at [] i m) w.unknown in cc

-- IN A FIELD

group_only : (e : DecodeError) (n : ℕ) (p : Payload) (levels : ℕ) (bytes rest : List ℕ) → PayloadFront n p bytes rest → payload_wire p ≡ wires.StartGroup → InsideGroup e n levels bytes
    → (e ≡ errors.Depth) × (levels < payload_levels p)
group_only e n (Flat p) levels bytes rest f is g = absurd (plain_no_group p is)
group_only e n (Group q) levels bytes rest f is g =
    let (depth, past) = whole_only n q rest (record { group = f; unknown = refl; opened = refl }) g.stands in
    (depth, omega (arith, past, g.left))

pub field_only : (e : DecodeError) (r : Record) (levels : ℕ) (bytes rest : List ℕ) → RecordFront r bytes rest → StandsInField levels e bytes → (e ≡ errors.Depth) × (levels < payload_levels r.payload)
field_only e r levels bytes rest f s = go (record_parts r.number r.payload bytes rest f) s
  where
    go : RecordParts r.number r.payload bytes rest → StandsInField levels e bytes → (e ≡ errors.Depth) × (levels < payload_levels r.payload)
    go parts (inl g) =
        let (depth, none, wire) = comes_only r.number (payload_wire r.payload) levels None bytes parts.mid parts.key (payload_sound r.number r.payload None parts.mid rest parts.payload) e g in
        (depth, omega (arith, none, start_levels r.payload wire))
    go parts (inr (inl (cut, empty))) = absurd (omega (arith, key_shorter r.number (payload_wire r.payload) bytes parts.mid parts.key, ap length empty))
    go parts (inr (inr g)) =
        let (number, wire, behind) = key_once g.number r.number g.wire (payload_wire r.payload) bytes g.rest parts.mid g.key parts.key in
        group_only e r.number r.payload levels parts.mid rest parts.payload (sym wire ∙ g.behind.0)
        (subst (λ (i : ℕ). InsideGroup e i levels parts.mid) number (subst (λ (l : List ℕ). InsideGroup e g.number levels l) behind g.behind.1))

pub field_no_fault : (e : DecodeError) (r : Record) (levels : ℕ) (bytes rest : List ℕ) → RecordFront r bytes rest → payload_levels r.payload ≤ levels → StandsInField levels e bytes → ⊥
field_no_fault e r levels bytes rest f within s = let (depth, past) = field_only e r levels bytes rest f s in omega arith

pub value_no_fault : (e : DecodeError) (n : ℕ) (w : WireType) (levels : ℕ) (p : Payload) (bytes rest : List ℕ) → KeyFront n w (short_key n w ++ bytes) bytes → ValueFront n w levels p bytes rest → StandsInValue levels n w e bytes → ⊥
value_no_fault e n w levels p bytes rest k v s =
    let key = subst (λ x. KeyFront n x (short_key n w ++ bytes) bytes) (sym v.wire) k in
    field_no_fault e (record_at n p) levels (short_key n w ++ bytes) rest (record_front n p (short_key n w ++ bytes) bytes rest key v.front) v.within s

pub value_fault_only : (e : DecodeError) (n : ℕ) (w : WireType) (levels : ℕ) (p : Payload) (bytes rest : List ℕ) → KeyFront n w (short_key n w ++ bytes) bytes → payload_wire p ≡ w → PayloadFront n p bytes rest → StandsInValue levels n w e bytes → e ≡ errors.Depth
value_fault_only e n w levels p bytes rest k wire f s =
    let key = subst (λ x. KeyFront n x (short_key n w ++ bytes) bytes) (sym wire) k in
    let only = field_only e (record_at n p) levels (short_key n w ++ bytes) rest (record_front n p (short_key n w ++ bytes) bytes rest key f) s in
    only.0

-- A refusal that no fault explains is one of memory.
pub only_memory : (e : DecodeError) → (e ≢ errors.OutOfMemory → ⊥) → e ≡ errors.OutOfMemory
only_memory errors.OutOfMemory h = refl
only_memory _ h = absurd (h (λ is. cc))
