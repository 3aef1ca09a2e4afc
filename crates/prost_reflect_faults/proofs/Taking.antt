-- What the search passes over is allowed.
use Rattle.std.specs.Prelude.{◌≡◌, ◌≢◌, ◌≤◌, ◌<◌, ◌&&◌, ◌+◌, ◌-◌}
use Rattle.std.proofs.Common.{ℕ, suc, true, List, [], length, Some, None, refl, sym, ap, ap₂, subst, ◌∙◌, arith}
use Rattle.std.specs.Option.{is_some}
use Rattle.std.specs.List.{list_all}
use Rattle.prost_reflect_wire.specs.Varint.{AreBytes}
use Rattle.prost_reflect_wire.specs.Record.{Len, Payload, Flat, Group, NoRecords, record_at, before, items, payload_wire}
use Rattle.prost_reflect_wire.specs.Scalar.{ScalarKind, kind_wire}
use Rattle.prost_reflect_wire.specs.Schema.{Schema, Kind, ScalarOf, MessageOf, GroupOf, ValueType, FieldForm, MapFrom, is_packable, passes}
use Rattle.prost_reflect_wire.specs.Front.{KeyFront, DelimitedFront, RecordFront}
use Rattle.prost_reflect_wire.specs.Grammar.{AllowsInside, Accepts, body, fits, one_allowed, packed_allowed, field_allowed, in_entry_allowed, has_level, plains_within}
use Rattle.prost_reflect_wire.specs.Grammar.{unpacked}
use Rattle.prost_reflect_wire.specs.Record.{read}
use Rattle.prost_reflect_wire.specs.Fault.{Place, Inside, OfType, OfEntry, OfNothing, field_at}
use Rattle.prost_reflect_wire.specs.declared.key.WireType.{WireType}
use Rattle.prost_reflect_wire.specs.declared.key.WireType.TheVariants as wires
use Rattle.prost_reflect_wire.specs.declared.error.DecodeError.{DecodeError}
use Rattle.prost_reflect_wire.specs.declared.error.DecodeError.TheVariants as errors
use Rattle.prost_reflect_wire.proofs.PlainFronts.{delimited_plain}
use Rattle.prost_reflect_wire.proofs.RecordFronts.{record_front, none_front, key_shorter, payload_no_longer}
use Rattle.prost_reflect_wire.proofs.Reading.{spelled_read}
use Rattle.prost_reflect_laws.specs.Bodies.{inner, payload_allowed, Ended}
use Rattle.prost_reflect_laws.proofs.BodyFronts.{key_bytes, payload_bytes}
use Rattle.prost_reflect_laws.proofs.Places.{allows_at, body_spells, passes_body, levels_outside, entry_same}
use Rattle.prost_reflect_laws.proofs.KindsAllowed.{one_field, packed_field}
use Rattle.prost_reflect_laws.proofs.BodyOrFault.{payload_known, payload_unknown, body_before}
use Rattle.prost_reflect_faults.specs.Positions.{StandsAt, message_place}
use Rattle.prost_reflect_faults.specs.Searching.{KindField, ListField, MapField, GroupInside, TakesBody, TakesPayload, TakesPlain}
use Rattle.prost_reflect_faults.proofs.Standing.{end_refused, stands_behind, stands_moved}

module _ (schema : Schema) (place : Place) (n : ℕ) where
  pub unknown_taken : (w : WireType) (bytes rest : List ℕ) → field_at schema place.inside n ≡ None → TakesPlain w bytes rest → TakesPayload schema place n w bytes rest
  unknown_taken w bytes rest none x = record { payload = Flat x.plain; wire = x.wire; front = x.front; allowed = payload_unknown schema place n (Flat x.plain) none (omega arith) }

  -- What one value of a kind may be.
  kind_allowed : (w : WireType) (kind : Kind) (p : Payload) → KindField schema place n w kind → one_allowed (inner schema place.levels) kind p ≡ true → payload_allowed schema place n p ≡ true
  kind_allowed w kind p x one =
      payload_known schema place n x.field p x.found (one_field place.levels (inner schema place.levels) x.field.form x.field.value_type p x.single (ap (λ c. one_allowed (inner schema place.levels) c p) x.kind_is ∙ one))

  pub scalar_taken : (w : WireType) (kind : ScalarKind) (bytes rest : List ℕ) → KindField schema place n w (ScalarOf kind) → (x : TakesPlain w bytes rest) → fits kind (Flat x.plain) ≡ true → TakesPayload schema place n w bytes rest
  scalar_taken w kind bytes rest field x fit = record { payload = Flat x.plain; wire = x.wire; front = x.front; allowed = kind_allowed w (ScalarOf kind) (Flat x.plain) field fit }

  pub packed_taken : (kind : ScalarKind) (bytes rest inside : List ℕ) → ListField schema place n (ScalarOf kind) → is_packable kind ≡ true → DelimitedFront inside bytes rest → is_some (plains_within (suc (length inside)) (kind_wire kind) inside) ≡ true
      → TakesPayload schema place n wires.LengthDelimited bytes rest
  unfolding unpacked
  packed_taken kind bytes rest inside x packable front elements =
      let some : packed_allowed (ScalarOf kind) (Flat (Len inside)) ≡ true = ap₂ ◌&&◌ packable elements in
      let allowed : field_allowed place.levels (inner schema place.levels) x.field.form x.field.value_type (Flat (Len inside)) ≡ true =
      ap (λ c. field_allowed place.levels (inner schema place.levels) c x.field.value_type (Flat (Len inside))) x.form
      ∙ packed_field place.levels (inner schema place.levels) x.packed x.field.value_type (Flat (Len inside)) (ap (λ c. packed_allowed c (Flat (Len inside))) x.kind_is ∙ some) in
      record { payload = Flat (Len inside); wire = refl; front = delimited_plain inside bytes rest front; allowed = payload_known schema place n x.field (Flat (Len inside)) x.found allowed }

  pub group_taken : (k : ℕ) (inside : Inside) (bytes rest : List ℕ) → place.levels ≡ suc k → GroupInside schema place n inside → TakesBody schema (record { bytes = bytes; inside = inside; levels = k; open_group = Some n }) rest
      → TakesPayload schema place n wires.StartGroup bytes rest
  group_taken k (OfType T) bytes rest left x taken =
      let there : Place = record { bytes = bytes; inside = OfType T; levels = k; open_group = Some n } in
      let inside : inner schema place.levels T (items taken.records) ≡ true = ap (λ (l : ℕ). inner schema l T (items taken.records)) left ∙ allows_at schema there T (items taken.records) refl ∙ taken.body.allowed in
      record {
        payload = Group taken.records;
        wire = refl;
        front = record { end = taken.body.end; records = taken.body.records; stop = taken.body.ends };
        allowed = kind_allowed wires.StartGroup (GroupOf T) (Group taken.records) x inside;
      }
  group_taken k (OfEntry key value_type) bytes rest left x taken = absurd x
  group_taken k OfNothing bytes rest left x taken = record {
    payload = Group taken.records;
    wire = refl;
    front = record { end = taken.body.end; records = taken.body.records; stop = taken.body.ends };
    allowed = payload_unknown schema place n (Group taken.records) x (omega (arith, left, levels_outside k taken.records taken.body.allowed));
  }

  -- The records inside, in the place of a body that ends with its bytes.
  read_inside : (there : Place) (rest : List ℕ) → there.open_group ≡ None → (taken : TakesBody schema there rest) → read there.bytes ≡ Some taken.records
  read_inside there rest opened taken = spelled_read taken.records there.bytes (body_spells schema there taken.records rest opened taken.body)

  pub message_taken : (k T : ℕ) (inside bytes rest end : List ℕ) → place.levels ≡ suc k → KindField schema place n wires.LengthDelimited (MessageOf T) → DelimitedFront inside bytes rest
      → TakesBody schema (record { bytes = inside; inside = OfType T; levels = k; open_group = None }) end → TakesPayload schema place n wires.LengthDelimited bytes rest
  message_taken k T inside bytes rest end left x front taken =
      let there : Place = record { bytes = inside; inside = OfType T; levels = k; open_group = None } in
      let within : inner schema place.levels T (items taken.records) ≡ true = ap (λ (l : ℕ). inner schema l T (items taken.records)) left ∙ allows_at schema there T (items taken.records) refl ∙ taken.body.allowed in
      record {
        payload = Flat (Len inside);
        wire = refl;
        front = delimited_plain inside bytes rest front;
        allowed = kind_allowed wires.LengthDelimited (MessageOf T) (Flat (Len inside)) x (passes_body inside taken.records (inner schema place.levels T) (read_inside there end refl taken) within);
      }

  map_allows : (k : ℕ) (allow : AllowsInside) (form : FieldForm) (key_type value_type : ValueType) (bytes : List ℕ) → form ≡ MapFrom key_type → has_level k value_type.kind ≡ true →
      passes (body (Flat (Len bytes))) (list_all (in_entry_allowed k allow key_type value_type)) ≡ true → field_allowed k allow form value_type (Flat (Len bytes)) ≡ true
  map_allows k allow form key_type value_type bytes is level inside =
      ap (λ c. field_allowed k allow c value_type (Flat (Len bytes))) is ∙ ap (λ b. b && passes (body (Flat (Len bytes))) (list_all (in_entry_allowed k allow key_type value_type))) level ∙ inside

  pub entry_taken : (key_type value_type : ValueType) (inside bytes rest end : List ℕ) → MapField schema place n key_type value_type → has_level place.levels value_type.kind ≡ true → DelimitedFront inside bytes rest
      → TakesBody schema (record { bytes = inside; inside = OfEntry key_type value_type; levels = place.levels; open_group = None }) end → TakesPayload schema place n wires.LengthDelimited bytes rest
  entry_taken key_type value_type inside bytes rest end x level front taken =
      let there : Place = record { bytes = inside; inside = OfEntry key_type value_type; levels = place.levels; open_group = None } in
      let within : list_all (in_entry_allowed place.levels (inner schema place.levels) key_type value_type) (items taken.records) ≡ true = entry_same schema there key_type value_type (items taken.records) refl ∙ taken.body.allowed in
      let allowed : field_allowed place.levels (inner schema place.levels) x.field.form value_type (Flat (Len inside)) ≡ true =
      map_allows place.levels (inner schema place.levels) x.field.form key_type value_type inside x.form level
      (passes_body inside taken.records (list_all (in_entry_allowed place.levels (inner schema place.levels) key_type value_type)) (read_inside there end refl taken) within) in
      record {
        payload = Flat (Len inside);
        wire = refl;
        front = delimited_plain inside bytes rest front;
        allowed = payload_known schema place n x.field (Flat (Len inside)) x.found (ap (λ (t : ValueType). field_allowed place.levels (inner schema place.levels) x.field.form t (Flat (Len inside))) x.value_is ∙ allowed);
      }

-- BODIES

module _ (schema : Schema) (place : Place) (small : AreBytes place.bytes) where
  pub body_stops : (n : ℕ) (rest : List ℕ) → place.open_group ≡ Some n → KeyFront n wires.EndGroup place.bytes rest → TakesBody schema place rest
  body_stops n rest opened key = record {
    records = NoRecords;
    body = record { small = small; end = place.bytes; records = none_front place.bytes; ends = subst (λ o. Ended o place.bytes rest) (sym opened) key; allowed = refl };
  }

-- What is found further on is found of the whole body. Up to there each record is allowed.
pub record Searched (schema : Schema) (place : Place) (rest : List ℕ) : Type 0 where
  pub small : AreBytes rest
  pub shorter : length rest ≤ length place.bytes
  pub faults : (e : DecodeError) (offset : ℕ) (path : List ℕ) → StandsAt schema (record place { bytes = rest }) e offset path → StandsAt schema place e ((length place.bytes - length rest) + offset) path
  pub bodies : (end : List ℕ) → TakesBody schema (record place { bytes = rest }) end → TakesBody schema place end

pub record_searched : (schema : Schema) (place : Place) (rest : List ℕ) → Searched schema place rest → (n : ℕ) (w : WireType) (behind after : List ℕ) → KeyFront n w rest behind → TakesPayload schema (record place { bytes = rest }) n w behind after
    → Searched schema place after
record_searched schema place rest x n w behind after key taken =
    let k : KeyFront n (payload_wire taken.payload) rest behind = subst (λ v. KeyFront n v rest behind) (sym taken.wire) key in
    let front : RecordFront (record_at n taken.payload) rest after = record_front n taken.payload rest behind after k taken.front in
    let less : length behind < length rest = key_shorter n w rest behind key in
    let no_longer : length after ≤ length behind = payload_no_longer n taken.payload behind after taken.front in
    let within : length rest ≤ length place.bytes = x.shorter in
    record {
      small = payload_bytes n taken.payload behind after (key_bytes n w rest behind x.small key) taken.front;
      shorter = omega (arith, less, no_longer, within);
      faults = λ e offset path s. stands_moved schema place e ((length place.bytes - length rest) + ((length rest - length after) + offset)) ((length place.bytes - length after) + offset) path (omega (arith, less, no_longer, within))
          (x.faults e ((length rest - length after) + offset) path (stands_behind schema (record place { bytes = rest }) (record_at n taken.payload) after front e offset path s));
      bodies = λ end more. x.bodies end (record {
        records = before (record_at n taken.payload) more.records;
        body = body_before schema (record place { bytes = rest }) n taken.payload behind after x.small k taken.front taken.allowed more.records end more.body;
      });
    }

-- A fault that is found at the rest stands in the whole body.
pub found_at : (schema : Schema) (place : Place) (rest : List ℕ) → Searched schema place rest → (e : DecodeError) (inner offset : ℕ) (inner_path path : List ℕ) → StandsAt schema (record place { bytes = rest }) e inner inner_path
    → offset ≡ (length place.bytes - length rest) + inner → path ≡ inner_path → StandsAt schema place e offset path
found_at schema place rest x e inner offset inner_path path s at along =
    subst (λ (p : List ℕ). StandsAt schema place e offset p) (sym along) (stands_moved schema place e ((length place.bytes - length rest) + inner) offset inner_path (sym at) (x.faults e inner inner_path s))

-- An end key closes the body, or it doesn't.
pub stop_taken : (schema : Schema) (place : Place) (rest : List ℕ) → Searched schema place rest → (n m : ℕ) (w : WireType) (behind : List ℕ) → KeyFront n w rest behind → w ≡ wires.EndGroup → place.open_group ≡ Some m → m ≡ n → TakesBody schema place behind
stop_taken schema place rest x n m w behind key is opened same =
    x.bodies behind (body_stops schema (record place { bytes = rest }) x.small n behind (opened ∙ ap Some same) (subst (λ v. KeyFront n v rest behind) is key))

pub stop_refused : (schema : Schema) (place : Place) (rest : List ℕ) → Searched schema place rest → (n m : ℕ) (w : WireType) (behind path : List ℕ) → KeyFront n w rest behind → w ≡ wires.EndGroup → place.open_group ≢ Some m → m ≡ n → path ≡ []
    → StandsAt schema place errors.EndGroup (length place.bytes - length rest) path
stop_refused schema place rest x n m w behind path key is other same along =
    found_at schema place rest x errors.EndGroup 0 (length place.bytes - length rest) [] path
    (end_refused schema (record place { bytes = rest }) n behind (subst (λ v. KeyFront n v rest behind) is key) (λ opened. other (opened ∙ ap Some (sym same)))) (omega arith) along

-- THE WHOLE

pub body_accepts : (schema : Schema) (levels T : ℕ) (bytes rest : List ℕ) → TakesBody schema (message_place levels T bytes) rest → Accepts schema levels T bytes
body_accepts schema levels T bytes rest x = record {
  records = x.records;
  spelled = body_spells schema (message_place levels T bytes) x.records rest refl x.body;
  allowed = allows_at schema (message_place levels T bytes) T (items x.records) refl ∙ x.body.allowed;
}
