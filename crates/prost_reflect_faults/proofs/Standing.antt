-- What is refused stands where the search says.
use Rattle.std.specs.Prelude.{◌≡◌, ◌≢◌, ◌⊎◌, ◌∷◌, ◌+◌, ◌-◌, ◌&&◌}
use Rattle.std.proofs.Common.{ℕ, suc, true, false, List, [], length, Some, None, inl, inr, refl, sym, ap, subst, ◌∙◌}
use Rattle.std.specs.Str.{is_utf8}
use Rattle.prost_reflect_wire.specs.Record.{Record}
use Rattle.prost_reflect_wire.specs.Schema.{Schema, Kind, ScalarOf, MessageOf, ValueType, Field, is_message, is_packable}
use Rattle.prost_reflect_wire.specs.Scalar.{ScalarKind, StringKind, kind_wire}
use Rattle.prost_reflect_wire.specs.Grammar.{has_level}
use Rattle.prost_reflect_wire.specs.Front.{KeyFront, DelimitedFront, RecordFront, KeyFault, PlainFault}
use Rattle.prost_reflect_wire.specs.Fault.{Place, Inside, OfType, OfEntry, OfNothing, field_at, takes, one_takes, needs_level, opens_level, same_wire, PackedNext, ElementFault, Comes, Here, Behind, InMessage, InGroup, InUnknown, InEntry}
use Rattle.prost_reflect_wire.specs.declared.key.WireType.{WireType}
use Rattle.prost_reflect_wire.specs.declared.key.WireType.TheVariants as wires
use Rattle.prost_reflect_wire.specs.declared.error.DecodeError.{DecodeError}
use Rattle.prost_reflect_wire.specs.declared.error.DecodeError.TheVariants as errors
use Rattle.prost_reflect_wire.proofs.PlaceFaults.{key_comes_at, plain_comes}
use Rattle.prost_reflect_laws.proofs.BodyOrFault.{opens_known}
use Rattle.prost_reflect_laws.proofs.KindsAllowed.{element_name}
use Rattle.prost_reflect_faults.specs.Positions.{StandsAt}
use Rattle.prost_reflect_faults.specs.Searching.{KindField, ListField, MapField, GroupInside, StandsInside}

-- The fault comes next.
pub stands_here : (schema : Schema) (place : Place) (e : DecodeError) → Comes schema e place → StandsAt schema place e 0 []
stands_here schema place e comes = record { stands = Here comes; offset_is = refl; path_is = refl }

-- At another offset, which is the same.
pub stands_moved : (schema : Schema) (place : Place) (e : DecodeError) (offset other : ℕ) (path : List ℕ) → offset ≡ other → StandsAt schema place e offset path → StandsAt schema place e other path
stands_moved schema place e offset other path same s = record { stands = s.stands; offset_is = s.offset_is ∙ same; path_is = s.path_is }

module _ (schema : Schema) (place : Place) where
  pub key_refused : (e : DecodeError) → KeyFault e place.bytes → (place.bytes ≡ [] → place.open_group ≢ None) → StandsAt schema place e 0 []
  key_refused e f ended = stands_here schema place e (key_comes_at schema place place.bytes refl e f ended)

  pub end_refused : (n : ℕ) (rest : List ℕ) → KeyFront n wires.EndGroup place.bytes rest → place.open_group ≢ Some n → StandsAt schema place errors.EndGroup 0 []
  end_refused n rest key other = stands_here schema place errors.EndGroup (record { number = n; wire = wires.EndGroup; rest = rest; key = key; behind = (refl, other) })

  -- Behind a record.
  pub stands_behind : (r : Record) (rest : List ℕ) → RecordFront r place.bytes rest → (e : DecodeError) (offset : ℕ) (path : List ℕ) → StandsAt schema (record place { bytes = rest }) e offset path
      → StandsAt schema place e ((length place.bytes - length rest) + offset) path
  stands_behind r rest front e offset path s = record {
    stands = Behind r rest front s.stands;
    offset_is = ap (λ (o : ℕ). (length place.bytes - length rest) + o) s.offset_is;
    path_is = s.path_is;
  }

-- BEHIND A KEY

module _ (schema : Schema) (place : Place) (n : ℕ) (w : WireType) (rest : List ℕ) (key : KeyFront n w place.bytes rest) where
  pub plain_refused : (e : DecodeError) → PlainFault e w rest → StandsAt schema place e 0 []
  plain_refused e f = stands_here schema place e (plain_comes schema place e n w rest key f)

  pub deep_refused : place.levels ≡ 0 → opens_level (field_at schema place.inside n) w ≡ true → StandsAt schema place errors.Depth 0 []
  deep_refused none opens = stands_here schema place errors.Depth (none, record { number = n; wire = w; rest = rest; key = key; behind = opens })

  -- No field takes the wire type.
  pub wire_refused : (f : Field) → field_at schema place.inside n ≡ Some f → w ≢ wires.EndGroup → takes f.form f.value_type.kind w ≡ false → StandsAt schema place errors.WireType 0 []
  wire_refused f found other none = stands_here schema place errors.WireType (record { number = n; wire = w; field = f; rest = rest; key = key; found = found; behind = (other, none) })

  pub kind_refused : (kind : Kind) → KindField schema place n w kind → w ≢ wires.EndGroup → one_takes kind w ≡ false → StandsAt schema place errors.WireType 0 []
  kind_refused kind x other none = wire_refused x.field x.found other (x.takes_one ∙ ap (λ c. one_takes c w) x.kind_is ∙ none)

  pub deep_kind_refused : (kind : Kind) → KindField schema place n w kind → is_message kind ≡ true → one_takes kind w ≡ true → place.levels ≡ 0 → StandsAt schema place errors.Depth 0 []
  deep_kind_refused kind x message one none =
      deep_refused none (ap (λ o. opens_level o w) x.found ∙ opens_known x.field.form x.field.value_type.kind w x.single (ap is_message x.kind_is ∙ message) (ap (λ c. one_takes c w) x.kind_is ∙ one))

  pub text_refused : KindField schema place n w (ScalarOf StringKind) → w ≡ wires.LengthDelimited → (body after : List ℕ) → DelimitedFront body rest after → is_utf8 body ≡ false → StandsAt schema place errors.Utf8 0 []
  text_refused x is body after front bad =
      stands_here schema place errors.Utf8 (record { number = n; wire = w; field = x.field; rest = rest; key = key; found = x.found; behind = (is, x.single, x.kind_is, (body, after, front, bad)) })

  packed_comes : (e : DecodeError) (f : Field) → field_at schema place.inside n ≡ Some f → (e ≡ errors.Truncated) ⊎ (e ≡ errors.Varint) → PackedNext e f w rest → StandsAt schema place e 0 []
  packed_comes e f found (inl is) p = subst (λ x. StandsAt schema place x 0 []) (sym is)
      (stands_here schema place errors.Truncated (inr (inr (inr (record { number = n; wire = w; field = f; rest = rest; key = key; found = found; behind = subst (λ x. PackedNext x f w rest) is p })))))
  packed_comes e f found (inr is) p = subst (λ x. StandsAt schema place x 0 []) (sym is)
      (stands_here schema place errors.Varint (inr (inr (record { number = n; wire = w; field = f; rest = rest; key = key; found = found; behind = subst (λ x. PackedNext x f w rest) is p }))))

  pub packed_refused : (kind : ScalarKind) → ListField schema place n (ScalarOf kind) → w ≡ wires.LengthDelimited → is_packable kind ≡ true → (body after : List ℕ) → DelimitedFront body rest after
      → (e : DecodeError) → ElementFault (kind_wire kind) e body → StandsAt schema place e 0 []
  packed_refused kind x is packable body after front e f =
      packed_comes e x.field x.found (element_name (kind_wire kind) f) (is, (x.packed, x.form), (kind, x.kind_is, packable, (body, after, front, f)))

  -- MAPS

  pub map_refused : (key_type value_type : ValueType) → MapField schema place n key_type value_type → w ≢ wires.EndGroup → same_wire w wires.LengthDelimited ≡ false → StandsAt schema place errors.WireType 0 []
  map_refused key_type value_type x other none = wire_refused x.field x.found other (ap (λ c. takes c x.field.value_type.kind w) x.form ∙ none)

  pub deep_map_refused : (key_type value_type : ValueType) → MapField schema place n key_type value_type → same_wire w wires.LengthDelimited ≡ true → is_message value_type.kind ≡ true → place.levels ≡ 0 → StandsAt schema place errors.Depth 0 []
  deep_map_refused key_type value_type x is message none =
      deep_refused none (ap (λ o. opens_level o w) x.found ∙ ap (λ c. needs_level c x.field.value_type.kind w) x.form ∙ ap (λ (t : ValueType). is_message t.kind && same_wire w wires.LengthDelimited) x.value_is
      ∙ ap (λ b. b && same_wire w wires.LengthDelimited) message ∙ is)

  -- INSIDE

  pub group_refused : (k : ℕ) (inside : Inside) → w ≡ wires.StartGroup → place.levels ≡ suc k → GroupInside schema place n inside
      → (e : DecodeError) (offset : ℕ) (path : List ℕ) → StandsInside schema (record { bytes = rest; inside = inside; levels = k; open_group = Some n }) n (length place.bytes - length rest) e offset path
      → StandsAt schema place e offset path
  group_refused k (OfType T) is left x e offset path s = record {
    stands = InGroup n T k x.field rest x.found x.single x.kind_is left (subst (λ v. KeyFront n v place.bytes rest) is key) s.stands.stands;
    offset_is = ap (λ (o : ℕ). (length place.bytes - length rest) + o) s.stands.offset_is ∙ sym s.offset_is;
    path_is = ap (λ (p : List ℕ). n ∷ p) s.stands.path_is ∙ sym s.path_is;
  }
  group_refused k (OfEntry key_type value_type) is left x e offset path s = absurd x
  group_refused k OfNothing is left x e offset path s = record {
    stands = InUnknown n k rest x left (subst (λ v. KeyFront n v place.bytes rest) is key) s.stands.stands;
    offset_is = ap (λ (o : ℕ). (length place.bytes - length rest) + o) s.stands.offset_is ∙ sym s.offset_is;
    path_is = ap (λ (p : List ℕ). n ∷ p) s.stands.path_is ∙ sym s.path_is;
  }

  pub message_refused : (k T : ℕ) → w ≡ wires.LengthDelimited → place.levels ≡ suc k → KindField schema place n w (MessageOf T) → (body after : List ℕ) → DelimitedFront body rest after
      → (e : DecodeError) (offset : ℕ) (path : List ℕ) → StandsInside schema (record { bytes = body; inside = OfType T; levels = k; open_group = None }) n (length place.bytes - (length body + length after)) e offset path
      → StandsAt schema place e offset path
  message_refused k T is left x body after front e offset path s = record {
    stands = InMessage n T k x.field body rest after x.found x.single x.kind_is left (subst (λ v. KeyFront n v place.bytes rest) is key) front s.stands.stands;
    offset_is = ap (λ (o : ℕ). (length place.bytes - (length body + length after)) + o) s.stands.offset_is ∙ sym s.offset_is;
    path_is = ap (λ (p : List ℕ). n ∷ p) s.stands.path_is ∙ sym s.path_is;
  }

  pub entry_refused : (key_type value_type : ValueType) → w ≡ wires.LengthDelimited → MapField schema place n key_type value_type → has_level place.levels value_type.kind ≡ true → (body after : List ℕ) → DelimitedFront body rest after
      → (e : DecodeError) (offset : ℕ) (path : List ℕ)
      → StandsInside schema (record { bytes = body; inside = OfEntry key_type value_type; levels = place.levels; open_group = None }) n (length place.bytes - (length body + length after)) e offset path
      → StandsAt schema place e offset path
  entry_refused key_type value_type is x level body after front e offset path s =
      let inner : StandsAt schema (record { bytes = body; inside = OfEntry key_type x.field.value_type; levels = place.levels; open_group = None }) e s.inner_offset s.inner_path =
      subst (λ (v : ValueType). StandsAt schema (record { bytes = body; inside = OfEntry key_type v; levels = place.levels; open_group = None }) e s.inner_offset s.inner_path) (sym x.value_is) s.stands in
      record {
        stands = InEntry n x.field key_type body rest after x.found x.form (ap (λ (v : ValueType). has_level place.levels v.kind) x.value_is ∙ level) (subst (λ v. KeyFront n v place.bytes rest) is key) front inner.stands;
        offset_is = ap (λ (o : ℕ). (length place.bytes - (length body + length after)) + o) inner.offset_is ∙ sym s.offset_is;
        path_is = ap (λ (p : List ℕ). n ∷ p) inner.path_is ∙ sym s.path_is;
      }
