-- What the search passes over and refuses of the field of a row.
use Rattle.std.specs.Prelude.{◌≡◌, ◌≢◌, ◌<◌, if◌then◌else◌}
use Rattle.std.proofs.Common.{ℕ, suc, Bool, true, false, List, [], length, Some, inl, inr, refl, sym, ap, ap₂, subst, ◌∙◌}
use Rattle.std.specs.Option.{is_some}
use Rattle.prost_reflect_wire.specs.Grammar.{plains_within, has_level}
use Rattle.prost_reflect_wire.specs.Scalar.{ScalarKind, StringKind, kind_wire}
use Rattle.prost_reflect_wire.specs.Schema.{Schema, Kind, ScalarOf, MessageOf, GroupOf, ValueType, Repeated, Field}
use Rattle.prost_reflect_wire.specs.Edit.{message_of_kind}
use Rattle.prost_reflect_wire.specs.Front.{KeyFront, PlainFault}
use Rattle.prost_reflect_wire.specs.Fault.{Place, Inside, OfType, OfEntry, OfNothing, field_at, opens_level, same_wire, ElementFault}
use Rattle.prost_reflect_wire.specs.declared.key.WireType.{WireType}
use Rattle.prost_reflect_wire.specs.declared.key.WireType.TheVariants as wires
use Rattle.prost_reflect_wire.specs.declared.error.DecodeError.{DecodeError}
use Rattle.prost_reflect_wire.specs.declared.error.DecodeError.TheVariants as errors
use Rattle.prost_reflect_tables.specs.Rows.{TableRows}
use Rattle.prost_reflect_tables.specs.Linking as linking
use Rattle.prost_reflect_tables.specs.Shown.{schema_kind, schema_from}
use Rattle.prost_reflect_tables.specs.declared.tables.FieldTable.{FieldTable}
use Rattle.prost_reflect_tables.specs.declared.tables.TableKind.TheVariants as kinds
use Rattle.prost_reflect_faults.specs.Positions.{StandsAt}
use Rattle.prost_reflect_faults.specs.Searching.{MessageThere, KindField, ListField, MapField, GroupInside, TakesPayload, TakesScalar, RefusesScalar, TakesPacked, RefusesPacked, among, place_at, type_of_row, wire_of_kind}
use Rattle.prost_reflect_faults.specs.declared.inside.Region.{Region}
use Rattle.prost_reflect_faults.proofs.Rows.{wire_is, shown_scalar, shown_packable, scalar_fits}
use Rattle.prost_reflect_faults.proofs.Standing.{plain_refused, deep_refused, kind_refused, deep_kind_refused, text_refused, packed_refused, map_refused, deep_map_refused}
use Rattle.prost_reflect_laws.proofs.KindsAllowed.{same_is}
use Rattle.prost_reflect_laws.proofs.BodyOrFault.{no_level}
use Rattle.prost_reflect_faults.proofs.Taking.{scalar_taken, packed_taken}

-- The fault of the record that comes next, by what the search hands up.
pub found_here : (schema : Schema) (place : Place) (e : DecodeError) (offset : ℕ) (path : List ℕ) (error : DecodeError) → StandsAt schema place e 0 [] → error ≡ e → offset ≡ 0 → path ≡ [] → StandsAt schema place error offset path
found_here schema place e offset path error s same at along =
    subst (λ x. StandsAt schema place x offset path) (sym same) (subst (λ (o : ℕ). StandsAt schema place e o path) (sym at) (subst (λ (p : List ℕ). StandsAt schema place e 0 p) (sym along) s))

-- KINDS

pub kind_as : (schema : Schema) (place : Place) (n : ℕ) (w : WireType) (kind other : Kind) → KindField schema place n w kind → kind ≡ other → KindField schema place n w other
kind_as schema place n w kind other x same = record { field = x.field; found = x.found; single = x.single; takes_one = x.takes_one; kind_is = x.kind_is ∙ same }

pub at_wire : (schema : Schema) (place : Place) (n : ℕ) (w v : WireType) (kind : Kind) → w ≡ v → KindField schema place n w kind → KindField schema place n v kind
at_wire schema place n w v kind same x = subst (λ u. KindField schema place n u kind) same x

module _ (rows : TableRows) (row : FieldTable) where
  pub group_kind : (T : ℕ) → row.kind ≡ kinds.Message T → row.is_group ≡ true → (type_of_row rows row).kind ≡ GroupOf T
  group_kind T kind group = ap₂ (λ k (g : Bool). schema_kind rows.enums k g) kind group

  pub message_kind : (T : ℕ) → row.kind ≡ kinds.Message T → row.is_group ≡ false → (type_of_row rows row).kind ≡ MessageOf T
  message_kind T kind group = ap₂ (λ k (g : Bool). schema_kind rows.enums k g) kind group

  named : (T : ℕ) (g : Bool) → message_of_kind (if g then GroupOf T else MessageOf T) ≡ Some T
  named T true = refl
  named T false = refl

  pub message_there : (T : ℕ) → row.kind ≡ kinds.Message T → MessageThere rows (type_of_row rows row) → T < length rows.messages
  message_there T kind there = there T (ap (λ k. message_of_kind (schema_kind rows.enums k row.is_group)) kind ∙ named T row.is_group)

-- FIELDS

-- SCALARS

module _ (rows : TableRows) (place : Place) (n : ℕ) (w : WireType) (bytes rest : List ℕ) (row : FieldTable) where
  pub scalar_passed : KindField (schema_from rows) place n w (type_of_row rows row).kind → ((T : ℕ) → row.kind ≢ kinds.Message T) → TakesScalar row.kind w bytes rest → TakesPayload (schema_from rows) place n w bytes rest
  scalar_passed x other taken =
      let (k, shown) = shown_scalar rows.enums row.kind row.is_group other in
      scalar_taken (schema_from rows) place n w k bytes rest (kind_as (schema_from rows) place n w (type_of_row rows row).kind (ScalarOf k) x shown)
      (record { plain = taken.plain; wire = taken.wire; front = taken.front }) (scalar_fits rows.enums row.kind row.is_group k w bytes rest shown taken)

  pub scalar_failed : KeyFront n w place.bytes bytes → KindField (schema_from rows) place n w (type_of_row rows row).kind → ((T : ℕ) → row.kind ≢ kinds.Message T) → w ≢ wires.EndGroup → (e : DecodeError) → RefusesScalar row.kind w e bytes
      → StandsAt (schema_from rows) place e 0 []
  scalar_failed key x other end e f = go e f
    where
      go : (e : DecodeError) → RefusesScalar row.kind w e bytes → StandsAt (schema_from rows) place e 0 []
      go errors.Truncated f = plain_refused (schema_from rows) place n w bytes key errors.Truncated f
      go errors.Varint f = plain_refused (schema_from rows) place n w bytes key errors.Varint f
      go errors.WireType f =
          let (k, shown) = shown_scalar rows.enums row.kind row.is_group other in
          kind_refused (schema_from rows) place n w bytes key (ScalarOf k) (kind_as (schema_from rows) place n w (type_of_row rows row).kind (ScalarOf k) x shown) end
          (ap (λ v. same_wire w v) (wire_is rows.enums row.kind row.is_group k shown) ∙ f)
      go errors.Utf8 (string, delimited, (body, after, front, bad)) =
          text_refused (schema_from rows) place n w bytes key (kind_as (schema_from rows) place n w (type_of_row rows row).kind (ScalarOf StringKind) x (ap (λ k. schema_kind rows.enums k row.is_group) string)) delimited body after front bad
      go e f = absurd f

-- PACKED LISTS

module _ (rows : TableRows) (region : Region) (bytes : List ℕ) (n : ℕ) (f : Field) (found : field_at (schema_from rows) (among rows region.inside) n ≡ Some f) (row : FieldTable) (typed : f.value_type ≡ type_of_row rows row)
    (packed : Bool) (form : f.form ≡ Repeated packed) (packable : linking.is_packable row.kind ≡ true) (behind : List ℕ) where
  abbrev place : Place
  place = place_at rows region bytes

  list_field : (k : ScalarKind) → schema_kind rows.enums row.kind row.is_group ≡ ScalarOf k → ListField (schema_from rows) place n (ScalarOf k)
  list_field k shown = record { field = f; packed = packed; found = found; form = form; kind_is = ap (λ (t : ValueType). t.kind) typed ∙ shown }

  pub packed_passed : (rest : List ℕ) → TakesPacked row.kind behind rest → TakesPayload (schema_from rows) place n wires.LengthDelimited behind rest
  packed_passed rest taken =
      let shown = shown_packable rows.enums row.kind row.is_group packable in
      let wire : kind_wire shown.scalar ≡ wire_of_kind row.kind = wire_is rows.enums row.kind row.is_group shown.scalar shown.shown in
      packed_taken (schema_from rows) place n shown.scalar behind rest taken.body (list_field shown.scalar shown.shown) shown.packable taken.front
      (ap (λ v. is_some (plains_within (suc (length taken.body)) v taken.body)) wire ∙ taken.elements)

  pub packed_failed : (w : WireType) → w ≡ wires.LengthDelimited → KeyFront n w bytes behind → (e : DecodeError) → RefusesPacked row.kind e behind → StandsAt (schema_from rows) place e 0 []
  packed_failed w is key e (inl f) = plain_refused (schema_from rows) place n w behind key e (subst (λ v. PlainFault e v behind) (sym is) f)
  packed_failed w is key e (inr (body, after, front, f)) =
      let shown = shown_packable rows.enums row.kind row.is_group packable in
      let wire : kind_wire shown.scalar ≡ wire_of_kind row.kind = wire_is rows.enums row.kind row.is_group shown.scalar shown.shown in
      packed_refused (schema_from rows) place n w behind key shown.scalar (list_field shown.scalar shown.shown) is shown.packable body after front e (subst (λ v. ElementFault v e body) (sym wire) f)

-- WIRE TYPES

pub wires_differ : (v w : WireType) → v ≢ w → same_wire v w ≡ false
wires_differ v w other = go (same_wire v w) refl
  where
    go : (b : Bool) → same_wire v w ≡ b → same_wire v w ≡ false
    go true e = absurd (other (same_is v w e))
    go false e = e

pub taken_at : (schema : Schema) (place : Place) (n : ℕ) (w v : WireType) (bytes rest : List ℕ) → w ≡ v → TakesPayload schema place n v bytes rest → TakesPayload schema place n w bytes rest
taken_at schema place n w v bytes rest is taken = subst (λ u. TakesPayload schema place n u bytes rest) (sym is) taken

-- MESSAGES, GROUPS AND MAPS

module _ (schema : Schema) (place : Place) (n : ℕ) (w : WireType) (behind : List ℕ) (key : KeyFront n w place.bytes behind) where
  pub message_wire : (T : ℕ) → KindField schema place n w (MessageOf T) → w ≢ wires.EndGroup → w ≢ wires.LengthDelimited → StandsAt schema place errors.WireType 0 []
  message_wire T x end other = kind_refused schema place n w behind key (MessageOf T) x end (wires_differ w wires.LengthDelimited other)

  pub group_wire : (T : ℕ) → KindField schema place n w (GroupOf T) → w ≢ wires.EndGroup → w ≢ wires.StartGroup → StandsAt schema place errors.WireType 0 []
  group_wire T x end other = kind_refused schema place n w behind key (GroupOf T) x end (wires_differ w wires.StartGroup other)

  pub map_wire : (key_type value_type : ValueType) → MapField schema place n key_type value_type → w ≢ wires.EndGroup → w ≢ wires.LengthDelimited → StandsAt schema place errors.WireType 0 []
  map_wire key_type value_type x end other = map_refused schema place n w behind key key_type value_type x end (wires_differ w wires.LengthDelimited other)

  pub delimited_failed : w ≡ wires.LengthDelimited → (e : DecodeError) → PlainFault e wires.LengthDelimited behind → StandsAt schema place e 0 []
  delimited_failed is e f = plain_refused schema place n w behind key e (subst (λ v. PlainFault e v behind) (sym is) f)

  pub message_deep : (T : ℕ) → KindField schema place n w (MessageOf T) → w ≡ wires.LengthDelimited → place.levels ≡ 0 → StandsAt schema place errors.Depth 0 []
  message_deep T x is none = deep_kind_refused schema place n w behind key (MessageOf T) x refl (ap (λ v. same_wire v wires.LengthDelimited) is) none

  pub map_deep : (key_type value_type : ValueType) → MapField schema place n key_type value_type → w ≡ wires.LengthDelimited → has_level place.levels value_type.kind ≡ false → StandsAt schema place errors.Depth 0 []
  map_deep key_type value_type x is short =
      let (none, message) = no_level place.levels value_type.kind short in
      deep_map_refused schema place n w behind key key_type value_type x (ap (λ v. same_wire v wires.LengthDelimited) is) message none

  pub group_deep : (inside : Inside) → GroupInside schema place n inside → w ≡ wires.StartGroup → place.levels ≡ 0 → StandsAt schema place errors.Depth 0 []
  group_deep (OfType T) x is none =
      deep_kind_refused schema place n wires.StartGroup behind (subst (λ v. KeyFront n v place.bytes behind) is key) (GroupOf T) x refl refl none
  group_deep (OfEntry key_type value_type) x is none = absurd x
  group_deep OfNothing x is none = deep_refused schema place n w behind key none (ap (λ o. opens_level o w) x ∙ ap (λ v. same_wire v wires.StartGroup) is)
