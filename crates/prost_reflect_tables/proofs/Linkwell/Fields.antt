-- What linking makes of a field that passes the checks: its number, its presence, its lists, its place in a oneof, and its own type.
use Rattle.std.specs.Prelude.{◌≡◌, ◌+◌, ◌&&◌, ◌||◌}
use Rattle.prost_reflect_tables.proofs.Common.{ℕ, ℤ, pos, negsuc, Bool, true, false, cond, not, List, length, Option, Some, None, is_some, refl, sym, ap, ◌∙◌, subst, arith, slice_get, nat_eq, nat_lt, String, int_cmp, is_eq, and_from, not-false, eqb-true, lt-ltb, leb-false, Decides-int_eq, slice_get_within, number_valid, Scalar, ScalarKind, scalar_eq, kind_default, Kind, ScalarOf, MessageOf, GroupOf, Schema, message_type, kind_valid, is_packable_kind, is_bare, has_kind_default, is_group, FieldDescriptorProto, Cardinality, Optional, Required, Repeated, TableKind, FieldRow, MessageRow, EnumRow, kind_in_range, oneof_in_range, enum_kind, schema_kind, schema_default, is_required, own_type, schema_from, DefinitionRow, FlatMessageRow, FlatEnumRow, FlatRows, number_or_zero, is_field_number, number_bad, is_code, is_message_type, is_member, oneof_outside, is_entry, is_of_entry, names_entry, is_entry_message, default_misplaced, Links, links_of, natural_or_zero, place_in, is_message, is_packable, is_repeated, cardinality_of_label, linked_kind, linked_default, linked_field, linked_message, linked_rows, fields_of_message}
use Rattle.std.proofs.Common.{Global}
use Rattle.prost_reflect_wire.specs.Scalar as scalars
use Rattle.prost_reflect_wire.specs.Schema as schemas
use Rattle.prost_reflect_tables.specs.declared.tables.TableKind.TheVariants as kinds
use Rattle.prost_reflect_tables.specs.Faults as faults
use Rattle.prost_reflect_tables.proofs.Linkwell.Items.{message_at, messages_length}
use Rattle.prost_reflect_tables.proofs.Linkwell.Premises.{FieldChecked, EnumChecked}
use Rattle.prost_reflect_tables.proofs.Linkwell.Kinds.{is_scalar, FieldKind, NamesMessage, NamesEnum, IsScalar}
use Rattle.prost_reflect_tables.proofs.Linkwell.Shapes.{own_kind, type_shown, types_shown, RowSound}
use Rattle.prost_reflect_tables.proofs.Linkwell.Defaults.{enum_kind_valid, enum_shown, default_shown}

-- NUMBERS

number_found : (o : Option ℤ) → not (is_field_number (number_or_zero o)) ≡ false → (number_valid (natural_or_zero o) ≡ true) × (number_or_zero o ≡ pos (natural_or_zero o))
number_found (Some (pos n)) h = (not-false (number_valid n) h, refl)
number_found _ h = absurd cc

pub number_in_range : (d : DefinitionRow FieldDescriptorProto) → number_bad d ≡ false → number_valid (natural_or_zero d.proto.number) ≡ true
number_in_range d h = (number_found d.proto.number h).0

pub number_is_natural : (d : DefinitionRow FieldDescriptorProto) → number_bad d ≡ false → number_or_zero d.proto.number ≡ pos (natural_or_zero d.proto.number)
number_is_natural d h = (number_found d.proto.number h).1

pub number_shown : (links : Links) (x : Bool) (d : DefinitionRow FieldDescriptorProto) → (linked_field links x d).number ≡ natural_or_zero d.proto.number
unfolding linked_field
number_shown links x d = refl

-- LABELS

label_shown : (o : Option ℤ) → is_repeated (cardinality_of_label (natural_or_zero o)) ≡ is_code 3 o
label_shown None = refl
label_shown (Some (negsuc n)) = refl
label_shown (Some (pos n)) = go (nat_eq n 2) (nat_eq n 3) refl refl
  where
    go : (a b : Bool) → nat_eq n 2 ≡ a → nat_eq n 3 ≡ b → is_repeated (cond a Required (cond b Repeated Optional)) ≡ b
    go true true e f = absurd (omega (arith, eqb-true n 2 e, eqb-true n 3 f))
    go true false e f = refl
    go false true e f = refl
    go false false e f = refl

pub repeated_shown : (links : Links) (x : Bool) (d : DefinitionRow FieldDescriptorProto) → is_repeated (linked_field links x d).cardinality ≡ faults.has_repeated_label d
unfolding linked_field
repeated_shown links x d = label_shown d.proto.label

pub is_repeated_label : (c : Cardinality) → is_repeated c ≡ true → c ≡ Repeated
is_repeated_label Repeated h = refl
is_repeated_label _ h = absurd cc

never_required : (c : Cardinality) → is_repeated c ≡ true → is_required c ≡ false
never_required Optional h = refl
never_required Required h = absurd cc
never_required Repeated h = refl

-- KINDS

message_kind_shown : (es : List EnumRow) (k : TableKind) (g : Bool) → schemas.is_message (schema_kind es k g) ≡ is_message k
message_kind_shown es (kinds.Message T) true = refl
message_kind_shown es (kinds.Message T) false = refl
message_kind_shown es k g = refl

enum_packable : (o : Option EnumRow) → is_packable_kind (ScalarOf (enum_kind o)) ≡ true
enum_packable None = refl
enum_packable (Some e) = refl

packable_shown : (es : List EnumRow) (k : TableKind) (g : Bool) → is_packable k ≡ true → is_packable_kind (schema_kind es k g) ≡ true
packable_shown es (kinds.Message T) g h = absurd cc
packable_shown es kinds.String g h = absurd cc
packable_shown es kinds.Bytes g h = absurd cc
packable_shown es (kinds.Enum E) g h = enum_packable (slice_get es E)
packable_shown es k g h = refl

pub no_group : (es : List EnumRow) (k : TableKind) → is_group (schema_kind es k false) ≡ false
no_group es (kinds.Message T) = refl
no_group es k = refl

-- DEFAULTS OF KINDS

int_same : (z : ℤ) → is_eq (int_cmp z z) ≡ true
int_same z = grind (arith, Decides-int_eq z z)

kind_default_same : (k : ScalarKind) → scalar_eq (kind_default k) (kind_default k) ≡ true
kind_default_same (scalars.Enum first numbers) = int_same first
kind_default_same k = refl

has_own_default : (k : Kind) (p r : Bool) → has_kind_default (record { kind = k; presence = p; required = r; default = schema_default None k }) ≡ true
has_own_default (ScalarOf k) p r = kind_default_same k
has_own_default (MessageOf T) p r = refl
has_own_default (GroupOf T) p r = refl

pub unwritten_default : (es : List EnumRow) (f : FieldRow) → f.default ≡ None → has_kind_default (own_type es f) ≡ true
unwritten_default es f none = subst (λ (o : Option Scalar). has_kind_default (record { kind = schema_kind es f.kind f.is_group; presence = f.supports_presence; required = is_required f.cardinality; default = schema_default o (schema_kind es f.kind f.is_group) }) ≡ true) (sym none)
    (has_own_default (schema_kind es f.kind f.is_group) f.supports_presence (is_required f.cardinality))

no_text : (links : Links) (k : TableKind) (o : Option (String Global)) → is_some o ≡ false → linked_default links k o ≡ None
no_text links k None h = refl
no_text links k (Some t) h = absurd cc

pub no_default : (links : Links) (x : Bool) (d : DefinitionRow FieldDescriptorProto) → is_some d.proto.default_value ≡ false → (linked_field links x d).default ≡ None
unfolding linked_field
no_default links x d h = no_text links (linked_kind links d.proto) d.proto.default_value h

-- A repeated field writes no default.
list_default : (d : DefinitionRow FieldDescriptorProto) → default_misplaced d ≡ false → faults.has_repeated_label d ≡ true → is_some d.proto.default_value ≡ false
list_default d h rep = go (is_some d.proto.default_value) (faults.has_repeated_label d) h rep
  where
    go : (a b : Bool) → (a && (b || is_message_type d.proto.type_ || d.is_proto3)) ≡ false → b ≡ true → a ≡ false
    go false b h rep = refl
    go true _ h rep = absurd cc

-- PRESENCE AND ONEOFS

presence_of_message : (rep m a x b c : Bool) → rep ≡ false → (not m || (not rep && (a || x || m || b || c))) ≡ true
presence_of_message true m a x b c h = absurd cc
presence_of_message false false a x b c h = refl
presence_of_message false true true x b c h = refl
presence_of_message false true false true b c h = refl
presence_of_message false true false false b c h = refl

presence_of_member : (rep m a x b c : Bool) → rep ≡ false → x ≡ false → b ≡ true → ((not rep && (a || x || m || b || c)) && not x) ≡ true
presence_of_member false true true false true c r n s = refl
presence_of_member false true false false true c r n s = refl
presence_of_member false false true false true c r n s = refl
presence_of_member false false false false true c r n s = refl
presence_of_member _ m a _ _ c r n s = absurd cc

placed_member : (o : Option ℤ) → is_some (place_in o) ≡ true → is_some o ≡ true
placed_member None h = h
placed_member (Some z) h = refl

single_member : (member rep : Bool) → member && rep ≡ false → member ≡ true → rep ≡ false
single_member true rep h is = h
single_member false rep h is = absurd cc

no_extension : (x member : Bool) → (x ≡ true → member ≡ false) → member ≡ true → x ≡ false
no_extension true member h is = let none = h refl in absurd cc
no_extension false member h is = refl

packed_shown : (rep packable u shown : Bool) → (packable ≡ true → shown ≡ true) → (not (rep && packable && u) || shown) ≡ true
packed_shown true true true shown h = h refl
packed_shown true true false shown h = refl
packed_shown true false u shown h = refl
packed_shown false p u shown h = refl

bare : (es : List EnumRow) (f : FieldRow) → f.supports_presence ≡ false → is_required f.cardinality ≡ false → f.default ≡ None → is_bare (own_type es f) ≡ true
bare es f presence required none = and_from (not f.supports_presence && not (is_required f.cardinality)) (has_kind_default (own_type es f))
    (rw (presence, required) refl) (unwritten_default es f none)

listed : (rep rest : Bool) → rep ≡ true → (not rep && rest) ≡ false
listed true rest h = refl
listed false rest h = absurd cc

pub row_sound : (schema : Schema) (rows : FlatRows) (x : Bool) (d : DefinitionRow FieldDescriptorProto) → FieldChecked rows d → FieldKind rows d → (x ≡ true → is_member d ≡ false) → ((E : ℕ) (e : FlatEnumRow) → slice_get rows.enums E ≡ Some e → EnumChecked e) →
    RowSound schema (linked_rows rows) (linked_field (links_of rows) x d)
unfolding linked_field
row_sound schema rows x d h kind alone enums =
    let links = links_of rows in
    let f = linked_field links x d in
    let es = (linked_rows rows).enums in
    let k = linked_kind links d.proto in
    let c = cardinality_of_label (natural_or_zero d.proto.label) in
    record {
      number = number_in_range d h.number;
      default = default_shown rows d f.is_group kind enums;
      single = λ one. rw (message_kind_shown es k f.is_group) (presence_of_message (is_repeated c) (is_message k) (not d.is_proto3) x (is_some d.proto.oneof_index) _ one);
      member = λ some.
          let member : is_member d ≡ true = placed_member d.proto.oneof_index some in
          let one : is_repeated c ≡ false = label_shown d.proto.label ∙ single_member (is_member d) (faults.has_repeated_label d) h.member member in
          (one, presence_of_member (is_repeated c) (is_message k) (not d.is_proto3) x (is_some d.proto.oneof_index) _ one (no_extension x (is_member d) alone member) member);
      list = λ many. (
        bare es f (listed (is_repeated c) _ many) (never_required c many) (no_default links x d (list_default d h.default (sym (label_shown d.proto.label) ∙ many))),
        packed_shown (is_repeated c) (is_packable k) _ (is_packable_kind (own_kind (linked_rows rows) f)) (λ p. packable_shown es k f.is_group p),
      );
    }

-- THE TYPE OF A FIELD

pub entry_shown : (fields : List FieldRow) (m : FlatMessageRow) → (linked_message fields m).is_map_entry ≡ is_entry m
unfolding linked_message
entry_shown fields m = refl

-- The linked message at a place.
abbrev pub linked_at : FlatRows → ℕ → FlatMessageRow → MessageRow
linked_at rows T m = linked_message (fields_of_message (links_of rows) rows.extensions (0 + T) m) m

pub linked_there : (rows : FlatRows) (T : ℕ) (m : FlatMessageRow) → slice_get rows.messages T ≡ Some m → slice_get (linked_rows rows).messages T ≡ Some (linked_at rows T m)
linked_there rows T m at = message_at (links_of rows) rows.extensions 0 rows.messages T m at

pub message_there : (rows : FlatRows) (T : ℕ) (m : FlatMessageRow) → slice_get rows.messages T ≡ Some m → nat_lt T (length (linked_rows rows).messages) ≡ true
message_there rows T m at = lt-ltb T (length (linked_rows rows).messages) (omega (arith, slice_get_within rows.messages T m at, messages_length (links_of rows) rows.extensions 0 rows.messages))

type_valid : (rows : FlatRows) (T : ℕ) (m : FlatMessageRow) → slice_get rows.messages T ≡ Some m → is_entry m ≡ false →
    (nat_lt T (length (schema_from (linked_rows rows))) && not (message_type (schema_from (linked_rows rows)) T).is_entry) ≡ true
type_valid rows T m at none = rw (types_shown (linked_rows rows), message_there rows T m at, type_shown (linked_rows rows) T (linked_at rows T m) (linked_there rows T m at), entry_shown (fields_of_message (links_of rows) rows.extensions (0 + T) m) m, none) refl

-- The message that a field names is an entry, or it is none.
pub entry_is_of : (rows : FlatRows) (d : DefinitionRow FieldDescriptorProto) (m : FlatMessageRow) → faults.message_named rows d.proto.type_name ≡ Some m → is_message_type d.proto.type_ ≡ true → is_of_entry rows d ≡ is_entry m
entry_is_of rows d m named is = ap (λ b. b && names_entry rows d.proto.type_name) is ∙ ap is_entry_message named

scalar_valid : (schema : Schema) (es : List EnumRow) (k : TableKind) (g : Bool) → is_scalar k ≡ true → kind_valid schema (schema_kind es k g) ≡ true
scalar_valid schema es (kinds.Message T) g is = absurd cc
scalar_valid schema es (kinds.Enum E) g is = absurd cc
scalar_valid schema es k g is = refl

abbrev pub TypeValid : FlatRows → Bool → TableKind → Type 0
TypeValid rows g k = kind_valid (schema_from (linked_rows rows)) (schema_kind (linked_rows rows).enums k g) ≡ true

pub message_type_valid : (rows : FlatRows) (k : TableKind) (g : Bool) (T : ℕ) (m : FlatMessageRow) → k ≡ kinds.Message T → slice_get rows.messages T ≡ Some m → is_entry m ≡ false → TypeValid rows g k
message_type_valid rows k g T m kind at none = subst (TypeValid rows g) (sym kind) (by_group g)
  where
    by_group : (g : Bool) → TypeValid rows g (kinds.Message T)
    by_group true = type_valid rows T m at none
    by_group false = type_valid rows T m at none

pub enum_type_valid : (rows : FlatRows) (k : TableKind) (g : Bool) (E : ℕ) (e : FlatEnumRow) → k ≡ kinds.Enum E → slice_get rows.enums E ≡ Some e → EnumChecked e → TypeValid rows g k
enum_type_valid rows k g E e kind at h =
    subst (TypeValid rows g) (sym kind)
    (subst (λ (o : Option EnumRow). kind_valid (schema_from (linked_rows rows)) (ScalarOf (enum_kind o)) ≡ true) (sym (enum_shown rows E e at)) (enum_kind_valid (schema_from (linked_rows rows)) e h))

pub scalar_type_valid : (rows : FlatRows) (k : TableKind) (g : Bool) → is_scalar k ≡ true → TypeValid rows g k
scalar_type_valid rows k g is = scalar_valid (schema_from (linked_rows rows)) (linked_rows rows).enums k g is

-- Of a field that names no entry.
pub type_shown_valid : (rows : FlatRows) (d : DefinitionRow FieldDescriptorProto) (g : Bool) → FieldKind rows d → is_of_entry rows d ≡ false → ((E : ℕ) (e : FlatEnumRow) → slice_get rows.enums E ≡ Some e → EnumChecked e) → TypeValid rows g (linked_kind (links_of rows) d.proto)
type_shown_valid rows d g (NamesMessage T m kind at named is) none enums = message_type_valid rows (linked_kind (links_of rows) d.proto) g T m kind at (sym (entry_is_of rows d m named is) ∙ none)
type_shown_valid rows d g (NamesEnum E e kind at) none enums = enum_type_valid rows (linked_kind (links_of rows) d.proto) g E e kind at (enums E e at)
type_shown_valid rows d g (IsScalar is) none enums = scalar_type_valid rows (linked_kind (links_of rows) d.proto) g is

-- PLACES

scalar_in_range : (M E : ℕ) (k : TableKind) → is_scalar k ≡ true → kind_in_range M E k ≡ true
scalar_in_range M E (kinds.Message T) is = absurd cc
scalar_in_range M E (kinds.Enum n) is = absurd cc
scalar_in_range M E k is = refl

pub kind_there : (rows : FlatRows) (d : DefinitionRow FieldDescriptorProto) → FieldKind rows d → kind_in_range (length (linked_rows rows).messages) (length (linked_rows rows).enums) (linked_kind (links_of rows) d.proto) ≡ true
kind_there rows d (NamesMessage T m kind at named is) = subst (λ (k : TableKind). kind_in_range (length (linked_rows rows).messages) (length (linked_rows rows).enums) k ≡ true) (sym kind) (message_there rows T m at)
kind_there rows d (NamesEnum E e kind at) =
    subst (λ (k : TableKind). kind_in_range (length (linked_rows rows).messages) (length (linked_rows rows).enums) k ≡ true) (sym kind)
    (lt-ltb E (length (linked_rows rows).enums) (slice_get_within (linked_rows rows).enums E _ (enum_shown rows E e at)))
kind_there rows d (IsScalar is) = scalar_in_range (length (linked_rows rows).messages) (length (linked_rows rows).enums) (linked_kind (links_of rows) d.proto) is

pub oneof_there : (count : ℕ) (o : Option ℤ) → oneof_outside count o ≡ false → oneof_in_range count (place_in o) ≡ true
oneof_there count None h = refl
oneof_there count (Some (pos i)) h = lt-ltb i count (leb-false count i h)
oneof_there count (Some (negsuc i)) h = absurd cc

pub kind_row : (links : Links) (x : Bool) (d : DefinitionRow FieldDescriptorProto) → (linked_field links x d).kind ≡ linked_kind links d.proto
unfolding linked_field
kind_row links x d = refl

pub oneof_row : (links : Links) (x : Bool) (d : DefinitionRow FieldDescriptorProto) → (linked_field links x d).oneof ≡ place_in d.proto.oneof_index
unfolding linked_field
oneof_row links x d = refl
