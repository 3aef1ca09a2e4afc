-- Equality of rows, as tests that decide it.
use Rattle.std.specs.Prelude.{◌≡◌, Bool, true, ◌&&◌, nat_eq, refl}
use Rattle.std.specs.Bool.{Decides, beq}
use Rattle.std.specs.Option.{option_eq}
use Rattle.std.specs.Ordering.{int_eq}
use Rattle.std.specs.Cmp.{unsigned_Decides, signed_Decides, booleans_Decides}
use Rattle.std.specs.Cmp.Lexicographic.{pointwise}
use Rattle.std.proofs.Common.{sym, ap, true≢false}
use Rattle.std.proofs.lemmas.Bool.Decides.{Decides-and, Decides-like}
use Rattle.prost_reflect_wire.specs.Scalar.{scalar_eq}
use Rattle.prost_reflect_wire.specs.Deciding.{decided, list_decides, option_decides, text_decides, scalar_decides}
use Rattle.prost_reflect_tables.specs.declared.tables.Cardinality.{Cardinality}
use Rattle.prost_reflect_tables.specs.declared.tables.Cardinality.TheVariants as labels
use Rattle.prost_reflect_tables.specs.declared.tables.TableKind.{TableKind}
use Rattle.prost_reflect_tables.specs.declared.tables.TableKind.TheVariants as kinds
use Rattle.prost_reflect_tables.specs.contracts.tables.CardinalityPartialEq.TheImpl as code_labels
use Rattle.prost_reflect_tables.specs.contracts.tables.CardinalityEq.TheImpl.Laws as label_laws
use Rattle.prost_reflect_tables.specs.contracts.tables.TableKindPartialEq.TheImpl as code_kinds
use Rattle.prost_reflect_tables.specs.contracts.tables.TableKindEq.TheImpl.Laws as kind_laws
use Rattle.prost_reflect_tables.specs.Rows.{IdentityRow, FieldRow, OneofRow, MessageRow, EnumValueRow, EnumRow, TableRows}

-- Kinds and labels as code compares them: by their variants, and by the places that they name.
abbrev pub label_eq : Cardinality → Cardinality → Bool
label_eq = (code_labels.ghosts).eq

abbrev pub kind_eq : TableKind → TableKind → Bool
kind_eq = (code_kinds.ghosts).eq

abbrev pub identity_eq : IdentityRow → IdentityRow → Bool
identity_eq i j =
    nat_eq i.file j.file
    && (option_eq nat_eq i.parent j.parent
    && (pointwise int_eq i.path j.path
    && (pointwise nat_eq i.full_name j.full_name
    && pointwise nat_eq i.name j.name)))

abbrev pub field_eq : FieldRow → FieldRow → Bool
field_eq f g =
    identity_eq f.id g.id
    && (pointwise nat_eq f.json_name g.json_name
    && (nat_eq f.number g.number
    && (beq f.is_extension g.is_extension
    && (kind_eq f.kind g.kind
    && (beq f.is_group g.is_group
    && (label_eq f.cardinality g.cardinality
    && (beq f.is_packed g.is_packed
    && (beq f.supports_presence g.supports_presence
    && (option_eq scalar_eq f.default g.default
    && option_eq nat_eq f.oneof g.oneof)))))))))

abbrev pub oneof_eq : OneofRow → OneofRow → Bool
oneof_eq o p = identity_eq o.id p.id && pointwise nat_eq o.fields p.fields

abbrev pub message_eq : MessageRow → MessageRow → Bool
message_eq m n =
    identity_eq m.id n.id
    && (beq m.is_map_entry n.is_map_entry
    && (pointwise field_eq m.fields n.fields
    && pointwise oneof_eq m.oneofs n.oneofs))

abbrev pub enum_value_eq : EnumValueRow → EnumValueRow → Bool
enum_value_eq v w = identity_eq v.id w.id && int_eq v.number w.number

abbrev pub enum_eq : EnumRow → EnumRow → Bool
enum_eq e d = identity_eq e.id d.id && (pointwise enum_value_eq e.values d.values && beq e.is_closed d.is_closed)

abbrev pub rows_eq : TableRows → TableRows → Bool
rows_eq r s = pointwise message_eq r.messages s.messages && pointwise enum_eq r.enums s.enums

-- PARTS

label_same : (a b : Cardinality) → label_eq a b ≡ true → a ≡ b
label_same labels.Optional labels.Optional h = refl
label_same labels.Required labels.Required h = refl
label_same labels.Repeated labels.Repeated h = refl
label_same a b h = absurd (true≢false (sym h))

kind_same : (a b : TableKind) → kind_eq a b ≡ true → a ≡ b
kind_same kinds.Double kinds.Double h = refl
kind_same kinds.Float kinds.Float h = refl
kind_same kinds.Int32 kinds.Int32 h = refl
kind_same kinds.Int64 kinds.Int64 h = refl
kind_same kinds.Uint32 kinds.Uint32 h = refl
kind_same kinds.Uint64 kinds.Uint64 h = refl
kind_same kinds.Sint32 kinds.Sint32 h = refl
kind_same kinds.Sint64 kinds.Sint64 h = refl
kind_same kinds.Fixed32 kinds.Fixed32 h = refl
kind_same kinds.Fixed64 kinds.Fixed64 h = refl
kind_same kinds.Sfixed32 kinds.Sfixed32 h = refl
kind_same kinds.Sfixed64 kinds.Sfixed64 h = refl
kind_same kinds.Bool kinds.Bool h = refl
kind_same kinds.String kinds.String h = refl
kind_same kinds.Bytes kinds.Bytes h = refl
kind_same (kinds.Message T) (kinds.Message U) h = ap kinds.Message ((unsigned_Decides T U).0 h)
kind_same (kinds.Enum E) (kinds.Enum F) h = ap kinds.Enum ((unsigned_Decides E F).0 h)
kind_same a b h = absurd (true≢false (sym h))

label_decides : (a b : Cardinality) → Decides (label_eq a b) (a ≡ b)
label_decides = decided label_eq label_same (label_laws.laws-law).refl

kind_decides : (a b : TableKind) → Decides (kind_eq a b) (a ≡ b)
kind_decides = decided kind_eq kind_same (kind_laws.laws-law).refl

-- ROWS

identity_decides : (i j : IdentityRow) → Decides (identity_eq i j) (i ≡ j)
identity_decides i j = Decides-like (identity_eq i j)
    (λ h k. record { file = h.0 k; parent = h.1.0 k; path = h.1.1.0 k; full_name = h.1.1.1.0 k; name = h.1.1.1.1 k })
    (λ e. (ap (λ (r : IdentityRow). r.file) e, (ap (λ (r : IdentityRow). r.parent) e, (ap (λ (r : IdentityRow). r.path) e, (ap (λ (r : IdentityRow). r.full_name) e, ap (λ (r : IdentityRow). r.name) e)))))
    (Decides-and _ _ (unsigned_Decides i.file j.file)
    (Decides-and _ _ (option_decides unsigned_Decides i.parent j.parent)
    (Decides-and _ _ (list_decides signed_Decides i.path j.path)
    (Decides-and _ _ (text_decides i.full_name j.full_name)
    (text_decides i.name j.name)))))

field_decides : (f g : FieldRow) → Decides (field_eq f g) (f ≡ g)
field_decides f g = Decides-like (field_eq f g)
    (λ h i. record { id = h.0 i; json_name = h.1.0 i; number = h.1.1.0 i; is_extension = h.1.1.1.0 i; kind = h.1.1.1.1.0 i; is_group = h.1.1.1.1.1.0 i; cardinality = h.1.1.1.1.1.1.0 i; is_packed = h.1.1.1.1.1.1.1.0 i; supports_presence = h.1.1.1.1.1.1.1.1.0 i; default = h.1.1.1.1.1.1.1.1.1.0 i; oneof = h.1.1.1.1.1.1.1.1.1.1 i })
    (λ e. (ap (λ (r : FieldRow). r.id) e, (ap (λ (r : FieldRow). r.json_name) e, (ap (λ (r : FieldRow). r.number) e, (ap (λ (r : FieldRow). r.is_extension) e, (ap (λ (r : FieldRow). r.kind) e, (ap (λ (r : FieldRow). r.is_group) e, (ap (λ (r : FieldRow). r.cardinality) e, (ap (λ (r : FieldRow). r.is_packed) e, (ap (λ (r : FieldRow). r.supports_presence) e, (ap (λ (r : FieldRow). r.default) e, ap (λ (r : FieldRow). r.oneof) e)))))))))))
    (Decides-and _ _ (identity_decides f.id g.id)
    (Decides-and _ _ (text_decides f.json_name g.json_name)
    (Decides-and _ _ (unsigned_Decides f.number g.number)
    (Decides-and _ _ (booleans_Decides f.is_extension g.is_extension)
    (Decides-and _ _ (kind_decides f.kind g.kind)
    (Decides-and _ _ (booleans_Decides f.is_group g.is_group)
    (Decides-and _ _ (label_decides f.cardinality g.cardinality)
    (Decides-and _ _ (booleans_Decides f.is_packed g.is_packed)
    (Decides-and _ _ (booleans_Decides f.supports_presence g.supports_presence)
    (Decides-and _ _ (option_decides scalar_decides f.default g.default)
    (option_decides unsigned_Decides f.oneof g.oneof)))))))))))

oneof_decides : (o p : OneofRow) → Decides (oneof_eq o p) (o ≡ p)
oneof_decides o p = Decides-like (oneof_eq o p) (λ h i. record { id = h.0 i; fields = h.1 i }) (λ e. (ap (λ (r : OneofRow). r.id) e, ap (λ (r : OneofRow). r.fields) e))
    (Decides-and _ _ (identity_decides o.id p.id) (list_decides unsigned_Decides o.fields p.fields))

message_decides : (m n : MessageRow) → Decides (message_eq m n) (m ≡ n)
message_decides m n = Decides-like (message_eq m n)
    (λ h i. record { id = h.0 i; is_map_entry = h.1.0 i; fields = h.1.1.0 i; oneofs = h.1.1.1 i })
    (λ e. (ap (λ (r : MessageRow). r.id) e, (ap (λ (r : MessageRow). r.is_map_entry) e, (ap (λ (r : MessageRow). r.fields) e, ap (λ (r : MessageRow). r.oneofs) e))))
    (Decides-and _ _ (identity_decides m.id n.id)
    (Decides-and _ _ (booleans_Decides m.is_map_entry n.is_map_entry)
    (Decides-and _ _ (list_decides field_decides m.fields n.fields)
    (list_decides oneof_decides m.oneofs n.oneofs))))

value_decides : (v w : EnumValueRow) → Decides (enum_value_eq v w) (v ≡ w)
value_decides v w = Decides-like (enum_value_eq v w) (λ h i. record { id = h.0 i; number = h.1 i }) (λ e. (ap (λ (r : EnumValueRow). r.id) e, ap (λ (r : EnumValueRow). r.number) e))
    (Decides-and _ _ (identity_decides v.id w.id) (signed_Decides v.number w.number))

enum_decides : (e d : EnumRow) → Decides (enum_eq e d) (e ≡ d)
enum_decides e d = Decides-like (enum_eq e d)
    (λ h i. record { id = h.0 i; values = h.1.0 i; is_closed = h.1.1 i })
    (λ s. (ap (λ (r : EnumRow). r.id) s, (ap (λ (r : EnumRow). r.values) s, ap (λ (r : EnumRow). r.is_closed) s)))
    (Decides-and _ _ (identity_decides e.id d.id)
    (Decides-and _ _ (list_decides value_decides e.values d.values)
    (booleans_Decides e.is_closed d.is_closed)))

pub rows_decide : (r s : TableRows) → Decides (rows_eq r s) (r ≡ s)
rows_decide r s = Decides-like (rows_eq r s) (λ h i. record { messages = h.0 i; enums = h.1 i }) (λ e. (ap (λ (t : TableRows). t.messages) e, ap (λ (t : TableRows). t.enums) e))
    (Decides-and _ _ (list_decides message_decides r.messages s.messages) (list_decides enum_decides r.enums s.enums))

-- LAWS
