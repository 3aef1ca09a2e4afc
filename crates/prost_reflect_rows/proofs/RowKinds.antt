-- Kinds as the rows and as the schema have them, and which rows are maps.
use Rattle.std.specs.Prelude.{◌≡◌, ◌∷◌}
use Rattle.prost_reflect_rows.proofs.Common.{ℕ, Bool, true, false, cond, List, [], Option, Some, None, refl, sym, subst, true≢false, slice_get, ScalarOf, is_message, message_of_kind, Cardinality, TableKind, FieldRow, MessageRow, EnumRow, TableRows, is_linked, has_entry_numbers, schema_kind, enum_kind, map_entry, entry_or_none, entry_at, entry_keeps, two_of, entry_parts, map_parts, is_plain, is_plain_kind, names_message, nested_kind}
use Rattle.prost_reflect_tables.specs.declared.tables.Cardinality.TheVariants.{Optional, Required, Repeated}
use Rattle.prost_reflect_tables.specs.declared.tables.TableKind.TheVariants.{Message, Enum}

pub message_kind : (enums : List EnumRow) (kind : TableKind) (g : Bool) → is_message (schema_kind enums kind g) ≡ names_message kind
message_kind enums (Message T) true = refl
message_kind enums (Message T) false = refl
message_kind enums kind g = refl

pub plain_kind : (enums : List EnumRow) (kind : TableKind) (g : Bool) → is_plain (schema_kind enums kind g) ≡ is_plain_kind kind
plain_kind enums (Enum E) g = of (slice_get enums E)
  where
    of : (o : Option EnumRow) → is_plain (ScalarOf (enum_kind o)) ≡ false
    of None = refl
    of (Some e) = refl
plain_kind enums (Message T) true = refl
plain_kind enums (Message T) false = refl
plain_kind enums kind g = refl

pub message_named : (g : Bool) (T : ℕ) → message_of_kind (nested_kind g T) ≡ Some T
message_named true T = refl
message_named false T = refl

-- MAPS

-- A map's kind is that of its entries.
pub no_message_entry : (messages : List MessageRow) (f : FieldRow) (c : Cardinality) → names_message f.kind ≡ false → map_entry messages f c ≡ None
no_message_entry messages f Optional h = refl
no_message_entry messages f Required h = refl
no_message_entry messages f Repeated h = go f.is_group f.kind h
  where
    go : (g : Bool) (kind : TableKind) → names_message kind ≡ false → cond g None (entry_at messages kind) ≡ None
    go true kind h = refl
    go false (Message T) h = absurd (true≢false h)
    go false kind h = refl

-- A plain kind names no message.
pub plain_apart : (kind : TableKind) → is_plain_kind kind ≡ true → names_message kind ≡ false
plain_apart (Message T) h = absurd (true≢false (sym h))
plain_apart kind h = refl

pub no_entry : (messages : List MessageRow) (f : FieldRow) (c : Cardinality) → is_plain_kind f.kind ≡ true → map_entry messages f c ≡ None
no_entry messages f c h = no_message_entry messages f c (plain_apart f.kind h)

-- The type of a map's entries stands in the rows.
record EntryOf (messages : List MessageRow) (m : MessageRow) : Type 0 where
  pub place : ℕ
  pub at : slice_get messages place ≡ Some m
  pub entry : m.is_map_entry ≡ true

entry_of : (messages : List MessageRow) (f : FieldRow) (c : Cardinality) (m : MessageRow) → map_entry messages f c ≡ Some m → EntryOf messages m
entry_of messages f Optional m e = cc
entry_of messages f Required m e = cc
entry_of messages f Repeated m e = go f.is_group f.kind e
  where
    one : (x : MessageRow) (T : ℕ) (b : Bool) → x.is_map_entry ≡ b → slice_get messages T ≡ Some x → cond b (Some x) None ≡ Some m → EntryOf messages m
    one x T true i at e = let same : x ≡ m = cc in subst (EntryOf messages) same (record { place = T; at = at; entry = i })
    one x T false i at e = cc

    of : (T : ℕ) (o : Option MessageRow) → slice_get messages T ≡ o → entry_or_none o ≡ Some m → EntryOf messages m
    of T None at e = cc
    of T (Some x) at e = one x T x.is_map_entry refl at e

    go : (g : Bool) (kind : TableKind) → cond g None (entry_at messages kind) ≡ Some m → EntryOf messages m
    go true kind e = cc
    go false (Message T) e = of T (slice_get messages T) refl e
    go false kind e = cc

-- In linked rows each map has a key and a value.
pub no_map : (rows : TableRows) (f : FieldRow) → is_linked rows ≡ true → map_parts rows f ≡ None → map_entry rows.messages f f.cardinality ≡ None
no_map rows f linked none = go (map_entry rows.messages f f.cardinality) refl none
  where
    two : (fields : List FieldRow) → has_entry_numbers fields ≡ true → two_of fields ≡ None → ⊥
    two [] h e = true≢false (sym h)
    two (k ∷ []) h e = true≢false (sym h)
    two (k ∷ v ∷ fields) h e = cc

    go : (o : Option MessageRow) → map_entry rows.messages f f.cardinality ≡ o → entry_parts o ≡ None → map_entry rows.messages f f.cardinality ≡ None
    go None e h = e
    go (Some m) e h = let x = entry_of rows.messages f f.cardinality m e in absurd (two m.fields (entry_keeps rows x.place m linked x.at x.entry) h)
