-- What the texts of fields mean, without the definitions that they stand in. For contracts of linking alone.
use Rattle.std.specs.Prelude.{◌≡◌, ◌++◌, ℕ, Bool, false, List, [], ◌∷◌, map, Option, option_map, Vec}
use Rattle.std.specs.List.{zip}
use Rattle.std.specs.declared.alloc.Global.{Global}
use Rattle.prost_reflect_types.specs.declared.FieldDescriptorProto.{FieldDescriptorProto}
use Rattle.prost_reflect_wire.specs.Scalar.{Scalar}
use Rattle.prost_reflect_linking.specs.declared.meaning.Meaning.{Meaning}
use Rattle.prost_reflect_tables.specs.declared.tables.TableKind.{TableKind}
use Rattle.prost_reflect_tables.specs.Flat.{DefinitionRow, FlatMessageRow, FlatRows}
use Rattle.prost_reflect_tables.specs.Linking.{Links, field_with, linked_message}
use Rattle.prost_reflect_tables.specs.Resolved.{ResolvedRow, resolve}
use Rattle.prost_reflect_tables.specs.Rows.{FieldRow, MessageRow, written_scalar}

pub record MeaningRow : Type 0 where
  pub extendee : Option ℕ
  pub kind : TableKind
  pub default : Option Scalar

abbrev pub meaning_row : Meaning → MeaningRow
meaning_row m = record { extendee = m.extendee; kind = m.kind; default = option_map written_scalar m.default }

abbrev pub meaning_lists : List (Vec Meaning Global) → List (List MeaningRow)
meaning_lists lists = map (λ ms. map meaning_row ms.items) lists

abbrev pub meant : ResolvedRow → MeaningRow
meant r = record { extendee = r.extendee; kind = r.kind; default = r.default }

-- The row that a definition gives with what its texts mean.
unfoldable pub field_meant : (is_extension : Bool) → DefinitionRow FieldDescriptorProto × MeaningRow → FieldRow
field_meant is_extension p = field_with is_extension p.0 p.1.kind p.1.default

-- Those of a message, with its extensions behind them.
abbrev pub all_meant : List (DefinitionRow FieldDescriptorProto) → List MeaningRow → List FieldRow → List FieldRow
all_meant ds ns es = map (field_meant false) (zip ds ns) ++ es

abbrev pub messages_meant : List (List FieldRow) → List (List MeaningRow) → List FlatMessageRow → List MessageRow
messages_meant (es ∷ ess) (ns ∷ nss) (m ∷ ms) = linked_message (all_meant m.fields ns es) m ∷ messages_meant ess nss ms
messages_meant ess nss ms = []

-- What the texts of all fields mean.
abbrev pub AreMeaningsOf : List (Vec Meaning Global) → Links → FlatRows → Type 0
AreMeaningsOf lists links rows = meaning_lists lists ≡ map (λ rs. map meant rs) (map (λ m. map (resolve links) m.fields) rows.messages)
