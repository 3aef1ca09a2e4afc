-- What paths of names lead to, as `user.[my.package.extension].email`: a field by its own name, and an extension by its full name, in brackets.
use Rattle.std.specs.Prelude.{◌≡◌, ◌≢◌, ◌≤◌, ◌↔◌, ⊤, ℕ, Bool, false, if◌then◌else◌, List, [], ◌∷◌, ◌++◌, Contains, length, Option, None, Some, Ok, IfSome, MatchOption, option_map, option_copied, slice_get, string_bytes}
use Rattle.std.specs.Borrow.{Bor}
use Rattle.std.specs.Str.{bytes_eq}
use Rattle.hex.specs.Hex.{decode_of, encode_lower}
use Rattle.prost_reflect_wire.specs.Varint.{◌>>=◌}
use Rattle.prost_reflect_tables.specs.Places.{fields_at, message_place}
use Rattle.prost_reflect_tables.specs.Rows.{FieldRow, MessageRow, TableRows}
use Rattle.prost_reflect_tables.specs.Shown.{schema_from}
use Rattle.prost_reflect_tables.specs.declared.tables.TableKind.{TableKind}
use Rattle.prost_reflect_pool.specs.Listed.{extension_row_at}
use Rattle.prost_reflect_pool.specs.Lookups.{named_field, extension_where}
use Rattle.prost_reflect_pool.specs.Pools.{pool_rows}
use Rattle.prost_reflect_pool.specs.declared.pool.LinkedPool.{LinkedPool}
use Rattle.prost_reflect_rows.specs.RowKinds.{place_named}
use Rattle.prost_reflect_rows.specs.Paths.{declared_place, PATH_LIMIT}
use Rattle.prost_reflect_dynamic.specs.NamedKinds.{table_kind, IsAmong}
use Rattle.prost_reflect_dynamic.specs.declared.descriptor.kind.Kind.{Kind}
use Rattle.prost_reflect_dynamic.specs.declared.descriptor.message.MessageDescriptor.{MessageDescriptor}
use Rattle.prost_reflect_dynamic.specs.declared.descriptor.pool.DescriptorPool.{DescriptorPool}
use Rattle.prototool_commands.specs.Redacting.{IsRedacted}
use Rattle.prototool_commands.specs.declared.command.Source.{Source}
use Rattle.prototool_commands.specs.declared.command.Source.TheVariants.{Hex}
use Rattle.prototool_commands.specs.declared.redact.path.Found.{Found}
use Rattle.prototool_commands.specs.declared.redact.path.Name.{Name}
use Rattle.prototool_commands.specs.declared.redact.path.Name.TheVariants as words
use Rattle.prototool_commands.specs.declared.refusal.Refusal.{Refusal}
use Rattle.prototool_commands.specs.declared.refusal.Refusal.TheVariants.{Path, Memory}

-- THE TEXT OF A PATH

-- The own name of a field, or the full name of an extension.
pub data PathName : Type 0 where
  Own : List ℕ → PathName
  Full : List ℕ → PathName

-- A name, and what stands behind it. An extension's is in brackets.
abbrev pub written : PathName → List ℕ → List ℕ
written (Own name) behind = name ++ behind
written (Full name) behind = 91 ∷ (name ++ (93 ∷ behind))

-- The name ends where it seems to: a field's has no dot and begins with no bracket, and an extension's has no closing bracket.
abbrev pub IsClear : PathName → Type 0
IsClear (Own name) = (¬ Contains name 46) × ((rest : List ℕ) → name ≢ 91 ∷ rest)
IsClear (Full name) = ¬ Contains name 93

-- One or more names.
abbrev pub AreClear : List PathName → Type 0
AreClear [] = ⊥
AreClear (name ∷ []) = IsClear name
AreClear (name ∷ next ∷ names) = IsClear name × AreClear (next ∷ names)

-- A dot stands between each two.
abbrev pub joined : List PathName → List ℕ
joined [] = []
joined (name ∷ []) = written name []
joined (name ∷ next ∷ names) = written name (46 ∷ joined (next ∷ names))

-- THE FIELDS OF NAMES

-- The field or the extension of a name, in the message type at a place.
abbrev pub row_named : LinkedPool → ℕ → PathName → Option FieldRow
row_named pool T (Own name) = named_field (fields_at (pool_rows pool) T) name >>= slice_get (fields_at (pool_rows pool) T)
row_named pool T (Full name) = extension_where pool T (λ f. bytes_eq f.id.full_name name) >>= extension_row_at pool

abbrev pub is_entry : Option MessageRow → Bool
is_entry None = false
is_entry (Some m) = m.is_map_entry

-- The message type of the values in a map's entries, which have the number 2.
abbrev pub value_inside : TableRows → ℕ → Option ℕ
value_inside rows T = declared_place (fields_at rows T) 2 >>= λ i. slice_get (fields_at rows T) i >>= λ f. place_named f.kind

-- The message type of the messages in the values of a kind; a map's stand in its entries.
abbrev pub kind_inside : TableRows → TableKind → Option ℕ
kind_inside rows kind = place_named kind >>= λ T. if is_entry (slice_get rows.messages T) then value_inside rows T else Some T

-- The numbers of the fields of these names, each in the message type that the one before it leads to.
abbrev pub numbers_named : LinkedPool → List PathName → Option ℕ → Option (List ℕ)
numbers_named pool [] T = Some []
numbers_named pool (name ∷ names) None = None
numbers_named pool (name ∷ names) (Some T) = row_named pool T name >>= λ f. option_map (λ numbers. f.number ∷ numbers) (numbers_named pool names (kind_inside (pool_rows pool) f.kind))

-- The path is of names that lead from the message type to these numbers, one for each level that is read and one for the field at most.
pub record IsPathTo (pool : LinkedPool) (T : ℕ) (path numbers : List ℕ) : Type 0 where
  pub names : List PathName
  pub clear : AreClear names
  pub spelled : path ≡ joined names
  pub found : numbers_named pool names (Some T) ≡ Some numbers
  pub short : length numbers ≤ PATH_LIMIT

-- The numbers are those that the path leads to, and there are none just where it leads nowhere.
abbrev pub AreNumbersOf : LinkedPool → ℕ → List ℕ → Option (List ℕ) → Type 0
AreNumbersOf pool T path found = (numbers : List ℕ) → (found ≡ Some numbers) ↔ IsPathTo pool T path numbers

-- Each of the paths leads to its numbers.
abbrev pub ArePathsTo : LinkedPool → ℕ → List (List ℕ) → List (List ℕ) → Type 0
ArePathsTo pool T [] [] = ⊤
ArePathsTo pool T [] (numbers ∷ all) = ⊥
ArePathsTo pool T (path ∷ paths) [] = ⊥
ArePathsTo pool T (path ∷ paths) (numbers ∷ all) = IsPathTo pool T path numbers × ArePathsTo pool T paths all

-- One of the paths, which leads nowhere.
pub record LeadsNowhere (pool : LinkedPool) (T : ℕ) (paths : List (List ℕ)) (path : List ℕ) : Type 0 where
  pub among : Contains paths path
  pub nowhere : (numbers : List ℕ) → ¬ IsPathTo pool T path numbers

-- A path is refused where it leads nowhere, and for nothing else.
abbrev pub RefusesPaths : LinkedPool → ℕ → List (List ℕ) → Refusal → Type 0
RefusesPaths pool T paths Memory = ⊤
RefusesPaths pool T paths (Path path) = LeadsNowhere pool T paths (string_bytes path)
RefusesPaths pool T paths refusal = ⊥

-- WHAT IS REDACTED

-- The source holds the bytes, as far as its word says: digits say it all.
abbrev pub GivesBytes : Source → List ℕ → Type 0
GivesBytes (Hex digits) bytes = decode_of (string_bytes digits.now) ≡ Ok bytes
GivesBytes source bytes = ⊤

-- What is printed of bytes: a line of digits, where digits were given.
abbrev pub printed : Source → List ℕ → List ℕ
printed (Hex digits) bytes = encode_lower bytes ++ (10 ∷ [])
printed source bytes = bytes

-- The output is what the bytes of the source are written as, without the places that the paths of names lead to.
pub record IsRedaction (pool : LinkedPool) (T : ℕ) (paths : List (List ℕ)) (source : Source) (output : List ℕ) : Type 0 where
  pub bytes : List ℕ
  pub given : GivesBytes source bytes
  pub numbers : List (List ℕ)
  pub led : ArePathsTo pool T paths numbers
  pub written : List ℕ
  pub redacted : IsRedacted (schema_from (pool_rows pool)) T numbers bytes written
  pub shown : output ≡ printed source written

-- Nothing else is refused before each path leads somewhere.
abbrev pub RefusesRedaction : LinkedPool → ℕ → List (List ℕ) → Refusal → Type 0
RefusesRedaction pool T paths Memory = ⊤
RefusesRedaction pool T paths (Path path) = LeadsNowhere pool T paths (string_bytes path)
RefusesRedaction pool T paths refusal = (numbers : List (List ℕ)) × ArePathsTo pool T paths numbers

-- The same for the message type of a name, in a pool.
pub record IsRedactionNamed (name : List ℕ) (paths : List (List ℕ)) (source : Source) (output : List ℕ) : Type 0 where
  pub pool : LinkedPool
  pub message_type : ℕ
  pub named : message_place (pool_rows pool) name ≡ Some message_type
  pub redaction : IsRedaction pool message_type paths source output

pub record LeadsNowhereNamed (name : List ℕ) (paths : List (List ℕ)) (path : List ℕ) : Type 0 where
  pub pool : LinkedPool
  pub message_type : ℕ
  pub named : message_place (pool_rows pool) name ≡ Some message_type
  pub nowhere : LeadsNowhere pool message_type paths path

abbrev pub RefusesNamed : (name : List ℕ) → List (List ℕ) → Refusal → Type 0
RefusesNamed name paths (Path path) = LeadsNowhereNamed name paths (string_bytes path)
RefusesNamed name paths refusal = ⊤

-- FOR PRIVATE CONTRACTS ALONE

-- The name that a text begins with, and what stands behind a dot after it.
abbrev pub shown_name : Name → PathName
shown_name (words.Field name) = Own name.now
shown_name (words.Extension name) = Full name.now

abbrev pub behind_dot : Option (List ℕ) → List ℕ
behind_dot None = []
behind_dot (Some rest) = 46 ∷ rest

pub record BeginsWith (path : List ℕ) (name : PathName) (rest : Option (List ℕ)) : Type 0 where
  pub clear : IsClear name
  pub text : path ≡ written name (behind_dot rest)

abbrev pub IsFirstName : List ℕ → Option (Name × Option (Bor (List ℕ))) → Type 0
IsFirstName path first = MatchOption first ((name : PathName) (rest : Option (List ℕ)) → ¬ BeginsWith path name rest) (λ x. BeginsWith path (shown_name x.0) (option_copied x.1))

-- The message type inside of a kind of the pool, and of that pool.
abbrev pub IsInside : LinkedPool → Option ℕ → Option MessageDescriptor → Type 0
IsInside pool T found = (option_map (λ m. m.index) found ≡ T) × IfSome found (λ m. m.pool.inner.value ≡ pool)

abbrev pub HasInside : Kind → Option MessageDescriptor → Type 0
HasInside kind found = (pool : DescriptorPool) → IsAmong pool kind
    → IsInside pool.inner.value (kind_inside (pool_rows pool.inner.value) (table_kind kind)) found

-- What is found of a row.
pub record IsFoundOf (pool : LinkedPool) (row : Option FieldRow) (found : Found) : Type 0 where
  pub field : FieldRow
  pub is : row ≡ Some field
  pub number : found.number ≡ field.number
  pub inside : IsInside pool (kind_inside (pool_rows pool) field.kind) found.inside

abbrev pub IsFoundIn : LinkedPool → Option FieldRow → Option Found → Type 0
IsFoundIn pool row found = MatchOption found (row ≡ None) (IsFoundOf pool row)
