-- What editing makes of a descriptor set, the name of a message type, hex digits, a path of numbers and a text.
use Rattle.std.specs.Prelude.{◌≡◌, ◌≢◌, ◌-◌, ◌^◌, ◌==◌, ℕ, if◌then◌else◌, List, [], ◌∷◌, ◌++◌, Option, Some, None, option_map, ⊤}
use Rattle.std.specs.List.{slice_split}
use Rattle.hex.specs.Hex.{encode_lower}
use Rattle.prost_reflect_wire.specs.Varint.{◌>>=◌}
use Rattle.prost_reflect_wire.specs.Content.{Value, ScalarValue}
use Rattle.prost_reflect_wire.specs.Typing.{value_valid}
use Rattle.prost_reflect_wire.specs.Grammar.{LEVEL_LIMIT}
use Rattle.prost_reflect_wire.specs.Fault.{StandsInMessage}
use Rattle.prost_reflect_wire.specs.declared.error.DecodeError.{DecodeError}
use Rattle.prost_reflect_wire.specs.declared.error.EncodeError.TheVariants.{TooLong}
use Rattle.prost_reflect_tables.specs.Rows.{EnumValueRow, FieldRow, TableRows}
use Rattle.prost_reflect_tables.specs.Shown.{schema_from, schema_field}
use Rattle.prost_reflect_tables.specs.WrittenDefaults.{whole_number, up_to, field_default}
use Rattle.prost_reflect_tables.specs.declared.tables.WrittenDefault.{WrittenDefault}
use Rattle.prost_reflect_tables.specs.declared.tables.WrittenDefault.TheVariants.{U32}
use Rattle.prost_reflect_tables.specs.declared.tables.TableKind.{TableKind}
use Rattle.prost_reflect_tables.specs.declared.tables.TableKind.TheVariants.{Enum}
use Rattle.prost_reflect_pool.specs.Enums.{values_at}
use Rattle.prost_reflect_pool.specs.Pools.{pool_rows}
use Rattle.prost_reflect_pool.specs.declared.pool.LinkedPool.{LinkedPool}
use Rattle.prost_reflect.specs.Edits.{EditPassesLength, PassesEdit}
use Rattle.prost_reflect.specs.Edits as edits
use Rattle.prost_reflect_rows.specs.Paths.{row_led}
use Rattle.prost_reflect.specs.declared.relaying.edit.RelayWithError.{RelayWithError}
use Rattle.prost_reflect.specs.declared.relaying.edit.RelayWithError.TheVariants as relays
use Rattle.protorelay_commands.specs.Sets.{IsPoolOfSet}
use Rattle.protorelay_commands.specs.Reading.{IsAsked, Refuses, decode_refusal, encode_refusal}
use Rattle.protorelay_commands.specs.declared.refusal.Refusal.{Refusal}
use Rattle.protorelay_commands.specs.declared.refusal.Refusal.TheVariants.{Number, Value as NoValue, ValueUnread, Decode, Encode, Memory}

-- PATHS

-- The number of a `U32`.
abbrev pub number_in : WrittenDefault → Option ℕ
number_in (U32 n) = Some n
number_in default = None

-- A number in decimal digits alone, up to the greatest u32.
abbrev pub number_spelled : List ℕ → Option ℕ
number_spelled digits = up_to (2 ^ 32 - 1) (whole_number digits)

abbrev pub numbers_spelled : List (List ℕ) → Option (List ℕ)
numbers_spelled [] = Some []
numbers_spelled (digits ∷ more) = number_spelled digits >>= λ n. option_map (λ path. n ∷ path) (numbers_spelled more)

-- One or more numbers, joined by dots.
abbrev pub path_spelled : List ℕ → Option (List ℕ)
path_spelled text = numbers_spelled (slice_split (λ b. b == 46) text)

-- The field that the numbers lead to.
abbrev pub field_found : TableRows → ℕ → (path : List ℕ) → Option FieldRow
field_found rows T path = path_spelled path >>= λ numbers. row_led rows T numbers

-- VALUES

abbrev pub values_in : TableRows → TableKind → List EnumValueRow
values_in rows (Enum E) = values_at rows E
values_in rows kind = []

-- The value that the text spells as the default of a field's kind, if the field takes it: a list, a map, a message and a group take none.
abbrev pub text_value : TableRows → FieldRow → List ℕ → Option Value
text_value rows f text = option_map ScalarValue (field_default f.kind (values_in rows f.kind) text) >>= λ v. if value_valid (schema_field rows f) v then Some v else None

abbrev pub value_found : TableRows → ℕ → (path text : List ℕ) → Option Value
value_found rows T path text = field_found rows T path >>= λ f. text_value rows f text

-- WHAT IS WRITTEN

-- The numbers that the path spells, and the value of the field to which they lead.
pub record IsChange (rows : TableRows) (T : ℕ) (path text numbers : List ℕ) (value : Value) : Type 0 where
  pub spelled : path_spelled path ≡ Some numbers
  pub found : value_found rows T path text ≡ Some value

-- A line of the digits, in lower case, of what the bytes are written as with the value set there; newer types read it with that value set there too.
pub record IsEditedIn (rows : TableRows) (T : ℕ) (bytes path text line : List ℕ) : Type 0 where
  pub numbers : List ℕ
  pub value : Value
  pub change : IsChange rows T path text numbers value
  pub written : List ℕ
  pub edited : edits.IsEdited (schema_from rows) T bytes numbers value written
  pub passes : PassesEdit (schema_from rows) T bytes numbers value written
  pub printed : line ≡ encode_lower written ++ 10 ∷ []

pub record IsEdited (set name digits path text line : List ℕ) : Type 0 where
  pub pool : LinkedPool
  pub made : IsPoolOfSet set pool
  pub message_type : ℕ
  pub bytes : List ℕ
  pub asked : IsAsked pool name digits message_type bytes
  pub edited : IsEditedIn (pool_rows pool) message_type bytes path text line

-- WHAT IS REFUSED

-- The path leads to no field; or the text spells no value of the field to which it leads, or is not read for want of memory.
abbrev pub RefusesChange : TableRows → ℕ → (path text : List ℕ) → Refusal → Type 0
RefusesChange rows T path text Number = field_found rows T path ≡ None
RefusesChange rows T path text NoValue = (field_found rows T path ≢ None) × (value_found rows T path text ≡ None)
RefusesChange rows T path text ValueUnread = field_found rows T path ≢ None
RefusesChange rows T path text Memory = ⊤
RefusesChange rows T path text refusal = ⊥

-- The path and the text are sound, and a fault stands in the bytes.
pub record RefusesBytes (rows : TableRows) (T : ℕ) (bytes path text : List ℕ) (e : DecodeError) : Type 0 where
  pub sound : value_found rows T path text ≢ None
  pub stands : StandsInMessage (schema_from rows) T LEVEL_LIMIT e bytes

-- What is to be written is longer than a length can say.
pub record PassesLength (rows : TableRows) (T : ℕ) (bytes path text : List ℕ) : Type 0 where
  pub numbers : List ℕ
  pub value : Value
  pub change : IsChange rows T path text numbers value
  pub passes : EditPassesLength (schema_from rows) T bytes numbers value

-- The first step behind the digits that fails.
abbrev pub RefusesEditIn : TableRows → ℕ → (bytes path text : List ℕ) → Refusal → Type 0
RefusesEditIn rows T bytes path text (Decode e) = RefusesBytes rows T bytes path text e
RefusesEditIn rows T bytes path text (Encode e) = (e ≡ TooLong) × PassesLength rows T bytes path text
RefusesEditIn rows T bytes path text refusal = RefusesChange rows T path text refusal

-- The name and the digits are sound, and a step behind them fails.
pub record RefusesAsked (set name digits path text : List ℕ) (refusal : Refusal) : Type 0 where
  pub pool : LinkedPool
  pub made : IsPoolOfSet set pool
  pub message_type : ℕ
  pub bytes : List ℕ
  pub asked : IsAsked pool name digits message_type bytes
  pub refuses : RefusesEditIn (pool_rows pool) message_type bytes path text refusal

-- The first step that fails.
abbrev pub RefusesEdit : (set name digits path text : List ℕ) → Refusal → Type 0
RefusesEdit set name digits path text Number = RefusesAsked set name digits path text Number
RefusesEdit set name digits path text NoValue = RefusesAsked set name digits path text NoValue
RefusesEdit set name digits path text ValueUnread = RefusesAsked set name digits path text ValueUnread
RefusesEdit set name digits path text (Decode e) = RefusesAsked set name digits path text (Decode e)
RefusesEdit set name digits path text (Encode e) = RefusesAsked set name digits path text (Encode e)
RefusesEdit set name digits path text refusal = Refuses set name digits refusal

-- What errors become.
abbrev pub edit_refusal : RelayWithError → Refusal
edit_refusal relays.NotFound = Number
edit_refusal relays.InvalidType = NoValue
edit_refusal relays.HoldsMessage = NoValue
edit_refusal (relays.Decode e) = decode_refusal e
edit_refusal (relays.Encode e) = encode_refusal e
edit_refusal relays.OutOfMemory = Memory
