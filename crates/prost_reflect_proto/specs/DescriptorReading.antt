-- How the bytes of a descriptor record are read: first the values of its fields are found where they stand, then each field is made of those of its number. For private contracts alone.
use Rattle.std.specs.Prelude.{◌≡◌, ℕ, zero, suc, ◌⊎◌, Bool, false, not, ℤ, List, [], ◌∷◌, ◌++◌, map, flat_map, Option, Some, None, option_map, nat_eq, nat_le, if◌then◌else◌}
use Rattle.std.specs.Str.{is_utf8}
use Rattle.prost_reflect_wire.specs.declared.error.DecodeError.{DecodeError}
use Rattle.prost_reflect_wire.specs.declared.error.DecodeError.TheVariants as errors
use Rattle.prost_reflect_wire.specs.declared.key.WireType.{WireType}
use Rattle.prost_reflect_wire.specs.declared.key.WireType.TheVariants as wires
use Rattle.prost_reflect_wire.specs.Varint.{◌>>=◌, guard}
use Rattle.prost_reflect_wire.specs.Record.{Plain, Var, Len, Payload, Flat, Record, body_of, plain_wire, payload_levels}
use Rattle.prost_reflect_wire.specs.Front.{PlainFront, RecordsFront}
use Rattle.prost_reflect_wire.specs.Scalar.{Boolean, I32, Text, Bytes, Int32, low_i32}
use Rattle.prost_reflect_wire.specs.Content.{Content, Value, ScalarValue, ListValue, NoValues, Item, values_from}
use Rattle.prost_reflect_wire.specs.Grammar.{unpacked}
use Rattle.prost_reflect_wire.specs.Meaning.{present_list}
use Rattle.prost_reflect_wire.specs.Fault.{ElementFault, takes, StandsInMessage}
use Rattle.prost_reflect_types.specs.DescriptorTable.{rows, type_place, form_of, value_type_of, record_schema}
use Rattle.prost_reflect_types.specs.DescriptorMeaning.{record_decoded}
use Rattle.prost_reflect_types.specs.declared.table.RecordType.{RecordType}
use Rattle.prost_reflect_types.specs.declared.table.FieldKind.{FieldKind}
use Rattle.prost_reflect_types.specs.declared.table.FieldKind.TheVariants as kinds
use Rattle.prost_reflect_proto.specs.declared.fields.RawField.{RawField}
use Rattle.prost_reflect_proto.specs.declared.fields.RawValue.{RawValue}
use Rattle.prost_reflect_proto.specs.declared.fields.RawValue.TheVariants as raw

-- A value of a field; of a nested record its bytes.
pub data Found : Type 0 where
  FoundText : List ℕ → Found
  FoundNumber : ℤ → Found
  FoundFlag : Bool → Found
  FoundBytes : List ℕ → Found
  FoundRecord : List ℕ → Found

abbrev pub found_of : RawValue → Found
found_of (raw.Text text) = FoundText text.now
found_of (raw.Number z) = FoundNumber z
found_of (raw.Flag b) = FoundFlag b
found_of (raw.Bytes bytes) = FoundBytes bytes.now
found_of (raw.Record bytes) = FoundRecord bytes.now

-- Values under their numbers.
abbrev pub found_at : RawField → ℕ × Found
found_at field = (field.number, found_of field.value)

abbrev pub all_found : List RawField → List (ℕ × Found)
all_found fields = map found_at fields

-- IN A RECORD

abbrev pub kind_at : List (ℕ × FieldKind) → ℕ → Option FieldKind
kind_at [] n = None
kind_at (row ∷ rows) n = if nat_eq row.0 n then Some row.1 else kind_at rows n

abbrev pub number_in_plain : Plain → List Found
number_in_plain (Var v) = FoundNumber (low_i32 v) ∷ []
number_in_plain p = []

-- The values of a payload, if the kind takes it.
abbrev pub found_in : FieldKind → Payload → Option (List Found)
found_in kinds.Text (Flat (Len bytes)) = if is_utf8 bytes then Some (FoundText bytes ∷ []) else None
found_in kinds.Texts (Flat (Len bytes)) = if is_utf8 bytes then Some (FoundText bytes ∷ []) else None
found_in kinds.Number (Flat (Var v)) = Some (FoundNumber (low_i32 v) ∷ [])
found_in kinds.Numbers (Flat (Var v)) = Some (FoundNumber (low_i32 v) ∷ [])
found_in kinds.Numbers (Flat (Len bytes)) = unpacked Int32 bytes >>= λ ps. Some (flat_map number_in_plain ps)
found_in kinds.Flag (Flat (Var v)) = Some (FoundFlag (not (nat_eq v 0)) ∷ [])
found_in kinds.Bytes (Flat (Len bytes)) = Some (FoundBytes bytes ∷ [])
found_in (kinds.Records t) (Flat (Len bytes)) = Some (FoundRecord bytes ∷ [])
found_in kind p = None

-- Of an unknown number nothing is found.
abbrev pub found_in_record : ℕ → List (ℕ × FieldKind) → Record → Option (List Found)
found_in_record levels rows r = elim (kind_at rows r.number) [ None ↦ guard (nat_le (payload_levels r.payload) levels) [] | Some kind ↦ found_in kind r.payload ]

abbrev pub under : ℕ → List Found → List (ℕ × Found)
under n xs = map (λ x. (n, x)) xs

abbrev pub found_in_records : ℕ → List (ℕ × FieldKind) → List Record → Option (List (ℕ × Found))
found_in_records levels rows [] = Some []
found_in_records levels rows (r ∷ rs) = found_in_record levels rows r >>= λ own. found_in_records levels rows rs >>= λ others. Some (under r.number own ++ others)

-- Records stand in front of the rest, and these are their values.
pub record Fields (levels : ℕ) (t : RecordType) (fields : List (ℕ × Found)) (bytes rest : List ℕ) : Type 0 where
  pub records : List Record
  pub front : RecordsFront (body_of records) bytes rest
  pub found : found_in_records levels (rows t) records ≡ Some fields

-- Behind the key of a field its values are added to others.
pub record FieldRead (kind : FieldKind) (n : ℕ) (w : WireType) (old new : List (ℕ × Found)) (bytes rest : List ℕ) : Type 0 where
  pub plain : Plain
  pub wire : plain_wire plain ≡ w
  pub front : PlainFront plain bytes rest
  pub own : List Found
  pub found : found_in kind (Flat plain) ≡ Some own
  pub added : new ≡ old ++ under n own

-- Delimited bytes are added as the values of a kind,
pub record DelimitedRead (kind : FieldKind) (n : ℕ) (old new : List (ℕ × Found)) (body : List ℕ) : Type 0 where
  pub own : List Found
  pub found : found_in kind (Flat (Len body)) ≡ Some own
  pub added : new ≡ old ++ under n own

-- or are refused.
abbrev pub DelimitedFault : DecodeError → FieldKind → List ℕ → Type 0
DelimitedFault errors.Truncated kind body = (kind ≡ kinds.Numbers) × ElementFault wires.Varint errors.Truncated body
DelimitedFault errors.Varint kind body = (kind ≡ kinds.Numbers) × ElementFault wires.Varint errors.Varint body
DelimitedFault errors.WireType kind body = takes (form_of kind) (value_type_of kind).kind wires.LengthDelimited ≡ false
DelimitedFault errors.Utf8 kind body = ((kind ≡ kinds.Text) ⊎ (kind ≡ kinds.Texts)) × (is_utf8 body ≡ false)
DelimitedFault e kind body = ⊥

-- The numbers of a packed record are added to others.
pub record PackedRead (n : ℕ) (old new : List (ℕ × Found)) (body : List ℕ) : Type 0 where
  pub plains : List Plain
  pub unpacked : unpacked Int32 body ≡ Some plains
  pub added : new ≡ old ++ under n (flat_map number_in_plain plains)

-- BY NUMBER

abbrev pub in_front : {A : Type 0} → Option A → List A → List A
in_front None xs = xs
in_front (Some x) xs = x ∷ xs

-- What is read of the values of a number.
abbrev pub at_number : {A : Type 0} → (Found → Option A) → ℕ → List (ℕ × Found) → List A
at_number of n [] = []
at_number of n (field ∷ fields) = if nat_eq field.0 n then in_front (of field.1) (at_number of n fields) else at_number of n fields

abbrev pub text_in : Found → Option (List ℕ)
text_in (FoundText text) = Some text
text_in x = None

abbrev pub number_in : Found → Option ℤ
number_in (FoundNumber z) = Some z
number_in x = None

abbrev pub flag_in : Found → Option Bool
flag_in (FoundFlag b) = Some b
flag_in x = None

abbrev pub bytes_in : Found → Option (List ℕ)
bytes_in (FoundBytes bytes) = Some bytes
bytes_in x = None

abbrev pub record_in : Found → Option (List ℕ)
record_in (FoundRecord bytes) = Some bytes
record_in x = None

-- The last of several, or else what there is.
abbrev pub last_of : {A : Type 0} → Option A → List A → Option A
last_of o [] = o
last_of o (x ∷ xs) = last_of (Some x) xs

-- Pieces joined to what there is.
abbrev pub joined_to : Option (List ℕ) → List (List ℕ) → Option (List ℕ)
joined_to o [] = o
joined_to None (x ∷ xs) = joined_to (Some x) xs
joined_to (Some y) (x ∷ xs) = joined_to (Some (y ++ x)) xs

abbrev pub last_at : ℕ → List (ℕ × Found) → Option Found
last_at n fields = last_of None (at_number (λ x. Some x) n fields)

unfoldable pub text_at : ℕ → List (ℕ × Found) → Option Value
text_at n fields = option_map (λ x. ScalarValue (Text x)) (last_at n fields >>= text_in)

unfoldable pub number_at : ℕ → List (ℕ × Found) → Option Value
number_at n fields = option_map (λ z. ScalarValue (I32 z)) (last_at n fields >>= number_in)

unfoldable pub flag_at : ℕ → List (ℕ × Found) → Option Value
flag_at n fields = option_map (λ b. ScalarValue (Boolean b)) (last_at n fields >>= flag_in)

unfoldable pub bytes_at : ℕ → List (ℕ × Found) → Option Value
bytes_at n fields = option_map (λ x. ListValue (Item (ScalarValue (Bytes x)) NoValues)) (joined_to None (at_number bytes_in n fields))

unfoldable pub texts_at : ℕ → List (ℕ × Found) → Option Value
texts_at n fields = present_list (values_from (map (λ x. ScalarValue (Text x)) (at_number text_in n fields)))

unfoldable pub numbers_at : ℕ → List (ℕ × Found) → Option Value
numbers_at n fields = present_list (values_from (map (λ z. ScalarValue (I32 z)) (at_number number_in n fields)))

-- NESTED RECORDS

-- A nested record takes a level.
abbrev pub nested_decoded : ℕ → RecordType → List ℕ → Option Content
nested_decoded zero t bytes = None
nested_decoded (suc levels) t bytes = record_decoded levels t bytes

abbrev pub all_decoded : ℕ → RecordType → List (List ℕ) → Option (List Content)
all_decoded levels t [] = Some []
all_decoded levels t (body ∷ bodies) = nested_decoded levels t body >>= λ c. all_decoded levels t bodies >>= λ cs. Some (c ∷ cs)

unfoldable pub records_at : ℕ → RecordType → ℕ → List (ℕ × Found) → Option (List Content)
records_at levels t n fields = all_decoded levels t (at_number record_in n fields)

abbrev pub StandsInNested : ℕ → RecordType → DecodeError → List ℕ → Type 0
StandsInNested zero t e body = e ≡ errors.Depth
StandsInNested (suc levels) t e body = StandsInMessage record_schema (type_place t) levels e body

-- In one of them.
abbrev pub StandsAmong : ℕ → RecordType → DecodeError → List (List ℕ) → Type 0
StandsAmong levels t e [] = ⊥
StandsAmong levels t e (body ∷ bodies) = StandsInNested levels t e body ⊎ StandsAmong levels t e bodies
