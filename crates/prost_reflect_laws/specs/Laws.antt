-- Laws of the definitions.
use Rattle.std.specs.Prelude.{◌≡◌, ◌≢◌, ◌≤◌, ◌<◌, ◌^◌, ◌↔◌, ◌∷◌, ◌++◌}
use Rattle.prost_reflect_laws.specs.Common.{ℕ, suc, true, false, List, [], length, map, flat_map, ⊤, max, Some, IsTrue, AreBytes, Records, Record, Payload, Flat, Spells, read, body_of, valid, payload_valid, short_body, Scalar, ScalarKind, elem, written, scalar_valid, is_undeclared, Schema, Field, Kind, ScalarOf, ValueType, Singular, Repeated, MapFrom, is_packable, known, field_of, is_sibling, schema_valid, Content, ContentOf, Entries, NoEntries, Stored, Unknown, Value, ScalarValue, MessageValue, ListValue, MapValue, Values, NoValues, Item, Pairs, NoPairs, Pair, schema_of, type_of, ordered, entries_ordered, pairs_ordered, LEVEL_LIMIT, Accepts, accepts, allows, element_payloads_in, is_stray, is_stray_entry, records_in, value_records, unknown_payloads, MeansInside, element, entry_key, entry_value, field_value, meaning, decoded, steps, is_default_of, value_payload, pair_payload, record_at, field_payloads, records, encoded, levels, kept, WellStored, Fitting, WellTyped, is_of_type, is_whole_stray, has_value_of, elements_valid, merged, set_at, PathTo}

-- READING

-- Bytes spell at most one list of records.
abbrev pub OneReading : Type 0
OneReading = (bytes : List ℕ) (rs qs : Records) → Spells rs bytes → Spells qs bytes → rs ≡ qs

-- What is read spells, and what spells is read.
abbrev pub ReadIsSpells : Type 0
ReadIsSpells = (bytes : List ℕ) (rs : Records) → AreBytes bytes → (read bytes ≡ Some rs) ↔ Spells rs bytes

-- The spelling of records spells them.
abbrev pub WrittenSpells : Type 0
WrittenSpells = (rs : Records) → valid rs ≡ true → Spells rs (short_body rs)

-- The relation and the test say the same.
abbrev pub AcceptsIsTest : Type 0
AcceptsIsTest = (schema : Schema) (k T : ℕ) (bytes : List ℕ) → AreBytes bytes → Accepts schema k T bytes ↔ IsTrue (accepts schema k T bytes)

-- MEANING

-- The numbers differ and share no oneof.
pub record Apart (fields : List Field) (n m : ℕ) : Type 0 where
  pub differ : n ≢ m
  pub left : (f : Field) → field_of fields n ≡ Some f → is_sibling fields f m ≡ false
  pub right : (f : Field) → field_of fields m ≡ Some f → is_sibling fields f n ≡ false

-- Records of different numbers that share no oneof commute.
abbrev pub Commute : Type 0
Commute = (schema : Schema) (k T : ℕ) (front behind : List Record) (r s : Record) → Apart (known schema T) r.number s.number →
    meaning schema k T (front ++ (r ∷ s ∷ behind)) ≡ meaning schema k T (front ++ (s ∷ r ∷ behind))

-- Records may be read one behind another.
abbrev pub MeaningBySteps : Type 0
MeaningBySteps = (schema : Schema) (k T : ℕ) (front behind : List Record)
    → meaning schema k T (front ++ behind) ≡ steps k (meaning schema k T front) behind

-- Records of one meaning may stand for one another in front of others.
abbrev pub SameBehind : Type 0
SameBehind = (schema : Schema) (k T : ℕ) (front other behind : List Record)
    → meaning schema k T front ≡ meaning schema k T other
    → meaning schema k T (front ++ behind) ≡ meaning schema k T (other ++ behind)

-- More levels change no meaning of records that are allowed.
abbrev pub LevelsFree : Type 0
LevelsFree = (schema : Schema) (k m T : ℕ) (rs : List Record) → allows schema k T rs ≡ true → k ≤ m
    → meaning schema k T rs ≡ meaning schema m T rs

-- More levels refuse no records that are allowed.
abbrev pub AllowedFurther : Type 0
AllowedFurther = (schema : Schema) (k m T : ℕ) (rs : List Record) → allows schema k T rs ≡ true → k ≤ m → allows schema m T rs ≡ true

-- Numbers and keys ascend in what is read.
abbrev pub MeaningOrdered : Type 0
MeaningOrdered = (schema : Schema) (k T : ℕ) (rs : List Record) → ordered (meaning schema k T rs) ≡ true

-- What is read is well-typed.
abbrev pub MeaningTyped : Type 0
MeaningTyped = (schema : Schema) (k T : ℕ) (rs : List Record) → schema_valid schema ≡ true → valid (body_of rs) ≡ true
    → allows schema k T rs ≡ true
    → WellTyped (meaning schema k T rs)

-- What is allowed within so many levels means a content of at most as many.
abbrev pub MeaningLevels : Type 0
MeaningLevels = (schema : Schema) (k T : ℕ) (rs : List Record) → schema_valid schema ≡ true → valid (body_of rs) ≡ true
    → allows schema k T rs ≡ true
    → levels (meaning schema k T rs) ≤ k

-- A content behind more records: of the same type, well-typed, and of at most so many levels.
pub record StaysWell (k : ℕ) (c d : Content) : Type 0 where
  pub schema_same : schema_of d ≡ schema_of c
  pub type_same : type_of d ≡ type_of c
  pub typed : WellTyped d
  pub low : levels d ≤ k

-- Records that are allowed keep a content so, read behind it
abbrev pub StepsWell : Type 0
StepsWell = (k : ℕ) (c : Content) (rs : List Record) → schema_valid (schema_of c) ≡ true → WellTyped c → levels c ≤ k
    → valid (body_of rs) ≡ true
    → allows (schema_of c) k (type_of c) rs ≡ true
    → StaysWell k c (steps k c rs)

-- or merged into it.
abbrev pub MergedWell : Type 0
MergedWell = (c : Content) (rs : List Record) → schema_valid (schema_of c) ≡ true → WellTyped c
    → valid (body_of rs) ≡ true
    → allows (schema_of c) LEVEL_LIMIT (type_of c) rs ≡ true
    → StaysWell (max (levels c) LEVEL_LIMIT) c (merged c rs)

-- More levels change nothing of what allowed records make of a content, however deep that nests.
abbrev pub StepsFree : Type 0
StepsFree = (k m : ℕ) (c : Content) (rs : List Record) → schema_valid (schema_of c) ≡ true → WellTyped c
    → valid (body_of rs) ≡ true
    → allows (schema_of c) k (type_of c) rs ≡ true
    → k ≤ m
    → steps k c rs ≡ steps m c rs

-- Pieces, at any depth: records that the limit allows, merged into what any allowed records mean, mean what all of them mean.
abbrev pub Pieces : Type 0
Pieces = (schema : Schema) (k m T : ℕ) (front behind : List Record) → schema_valid schema ≡ true
    → valid (body_of front) ≡ true
    → allows schema k T front ≡ true
    → valid (body_of behind) ≡ true
    → allows schema LEVEL_LIMIT T behind ≡ true
    → k ≤ m
    → LEVEL_LIMIT ≤ m
    → merged (meaning schema k T front) behind ≡ meaning schema m T (front ++ behind)

-- Pieces merged one behind the other are merged as one.
abbrev pub MergesJoin : Type 0
MergesJoin = (c : Content) (front behind : List Record) → schema_valid (schema_of c) ≡ true → WellTyped c
    → valid (body_of front) ≡ true
    → allows (schema_of c) LEVEL_LIMIT (type_of c) front ≡ true
    → valid (body_of behind) ≡ true
    → allows (schema_of c) LEVEL_LIMIT (type_of c) behind ≡ true
    → merged (merged c front) behind ≡ merged c (front ++ behind)

-- What is decoded is well-typed, and nests no deeper than it was allowed to.
abbrev pub DecodedWell : Type 0
DecodedWell = (schema : Schema) (k T : ℕ) (bytes : List ℕ) (c : Content) → AreBytes bytes → schema_valid schema ≡ true
    → decoded schema k T bytes ≡ Some c
    → WellTyped c × (levels c ≤ k)

-- CONTENTS OF WHAT IS STORED

-- What is kept of what a well-typed message stores is well-typed.
abbrev pub KeptWell : Type 0
KeptWell = (c : Content) → WellStored c → WellTyped (kept c)

-- Of a well-typed content all is kept.
abbrev pub KeptContent : Type 0
KeptContent = (c : Content) → WellTyped c → kept c ≡ c

-- A set at a path keeps a content well-typed.
abbrev pub SetWell : Type 0
SetWell = (path : List ℕ) (v : Value) (c : Content) → schema_valid (schema_of c) ≡ true → WellTyped c
    → PathTo (schema_of c) (type_of c) path v
    → WellTyped (set_at path v c)

-- WRITING

-- What is written of a value of a kind is read as that value.
abbrev pub WrittenIsRead : Type 0
WrittenIsRead = (kind : ScalarKind) (v : Scalar) → scalar_valid kind v ≡ true → elem kind (Flat (written kind v)) ≡ Some v

-- A content whose bytes have a length.
pub record Writable (c : Content) : Type 0 where
  pub checked : schema_valid (schema_of c) ≡ true
  pub typed : WellTyped c
  pub length : length (encoded c) < 2 ^ 64

-- Records of one number.
abbrev pub block : ℕ → List Payload → List Record
block n ps = map (λ p. record { number = n; payload = p }) ps

-- The records of one stored value are read as it.
pub record ValueBack (inner : MeansInside) (fields : List Field) (n : ℕ) (f : Field) (v : Value) : Type 0 where
  pub sources : List Payload
  pub read : flat_map (value_records fields) (map (record_at n) (field_payloads (Some f) v)) ≡ block n sources
  pub strays : flat_map (unknown_payloads fields) (map (record_at n) (field_payloads (Some f) v)) ≡ []
  pub value : field_value inner f.form f.value_type sources ≡ Some v

pub record UnknownBack (fields : List Field) (n : ℕ) (p : Payload) : Type 0 where
  pub read : value_records fields (record_at n p) ≡ []
  pub stays : unknown_payloads fields (record_at n p) ≡ p ∷ []

-- So is each of the entries, and no two members of a oneof are among them.
abbrev pub EntriesBack : MeansInside → List Field → Entries → Type 0
EntriesBack inner fields NoEntries = ⊤
EntriesBack inner fields (Stored n v es) = (f : Field) × (field_of fields n ≡ Some f) × ValueBack inner fields n f v
    × (has_value_of (is_sibling fields f) es ≡ false)
    × EntriesBack inner fields es
EntriesBack inner fields (Unknown n p es) = UnknownBack fields n p × EntriesBack inner fields es

-- The record of one element is read as it.
pub record ElementBack (inner : MeansInside) (kind : Kind) (v : Value) : Type 0 where
  pub one : element_payloads_in kind (value_payload kind v) ≡ value_payload kind v ∷ []
  pub fits : is_stray kind (value_payload kind v) ≡ false
  pub value : element inner kind (value_payload kind v) ≡ v ∷ []

abbrev pub ElementsBack : MeansInside → Kind → Values → Type 0
ElementsBack inner kind NoValues = ⊤
ElementsBack inner kind (Item v vs) = ElementBack inner kind v × ElementsBack inner kind vs

-- A list that is not packed is read back where its elements are.
abbrev pub ListBack : Type 0
ListBack = (inner : MeansInside) (fields : List Field) (n : ℕ) (f : Field) (v : Value) (vs : Values)
    → field_of fields n ≡ Some f
    → f.form ≡ Repeated false
    → ElementsBack inner f.value_type.kind (Item v vs)
    → ValueBack inner fields n f (ListValue (Item v vs))

-- Scalars in one packed record are.
abbrev pub PackedBack : Type 0
PackedBack = (inner : MeansInside) (fields : List Field) (n : ℕ) (f : Field) (kind : ScalarKind) (v : Value)
    (vs : Values)
    → field_of fields n ≡ Some f
    → f.form ≡ Repeated true
    → f.value_type.kind ≡ ScalarOf kind
    → is_packable kind ≡ true
    → elements_valid (ScalarOf kind) (Item v vs) ≡ true
    → ValueBack inner fields n f (ListValue (Item v vs))

-- The record of one entry is read as it.
pub record PairBack (inner : MeansInside) (key value_type : ValueType) (k : Scalar) (v : Value) : Type 0 where
  pub stays : is_stray_entry value_type (pair_payload key value_type k v) ≡ false
  pub key_read : entry_key key (records_in (pair_payload key value_type k v)) ≡ k
  pub value_read : entry_value inner value_type value_type.kind (records_in (pair_payload key value_type k v)) ≡ v

abbrev pub PairsBack : MeansInside → ValueType → ValueType → Pairs → Type 0
PairsBack inner key value_type NoPairs = ⊤
PairsBack inner key value_type (Pair k v ps) = PairBack inner key value_type k v × PairsBack inner key value_type ps

-- A map in ascending keys is read back where its entries are.
abbrev pub MapBack : Type 0
MapBack = (inner : MeansInside) (fields : List Field) (n : ℕ) (f : Field) (key : ValueType) (k : Scalar) (v : Value)
    (ps : Pairs)
    → field_of fields n ≡ Some f
    → f.form ≡ MapFrom key
    → PairsBack inner key f.value_type (Pair k v ps)
    → pairs_ordered (Pair k v ps) ≡ true
    → ValueBack inner fields n f (MapValue (Pair k v ps))

-- A scalar's, a message's and a stray's are.
abbrev pub ScalarBack : Type 0
ScalarBack = (inner : MeansInside) (fields : List Field) (n : ℕ) (f : Field) (kind : ScalarKind) (v : Scalar)
    → field_of fields n ≡ Some f
    → f.form ≡ Singular
    → f.value_type.kind ≡ ScalarOf kind
    → scalar_valid kind v ≡ true
    → is_default_of f.value_type (ScalarValue v) ≡ false
    → ValueBack inner fields n f (ScalarValue v)

abbrev pub MessageBack : Type 0
MessageBack = (inner : MeansInside) (fields : List Field) (n : ℕ) (f : Field) (c : Content) → field_of fields n ≡ Some f
    → f.form ≡ Singular
    → is_of_type f.value_type.kind (type_of c) ≡ true
    → valid (body_of (records c)) ≡ true
    → inner (type_of c) (records c) ≡ c
    → ValueBack inner fields n f (MessageValue c)

abbrev pub StrayBack : Type 0
StrayBack = (fields : List Field) (n : ℕ) (f : Field) (p : Payload) → field_of fields n ≡ Some f
    → is_whole_stray f.form f.value_type p ≡ true
    → UnknownBack fields n p

-- Where the records of each value are read as it, those of the content mean it.
abbrev pub EntriesMean : Type 0
EntriesMean = (schema : Schema) (k T : ℕ) (es : Entries) → EntriesBack (meaning schema k) (known schema T) es → entries_ordered es ≡ true →
    meaning schema (suc k) T (records (ContentOf schema T es)) ≡ ContentOf schema T es

-- The records of a content mean it.
abbrev pub RecordsMean : Type 0
RecordsMean = (k : ℕ) (c : Content) → Writable c → levels c ≤ k → meaning (schema_of c) k (type_of c) (records c) ≡ c

-- They are allowed exactly within its levels.
abbrev pub RecordsAllowed : Type 0
RecordsAllowed = (k : ℕ) (c : Content) → Writable c → (allows (schema_of c) k (type_of c) (records c) ≡ true) ↔ (levels c ≤ k)

-- The bytes of a content spell its records.
abbrev pub EncodedSpells : Type 0
EncodedSpells = (c : Content) → Writable c → Spells (body_of (records c)) (encoded c)

-- Bytes that were written are accepted exactly within so many levels, and mean what was written.
abbrev pub RoundTrip : Type 0
RoundTrip = (k : ℕ) (c : Content) → Writable c
    → (Accepts (schema_of c) k (type_of c) (encoded c) ↔ (levels c ≤ k))
    × (levels c ≤ k → decoded (schema_of c) k (type_of c) (encoded c) ≡ Some c)

-- Decoding, encoding, decoding and encoding gives the bytes of the first encoding.
abbrev pub NormalForm : Type 0
NormalForm = (schema : Schema) (k T : ℕ) (bytes : List ℕ) (c : Content) → AreBytes bytes → schema_valid schema ≡ true
    → decoded schema k T bytes ≡ Some c
    → length (encoded c) < 2 ^ 64
    → decoded schema k T (encoded c) ≡ Some c

-- Records merged into a content mean what they mean behind its own.
abbrev pub MergedMeans : Type 0
MergedMeans = (c : Content) (behind : List Record) → Writable c
    → merged c behind ≡ meaning (schema_of c) (max (levels c) LEVEL_LIMIT) (type_of c) (records c ++ behind)

-- Pieces of one message join, where the first are allowed with as many levels.
abbrev pub PiecesJoin : Type 0
PiecesJoin = (schema : Schema) (k m T : ℕ) (front behind : List Record) → allows schema k T front ≡ true → k ≤ m
    → steps m (meaning schema k T front) behind ≡ meaning schema m T (front ++ behind)

-- The records of what pieces mean may stand for the pieces in front of others.
abbrev pub WrittenPieces : Type 0
WrittenPieces = (schema : Schema) (k m T : ℕ) (front behind : List Record) → schema_valid schema ≡ true
    → valid (body_of front) ≡ true
    → allows schema k T front ≡ true
    → length (encoded (meaning schema k T front)) < 2 ^ 64
    → k ≤ m
    → meaning schema m T (records (meaning schema k T front) ++ behind) ≡ meaning schema m T (front ++ behind)

-- What is read of a payload that has a spelling, and is no stray, is a value of the kind.
abbrev pub ReadIsValid : Type 0
ReadIsValid = (kind : ScalarKind) (p : Payload) (v : Scalar) → payload_valid p ≡ true → is_undeclared kind p ≡ false
    → elem kind p ≡ Some v
    → scalar_valid kind v ≡ true

-- A content that fits, whose bytes have a length.
pub record Spellable (c : Content) : Type 0 where
  pub checked : schema_valid (schema_of c) ≡ true
  pub fitting : Fitting c
  pub length : length (encoded c) < 2 ^ 64

-- Contents of one type are written equally only if they are equal. They need only fit their type: several members of a oneof, and defaults of fields without presence, may stand in them.
abbrev pub Canonicity : Type 0
Canonicity = (c d : Content) → Spellable c → Spellable d → schema_of c ≡ schema_of d → type_of c ≡ type_of d → encoded c ≡ encoded d → c ≡ d
