-- What is left of a message whose fields are cleared along paths of numbers (the encoding guide, "Submessages", for what is in what).
use Rattle.std.specs.Prelude.{◌≡◌, ◌≤◌, ◌^◌, ⊤, length, ℕ, Bool, true, false, not, ◌||◌, is_some, nat_eq, if◌then◌else◌, List, [], ◌∷◌, Some}
use Rattle.std.specs.List.{list_all}
use Rattle.prost_reflect_wire.specs.Schema.{Schema, passes}
use Rattle.prost_reflect_wire.specs.Content.{Content, Entries, NoEntries, Stored, Unknown, Value, ScalarValue, MessageValue, ListValue, MapValue, Values, NoValues, Item, Pairs, NoPairs, Pair, entries_of, value_at}
use Rattle.prost_reflect_wire.specs.Grammar.{LEVEL_LIMIT, Accepts}
use Rattle.prost_reflect_wire.specs.Fault.{StandsInMessage}
use Rattle.prost_reflect_wire.specs.Meaning.{decoded}
use Rattle.prost_reflect_wire.specs.Writing.{encoded}
use Rattle.prost_reflect_wire.specs.Edit.{in_message}
use Rattle.prost_reflect_wire.specs.Typing.{WellStored}
use Rattle.prost_reflect_wire.specs.Decoding.{Holds}
use Rattle.prost_reflect_wire.specs.declared.error.EncodeError.TheVariants as encode_errors
use Rattle.prost_reflect_dynamic.specs.Contents.{in_entries, value_cleared}
use Rattle.prototool_commands.specs.declared.refusal.Refusal.{Refusal}
use Rattle.prototool_commands.specs.declared.refusal.Refusal.TheVariants.{Decode, Encode, Memory}

-- WHAT A PATH LEADS THROUGH

-- A change of each message among the elements of a list, and among the values of a map.
abbrev pub in_values : (Content → Content) → Values → Values
in_values change NoValues = NoValues
in_values change (Item v vs) = Item (in_message v change) (in_values change vs)

abbrev pub in_pairs : (Content → Content) → Pairs → Pairs
in_pairs change NoPairs = NoPairs
in_pairs change (Pair k v ps) = Pair k (in_message v change) (in_pairs change ps)

-- A change of the message that a value is, or of each message in its list or its map.
abbrev pub in_messages : (Content → Content) → Value → Value
in_messages change (ScalarValue v) = ScalarValue v
in_messages change (MessageValue c) = MessageValue (change c)
in_messages change (ListValue vs) = ListValue (in_values change vs)
in_messages change (MapValue ps) = MapValue (in_pairs change ps)

-- A change of the value at a number.
abbrev pub changed_at : ℕ → (Value → Value) → Entries → Entries
changed_at n change NoEntries = NoEntries
changed_at n change (Stored m v es) = Stored m (if nat_eq m n then change v else v) (changed_at n change es)
changed_at n change (Unknown m p es) = Unknown m p (changed_at n change es)

-- WHAT IS CLEARED

-- The last number of a path has no value, in each message that the numbers before it lead through; all else stays.
abbrev pub cleared_along : List ℕ → Content → Content
cleared_along [] c = c
cleared_along (n ∷ []) c = value_cleared n c
cleared_along (n ∷ m ∷ path) c = in_entries (changed_at n (in_messages (cleared_along (m ∷ path)))) c

-- The same for each of the paths.
abbrev pub cleared_all : List (List ℕ) → Content → Content
cleared_all [] c = c
cleared_all (path ∷ paths) c = cleared_all paths (cleared_along path c)

-- The type accepts the bytes, and what is written is the encoding of what they mean with exactly these places cleared; to whoever reads it by the type it means that.
pub record IsRedacted (schema : Schema) (T : ℕ) (paths : List (List ℕ)) (bytes written : List ℕ) : Type 0 where
  pub content : Content
  pub accepts : Accepts schema LEVEL_LIMIT T bytes
  pub means : decoded schema LEVEL_LIMIT T bytes ≡ Some content
  pub encoding : written ≡ encoded (cleared_all paths content)
  pub accepts_written : Accepts schema LEVEL_LIMIT T written
  pub written_means : decoded schema LEVEL_LIMIT T written ≡ Some (cleared_all paths content)

-- The type accepts the bytes, but what would be written is longer than a length can say.
pub record IsTooLong (schema : Schema) (T : ℕ) (paths : List (List ℕ)) (bytes : List ℕ) : Type 0 where
  pub content : Content
  pub accepts : Accepts schema LEVEL_LIMIT T bytes
  pub means : decoded schema LEVEL_LIMIT T bytes ≡ Some content
  pub long : 2 ^ 64 ≤ length (encoded (cleared_all paths content))

-- Why nothing is written, where there is memory: a fault that the bytes have, or their length.
abbrev pub IsRefused : Schema → ℕ → List (List ℕ) → List ℕ → Refusal → Type 0
IsRefused schema T paths bytes Memory = ⊤
IsRefused schema T paths bytes (Decode e) = StandsInMessage schema T LEVEL_LIMIT e bytes
IsRefused schema T paths bytes (Encode e) = (e ≡ encode_errors.TooLong) × IsTooLong schema T paths bytes
IsRefused schema T paths bytes refusal = ⊥

-- NOTHING IS LEFT

-- A message that a value is, or one in its list or its map, passes the test.
abbrev pub message_passes : (Content → Bool) → Value → Bool
message_passes test (MessageValue c) = test c
message_passes test (ScalarValue v) = false
message_passes test (ListValue vs) = false
message_passes test (MapValue ps) = false

abbrev pub one_passes : (Content → Bool) → Values → Bool
one_passes test NoValues = false
one_passes test (Item v vs) = message_passes test v || one_passes test vs

abbrev pub pair_passes : (Content → Bool) → Pairs → Bool
pair_passes test NoPairs = false
pair_passes test (Pair k v ps) = message_passes test v || pair_passes test ps

abbrev pub holds_passing : (Content → Bool) → Value → Bool
holds_passing test (ScalarValue v) = false
holds_passing test (MessageValue c) = test c
holds_passing test (ListValue vs) = one_passes test vs
holds_passing test (MapValue ps) = pair_passes test ps

-- A message that the numbers of a path before the last lead to has a value at the last.
abbrev pub has_along : List ℕ → Content → Bool
has_along [] c = false
has_along (n ∷ []) c = is_some (value_at n (entries_of c))
has_along (n ∷ m ∷ path) c = passes (value_at n (entries_of c)) (holds_passing (has_along (m ∷ path)))

-- None does where these paths were cleared, whatever the content.
abbrev pub NothingLeft : List (List ℕ) → Type 0
NothingLeft paths = (c : Content) → list_all (λ path. not (has_along path (cleared_all paths c))) paths ≡ true

-- FOR PRIVATE CONTRACTS ALONE: WHAT IS STORED WHILE FIELDS ARE CLEARED

-- Each message that a value is, or that is an element of its list or a value of its map, is well-stored.
abbrev pub IsWell : Value → Type 0
IsWell (MessageValue c) = WellStored c
IsWell (ScalarValue v) = ⊤
IsWell (ListValue vs) = ⊤
IsWell (MapValue ps) = ⊤

abbrev pub AreWell : Values → Type 0
AreWell NoValues = ⊤
AreWell (Item v vs) = IsWell v × AreWell vs

abbrev pub PairsWell : Pairs → Type 0
PairsWell NoPairs = ⊤
PairsWell (Pair k v ps) = IsWell v × PairsWell ps

abbrev pub HoldsWell : Value → Type 0
HoldsWell (ScalarValue v) = ⊤
HoldsWell (MessageValue c) = WellStored c
HoldsWell (ListValue vs) = AreWell vs
HoldsWell (MapValue ps) = PairsWell ps

pub record ClearsAlong (path : List ℕ) (old new : Content) : Type 0 where
  pub cleared : WellStored old → new ≡ cleared_along path old

pub record ClearsLast (n : ℕ) (old new : Content) : Type 0 where
  pub cleared : WellStored old → new ≡ value_cleared n old

-- The rest of a path, in the value at its first number.
pub record ClearsThrough (n : ℕ) (rest : List ℕ) (old new : Content) : Type 0 where
  pub cleared : WellStored old → new ≡ in_entries (changed_at n (in_messages (cleared_along rest))) old

pub record ClearsInside (path : List ℕ) (old new : Value) : Type 0 where
  pub cleared : HoldsWell old → new ≡ in_messages (cleared_along path) old

pub record ClearsElement (path : List ℕ) (old new : Value) : Type 0 where
  pub cleared : IsWell old → new ≡ in_message old (cleared_along path)

pub record ClearsElements (path : List ℕ) (old new : Values) : Type 0 where
  pub cleared : AreWell old → new ≡ in_values (cleared_along path) old

pub record ClearsEntries (path : List ℕ) (old new : Pairs) : Type 0 where
  pub cleared : PairsWell old → new ≡ in_pairs (cleared_along path) old

-- Along each of the paths, and what is stored holds still.
pub record IsClearedAll (paths : List (List ℕ)) (old new : Content) : Type 0 where
  pub cleared : new ≡ cleared_all paths old
  pub holds : Holds old new
