-- The laws of reduction at work: types and bytes of which all is true that a law asks, and others that show why it is asked (the encoding guide, "Updating A Message Type").
use Rattle.std.specs.Prelude.{◌≡◌, ◌<◌, ◌≤◌, ◌^◌, ◌∷◌}
use Prim.Native.String.{String}
use Rattle.prost_reflect_laws.specs.Common.{ℕ, suc, false, true, pos, List, [], length, Some, AreBytes, ◌>>=◌, schema_valid, Entries, NoEntries, Stored, Unknown, Value, MapValue, NoPairs, Pair, I32, LEVEL_LIMIT, Accepts, decoded, encoded, set_at, PathTo, holds_message, Reduced}
use Rattle.prost_reflect_laws.specs.ReducingExamples.{whole, less, other}
use Rattle.prost_reflect_laws.specs.Examples.Schemas.{examples, my_message, older_message, unpacked_list, packed_list, maps, maps_without_m, choice, extended, extended_choice, field_at_hundred, no_fields, closed, older_closed, closed_alone, open_alone, two_choices, choices_without_a}
use Rattle.prost_reflect_laws.specs.Examples.Words.{content, int, enum, inner, list_of, varint, delimited, hex, Means, Writes, Sets}

-- WHAT THE LAWS ASK AND SAY

abbrev pub AcceptedBy : ℕ → String → Type 0
AcceptedBy T bytes = Accepts examples LEVEL_LIMIT T (hex bytes)

-- Of an older and a newer type, bytes, what they mean to the older one, and what it writes of that: all that the law of passage asks, but for the reduction.
pub record Relays (A B : ℕ) (bytes : String) (es : Entries) (again : String) : Type 0 where
  pub checked : schema_valid examples ≡ true
  pub small : AreBytes (hex bytes)
  pub accepted : AcceptedBy B bytes
  pub read : Means A bytes es
  pub written : Writes A es again
  pub short : length (encoded (content A es)) < 2 ^ 64

-- What the law says then.
abbrev pub PassesOn : ℕ → String → String → Type 0
PassesOn B bytes again = AcceptedBy B again × (decoded examples LEVEL_LIMIT B (hex again) ≡ decoded examples LEVEL_LIMIT B (hex bytes))

-- The law of passage at work.
pub record Passes (A B : ℕ) (bytes : String) (es : Entries) (again : String) : Type 0 where
  pub relays : Relays A B bytes es again
  pub reduced : Reduced examples A examples B
  pub older_accepts : AcceptedBy A bytes
  pub passes_on : PassesOn B bytes again

-- All is true that the law asks but the reduction, and what it says is false: the newer type reads what is written with another meaning.
pub record Fails (A B : ℕ) (bytes : String) (es : Entries) (again : String) (before behind : Entries) : Type 0 where
  pub relays : Relays A B bytes es again
  pub unreduced : Reduced examples A examples B → ⊥
  pub means_before : Means B bytes before
  pub means_behind : Means B again behind
  pub not_passed_on : PassesOn B bytes again → ⊥

-- The law of edits at work: all that it asks, and what it says.
pub record PassesEdit (A B : ℕ) (bytes : String) (path : List ℕ) (v : Value) (again : String) : Type 0 where
  pub checked : schema_valid examples ≡ true
  pub small : AreBytes (hex bytes)
  pub reduced : Reduced examples A examples B
  pub level : length path ≤ suc LEVEL_LIMIT
  pub to : PathTo examples A path v
  pub plain : holds_message v ≡ false
  pub accepted : AcceptedBy B bytes
  pub sets : Sets A bytes path v again
  pub short : length (hex again) < 2 ^ 64
  pub accepted_again : AcceptedBy B again
  pub set_behind : decoded examples LEVEL_LIMIT B (hex again) ≡ (decoded examples LEVEL_LIMIT B (hex bytes) >>= λ d. Some (set_at path v d))

-- EXAMPLES

pub record Passages : Type 0 where
  -- A field that is not known, at the second level.
  pub inside : Passes older_message my_message "1a0410420805" (Stored 3 (inner older_message (Unknown 1 (varint 5) (Stored 2 (int 66) NoEntries))) NoEntries) "1a0408051042"
  -- A map that is not known, and one that is.
  pub map : Passes maps_without_m maps "1200 0a00" (Unknown 1 (delimited "") (Stored 2 (MapValue (Pair (I32 (pos 0)) (inner my_message NoEntries) NoPairs)) NoEntries)) "0a0012021200"
  -- A list, packed by the older one.
  pub packing : Passes packed_list unpacked_list "08010802" (Stored 1 (list_of (int 1 ∷ int 2 ∷ [])) NoEntries) "0a020102"
  -- A closed enum that is known to both, and a stray of it.
  pub stray : Passes closed closed "0807 0801" (Stored 1 (enum 1) (Unknown 1 (varint 7) NoEntries)) "08010807"
  -- A closed enum that is not known, and a stray of it.
  pub unknown_enum : Passes no_fields closed_alone "0807 0801" (Unknown 1 (varint 7) (Unknown 1 (varint 1) NoEntries)) "08070801"

pub record EditPassages : Type 0 where
  -- A set at the top.
  pub top : PassesEdit older_message my_message "08051042" (2 ∷ []) (int 7) "08051007"
  -- In a message inside, beside what is not known there.
  pub inside : PassesEdit older_message my_message "1a0408051042" (3 ∷ 2 ∷ []) (int 7) "1a0408051007"
  -- In a message that is absent.
  pub made : PassesEdit older_message my_message "0805" (3 ∷ 2 ∷ []) (int 7) "08051a021007"

-- What the test of reduction says of two pairs of types, said by the relation.
pub record Tested : Type 0 where
  pub reduced : Reduced less 0 whole 0
  pub unreduced : Reduced other 0 whole 0 → ⊥

-- Without a reduction bytes may pass on something else.
pub record FailedPassages : Type 0 where
  -- Both members of a oneof are added: the last one was a, and is b.
  pub members : Fails no_fields choice "1200 0801" (Unknown 1 (varint 1) (Unknown 2 (delimited "") NoEntries)) "08011200" (Stored 1 (int 1) NoEntries) (Stored 2 (inner my_message NoEntries) NoEntries)
  -- One member is added to a oneof: the last one was a, and is b.
  pub member : Fails choices_without_a two_choices "1005 0806" (Unknown 1 (varint 6) (Stored 2 (int 5) NoEntries)) "08061005" (Stored 1 (int 6) NoEntries) (Stored 2 (int 5) NoEntries)
  -- The members of a oneof are extensions to the older type, and extensions are in no oneof: the last one was a, and is b.
  pub extensions : Fails extended_choice choice "1200 0801" (Stored 1 (int 1) (Stored 2 (inner my_message NoEntries) NoEntries)) "08011200" (Stored 1 (int 1) NoEntries) (Stored 2 (inner my_message NoEntries) NoEntries)
  -- An enum declares fewer numbers to the older type: the last one was A, and is B.
  pub numbers : Fails older_closed closed "0801 0800" (Stored 1 (enum 0) (Unknown 1 (varint 1) NoEntries)) "08000801" (Stored 1 (enum 0) NoEntries) (Stored 1 (enum 1) NoEntries)
  -- An enum is closed to the newer type alone: B is lost.
  pub closed_to_newer : Fails open_alone closed_alone "0801 0807" (Stored 1 (enum 7) NoEntries) "0807" (Stored 1 (enum 1) (Unknown 1 (varint 7) NoEntries)) (Unknown 1 (varint 7) NoEntries)
  -- An enum is closed to the older type alone: the last one was B, and is 7.
  pub closed_to_older : Fails closed_alone open_alone "0807 0801" (Stored 1 (enum 1) (Unknown 1 (varint 7) NoEntries)) "08010807" (Stored 1 (enum 1) NoEntries) (Stored 1 (enum 7) NoEntries)

abbrev pub to_hundred : List ℕ
to_hundred = 100 ∷ []

-- A field in no oneof that is an extension to the older type. Reading, writing and setting make no difference between the two, so that bytes pass on; it is the types that are not each other's.
pub record ExtensionAgainstField : Type 0 where
  pub unreduced : Reduced examples extended examples field_at_hundred → ⊥
  pub relays : Relays extended field_at_hundred "a00601 a00605" (Stored 100 (int 5) NoEntries) "a00605"
  pub passes_on : PassesOn field_at_hundred "a00601 a00605" "a00605"
  -- A value is set through the older type,
  pub sets : (length to_hundred ≤ suc LEVEL_LIMIT) × PathTo examples extended to_hundred (int 7) × (holds_message (int 7) ≡ false) × Sets extended "a00601 a00605" to_hundred (int 7) "a00607"
  -- and there in what the newer one reads.
  pub set_behind : AcceptedBy field_at_hundred "a00607" × (decoded examples LEVEL_LIMIT field_at_hundred (hex "a00607") ≡ (decoded examples LEVEL_LIMIT field_at_hundred (hex "a00601 a00605") >>= λ d. Some (set_at to_hundred (int 7) d)))
