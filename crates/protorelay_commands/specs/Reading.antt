-- Which message a descriptor set, the name of a message type and hex digits are read as, and why there is none.
use Rattle.std.specs.Prelude.{◌≡◌, ◌≢◌, ◌⊎◌, ℕ, List, Some, None, Ok, IsErr, ⊤}
use Rattle.hex.specs.Hex.{decode_of}
use Rattle.hex.specs.declared.error.FromHexError.{FromHexError}
use Rattle.hex.specs.declared.error.FromHexError.TheVariants as hex_errors
use Rattle.prost_reflect_wire.specs.Schema.{Schema}
use Rattle.prost_reflect_wire.specs.Grammar.{LEVEL_LIMIT}
use Rattle.prost_reflect_wire.specs.Content.{Content}
use Rattle.prost_reflect_wire.specs.Meaning.{decoded}
use Rattle.prost_reflect_wire.specs.Fault.{StandsInMessage}
use Rattle.prost_reflect_wire.specs.declared.error.DecodeError.{DecodeError}
use Rattle.prost_reflect_wire.specs.declared.error.DecodeError.TheVariants as decode_errors
use Rattle.prost_reflect_wire.specs.declared.error.EncodeError.{EncodeError}
use Rattle.prost_reflect_wire.specs.declared.error.EncodeError.TheVariants as encode_errors
use Rattle.prost_reflect_tables.specs.Places.{message_place}
use Rattle.prost_reflect_tables.specs.Shown.{schema_from}
use Rattle.prost_reflect_tables.specs.declared.error.PoolError.{PoolError}
use Rattle.prost_reflect_tables.specs.declared.error.PoolError.TheVariants as pool_errors
use Rattle.prost_reflect_pool.specs.declared.pool.LinkedPool.{LinkedPool}
use Rattle.prost_reflect_pool.specs.Pools.{pool_rows}
use Rattle.prost_reflect.specs.declared.relaying.RelayError.TheVariants as relays
use Rattle.prost_reflect.specs.declared.relaying.RelayHexError.{RelayHexError}
use Rattle.prost_reflect.specs.declared.relaying.RelayHexError.TheVariants as hex_relays
use Rattle.protorelay_commands.specs.Sets.{IsPoolOfSet, RefusesSet, IsNoSet}
use Rattle.protorelay_commands.specs.declared.refusal.Refusal.{Refusal}
use Rattle.protorelay_commands.specs.declared.refusal.Refusal.TheVariants.{Set, Pool, Name, Hex, Decode, Encode, Memory}

-- The schema of a pool's message types.
abbrev pub pool_schema : LinkedPool → Schema
pool_schema pool = schema_from (pool_rows pool)

-- WHAT IS READ

-- The name is that of a message type in the pool, and the digits spell bytes.
pub record IsAsked (pool : LinkedPool) (name digits : List ℕ) (T : ℕ) (bytes : List ℕ) : Type 0 where
  pub named : message_place (pool_rows pool) name ≡ Some T
  pub spelled : decode_of digits ≡ Ok bytes

-- The content is what the bytes mean by the type.
pub record IsReadIn (pool : LinkedPool) (name digits : List ℕ) (content : Content) : Type 0 where
  pub message_type : ℕ
  pub bytes : List ℕ
  pub asked : IsAsked pool name digits message_type bytes
  pub means : decoded (pool_schema pool) LEVEL_LIMIT message_type bytes ≡ Some content

-- In the pool that the set stands for.
pub record IsRead (set name digits : List ℕ) (content : Content) : Type 0 where
  pub pool : LinkedPool
  pub made : IsPoolOfSet set pool
  pub read : IsReadIn pool name digits content

-- WHAT IS REFUSED

-- The name and the digits are sound, and a fault stands in the bytes.
pub record RefusesBytes (pool : LinkedPool) (name digits : List ℕ) (e : DecodeError) : Type 0 where
  pub message_type : ℕ
  pub bytes : List ℕ
  pub asked : IsAsked pool name digits message_type bytes
  pub stands : StandsInMessage (pool_schema pool) message_type LEVEL_LIMIT e bytes

-- The first step that fails in the pool. Being out of memory may come anywhere.
abbrev pub RefusesIn : LinkedPool → (name digits : List ℕ) → Refusal → Type 0
RefusesIn pool name digits Name = message_place (pool_rows pool) name ≡ None
RefusesIn pool name digits Hex = (message_place (pool_rows pool) name ≢ None) × IsErr (decode_of digits)
RefusesIn pool name digits (Decode e) = RefusesBytes pool name digits e
RefusesIn pool name digits Memory = ⊤
RefusesIn pool name digits refusal = ⊥

-- Why the word for a set makes no pool: it spells no bytes, a fault stands in these, or one in their files.
abbrev pub RefusesPool : List ℕ → Refusal → Type 0
RefusesPool set Hex = IsNoSet set
RefusesPool set (Set e) = RefusesSet set (pool_errors.Decode e)
RefusesPool set (Pool (pool_errors.Decode e)) = ⊥
RefusesPool set (Pool pool_errors.OutOfMemory) = ⊥
RefusesPool set (Pool e) = RefusesSet set e
RefusesPool set Memory = ⊤
RefusesPool set refusal = ⊥

-- The set makes the pool, and there it is refused.
pub record RefusesBehindSet (set name digits : List ℕ) (refusal : Refusal) : Type 0 where
  pub pool : LinkedPool
  pub made : IsPoolOfSet set pool
  pub refuses : RefusesIn pool name digits refusal

-- The first step that fails.
abbrev pub Refuses : (set name digits : List ℕ) → Refusal → Type 0
Refuses set name digits refusal = RefusesPool set refusal ⊎ RefusesBehindSet set name digits refusal

-- WHAT ERRORS BECOME

abbrev pub hex_refusal : FromHexError → Refusal
hex_refusal hex_errors.OutOfMemory = Memory
hex_refusal e = Hex

abbrev pub pool_refusal : PoolError → Refusal
pool_refusal pool_errors.OutOfMemory = Memory
pool_refusal (pool_errors.Decode e) = Set e
pool_refusal e = Pool e

abbrev pub decode_refusal : DecodeError → Refusal
decode_refusal decode_errors.OutOfMemory = Memory
decode_refusal e = Decode e

abbrev pub encode_refusal : EncodeError → Refusal
encode_refusal encode_errors.OutOfMemory = Memory
encode_refusal e = Encode e

abbrev pub relay_refusal : RelayHexError → Refusal
relay_refusal hex_relays.Hex = Hex
relay_refusal (hex_relays.Relay (relays.Decode e)) = decode_refusal e
relay_refusal (hex_relays.Relay (relays.Encode e)) = encode_refusal e
relay_refusal hex_relays.OutOfMemory = Memory
