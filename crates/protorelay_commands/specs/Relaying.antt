-- What relaying makes of a descriptor set, the name of a message type and hex digits.
use Rattle.std.specs.Prelude.{◌≡◌, ◌≤◌, ◌^◌, ℕ, List, [], ◌∷◌, ◌++◌, length, Some}
use Rattle.prost_reflect_wire.specs.Content.{Content}
use Rattle.prost_reflect_wire.specs.Writing.{encoded}
use Rattle.prost_reflect_wire.specs.declared.error.EncodeError.TheVariants.{TooLong}
use Rattle.prost_reflect_tables.specs.Places.{message_place}
use Rattle.prost_reflect_pool.specs.declared.pool.LinkedPool.{LinkedPool}
use Rattle.prost_reflect_pool.specs.Pools.{pool_rows}
use Rattle.prost_reflect.specs.Relaying.{IsRelayedHex}
use Rattle.protorelay_commands.specs.Sets.{IsPoolOfSet}
use Rattle.protorelay_commands.specs.Reading.{pool_schema, IsRead, Refuses}
use Rattle.protorelay_commands.specs.declared.refusal.Refusal.{Refusal}
use Rattle.protorelay_commands.specs.declared.refusal.Refusal.TheVariants.{Encode}

-- A line of the digits, in lower case, of the bytes that the message is written as again.
pub record IsRelayed (set name digits text : List ℕ) : Type 0 where
  pub pool : LinkedPool
  pub made : IsPoolOfSet set pool
  pub message_type : ℕ
  pub named : message_place (pool_rows pool) name ≡ Some message_type
  pub written : List ℕ
  pub relayed : IsRelayedHex (pool_schema pool) message_type digits written
  pub printed : text ≡ written ++ 10 ∷ []

-- The message would be written again as more bytes than a length can say.
pub record PassesLength (set name digits : List ℕ) : Type 0 where
  pub content : Content
  pub read : IsRead set name digits content
  pub passes : 2 ^ 64 ≤ length (encoded content)

-- The first step that fails.
abbrev pub RefusesRelay : (set name digits : List ℕ) → Refusal → Type 0
RefusesRelay set name digits (Encode e) = (e ≡ TooLong) × PassesLength set name digits
RefusesRelay set name digits refusal = Refuses set name digits refusal
