-- Why relaying is refused.
use Rattle.std.proofs.Common.{◌≡◌, ◌⊎◌, inl, inr, subst, ℕ, List, Some, None, Result, Ok, Err, IsErr, refl, sym}
use Rattle.hex.specs.Hex.{decode_of}
use Rattle.hex.specs.declared.error.FromHexError.{FromHexError}
use Rattle.hex.proofs.HexLemmas.{decode_of-ok}
use Rattle.prost_reflect_wire.specs.Grammar.{LEVEL_LIMIT}
use Rattle.prost_reflect_wire.specs.Fault.{StandsInMessage}
use Rattle.prost_reflect_wire.specs.declared.error.DecodeError.{DecodeError}
use Rattle.prost_reflect_wire.specs.declared.error.DecodeError.TheVariants as faults
use Rattle.prost_reflect_wire.specs.declared.error.EncodeError.TheVariants as encode_errors
use Rattle.prost_reflect_tables.specs.Places.{message_place}
use Rattle.prost_reflect_pool.specs.declared.pool.LinkedPool.{LinkedPool}
use Rattle.prost_reflect_pool.specs.Pools.{pool_rows}
use Rattle.prost_reflect.specs.Relaying.{IsHex, RefusesHex}
use Rattle.prost_reflect.specs.declared.relaying.RelayError.TheVariants as relays
use Rattle.prost_reflect.specs.declared.relaying.RelayHexError.{RelayHexError}
use Rattle.prost_reflect.specs.declared.relaying.RelayHexError.TheVariants as hex_relays
use Rattle.protorelay_commands.specs.Sets.{IsPoolOfSet}
use Rattle.protorelay_commands.specs.Reading.{pool_schema, relay_refusal}
use Rattle.protorelay_commands.specs.Relaying.{RefusesRelay}
use Rattle.protorelay_commands.specs.declared.refusal.Refusal.{Refusal}
use Rattle.protorelay_commands.specs.declared.refusal.Refusal.TheVariants as refusals

-- a text that is no hex spells nothing
spells_nothing : (text : List ℕ) → (IsHex text → ⊥) → IsErr (decode_of text)
spells_nothing text none = go (decode_of text) refl
  where
    go : (r : Result (List ℕ) FromHexError) → decode_of text ≡ r → IsErr r
    go (Ok bytes) e = let read = decode_of-ok text bytes e in absurd (none (read.0, read.1))
    go (Err fault) e = refl

module _ (set name digits : List ℕ) (pool : LinkedPool) (made : IsPoolOfSet set pool) (T : ℕ) (named : message_place (pool_rows pool) name ≡ Some T) where
  stands : (e : DecodeError) (bytes : List ℕ) → decode_of digits ≡ Ok bytes → StandsInMessage (pool_schema pool) T LEVEL_LIMIT e bytes → RefusesRelay set name digits (refusals.Decode e)
  stands e bytes spelled fault = inr (record { pool = pool; made = made; refuses = record { message_type = T; bytes = bytes; asked = record { named = named; spelled = spelled }; stands = fault } })

  pub relay_refused : (e : RelayHexError) → RefusesHex (pool_schema pool) T digits e → RefusesRelay set name digits (relay_refusal e)
  relay_refused hex_relays.Hex none = inr (record { pool = pool; made = made; refuses = ((λ absent. cc), spells_nothing digits none) })
  relay_refused (hex_relays.Relay (relays.Decode faults.Truncated)) r = stands faults.Truncated r.bytes r.spells.spelled r.refuses.stands
  relay_refused (hex_relays.Relay (relays.Decode faults.Varint)) r = stands faults.Varint r.bytes r.spells.spelled r.refuses.stands
  relay_refused (hex_relays.Relay (relays.Decode faults.Key)) r = stands faults.Key r.bytes r.spells.spelled r.refuses.stands
  relay_refused (hex_relays.Relay (relays.Decode faults.WireType)) r = stands faults.WireType r.bytes r.spells.spelled r.refuses.stands
  relay_refused (hex_relays.Relay (relays.Decode faults.EndGroup)) r = stands faults.EndGroup r.bytes r.spells.spelled r.refuses.stands
  relay_refused (hex_relays.Relay (relays.Decode faults.Utf8)) r = stands faults.Utf8 r.bytes r.spells.spelled r.refuses.stands
  relay_refused (hex_relays.Relay (relays.Decode faults.Depth)) r = stands faults.Depth r.bytes r.spells.spelled r.refuses.stands
  relay_refused (hex_relays.Relay (relays.Decode faults.OutOfMemory)) r = inl tt
  relay_refused (hex_relays.Relay (relays.Encode encode_errors.TooLong)) r =
      let relayed = r.refuses.relayed in (
        refl,
        record {
          content = relayed.content;
          read = record { pool = pool; made = made; read = record { message_type = T; bytes = r.bytes; asked = record { named = named; spelled = r.spells.spelled }; means = relayed.means } };
          passes = rw relayed.encoding at r.refuses.passes;
        },
      )
  relay_refused (hex_relays.Relay (relays.Encode encode_errors.OutOfMemory)) r = inl tt
  relay_refused hex_relays.OutOfMemory r = inl tt

-- no message type has the name
pub name_refused : (set name digits : List ℕ) (pool : LinkedPool) → IsPoolOfSet set pool → (e : Refusal) → ((e ≡ refusals.Name) × (message_place (pool_rows pool) name ≡ None)) ⊎ (e ≡ refusals.Memory) → RefusesRelay set name digits e
name_refused set name digits pool made e (inl (is, none)) = subst (RefusesRelay set name digits) (sym is) (inr (record { pool = pool; made = made; refuses = none }))
name_refused set name digits pool made e (inr is) = subst (RefusesRelay set name digits) (sym is) (inl tt)
