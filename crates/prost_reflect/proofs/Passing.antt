-- What is relayed, and what newer types read of it.
use Rattle.std.proofs.Common.{◌≡◌, ◌≤◌, ◌⊎◌, inl, inr, ℕ, ◌<◌, ◌^◌, List, length, Ok, Err, refl, sym, ◌∙◌}
use Rattle.hex.specs.Hex.{decode_of}
use Rattle.hex.specs.declared.error.FromHexError.{FromHexError}
use Rattle.hex.specs.declared.error.FromHexError.TheVariants as hex_errors
use Rattle.hex.proofs.HexLemmas.{decode_of-ok, decode_of-digits}
use Rattle.prost_reflect_wire.specs.Varint.{AreBytes}
use Rattle.prost_reflect_wire.specs.Schema.{Schema}
use Rattle.prost_reflect_wire.specs.Content.{Content}
use Rattle.prost_reflect_wire.specs.Grammar.{LEVEL_LIMIT}
use Rattle.prost_reflect_wire.specs.Typing.{kept}
use Rattle.prost_reflect_wire.specs.Writing.{encoded}
use Rattle.prost_reflect_wire.specs.declared.error.EncodeError.{EncodeError}
use Rattle.prost_reflect_wire.specs.declared.error.EncodeError.TheVariants as encode_errors
use Rattle.prost_reflect_laws.proofs.PassageLaws as laws
use Rattle.prost_reflect_dynamic.specs.declared.descriptor.message.MessageDescriptor.{MessageDescriptor}
use Rattle.prost_reflect_dynamic.specs.Named.{schema_named, type_named}
use Rattle.prost_reflect.specs.declared.relaying.RelayError.TheVariants.{Encode}
use Rattle.prost_reflect.specs.Relaying.{IsReadBy, IsRelayed, RefusesRelay, OlderAccepts, Passes, IsHex, SpellsBytes, RefusesHex, hex_refusal}
use Rattle.prost_reflect_dynamic.proofs.ReadBack.{named_valid}

pub older_accepts : (older : Schema) (A : ℕ) (bytes : List ℕ) → OlderAccepts older A bytes
older_accepts older A bytes newer B reduced accepts = laws.older_accepts older newer LEVEL_LIMIT A B bytes reduced accepts

pub passes : (older : MessageDescriptor) (bytes written : List ℕ) → AreBytes bytes → length written < 2 ^ 64 → IsRelayed (schema_named older) (type_named older) bytes written → Passes (schema_named older) (type_named older) bytes written
passes older bytes written small l relayed newer B reduced accepts =
    let through = laws.passage (schema_named older) newer LEVEL_LIMIT (type_named older) B bytes relayed.content (named_valid older) small reduced accepts relayed.means (rw (← relayed.encoding) l) in
    rw relayed.encoding (record { accepts = through.0; same = through.1 })

pub is_relayed : (schema : Schema) (T : ℕ) (bytes written : List ℕ) (stored : Content) → IsReadBy schema T bytes stored → written ≡ encoded (kept stored) → IsRelayed schema T bytes written
is_relayed schema T bytes written stored read is = record { content = kept stored; accepts = read.accepts; means = read.means; encoding = is }

-- what is written is too long, or out of memory
pub relay_too_long : (schema : Schema) (T : ℕ) (bytes : List ℕ) (stored : Content) → IsReadBy schema T bytes stored → (e : EncodeError) → (e ≡ encode_errors.TooLong → 2 ^ 64 ≤ length (encoded (kept stored))) → RefusesRelay schema T bytes (Encode e)
relay_too_long schema T bytes stored read encode_errors.TooLong long = record { written = encoded (kept stored); relayed = is_relayed schema T bytes (encoded (kept stored)) stored read refl; passes = long refl }
relay_too_long schema T bytes stored read encode_errors.OutOfMemory long = tt

-- HEX DIGITS

pub spells_bytes : (text bytes : List ℕ) → decode_of text ≡ Ok bytes → SpellsBytes text bytes
spells_bytes text bytes e =
    let read = decode_of-ok text bytes e in
    record { digits = (read.0, read.1); spelled = e }

no_hex : (text : List ℕ) (e : FromHexError) → decode_of text ≡ Err e → IsHex text → ⊥
no_hex text e refused (even, digits) =
    let (bytes, read) = decode_of-digits text even digits in
    cc (sym read ∙ refused)

pub refuses_hex : (schema : Schema) (T : ℕ) (text : List ℕ) (e : FromHexError) → (e ≡ hex_errors.OutOfMemory) ⊎ (decode_of text ≡ Err e) → RefusesHex schema T text (hex_refusal e)
refuses_hex schema T text hex_errors.OutOfMemory h = tt
refuses_hex schema T text (hex_errors.InvalidHexCharacter c i) (inl e) = absurd cc
refuses_hex schema T text (hex_errors.InvalidHexCharacter c i) (inr e) = no_hex text (hex_errors.InvalidHexCharacter c i) e
refuses_hex schema T text hex_errors.OddLength (inl e) = absurd cc
refuses_hex schema T text hex_errors.OddLength (inr e) = no_hex text hex_errors.OddLength e
refuses_hex schema T text hex_errors.InvalidStringLength (inl e) = absurd cc
refuses_hex schema T text hex_errors.InvalidStringLength (inr e) = no_hex text hex_errors.InvalidStringLength e
