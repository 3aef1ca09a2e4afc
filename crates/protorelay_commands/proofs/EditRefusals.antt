-- Why editing is refused.
use Rattle.std.proofs.Common.{◌≡◌, ◌≢◌, ◌⊎◌, inl, inr, subst, ℕ, List, Some, None, Ok, Err, refl, sym, ◌∙◌}
use Rattle.hex.specs.Hex.{decode_of}
use Rattle.hex.specs.declared.error.FromHexError.{FromHexError}
use Rattle.hex.specs.declared.error.FromHexError.TheVariants as hex_errors
use Rattle.prost_reflect_wire.specs.Content.{Value}
use Rattle.prost_reflect_wire.specs.declared.error.DecodeError.TheVariants as faults
use Rattle.prost_reflect_wire.specs.declared.error.EncodeError.TheVariants as encode_errors
use Rattle.prost_reflect_tables.specs.Rows.{TableRows}
use Rattle.prost_reflect_tables.specs.Places.{message_place}
use Rattle.prost_reflect_tables.specs.Shown.{schema_from}
use Rattle.prost_reflect_pool.specs.declared.pool.LinkedPool.{LinkedPool}
use Rattle.prost_reflect_pool.specs.Pools.{pool_rows}
use Rattle.prost_reflect.specs.Edits as edits
use Rattle.prost_reflect.specs.declared.relaying.edit.RelayWithError.{RelayWithError}
use Rattle.prost_reflect.specs.declared.relaying.edit.RelayWithError.TheVariants as relays
use Rattle.protorelay_commands.specs.Sets.{IsPoolOfSet}
use Rattle.protorelay_commands.specs.Reading.{IsAsked, RefusesPool, hex_refusal}
use Rattle.protorelay_commands.specs.Editing.{value_found, IsChange, IsEditedIn, IsEdited, RefusesEditIn, RefusesEdit, edit_refusal}
use Rattle.protorelay_commands.specs.declared.refusal.Refusal.{Refusal}
use Rattle.protorelay_commands.specs.declared.refusal.Refusal.TheVariants as refusals
use Rattle.protorelay_commands.proofs.Changes.{not_refused}

-- IN THE BYTES

module _ (rows : TableRows) (T : ℕ) (bytes path text numbers : List ℕ) (value : Value) (change : IsChange rows T path text numbers value) where
  sound : value_found rows T path text ≢ None
  sound none = cc (sym change.found ∙ none)

  never : (e : RelayWithError) → edits.edit_refusal (schema_from rows) T numbers value ≡ Some e → ⊥
  never e refused = cc (sym (not_refused rows T path text numbers value change) ∙ refused)

  pub relay_refused : (e : RelayWithError) → edits.RefusesEdit (schema_from rows) T bytes numbers value e → RefusesEditIn rows T bytes path text (edit_refusal e)
  relay_refused relays.NotFound r = absurd (never relays.NotFound r)
  relay_refused relays.InvalidType r = absurd (never relays.InvalidType r)
  relay_refused relays.HoldsMessage r = absurd (never relays.HoldsMessage r)
  relay_refused (relays.Decode faults.Truncated) r = record { sound = sound; stands = r.stands }
  relay_refused (relays.Decode faults.Varint) r = record { sound = sound; stands = r.stands }
  relay_refused (relays.Decode faults.Key) r = record { sound = sound; stands = r.stands }
  relay_refused (relays.Decode faults.WireType) r = record { sound = sound; stands = r.stands }
  relay_refused (relays.Decode faults.EndGroup) r = record { sound = sound; stands = r.stands }
  relay_refused (relays.Decode faults.Utf8) r = record { sound = sound; stands = r.stands }
  relay_refused (relays.Decode faults.Depth) r = record { sound = sound; stands = r.stands }
  relay_refused (relays.Decode faults.OutOfMemory) r = tt
  relay_refused (relays.Encode encode_errors.TooLong) r = (refl, record { numbers = numbers; value = value; change = change; passes = r })
  relay_refused (relays.Encode encode_errors.OutOfMemory) r = tt
  relay_refused relays.OutOfMemory r = tt

-- BEFORE THEM

pub pool_refused : (set name digits path text : List ℕ) (e : Refusal) → RefusesPool set e → RefusesEdit set name digits path text e
pool_refused set name digits path text (refusals.Set e) is = inl is
pool_refused set name digits path text (refusals.Pool e) is = inl is
pool_refused set name digits path text refusals.Name is = absurd is
pool_refused set name digits path text refusals.Hex is = inl is
pool_refused set name digits path text refusals.Number is = absurd is
pool_refused set name digits path text refusals.Value is = absurd is
pool_refused set name digits path text refusals.ValueUnread is = absurd is
pool_refused set name digits path text (refusals.Decode e) is = absurd is
pool_refused set name digits path text (refusals.Encode e) is = absurd is
pool_refused set name digits path text refusals.Memory is = inl tt

pub name_refused : (set name digits path text : List ℕ) (pool : LinkedPool) → IsPoolOfSet set pool → (e : Refusal) → ((e ≡ refusals.Name) × (message_place (pool_rows pool) name ≡ None)) ⊎ (e ≡ refusals.Memory) → RefusesEdit set name digits path text e
name_refused set name digits path text pool made e (inl (is, none)) = subst (RefusesEdit set name digits path text) (sym is) (inr (record { pool = pool; made = made; refuses = none }))
name_refused set name digits path text pool made e (inr is) = subst (RefusesEdit set name digits path text) (sym is) (inl tt)

module _ (set name digits path text : List ℕ) (pool : LinkedPool) (made : IsPoolOfSet set pool) (T : ℕ) (named : message_place (pool_rows pool) name ≡ Some T) where
  no_hex : (e : FromHexError) → decode_of digits ≡ Err e → RefusesEdit set name digits path text refusals.Hex
  no_hex e is = inr (record { pool = pool; made = made; refuses = ((λ absent. cc (sym named ∙ absent)), rw is refl) })

  pub hex_refused : (e : FromHexError) → (e ≡ hex_errors.OutOfMemory) ⊎ (decode_of digits ≡ Err e) → RefusesEdit set name digits path text (hex_refusal e)
  hex_refused hex_errors.OutOfMemory h = inl tt
  hex_refused (hex_errors.InvalidHexCharacter c i) (inl e) = absurd cc
  hex_refused (hex_errors.InvalidHexCharacter c i) (inr e) = no_hex (hex_errors.InvalidHexCharacter c i) e
  hex_refused hex_errors.OddLength (inl e) = absurd cc
  hex_refused hex_errors.OddLength (inr e) = no_hex hex_errors.OddLength e
  hex_refused hex_errors.InvalidStringLength (inl e) = absurd cc
  hex_refused hex_errors.InvalidStringLength (inr e) = no_hex hex_errors.InvalidStringLength e

  -- behind them
  pub bytes_refused : (bytes : List ℕ) → IsAsked pool name digits T bytes → (e : Refusal) → RefusesEditIn (pool_rows pool) T bytes path text e → RefusesEdit set name digits path text e
  bytes_refused bytes asked (refusals.Set e) is = absurd is
  bytes_refused bytes asked (refusals.Pool e) is = absurd is
  bytes_refused bytes asked refusals.Name is = absurd is
  bytes_refused bytes asked refusals.Hex is = absurd is
  bytes_refused bytes asked refusals.Number is = record { pool = pool; made = made; message_type = T; bytes = bytes; asked = asked; refuses = is }
  bytes_refused bytes asked refusals.Value is = record { pool = pool; made = made; message_type = T; bytes = bytes; asked = asked; refuses = is }
  bytes_refused bytes asked refusals.ValueUnread is = record { pool = pool; made = made; message_type = T; bytes = bytes; asked = asked; refuses = is }
  bytes_refused bytes asked (refusals.Decode e) is = record { pool = pool; made = made; message_type = T; bytes = bytes; asked = asked; refuses = is }
  bytes_refused bytes asked (refusals.Encode e) is = record { pool = pool; made = made; message_type = T; bytes = bytes; asked = asked; refuses = is }
  bytes_refused bytes asked refusals.Memory is = inl tt

  -- the pool and the bytes by other names
  pub edited_asked : (bytes given line : List ℕ) (older : LinkedPool) → decode_of digits ≡ Ok bytes → older ≡ pool → given ≡ bytes → IsEditedIn (pool_rows older) T given path text line → IsEdited set name digits path text line
  edited_asked bytes given line older spelled same is edited = record {
    pool = pool;
    made = made;
    message_type = T;
    bytes = bytes;
    asked = record { named = named; spelled = spelled };
    edited = subst (λ (p : LinkedPool). IsEditedIn (pool_rows p) T bytes path text line) same (subst (λ (bs : List ℕ). IsEditedIn (pool_rows older) T bs path text line) is edited);
  }

  pub refused_asked : (bytes given : List ℕ) (older : LinkedPool) → decode_of digits ≡ Ok bytes → older ≡ pool → given ≡ bytes → (e : Refusal) → RefusesEditIn (pool_rows older) T given path text e → RefusesEdit set name digits path text e
  refused_asked bytes given older spelled same is e refused =
      bytes_refused bytes (record { named = named; spelled = spelled }) e
      (subst (λ (p : LinkedPool). RefusesEditIn (pool_rows p) T bytes path text e) same (subst (λ (bs : List ℕ). RefusesEditIn (pool_rows older) T bs path text e) is refused))
