-- What is edited by an older type, and what newer types read of it.
use Rattle.std.proofs.Common.{◌≡◌, ◌≤◌, ◌<◌, ◌^◌, ℕ, Bool, true, false, cond, List, length, nat_le, Option, Some, None, refl, ap, sym, ◌∙◌, subst}
use Rattle.std.proofs.lemmas.Bool.{leb-true}
use Rattle.prost_reflect_wire.specs.Varint.{AreBytes, ◌>>=◌}
use Rattle.prost_reflect_wire.specs.Schema.{Field, Schema}
use Rattle.prost_reflect_wire.specs.Content.{Content, Value, value_ordered, schema_of, type_of}
use Rattle.prost_reflect_wire.specs.Grammar.{LEVEL_LIMIT}
use Rattle.prost_reflect_wire.specs.Typing.{kept, value_valid}
use Rattle.prost_reflect_wire.specs.Writing.{encoded}
use Rattle.prost_reflect_wire.specs.Edit.{set_at, holds_message, PathTo}
use Rattle.prost_reflect_wire.specs.declared.error.EncodeError.{EncodeError}
use Rattle.prost_reflect_wire.specs.declared.error.EncodeError.TheVariants as encode_errors
use Rattle.prost_reflect_laws.proofs.PassageLaws as laws
use Rattle.prost_reflect_dynamic.specs.declared.descriptor.message.MessageDescriptor.{MessageDescriptor}
use Rattle.prost_reflect.specs.declared.relaying.edit.RelayWithError.TheVariants.{InvalidType, HoldsMessage, Encode}
use Rattle.prost_reflect.specs.Edits.{value_refusal, edit_refusal, IsEdited, RefusesEdit, PassesEdit}
use Rattle.prost_reflect_dynamic.specs.Named.{schema_named, type_named}
use Rattle.prost_reflect_rows.specs.Paths.{PATH_LIMIT, field_at}
use Rattle.prost_reflect_dynamic.specs.Paths.{IsSetAt}
use Rattle.prost_reflect.specs.Relaying.{IsReadBy}
use Rattle.prost_reflect_dynamic.proofs.Paths.{stored_plain, path_to}
use Rattle.prost_reflect_dynamic.proofs.ReadBack.{named_valid}

-- nothing keeps the value from being set at the path
pub record MayBeSet (schema : Schema) (T : ℕ) (path : List ℕ) (v : Value) : Type 0 where
  pub field : Field
  pub within : length path ≤ PATH_LIMIT
  pub found : field_at schema T path ≡ Some field
  pub valid : value_valid field v ≡ true
  pub plain : holds_message v ≡ false

pub may_be_set : (schema : Schema) (T : ℕ) (path : List ℕ) (v : Value) → edit_refusal schema T path v ≡ None → MayBeSet schema T path v
may_be_set schema T path v e = go (nat_le (length path) PATH_LIMIT) refl e
  where
    holding : (f : Field) (b : Bool) → holds_message v ≡ b → cond b (Some HoldsMessage) None ≡ None → holds_message v ≡ false
    holding f true h e = absurd cc
    holding f false h e = h

    fitting : (f : Field) (b : Bool) → value_valid f v ≡ b → cond b (cond (holds_message v) (Some HoldsMessage) None) (Some InvalidType) ≡ None → (value_valid f v ≡ true) × (holds_message v ≡ false)
    fitting f false h e = absurd cc
    fitting f true h e = (h, holding f (holds_message v) refl e)

    found : nat_le (length path) PATH_LIMIT ≡ true → (o : Option Field) → field_at schema T path ≡ o → value_refusal o v ≡ None → MayBeSet schema T path v
    found l None h e = absurd cc
    found l (Some f) h e = let (valid, plain) = fitting f (value_valid f v) refl e in record { field = f; within = leb-true (length path) PATH_LIMIT l; found = h; valid = valid; plain = plain }

    go : (b : Bool) → nat_le (length path) PATH_LIMIT ≡ b → value_refusal (cond b (field_at schema T path) None) v ≡ None → MayBeSet schema T path v
    go false l e = absurd cc
    go true l e = found l (field_at schema T path) refl e

pub leads : (schema : Schema) (T : ℕ) (path : List ℕ) (v : Value) → MayBeSet schema T path v → value_ordered v ≡ true → PathTo schema T path v
leads schema T path v m order = path_to schema T path v m.field m.found (stored_plain schema m.field v m.valid m.plain order)

pub leads_in : (schema : Schema) (T : ℕ) (bytes path : List ℕ) (v : Value) (stored : Content) → IsReadBy schema T bytes stored → edit_refusal schema T path v ≡ None → value_ordered v ≡ true → PathTo (schema_of stored) (type_of stored) path v
leads_in schema T bytes path v stored read none order =
    subst (λ s. PathTo s (type_of stored) path v) (sym read.schema_is) (subst (λ U. PathTo schema U path v) (sym read.type_is) (leads schema T path v (may_be_set schema T path v none) order))

pub is_edited : (schema : Schema) (T : ℕ) (bytes path written : List ℕ) (v : Value) (old new : Content) → IsReadBy schema T bytes old → IsSetAt path v old new → written ≡ encoded (kept new) → IsEdited schema T bytes path v written
is_edited schema T bytes path written v old new read set is = record {
  accepts = read.accepts;
  encoding = ap (λ o. o >>= λ c. Some (encoded (set_at path v c))) read.means ∙ ap (λ c. Some (encoded c)) (sym set.set) ∙ ap Some (sym is);
}

-- what is written is too long, or out of memory
pub edit_too_long : (schema : Schema) (T : ℕ) (bytes path : List ℕ) (v : Value) (old new : Content) → IsReadBy schema T bytes old → IsSetAt path v old new → (e : EncodeError) → (e ≡ encode_errors.TooLong → 2 ^ 64 ≤ length (encoded (kept new))) → RefusesEdit schema T bytes path v (Encode e)
edit_too_long schema T bytes path v old new read set encode_errors.TooLong long = record { written = encoded (kept new); edited = is_edited schema T bytes path (encoded (kept new)) v old new read set refl; passes = long refl }
edit_too_long schema T bytes path v old new read set encode_errors.OutOfMemory long = tt

pub passes_edit : (older : MessageDescriptor) (bytes path written : List ℕ) (v : Value) → AreBytes bytes → length written < 2 ^ 64 → edit_refusal (schema_named older) (type_named older) path v ≡ None → value_ordered v ≡ true →
    IsEdited (schema_named older) (type_named older) bytes path v written → PassesEdit (schema_named older) (type_named older) bytes path v written
passes_edit older bytes path written v small l none order e newer B checked reduced accepts =
    let m = may_be_set (schema_named older) (type_named older) path v none in
    let through = laws.edit_passage (schema_named older) newer LEVEL_LIMIT (type_named older) B bytes path v written (named_valid older) checked small reduced m.within (leads (schema_named older) (type_named older) path v m order) m.plain accepts e.encoding l in
    record { accepts = through.0; same = through.1 }
