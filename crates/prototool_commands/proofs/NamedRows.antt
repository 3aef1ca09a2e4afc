-- The rows that descriptors of fields, extensions and kinds stand for.
use Rattle.std.proofs.Common.{◌≡◌, ℕ, Bool, true, false, cond, List, Option, Some, None, option_map, refl, ap, sym, ◌∙◌, subst}
use Rattle.std.specs.Prelude.{slice_get}
use Rattle.std.specs.Str.{bytes_eq}
use Rattle.std.proofs.lemmas.Option.{none-some, same_Some}
use Rattle.prost_reflect_wire.specs.Varint.{◌>>=◌}
use Rattle.prost_reflect_tables.specs.Places.{fields_at}
use Rattle.prost_reflect_tables.specs.Rows.{FieldRow, MessageRow}
use Rattle.prost_reflect_pool.specs.Listed.{extension_row_at}
use Rattle.prost_reflect_pool.specs.Lookups.{named_field, extension_where}
use Rattle.prost_reflect_pool.specs.Pools.{pool_rows}
use Rattle.prost_reflect_pool.specs.declared.pool.LinkedPool.{LinkedPool}
use Rattle.prost_reflect_rows.specs.RowKinds.{place_named}
use Rattle.prost_reflect_dynamic.specs.Named.{SameMessage, message_row_named}
use Rattle.prost_reflect_dynamic.specs.NamedExtensions.{Extends, extension_row_named}
use Rattle.prost_reflect_dynamic.specs.NamedField.{row_at}
use Rattle.prost_reflect_dynamic.specs.NamedFields.{descriptor_fields}
use Rattle.prost_reflect_rows.specs.Paths.{declared_place}
use Rattle.prost_reflect_dynamic.specs.NamedKinds.{table_kind, IsAmong}
use Rattle.prost_reflect_dynamic.specs.declared.descriptor.extension.ExtensionDescriptor.{ExtensionDescriptor}
use Rattle.prost_reflect_dynamic.specs.declared.descriptor.field.FieldDescriptor.{FieldDescriptor}
use Rattle.prost_reflect_dynamic.specs.declared.descriptor.kind.Kind.{Kind}
use Rattle.prost_reflect_dynamic.specs.declared.descriptor.kind.Kind.TheVariants as kinds
use Rattle.prost_reflect_dynamic.specs.declared.descriptor.message.MessageDescriptor.{MessageDescriptor}
use Rattle.prost_reflect_dynamic.specs.declared.descriptor.pool.DescriptorPool.{DescriptorPool}
use Rattle.prototool_commands.specs.Naming.{Own, Full, row_named, is_entry, value_inside, kind_inside, HasInside, IsInside, IsFoundOf}
use Rattle.prototool_commands.specs.declared.redact.path.Found.{Found}

-- FIELDS AND EXTENSIONS

moved : (p q : LinkedPool) (o r : Option FieldRow) (found : Found) → p ≡ q → o ≡ r → IsFoundOf p o found → IsFoundOf q r found
moved p q o r found e f h = subst (λ x. IsFoundOf x r found) e (subst (λ y. IsFoundOf p y found) f h)

module _ (d : MessageDescriptor) (name : List ℕ) where
  pub field_found : (field : FieldDescriptor) (found : Found) → Some field.index ≡ named_field (descriptor_fields d) name → SameMessage d field.message → IsFoundOf field.message.pool.inner.value (row_at field) found
      → IsFoundOf d.pool.inner.value (row_named d.pool.inner.value d.index (Own name)) found
  field_found field found place same h =
      let there : row_at field ≡ slice_get (descriptor_fields d) field.index = ap (λ p. slice_get (fields_at (pool_rows p) field.message.index) field.index) same.0 ∙ ap (λ T. slice_get (fields_at (pool_rows d.pool.inner.value) T) field.index) same.1 in
      moved field.message.pool.inner.value d.pool.inner.value (row_at field) (row_named d.pool.inner.value d.index (Own name)) found same.0 (there ∙ ap (λ o. o >>= slice_get (descriptor_fields d)) place) h

  pub field_missed : None ≡ named_field (descriptor_fields d) name → row_named d.pool.inner.value d.index (Own name) ≡ None
  field_missed none = sym (ap (λ o. o >>= slice_get (descriptor_fields d)) none)

  pub extension_found : (x : ExtensionDescriptor) (found : Found) → Some x.index ≡ extension_where d.pool.inner.value d.index (λ f. bytes_eq f.id.full_name name) → Extends d x → IsFoundOf x.pool.inner.value (extension_row_named x) found
      → IsFoundOf d.pool.inner.value (row_named d.pool.inner.value d.index (Full name)) found
  extension_found x found place own h =
      let there : extension_row_named x ≡ extension_row_at d.pool.inner.value x.index = ap (λ p. extension_row_at p x.index) own.0 in
      moved x.pool.inner.value d.pool.inner.value (extension_row_named x) (row_named d.pool.inner.value d.index (Full name)) found own.0 (there ∙ ap (λ o. o >>= extension_row_at d.pool.inner.value) place) h

  pub extension_missed : None ≡ extension_where d.pool.inner.value d.index (λ f. bytes_eq f.id.full_name name) → row_named d.pool.inner.value d.index (Full name) ≡ None
  extension_missed none = sym (ap (λ o. o >>= extension_row_at d.pool.inner.value) none)

pub found_of : (pool : DescriptorPool) (row : Option FieldRow) (kind : Kind) (n : ℕ) (inside : Option MessageDescriptor) → option_map (λ f. f.number) row ≡ Some n → option_map (λ f. f.kind) row ≡ Some (table_kind kind) → IsAmong pool kind → HasInside kind inside
    → IsFoundOf pool.inner.value row (record { number = n; inside = inside })
found_of pool None kind n inside number named among has = absurd (none-some n number)
found_of pool (Some field) kind n inside number named among has = record {
  field = field;
  is = refl;
  number = sym (same_Some field.number n number);
  inside = subst (λ k. IsInside pool.inner.value (kind_inside (pool_rows pool.inner.value) k) inside) (sym (same_Some field.kind (table_kind kind) named)) (has pool among);
}

-- KINDS

entry_is : (o : Option MessageRow) (b : Bool) → option_map (λ m. m.is_map_entry) o ≡ Some b → is_entry o ≡ b
entry_is None b e = absurd (none-some b e)
entry_is (Some m) b e = same_Some m.is_map_entry b e

no_place : (kind : Kind) → ((message : MessageDescriptor) → kind ≡ kinds.Message message → ⊥) → place_named (table_kind kind) ≡ None
no_place (kinds.Message message) h = absurd (h message refl)
no_place kind h = refl

pub no_inside_kind : (kind : Kind) → ((message : MessageDescriptor) → kind ≡ kinds.Message message → ⊥) → HasInside kind None
no_inside_kind kind h pool among = (sym (ap (λ o. o >>= λ T. cond (is_entry (slice_get (pool_rows pool.inner.value).messages T)) (value_inside (pool_rows pool.inner.value) T) (Some T)) (no_place kind h)), tt)

module _ (d : MessageDescriptor) where
  pub plain_inside : option_map (λ m. m.is_map_entry) (message_row_named d) ≡ Some false → HasInside (kinds.Message d) (Some d)
  plain_inside plain pool among =
      let here : Some d.index ≡ cond (is_entry (message_row_named d)) (value_inside (pool_rows d.pool.inner.value) d.index) (Some d.index) = sym (ap (λ b. cond b (value_inside (pool_rows d.pool.inner.value) d.index) (Some d.index)) (entry_is (message_row_named d) false plain)) in
      (subst (λ p. Some d.index ≡ cond (is_entry (slice_get (pool_rows p).messages d.index)) (value_inside (pool_rows p) d.index) (Some d.index)) among here, among)

  module _ (entry : option_map (λ m. m.is_map_entry) (message_row_named d) ≡ Some true) (value : FieldDescriptor) (kind : Kind) (place : declared_place (descriptor_fields d) 2 ≡ Some value.index) (same : SameMessage d value.message)
      (named : option_map (λ f. f.kind) (row_at value) ≡ Some (table_kind kind)) (among_value : IsAmong value.message.pool kind) where
    kind_of : (row : Option FieldRow) → option_map (λ f. f.kind) row ≡ Some (table_kind kind) → (row >>= λ f. place_named f.kind) ≡ place_named (table_kind kind)
    kind_of None e = absurd (none-some (table_kind kind) e)
    kind_of (Some f) e = ap place_named (same_Some f.kind (table_kind kind) e)

    value_is : value_inside (pool_rows d.pool.inner.value) d.index ≡ place_named (table_kind kind)
    value_is =
        let there : row_at value ≡ slice_get (descriptor_fields d) value.index = ap (λ p. slice_get (fields_at (pool_rows p) value.message.index) value.index) same.0 ∙ ap (λ T. slice_get (fields_at (pool_rows d.pool.inner.value) T) value.index) same.1 in
        ap (λ o. o >>= λ i. slice_get (descriptor_fields d) i >>= λ f. place_named f.kind) place ∙ ap (λ o. o >>= λ f. place_named f.kind) (sym there) ∙ kind_of (row_at value) named

    entry_inside : (inside : Option ℕ) → place_named (table_kind kind) ≡ inside → (pool : DescriptorPool) → IsAmong pool (kinds.Message d) → inside ≡ kind_inside (pool_rows pool.inner.value) (table_kind (kinds.Message d))
    entry_inside inside is pool among =
        let here : inside ≡ cond (is_entry (message_row_named d)) (value_inside (pool_rows d.pool.inner.value) d.index) (Some d.index) = sym (ap (λ b. cond b (value_inside (pool_rows d.pool.inner.value) d.index) (Some d.index)) (entry_is (message_row_named d) true entry) ∙ value_is ∙ is) in
        subst (λ p. inside ≡ cond (is_entry (slice_get (pool_rows p).messages d.index)) (value_inside (pool_rows p) d.index) (Some d.index)) among here

    pub entry_message : (message : MessageDescriptor) → kind ≡ kinds.Message message → HasInside (kinds.Message d) (Some message)
    entry_message message is pool among = (
      entry_inside (Some message.index) (ap (λ k. place_named (table_kind k)) is) pool among,
      subst (IsAmong value.message.pool) is among_value ∙ same.0 ∙ among,
    )

    pub entry_scalar : ((message : MessageDescriptor) → kind ≡ kinds.Message message → ⊥) → HasInside (kinds.Message d) None
    entry_scalar none pool among = (entry_inside None (no_place kind none) pool among, tt)
