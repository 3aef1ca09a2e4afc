-- What a message shows at a number is what its content has there, or else the field's default.
use Rattle.std.proofs.Common.{◌≡◌, ℕ, Bool, true, false, cond, Option, Some, None, refl, ap, sym, ◌∙◌}
use Rattle.std.specs.Cow.{cow_value}
use Rattle.std.specs.declared.borrow.Cow.{Cow}
use Rattle.std.specs.Prelude.{IfSome}
use Rattle.std.specs.Option.{option_map}
use Rattle.prost_reflect_wire.specs.Schema.{Kind, ScalarOf, MessageOf, GroupOf, FieldForm, Singular, Repeated, MapFrom, Field, Schema, field_of, field_valid, passes}
use Rattle.prost_reflect_wire.specs.Content as contents
use Rattle.prost_reflect_wire.specs.Content.{entries_of, value_at}
use Rattle.prost_reflect_wire.specs.Edit.{default_value}
use Rattle.prost_reflect_wire.specs.Typing.{kept, kept_inside, is_field_default}
use Rattle.prost_reflect_wire.proofs.Survivors.{field_number}
use Rattle.prost_reflect_pool.specs.MessageTypes.{schema_at}
use Rattle.prost_reflect_fields.specs.FieldSlots.{stored_at}
use Rattle.prost_reflect_fields.specs.Known.{known_of}
use Rattle.prost_reflect_maps.specs.Items.{IsAscending}
use Rattle.prost_reflect_dynamic.specs.Access.{Shows, ShowsHeld, ShowsOr, IsDefaultAt, ShownContent}
use Rattle.prost_reflect_dynamic.specs.View.{value_of, content_of, message_type_of, stored_in}
use Rattle.prost_reflect_dynamic.specs.declared.message.DynamicMessage.{DynamicMessage}
use Rattle.prost_reflect_dynamic.specs.declared.value.Value.{Value}
use Rattle.prost_reflect_rows.proofs.Described.{found_checked}
use Rattle.prost_reflect_dynamic.proofs.Had.{kept_found}
use Rattle.prost_reflect_dynamic.proofs.KeptSlots.{default_kept}

-- a default of the definitions holds nothing that is left out
default_bare : (schema : Schema) (f : Field) → kept_inside (default_value schema f.form f.value_type) ≡ default_value schema f.form f.value_type
default_bare schema f = go f.form f.value_type.kind
  where
    go : (form : FieldForm) (kind : Kind) → kept_inside (default_value schema form (record (f.value_type) { kind = kind })) ≡ default_value schema form (record (f.value_type) { kind = kind })
    go Singular (ScalarOf kind) = refl
    go Singular (MessageOf T) = refl
    go Singular (GroupOf T) = refl
    go (Repeated packed) kind = refl
    go (MapFrom key) kind = refl

shown_at : (m : DynamicMessage) (n : ℕ) (f : Field) (shown : Cow Value) → IsAscending (stored_in m) → field_of (known_of (message_type_of m)) n ≡ Some f → Shows m n shown
    → kept_inside (value_of (cow_value shown)) ≡ elim (value_at n (entries_of (kept (content_of m)))) [ None ↦ default_value (schema_at (message_type_of m)) f.form f.value_type | Some v ↦ v ]
shown_at m n f shown s found shows = got (stored_at (stored_in m) n) refl shows
  where
    schema : Schema
    schema = schema_at (message_type_of m)

    valid : field_valid schema f ≡ true
    valid = found_checked (message_type_of m) n f found

    at : Option contents.Value → contents.Value
    at o = elim o [ None ↦ default_value schema f.form f.value_type | Some v ↦ v ]

    said : (v : Value) (b : Bool) → is_field_default f (kept_inside (value_of v)) ≡ b → kept_inside (value_of v) ≡ at (option_map (λ v. kept_inside (value_of v)) (cond b None (Some v)))
    said v true h = default_kept schema f (value_of v) valid h
    said v false h = refl

    default : (v : Value) → IsDefaultAt (message_type_of m) n v → value_of v ≡ default_value schema f.form f.value_type
    default v is = go (field_of (known_of (message_type_of m)) n) found is
      where
        go : (o : Option Field) → o ≡ Some f → IfSome o (λ f. value_of v ≡ default_value schema f.form f.value_type) → value_of v ≡ default_value schema f.form f.value_type
        go None e is = cc
        go (Some g) e is = let same : g ≡ f = cc in rw (sym same) is

    got : (o : Option Value) → o ≡ stored_at (stored_in m) n → ShowsOr (IsDefaultAt (message_type_of m) n) o shown → kept_inside (value_of (cow_value shown)) ≡ at (value_at n (entries_of (kept (content_of m))))
    got None e is =
        ap kept_inside (default (cow_value shown) is) ∙ default_bare schema f
        ∙ ap at (sym (kept_found m n None s e))
    got (Some v) e is =
        ap (λ v. kept_inside (value_of v)) is.0 ∙ said v (is_field_default f (kept_inside (value_of v))) refl
        ∙ ap (λ o. at (option_map (λ v. kept_inside (value_of v)) (cond (passes o (λ f. is_field_default f (kept_inside (value_of v)))) None (Some v)))) (sym found)
        ∙ ap at (sym (kept_found m n (Some v) s e))

pub shown_content : ShownContent
shown_content m n f shown s found shows =
    shown_at m n f shown s found shows
    ∙ ap (λ k. elim (value_at k (entries_of (kept (content_of m)))) [ None ↦ default_value (schema_at (message_type_of m)) f.form f.value_type | Some v ↦ v ]) (sym (field_number (known_of (message_type_of m)) n f found))

pub shown_held : (m : DynamicMessage) (n : ℕ) (shown : Cow Value) → IsAscending (stored_in m) → Shows m n shown → ShowsHeld m n shown
shown_held m n shown s shows = go (field_of (known_of (message_type_of m)) n) refl
  where
    go : (o : Option Field) → field_of (known_of (message_type_of m)) n ≡ o → IfSome o (λ f. kept_inside (value_of (cow_value shown)) ≡ elim (value_at n (entries_of (kept (content_of m)))) [ None ↦ default_value (schema_at (message_type_of m)) f.form f.value_type | Some v ↦ v ])
    go None found = tt
    go (Some f) found = shown_at m n f shown s found shows
