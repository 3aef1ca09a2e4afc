-- Which numbers of a message are present (the guide on field presence): those of values, which the defaults of fields without presence are none of, and those of unknown fields.
use Rattle.std.specs.Prelude.{ℕ, Bool, true, false, ◌++◌, if◌then◌else◌, List, [], ◌∷◌, length, flat_map, Option, Some, None, option_and_then, option_to_list}
use Rattle.prost_reflect_wire.specs.Record.{Payload}
use Rattle.prost_reflect_wire.specs.Schema.{Field, known, field_of, passes}
use Rattle.prost_reflect_wire.specs.Content as content
use Rattle.prost_reflect_wire.specs.Content.{Content, ContentOf, Slot, slot_at, numbers_in}
use Rattle.prost_reflect_wire.specs.Typing.{kept_value, kept_inside}
use Rattle.prost_reflect_dynamic.specs.View.{value_of, slot_of}
use Rattle.prost_reflect_fields.specs.declared.slot.FieldSlot.{FieldSlot}
use Rattle.prost_reflect_dynamic.specs.declared.value.Value.{Value}
use Rattle.prost_reflect_dynamic.specs.declared.message.present.PresentNumber.{PresentNumber}
use Rattle.prost_reflect_dynamic.specs.declared.message.present.PresentNumber.TheVariants.{Field as FieldNumber, Extension as ExtensionNumber, Unknown as UnknownNumber}

-- The number of a value, as that of an extension or of a field.
abbrev pub value_present : List Field → ℕ → Option content.Value → Option PresentNumber
value_present fields n None = None
value_present fields n (Some v) = Some (if passes (field_of fields n) (λ f. f.is_extension) then ExtensionNumber n else FieldNumber n)

-- The number of unknown fields, with their count.
abbrev pub unknown_present : ℕ → List Payload → Option PresentNumber
unknown_present n [] = None
unknown_present n (p ∷ ps) = Some (UnknownNumber n (length (p ∷ ps)))

-- What is present at a number: the value, and then its unknown fields.
abbrev pub slot_present : List Field → ℕ → Slot → List PresentNumber
slot_present fields n slot = option_to_list (value_present fields n slot.value) ++ option_to_list (unknown_present n slot.unknowns)

-- What is present in a content, in ascending number.
abbrev pub present_in : Content → List PresentNumber
present_in (ContentOf schema T es) = flat_map (λ n. slot_present (known schema T) n (slot_at es n)) (numbers_in es)

-- The number of an extension, or that of a field; nothing of others.
abbrev pub number_listed : (of_extensions : Bool) → PresentNumber → List ℕ
number_listed true (ExtensionNumber n) = n ∷ []
number_listed false (FieldNumber n) = n ∷ []
number_listed of_extensions number = []

-- ENTRY BY ENTRY

-- What is kept of a number's slot.
abbrev pub kept_slot : List Field → ℕ → Slot → Slot
kept_slot fields n slot = record { value = option_and_then (λ v. kept_value (field_of fields n) (kept_inside v)) slot.value; unknowns = slot.unknowns }

abbrev pub entry_present : List Field → ℕ → FieldSlot Value → List PresentNumber
entry_present fields n e = slot_present fields n (kept_slot fields n (slot_of value_of e))
