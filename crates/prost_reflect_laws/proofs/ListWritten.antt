-- What is written of a list.
use Rattle.std.specs.Prelude.{◌≡◌}
use Rattle.prost_reflect_laws.proofs.Common.{ℕ, Bool, true, false, List, map, Some, refl, ap, ap₂, ◌∙◌, record_at, spelled, ScalarKind, ScalarOf, Repeated, Field, field_of, ListValue, Values, NoValues, Item, present_list, field_payloads, list_payloads, element_payloads, elements_valid, kept_value, kept_values, kept_records, value_bytes}
use Rattle.prost_reflect_laws.proofs.ValueCarried.{kept_list}
use Rattle.prost_reflect_laws.proofs.ListReads.{Scalars, scalars_only}

pub list_written : (fields : List Field) (n : ℕ) (f : Field) (packed : Bool) (kind : ScalarKind) (vs : Values) → field_of fields n ≡ Some f → f.form ≡ Repeated packed → f.value_type.kind ≡ ScalarOf kind → elements_valid (ScalarOf kind) vs ≡ true →
    value_bytes fields n (ListValue vs) ≡ spelled (map (record_at n) (list_payloads (Repeated packed) (element_payloads (ScalarOf kind) vs)))
list_written fields n f packed kind vs found form is valid =
    let s : Scalars vs = scalars_only kind vs valid in
    ap (λ vs. spelled (kept_records fields n (kept_value (field_of fields n) (ListValue vs)))) s.kept
    ∙ ap (λ o. spelled (kept_records fields n (kept_value o (ListValue vs)))) found
    ∙ ap (λ o. spelled (kept_records fields n o)) (kept_list f packed vs form)
    ∙ go packed form vs
  where
    go : (packed : Bool) → f.form ≡ Repeated packed → (vs : Values) → spelled (kept_records fields n (present_list vs)) ≡ spelled (map (record_at n) (list_payloads (Repeated packed) (element_payloads (ScalarOf kind) vs)))
    go true form NoValues = refl
    go false form NoValues = refl
    go packed form (Item v vs) =
        ap (λ o. spelled (map (record_at n) (field_payloads o (ListValue (Item v vs))))) found
        ∙ ap₂ (λ form kind. spelled (map (record_at n) (list_payloads form (element_payloads kind (Item v vs))))) form is

-- of a list of messages, a record for each
pub messages_written : (fields : List Field) (n : ℕ) (f : Field) (vs : Values) → field_of fields n ≡ Some f → f.form ≡ Repeated false → value_bytes fields n (ListValue vs) ≡ spelled (map (record_at n) (element_payloads f.value_type.kind (kept_values vs)))
messages_written fields n f vs found form =
    ap (λ o. spelled (kept_records fields n (kept_value o (ListValue (kept_values vs))))) found
    ∙ ap (λ o. spelled (kept_records fields n o)) (kept_list f false (kept_values vs) form)
    ∙ go (kept_values vs)
  where
    go : (vs : Values) → spelled (kept_records fields n (present_list vs)) ≡ spelled (map (record_at n) (element_payloads f.value_type.kind vs))
    go NoValues = refl
    go (Item v vs) =
        ap (λ o. spelled (map (record_at n) (field_payloads o (ListValue (Item v vs))))) found
        ∙ ap (λ form. spelled (map (record_at n) (list_payloads form (element_payloads f.value_type.kind (Item v vs))))) form
