-- The records of a list that is not packed are read as it.
use Rattle.std.specs.Prelude.{◌≡◌, ◌∷◌, ◌++◌}
use Rattle.prost_reflect_laws.proofs.Common.{ℕ, Bool, false, cond, not, List, [], map, filter, flat_map, Some, refl, ap, ap₂, ◌∙◌, Payload, Kind, Repeated, Field, field_of, Value, ListValue, Values, NoValues, Item, values_from, is_stray, element_payloads_in, value_records, value_payloads, stray_payloads, unknown_payloads, MeansInside, present_list, element, field_value, record_at, list_payloads, value_payload, element_payloads, block, ValueBack, ElementsBack}
use Rattle.prost_reflect_laws.proofs.Values.{value_records_known, unknown_known}

one_value_record : (kind : Kind) (p : Payload) → element_payloads_in kind p ≡ p ∷ [] → is_stray kind p ≡ false → filter (λ q. not (is_stray kind q)) (element_payloads_in kind p) ≡ p ∷ []
one_value_record kind p e s = ap (filter (λ q. not (is_stray kind q))) e ∙ ap (λ b. cond (not b) (p ∷ []) []) s

one_stray : (kind : Kind) (p : Payload) → element_payloads_in kind p ≡ p ∷ [] → is_stray kind p ≡ false → filter (is_stray kind) (element_payloads_in kind p) ≡ []
one_stray kind p e s = ap (filter (is_stray kind)) e ∙ ap (λ b. cond b (p ∷ []) []) s

all_value_records : (inner : MeansInside) (fields : List Field) (n : ℕ) (f : Field) (packed : Bool) (vs : Values) → field_of fields n ≡ Some f → f.form ≡ Repeated packed → ElementsBack inner f.value_type.kind vs →
    flat_map (value_records fields) (map (record_at n) (element_payloads f.value_type.kind vs)) ≡ block n (element_payloads f.value_type.kind vs)
all_value_records inner fields n f packed NoValues found c h = refl
all_value_records inner fields n f packed (Item v vs) found c (back, h) =
    let p : Payload = value_payload f.value_type.kind v in
    ap₂ ◌++◌ (value_records_known fields n f p found ∙ ap (λ c. block n (value_payloads c f.value_type p)) c ∙ ap (block n) (one_value_record f.value_type.kind p back.one back.fits)) (all_value_records inner fields n f packed vs found c h)

all_strays : (inner : MeansInside) (fields : List Field) (n : ℕ) (f : Field) (packed : Bool) (vs : Values) → field_of fields n ≡ Some f → f.form ≡ Repeated packed → ElementsBack inner f.value_type.kind vs →
    flat_map (unknown_payloads fields) (map (record_at n) (element_payloads f.value_type.kind vs)) ≡ []
all_strays inner fields n f packed NoValues found c h = refl
all_strays inner fields n f packed (Item v vs) found c (back, h) =
    let p : Payload = value_payload f.value_type.kind v in
    ap₂ ◌++◌ (unknown_known fields n f p found ∙ ap (λ c. stray_payloads c f.value_type p) c ∙ one_stray f.value_type.kind p back.one back.fits) (all_strays inner fields n f packed vs found c h)

pub all_elements : (inner : MeansInside) (kind : Kind) (vs : Values) → ElementsBack inner kind vs → values_from (flat_map (element inner kind) (element_payloads kind vs)) ≡ vs
all_elements inner kind NoValues h = refl
all_elements inner kind (Item v vs) (back, h) = ap (λ l. values_from (l ++ flat_map (element inner kind) (element_payloads kind vs))) back.value ∙ ap (Item v) (all_elements inner kind vs h)

pub unpacked_written : (ps : List Payload) → list_payloads (Repeated false) ps ≡ ps
unpacked_written [] = refl
unpacked_written (p ∷ ps) = refl

pub list_back : (inner : MeansInside) (fields : List Field) (n : ℕ) (f : Field) (v : Value) (vs : Values) → field_of fields n ≡ Some f → f.form ≡ Repeated false →
    ElementsBack inner f.value_type.kind (Item v vs) → ValueBack inner fields n f (ListValue (Item v vs))
list_back inner fields n f v vs found c h = record {
  sources = ps;
  read = ap (λ l. flat_map (value_records fields) (map (record_at n) l)) whole ∙ all_value_records inner fields n f false (Item v vs) found c h;
  strays = ap (λ l. flat_map (unknown_payloads fields) (map (record_at n) l)) whole ∙ all_strays inner fields n f false (Item v vs) found c h;
  value = ap (λ c. field_value inner c f.value_type ps) c ∙ ap present_list (all_elements inner f.value_type.kind (Item v vs) h);
}
  where
    ps : List Payload
    ps = element_payloads f.value_type.kind (Item v vs)

    whole : list_payloads f.form (element_payloads f.value_type.kind (Item v vs)) ≡ element_payloads f.value_type.kind (Item v vs)
    whole = ap (λ c. list_payloads c (element_payloads f.value_type.kind (Item v vs))) c ∙ unpacked_written (element_payloads f.value_type.kind (Item v vs))
