-- Nested records read one behind another.
use Rattle.std.specs.Prelude.{◌≡◌, ◌≢◌, ◌+◌, ◌<◌, ◌≤◌, ◌∷◌, ◌++◌}
use Rattle.prost_reflect_proto.proofs.Common.{ℕ, Bor, List, [], map, length, get_or, drop, Option, Some, None, option_map, Result, Ok, Err, IfOk, IfErr, refl, sym, ap, ◌∙◌, append_assoc, append-nil, inl, inr, arith, add-one, drop-cons, length-drop, nil_from_length, DecodeError, RecordType, AreBytes, ◌>>=◌, Accepts, StandsInMessage, type_place, record_schema, record_decoded, Content, nested_decoded, all_decoded, StandsInNested, StandsAmong}
use Rattle.prost_reflect_wire.specs.declared.error.DecodeError.TheVariants as errors
use Rattle.prost_reflect_laws.proofs.FaultLaws.{accepted_only_memory}
use Rattle.prost_reflect_types.proofs.DecodedRecords.{decoded_accepts}

-- The first bodies are decoded; what stands in the others stands among all.
pub record NestedSoFar (levels : ℕ) (t : RecordType) (done : List Content) (all rest : List (List ℕ)) : Type 0 where
  pub decoded : all_decoded levels t all ≡ option_map (λ cs. done ++ cs) (all_decoded levels t rest)
  pub faults : (e : DecodeError) → StandsAmong levels t e rest → StandsAmong levels t e all

pub nested_none : (levels : ℕ) (t : RecordType) (all : List (List ℕ)) → NestedSoFar levels t [] all all
nested_none levels t all = record { decoded = go (all_decoded levels t all); faults = λ e s. s }
  where
    go : (o : Option (List Content)) → o ≡ option_map (λ cs. [] ++ cs) o
    go None = refl
    go (Some cs) = refl

pub nested_more : (levels : ℕ) (t : RecordType) (done more : List Content) (c : Content) (all : List (List ℕ)) (body : List ℕ) (rest : List (List ℕ)) → NestedSoFar levels t done all (body ∷ rest) → nested_decoded levels t body ≡ Some c →
    more ≡ done ++ c ∷ [] → NestedSoFar levels t more all rest
nested_more levels t done more c all body rest s h e = record {
  decoded = s.decoded ∙ ap (λ (o : Option Content). option_map (λ cs. done ++ cs) (o >>= λ c. all_decoded levels t rest >>= λ cs. Some (c ∷ cs))) h ∙ go (all_decoded levels t rest)
      ∙ ap (λ done. option_map (λ cs. done ++ cs) (all_decoded levels t rest)) (sym e);
  faults = λ e f. s.faults e (inr f);
}
  where
    go : (o : Option (List Content)) → option_map (λ cs. done ++ cs) (o >>= λ cs. Some (c ∷ cs)) ≡ option_map (λ cs. (done ++ c ∷ []) ++ cs) o
    go None = refl
    go (Some cs) = ap Some (sym (append_assoc done (c ∷ []) cs))

pub nested_done : (levels : ℕ) (t : RecordType) (done : List Content) (all rest : List (List ℕ)) → NestedSoFar levels t done all rest → rest ≡ [] → all_decoded levels t all ≡ Some done
nested_done levels t done all rest s e = s.decoded ∙ ap (λ rest. option_map (λ cs. done ++ cs) (all_decoded levels t rest)) e ∙ ap Some (append-nil done)

pub nested_refused : (levels : ℕ) (t : RecordType) (done : List Content) (e : DecodeError) (all : List (List ℕ)) (body : List ℕ) (rest : List (List ℕ)) → NestedSoFar levels t done all (body ∷ rest) → StandsInNested levels t e body → StandsAmong levels t e all
nested_refused levels t done e all body rest s f = s.faults e (inl f)

-- the next of several bodies
pub next_body : (bodies : List (Bor (List ℕ))) (i : ℕ) (b : Bor (List ℕ)) → i < length bodies → map (λ b. b.now) (drop i bodies) ≡ (get_or bodies i b).now ∷ map (λ b. b.now) (drop (i + 1) bodies)
next_body bodies i b less = ap (map (λ (b : Bor (List ℕ)). b.now)) (drop-cons bodies i b less) ∙ ap (λ (k : ℕ). (get_or bodies i b).now ∷ map (λ (b : Bor (List ℕ)). b.now) (drop k bodies)) (sym (add-one i))

pub no_body : (bodies : List (Bor (List ℕ))) (i : ℕ) → length bodies ≤ i → map (λ b. b.now) (drop i bodies) ≡ []
no_body bodies i past = ap (map (λ (b : Bor (List ℕ)). b.now)) (nil_from_length (drop i bodies) (omega (arith, length-drop {A = Bor (List ℕ)})))

-- ALL BYTES

pub ok_accepts : {X : Type 0} (levels : ℕ) (t : RecordType) (bytes : List ℕ) (content : X → Content) (r : Result X DecodeError) → AreBytes bytes →
    IfOk r (λ own. record_decoded levels t bytes ≡ Some (content own)) → IfOk r (λ _. Accepts record_schema levels (type_place t) bytes)
ok_accepts levels t bytes content (Ok x) small h = decoded_accepts levels t bytes (content x) small h
ok_accepts levels t bytes content (Err e) small h = tt

pub err_memory : {X : Type 0} (levels : ℕ) (t : RecordType) (bytes : List ℕ) (r : Result X DecodeError) → AreBytes bytes →
    IfErr r (λ e. e ≢ errors.OutOfMemory → StandsInMessage record_schema (type_place t) levels e bytes) → IfErr r (λ e. Accepts record_schema levels (type_place t) bytes → e ≡ errors.OutOfMemory)
err_memory levels t bytes (Ok x) small h = tt
err_memory levels t bytes (Err e) small h = λ accepted. accepted_only_memory record_schema levels (type_place t) bytes small accepted e h

-- WHAT IS SAID OF EACH BODY

pub ok_at : {X B : Type 0} (F : B → Type 0) (P : B → X → Type 0) (r : Result X DecodeError) → IfOk r (λ own. (body : B) → F body → P body own) → (body : B) → F body → IfOk r (P body)
ok_at F P (Ok x) h body f = h body f
ok_at F P (Err e) h body f = tt

pub err_at : {X B : Type 0} (F : B → Type 0) (P : B → DecodeError → Type 0) (r : Result X DecodeError) → IfErr r (λ e. e ≢ errors.OutOfMemory → (body : B) → F body → P body e) → (body : B) → F body →
    IfErr r (λ e. e ≢ errors.OutOfMemory → P body e)
err_at F P (Ok x) h body f = tt
err_at F P (Err e) h body f = λ memory. h memory body f
