-- What a nested record is refused for stands in the record around it.
use Rattle.std.specs.Prelude.{◌≡◌, ◌⊎◌, ◌∷◌, ◌++◌}
use Rattle.prost_reflect_proto.proofs.Common.{inl, inr, ℕ, zero, suc, Bool, true, false, cond, List, [], Option, Some, nat_eq, refl, ap, sym, subst, ◌∙◌, eqb-true, none-some, same_Some, DecodeError, RecordType, Len, Payload, Flat, Record, record_at, body_of, RecordsFront, RecordFront, Here, Behind, InMessage, StandsInMessage, opens_level, rows, type_place, field_of_row, record_schema, Found, FoundRecord, Fields, kind_at, found_in, found_in_records, at_number, record_in, StandsInNested, StandsAmong}
use Rattle.prost_reflect_wire.specs.declared.key.WireType.TheVariants as wires
use Rattle.prost_reflect_types.specs.declared.table.FieldKind.TheVariants as kinds
use Rattle.prost_reflect_wire.specs.Schema.{Field, field_of, known as wire_known}
use Rattle.prost_reflect_wire.proofs.PlainFronts.{plain_delimited}
use Rattle.prost_reflect_wire.proofs.RecordFronts.{record_parts, first_parts, FrontParts}
use Rattle.prost_reflect_proto.proofs.DescriptorRows.{known_field}
use Rattle.prost_reflect_proto.proofs.DescriptorKinds.{picked}
use Rattle.prost_reflect_proto.proofs.DescriptorNumbers.{at_under, FirstRecord, first_record, known_found}

module _ (t u : RecordType) (n : ℕ) (known : kind_at (rows t) n ≡ Some (kinds.Records u)) where
  field_known : field_of (wire_known record_schema (type_place t)) n ≡ Some (field_of_row (n, kinds.Records u))
  field_known = known_field t n (kinds.Records u) known

  -- in the first record
  body_stands : (levels : ℕ) (e : DecodeError) (body bytes rest : List ℕ) → RecordFront (record_at n (Flat (Len body))) bytes rest → StandsInNested levels u e body → StandsInMessage record_schema (type_place t) levels e bytes
  body_stands zero e body bytes rest front s =
      let parts = record_parts n (Flat (Len body)) bytes rest front in
      subst (λ e. StandsInMessage record_schema (type_place t) 0 e bytes) (sym s)
      (Here (refl, record { number = n; wire = wires.LengthDelimited; rest = parts.mid; key = parts.key; behind = ap (λ (o : Option Field). opens_level o wires.LengthDelimited) field_known }))
  body_stands (suc k) e body bytes rest front s =
      let parts = record_parts n (Flat (Len body)) bytes rest front in
      InMessage n (type_place u) k (field_of_row (n, kinds.Records u)) body parts.mid rest field_known refl refl refl parts.key (plain_delimited body parts.mid rest parts.payload) s

  payload_stands : (levels : ℕ) (e : DecodeError) (p : Payload) (own : List Found) (bytes rest : List ℕ) → found_in (kinds.Records u) p ≡ Some own → RecordFront (record_at n p) bytes rest → StandsAmong levels u e (picked record_in own) →
      StandsInMessage record_schema (type_place t) levels e bytes
  payload_stands levels e (Flat (Len body)) own bytes rest h front s = go (subst (λ own. StandsAmong levels u e (picked record_in own)) (sym own_is) s)
    where
      own_is : FoundRecord body ∷ [] ≡ own
      own_is = same_Some _ _ h

      go : StandsInNested levels u e body ⊎ ⊥ → StandsInMessage record_schema (type_place t) levels e bytes
      go (inl s) = body_stands levels e body bytes rest front s
      go (inr none) = absurd none
  payload_stands levels e p own bytes rest h front s = absurd (none-some _ h)

  among_append : (levels : ℕ) (e : DecodeError) (xs ys : List (List ℕ)) → StandsAmong levels u e (xs ++ ys) → StandsAmong levels u e xs ⊎ StandsAmong levels u e ys
  among_append levels e [] ys s = inr s
  among_append levels e (x ∷ xs) ys (inl s) = inl (inl s)
  among_append levels e (x ∷ xs) ys (inr s) = elim (among_append levels e xs ys s) [ inl more ↦ inl (inr more) | inr more ↦ inr more ]

  among_records : (levels : ℕ) (e : DecodeError) (records : List Record) (fields : List (ℕ × Found)) (bytes rest : List ℕ) → RecordsFront (body_of records) bytes rest → found_in_records levels (rows t) records ≡ Some fields →
      StandsAmong levels u e (at_number record_in n fields) → StandsInMessage record_schema (type_place t) levels e bytes
  among_records levels e [] fields bytes rest front h s = absurd (subst (λ fields. StandsAmong levels u e (at_number record_in n fields)) (sym (same_Some _ _ h)) s)
  among_records levels e (r ∷ records) fields bytes rest front h s =
      let f = first_record levels (rows t) r records fields h in
      let g = first_parts r (body_of records) bytes rest front in
      go f g (λ s. Behind r g.mid g.first (among_records levels e records f.more g.mid rest g.others f.others s)) (nat_eq r.number n) refl
      (subst (StandsAmong levels u e) (ap (at_number record_in n) f.whole ∙ at_under record_in n r.number f.own f.more) s)
    where
      go : (f : FirstRecord levels (rows t) r records fields) (g : FrontParts r (body_of records) bytes rest) → (StandsAmong levels u e (at_number record_in n f.more) → StandsInMessage record_schema (type_place t) levels e bytes) →
          (b : Bool) → nat_eq r.number n ≡ b → StandsAmong levels u e (cond b (picked record_in f.own ++ at_number record_in n f.more) (at_number record_in n f.more)) → StandsInMessage record_schema (type_place t) levels e bytes
      go f g more false same s = more s
      go f g more true same s =
          elim (among_append levels e (picked record_in f.own) (at_number record_in n f.more) s) [
            | inr s ↦ more s
            | inl s ↦ payload_stands levels e r.payload f.own bytes g.mid (known_found levels (rows t) r (kinds.Records u) f.own (ap (kind_at (rows t)) number ∙ known) f.first) (subst (λ (m : ℕ). RecordFront (record_at m r.payload) bytes g.mid) number g.first) s
          ]
        where
          number : r.number ≡ n
          number = eqb-true r.number n same

-- What one of the nested records of a number is refused for stands in the record.
pub nested_stands : (levels : ℕ) (t u : RecordType) (n : ℕ) (e : DecodeError) (fields : List (ℕ × Found)) (bytes : List ℕ) → Fields levels t fields bytes [] → kind_at (rows t) n ≡ Some (kinds.Records u) →
    StandsAmong levels u e (at_number record_in n fields) → StandsInMessage record_schema (type_place t) levels e bytes
nested_stands levels t u n e fields bytes f known s = among_records t u n known levels e f.records fields bytes [] f.front f.found s
