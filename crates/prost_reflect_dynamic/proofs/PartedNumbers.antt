-- The numbers of a packed record's body, parted into those that their enum declares and the others.
use Rattle.std.specs.Prelude.{◌≡◌, ◌≢◌, ◌^◌, ◌∷◌, ◌++◌}
use Rattle.prost_reflect_dynamic.proofs.Common.{ℕ, pos, true, not, List, [], map, Some, refl, sym, ap, ◌∙◌, subst, append_assoc, append-nil, nat_lt, Vec, list_all, Global, lt-ltb, and_from, map-append, DecodeError, Var, VarintFront, VarintFault, ElementFault, ElementEnds, ElementPasses, Enum, Open, ListValue, values_from, ◌and_then◌, values_in, varint_plain, filter_append, EnumRow, TableKind, PartsNumbers, JoinsNumbers, number_element, is_stray_varint, strays_in, declared_in, value_of, Value}
use Rattle.std.proofs.lemmas.List.Folds.{list_all-append}
use Rattle.prost_reflect_wire.specs.declared.error.DecodeError.TheVariants as errors
use Rattle.prost_reflect_wire.specs.declared.key.WireType.TheVariants as wires
use Rattle.prost_reflect_wire.specs.Content as contents
use Rattle.prost_reflect_laws.proofs.PackedNumbers.{PlainsFront, plains_more, fault_behind, plains_unpacked}
use Rattle.prost_reflect_dynamic.specs.declared.value.Value as values
use Rattle.prost_reflect_dynamic.proofs.ListMerging.{from_append}
use Rattle.prost_reflect_dynamic.proofs.Views.{value_of_list}

-- what was read so far
pub record PartedSoFar (enums : List EnumRow) (kind : TableKind) (old new : List contents.Value) (strays body rest : List ℕ) : Type 0 where
  pub varints : List ℕ
  pub front : PlainsFront wires.Varint (map Var varints) body rest
  pub below : list_all (λ v. nat_lt v (2 ^ 64)) varints ≡ true
  pub added : new ≡ old ++ map number_element (declared_in enums kind varints)
  pub left : strays ≡ strays_in enums kind varints

pub none_parted : (enums : List EnumRow) (kind : TableKind) (old new : List contents.Value) (strays body : List ℕ) → new ≡ old → strays ≡ [] → PartedSoFar enums kind old new strays body body
none_parted enums kind old new strays body same none = record { varints = []; front = refl; below = refl; added = same ∙ sym (append-nil old); left = none }

pub parted_more : (enums : List EnumRow) (kind : TableKind) (old new newer : List contents.Value) (strays more body bytes rest : List ℕ) (varint : ℕ) → PartedSoFar enums kind old new strays body bytes → VarintFront varint bytes rest →
    newer ≡ new ++ map number_element (declared_in enums kind (varint ∷ [])) → more ≡ strays ++ strays_in enums kind (varint ∷ []) → PartedSoFar enums kind old newer more body rest
parted_more enums kind old new newer strays more body bytes rest varint s front added left = record {
  varints = s.varints ++ varint ∷ [];
  front = subst (λ ps. PlainsFront wires.Varint ps body rest) (sym (map-append Var s.varints (varint ∷ []))) (plains_more wires.Varint (map Var s.varints) (Var varint) body bytes rest s.front (varint_plain varint bytes rest front) refl);
  below = list_all-append (λ v. nat_lt v (2 ^ 64)) s.varints (varint ∷ []) ∙ and_from _ _ s.below (and_from _ _ (lt-ltb varint (2 ^ 64) front.varint.below) refl);
  added = added ∙ ap (λ l. l ++ map number_element (declared_in enums kind (varint ∷ []))) s.added ∙ append_assoc old _ _
      ∙ ap (λ l. old ++ l) (sym (map-append number_element (declared_in enums kind s.varints) (declared_in enums kind (varint ∷ [])))
      ∙ ap (map number_element) (sym (filter_append (λ v. not (is_stray_varint enums kind v)) s.varints (varint ∷ []))));
  left = left ∙ ap (λ l. l ++ strays_in enums kind (varint ∷ [])) s.left ∙ sym (filter_append (is_stray_varint enums kind) s.varints (varint ∷ []));
}

pub parted_done : (enums : List EnumRow) (kind : TableKind) (old new : List contents.Value) (strays body rest : List ℕ) → PartedSoFar enums kind old new strays body rest → rest ≡ [] → PartsNumbers enums kind old new strays body
parted_done enums kind old new strays body rest s e = record {
  varints = s.varints;
  read = record { whole = plains_unpacked (Enum (pos 0) Open) (map Var s.varints) body (subst (PlainsFront wires.Varint (map Var s.varints) body) e s.front); below = s.below };
  added = s.added;
  left = s.left;
}

varint_fault : (e : DecodeError) (rest : List ℕ) → rest ≢ [] → VarintFault e rest → ElementFault wires.Varint e rest
varint_fault errors.Truncated [] some fault = absurd (some refl)
varint_fault errors.Truncated (b ∷ rest) some fault = ElementEnds fault
varint_fault errors.Varint rest some fault = ElementPasses fault
varint_fault e rest some fault = absurd fault

pub parted_fault : (enums : List EnumRow) (kind : TableKind) (e : DecodeError) (old new : List contents.Value) (strays body rest : List ℕ) → PartedSoFar enums kind old new strays body rest → rest ≢ [] → VarintFault e rest → ElementFault wires.Varint e body
parted_fault enums kind e old new strays body rest s some fault = fault_behind wires.Varint e (map Var s.varints) body rest s.front (varint_fault e rest some fault)

-- the same of the list that a value is
pub numbers_list : (enums : List EnumRow) (kind : TableKind) (v : Value) (olds : List Value) (news : Vec Value Global) (strays body : List ℕ) → value_of v ≡ ListValue (values_from (map value_of olds)) →
    PartsNumbers enums kind (map value_of olds) (map value_of news.items) strays body → JoinsNumbers enums kind (value_of v) (value_of (values.List news)) strays body
numbers_list enums kind v olds news strays body is p = record {
  varints = p.varints;
  read = p.read;
  joined = value_of_list news ∙ ap (λ l. ListValue (values_from l)) p.added ∙ ap ListValue (from_append (map value_of olds) (map number_element (declared_in enums kind p.varints)))
      ∙ ap (λ v. ListValue (values_in (Some v) and_then values_from (map number_element (declared_in enums kind p.varints)))) (sym is);
  left = p.left;
}
