-- What stands behind the key of a message or a group: read one level down, or refused.
use Rattle.std.specs.Prelude.{◌≡◌, ◌≤◌, ◌-◌}
use Rattle.prost_reflect_dynamic.proofs.Common.{ℕ, suc, Bool, true, false, List, [], refl, sym, ap, ◌∙◌, subst, arith, WireType, DecodeError, DelimitedFront, PlainFault, Schema, Content, schema_of, type_of, message_of_kind, Here, InMessage, InGroup, OfType, StandsInMessage, opens_level, one_takes, same_wire, Progress, GroupProgress, StandsBehindKey, StandsInGroup, FoundNested, takes_nested, needs_nested, nested_wire, ReadInside, NestedRead, NestedFault, StandsBehindNested, nested_kind}
use Rattle.prost_reflect_wire.specs.declared.key.WireType.TheVariants as wires
use Rattle.prost_reflect_wire.specs.declared.error.DecodeError.TheVariants as errors
use Rattle.prost_reflect_wire.proofs.PlaceFaults.{plain_stands}
use Rattle.prost_reflect_rows.proofs.RowKinds.{message_named}

kind_takes : (g : Bool) (U : ℕ) (w : WireType) → one_takes (nested_kind g U) w ≡ same_wire w (nested_wire g)
kind_takes true U w = refl
kind_takes false U w = refl

takes_own : (g : Bool) → same_wire (nested_wire g) (nested_wire g) ≡ true
takes_own true = refl
takes_own false = refl

-- a level less than the levels left
pub one_less : (levels : ℕ) → 1 ≤ levels → suc (levels - 1) ≡ levels
one_less levels some = omega arith

-- no records are looked for
pub nested_refused : (schema : Schema) (levels n U : ℕ) (g : Bool) (w : WireType) (e : DecodeError) (rest : List ℕ) → NestedFault g w levels e → StandsBehindNested schema levels n (nested_kind g U) w e rest
nested_refused schema levels n U g w errors.EndGroup rest f = λ place field left found form is key closes. Here (record { number = n; wire = w; rest = rest; key = key; behind = (f, closes f) })
nested_refused schema levels n U g w errors.WireType rest f = λ place field left found form is key closes. Here (record {
  number = n;
  wire = w;
  field = field;
  rest = rest;
  key = key;
  found = found;
  behind = (f.0, takes_nested field.form field.value_type.kind U w form (ap message_of_kind is ∙ message_named g U) ∙ ap (λ kind. one_takes kind w) is ∙ kind_takes g U w ∙ f.1);
})
nested_refused schema levels n U g w errors.Depth rest f = λ place field left found form is key closes. Here (
  left ∙ f.1,
  record {
    number = n;
    wire = w;
    rest = rest;
    key = key;
    behind = ap (λ o. opens_level o w) found ∙ needs_nested field.form field.value_type.kind U w form (ap message_of_kind is ∙ message_named g U) ∙ ap (λ kind. one_takes kind w) is ∙ kind_takes g U w ∙ ap (λ v. same_wire v (nested_wire g)) f.0 ∙ takes_own g;
  },
)
nested_refused schema levels n U g w errors.Truncated rest f = absurd f
nested_refused schema levels n U g w errors.Varint rest f = absurd f
nested_refused schema levels n U g w errors.Key rest f = absurd f
nested_refused schema levels n U g w errors.Utf8 rest f = absurd f
nested_refused schema levels n U g w errors.OutOfMemory rest f = absurd f

-- what stands behind such a key stands in each message with a field of the kind at the number
pub behind_key : (c : Content) (levels n U : ℕ) (g : Bool) (w : WireType) (e : DecodeError) (rest : List ℕ) → FoundNested (schema_of c) (type_of c) n U (nested_kind g U) → StandsBehindNested (schema_of c) levels n (nested_kind g U) w e rest → StandsBehindKey c levels n w e rest
behind_key c levels n U g w e rest at stands = λ bytes opened key closes. stands (record { bytes = bytes; inside = OfType (type_of c); levels = levels; open_group = opened }) at.field refl at.found at.form at.kind_is key closes

module _ (c : Content) (levels n : ℕ) (g : Bool) (w : WireType) (wire : w ≡ nested_wire g) (some : 1 ≤ levels) where
  -- READ

  pub group_read : (new : Content) (bytes rest : List ℕ) → g ≡ true → GroupProgress (levels - 1) n c new bytes rest → NestedRead g levels n w c new bytes rest
  group_read new bytes rest is progress = record {
    inside = levels - 1;
    left = sym (one_less levels some);
    read = subst (λ g. ReadInside g (levels - 1) n w c new bytes rest) (sym is) (wire ∙ ap nested_wire is, progress);
  }

  pub message_read : (new : Content) (body bytes rest : List ℕ) → g ≡ false → DelimitedFront body bytes rest → Progress (levels - 1) c new body [] → NestedRead g levels n w c new bytes rest
  message_read new body bytes rest is front progress = record {
    inside = levels - 1;
    left = sym (one_less levels some);
    read = subst (λ g. ReadInside g (levels - 1) n w c new bytes rest) (sym is) (record { body = body; wire = wire ∙ ap nested_wire is; front = front; progress = progress });
  }

  -- REFUSED

  abbrev Refused : Bool → WireType → ℕ → DecodeError → List ℕ → Type 0
  Refused h v l e rest = StandsBehindNested (schema_of c) l n (nested_kind h (type_of c)) v e rest

  pub group_refused : (e : DecodeError) (bytes : List ℕ) → g ≡ true → StandsInGroup c (levels - 1) n e bytes → Refused g w levels e bytes
  group_refused e bytes is stands =
      subst (λ g. Refused g w levels e bytes) (sym is) (subst (λ w. Refused true w levels e bytes) (sym (wire ∙ ap nested_wire is))
      (subst (λ l. Refused true wires.StartGroup l e bytes) (one_less levels some) inside))
    where
      inside : Refused true wires.StartGroup (suc (levels - 1)) e bytes
      inside = λ place f left found form is key closes. InGroup n (type_of c) (levels - 1) f bytes found form is left key stands

  pub message_refused : (e : DecodeError) (body bytes rest : List ℕ) → g ≡ false → DelimitedFront body bytes rest → StandsInMessage (schema_of c) (type_of c) (levels - 1) e body → Refused g w levels e bytes
  message_refused e body bytes rest is front stands =
      subst (λ g. Refused g w levels e bytes) (sym is) (subst (λ w. Refused false w levels e bytes) (sym (wire ∙ ap nested_wire is))
      (subst (λ l. Refused false wires.LengthDelimited l e bytes) (one_less levels some) inside))
    where
      inside : Refused false wires.LengthDelimited (suc (levels - 1)) e bytes
      inside = λ place f left found form is key closes. InMessage n (type_of c) (levels - 1) f body bytes rest found form is left key front stands

  pub body_refused : (e : DecodeError) (bytes : List ℕ) → g ≡ false → PlainFault e wires.LengthDelimited bytes → Refused g w levels e bytes
  body_refused e bytes is fault = λ place f left found form of key closes. plain_stands (schema_of c) place e n w bytes key (subst (λ w. PlainFault e w bytes) (sym (wire ∙ ap nested_wire is)) fault)
