-- What a singular scalar is refused for stands where it is read.
use Rattle.std.specs.Prelude.{◌≡◌, ◌≢◌}
use Rattle.prost_reflect_laws.proofs.Common.{ℕ, List, Some, ap, ◌∙◌, inl, inr, WireType, DecodeError, KeyFront, ScalarKind, ScalarOf, Singular, Field, Schema, is_map, Place, Stands, Here, field_at, takes, ScalarFault}
use Rattle.prost_reflect_wire.specs.declared.key.WireType.TheVariants as wires
use Rattle.prost_reflect_wire.specs.declared.error.DecodeError.TheVariants as errors

pub scalar_stands : (schema : Schema) (e : DecodeError) (place : Place) (n : ℕ) (w : WireType) (rest : List ℕ) (f : Field) (kind : ScalarKind) → KeyFront n w place.bytes rest → field_at schema place.inside n ≡ Some f →
    f.form ≡ Singular → f.value_type.kind ≡ ScalarOf kind → (w ≡ wires.EndGroup → place.open_group ≢ Some n) → ScalarFault kind w e rest → Stands schema e place
scalar_stands schema errors.Truncated place n w rest f kind k found form is closes fault = Here (inr (inr (inl (record { number = n; wire = w; rest = rest; key = k; behind = fault }))))
scalar_stands schema errors.Varint place n w rest f kind k found form is closes fault = Here (inr (inl (record { number = n; wire = w; rest = rest; key = k; behind = fault })))
scalar_stands schema errors.WireType place n w rest f kind k found form is closes (unended, other) = Here (record {
  number = n;
  wire = w;
  field = f;
  rest = rest;
  key = k;
  found = found;
  behind = (unended, ap (λ form. takes form f.value_type.kind w) form ∙ ap (λ k. takes Singular k w) is ∙ other);
})
scalar_stands schema errors.EndGroup place n w rest f kind k found form is closes fault = Here (record { number = n; wire = w; rest = rest; key = k; behind = (fault, closes fault) })
scalar_stands schema errors.Utf8 place n w rest f kind k found form is closes (delimited, text, body) = Here (record {
  number = n;
  wire = w;
  field = f;
  rest = rest;
  key = k;
  found = found;
  behind = (delimited, ap is_map form, is ∙ ap ScalarOf text, body);
})
scalar_stands schema _ place n w rest f kind k found form is closes fault = absurd fault
