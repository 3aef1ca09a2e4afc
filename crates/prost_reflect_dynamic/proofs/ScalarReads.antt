-- A payload of a scalar kind, read as a value.
use Rattle.std.specs.Prelude.{◌≡◌}
use Rattle.prost_reflect_dynamic.proofs.Common.{ℕ, false, cond, List, Option, Some, None, refl, sym, ap, ◌∙◌, is_utf8, IsUtf8, false_from_ne_true, option_map, option_and_then, WireType, Plain, Len, Flat, plain_wire, PlainFront, Scalar, Text, ScalarKind, elem, ScalarValue, TableKind, Value, value_of, plain_kind, IsElement, ReadsScalar}
use Rattle.std.proofs.lemmas.Str.{IsUtf8-from_is_utf8, is_utf8-from_IsUtf8}
use Rattle.prost_reflect_tables.specs.declared.tables.TableKind.TheVariants as kinds

pub reads_element : (kind : TableKind) (w : WireType) (v : Value) (plain : Plain) (bytes rest : List ℕ) → IsElement kind (Flat plain) v → plain_wire plain ≡ w → PlainFront plain bytes rest → ReadsScalar kind w v bytes rest
reads_element kind w v plain bytes rest is wire front = by_kind (plain_kind kind) refl is
  where
    by_value : (k : ScalarKind) → plain_kind kind ≡ Some k → (o : Option Scalar) → elem k (Flat plain) ≡ o → option_map ScalarValue o ≡ Some (value_of v) → ReadsScalar kind w v bytes rest
    by_value k e None f is = cc
    by_value k e (Some s) f is = record { scalar_kind = k; scalar = s; plain = e; value = let p : ScalarValue s ≡ value_of v = cc in sym p; read = record { plain = plain; wire = wire; front = front; value = f } }

    by_kind : (o : Option ScalarKind) → plain_kind kind ≡ o → option_and_then (λ k. option_map ScalarValue (elem k (Flat plain))) o ≡ Some (value_of v) → ReadsScalar kind w v bytes rest
    by_kind None e is = cc
    by_kind (Some k) e is = by_value k e (elem k (Flat plain)) refl is

-- a text
pub text_element : (kind : TableKind) (v : Value) (bytes text : List ℕ) → kind ≡ kinds.String → IsUtf8 bytes → text ≡ bytes → value_of v ≡ ScalarValue (Text text) → IsElement kind (Flat (Len bytes)) v
text_element kind v bytes text is utf8 same value =
    ap (λ kind. option_and_then (λ k. option_map ScalarValue (elem k (Flat (Len bytes)))) (plain_kind kind)) is
    ∙ ap (λ b. option_map ScalarValue (cond b (Some (Text bytes)) None)) (is_utf8-from_IsUtf8 bytes utf8)
    ∙ ap (λ x. Some (ScalarValue (Text x))) (sym same) ∙ ap Some (sym value)

pub no_text : (bytes : List ℕ) → ¬ (IsUtf8 bytes) → is_utf8 bytes ≡ false
no_text bytes none = false_from_ne_true _ (λ e. none (IsUtf8-from_is_utf8 bytes e))
