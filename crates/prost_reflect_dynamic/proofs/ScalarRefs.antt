-- Scalars that are borrowed from values.
use Rattle.std.specs.Prelude.{◌≡◌, ◌↔◌}
use Rattle.prost_reflect_dynamic.proofs.Common.{true, false, Bool, IsTrue, List, Option, Some, None, refl, ap, sym, ◌∙◌, subst, true≢false, IsSome, IsSomeAnd, Scalar, ScalarKind, StringKind, BytesKind, kind_default, scalar_eq, scalar_decides, Kind, ScalarOf, MessageOf, GroupOf, ScalarValue, MessageValue, ListValue, MapValue, element_valid, TableKind, EnumRow, schema_kind, schema_default, IsKindDefault, value_of, plain_kind, scalar_in, IsScalar, IsBlank, TakesScalar}
use Rattle.prost_reflect_wire.specs.Content.{Value}
use Rattle.prost_reflect_tables.specs.declared.tables.TableKind.TheVariants as kinds
use Rattle.prost_reflect_dynamic.specs.declared.value.Value.{Value as OwnedValue}

-- a value of a scalar kind is a scalar
pub takes_scalar : (kind : TableKind) (v : Value) → TakesScalar kind v → IsScalar v
takes_scalar kind v h = go (plain_kind kind) v h
  where
    go : (o : Option ScalarKind) (v : Value) → IsSomeAnd o (λ k. element_valid (ScalarOf k) v ≡ true) → IsScalar v
    go None v h = absurd h
    go (Some k) (ScalarValue s) h = tt
    go (Some k) (MessageValue c) h = absurd (true≢false (sym h))
    go (Some k) (ListValue vs) h = absurd (true≢false (sym h))
    go (Some k) (MapValue ps) h = absurd (true≢false (sym h))

-- and so is known
pub scalar_seen : (v : Value) (s : Scalar) → Some s ≡ scalar_in v → ScalarValue s ≡ v
scalar_seen (ScalarValue t) s h = let same : s ≡ t = cc in ap ScalarValue same
scalar_seen (MessageValue c) s h = cc
scalar_seen (ListValue vs) s h = cc
scalar_seen (MapValue ps) s h = cc

pub scalar_there : (v : Value) → None ≡ scalar_in v → IsScalar v → ⊥
scalar_there (ScalarValue t) h is = cc
scalar_there (MessageValue c) h is = is
scalar_there (ListValue vs) h is = is
scalar_there (MapValue ps) h is = is

-- DEFAULTS

blank_default : (kind : ScalarKind) → IsBlank (kind_default kind)
blank_default StringKind = refl
blank_default BytesKind = refl
blank_default kind = tt

pub zero_blank : (o : Option ScalarKind) (s : Scalar) → IsSomeAnd o (λ k. s ≡ kind_default k) → IsBlank s
zero_blank None s h = absurd h
zero_blank (Some k) s h = subst IsBlank (sym h) (blank_default k)

pub zero_shown : (o : Option ScalarKind) (s : Scalar) (v : Value) → IsSomeAnd o (λ k. s ≡ kind_default k) → v ≡ ScalarValue s → IsSomeAnd o (λ k. v ≡ ScalarValue (kind_default k))
zero_shown None s v h is = h
zero_shown (Some k) s v h is = is ∙ ap ScalarValue h

pub kind_blank : (kind : Kind) (s : Scalar) → s ≡ schema_default None kind → IsBlank s
kind_blank (ScalarOf kind) s h = subst IsBlank (sym h) (blank_default kind)
kind_blank (MessageOf T) s h = subst IsBlank (sym h) tt
kind_blank (GroupOf T) s h = subst IsBlank (sym h) tt

pub kind_shown : (enums : List EnumRow) (kind : TableKind) (s : Scalar) (v : OwnedValue) → IsSome (plain_kind kind) → s ≡ schema_default None (schema_kind enums kind false) → value_of v ≡ ScalarValue s → IsKindDefault (schema_kind enums kind false) v
kind_shown enums (kinds.Message T) s v some h is = absurd (true≢false (sym some))
kind_shown enums kind s v some h is = is ∙ ap ScalarValue h

-- TESTS

-- a value is a scalar where what it holds is equal to it
pub scalar_tested : (v : Value) (s t : Scalar) (b : Bool) → Some s ≡ scalar_in v → b ≡ scalar_eq s t → IsTrue b ↔ (v ≡ ScalarValue t)
scalar_tested v s t b held is =
    let seen : ScalarValue s ≡ v = scalar_seen v s held in
    (λ yes. sym seen ∙ ap ScalarValue ((scalar_decides s t).0 (sym is ∙ yes)), λ same. is ∙ (scalar_decides s t).1 (held_same s t (seen ∙ same)))
  where
    held_same : (s t : Scalar) → ScalarValue s ≡ ScalarValue t → s ≡ t
    held_same s t h = cc

-- a key is a scalar where it is equal to it
pub key_tested : (k s t : Scalar) (d : Value) (b : Bool) → s ≡ k → ScalarValue t ≡ d → b ≡ scalar_eq s t → IsTrue b ↔ (ScalarValue k ≡ d)
key_tested k s t d b same default is =
    let test = scalar_tested (ScalarValue k) s t b (ap Some same) is in
    (λ yes. test.0 yes ∙ default, λ equal. test.1 (equal ∙ sym default))
