-- Of an entry: the last scalar of a number, or the default.
use Rattle.std.specs.Prelude.{◌≡◌}
use Rattle.prost_reflect_laws.proofs.Common.{Bool, true, false, not, List, Option, Some, None, refl, ap, sym, ◌∙◌, true≢false, list_all, is_utf8, chars, and_parts, same_Some, ◌>>=◌, Payload, Var, Fix64, Len, Fix32, Flat, Group, payload_valid, Scalar, EnumNumber, ScalarKind, Double, Float, StringKind, BytesKind, Enum, elem, kind_default, is_declared, is_undeclared, in_i32, scalar_valid, ScalarOf, is_key_kind, last, last_or, last_passes}
use Rattle.prost_reflect_laws.proofs.Declared.{read_valid}

-- kinds of keys have valid defaults, and no strays
pub default_valid_key : (kind : ScalarKind) → is_key_kind (ScalarOf kind) ≡ true → scalar_valid kind (kind_default kind) ≡ true
unfolding is_utf8 chars
default_valid_key StringKind h = refl
default_valid_key Double h = absurd (true≢false (sym h))
default_valid_key Float h = absurd (true≢false (sym h))
default_valid_key BytesKind h = absurd (true≢false (sym h))
default_valid_key (Enum first numbers) h = absurd (true≢false (sym h))
default_valid_key _ h = refl

pub key_stays : (kind : ScalarKind) (p : Payload) → is_key_kind (ScalarOf kind) ≡ true → is_undeclared kind p ≡ false
key_stays (Enum first numbers) p h = absurd (true≢false (sym h))
key_stays _ p h = refl

pub last_or_valid : (kind : ScalarKind) (v : Scalar) (ps : List Payload) → scalar_valid kind v ≡ true → list_all payload_valid ps ≡ true → ((p : Payload) → last ps ≡ Some p → is_undeclared kind p ≡ false) → scalar_valid kind (last_or kind v ps) ≡ true
last_or_valid kind v ps ok spelt stays = go (last ps) refl
  where
    by : (p : Payload) → last ps ≡ Some p → (o : Option Scalar) → elem kind p ≡ o → scalar_valid kind (elim o [ None ↦ v | Some w ↦ w ]) ≡ true
    by p e None d = ok
    by p e (Some w) d = read_valid kind p w (last_passes payload_valid p ps spelt e) (stays p e) d

    go : (o : Option Payload) → last ps ≡ o → scalar_valid kind (elim (o >>= elem kind) [ None ↦ v | Some w ↦ w ]) ≡ true
    go None e = ok
    go (Some p) e = by p e (elem kind p) refl

-- UNDECLARED VALUES

-- a number that its closed enum does not declare
abbrev pub is_undeclared_value : ScalarKind → Scalar → Bool
is_undeclared_value (Enum first numbers) (EnumNumber z) = not (is_declared numbers z)
is_undeclared_value kind v = false

-- a payload is undeclared where its value is
read_undeclared : (kind : ScalarKind) (p : Payload) (v : Scalar) → elem kind p ≡ Some v → is_undeclared kind p ≡ is_undeclared_value kind v
read_undeclared (Enum first numbers) (Flat (Var n)) v e = ap (is_undeclared_value (Enum first numbers)) (same_Some _ _ e)
read_undeclared (Enum first numbers) (Flat (Fix64 bytes)) v e = cc
read_undeclared (Enum first numbers) (Flat (Len bytes)) v e = cc
read_undeclared (Enum first numbers) (Flat (Fix32 bytes)) v e = cc
read_undeclared (Enum first numbers) (Group inside) v e = cc
read_undeclared _ p v e = refl

-- one without a value is not
unread_declared : (kind : ScalarKind) (p : Payload) → elem kind p ≡ None → is_undeclared kind p ≡ false
unread_declared (Enum first numbers) (Flat (Var n)) e = cc
unread_declared (Enum first numbers) p e = refl
unread_declared _ p e = refl

valid_declared : (kind : ScalarKind) (v : Scalar) → scalar_valid kind v ≡ true → is_undeclared_value kind v ≡ false
valid_declared (Enum first numbers) (EnumNumber z) h = ap not (and_parts (in_i32 z) (is_declared numbers z) h).1
valid_declared kind v h = refl

-- the last payload is undeclared where the value that it leaves is
pub last_undeclared : (kind : ScalarKind) (d v : Scalar) (ps : List Payload) → scalar_valid kind d ≡ true → last_or kind d ps ≡ v → (elim (last ps) [ None ↦ false | Some q ↦ is_undeclared kind q ]) ≡ is_undeclared_value kind v
last_undeclared kind d v ps ok left = go (last ps) left
  where
    by : (q : Payload) (o : Option Scalar) → elem kind q ≡ o → (elim o [ None ↦ d | Some w ↦ w ]) ≡ v → is_undeclared kind q ≡ is_undeclared_value kind v
    by q None f e = unread_declared kind q f ∙ sym (valid_declared kind d ok) ∙ ap (is_undeclared_value kind) e
    by q (Some w) f e = read_undeclared kind q w f ∙ ap (is_undeclared_value kind) e

    go : (o : Option Payload) → (elim (o >>= elem kind) [ None ↦ d | Some w ↦ w ]) ≡ v → (elim o [ None ↦ false | Some q ↦ is_undeclared kind q ]) ≡ is_undeclared_value kind v
    go None e = sym (valid_declared kind d ok) ∙ ap (is_undeclared_value kind) e
    go (Some q) e = by q (elem kind q) refl e
