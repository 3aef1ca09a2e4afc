-- What the type codes say of kinds, and what stands at the places that they name.
use Rattle.std.specs.Prelude.{◌≡◌, ◌+◌, ◌<◌, ◌≤◌, ◌&&◌, ◌||◌, ◌∷◌, ◌⊎◌}
use Rattle.prost_reflect_tables.proofs.Common.{⊎_elim, ℕ, zero, suc, ℤ, pos, Bool, true, false, cond, not, List, [], map, Option, Some, None, refl, sym, ap, ◌∙◌, subst, arith, slice_get, string_bytes, is_none, String, bytes_eq, unwrap_or, inl, inr, nat_lt, nat_le, position_from, cases_lt, and_parts, or_parts, not-false, ltb-true, leb-true, FieldDescriptorProto, TableKind, without_dot, DefinitionRow, FlatMessageRow, FlatEnumRow, FlatRows, name_place, message_names, enum_names, names_nothing, number_or_zero, is_type, is_message_type, is_enum_type, type_missing, type_unknown, message_named, place_or_first, kind_of_code, linked_kind, links_of, natural_or_zero}
use Rattle.std.proofs.Common.{Global}
use Rattle.prost_reflect_tables.specs.declared.tables.TableKind.TheVariants.{Message, Enum}

-- Neither a message nor an enum.
abbrev pub is_scalar : TableKind → Bool
is_scalar (Message T) = false
is_scalar (Enum E) = false
is_scalar kind = true

-- CODES

-- What holds of each number below one.
abbrev pub Below : (ℕ → Type 0) → ℕ → Type 0
Below P zero = Unit {0}
Below P (suc n) = P n × Below P n

pub below_at : (P : ℕ → Type 0) (k n : ℕ) → Below P k → n < k → P n
below_at P zero n h less = absurd (omega arith)
below_at P (suc k) n h less =
    ⊎_elim (λ (further : n < k). below_at P k n h.1 further)
    (λ (last : k ≤ n). let same : k ≡ n = omega arith in subst P same h.0)
    (cases_lt n k)

data KindCase (message enum code : ℕ) (kind : TableKind) : Type 0 where
  OfMessage : is_message_type (Some (pos code)) ≡ true → kind ≡ Message message → KindCase message enum code kind
  OfEnum : is_enum_type (Some (pos code)) ≡ true → kind ≡ Enum enum → KindCase message enum code kind
  OfScalar : is_scalar kind ≡ true → KindCase message enum code kind

abbrev KindOf : ℕ → ℕ → ℕ → Type 0
KindOf message enum code = KindCase message enum code (kind_of_code message enum code)

each_code : (message enum : ℕ) → Below (KindOf message enum) 19
each_code message enum = (
  OfScalar refl,
  (
    OfScalar refl,
    (
      OfScalar refl,
      (
        OfScalar refl,
        (
          OfEnum refl refl,
          (
            OfScalar refl,
            (
              OfScalar refl,
              (
                OfMessage refl refl,
                (
                  OfMessage refl refl,
                  (OfScalar refl, (OfScalar refl, (OfScalar refl, (OfScalar refl, (OfScalar refl, (OfScalar refl, (OfScalar refl, (OfScalar refl, (OfScalar refl, (OfScalar refl, tt)))))))))),
                ),
              ),
            ),
          ),
        ),
      ),
    ),
  ),
)

kind_case : (message enum code : ℕ) → code ≤ 18 → KindOf message enum code
kind_case message enum code le = below_at (KindOf message enum) 19 code (each_code message enum) (omega arith)

-- The type code of a field.
pub record TypeCode (d : DefinitionRow FieldDescriptorProto) : Type 0 where
  pub code : ℕ
  pub is : d.proto.type_ ≡ Some (pos code)
  pub some : 0 < code
  pub top : code ≤ 18

pub type_code : (d : DefinitionRow FieldDescriptorProto) → type_missing d ≡ false → TypeCode d
type_code d h = go d.proto.type_ refl (or_parts (not (is_type (number_or_zero d.proto.type_))) _ h).0
  where
    go : (o : Option ℤ) → d.proto.type_ ≡ o → not (is_type (number_or_zero o)) ≡ false → TypeCode d
    go (Some (pos n)) e bad =
        let within = and_parts (nat_lt 0 n) (nat_le n 18) (not-false (nat_lt 0 n && nat_le n 18) bad) in
        record { code = n; is = e; some = ltb-true 0 n within.0; top = leb-true n 18 within.1 }
    go _ e bad = absurd cc

-- NAMES

-- A name that is there, at its place.
pub record FoundIn {X : Type 0} (name_of : X → List ℕ) (xs : List X) (o : Option (String Global)) : Type 0 where
  pub text : String Global
  pub is : o ≡ Some text
  pub place : ℕ
  pub found : name_place (map name_of xs) (without_dot (string_bytes text)) ≡ Some place
  pub item : X
  pub at : slice_get xs place ≡ Some item

pub position_at : {X : Type 0} (t : List ℕ → Bool) (name_of : X → List ℕ) (i : ℕ) (xs : List X) (p : ℕ) → position_from t i (map name_of xs) ≡ Some p → (k : ℕ) × (x : X) × (p ≡ i + k) × (slice_get xs k ≡ Some x)
position_at t name_of i [] p e = absurd cc
position_at t name_of i (x ∷ xs) p e = go (t (name_of x)) e (position_at t name_of (i + 1) xs p)
  where
    go : (b : Bool) → cond b (Some i) (position_from t (i + 1) (map name_of xs)) ≡ Some p → (position_from t (i + 1) (map name_of xs) ≡ Some p → (k : ℕ) × (y : _) × (p ≡ (i + 1) + k) × (slice_get xs k ≡ Some y)) →
        (k : ℕ) × (y : _) × (p ≡ i + k) × (slice_get (x ∷ xs) k ≡ Some y)
    go true e more = let same : i ≡ p = cc in (0, x, omega (arith, same), refl)
    go false e more = let found = more e in (suc found.0, found.1, omega (arith, found.2), found.3)

pub found_in : {X : Type 0} (name_of : X → List ℕ) (xs : List X) (o : Option (String Global)) → is_none o ≡ false → names_nothing (map name_of xs) o ≡ false → FoundIn name_of xs o
found_in name_of xs None some h = absurd cc
found_in name_of xs (Some text) some h = go (name_place (map name_of xs) (without_dot (string_bytes text))) refl h
  where
    go : (p : Option ℕ) → name_place (map name_of xs) (without_dot (string_bytes text)) ≡ p → is_none p ≡ false → FoundIn name_of xs (Some text)
    go None e none = absurd cc
    go (Some p) e none =
        let found = position_at (bytes_eq (without_dot (string_bytes text))) name_of 0 xs p e in
        let same : found.0 ≡ p = omega (arith, found.2) in
        record { text = text; is = refl; place = p; found = e; item = found.1; at = ap (slice_get xs) (sym same) ∙ found.3 }

-- KINDS OF FIELDS

abbrev pub message_name : FlatMessageRow → List ℕ
message_name m = m.definition.full_name

abbrev pub enum_name : FlatEnumRow → List ℕ
enum_name e = e.definition.full_name

-- A message and an enum stand at the places of their kinds.
pub data FieldKind (rows : FlatRows) (d : DefinitionRow FieldDescriptorProto) : Type 0 where
  NamesMessage : (T : ℕ) (m : FlatMessageRow) → linked_kind (links_of rows) d.proto ≡ Message T → slice_get rows.messages T ≡ Some m → message_named rows d.proto.type_name ≡ Some m → is_message_type d.proto.type_ ≡ true → FieldKind rows d
  NamesEnum : (E : ℕ) (e : FlatEnumRow) → linked_kind (links_of rows) d.proto ≡ Enum E → slice_get rows.enums E ≡ Some e → FieldKind rows d
  IsScalar : is_scalar (linked_kind (links_of rows) d.proto) ≡ true → FieldKind rows d

needed : (a b c : Bool) → (a || b) && c ≡ false → (a ≡ true) ⊎ (b ≡ true) → c ≡ false
needed true b c h some = h
needed false true c h some = h
needed false false c h some = ⊎_elim (λ e. absurd cc) (λ e. absurd cc) some

pub first_place : {X : Type 0} (name_of : X → List ℕ) (xs : List X) (o : Option (String Global)) (f : FoundIn name_of xs o) → place_or_first (map name_of xs) o ≡ f.place
first_place name_of xs o f =
    ap (place_or_first (map name_of xs)) f.is ∙ ap (λ (p : Option ℕ). unwrap_or p 0) f.found

pub named_there : (rows : FlatRows) (o : Option (String Global)) (f : FoundIn message_name rows.messages o) → message_named rows o ≡ Some f.item
named_there rows o f = ap (message_named rows) f.is ∙ (rw f.found f.at)

pub field_kind : (rows : FlatRows) (d : DefinitionRow FieldDescriptorProto) → type_missing d ≡ false → type_unknown rows d ≡ false → FieldKind rows d
field_kind rows d there found =
    let c = type_code d there in
    let kind : linked_kind (links_of rows) d.proto ≡ kind_of_code (place_or_first (message_names rows) d.proto.type_name) (place_or_first (enum_names rows) d.proto.type_name) c.code =
    ap (λ (t : Option ℤ). kind_of_code (place_or_first (message_names rows) d.proto.type_name) (place_or_first (enum_names rows) d.proto.type_name) (natural_or_zero t)) c.is in
    by_case c kind (kind_case (place_or_first (message_names rows) d.proto.type_name) (place_or_first (enum_names rows) d.proto.type_name) c.code c.top)
  where
    unnamed : (is_message_type d.proto.type_ || is_enum_type d.proto.type_) && is_none d.proto.type_name ≡ false
    unnamed = (or_parts (not (is_type (number_or_zero d.proto.type_))) ((is_message_type d.proto.type_ || is_enum_type d.proto.type_) && is_none d.proto.type_name) there).1

    as_message : is_message_type d.proto.type_ ≡ true → linked_kind (links_of rows) d.proto ≡ Message (place_or_first (message_names rows) d.proto.type_name) → FieldKind rows d
    as_message is kind =
        let nothing : names_nothing (message_names rows) d.proto.type_name ≡ false = ap (λ b. b && names_nothing (message_names rows) d.proto.type_name) (sym is) ∙ (or_parts (is_message_type d.proto.type_ && names_nothing (message_names rows) d.proto.type_name) (is_enum_type d.proto.type_ && names_nothing (enum_names rows) d.proto.type_name) found).0 in
        let f : FoundIn message_name rows.messages d.proto.type_name = found_in message_name rows.messages d.proto.type_name (needed (is_message_type d.proto.type_) (is_enum_type d.proto.type_) (is_none d.proto.type_name) unnamed (inl is)) nothing in
        NamesMessage f.place f.item (kind ∙ ap (λ (T : ℕ). Message T) (first_place message_name rows.messages d.proto.type_name f)) f.at (named_there rows d.proto.type_name f) is

    as_enum : is_enum_type d.proto.type_ ≡ true → linked_kind (links_of rows) d.proto ≡ Enum (place_or_first (enum_names rows) d.proto.type_name) → FieldKind rows d
    as_enum is kind =
        let nothing : names_nothing (enum_names rows) d.proto.type_name ≡ false = ap (λ b. b && names_nothing (enum_names rows) d.proto.type_name) (sym is) ∙ (or_parts (is_message_type d.proto.type_ && names_nothing (message_names rows) d.proto.type_name) (is_enum_type d.proto.type_ && names_nothing (enum_names rows) d.proto.type_name) found).1 in
        let f : FoundIn enum_name rows.enums d.proto.type_name = found_in enum_name rows.enums d.proto.type_name (needed (is_message_type d.proto.type_) (is_enum_type d.proto.type_) (is_none d.proto.type_name) unnamed (inr is)) nothing in
        NamesEnum f.place f.item (kind ∙ ap (λ (E : ℕ). Enum E) (first_place enum_name rows.enums d.proto.type_name f)) f.at

    by_case : (c : TypeCode d) → linked_kind (links_of rows) d.proto ≡ kind_of_code (place_or_first (message_names rows) d.proto.type_name) (place_or_first (enum_names rows) d.proto.type_name) c.code →
        KindOf (place_or_first (message_names rows) d.proto.type_name) (place_or_first (enum_names rows) d.proto.type_name) c.code → FieldKind rows d
    by_case c kind (OfMessage is k) = as_message (ap is_message_type c.is ∙ is) (kind ∙ k)
    by_case c kind (OfEnum is k) = as_enum (ap is_enum_type c.is ∙ is) (kind ∙ k)
    by_case c kind (OfScalar is) = IsScalar (ap is_scalar kind ∙ is)
