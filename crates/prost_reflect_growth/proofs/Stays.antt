-- Old definitions mean what they did.
use Rattle.std.specs.Prelude.{◌≡◌, ◌&&◌, ◌||◌, ◌++◌}
use Rattle.prost_reflect_growth.proofs.Common.{Global, ℕ, ℤ, pos, Bool, true, false, not, List, [], length, map, Option, Some, None, refl, sym, ap, ap₂, ◌∙◌, arith, slice_get, string_bytes, String, unwrap_or, is_none, or_parts, map-append, FieldDescriptorProto, type_missing, name_place, message_names, enum_names, names_nothing, place_named, is_type, is_message_type, is_enum_type, type_unknown, number_or_zero, DefinitionRow, FlatEnumRow, FlatRows, behind, Links, links_of, natural_or_zero, place_or_first, kind_of_code, linked_kind, values_of_kind, linked_default, linked_value, field_with, linked_field, without_dot, EnumValueRow, TableKind, Message, Enum}
use Rattle.prost_reflect_tables.proofs.Linkwell.Kinds.{Below, below_at, TypeCode, type_code, FoundIn, found_in, first_place, message_name, enum_name}
use Rattle.prost_reflect_growth.specs.Growth.{or_behind}
use Rattle.prost_reflect_growth.specs.Stays.{FieldStays, ExtendeeStays}
use Rattle.prost_reflect_growth.proofs.Lists.{front_at, mapped}
use Rattle.prost_reflect_growth.proofs.Places.{places_grow}

abbrev pub FieldDef : Type 0
FieldDef = DefinitionRow FieldDescriptorProto

-- NAMES

pub named_stays : (xs ys : List (List ℕ)) (o : Option (String Global)) → names_nothing xs o ≡ false →
    place_named (xs ++ ys) o ≡ place_named xs o
named_stays xs ys None h = refl
named_stays xs ys (Some text) h = places_grow xs ys (without_dot (string_bytes text)) ∙ go (name_place xs (without_dot (string_bytes text))) h
  where
    go : (p : Option ℕ) → is_none p ≡ false → or_behind p (length xs) (name_place ys (without_dot (string_bytes text))) ≡ p
    go None e = absurd cc
    go (Some i) e = refl

pub message_names_more : (old new : FlatRows) → message_names (behind old new) ≡ message_names old ++ message_names new
message_names_more old new = map-append message_name old.messages new.messages

pub enum_names_more : (old new : FlatRows) → enum_names (behind old new) ≡ enum_names old ++ enum_names new
enum_names_more old new = map-append enum_name old.enums new.enums

pub message_stays : (old new : FlatRows) (o : Option (String Global)) → names_nothing (message_names old) o ≡ false →
    place_named (message_names (behind old new)) o ≡ place_named (message_names old) o
message_stays old new o h = ap (λ names. place_named names o) (message_names_more old new) ∙ named_stays (message_names old) (message_names new) o h

enum_stays : (old new : FlatRows) (o : Option (String Global)) → names_nothing (enum_names old) o ≡ false →
    place_named (enum_names (behind old new)) o ≡ place_named (enum_names old) o
enum_stays old new o h = ap (λ names. place_named names o) (enum_names_more old new) ∙ named_stays (enum_names old) (enum_names new) o h

pub extendee_stays : ExtendeeStays
extendee_stays old new d h = message_stays old new d.proto.extendee h

-- CODES

-- The kind of a code names a message only where that is of a message type, and an enum only where it is of an enum type.
data KindCase (m e m1 e1 code : ℕ) : Type 0 where
  OfMessage : is_message_type (Some (pos code)) ≡ true → kind_of_code m1 e1 code ≡ Message m1 → kind_of_code m e code ≡ Message m →
      KindCase m e m1 e1 code
  OfEnum : is_enum_type (Some (pos code)) ≡ true → kind_of_code m1 e1 code ≡ Enum e1 → kind_of_code m e code ≡ Enum e →
      KindCase m e m1 e1 code
  OfScalar : kind_of_code m1 e1 code ≡ kind_of_code m e code → ((links : Links) → values_of_kind links (kind_of_code m e code) ≡ []) →
      KindCase m e m1 e1 code

each_code : (m e m1 e1 : ℕ) → Below (KindCase m e m1 e1) 19
each_code m e m1 e1 = (
  OfScalar refl (λ links. refl),
  (
    OfScalar refl (λ links. refl),
    (
      OfScalar refl (λ links. refl),
      (
        OfScalar refl (λ links. refl),
        (
          OfEnum refl refl refl,
          (
            OfScalar refl (λ links. refl),
            (
              OfScalar refl (λ links. refl),
              (
                OfMessage refl refl refl,
                (
                  OfMessage refl refl refl,
                  (
                    OfScalar refl (λ links. refl),
                    (
                      OfScalar refl (λ links. refl),
                      (
                        OfScalar refl (λ links. refl),
                        (
                          OfScalar refl (λ links. refl),
                          (
                            OfScalar refl (λ links. refl),
                            (
                              OfScalar refl (λ links. refl),
                              (OfScalar refl (λ links. refl), (OfScalar refl (λ links. refl), (OfScalar refl (λ links. refl), (OfScalar refl (λ links. refl), tt)))),
                            ),
                          ),
                        ),
                      ),
                    ),
                  ),
                ),
              ),
            ),
          ),
        ),
      ),
    ),
  ),
)

-- VALUES

values_at : (rows : FlatRows) (E : ℕ) (e : FlatEnumRow) → slice_get rows.enums E ≡ Some e →
    values_of_kind (links_of rows) (Enum E) ≡ map linked_value e.values
values_at rows E e at = ap (λ (o : Option (List EnumValueRow)). unwrap_or o []) (mapped (λ (e : FlatEnumRow). map linked_value e.values) rows.enums E e at)

-- The enum that a text names has the values that it had.
values_there : (old new : FlatRows) (o : Option (String Global)) → is_none o ≡ false → names_nothing (enum_names old) o ≡ false →
    values_of_kind (links_of (behind old new)) (Enum (place_or_first (enum_names old) o)) ≡ values_of_kind (links_of old) (Enum (place_or_first (enum_names old) o))
values_there old new o some h =
    let f : FoundIn enum_name old.enums o = found_in enum_name old.enums o some h in
    let at : slice_get old.enums (place_or_first (enum_names old) o) ≡ Some f.item = ap (slice_get old.enums) (first_place enum_name old.enums o f) ∙ f.at in
    values_at (behind old new) (place_or_first (enum_names old) o) f.item (front_at old.enums new.enums (place_or_first (enum_names old) o) f.item at)
    ∙ sym (values_at old (place_or_first (enum_names old) o) f.item at)

-- FIELDS

default_same : (a b : Links) (kind : TableKind) (o : Option (String Global)) → values_of_kind a kind ≡ values_of_kind b kind →
    linked_default a kind o ≡ linked_default b kind o
default_same a b kind None e = refl
default_same a b kind (Some text) e = rw e refl

-- Its kind and its default are what they were.
pub record Stays (old new : FlatRows) (d : FieldDef) : Type 0 where
  pub kind : linked_kind (links_of (behind old new)) d.proto ≡ linked_kind (links_of old) d.proto
  pub default : linked_default (links_of (behind old new)) (linked_kind (links_of (behind old new)) d.proto) d.proto.default_value
      ≡ linked_default (links_of old) (linked_kind (links_of old) d.proto) d.proto.default_value

pub stays : (old new : FlatRows) (d : FieldDef) → type_missing d ≡ false → type_unknown old d ≡ false → Stays old new d
stays old new d there found =
    let c = type_code d there in
    by_case c (below_at (KindCase (place_or_first (message_names old) d.proto.type_name) (place_or_first (enum_names old) d.proto.type_name) (place_or_first (message_names (behind old new)) d.proto.type_name) (place_or_first (enum_names (behind old new)) d.proto.type_name)) 19 c.code
    (each_code _ _ _ _) (omega (arith, c.top)))
  where
    after : Links
    after = links_of (behind old new)

    before : Links
    before = links_of old

    parts :
        (is_message_type d.proto.type_ && names_nothing (message_names old) d.proto.type_name ≡ false) × (is_enum_type d.proto.type_ && names_nothing (enum_names old) d.proto.type_name ≡ false)
    parts = or_parts (is_message_type d.proto.type_ && names_nothing (message_names old) d.proto.type_name) (is_enum_type d.proto.type_ && names_nothing (enum_names old) d.proto.type_name) found

    code_is : (c : TypeCode d) (links : Links) →
        linked_kind links d.proto
        ≡ kind_of_code (place_or_first links.messages d.proto.type_name) (place_or_first links.enums d.proto.type_name) c.code
    code_is c links = ap (λ (t : Option ℤ). kind_of_code (place_or_first links.messages d.proto.type_name) (place_or_first links.enums d.proto.type_name) (natural_or_zero t)) c.is

    closed : linked_kind after d.proto ≡ linked_kind before d.proto →
        values_of_kind after (linked_kind before d.proto) ≡ values_of_kind before (linked_kind before d.proto) → Stays old new d
    closed kind values = record {
      kind = kind;
      default = ap (λ k. linked_default after k d.proto.default_value) kind ∙ default_same after before (linked_kind before d.proto) d.proto.default_value values;
    }

    by_case : (c : TypeCode d) →
        KindCase (place_or_first (message_names old) d.proto.type_name) (place_or_first (enum_names old) d.proto.type_name) (place_or_first (message_names (behind old new)) d.proto.type_name) (place_or_first (enum_names (behind old new)) d.proto.type_name) c.code →
        Stays old new d
    by_case c (OfMessage is k1 k) =
        let nothing : names_nothing (message_names old) d.proto.type_name ≡ false = ap (λ b. b && names_nothing (message_names old) d.proto.type_name) (sym (ap is_message_type c.is ∙ is)) ∙ parts.0 in
        let place : place_or_first (message_names (behind old new)) d.proto.type_name ≡ place_or_first (message_names old) d.proto.type_name = ap (λ (p : Option ℕ). unwrap_or p 0) (message_stays old new d.proto.type_name nothing) in
        let own : linked_kind before d.proto ≡ Message (place_or_first (message_names old) d.proto.type_name) = code_is c before ∙ k in
        closed (code_is c after ∙ (k1 ∙ (ap (λ (T : ℕ). Message T) place ∙ sym own))) (ap (values_of_kind after) own ∙ sym (ap (values_of_kind before) own))
    by_case c (OfEnum is k1 k) =
        let named : is_enum_type d.proto.type_ ≡ true = ap is_enum_type c.is ∙ is in
        let nothing : names_nothing (enum_names old) d.proto.type_name ≡ false = ap (λ b. b && names_nothing (enum_names old) d.proto.type_name) (sym named) ∙ parts.1 in
        let some : is_none d.proto.type_name ≡ false = has_text (is_message_type d.proto.type_) (is_enum_type d.proto.type_) (is_none d.proto.type_name) named (or_parts (not (is_type (number_or_zero d.proto.type_))) ((is_message_type d.proto.type_ || is_enum_type d.proto.type_) && is_none d.proto.type_name) there).1 in
        let place : place_or_first (enum_names (behind old new)) d.proto.type_name ≡ place_or_first (enum_names old) d.proto.type_name = ap (λ (p : Option ℕ). unwrap_or p 0) (enum_stays old new d.proto.type_name nothing) in
        let own : linked_kind before d.proto ≡ Enum (place_or_first (enum_names old) d.proto.type_name) = code_is c before ∙ k in
        closed (code_is c after ∙ (k1 ∙ (ap (λ (E : ℕ). Enum E) place ∙ sym own))) (ap (values_of_kind after) own ∙ (values_there old new d.proto.type_name some nothing ∙ sym (ap (values_of_kind before) own)))
      where
        has_text : (a b c : Bool) → b ≡ true → (a || b) && c ≡ false → c ≡ false
        has_text true b c is h = h
        has_text false true c is h = h
        has_text false false c is h = absurd cc
    by_case c (OfScalar k none) =
        let own : linked_kind before d.proto ≡ kind_of_code (place_or_first (message_names old) d.proto.type_name) (place_or_first (enum_names old) d.proto.type_name) c.code = code_is c before in
        closed (code_is c after ∙ (k ∙ sym own)) (ap (values_of_kind after) own ∙ (none after ∙ sym (ap (values_of_kind before) own ∙ none before)))

pub field_stays : FieldStays
unfolding linked_field
field_stays old new x d there found = let s = stays old new d there found in ap₂ (field_with x d) s.kind s.default
