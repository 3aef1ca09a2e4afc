-- The faults of old and added files are those of the added ones.
use Rattle.std.specs.Prelude.{◌≡◌, ◌+◌, ◌&&◌, ◌||◌, ◌∷◌, ◌++◌}
use Rattle.prost_reflect_growth.proofs.Common.{list_any, int_eq, Global, ℕ, ℤ, Bool, true, false, not, List, [], length, Option, Some, None, refl, sym, ap, ap₂, ◌∙◌, arith, slice_get, nat_eq, append_assoc, add-zero, zero-add, string_bytes, String, bytes_eq, is_none, is_some, option_and_then, or_parts, or_from, Decides-int_eq, map-append, list_any-append, bytes_eq-Decides, FileDescriptorProto, MethodDescriptorProto, default_misplaced, is_float_type, default_bad, float_default_bad, entry_bad, wrongly_of_entry, is_of_entry, method_of_entry, names_entry, is_entry_message, any_field, is_unnamed, message_unnamed, enum_unnamed, service_unnamed, syntax_unknown, import_outside, has_oneof_outside, number_bad, message_range_bad, enum_range_bad, type_missing, extendee_missing, method_type_missing, label_bad, repeated_member, is_member, enum_empty, dependency_missing, name_place, file_names, message_names, enum_names, full_names, names_of, names_in_messages, names_in_enums, names_in_services, repeats, repeats_by, duplicate_name, names_nothing, place_named, message_named, is_message_type, is_enum_type, type_unknown, extendee_unknown, method_type_unknown, Numbered, numbered_fields, numbered_in, numbered_at, numbered_extensions, all_numbered, number_repeats, same_numbered, number_or_zero, is_out_of, extension_outside, DefinitionRow, FlatMessageRow, FlatEnumRow, FlatServiceRow, FlatRows, behind, links_of, text_or_empty, option_bad}
use Rattle.prost_reflect_tables.specs.declared.error.PoolError.TheVariants as errors
use Rattle.prost_reflect_tables.proofs.Linkwell.Kinds.{FoundIn, found_in, message_name, named_there}
use Rattle.prost_reflect_tables.proofs.Linkwell.Premises.{three}
use Rattle.prost_reflect_growth.specs.ChecksGrow.{added_names_repeat, added_numbered, added_numbers_repeat, ChecksGrow}
use Rattle.prost_reflect_growth.specs.Growth.{or_behind}
use Rattle.prost_reflect_growth.proofs.Again.{again_under, again_swap, again_behind}
use Rattle.prost_reflect_growth.proofs.Lists.{front_at}
use Rattle.prost_reflect_growth.proofs.Places.{places_grow}
use Rattle.prost_reflect_growth.proofs.Stays.{FieldDef, message_names_more, enum_names_more, named_stays, message_stays, extendee_stays, stays}

-- LISTS

-- Where the old items pass no test, the added ones are tested.
any_more : {X : Type 0} (p : X → Bool) (xs ys : List X) → list_any p xs ≡ false → list_any p (xs ++ ys) ≡ list_any p ys
any_more p xs ys h = list_any-append p xs ys ∙ rw h refl

-- Likewise where old items that pass none of the former tests pass none now.
none_still : {X : Type 0} (p t q : X → Bool) (xs : List X) → ((x : X) → p x ≡ false → t x ≡ false → q x ≡ false) → list_any p xs ≡ false →
    list_any t xs ≡ false → list_any q xs ≡ false
none_still p t q [] h a b = refl
none_still p t q (x ∷ xs) h a b =
    let ps = or_parts (p x) (list_any p xs) a in
    let qs = or_parts (t x) (list_any t xs) b in
    or_from (q x) (list_any q xs) (h x ps.0 qs.0) (none_still p t q xs h ps.1 qs.1)

or₂ : {a b c d : Bool} → a ≡ c → b ≡ d → (a || b) ≡ (c || d)
or₂ e f = ap₂ (λ x y. x || y) e f

-- TESTS OF ALL FIELDS

parts_of : (p : FieldDef → Bool) (rows : FlatRows) → any_field p rows ≡ false →
    (list_any (λ (m : FlatMessageRow). list_any p m.fields) rows.messages ≡ false) × (list_any p rows.extensions ≡ false)
parts_of p rows h = or_parts (list_any (λ (m : FlatMessageRow). list_any p m.fields) rows.messages) (list_any p rows.extensions) h

fields_more : (p : FieldDef → Bool) (old new : FlatRows) → any_field p old ≡ false → any_field p (behind old new) ≡ any_field p new
fields_more p old new h =
    let s = parts_of p old h in
    ap₂ (λ a b. a || b) (any_more (λ (m : FlatMessageRow). list_any p m.fields) old.messages new.messages s.0) (any_more p old.extensions new.extensions s.1)

still_fields : (p t q : FieldDef → Bool) (rows : FlatRows) → ((d : FieldDef) → p d ≡ false → t d ≡ false → q d ≡ false) →
    any_field p rows ≡ false → any_field t rows ≡ false → any_field q rows ≡ false
still_fields p t q rows h a b =
    let ps = parts_of p rows a in
    let qs = parts_of t rows b in
    or_from _ _ (none_still _ _ _ rows.messages (λ (m : FlatMessageRow) x y. none_still p t q m.fields h x y) ps.0 qs.0) (none_still p t q rows.extensions h ps.1 qs.1)

-- WHAT TEXTS NAME

found_still : (xs ys : List (List ℕ)) (o : Option (String Global)) → names_nothing xs o ≡ false → names_nothing (xs ++ ys) o ≡ false
found_still xs ys None h = refl
found_still xs ys (Some text) h = ap is_none (named_stays xs ys (Some text) h) ∙ h

message_found : (old new : FlatRows) (o : Option (String Global)) → names_nothing (message_names old) o ≡ false →
    names_nothing (message_names (behind old new)) o ≡ false
message_found old new o h = ap (λ names. names_nothing names o) (message_names_more old new) ∙ found_still (message_names old) (message_names new) o h

enum_found : (old new : FlatRows) (o : Option (String Global)) → names_nothing (enum_names old) o ≡ false →
    names_nothing (enum_names (behind old new)) o ≡ false
enum_found old new o h = ap (λ names. names_nothing names o) (enum_names_more old new) ∙ found_still (enum_names old) (enum_names new) o h

guarded : (a b c : Bool) → (b ≡ false → c ≡ false) → a && b ≡ false → a && c ≡ false
guarded true b c h e = h e
guarded false b c h e = refl

type_still : (old new : FlatRows) (d : FieldDef) → type_unknown old d ≡ false → type_unknown (behind old new) d ≡ false
type_still old new d h =
    let s = or_parts (is_message_type d.proto.type_ && names_nothing (message_names old) d.proto.type_name) (is_enum_type d.proto.type_ && names_nothing (enum_names old) d.proto.type_name) h in
    or_from _ _ (guarded (is_message_type d.proto.type_) _ _ (message_found old new d.proto.type_name) s.0) (guarded (is_enum_type d.proto.type_) _ _ (enum_found old new d.proto.type_name) s.1)

method_still : (old new : FlatRows) (d : DefinitionRow MethodDescriptorProto) → method_type_unknown old d ≡ false →
    method_type_unknown (behind old new) d ≡ false
method_still old new d h =
    let s = or_parts (names_nothing (message_names old) d.proto.input_type) (names_nothing (message_names old) d.proto.output_type) h in
    or_from _ _ (message_found old new d.proto.input_type s.0) (message_found old new d.proto.output_type s.1)

-- The message that a text names is what it was.
named_message_stays : (old new : FlatRows) (o : Option (String Global)) → names_nothing (message_names old) o ≡ false →
    message_named (behind old new) o ≡ message_named old o
named_message_stays old new None h = refl
named_message_stays old new (Some text) h =
    let f : FoundIn message_name old.messages (Some text) = found_in message_name old.messages (Some text) refl h in
    let place : place_named (message_names (behind old new)) (Some text) ≡ Some f.place =
    message_stays old new (Some text) h ∙ (ap (place_named (message_names old)) f.is ∙ f.found) in
    ap (λ (p : Option ℕ). option_and_then (λ k. slice_get (old.messages ++ new.messages) k) p) place
    ∙ (front_at old.messages new.messages f.place f.item f.at ∙ sym (named_there old (Some text) f))

outside_still : (old new : FlatRows) (d : FieldDef) → extension_outside old d ≡ false → extendee_unknown old d ≡ false →
    extension_outside (behind old new) d ≡ false
outside_still old new d h u = ap (is_out_of (number_or_zero d.proto.number)) (named_message_stays old new d.proto.extendee u) ∙ h

-- ENTRIES OF MAPS

of_entry_still : (old new : FlatRows) (d : FieldDef) → type_unknown old d ≡ false → is_of_entry (behind old new) d ≡ is_of_entry old d
of_entry_still old new d u = go (is_message_type d.proto.type_) (or_parts (is_message_type d.proto.type_ && names_nothing (message_names old) d.proto.type_name) (is_enum_type d.proto.type_ && names_nothing (enum_names old) d.proto.type_name) u).0
  where
    go : (b : Bool) → b && names_nothing (message_names old) d.proto.type_name ≡ false →
        b && names_entry (behind old new) d.proto.type_name ≡ b && names_entry old d.proto.type_name
    go true e = ap is_entry_message (named_message_stays old new d.proto.type_name e)
    go false e = refl

wrongly_still : (old new : FlatRows) (d : FieldDef) → wrongly_of_entry old d ≡ false → type_unknown old d ≡ false →
    wrongly_of_entry (behind old new) d ≡ false
wrongly_still old new d h u = rw (of_entry_still old new d u) h

method_entry_still : (old new : FlatRows) (d : DefinitionRow MethodDescriptorProto) → method_of_entry old d ≡ false →
    method_type_unknown old d ≡ false → method_of_entry (behind old new) d ≡ false
method_entry_still old new d h u =
    let s = or_parts (names_nothing (message_names old) d.proto.input_type) (names_nothing (message_names old) d.proto.output_type) u in
    ap₂ (λ a b. is_entry_message a || is_entry_message b) (named_message_stays old new d.proto.input_type s.0) (named_message_stays old new d.proto.output_type s.1) ∙ h

-- DEFAULTS

bad_still : (old new : FlatRows) (d : FieldDef) → type_missing d ≡ false → type_unknown old d ≡ false →
    default_bad (links_of (behind old new)) d ≡ default_bad (links_of old) d
unfolding default_bad
bad_still old new d m u = ap (λ o. default_misplaced d || (not (is_float_type d.proto.type_) && (is_some d.proto.default_value && is_none o))) (stays old new d m u).default

float_still : (old new : FlatRows) (d : FieldDef) → type_missing d ≡ false → type_unknown old d ≡ false →
    float_default_bad (links_of (behind old new)) d ≡ float_default_bad (links_of old) d
unfolding float_default_bad
float_still old new d m u = ap (λ o. is_float_type d.proto.type_ && (is_some d.proto.default_value && is_none o)) (stays old new d m u).default

-- DEPENDENCIES

dependency_still : (xs ys : List (List ℕ)) (f : FileDescriptorProto) → dependency_missing xs f ≡ false →
    dependency_missing (xs ++ ys) f ≡ false
dependency_still xs ys f h = none_still (λ d. is_none (name_place xs (string_bytes d))) (λ d. false) (λ d. is_none (name_place (xs ++ ys) (string_bytes d))) f.dependency.items one h (nothing f.dependency.items)
  where
    one : (d : String Global) → is_none (name_place xs (string_bytes d)) ≡ false → false ≡ false →
        is_none (name_place (xs ++ ys) (string_bytes d)) ≡ false
    one d e _ = ap is_none (places_grow xs ys (string_bytes d)) ∙ go (name_place xs (string_bytes d)) e
      where
        go : (p : Option ℕ) → is_none p ≡ false → is_none (or_behind p (length xs) (name_place ys (string_bytes d))) ≡ false
        go None e = absurd cc
        go (Some i) e = refl

    nothing : (ds : List (String Global)) → list_any (λ d. false) ds ≡ false
    nothing [] = refl
    nothing (d ∷ ds) = nothing ds

-- NAMES

messages_names : (xs ys : List FlatMessageRow) → names_in_messages (xs ++ ys) ≡ names_in_messages xs ++ names_in_messages ys
messages_names [] ys = refl
messages_names (m ∷ xs) ys =
    let own = (m.definition.full_name ∷ []) ++ names_of m.fields ++ names_of m.oneofs in
    ap (λ l. own ++ l) (messages_names xs ys) ∙ sym (append_assoc own (names_in_messages xs) (names_in_messages ys))

enums_names : (xs ys : List FlatEnumRow) → names_in_enums (xs ++ ys) ≡ names_in_enums xs ++ names_in_enums ys
enums_names [] ys = refl
enums_names (e ∷ xs) ys =
    let own = (e.definition.full_name ∷ []) ++ names_of e.values in
    ap (λ l. own ++ l) (enums_names xs ys) ∙ sym (append_assoc own (names_in_enums xs) (names_in_enums ys))

services_names : (xs ys : List FlatServiceRow) → names_in_services (xs ++ ys) ≡ names_in_services xs ++ names_in_services ys
services_names [] ys = refl
services_names (s ∷ xs) ys =
    let own = (s.definition.full_name ∷ []) ++ names_of s.methods in
    ap (λ l. own ++ l) (services_names xs ys) ∙ sym (append_assoc own (names_in_services xs) (names_in_services ys))

turned_bytes : (a b : List ℕ) → bytes_eq a b ≡ bytes_eq b a
turned_bytes a b = grind (arith, bytes_eq-Decides a b, bytes_eq-Decides b a)

turned_ints : (a b : ℤ) → int_eq a b ≡ int_eq b a
turned_ints a b = grind (arith, Decides-int_eq a b, Decides-int_eq b a)

turned_numbered : (a b : Numbered) → same_numbered a b ≡ same_numbered b a
turned_numbered a b = ap₂ (λ p q. p && q) (turned_nats a.message b.message) (turned_ints a.number b.number)
  where
    turned_nats : (m n : ℕ) → nat_eq m n ≡ nat_eq n m
    turned_nats m n = grind arith

-- Four pairs of parts, laid pair by pair, are the first of each and then the second of each.
parted : {X : Type 0} (eq : X → X → Bool) → ((a b : X) → eq a b ≡ eq b a) → (b m n e f x y s t : List X) →
    repeats_by eq b ((m ++ n) ++ (e ++ f) ++ (x ++ y) ++ (s ++ t)) ≡ repeats_by eq b ((m ++ e ++ x ++ s) ++ (n ++ f ++ y ++ t))
parted {X} eq turned b m n e f x y s t =
    ap (repeats_by eq b) before
    ∙ (again_under eq b m (n ++ (e ++ (f ++ (x ++ (y ++ (s ++ t)))))) (e ++ (x ++ (s ++ (n ++ (f ++ (y ++ t)))))) first
    ∙ ap (repeats_by eq b) (sym after))
  where
    before : (m ++ n) ++ (e ++ f) ++ (x ++ y) ++ (s ++ t) ≡ m ++ (n ++ (e ++ (f ++ (x ++ (y ++ (s ++ t))))))
    before = simp append_assoc refl

    after : (m ++ e ++ x ++ s) ++ (n ++ f ++ y ++ t) ≡ m ++ (e ++ (x ++ (s ++ (n ++ (f ++ (y ++ t))))))
    after = simp append_assoc refl

    third : (c : List X) → repeats_by eq c (n ++ (f ++ (y ++ (s ++ t)))) ≡ repeats_by eq c (s ++ (n ++ (f ++ (y ++ t))))
    third c =
        let front : n ++ (f ++ (y ++ (s ++ t))) ≡ (n ++ f ++ y) ++ (s ++ t) = simp append_assoc refl in
        let back : s ++ ((n ++ f ++ y) ++ t) ≡ s ++ (n ++ (f ++ (y ++ t))) = simp append_assoc refl in
        ap (repeats_by eq c) front ∙ (again_swap eq turned c (n ++ f ++ y) s t ∙ ap (repeats_by eq c) back)

    second : (c : List X) → repeats_by eq c (n ++ (f ++ (x ++ (y ++ (s ++ t))))) ≡ repeats_by eq c (x ++ (s ++ (n ++ (f ++ (y ++ t)))))
    second c =
        let front : n ++ (f ++ (x ++ (y ++ (s ++ t)))) ≡ (n ++ f) ++ (x ++ (y ++ (s ++ t))) = simp append_assoc refl in
        let back : x ++ ((n ++ f) ++ (y ++ (s ++ t))) ≡ x ++ (n ++ (f ++ (y ++ (s ++ t)))) = simp append_assoc refl in
        ap (repeats_by eq c) front ∙ (again_swap eq turned c (n ++ f) x (y ++ (s ++ t)) ∙ (ap (repeats_by eq c) back ∙ again_under eq c x (n ++ (f ++ (y ++ (s ++ t)))) (s ++ (n ++ (f ++ (y ++ t)))) third))

    first : (c : List X) →
        repeats_by eq c (n ++ (e ++ (f ++ (x ++ (y ++ (s ++ t)))))) ≡ repeats_by eq c (e ++ (x ++ (s ++ (n ++ (f ++ (y ++ t))))))
    first c = again_swap eq turned c n e (f ++ (x ++ (y ++ (s ++ t)))) ∙ again_under eq c e (n ++ (f ++ (x ++ (y ++ (s ++ t))))) (x ++ (s ++ (n ++ (f ++ (y ++ t))))) second

names_more : (old new : FlatRows) →
    full_names (behind old new)
    ≡ (names_in_messages old.messages ++ names_in_messages new.messages) ++ (names_in_enums old.enums ++ names_in_enums new.enums)
    ++ (names_of old.extensions ++ names_of new.extensions) ++ (names_in_services old.services ++ names_in_services new.services)
names_more old new =
    ap₂ (λ a b. a ++ b) (ap₂ (λ a b. a ++ b) (ap₂ (λ a b. a ++ b) (messages_names old.messages new.messages) (enums_names old.enums new.enums)) (map-append (λ (d : FieldDef). d.full_name) old.extensions new.extensions)) (services_names old.services new.services)

pub duplicate_names : (old new : FlatRows) → duplicate_name old ≡ false → duplicate_name (behind old new) ≡ added_names_repeat old new
duplicate_names old new h =
    ap (repeats []) (names_more old new)
    ∙ (parted bytes_eq turned_bytes [] (names_in_messages old.messages) (names_in_messages new.messages) (names_in_enums old.enums) (names_in_enums new.enums) (names_of old.extensions) (names_of new.extensions) (names_in_services old.services) (names_in_services new.services)
    ∙ again_behind bytes_eq turned_bytes (full_names old) (full_names new) h)

-- NUMBERS

numbered_more : (i : ℕ) (xs ys : List FlatMessageRow) → numbered_in i (xs ++ ys) ≡ numbered_in i xs ++ numbered_in (i + length xs) ys
numbered_more i [] ys = rw (add-zero i) refl
numbered_more i (m ∷ xs) ys =
    let e : i + 1 + length xs ≡ i + length (m ∷ xs) = omega arith in
    rw (← e) (ap (λ l. numbered_fields i m.fields ++ l) (numbered_more (i + 1) xs ys) ∙ sym (append_assoc (numbered_fields i m.fields) (numbered_in (i + 1) xs) (numbered_in (i + 1 + length xs) ys)))

extensions_both : (rows : FlatRows) (xs ys : List FieldDef) →
    numbered_extensions rows (xs ++ ys) ≡ numbered_extensions rows xs ++ numbered_extensions rows ys
extensions_both rows [] ys = refl
extensions_both rows (d ∷ xs) ys =
    let here = numbered_at (number_or_zero d.proto.number) (place_named (message_names rows) d.proto.extendee) in
    ap (λ l. here ++ l) (extensions_both rows xs ys) ∙ sym (append_assoc here (numbered_extensions rows xs) (numbered_extensions rows ys))

extensions_numbered : (old new : FlatRows) (ds : List FieldDef) → list_any (extendee_unknown old) ds ≡ false →
    numbered_extensions (behind old new) ds ≡ numbered_extensions old ds
extensions_numbered old new [] u = refl
extensions_numbered old new (d ∷ ds) u =
    let us = or_parts (extendee_unknown old d) (list_any (extendee_unknown old) ds) u in
    ap₂ (λ p l. numbered_at (number_or_zero d.proto.number) p ++ l) (extendee_stays old new d us.0) (extensions_numbered old new ds us.1)

crossed : {X : Type 0} (eq : X → X → Bool) → ((a b : X) → eq a b ≡ eq b a) → (b m n x y : List X) →
    repeats_by eq b ((m ++ n) ++ (x ++ y)) ≡ repeats_by eq b ((m ++ x) ++ (n ++ y))
crossed eq turned b m n x y =
    ap (repeats_by eq b) (append_assoc m n (x ++ y))
    ∙ (again_under eq b m (n ++ (x ++ y)) (x ++ (n ++ y)) (λ c. again_swap eq turned c n x y)
    ∙ ap (repeats_by eq b) (sym (append_assoc m x (n ++ y))))

pub duplicate_numbers : (old new : FlatRows) → list_any (extendee_unknown old) old.extensions ≡ false →
    number_repeats [] (all_numbered old) ≡ false → number_repeats [] (all_numbered (behind old new)) ≡ added_numbers_repeat old new
duplicate_numbers old new u h =
    ap (number_repeats []) (ap₂ (λ a b. a ++ b) (numbered_more 0 old.messages new.messages ∙ ap (λ n. numbered_in 0 old.messages ++ numbered_in n new.messages) (zero-add (length old.messages))) (extensions_both (behind old new) old.extensions new.extensions ∙ ap (λ l. l ++ numbered_extensions (behind old new) new.extensions) (extensions_numbered old new old.extensions u)))
    ∙ (crossed same_numbered turned_numbered [] (numbered_in 0 old.messages) (numbered_in (length old.messages) new.messages) (numbered_extensions old old.extensions) (numbered_extensions (behind old new) new.extensions)
    ∙ again_behind same_numbered turned_numbered (all_numbered old) (added_numbered old new) h)

-- A test of fields that stays for those whose type is there.
module _ (old new : FlatRows) (p q : FieldDef → Bool)
    (same : (d : FieldDef) → type_missing d ≡ false → type_unknown old d ≡ false → q d ≡ p d) where
  still_list : (ds : List FieldDef) → list_any p ds ≡ false → list_any type_missing ds ≡ false → list_any (type_unknown old) ds ≡ false →
      list_any q ds ≡ false
  still_list [] n m u = refl
  still_list (d ∷ ds) n m u =
      let ns = or_parts (p d) (list_any p ds) n in
      let ms = or_parts (type_missing d) (list_any type_missing ds) m in
      let us = or_parts (type_unknown old d) (list_any (type_unknown old) ds) u in
      or_from (q d) (list_any q ds) (same d ms.0 us.0 ∙ ns.0) (still_list ds ns.1 ms.1 us.1)

  still_messages : (xs : List FlatMessageRow) → list_any (λ (x : FlatMessageRow). list_any p x.fields) xs ≡ false →
      list_any (λ (x : FlatMessageRow). list_any type_missing x.fields) xs ≡ false →
      list_any (λ (x : FlatMessageRow). list_any (type_unknown old) x.fields) xs ≡ false →
      list_any (λ (x : FlatMessageRow). list_any q x.fields) xs ≡ false
  still_messages [] n m u = refl
  still_messages (x ∷ xs) n m u =
      let ns = or_parts (list_any p x.fields) (list_any (λ (x : FlatMessageRow). list_any p x.fields) xs) n in
      let ms = or_parts (list_any type_missing x.fields) (list_any (λ (x : FlatMessageRow). list_any type_missing x.fields) xs) m in
      let us = or_parts (list_any (type_unknown old) x.fields) (list_any (λ (x : FlatMessageRow). list_any (type_unknown old) x.fields) xs) u in
      or_from (list_any q x.fields) (list_any (λ (x : FlatMessageRow). list_any q x.fields) xs) (still_list x.fields ns.0 ms.0 us.0) (still_messages xs ns.1 ms.1 us.1)

  defaults_more : any_field p old ≡ false → any_field type_missing old ≡ false → any_field (type_unknown old) old ≡ false →
      any_field q (behind old new) ≡ any_field q new
  defaults_more n m u =
      let ns = parts_of p old n in
      let ms = parts_of type_missing old m in
      let us = parts_of (type_unknown old) old u in
      fields_more q old new (or_from _ _ (still_messages old.messages ns.0 ms.0 us.0) (still_list old.extensions ns.1 ms.1 us.1))

-- ALL FAULTS

pub checks_grow : ChecksGrow
checks_grow files added old new checked errors.MissingName =
    let s = or_parts _ _ (checked errors.MissingName) in
    let t = or_parts _ _ s.0 in
    let u = three _ _ _ t.0 in
    or₂ (or₂ (or₂ (or₂ (any_more (λ (f : FileDescriptorProto). is_unnamed f.name) files added u.0) (any_more message_unnamed old.messages new.messages u.1)) (any_more enum_unnamed old.enums new.enums u.2))
    (any_more (λ (d : FieldDef). is_unnamed d.proto.name) old.extensions new.extensions t.1)) (any_more service_unnamed old.services new.services s.1)
checks_grow files added old new checked errors.UnknownSyntax = any_more syntax_unknown files added (checked errors.UnknownSyntax)
checks_grow files added old new checked errors.MissingDependency =
    any_more (dependency_missing (file_names (files ++ added))) files added
    (ap (λ names. list_any (dependency_missing names) files) (map-append (λ (f : FileDescriptorProto). text_or_empty f.name) files added)
    ∙ none_still (dependency_missing (file_names files)) (dependency_missing (file_names files)) (dependency_missing (file_names files ++ file_names added)) files (λ f a b. dependency_still (file_names files) (file_names added) f a) (checked errors.MissingDependency) (checked errors.MissingDependency))
checks_grow files added old new checked errors.BadIndex =
    let s = or_parts (list_any import_outside files) (list_any has_oneof_outside old.messages) (checked errors.BadIndex) in
    ap₂ (λ a b. a || b) (any_more import_outside files added s.0) (any_more has_oneof_outside old.messages new.messages s.1)
checks_grow files added old new checked errors.BadNumber = fields_more number_bad old new (checked errors.BadNumber)
checks_grow files added old new checked errors.BadRange =
    let s = or_parts (list_any message_range_bad old.messages) (list_any enum_range_bad old.enums) (checked errors.BadRange) in
    ap₂ (λ a b. a || b) (any_more message_range_bad old.messages new.messages s.0) (any_more enum_range_bad old.enums new.enums s.1)
checks_grow files added old new checked errors.MissingType =
    let s = three _ _ _ (checked errors.MissingType) in
    or₂ (or₂ (fields_more type_missing old new s.0) (any_more extendee_missing old.extensions new.extensions s.1)) (any_more (λ (x : FlatServiceRow). list_any method_type_missing x.methods) old.services new.services s.2)
checks_grow files added old new checked errors.BadLabel = fields_more label_bad old new (checked errors.BadLabel)
checks_grow files added old new checked errors.BadOneof =
    let s = or_parts (any_field repeated_member old) (list_any is_member old.extensions) (checked errors.BadOneof) in
    ap₂ (λ a b. a || b) (fields_more repeated_member old new s.0) (any_more is_member old.extensions new.extensions s.1)
checks_grow files added old new checked errors.EmptyEnum = any_more enum_empty old.enums new.enums (checked errors.EmptyEnum)
checks_grow files added old new checked errors.DuplicateName = duplicate_names old new (checked errors.DuplicateName)
checks_grow files added old new checked errors.UnknownType =
    let s = three _ _ _ (checked errors.UnknownType) in
    or₂ (or₂ (fields_more (type_unknown (behind old new)) old new (still_fields (type_unknown old) (type_unknown old) (type_unknown (behind old new)) old (λ d a b. type_still old new d a) s.0 s.0))
    (any_more (extendee_unknown (behind old new)) old.extensions new.extensions (none_still (extendee_unknown old) (extendee_unknown old) (extendee_unknown (behind old new)) old.extensions (λ (d : FieldDef) a b. message_found old new d.proto.extendee a) s.1 s.1)))
    (any_more (λ (x : FlatServiceRow). list_any (method_type_unknown (behind old new)) x.methods) old.services new.services
    (none_still (λ (x : FlatServiceRow). list_any (method_type_unknown old) x.methods) (λ (x : FlatServiceRow). list_any (method_type_unknown old) x.methods) _ old.services (λ x a b. none_still (method_type_unknown old) (method_type_unknown old) (method_type_unknown (behind old new)) x.methods (λ d p q. method_still old new d p) a b) s.2 s.2))
checks_grow files added old new checked errors.DuplicateNumber = duplicate_numbers old new (three _ _ _ (checked errors.UnknownType)).1 (checked errors.DuplicateNumber)
checks_grow files added old new checked errors.OutsideRange =
    any_more (extension_outside (behind old new)) old.extensions new.extensions (none_still (extension_outside old) (extendee_unknown old) (extension_outside (behind old new)) old.extensions (λ d a b. outside_still old new d a b) (checked errors.OutsideRange) (three _ _ _ (checked errors.UnknownType)).1)
checks_grow files added old new checked errors.BadMapEntry =
    let r = or_parts _ _ (checked errors.BadMapEntry) in
    let s = three _ _ _ r.0 in
    let u = three _ _ _ (checked errors.UnknownType) in
    let t = parts_of (type_unknown old) old u.0 in
    or₂ (or₂ (or₂ (any_more entry_bad old.messages new.messages s.0)
    (any_more (λ (m : FlatMessageRow). list_any (wrongly_of_entry (behind old new)) m.fields) old.messages new.messages
    (none_still (λ (m : FlatMessageRow). list_any (wrongly_of_entry old) m.fields) (λ (m : FlatMessageRow). list_any (type_unknown old) m.fields) _ old.messages (λ m a b. none_still (wrongly_of_entry old) (type_unknown old) (wrongly_of_entry (behind old new)) m.fields (λ d p q. wrongly_still old new d p q) a b) s.1 t.0)))
    (any_more (is_of_entry (behind old new)) old.extensions new.extensions (none_still (is_of_entry old) (type_unknown old) (is_of_entry (behind old new)) old.extensions (λ d p q. of_entry_still old new d q ∙ p) s.2 t.1)))
    (any_more (λ (x : FlatServiceRow). list_any (method_of_entry (behind old new)) x.methods) old.services new.services
    (none_still (λ (x : FlatServiceRow). list_any (method_of_entry old) x.methods) (λ (x : FlatServiceRow). list_any (method_type_unknown old) x.methods) _ old.services (λ x a b. none_still (method_of_entry old) (method_type_unknown old) (method_of_entry (behind old new)) x.methods (λ d p q. method_entry_still old new d p q) a b) r.1 u.2))
checks_grow files added old new checked errors.BadOptions =
    let s = or_parts (list_any (λ (m : FlatMessageRow). option_bad 7 m.definition.proto.options) old.messages) (any_field (λ (d : FieldDef). option_bad 2 d.proto.options) old) (checked errors.BadOptions) in
    ap₂ (λ a b. a || b) (any_more (λ (m : FlatMessageRow). option_bad 7 m.definition.proto.options) old.messages new.messages s.0) (fields_more (λ (d : FieldDef). option_bad 2 d.proto.options) old new s.1)
checks_grow files added old new checked errors.BadDefault = defaults_more old new (default_bad (links_of old)) (default_bad (links_of (behind old new))) (λ d m u. bad_still old new d m u) (checked errors.BadDefault) (three _ _ _ (checked errors.MissingType)).0 (three _ _ _ (checked errors.UnknownType)).0
checks_grow files added old new checked errors.FloatDefault = defaults_more old new (float_default_bad (links_of old)) (float_default_bad (links_of (behind old new))) (λ d m u. float_still old new d m u) (checked errors.FloatDefault) (three _ _ _ (checked errors.MissingType)).0 (three _ _ _ (checked errors.UnknownType)).0
checks_grow files added old new checked (errors.Decode d) = refl
checks_grow files added old new checked errors.OutOfMemory = refl
