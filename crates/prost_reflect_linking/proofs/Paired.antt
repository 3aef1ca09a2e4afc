-- Definitions beside what their texts mean.
use Rattle.std.specs.Prelude.{◌≡◌, ◌∷◌, ◌++◌, ◌⊎◌, ◌+◌, ◌<◌, Bool, zero, suc}
use Rattle.std.proofs.Common.{inl, inr}
use Rattle.std.specs.List.{zip}
use Rattle.std.proofs.lemmas.List.{map-append, length-map}
use Rattle.prost_reflect_linking.proofs.Common.{ℕ, true, false, cond, Option, List, [], Vec, Global, length, map, drop, get_or, append_assoc, refl, sym, ap, ◌∙◌, DefinitionRow, FieldRow, FlatMessageRow, ResolvedRow, definition_row, field_row, message_row, list_rows, grouped, empty_lists, belonging, declared_fields, extended_place}
use Rattle.prost_reflect_types.specs.declared.FieldDescriptorProto.{FieldDescriptorProto}
use Rattle.prost_reflect_tables.proofs.Grouping.{empty_shown}
use Rattle.prost_reflect_tables.proofs.Orders.{same_head, same_tail}
use Rattle.prost_reflect_tables.proofs.Pushing.{front_at}
use Rattle.prost_reflect_tables.specs.Linking.{Links, is_place, fields_of_message, linked_field, linked_message, messages_from}
use Rattle.prost_reflect_tables.specs.Resolved.{resolve}
use Rattle.prost_reflect_tables.specs.Rows.{MessageRow, message_row as table_row}
use Rattle.prost_reflect_flat.specs.declared.definitions.FlatMessage.{FlatMessage}
use Rattle.prost_reflect_tables.specs.declared.tables.FieldTable.{FieldTable}
use Rattle.prost_reflect_tables.specs.declared.tables.MessageTable.{MessageTable}
use Rattle.prost_reflect_linking.specs.declared.meaning.Meaning.{Meaning}
use Rattle.prost_reflect_linking.specs.Meanings.{MeaningRow, all_meant, field_meant, meaning_lists, meaning_row, meant, messages_meant}

zip_none : {A B : Type 0} (xs : List A) → zip {X = B} xs [] ≡ []
zip_none [] = refl
zip_none (x ∷ xs) = refl

-- Where one side has no more, no pair is left.
pub both_done : {A B C D : Type 0} (f : A → C) (g : B → D) (xs : List A) (ys : List B) → (xs ≡ []) ⊎ (ys ≡ []) → zip (map f xs) (map g ys) ≡ []
both_done f g xs ys (inl e) = ap (λ (zs : List _). zip (map f zs) (map g ys)) e
both_done f g xs ys (inr e) = ap (λ (zs : List _). zip (map f xs) (map g zs)) e ∙ zip_none (map f xs)

-- One pair more.
pub one_more : {A B C D : Type 0} (f : A → C) (g : B → D) (xs after : List A) (ys behind : List B) (x : A) (y : B) → xs ≡ x ∷ after → ys ≡ y ∷ behind → zip (map f xs) (map g ys) ≡ (f x, g y) ∷ zip (map f after) (map g behind)
one_more f g xs after ys behind x y e is = ap (λ (zs : List _). zip (map f zs) (map g ys)) e ∙ ap (λ (zs : List _). zip (map f (x ∷ after)) (map g zs)) is

-- MESSAGES

-- The first of what is left stands at its place.
pub first_left : {X : Type 0} (xs left rest : List X) (k : ℕ) (x : X) → left ≡ drop k xs → left ≡ x ∷ rest → k < length xs → (x ≡ get_or xs k x) × (rest ≡ drop (k + 1) xs)
first_left xs left rest k x at e h =
    let both : x ∷ rest ≡ get_or xs k x ∷ drop (k + 1) xs = sym e ∙ (at ∙ front_at xs k x h) in
    (same_head x (get_or xs k x) rest (drop (k + 1) xs) both, same_tail x (get_or xs k x) rest (drop (k + 1) xs) both)

-- One message more.
pub message_more : (tables : List MessageTable) (new : MessageTable) (pushed : List MessageTable) (es : Vec FieldTable Global) (ess : List (Vec FieldTable Global)) (ns : Vec Meaning Global) (nss : List (Vec Meaning Global)) (m : FlatMessage) (ms : List FlatMessage) →
    pushed ≡ tables ++ new ∷ [] → table_row new ≡ linked_message (all_meant (map definition_row m.fields.items) (map meaning_row ns.items) (map field_row es.items)) (message_row m) →
    map table_row pushed ++ messages_meant (list_rows ess) (meaning_lists nss) (map message_row ms) ≡ map table_row tables ++ messages_meant (list_rows (es ∷ ess)) (meaning_lists (ns ∷ nss)) (map message_row (m ∷ ms))
message_more tables new pushed es ess ns nss m ms e is =
    let rest = messages_meant (list_rows ess) (meaning_lists nss) (map message_row ms) in
    ap (λ (ts : List MessageTable). map table_row ts ++ rest) e
    ∙ (ap (λ (rs : List MessageRow). rs ++ rest) (map-append table_row tables (new ∷ []))
    ∙ (append_assoc (map table_row tables) (table_row new ∷ []) rest ∙ ap (λ (r : MessageRow). map table_row tables ++ r ∷ rest) is))

-- What a definition gives with what its own texts mean.
own_meant : (links : Links) (x : Bool) (d : DefinitionRow FieldDescriptorProto) → field_meant x (d, meant (resolve links d)) ≡ linked_field links x d
unfolding field_meant resolve linked_field
own_meant links x d = refl

fields_of : (links : Links) (ds : List (DefinitionRow FieldDescriptorProto)) → map (field_meant false) (zip ds (map (λ (d : DefinitionRow FieldDescriptorProto). meant (resolve links d)) ds)) ≡ declared_fields links ds
fields_of links [] = refl
fields_of links (d ∷ ds) =
    ap (λ (f : FieldRow). f ∷ map (field_meant false) (zip ds (map (λ (d : DefinitionRow FieldDescriptorProto). meant (resolve links d)) ds))) (own_meant links false d)
    ∙ ap (λ (fs : List FieldRow). linked_field links false d ∷ fs) (fields_of links ds)

extends_same : (links : Links) (d : DefinitionRow FieldDescriptorProto) → (meant (resolve links d)).extendee ≡ extended_place links d
unfolding resolve
extends_same links d = refl

abbrev pub Pair : Type 0
Pair = DefinitionRow FieldDescriptorProto × MeaningRow

abbrev pub extendee_of : Pair → Option ℕ
extendee_of p = p.1.extendee

abbrev pub pairs_of : Links → List (DefinitionRow FieldDescriptorProto) → List Pair
pairs_of links ds = zip ds (map (λ (d : DefinitionRow FieldDescriptorProto). meant (resolve links d)) ds)

pub belonging_of : (links : Links) (T : ℕ) (ds : List (DefinitionRow FieldDescriptorProto)) → map (field_meant true) (belonging extendee_of (pairs_of links ds) T) ≡ map (linked_field links true) (belonging (extended_place links) ds T)
belonging_of links T [] = refl
belonging_of links T (d ∷ ds) =
    let ps = belonging extendee_of (pairs_of links ds) T in
    ap (λ (p : Option ℕ). map (field_meant true) (cond (is_place T p) ((d, meant (resolve links d)) ∷ ps) ps)) (extends_same links d) ∙ go (is_place T (extended_place links d)) ps (belonging (extended_place links) ds T) (belonging_of links T ds)
  where
    go : (b : Bool) (ps : List Pair) (es : List (DefinitionRow FieldDescriptorProto)) → map (field_meant true) ps ≡ map (linked_field links true) es → map (field_meant true) (cond b ((d, meant (resolve links d)) ∷ ps) ps) ≡ map (linked_field links true) (cond b (d ∷ es) es)
    go true ps es e = ap (λ (f : FieldRow). f ∷ map (field_meant true) ps) (own_meant links true d) ∙ ap (λ (fs : List FieldRow). linked_field links true d ∷ fs) e
    go false ps es e = e

-- All messages, where the first one is at the place T.
pub all_linked : (links : Links) (extensions : List (DefinitionRow FieldDescriptorProto)) (T : ℕ) (ms : List FlatMessageRow) →
    messages_meant (grouped extendee_of (field_meant true) (pairs_of links extensions) T (empty_lists (length ms))) (map (λ (m : FlatMessageRow). map (λ (d : DefinitionRow FieldDescriptorProto). meant (resolve links d)) m.fields) ms) ms ≡ messages_from links extensions T ms
all_linked links extensions T [] = refl
all_linked links extensions T (m ∷ ms) =
    let rest = messages_meant (grouped extendee_of (field_meant true) (pairs_of links extensions) (T + 1) (empty_lists (length ms))) (map (λ (m : FlatMessageRow). map (λ (d : DefinitionRow FieldDescriptorProto). meant (resolve links d)) m.fields) ms) ms in
    ap (λ (fs : List FieldRow). linked_message (fs ++ map (field_meant true) (belonging extendee_of (pairs_of links extensions) T)) m ∷ rest) (fields_of links m.fields)
    ∙ (ap (λ (es : List FieldRow). linked_message (declared_fields links m.fields ++ es) m ∷ rest) (belonging_of links T extensions)
    ∙ ap (λ (rs : List MessageRow). linked_message (fields_of_message links extensions T m) m ∷ rs) (all_linked links extensions (T + 1) ms))

-- What is meant by each is what is meant by all.
pub meant_each : (links : Links) (ds : List (DefinitionRow FieldDescriptorProto)) → map meant (map (resolve links) ds) ≡ map (λ (d : DefinitionRow FieldDescriptorProto). meant (resolve links d)) ds
meant_each links [] = refl
meant_each links (d ∷ ds) = ap (λ (ms : List MeaningRow). meant (resolve links d) ∷ ms) (meant_each links ds)

pub meant_lists : (links : Links) (ms : List FlatMessageRow) → map (λ (rs : List ResolvedRow). map meant rs) (map (λ (m : FlatMessageRow). map (resolve links) m.fields) ms) ≡ map (λ (m : FlatMessageRow). map (λ (d : DefinitionRow FieldDescriptorProto). meant (resolve links d)) m.fields) ms
meant_lists links [] = refl
meant_lists links (m ∷ ms) = ap (λ (l : List (List MeaningRow)). map meant (map (resolve links) m.fields) ∷ l) (meant_lists links ms) ∙ ap (λ (ns : List MeaningRow). ns ∷ map (λ (m : FlatMessageRow). map (λ (d : DefinitionRow FieldDescriptorProto). meant (resolve links d)) m.fields) ms) (meant_each links m.fields)

-- LISTS OF EXTENSIONS

seen_rows : (lists : List (Vec FieldTable Global)) → list_rows lists ≡ map (map field_row) (map (λ (v : Vec FieldTable Global). v.items) lists)
seen_rows [] = refl
seen_rows (v ∷ lists) = ap (λ (l : List (List FieldRow)). map field_row v.items ∷ l) (seen_rows lists)

pub empty_rows : (n : ℕ) (lists : List (Vec FieldTable Global)) → map (λ (v : Vec FieldTable Global). v.items) lists ≡ empty_lists n → list_rows lists ≡ empty_lists n
empty_rows n lists e = seen_rows lists ∙ (ap (map (map field_row)) e ∙ empty_shown field_row n)

grouped_long : (xs : List Pair) (i : ℕ) (lists : List (List FieldRow)) → length (grouped extendee_of (field_meant true) xs i lists) ≡ length lists
grouped_long xs i [] = refl
grouped_long xs i (ys ∷ lists) = ap suc (grouped_long xs (i + 1) lists)

empty_long : (n : ℕ) → length (empty_lists {X = FieldRow} n) ≡ n
empty_long zero = refl
empty_long (suc n) = ap suc (empty_long n)

pub extensions_long : (xs : List Pair) (i n : ℕ) (lists : List (Vec FieldTable Global)) → list_rows lists ≡ grouped extendee_of (field_meant true) xs i (empty_lists n) → length lists ≡ n
extensions_long xs i n lists e = sym (length-map lists (λ (v : Vec FieldTable Global). map field_row v.items)) ∙ (ap (λ (ls : List (List FieldRow)). length ls) e ∙ (grouped_long xs i (empty_lists n) ∙ empty_long n))
