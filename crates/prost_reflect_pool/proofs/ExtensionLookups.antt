-- What is found of the extensions of a message type, by their numbers and their names.
use Rattle.std.specs.Prelude.{◌≡◌, ◌≢◌, ◌+◌, ◌<◌, ◌==◌, ◌∷◌, ◌++◌}
use Rattle.prost_reflect_pool.proofs.Common.{ℕ, zero, suc, Bool, true, false, cond, List, [], length, Option, Some, None, refl, sym, ap, ◌∙◌, arith, unwrap_or, true≢false, slice_get, find, position_from, bytes_eq, false_from_ne_true, append_cancel_right, same_Some, FieldDescriptorProto, passes, ExtensionRow, DefinitionRow, FlatRows, flattened, places_from, linked_extension, links_of, is_place, extended_place, linked_field, linked_rows, bracketed, fields_at, place_of, row_of, FieldRow, TableRows, marked_extension, fields_ascend, full_name_or_empty, extension_name, extension_place, extension_where, files_of, pool_rows, pool_catalog, LinkedPool}
use Rattle.std.specs.Bool.{one_answer}
use Rattle.std.specs.Cmp.{unsigned_Decides}
use Rattle.std.proofs.lemmas.Iterator.Adapters.{position_from-zero}
use Rattle.std.proofs.lemmas.Slice.Eq.{bytes_eq-Decides}
use Rattle.prost_reflect_tables.proofs.Ascending.{place_found}
use Rattle.prost_reflect_pool.specs.Listed.{extension_row_at}
use Rattle.prost_reflect_pool.proofs.InCatalog.{linked_name}
use Rattle.prost_reflect_pool.proofs.PoolLinks.{extension_of}
use Rattle.prost_reflect_pool.proofs.ExtensionPlaces.{Extends, found_at, place_at, extending_at, extension_row, row_stands, is_place_same, extension_from}
use Rattle.prost_reflect_pool.proofs.UniqueNames.{one_place}

-- ITEMS

find_same : {X : Type 0} (p q : X → Bool) (xs : List X) → ((i : ℕ) (x : X) → slice_get xs i ≡ Some x → p x ≡ q x) → find p xs ≡ find q xs
find_same p q [] h = refl
find_same p q (x ∷ xs) h = ap (λ b. cond b (Some x) (find p xs)) (h 0 x refl) ∙ ap (λ o. cond (q x) (Some x) o) (find_same p q xs (λ i y at. h (suc i) y at))

find_nothing : {X : Type 0} (p : X → Bool) (xs : List X) → ((i : ℕ) (x : X) → slice_get xs i ≡ Some x → p x ≡ false) → find p xs ≡ None
find_nothing p [] h = refl
find_nothing p (x ∷ xs) h = ap (λ b. cond b (Some x) (find p xs)) (h 0 x refl) ∙ find_nothing p xs (λ i y at. h (suc i) y at)

-- The only item that passes is found.
find_only : {X : Type 0} (p : X → Bool) (xs : List X) (k : ℕ) (x : X) → slice_get xs k ≡ Some x → p x ≡ true → ((i : ℕ) (y : X) → slice_get xs i ≡ Some y → p y ≡ true → y ≡ x) → find p xs ≡ Some x
find_only p [] k x at is only = absurd cc
find_only {X} p (y ∷ xs) k x at is only = go (λ k at. find_only p xs k x at is (λ i z there. only (suc i) z there)) (p y) refl k at
  where
    go : ((k : ℕ) → slice_get xs k ≡ Some x → find p xs ≡ Some x) → (b : Bool) → p y ≡ b → (k : ℕ) → slice_get (y ∷ xs) k ≡ Some x → cond b (Some y) (find p xs) ≡ Some x
    go more true e k at = ap Some (only 0 y refl e)
    go more false e zero at = absurd (true≢false (sym is ∙ ap p (sym (same_Some y x at)) ∙ e))
    go more false e (suc k) at = more k at

unfound : {X : Type 0} (p : X → Bool) (xs : List X) → find p xs ≡ None → (i : ℕ) (x : X) → slice_get xs i ≡ Some x → p x ≡ false
unfound p [] e i x at = absurd cc
unfound {X} p (y ∷ xs) e i x at = go (λ e i at. unfound p xs e i x at) (p y) refl e i at
  where
    go : (find p xs ≡ None → (i : ℕ) → slice_get xs i ≡ Some x → p x ≡ false) → (b : Bool) → p y ≡ b → cond b (Some y) (find p xs) ≡ None → (i : ℕ) → slice_get (y ∷ xs) i ≡ Some x → p x ≡ false
    go more true is e i at = absurd cc
    go more false is e zero at = ap p (sym (same_Some y x at)) ∙ is
    go more false is e (suc i) at = more e i at

placed : {X : Type 0} (p : X → Bool) (q : ℕ) (xs : List X) (r : ℕ) → position_from p q xs ≡ Some r → (i : ℕ) × (x : X) × (r ≡ q + i) × (slice_get xs i ≡ Some x) × (p x ≡ true)
placed p q [] r e = absurd cc
placed {X} p q (y ∷ xs) r e = go (λ e. placed p (q + 1) xs r e) (p y) refl e
  where
    go : (position_from p (q + 1) xs ≡ Some r → (i : ℕ) × (x : X) × (r ≡ (q + 1) + i) × (slice_get xs i ≡ Some x) × (p x ≡ true))
        → (b : Bool) → p y ≡ b → cond b (Some q) (position_from p (q + 1) xs) ≡ Some r → (i : ℕ) × (x : X) × (r ≡ q + i) × (slice_get (y ∷ xs) i ≡ Some x) × (p x ≡ true)
    go more true is e = let same : q ≡ r = same_Some q r e in (0, y, omega (arith, same), refl, is)
    go more false is e = let found = more e in (suc found.0, found.1, omega (arith, found.2), found.3, found.4)

unplaced : {X : Type 0} (p : X → Bool) (q : ℕ) (xs : List X) → position_from p q xs ≡ None → (i : ℕ) (x : X) → slice_get xs i ≡ Some x → p x ≡ false
unplaced p q [] e i x at = absurd cc
unplaced {X} p q (y ∷ xs) e i x at = go (λ e i at. unplaced p (q + 1) xs e i x at) (p y) refl e i at
  where
    go : (position_from p (q + 1) xs ≡ None → (i : ℕ) → slice_get xs i ≡ Some x → p x ≡ false) → (b : Bool) → p y ≡ b → cond b (Some q) (position_from p (q + 1) xs) ≡ None → (i : ℕ) → slice_get (y ∷ xs) i ≡ Some x → p x ≡ false
    go more true is e i at = absurd cc
    go more false is e zero at = ap p (sym (same_Some y x at)) ∙ is
    go more false is e (suc i) at = more e i at

-- The place of an item that passes is among those of such items.
place_listed : {X : Type 0} (p : X → Bool) (q : ℕ) (xs : List X) (i : ℕ) (x : X) → slice_get xs i ≡ Some x → p x ≡ true → (k : ℕ) × (slice_get (places_from p q xs) k ≡ Some (q + i))
place_listed p q [] i x at is = absurd cc
place_listed {X} p q (y ∷ xs) i x at is = go (λ i at. place_listed p (q + 1) xs i x at is) (p y) refl i at
  where
    go : ((i : ℕ) → slice_get xs i ≡ Some x → (k : ℕ) × (slice_get (places_from p (q + 1) xs) k ≡ Some ((q + 1) + i)))
        → (b : Bool) → p y ≡ b → (i : ℕ) → slice_get (y ∷ xs) i ≡ Some x → (k : ℕ) × (slice_get (cond b (q ∷ places_from p (q + 1) xs) (places_from p (q + 1) xs)) k ≡ Some (q + i))
    go more true e zero at = let first : q ≡ q + 0 = omega arith in (0, ap Some first)
    go more true e (suc i) at =
        let found = more i at in
        let next : (q + 1) + i ≡ q + suc i = omega arith in
        (suc found.0, found.1 ∙ ap Some next)
    go more false e zero at = absurd (true≢false (sym is ∙ ap p (sym (same_Some y x at)) ∙ e))
    go more false e (suc i) at =
        let found = more i at in
        let next : (q + 1) + i ≡ q + suc i = omega arith in
        (found.0, found.1 ∙ ap Some next)

item_there : {X : Type 0} (xs : List X) (i : ℕ) → i < length xs → (x : X) × (slice_get xs i ≡ Some x)
item_there [] i h = absurd (omega arith)
item_there (x ∷ xs) zero h = (x, refl)
item_there (x ∷ xs) (suc i) h = item_there xs i (omega arith)

-- THE EXTENSIONS OF A MESSAGE TYPE

abbrev flat_of : LinkedPool → FlatRows
flat_of pool = flattened (files_of pool)

abbrev extends : LinkedPool → ℕ → DefinitionRow FieldDescriptorProto → Bool
extends pool T d = is_place (0 + T) (extended_place (links_of (flat_of pool)) d)

abbrev row_for : LinkedPool → DefinitionRow FieldDescriptorProto → FieldRow
row_for pool d = linked_field (links_of (flat_of pool)) true d

abbrev extension_for : LinkedPool → DefinitionRow FieldDescriptorProto → ExtensionRow
extension_for pool d = linked_extension (links_of (flat_of pool)) (linked_rows (flat_of pool)) d

-- Definition and place of an extension of the message type.
abbrev IsMember : LinkedPool → ℕ → ℕ → DefinitionRow FieldDescriptorProto → Type 0
IsMember pool T i d = (slice_get (flat_of pool).extensions i ≡ Some d) × (extends pool T d ≡ true)

member_at : (pool : LinkedPool) (T k i : ℕ) → slice_get (places_from (extends pool T) 0 (flat_of pool).extensions) k ≡ Some i → (d : DefinitionRow FieldDescriptorProto) × IsMember pool T i d
member_at pool T k i at =
    let place = place_at (extends pool T) 0 (flat_of pool).extensions k i at in
    let same : i ≡ place.0 = omega (arith, place.2) in
    (place.1, (ap (slice_get (flat_of pool).extensions) same ∙ place.3, place.4))

test_at : (pool : LinkedPool) (test : FieldRow → Bool) (i : ℕ) (d : DefinitionRow FieldDescriptorProto) → slice_get (flat_of pool).extensions i ≡ Some d → passes (extension_row_at pool i) test ≡ test (row_for pool d)
test_at pool test i d at = ap (λ o. passes o test) (row_stands pool i d at)

where_is : (pool : LinkedPool) (T : ℕ) (test : FieldRow → Bool) → T < length (pool_rows pool).messages
    → extension_where pool T test ≡ find (λ i. passes (extension_row_at pool i) test) (places_from (extends pool T) 0 (flat_of pool).extensions)
where_is pool T test at =
    let m = item_there (pool_rows pool).messages T at in
    ap (find (λ (i : ℕ). passes (extension_row_at pool i) test)) (extending_at pool T m.0 m.1)

none_passes : (pool : LinkedPool) (T : ℕ) (test : FieldRow → Bool) → T < length (pool_rows pool).messages
    → ((i : ℕ) (d : DefinitionRow FieldDescriptorProto) → IsMember pool T i d → test (row_for pool d) ≡ true → ⊥) → None ≡ extension_where pool T test
none_passes pool T test at none =
    sym (where_is pool T test at ∙ find_nothing (λ (i : ℕ). passes (extension_row_at pool i) test) (places_from (extends pool T) 0 (flat_of pool).extensions) (λ k i there.
    let d = member_at pool T k i there in
    test_at pool test i d.0 d.1.0 ∙ false_from_ne_true (test (row_for pool d.0)) (none i d.0 d.1)))

one_passes : (pool : LinkedPool) (T : ℕ) (test : FieldRow → Bool) (q : ℕ) (d : DefinitionRow FieldDescriptorProto) → T < length (pool_rows pool).messages → IsMember pool T q d → test (row_for pool d) ≡ true
    → ((i : ℕ) (e : DefinitionRow FieldDescriptorProto) → IsMember pool T i e → test (row_for pool e) ≡ true → i ≡ q) → Some q ≡ extension_where pool T test
one_passes pool T test q d at member is only =
    let listed = place_listed (extends pool T) 0 (flat_of pool).extensions q d member.0 member.1 in
    let first : 0 + q ≡ q = omega arith in
    sym (where_is pool T test at ∙ find_only (λ (i : ℕ). passes (extension_row_at pool i) test) (places_from (extends pool T) 0 (flat_of pool).extensions) listed.0 q (listed.1 ∙ ap Some first) (test_at pool test q d member.0 ∙ is) (λ k i there passing.
    let e = member_at pool T k i there in
    only i e.0 e.1 (sym (test_at pool test i e.0 e.1.0) ∙ passing)))

same_passes : (pool : LinkedPool) (T : ℕ) (test other : FieldRow → Bool) → T < length (pool_rows pool).messages
    → ((i : ℕ) (d : DefinitionRow FieldDescriptorProto) → IsMember pool T i d → test (row_for pool d) ≡ other (row_for pool d)) → extension_where pool T test ≡ extension_where pool T other
same_passes pool T test other at same =
    where_is pool T test at
    ∙ find_same (λ (i : ℕ). passes (extension_row_at pool i) test) (λ (i : ℕ). passes (extension_row_at pool i) other) (places_from (extends pool T) 0 (flat_of pool).extensions) (λ k i there.
    let d = member_at pool T k i there in
    test_at pool test i d.0 d.1.0 ∙ same i d.0 d.1 ∙ sym (test_at pool other i d.0 d.1.0))
    ∙ sym (where_is pool T other at)

-- What the catalog has of an extension of the message type: the type, and the row among its fields.
record MemberRow (pool : LinkedPool) (T : ℕ) (d : DefinitionRow FieldDescriptorProto) : Type 0 where
  message : (extension_for pool d).message ≡ T
  at : slice_get (fields_at (pool_rows pool) T) (extension_for pool d).field ≡ Some (row_for pool d)

member_row : (pool : LinkedPool) (T i : ℕ) (d : DefinitionRow FieldDescriptorProto) → IsMember pool T i d → MemberRow pool T d
member_row pool T i d member =
    let there = extension_of pool i (extension_for pool d) (extension_row pool i d member.0) in
    let same : there.definition ≡ d = same_Some there.definition d (sym there.declared ∙ member.0) in
    let zero_first : 0 + T ≡ T = omega arith in
    let message : (extension_for pool d).message ≡ T = ap (λ (o : Option ℕ). unwrap_or o 0) (is_place_same (0 + T) (extended_place (links_of (flat_of pool)) d) member.1) ∙ zero_first in
    record { message = message; at = ap (λ U. slice_get (fields_at (pool_rows pool) U) (extension_for pool d).field) (sym message) ∙ there.at ∙ ap (λ (e : DefinitionRow FieldDescriptorProto). Some (row_for pool e)) same }

-- BY FULL NAMES

-- The extension at the place that a full name finds.
record Named (pool : LinkedPool) (name : List ℕ) (q : ℕ) : Type 0 where
  extension : ExtensionRow
  at : slice_get (pool_catalog pool).extensions q ≡ Some extension
  definition : DefinitionRow FieldDescriptorProto
  declared : slice_get (flat_of pool).extensions q ≡ Some definition
  row : slice_get (fields_at (pool_rows pool) extension.message) extension.field ≡ Some (row_for pool definition)
  named : definition.full_name ≡ name

named_at : (pool : LinkedPool) (name : List ℕ) (q : ℕ) → extension_place (pool_rows pool) (pool_catalog pool) name ≡ Some q → Named pool name q
named_at pool name q e =
    let test = λ (x : ExtensionRow). bytes_eq (extension_name (pool_rows pool) x) name in
    let found = placed test 0 (pool_catalog pool).extensions q (sym (position_from-zero test (pool_catalog pool).extensions) ∙ e) in
    let same : q ≡ found.0 = omega (arith, found.2) in
    let at : slice_get (pool_catalog pool).extensions q ≡ Some found.1 = ap (slice_get (pool_catalog pool).extensions) same ∙ found.3 in
    let there = extension_of pool q found.1 at in
    record {
      extension = found.1;
      at = at;
      definition = there.definition;
      declared = there.declared;
      row = there.at;
      named = sym (linked_name (links_of (flat_of pool)) there.definition) ∙ sym (ap full_name_or_empty there.at) ∙ (bytes_eq-Decides (extension_name (pool_rows pool) found.1) name).0 found.4;
    }

name_of_member : (pool : LinkedPool) (name : List ℕ) (d : DefinitionRow FieldDescriptorProto) → bytes_eq (row_for pool d).id.full_name name ≡ true → d.full_name ≡ name
name_of_member pool name d is = sym (linked_name (links_of (flat_of pool)) d) ∙ (bytes_eq-Decides (row_for pool d).id.full_name name).0 is

-- The extension of the name is one of the message type.
pub named_here : (pool : LinkedPool) (T : ℕ) (name : List ℕ) (q : ℕ) (x : ExtensionRow) → T < length (pool_rows pool).messages → extension_place (pool_rows pool) (pool_catalog pool) name ≡ Some q → slice_get (pool_catalog pool).extensions q ≡ Some x → x.message ≡ T
    → Some q ≡ extension_where pool T (λ f. bytes_eq f.id.full_name name)
named_here pool T name q x at e there here =
    let flat = flat_of pool in
    let n = named_at pool name q e in
    let same : n.extension ≡ x = same_Some n.extension x (sym n.at ∙ there) in
    let message : n.extension.message ≡ T = ap (λ (y : ExtensionRow). y.message) same ∙ here in
    let stands : slice_get (fields_at (linked_rows flat) T) n.extension.field ≡ Some (row_for pool n.definition) = ap (λ (r : TableRows). slice_get (fields_at r T) n.extension.field) (sym pool.built.1) ∙ ap (λ U. slice_get (fields_at (pool_rows pool) U) n.extension.field) (sym message) ∙ n.row in
    let own : Extends flat T (row_for pool n.definition) = extension_from flat T n.extension.field (row_for pool n.definition) stands (marked_extension (links_of flat) n.definition) in
    let name_same : own.definition.full_name ≡ n.definition.full_name = sym (linked_name (links_of flat) own.definition) ∙ ap (λ (f : FieldRow). f.id.full_name) own.row ∙ linked_name (links_of flat) n.definition in
    let place : own.place ≡ q = one_place (files_of pool) flat pool.built.0 own.place q own.definition n.definition own.at n.declared name_same in
    let zero_first : T ≡ 0 + T = omega arith in
    let member : IsMember pool T q own.definition = (ap (slice_get flat.extensions) (sym place) ∙ own.at, ap (λ p. is_place p (extended_place (links_of flat) own.definition)) (sym zero_first) ∙ own.extends) in
    one_passes pool T (λ f. bytes_eq f.id.full_name name) q own.definition at member
    ((bytes_eq-Decides (row_for pool own.definition).id.full_name name).1 (linked_name (links_of flat) own.definition ∙ name_same ∙ n.named))
    (λ i d other is. one_place (files_of pool) flat pool.built.0 i q d n.definition other.0 n.declared (name_of_member pool name d is ∙ sym n.named))

-- The extension of the name is one of another message type.
pub named_elsewhere : (pool : LinkedPool) (T : ℕ) (name : List ℕ) (q : ℕ) (x : ExtensionRow) → T < length (pool_rows pool).messages → extension_place (pool_rows pool) (pool_catalog pool) name ≡ Some q → slice_get (pool_catalog pool).extensions q ≡ Some x → x.message ≢ T
    → None ≡ extension_where pool T (λ f. bytes_eq f.id.full_name name)
named_elsewhere pool T name q x at e there elsewhere =
    let n = named_at pool name q e in
    none_passes pool T (λ f. bytes_eq f.id.full_name name) at (λ i d member is.
    let place : i ≡ q = one_place (files_of pool) (flat_of pool) pool.built.0 i q d n.definition member.0 n.declared (name_of_member pool name d is ∙ sym n.named) in
    let same : x ≡ extension_for pool d = same_Some x (extension_for pool d) (sym there ∙ ap (slice_get (pool_catalog pool).extensions) (sym place) ∙ extension_row pool i d member.0) in
    elsewhere (ap (λ (y : ExtensionRow). y.message) same ∙ (member_row pool T i d member).message))

-- No extension has the name.
pub named_nowhere : (pool : LinkedPool) (T : ℕ) (name : List ℕ) → T < length (pool_rows pool).messages → extension_place (pool_rows pool) (pool_catalog pool) name ≡ None
    → None ≡ extension_where pool T (λ f. bytes_eq f.id.full_name name)
named_nowhere pool T name at e =
    let test = λ (x : ExtensionRow). bytes_eq (extension_name (pool_rows pool) x) name in
    none_passes pool T (λ f. bytes_eq f.id.full_name name) at (λ i d member is.
    let row = member_row pool T i d member in
    let none = unplaced test 0 (pool_catalog pool).extensions (sym (position_from-zero test (pool_catalog pool).extensions) ∙ e) i (extension_for pool d) (extension_row pool i d member.0) in
    let name_is : extension_name (pool_rows pool) (extension_for pool d) ≡ (row_for pool d).id.full_name = ap (λ U. full_name_or_empty (slice_get (fields_at (pool_rows pool) U) (extension_for pool d).field)) row.message ∙ ap full_name_or_empty row.at in
    true≢false (sym is ∙ ap (λ (t : List ℕ). bytes_eq t name) (sym name_is) ∙ none))

-- BY NAMES IN JSON

json_of : (pool : LinkedPool) (d : DefinitionRow FieldDescriptorProto) → (row_for pool d).json_name ≡ bracketed d.full_name
unfolding linked_field
json_of pool d = refl

abbrev behind_first : List ℕ → List ℕ
behind_first [] = []
behind_first (x ∷ xs) = xs

-- What stands behind the bracket of a name in JSON.
pub behind_bracket : (json rest name : List ℕ) → json ≡ 91 ∷ rest → json ≡ bracketed name → rest ≡ name ++ 93 ∷ []
behind_bracket json rest name e is = ap behind_first (sym e ∙ is)

bracketed_alike : (a b : List ℕ) → bytes_eq (bracketed a) (bracketed b) ≡ bytes_eq a b
bracketed_alike a b = one_answer {P = a ≡ b} (bytes_eq (bracketed a) (bracketed b)) (bytes_eq a b) (inside, λ e. (bytes_eq-Decides (bracketed a) (bracketed b)).1 (ap bracketed e)) (bytes_eq-Decides a b)
  where
    inside : bytes_eq (bracketed a) (bracketed b) ≡ true → a ≡ b
    inside e = append_cancel_right a b (93 ∷ []) (ap behind_first ((bytes_eq-Decides (bracketed a) (bracketed b)).0 e))

-- The name in brackets is one in JSON.
pub bracketed_found : (pool : LinkedPool) (T : ℕ) (name json : List ℕ) → T < length (pool_rows pool).messages → json ≡ bracketed name
    → extension_where pool T (λ f. bytes_eq f.id.full_name name) ≡ extension_where pool T (λ f. bytes_eq f.json_name json)
bracketed_found pool T name json at is =
    same_passes pool T (λ f. bytes_eq f.id.full_name name) (λ f. bytes_eq f.json_name json) at (λ i d member.
    ap (λ (t : List ℕ). bytes_eq t name) (linked_name (links_of (flat_of pool)) d) ∙ sym (bracketed_alike d.full_name name) ∙ ap (λ (t : List ℕ). bytes_eq (bracketed d.full_name) t) (sym is) ∙ ap (λ (t : List ℕ). bytes_eq t json) (sym (json_of pool d)))

-- A name without brackets is none in JSON.
pub unbracketed : (pool : LinkedPool) (T : ℕ) (json : List ℕ) → T < length (pool_rows pool).messages → ((name : List ℕ) → json ≢ bracketed name)
    → None ≡ extension_where pool T (λ f. bytes_eq f.json_name json)
unbracketed pool T json at none =
    none_passes pool T (λ f. bytes_eq f.json_name json) at (λ i d member is.
    none d.full_name (sym ((bytes_eq-Decides (row_for pool d).json_name json).0 is) ∙ json_of pool d))

-- BY NUMBERS

-- The row of a number is the only one of it.
row_same : (pool : LinkedPool) (T i n : ℕ) (d : DefinitionRow FieldDescriptorProto) (f : FieldRow) → IsMember pool T i d → row_of (fields_at (pool_rows pool) T) n ≡ Some f → (row_for pool d).number ≡ n → row_for pool d ≡ f
row_same pool T i n d f member found is =
    let fields = fields_at (pool_rows pool) T in
    let row = member_row pool T i d member in
    let at = found_at (λ (f : FieldRow). f.number == n) fields f found in
    let ascend = fields_ascend (pool_rows pool) T pool.tables.linked in
    let first : place_of fields n ≡ Some (extension_for pool d).field = place_found n fields (extension_for pool d).field (row_for pool d) ascend row.at is in
    let second : place_of fields n ≡ Some at.0 = place_found n fields at.0 f ascend at.1 ((unsigned_Decides f.number n).0 at.2) in
    let place : (extension_for pool d).field ≡ at.0 = same_Some (extension_for pool d).field at.0 (sym first ∙ second) in
    same_Some (row_for pool d) f (sym row.at ∙ ap (slice_get fields) place ∙ at.1)

-- The extension of a number is that of its row's full name.
pub number_named : (pool : LinkedPool) (T : ℕ) (n : ℕ) (f : FieldRow) → T < length (pool_rows pool).messages → row_of (fields_at (pool_rows pool) T) n ≡ Some f → f.is_extension ≡ true
    → extension_where pool T (λ g. bytes_eq g.id.full_name f.id.full_name) ≡ extension_where pool T (λ g. g.number == n)
number_named pool T n f at found marked =
    let flat = flat_of pool in
    let fields = fields_at (pool_rows pool) T in
    let row = found_at (λ (f : FieldRow). f.number == n) fields f found in
    let own : Extends flat T f = extension_from flat T row.0 f (ap (λ (r : TableRows). slice_get (fields_at r T) row.0) (sym pool.built.1) ∙ row.1) marked in
    same_passes pool T (λ g. bytes_eq g.id.full_name f.id.full_name) (λ g. g.number == n) at (λ i d member.
    one_answer {P = row_for pool d ≡ f} (bytes_eq (row_for pool d).id.full_name f.id.full_name) ((row_for pool d).number == n) (
      λ is.
          let name_same : d.full_name ≡ own.definition.full_name = name_of_member pool f.id.full_name d is ∙ ap (λ (g : FieldRow). g.id.full_name) (sym own.row) ∙ linked_name (links_of flat) own.definition in
          let place : i ≡ own.place = one_place (files_of pool) flat pool.built.0 i own.place d own.definition member.0 own.at name_same in
          let same : d ≡ own.definition = same_Some d own.definition (sym member.0 ∙ ap (slice_get flat.extensions) place ∙ own.at) in
          ap (row_for pool) same ∙ own.row,
      λ e. (bytes_eq-Decides (row_for pool d).id.full_name f.id.full_name).1 (ap (λ (g : FieldRow). g.id.full_name) e),
    ) (
      λ is. row_same pool T i n d f member found ((unsigned_Decides (row_for pool d).number n).0 is),
      λ e. ap (λ (g : FieldRow). g.number == n) e ∙ row.2,
    ))

-- A field has the number.
pub number_of_field : (pool : LinkedPool) (T : ℕ) (n : ℕ) (f : FieldRow) → T < length (pool_rows pool).messages → row_of (fields_at (pool_rows pool) T) n ≡ Some f → f.is_extension ≡ false
    → None ≡ extension_where pool T (λ g. g.number == n)
number_of_field pool T n f at found unmarked =
    none_passes pool T (λ g. g.number == n) at (λ i d member is.
    true≢false (sym (marked_extension (links_of (flat_of pool)) d) ∙ ap (λ (g : FieldRow). g.is_extension) (row_same pool T i n d f member found ((unsigned_Decides (row_for pool d).number n).0 is)) ∙ unmarked))

-- No row has the number.
pub number_nowhere : (pool : LinkedPool) (T : ℕ) (n : ℕ) → T < length (pool_rows pool).messages → row_of (fields_at (pool_rows pool) T) n ≡ None
    → None ≡ extension_where pool T (λ g. g.number == n)
number_nowhere pool T n at none =
    none_passes pool T (λ g. g.number == n) at (λ i d member is.
    true≢false (sym is ∙ unfound (λ (f : FieldRow). f.number == n) (fields_at (pool_rows pool) T) none (extension_for pool d).field (row_for pool d) (member_row pool T i d member).at))
