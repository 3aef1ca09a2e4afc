-- Numbers in a message and its extensions differ, and members of its oneofs are among its fields.
use Rattle.std.specs.Prelude.{◌≡◌, ◌+◌, ◌<◌, ◌≤◌, ◌^◌, ◌&&◌, ◌∷◌, ◌++◌}
use Rattle.prost_reflect_tables.proofs.Common.{ℕ, zero, suc, ℤ, pos, Bool, true, false, cond, List, [], map, length, filter, Option, Some, None, refl, sym, ap, ◌∙◌, subst, arith, slice_get, nat_eq, nat_lt, length-append, int_eq, list_all, and_from, eqb-true, eq-eqb, ltb-true, lt-ltb, Decides-int_eq, list_all-append, list_all-map, FieldDescriptorProto, OneofDescriptorProto, FieldRow, ascending_from, oneof_linked, DefinitionRow, FlatMessageRow, FlatRows, number_or_zero, number_bad, message_names, place_named, Numbered, numbered_fields, numbered_in, numbered_at, numbered_extensions, all_numbered, same_numbered, Links, links_of, natural_or_zero, is_place, belonging, extended_place, linked_field, declared_fields, fields_of_message, in_order, oneof_place, member_place, oneofs_from}
use Rattle.prost_reflect_wire.proofs.Survivors.{filter_append}
use Rattle.prost_reflect_tables.proofs.Sorting.{with_number, order_there}
use Rattle.prost_reflect_tables.proofs.Linkwell.Items.{all_from, all_belonging, all_in_order}
use Rattle.prost_reflect_tables.proofs.Linkwell.Numbers.{number_of, in_number_range, AtMostOne, order_ascends, count_same, count_append}
use Rattle.prost_reflect_tables.proofs.Linkwell.Fields.{number_is_natural, number_in_range, number_shown}

-- A test of each field and of each extension of a message, in order.
pub fields_all : (t : FieldRow → Bool) (links : Links) (extensions : List (DefinitionRow FieldDescriptorProto)) (T : ℕ) (m : FlatMessageRow) →
    ((i : ℕ) (d : DefinitionRow FieldDescriptorProto) → slice_get m.fields i ≡ Some d → t (linked_field links false d) ≡ true) →
    ((i : ℕ) (d : DefinitionRow FieldDescriptorProto) → slice_get extensions i ≡ Some d → is_place T (extended_place links d) ≡ true → t (linked_field links true d) ≡ true) →
    list_all t (in_order (fields_of_message links extensions T m)) ≡ true
fields_all t links extensions T m own more =
    all_in_order t (fields_of_message links extensions T m)
    (list_all-append t (declared_fields links m.fields) (map (linked_field links true) (belonging (extended_place links) extensions T))
    ∙ and_from (list_all t (declared_fields links m.fields)) (list_all t (map (linked_field links true) (belonging (extended_place links) extensions T)))
    (list_all-map t (linked_field links false) m.fields ∙ all_from (λ d. t (linked_field links false d)) m.fields own)
    (list_all-map t (linked_field links true) (belonging (extended_place links) extensions T) ∙ all_belonging (extended_place links) T (λ d. t (linked_field links true d)) extensions more))

-- HOW OFTEN A NUMBER STANDS THERE

abbrev numbered : ℕ → ℤ → Numbered
numbered T z = record { message = T; number = z }

same_number : (T k n : ℕ) (z : ℤ) → z ≡ pos n → nat_eq n k ≡ true → same_numbered (numbered T (pos k)) (numbered T z) ≡ true
same_number T k n z is e =
    let same : pos k ≡ z = ap pos (sym (eqb-true n k e)) ∙ sym is in
    and_from (nat_eq T T) (int_eq (pos k) z) (eq-eqb T T refl) (grind (arith, Decides-int_eq (pos k) z, same))

-- One more there, wherever one more stands here.
no_more : {X Y : Type 0} (b c : Bool) (x : X) (y : Y) (xs : List X) (ys : List Y) → (b ≡ true → c ≡ true) → length xs ≤ length ys → length (cond b (x ∷ xs) xs) ≤ length (cond c (y ∷ ys) ys)
no_more true true x y xs ys h le = omega arith
no_more true false x y xs ys h le = let no = h refl in absurd cc
no_more false true x y xs ys h le = omega arith
no_more false false x y xs ys h le = le

number_tied : (links : Links) (x : Bool) (T k : ℕ) (d : DefinitionRow FieldDescriptorProto) → number_bad d ≡ false → nat_eq (linked_field links x d).number k ≡ true → same_numbered (numbered T (pos k)) (numbered T (number_or_zero d.proto.number)) ≡ true
number_tied links x T k d good e = same_number T k (natural_or_zero d.proto.number) (number_or_zero d.proto.number) (number_is_natural d good) (ap (λ (n : ℕ). nat_eq n k) (sym (number_shown links x d)) ∙ e)

declared_counted : (links : Links) (T k : ℕ) (ds : List (DefinitionRow FieldDescriptorProto)) → ((i : ℕ) (d : DefinitionRow FieldDescriptorProto) → slice_get ds i ≡ Some d → number_bad d ≡ false) →
    length (with_number number_of k (declared_fields links ds)) ≤ count_same (numbered T (pos k)) (numbered_fields T ds)
declared_counted links T k [] good = omega arith
declared_counted links T k (d ∷ ds) good =
    no_more (nat_eq (linked_field links false d).number k) (same_numbered (numbered T (pos k)) (numbered T (number_or_zero d.proto.number))) (linked_field links false d) (numbered T (number_or_zero d.proto.number))
    (with_number number_of k (declared_fields links ds)) (filter (same_numbered (numbered T (pos k))) (numbered_fields T ds))
    (number_tied links false T k d (good 0 d refl)) (declared_counted links T k ds (λ i. good (suc i)))

messages_counted : (n : Numbered) (p i : ℕ) (ms : List FlatMessageRow) (m : FlatMessageRow) → slice_get ms i ≡ Some m → count_same n (numbered_fields (p + i) m.fields) ≤ count_same n (numbered_in p ms)
messages_counted n p i [] m at = cc
messages_counted n p zero (x ∷ ms) m at =
    let same : x ≡ m = cc in
    let first : p + 0 ≡ p = omega arith in
    let here : count_same n (numbered_fields (p + 0) m.fields) ≡ count_same n (numbered_fields p x.fields) = ap (λ (q : ℕ). count_same n (numbered_fields q m.fields)) first ∙ ap (λ (y : FlatMessageRow). count_same n (numbered_fields p y.fields)) (sym same) in
    omega (arith, here, count_append n (numbered_fields p x.fields) (numbered_in (p + 1) ms))
messages_counted n p (suc i) (x ∷ ms) m at =
    let next : (p + 1) + i ≡ p + suc i = omega arith in
    let there : count_same n (numbered_fields (p + suc i) m.fields) ≤ count_same n (numbered_in (p + 1) ms) = subst (λ (q : ℕ). count_same n (numbered_fields q m.fields) ≤ count_same n (numbered_in (p + 1) ms)) next (messages_counted n (p + 1) i ms m at) in
    omega (arith, there, count_append n (numbered_fields p x.fields) (numbered_in (p + 1) ms))

extensions_counted : (rows : FlatRows) (T k : ℕ) (ds : List (DefinitionRow FieldDescriptorProto)) → ((i : ℕ) (d : DefinitionRow FieldDescriptorProto) → slice_get ds i ≡ Some d → number_bad d ≡ false) →
    length (with_number number_of k (map (linked_field (links_of rows) true) (belonging (extended_place (links_of rows)) ds T))) ≤ count_same (numbered T (pos k)) (numbered_extensions rows ds)
extensions_counted rows T k [] good = omega arith
extensions_counted rows T k (d ∷ ds) good = at_place (place_named (message_names rows) d.proto.extendee) (extensions_counted rows T k ds (λ i. good (suc i)))
  where
    here : (p : ℕ) → nat_eq T p ≡ true → nat_eq (linked_field (links_of rows) true d).number k ≡ true → same_numbered (numbered T (pos k)) (numbered p (number_or_zero d.proto.number)) ≡ true
    here p is e = subst (λ (q : ℕ). same_numbered (numbered T (pos k)) (numbered q (number_or_zero d.proto.number)) ≡ true) (eqb-true T p is) (number_tied (links_of rows) true T k d (good 0 d refl) e)

    one : (p : ℕ) (b : Bool) → nat_eq T p ≡ b →
        length (with_number number_of k (map (linked_field (links_of rows) true) (belonging (extended_place (links_of rows)) ds T))) ≤ count_same (numbered T (pos k)) (numbered_extensions rows ds) →
        length (with_number number_of k (map (linked_field (links_of rows) true) (cond b (d ∷ belonging (extended_place (links_of rows)) ds T) (belonging (extended_place (links_of rows)) ds T)))) ≤ count_same (numbered T (pos k)) (numbered p (number_or_zero d.proto.number) ∷ numbered_extensions rows ds)
    one p true is more =
        no_more (nat_eq (linked_field (links_of rows) true d).number k) (same_numbered (numbered T (pos k)) (numbered p (number_or_zero d.proto.number))) (linked_field (links_of rows) true d) (numbered p (number_or_zero d.proto.number))
        (with_number number_of k (map (linked_field (links_of rows) true) (belonging (extended_place (links_of rows)) ds T))) (filter (same_numbered (numbered T (pos k))) (numbered_extensions rows ds)) (here p is) more
    one p false is more =
        no_more false (same_numbered (numbered T (pos k)) (numbered p (number_or_zero d.proto.number))) (linked_field (links_of rows) true d) (numbered p (number_or_zero d.proto.number))
        (with_number number_of k (map (linked_field (links_of rows) true) (belonging (extended_place (links_of rows)) ds T))) (filter (same_numbered (numbered T (pos k))) (numbered_extensions rows ds)) (λ no. absurd cc) more

    at_place : (o : Option ℕ) →
        length (with_number number_of k (map (linked_field (links_of rows) true) (belonging (extended_place (links_of rows)) ds T))) ≤ count_same (numbered T (pos k)) (numbered_extensions rows ds) →
        length (with_number number_of k (map (linked_field (links_of rows) true) (cond (is_place T o) (d ∷ belonging (extended_place (links_of rows)) ds T) (belonging (extended_place (links_of rows)) ds T)))) ≤ count_same (numbered T (pos k)) (numbered_at (number_or_zero d.proto.number) o ++ numbered_extensions rows ds)
    at_place None more = more
    at_place (Some p) more = one p (nat_eq T p) refl more

-- What is known of the numbers of files.
pub record NumbersSound (rows : FlatRows) : Type 0 where
  pub own : (T i : ℕ) (m : FlatMessageRow) (d : DefinitionRow FieldDescriptorProto) → slice_get rows.messages T ≡ Some m → slice_get m.fields i ≡ Some d → number_bad d ≡ false
  pub extensions : (i : ℕ) (d : DefinitionRow FieldDescriptorProto) → slice_get rows.extensions i ≡ Some d → number_bad d ≡ false
  pub once : (n : Numbered) → count_same n (all_numbered rows) ≤ 1

at_most_one : (rows : FlatRows) (T : ℕ) (m : FlatMessageRow) → NumbersSound rows → slice_get rows.messages T ≡ Some m → AtMostOne (fields_of_message (links_of rows) rows.extensions (0 + T) m)
at_most_one rows T m s at k =
    let n = numbered (0 + T) (pos k) in
    let own = declared_counted (links_of rows) (0 + T) k m.fields (λ i d there. s.own T i m d at there) in
    let all_own = messages_counted n 0 T rows.messages m at in
    let more = extensions_counted rows (0 + T) k rows.extensions s.extensions in
    let both : length (with_number number_of k (fields_of_message (links_of rows) rows.extensions (0 + T) m)) ≡ length (with_number number_of k (declared_fields (links_of rows) m.fields)) + length (with_number number_of k (map (linked_field (links_of rows) true) (belonging (extended_place (links_of rows)) rows.extensions (0 + T)))) =
    ap length (filter_append (λ (f : FieldRow). nat_eq f.number k) (declared_fields (links_of rows) m.fields) (map (linked_field (links_of rows) true) (belonging (extended_place (links_of rows)) rows.extensions (0 + T))))
    ∙ length-append (with_number number_of k (declared_fields (links_of rows) m.fields)) (with_number number_of k (map (linked_field (links_of rows) true) (belonging (extended_place (links_of rows)) rows.extensions (0 + T)))) in
    omega (arith, both, own, all_own, more, s.once n, count_append n (numbered_in 0 rows.messages) (numbered_extensions rows rows.extensions))

pub numbers_ascend : (rows : FlatRows) (T : ℕ) (m : FlatMessageRow) → NumbersSound rows → slice_get rows.messages T ≡ Some m → ascending_from 0 (in_order (fields_of_message (links_of rows) rows.extensions (0 + T) m)) ≡ true
numbers_ascend rows T m s at =
    order_ascends (fields_of_message (links_of rows) rows.extensions (0 + T) m) (at_most_one rows T m s at)
    (fields_all in_number_range (links_of rows) rows.extensions (0 + T) m (λ i d there. in_range false d (s.own T i m d at there)) (λ i d there is. in_range true d (s.extensions i d there)))
  where
    in_range : (x : Bool) (d : DefinitionRow FieldDescriptorProto) → number_bad d ≡ false → in_number_range (linked_field (links_of rows) x d) ≡ true
    in_range x d good = ap (λ (n : ℕ). nat_lt 0 n && nat_lt n (2 ^ 29)) (number_shown (links_of rows) x d) ∙ number_in_range d good

-- MEMBERS OF ONEOFS

some_there : (k i : ℕ) (f : FieldRow) (xs ys : List FieldRow) → slice_get xs i ≡ Some f → f.number ≡ k → 0 < length (with_number number_of k (xs ++ ys))
some_there k i f [] ys at is = cc
some_there k zero f (x ∷ xs) ys at is =
    let same : x ≡ f = cc in
    let first : with_number number_of k ((x ∷ xs) ++ ys) ≡ x ∷ with_number number_of k (xs ++ ys) = rw (eq-eqb x.number k (ap number_of same ∙ is)) refl in
    omega (arith, ap length first)
some_there k (suc i) f (x ∷ xs) ys at is = go (nat_eq x.number k) (some_there k i f xs ys at is)
  where
    go : (b : Bool) → 0 < length (with_number number_of k (xs ++ ys)) → 0 < length (cond b (x ∷ with_number number_of k (xs ++ ys)) (with_number number_of k (xs ++ ys)))
    go true less = omega arith
    go false less = less

smaller_and_same : (k : ℕ) (fields : List FieldRow) → length (filter (λ (f : FieldRow). nat_lt f.number k) fields) + length (with_number number_of k fields) ≤ length fields
smaller_and_same k [] = omega arith
smaller_and_same k (f ∷ fields) = go (nat_lt f.number k) (nat_eq f.number k) refl refl (smaller_and_same k fields)
  where
    go : (b c : Bool) → nat_lt f.number k ≡ b → nat_eq f.number k ≡ c → length (filter (λ (f : FieldRow). nat_lt f.number k) fields) + length (with_number number_of k fields) ≤ length fields →
        length (cond b (f ∷ filter (λ (f : FieldRow). nat_lt f.number k) fields) (filter (λ (f : FieldRow). nat_lt f.number k) fields)) + length (cond c (f ∷ with_number number_of k fields) (with_number number_of k fields)) ≤ length (f ∷ fields)
    go true true e g le = absurd (omega (arith, ltb-true f.number k e, eqb-true f.number k g))
    go true false e g le = omega arith
    go false true e g le = omega arith
    go false false e g le = omega arith

map_at : {X Y : Type 0} (v : X → Y) (xs : List X) (i : ℕ) (x : X) → slice_get xs i ≡ Some x → slice_get (map v xs) i ≡ Some (v x)
map_at v [] i x at = cc
map_at v (y ∷ xs) zero x at = let same : y ≡ x = cc in ap (λ z. Some (v z)) same
map_at v (y ∷ xs) (suc i) x at = map_at v xs i x at

member_there : (links : Links) (extensions : List (DefinitionRow FieldDescriptorProto)) (T i : ℕ) (m : FlatMessageRow) (d : DefinitionRow FieldDescriptorProto) → slice_get m.fields i ≡ Some d →
    nat_lt (member_place (in_order (fields_of_message links extensions T m)) d) (length (in_order (fields_of_message links extensions T m))) ≡ true
member_there links extensions T i m d at =
    let k = natural_or_zero d.proto.number in
    let all = fields_of_message links extensions T m in
    let some : 0 < length (with_number number_of k all) = some_there k i (linked_field links false d) (declared_fields links m.fields) (map (linked_field links true) (belonging (extended_place links) extensions T)) (map_at (linked_field links false) m.fields i d at) (number_shown links false d) in
    let sorted : length (with_number number_of k (in_order all)) ≡ length (with_number number_of k all) = ap length (order_there k all) in
    lt-ltb (member_place (in_order all) d) (length (in_order all)) (omega (arith, some, sorted, smaller_and_same k (in_order all)))

module _ (links : Links) (extensions : List (DefinitionRow FieldDescriptorProto)) (T : ℕ) (m : FlatMessageRow) where
  members_there : (o : ℕ) →
      list_all (λ (i : ℕ). nat_lt i (length (in_order (fields_of_message links extensions T m)))) (map (member_place (in_order (fields_of_message links extensions T m))) (belonging oneof_place m.fields o)) ≡ true
  members_there o =
      list_all-map (λ (i : ℕ). nat_lt i (length (in_order (fields_of_message links extensions T m)))) (member_place (in_order (fields_of_message links extensions T m))) (belonging oneof_place m.fields o)
      ∙ all_belonging oneof_place o (λ (d : DefinitionRow FieldDescriptorProto). nat_lt (member_place (in_order (fields_of_message links extensions T m)) d) (length (in_order (fields_of_message links extensions T m)))) m.fields (λ i d at is. member_there links extensions T i m d at)

  oneofs_there : (o : ℕ) (ds : List (DefinitionRow OneofDescriptorProto)) →
      list_all (oneof_linked (length (in_order (fields_of_message links extensions T m)))) (oneofs_from (in_order (fields_of_message links extensions T m)) m.fields o ds) ≡ true
  oneofs_there o [] = refl
  oneofs_there o (d ∷ ds) = rw (members_there o) (oneofs_there (o + 1) ds)

  pub oneofs_linked : list_all (oneof_linked (length (in_order (fields_of_message links extensions T m)))) (oneofs_from (in_order (fields_of_message links extensions T m)) m.fields 0 m.oneofs) ≡ true
  oneofs_linked = oneofs_there 0 m.oneofs

pub oneofs_length : (fields : List FieldRow) (declared : List (DefinitionRow FieldDescriptorProto)) (o : ℕ) (ds : List (DefinitionRow OneofDescriptorProto)) → length (oneofs_from fields declared o ds) ≡ length ds
oneofs_length fields declared o [] = refl
oneofs_length fields declared o (d ∷ ds) = ap suc (oneofs_length fields declared (o + 1) ds)
