-- How flat lists grow.
use Rattle.std.specs.Prelude.{◌≡◌, ◌+◌, ◌<◌, ◌∷◌, ◌++◌}
use Rattle.prost_reflect_flat.proofs.Common.{ℕ, suc, List, [], length, map, drop, get_or, refl, sym, ap, ◌∙◌, arith, append_assoc, append-nil, length-append, drop-cons, add-one, DescriptorProto, out-DescriptorProto, fold_out-DescriptorProto, FileDescriptorProto, ScopeRow, FlatMessageRow, FlatRows, Given, nothing, both, with_given, Placed, all_from, inside, own_message, enums_from, defined_from, field_name, message_step, message_at, services_from, file_scope, file_at, behind, files_from}
use Rattle.prost_reflect_tables.proofs.Behind.{same_rows, behind_behind}

pub same_scope : (a b : ScopeRow) → a.name ≡ b.name → a.path ≡ b.path → a.file ≡ b.file → a.is_proto3 ≡ b.is_proto3 → a.parent ≡ b.parent → a ≡ b
same_scope a b n p f v m =
    ap (λ v. record a { name = v }) n
    ∙ (ap (λ v. record a { name = b.name; path = v }) p
    ∙ (ap (λ v. record b { file = v; is_proto3 = a.is_proto3; parent = a.parent }) f
    ∙ (ap (λ v. record b { is_proto3 = v; parent = a.parent }) v
    ∙ ap (λ v. record b { parent = v }) m)))

given_both : (rows : FlatRows) (a b : Given) → with_given (with_given rows a) b ≡ with_given rows (both a b)
given_both rows a b = same_rows _ _ (append_assoc rows.messages a.messages b.messages) (append_assoc rows.enums a.enums b.enums) (append_assoc rows.extensions a.extensions b.extensions) refl

pub given_nothing : (rows : FlatRows) → with_given rows nothing ≡ rows
given_nothing rows = same_rows _ _ (append-nil rows.messages) (append-nil rows.enums) (append-nil rows.extensions) refl

-- The next of a list of messages stands first.
next_message : (ms : List DescriptorProto) (i : ℕ) (d : DescriptorProto) (scope : ScopeRow) (number : ℕ) (n : ℕ) → i < length ms →
    all_from (map message_at (drop i ms)) scope number i n
    ≡ both (message_at (get_or ms i d) scope number i n) (all_from (map message_at (drop (i + 1) ms)) scope number (i + 1) (n + length (message_at (get_or ms i d) scope number i n).messages))
next_message ms i d scope number n within = rw (drop-cons ms i d) (rw (add-one i) refl)

-- So many messages stand in front of all these lists.
pub message_added : (front : ℕ) (old new : FlatRows) (ms : List DescriptorProto) (i : ℕ) (d : DescriptorProto) (scope : ScopeRow) (number : ℕ) (n m : ℕ) → i < length ms →
    n ≡ front + length old.messages → m ≡ front + length new.messages → with_given old (message_at (get_or ms i d) scope number i n) ≡ new →
    with_given new (all_from (map message_at (drop (i + 1) ms)) scope number (i + 1) m) ≡ with_given old (all_from (map message_at (drop i ms)) scope number i n)
message_added front old new ms i d scope number n m within n_is m_is added =
    let first = message_at (get_or ms i d) scope number i n in
    let longer : m ≡ n + length first.messages = omega (arith, ap (λ (r : FlatRows). length r.messages) added, length-append old.messages first.messages) in
    let rest = λ (k : ℕ). all_from (map message_at (drop (i + 1) ms)) scope number (i + 1) k in
    ap (λ (r : FlatRows). with_given r (rest m)) (sym added)
    ∙ (ap (λ (k : ℕ). with_given (with_given old first) (rest k)) longer
    ∙ (given_both old first (rest (n + length first.messages))
    ∙ ap (with_given old) (sym (next_message ms i d scope number n within))))

-- What a message gives, where its own row and the scope inside are these.
opened : DescriptorProto → FlatMessageRow → ScopeRow → ℕ → Given
opened m o within n = let nested = all_from (map message_at (out-DescriptorProto m).nested_type.items) within 3 0 (n + 1) in record {
  messages = o ∷ nested.messages;
  enums = nested.enums ++ enums_from within 4 0 (out-DescriptorProto m).enum_type.items;
  extensions = nested.extensions ++ defined_from field_name within 6 0 (out-DescriptorProto m).extension.items;
}

message_out : (m : DescriptorProto) (scope : ScopeRow) (number : ℕ) (place n : ℕ) →
    message_at m scope number place n ≡ (let o = own_message (out-DescriptorProto m) scope number place n in opened m o (inside o.definition n) n)
unfolding message_at opened
message_out m scope number place n = ap (λ (f : Placed). f scope number place n) (fold_out-DescriptorProto Placed message_step m)

pub message_closed : (front : ℕ) (old pushed looped new : FlatRows) (m : DescriptorProto) (scope : ScopeRow) (number : ℕ) (place n k : ℕ) (o : FlatMessageRow) (within : ScopeRow) →
    n ≡ front + length old.messages → o ≡ own_message (out-DescriptorProto m) scope number place n → within ≡ inside o.definition n →
    pushed ≡ record old { messages = old.messages ++ o ∷ [] } → k ≡ front + length pushed.messages →
    looped ≡ with_given pushed (all_from (map message_at (out-DescriptorProto m).nested_type.items) within 3 0 k) →
    new ≡ record looped {
      enums = looped.enums ++ enums_from within 4 0 (out-DescriptorProto m).enum_type.items;
      extensions = looped.extensions ++ defined_from field_name within 6 0 (out-DescriptorProto m).extension.items;
    } →
    with_given old (message_at m scope number place n) ≡ new
unfolding opened
message_closed front old pushed looped new m scope number place n k o within n_is o_is within_is pushed_is k_is looped_is new_is =
    let longer : k ≡ n + 1 = omega (arith, ap (λ (r : FlatRows). length r.messages) pushed_is, length-append old.messages (o ∷ [])) in
    let nested = all_from (map message_at (out-DescriptorProto m).nested_type.items) within 3 0 (n + 1) in
    let enums = enums_from within 4 0 (out-DescriptorProto m).enum_type.items in
    let extensions = defined_from field_name within 6 0 (out-DescriptorProto m).extension.items in
    let shown : message_at m scope number place n ≡ opened m o within n =
    message_out m scope number place n
    ∙ (ap (λ (x : FlatMessageRow). opened m x (inside x.definition n) n) (sym o_is)
    ∙ ap (λ (x : ScopeRow). opened m o x n) (sym within_is)) in
    let inner : looped ≡ with_given (record old { messages = old.messages ++ o ∷ [] }) nested =
    looped_is ∙ (ap (λ (x : ℕ). with_given pushed (all_from (map message_at (out-DescriptorProto m).nested_type.items) within 3 0 x)) longer ∙ ap (λ (x : FlatRows). with_given x nested) pushed_is) in
    ap (with_given old) shown
    ∙ (same_rows _ _ (sym (append_assoc old.messages (o ∷ []) nested.messages)) (sym (append_assoc old.enums nested.enums enums)) (sym (append_assoc old.extensions nested.extensions extensions)) refl
    ∙ (ap (λ (x : FlatRows). record x { enums = x.enums ++ enums; extensions = x.extensions ++ extensions }) (sym inner) ∙ sym new_is))

-- FILES

pub file_closed : (old looped new : FlatRows) (f : FileDescriptorProto) (file n : ℕ) (scope : ScopeRow) → scope ≡ file_scope f file →
    looped ≡ with_given old (all_from (map message_at f.message_type.items) scope 4 0 n) →
    new ≡ record looped {
      enums = looped.enums ++ enums_from scope 5 0 f.enum_type.items;
      extensions = looped.extensions ++ defined_from field_name scope 7 0 f.extension.items;
      services = looped.services ++ services_from scope 6 0 f.service.items;
    } →
    behind old (file_at f file n) ≡ new
file_closed old looped new f file n scope scope_is looped_is new_is =
    let given = λ (s : ScopeRow). all_from (map message_at f.message_type.items) s 4 0 n in
    let enums = λ (s : ScopeRow). enums_from s 5 0 f.enum_type.items in
    let extensions = λ (s : ScopeRow). defined_from field_name s 7 0 f.extension.items in
    let services = λ (s : ScopeRow). services_from s 6 0 f.service.items in
    let all = λ (s : ScopeRow) (r : FlatRows). record r { enums = r.enums ++ enums s; extensions = r.extensions ++ extensions s; services = r.services ++ services s } in
    same_rows _ _ refl (sym (append_assoc old.enums (given (file_scope f file)).enums (enums (file_scope f file)))) (sym (append_assoc old.extensions (given (file_scope f file)).extensions (extensions (file_scope f file)))) refl
    ∙ (ap (λ (s : ScopeRow). all s (with_given old (given s))) (sym scope_is) ∙ (ap (all scope) (sym looped_is) ∙ sym new_is))

-- The files stand behind so many others.
pub file_added : (front files : ℕ) (old new : FlatRows) (fs : List FileDescriptorProto) (i : ℕ) (d : FileDescriptorProto) (n m : ℕ) → i < length fs →
    n ≡ front + length old.messages → m ≡ front + length new.messages → behind old (file_at (get_or fs i d) (files + i) n) ≡ new →
    behind new (files_from (drop (i + 1) fs) (files + (i + 1)) m) ≡ behind old (files_from (drop i fs) (files + i) n)
file_added front files old new fs i d n m within n_is m_is added =
    let first = file_at (get_or fs i d) (files + i) n in
    let longer : m ≡ n + length first.messages = omega (arith, ap (λ (r : FlatRows). length r.messages) added, length-append old.messages first.messages) in
    let rest = λ (k : ℕ). files_from (drop (i + 1) fs) (files + (i + 1)) k in
    let place : files + i + 1 ≡ files + (i + 1) = omega arith in
    let next : files_from (drop i fs) (files + i) n ≡ behind first (rest (n + length first.messages)) =
    rw (drop-cons fs i d)
    (ap (λ (k : ℕ). behind first (files_from (drop (suc i) fs) k (n + length first.messages))) place
    ∙ ap (λ (j : ℕ). behind first (files_from (drop j fs) (files + (i + 1)) (n + length first.messages))) (sym (add-one i))) in
    ap (λ (r : FlatRows). behind r (rest m)) (sym added)
    ∙ (ap (λ (k : ℕ). behind (behind old first) (rest k)) longer
    ∙ (behind_behind old first (rest (n + length first.messages))
    ∙ ap (behind old) (sym next)))

pub nothing_behind : (rows : FlatRows) (i n : ℕ) → behind rows (files_from [] i n) ≡ rows
nothing_behind rows i n = same_rows _ _ (append-nil rows.messages) (append-nil rows.enums) (append-nil rows.extensions) (append-nil rows.services)
