-- What is found of the payloads of a field is what they mean, for each kind of field.
use Rattle.std.specs.Prelude.{◌≡◌, ◌∷◌, ◌++◌}
use Rattle.prost_reflect_proto.proofs.Common.{ℕ, zero, suc, Bool, true, false, cond, not, ℤ, List, [], map, filter, flat_map, Option, Some, None, option_map, nat_eq, refl, ap, ap₂, sym, ◌∙◌, append_assoc, is_utf8, none-some, same_Some, ◌>>=◌, Plain, Var, Fix64, Len, Fix32, Payload, Flat, Records, items, read, Scalar, Boolean, I32, Text, Bytes, ScalarKind, StringKind, BytesKind, Int32, BoolKind, elem, low_i32, ScalarOf, MessageOf, Singular, Repeated, Content, Value, ScalarValue, MessageValue, ListValue, MapValue, Values, NoValues, Item, values_from, unpacked, or_none, last, records_in, value_payloads, MeansInside, present, scalar_values, element, field_value, present_list, meaning, scalar_of, value_type_of, type_place, record_schema, in_front_of, gathered, value_gathered, values_gathered, Found, FoundText, FoundNumber, FoundFlag, found_in, number_in_plain, in_front, text_in, number_in, flag_in, bytes_in, record_in, last_of, joined_to, nested_decoded, all_decoded, RecordType, FieldKind, bind_ok, map_append, flat_append, below}
use Rattle.prost_reflect_types.specs.declared.table.FieldKind.TheVariants as kinds
use Rattle.prost_reflect_types.proofs.DecodedRecords.{decoded_parts}

-- WHAT IS FOUND OF PAYLOADS

abbrev pub all_in : FieldKind → List Payload → Option (List Found)
all_in kind [] = Some []
all_in kind (p ∷ ps) = found_in kind p >>= λ own. all_in kind ps >>= λ more. Some (own ++ more)

abbrev pub picked : {A : Type 0} → (Found → Option A) → List Found → List A
picked of [] = []
picked of (x ∷ xs) = in_front (of x) (picked of xs)

pub picked_append : {A : Type 0} (of : Found → Option A) (xs ys : List Found) → picked of (xs ++ ys) ≡ picked of xs ++ picked of ys
picked_append of [] ys = refl
picked_append of (x ∷ xs) ys = ap (in_front (of x)) (picked_append of xs ys) ∙ go (of x)
  where
    go : (o : Option _) → in_front o (picked of xs ++ picked of ys) ≡ in_front o (picked of xs) ++ picked of ys
    go None = refl
    go (Some y) = refl

record FirstFound (kind : FieldKind) (p : Payload) (ps : List Payload) (xs : List Found) : Type 0 where
  own : List Found
  more : List Found
  first : found_in kind p ≡ Some own
  others : all_in kind ps ≡ Some more
  whole : xs ≡ own ++ more

first_found : (kind : FieldKind) (p : Payload) (ps : List Payload) (xs : List Found) → all_in kind (p ∷ ps) ≡ Some xs → FirstFound kind p ps xs
first_found kind p ps xs h =
    let (own, f, rest) = bind_ok (λ own. all_in kind ps >>= λ more. Some (own ++ more)) (found_in kind p) xs h in
    let (more, o, whole) = bind_ok (λ more. Some (own ++ more)) (all_in kind ps) xs rest in
    record { own = own; more = more; first = f; others = o; whole = sym (same_Some _ _ whole) }

-- ONE VALUE

record Single (read : Payload → Option Value) (of : Found → Option Value) (p : Payload) (own : List Found) : Type 0 where
  found : Found
  own_is : own ≡ found ∷ []
  value : read p ≡ of found

-- where each payload has one value, the last payload has the last value
last_single : (kind : FieldKind) (read : Payload → Option Value) (of : Found → Option Value) → ((p : Payload) (own : List Found) → found_in kind p ≡ Some own → Single read of p own) →
    (ps : List Payload) (xs : List Found) → all_in kind ps ≡ Some xs → (last ps >>= read) ≡ (last_of None xs >>= of)
last_single kind read of one [] xs h = ap (λ xs. last_of None xs >>= of) (same_Some _ _ h)
last_single kind read of one (p ∷ ps) xs h =
    let f = first_found kind p ps xs h in
    let s = one p f.own f.first in
    behind ps f.more f.others (last_single kind read of one ps f.more f.others) s.found s.value
    ∙ ap (λ xs. last_of None xs >>= of) (sym (f.whole ∙ ap (λ own. own ++ f.more) s.own_is))
  where
    behind : (ps : List Payload) (more : List Found) → all_in kind ps ≡ Some more → (last ps >>= read) ≡ (last_of None more >>= of) → (x : Found) → read p ≡ of x → (last (p ∷ ps) >>= read) ≡ (last_of (Some x) more >>= of)
    behind [] more h others x value = value ∙ ap (λ more. last_of (Some x) more >>= of) (same_Some _ _ h)
    behind (q ∷ qs) more h others x value =
        let f = first_found kind q qs more h in
        let s = one q f.own f.first in
        let is : more ≡ s.found ∷ f.more = f.whole ∙ ap (λ own. own ++ f.more) s.own_is in
        others ∙ ap (λ more. last_of None more >>= of) is ∙ ap (λ more. last_of (Some x) more >>= of) (sym is)

text_single : (p : Payload) (own : List Found) → found_in kinds.Text p ≡ Some own → Single (λ p. elem StringKind p >>= λ v. Some (ScalarValue v)) (λ x. option_map (λ t. ScalarValue (Text t)) (text_in x)) p own
text_single (Flat (Len bytes)) own h = go (is_utf8 bytes) refl h
  where
    go : (b : Bool) → is_utf8 bytes ≡ b → cond b (Some (FoundText bytes ∷ [])) None ≡ Some own → Single (λ p. elem StringKind p >>= λ v. Some (ScalarValue v)) (λ x. option_map (λ t. ScalarValue (Text t)) (text_in x)) (Flat (Len bytes)) own
    go true e h = record { found = FoundText bytes; own_is = sym (same_Some _ _ h); value = ap (λ b. cond b (Some (Text bytes)) None >>= λ v. Some (ScalarValue v)) e }
    go false e h = absurd (none-some _ h)
text_single p own h = absurd (none-some _ h)

number_single : (p : Payload) (own : List Found) → found_in kinds.Number p ≡ Some own → Single (λ p. elem Int32 p >>= λ v. Some (ScalarValue v)) (λ x. option_map (λ z. ScalarValue (I32 z)) (number_in x)) p own
number_single (Flat (Var v)) own h = record { found = FoundNumber (low_i32 v); own_is = sym (same_Some _ _ h); value = refl }
number_single p own h = absurd (none-some _ h)

flag_single : (p : Payload) (own : List Found) → found_in kinds.Flag p ≡ Some own → Single (λ p. elem BoolKind p >>= λ v. Some (ScalarValue v)) (λ x. option_map (λ b. ScalarValue (Boolean b)) (flag_in x)) p own
flag_single (Flat (Var v)) own h = record { found = FoundFlag (not (nat_eq v 0)); own_is = sym (same_Some _ _ h); value = refl }
flag_single p own h = absurd (none-some _ h)

-- LISTS

-- where each payload has the values that were found of it, all have
all_listed : {A : Type 0} (kind : FieldKind) (values : Payload → List Value) (of : Found → Option A) (to : A → Value) → ((p : Payload) (own : List Found) → found_in kind p ≡ Some own → values p ≡ map to (picked of own)) →
    (ps : List Payload) (xs : List Found) → all_in kind ps ≡ Some xs → flat_map values ps ≡ map to (picked of xs)
all_listed kind values of to each [] xs h = ap (λ xs. map to (picked of xs)) (same_Some _ _ h)
all_listed kind values of to each (p ∷ ps) xs h =
    let f = first_found kind p ps xs h in
    ap₂ ◌++◌ (each p f.own f.first) (all_listed kind values of to each ps f.more f.others)
    ∙ sym (map_append to (picked of f.own) (picked of f.more)) ∙ ap (map to) (sym (picked_append of f.own f.more)) ∙ ap (λ xs. map to (picked of xs)) (sym f.whole)

bind_map : {A B C : Type 0} (to : B → C) (of : A → Option B) (o : Option A) → (o >>= λ x. option_map to (of x)) ≡ option_map to (o >>= of)
bind_map to of None = refl
bind_map to of (Some x) = refl

flat_single : (values : Payload → List Payload) → ((p : Payload) → values p ≡ p ∷ []) → (ps : List Payload) → flat_map values ps ≡ ps
flat_single values each [] = refl
flat_single values each (p ∷ ps) = ap₂ ◌++◌ (each p) (flat_single values each ps)

flat_flat : {A : Type 0} (values : Payload → List A) (payloads : Payload → List Payload) (ps : List Payload) → flat_map values (flat_map payloads ps) ≡ flat_map (λ p. flat_map values (payloads p)) ps
flat_flat values payloads [] = refl
flat_flat values payloads (p ∷ ps) = flat_append values (payloads p) (flat_map payloads ps) ∙ ap (λ l. flat_map values (payloads p) ++ l) (flat_flat values payloads ps)

-- SINGULAR FIELDS

-- what a singular scalar with presence means
single_gathered : (inner : MeansInside) (k : ScalarKind) (o : Option Payload) → option_map value_gathered (o >>= λ p. elem k p >>= present (scalar_of k true)) ≡ (o >>= λ p. elem k p >>= λ v. Some (ScalarValue v))
single_gathered inner k None = refl
single_gathered inner k (Some p) = go (elem k p)
  where
    go : (o : Option Scalar) → option_map value_gathered (o >>= present (scalar_of k true)) ≡ (o >>= λ v. Some (ScalarValue v))
    go None = refl
    go (Some v) = refl

single_value : {A : Type 0} (inner : MeansInside) (kind : FieldKind) (k : ScalarKind) (pick : Found → Option A) (to : A → Value) → ((p : Payload) → value_payloads Singular (scalar_of k true) p ≡ p ∷ []) →
    ((p : Payload) (own : List Found) → found_in kind p ≡ Some own → Single (λ p. elem k p >>= λ v. Some (ScalarValue v)) (λ x. option_map to (pick x)) p own) → (ps : List Payload) (xs : List Found) → all_in kind ps ≡ Some xs →
    option_map value_gathered (field_value inner Singular (scalar_of k true) (flat_map (value_payloads Singular (scalar_of k true)) ps)) ≡ option_map to (last_of None xs >>= pick)
single_value inner kind k pick to whole one ps xs h =
    ap (λ ps. option_map value_gathered (field_value inner Singular (scalar_of k true) ps)) (flat_single (value_payloads Singular (scalar_of k true)) whole ps)
    ∙ single_gathered inner k (last ps)
    ∙ last_single kind (λ p. elem k p >>= λ v. Some (ScalarValue v)) (λ x. option_map to (pick x)) one ps xs h
    ∙ bind_map to pick (last_of None xs)

pub text_means : (inner : MeansInside) (ps : List Payload) (xs : List Found) → all_in kinds.Text ps ≡ Some xs →
    option_map value_gathered (field_value inner Singular (scalar_of StringKind true) (flat_map (value_payloads Singular (scalar_of StringKind true)) ps)) ≡ option_map (λ t. ScalarValue (Text t)) (last_of None xs >>= text_in)
text_means inner = single_value inner kinds.Text StringKind text_in (λ t. ScalarValue (Text t)) (λ p. refl) text_single

pub number_means : (inner : MeansInside) (ps : List Payload) (xs : List Found) → all_in kinds.Number ps ≡ Some xs →
    option_map value_gathered (field_value inner Singular (scalar_of Int32 true) (flat_map (value_payloads Singular (scalar_of Int32 true)) ps)) ≡ option_map (λ z. ScalarValue (I32 z)) (last_of None xs >>= number_in)
number_means inner = single_value inner kinds.Number Int32 number_in (λ z. ScalarValue (I32 z)) (λ p. refl) number_single

pub flag_means : (inner : MeansInside) (ps : List Payload) (xs : List Found) → all_in kinds.Flag ps ≡ Some xs →
    option_map value_gathered (field_value inner Singular (scalar_of BoolKind true) (flat_map (value_payloads Singular (scalar_of BoolKind true)) ps)) ≡ option_map (λ b. ScalarValue (Boolean b)) (last_of None xs >>= flag_in)
flag_means inner = single_value inner kinds.Flag BoolKind flag_in (λ b. ScalarValue (Boolean b)) (λ p. refl) flag_single

-- REPEATED FIELDS

present_front : (v : Value) (vs : Values) → present_list (in_front_of v vs) ≡ Some (ListValue (in_front_of v vs))
present_front v vs = go v vs
  where
    scalar : (s : Scalar) (vs : Values) → present_list (in_front_of (ScalarValue s) vs) ≡ Some (ListValue (in_front_of (ScalarValue s) vs))
    scalar (Bytes x) NoValues = refl
    scalar (Bytes x) (Item (ScalarValue (Bytes y)) vs) = refl
    scalar (Bytes x) (Item (ScalarValue s) vs) = refl
    scalar (Bytes x) (Item (MessageValue c) vs) = refl
    scalar (Bytes x) (Item (ListValue ws) vs) = refl
    scalar (Bytes x) (Item (MapValue ps) vs) = refl
    scalar s vs = refl

    go : (v : Value) (vs : Values) → present_list (in_front_of v vs) ≡ Some (ListValue (in_front_of v vs))
    go (ScalarValue s) vs = scalar s vs
    go (MessageValue c) vs = refl
    go (ListValue ws) vs = refl
    go (MapValue ps) vs = refl

list_gathered : (vs : Values) → option_map value_gathered (present_list vs) ≡ present_list (values_gathered vs)
list_gathered NoValues = refl
list_gathered (Item v vs) = sym (present_front (value_gathered v) (values_gathered vs))

list_value : {A : Type 0} (inner : MeansInside) (kind : FieldKind) (pick : Found → Option A) (to : A → Value) →
    ((p : Payload) (own : List Found) → found_in kind p ≡ Some own → flat_map (element inner (value_type_of kind).kind) (value_payloads (Repeated false) (value_type_of kind) p) ≡ map to (picked pick own)) →
    (ps : List Payload) (xs : List Found) → all_in kind ps ≡ Some xs →
    option_map value_gathered (field_value inner (Repeated false) (value_type_of kind) (flat_map (value_payloads (Repeated false) (value_type_of kind)) ps)) ≡ present_list (values_gathered (values_from (map to (picked pick xs))))
list_value inner kind pick to each ps xs h =
    list_gathered (values_from (flat_map (element inner (value_type_of kind).kind) (flat_map (value_payloads (Repeated false) (value_type_of kind)) ps)))
    ∙ ap (λ vs. present_list (values_gathered (values_from vs)))
    (flat_flat (element inner (value_type_of kind).kind) (value_payloads (Repeated false) (value_type_of kind)) ps
    ∙ all_listed kind (λ p. flat_map (element inner (value_type_of kind).kind) (value_payloads (Repeated false) (value_type_of kind) p)) pick to each ps xs h)

-- TEXTS AND NUMBERS

texts_each : (inner : MeansInside) (p : Payload) (own : List Found) → found_in kinds.Texts p ≡ Some own →
    flat_map (element inner (ScalarOf StringKind)) (value_payloads (Repeated false) (value_type_of kinds.Texts) p) ≡ map (λ t. ScalarValue (Text t)) (picked text_in own)
texts_each inner (Flat (Len bytes)) own h = go (is_utf8 bytes) refl h
  where
    go : (b : Bool) → is_utf8 bytes ≡ b → cond b (Some (FoundText bytes ∷ [])) None ≡ Some own →
        flat_map (element inner (ScalarOf StringKind)) (value_payloads (Repeated false) (value_type_of kinds.Texts) (Flat (Len bytes))) ≡ map (λ t. ScalarValue (Text t)) (picked text_in own)
    go true e h = ap (λ b. scalar_values (cond b (Some (Text bytes)) None) ++ []) e ∙ ap (λ own. map (λ t. ScalarValue (Text t)) (picked text_in own)) (same_Some _ _ h)
    go false e h = absurd (none-some _ h)
texts_each inner p own h = absurd (none-some _ h)

plain_number : (inner : MeansInside) (p : Plain) → element inner (ScalarOf Int32) (Flat p) ≡ map (λ z. ScalarValue (I32 z)) (picked number_in (number_in_plain p))
plain_number inner (Var v) = refl
plain_number inner (Fix64 b) = refl
plain_number inner (Len b) = refl
plain_number inner (Fix32 b) = refl

packed_numbers : (inner : MeansInside) (ps : List Plain) → flat_map (element inner (ScalarOf Int32)) (filter (λ q. true) (map Flat ps)) ≡ map (λ z. ScalarValue (I32 z)) (picked number_in (flat_map number_in_plain ps))
packed_numbers inner [] = refl
packed_numbers inner (p ∷ ps) =
    ap₂ ◌++◌ (plain_number inner p) (packed_numbers inner ps)
    ∙ sym (map_append (λ z. ScalarValue (I32 z)) (picked number_in (number_in_plain p)) (picked number_in (flat_map number_in_plain ps)))
    ∙ ap (map (λ z. ScalarValue (I32 z))) (sym (picked_append number_in (number_in_plain p) (flat_map number_in_plain ps)))

numbers_each : (inner : MeansInside) (p : Payload) (own : List Found) → found_in kinds.Numbers p ≡ Some own →
    flat_map (element inner (ScalarOf Int32)) (value_payloads (Repeated false) (value_type_of kinds.Numbers) p) ≡ map (λ z. ScalarValue (I32 z)) (picked number_in own)
numbers_each inner (Flat (Var v)) own h = ap (λ own. map (λ z. ScalarValue (I32 z)) (picked number_in own)) (same_Some _ _ h)
numbers_each inner (Flat (Len bytes)) own h =
    let (ps, found, whole) = bind_ok (λ ps. Some (flat_map number_in_plain ps)) (unpacked Int32 bytes) own h in
    ap (λ (o : Option (List Plain)). flat_map (element inner (ScalarOf Int32)) (filter (λ q. true) (map Flat (or_none o)))) found
    ∙ packed_numbers inner ps
    ∙ ap (λ own. map (λ z. ScalarValue (I32 z)) (picked number_in own)) (same_Some _ _ whole)
numbers_each inner p own h = absurd (none-some _ h)

texts_kept : (ts : List (List ℕ)) → values_gathered (values_from (map (λ t. ScalarValue (Text t)) ts)) ≡ values_from (map (λ t. ScalarValue (Text t)) ts)
texts_kept [] = refl
texts_kept (t ∷ ts) = ap (λ vs. Item (ScalarValue (Text t)) vs) (texts_kept ts)

numbers_kept : (zs : List ℤ) → values_gathered (values_from (map (λ z. ScalarValue (I32 z)) zs)) ≡ values_from (map (λ z. ScalarValue (I32 z)) zs)
numbers_kept [] = refl
numbers_kept (z ∷ zs) = ap (λ vs. Item (ScalarValue (I32 z)) vs) (numbers_kept zs)

pub texts_mean : (inner : MeansInside) (ps : List Payload) (xs : List Found) → all_in kinds.Texts ps ≡ Some xs →
    option_map value_gathered (field_value inner (Repeated false) (value_type_of kinds.Texts) (flat_map (value_payloads (Repeated false) (value_type_of kinds.Texts)) ps)) ≡ present_list (values_from (map (λ t. ScalarValue (Text t)) (picked text_in xs)))
texts_mean inner ps xs h = list_value inner kinds.Texts text_in (λ t. ScalarValue (Text t)) (texts_each inner) ps xs h ∙ ap present_list (texts_kept (picked text_in xs))

pub numbers_mean : (inner : MeansInside) (ps : List Payload) (xs : List Found) → all_in kinds.Numbers ps ≡ Some xs →
    option_map value_gathered (field_value inner (Repeated false) (value_type_of kinds.Numbers) (flat_map (value_payloads (Repeated false) (value_type_of kinds.Numbers)) ps)) ≡ present_list (values_from (map (λ z. ScalarValue (I32 z)) (picked number_in xs)))
numbers_mean inner ps xs h = list_value inner kinds.Numbers number_in (λ z. ScalarValue (I32 z)) (numbers_each inner) ps xs h ∙ ap present_list (numbers_kept (picked number_in xs))

-- RAW BYTES

bytes_each : (inner : MeansInside) (p : Payload) (own : List Found) → found_in kinds.Bytes p ≡ Some own →
    flat_map (element inner (ScalarOf BytesKind)) (value_payloads (Repeated false) (value_type_of kinds.Bytes) p) ≡ map (λ b. ScalarValue (Bytes b)) (picked bytes_in own)
bytes_each inner (Flat (Len bytes)) own h = ap (λ own. map (λ b. ScalarValue (Bytes b)) (picked bytes_in own)) (same_Some _ _ h)
bytes_each inner p own h = absurd (none-some _ h)

joined_front : (y x : List ℕ) (bs : List (List ℕ)) → joined_to (Some (y ++ x)) bs ≡ option_map (λ z. y ++ z) (joined_to (Some x) bs)
joined_front y x [] = refl
joined_front y x (b ∷ bs) = ap (λ z. joined_to (Some z) bs) (append_assoc y x b) ∙ joined_front y (x ++ b) bs

-- pieces are joined
record Joins (x : List ℕ) (bs : List (List ℕ)) : Type 0 where
  all : List ℕ
  gather : values_gathered (values_from (map (λ b. ScalarValue (Bytes b)) (x ∷ bs))) ≡ Item (ScalarValue (Bytes all)) NoValues
  join : joined_to (Some x) bs ≡ Some all

pieces_join : (x : List ℕ) (bs : List (List ℕ)) → Joins x bs
pieces_join x [] = record { all = x; gather = refl; join = refl }
pieces_join x (b ∷ bs) = let more = pieces_join b bs in
    record {
      all = x ++ more.all;
      gather = ap (in_front_of (ScalarValue (Bytes x))) more.gather;
      join = joined_front x b bs ∙ ap (option_map (λ z. x ++ z)) more.join;
    }

bytes_joined : (bs : List (List ℕ)) → present_list (values_gathered (values_from (map (λ b. ScalarValue (Bytes b)) bs))) ≡ option_map (λ x. ListValue (Item (ScalarValue (Bytes x)) NoValues)) (joined_to None bs)
bytes_joined [] = refl
bytes_joined (x ∷ bs) = let j = pieces_join x bs in ap present_list j.gather ∙ sym (ap (option_map (λ x. ListValue (Item (ScalarValue (Bytes x)) NoValues))) j.join)

pub bytes_mean : (inner : MeansInside) (ps : List Payload) (xs : List Found) → all_in kinds.Bytes ps ≡ Some xs →
    option_map value_gathered (field_value inner (Repeated false) (value_type_of kinds.Bytes) (flat_map (value_payloads (Repeated false) (value_type_of kinds.Bytes)) ps)) ≡ option_map (λ x. ListValue (Item (ScalarValue (Bytes x)) NoValues)) (joined_to None (picked bytes_in xs))
bytes_mean inner ps xs h = list_value inner kinds.Bytes bytes_in (λ b. ScalarValue (Bytes b)) (bytes_each inner) ps xs h ∙ bytes_joined (picked bytes_in xs)

-- NESTED RECORDS

-- what the bytes of a record mean one level down, before they are gathered
abbrev pub means_inside : MeansInside → RecordType → List ℕ → Value
means_inside inner t bytes = MessageValue (inner (type_place t) (records_in (Flat (Len bytes))))

records_each : (inner : MeansInside) (t : RecordType) (p : Payload) (own : List Found) → found_in (kinds.Records t) p ≡ Some own →
    flat_map (element inner (MessageOf (type_place t))) (value_payloads (Repeated false) (value_type_of (kinds.Records t)) p) ≡ map (means_inside inner t) (picked record_in own)
records_each inner t (Flat (Len bytes)) own h = ap (λ own. map (means_inside inner t) (picked record_in own)) (same_Some _ _ h)
records_each inner t p own h = absurd (none-some _ h)

nested_means : (levels : ℕ) (t : RecordType) (bytes : List ℕ) (c : Content) → nested_decoded levels t bytes ≡ Some c → value_gathered (means_inside (below record_schema levels) t bytes) ≡ MessageValue c
unfolding below
nested_means zero t bytes c h = absurd (none-some _ h)
nested_means (suc k) t bytes c h =
    let d = decoded_parts k t bytes c h in
    ap (λ (o : Option Records). MessageValue (gathered (meaning record_schema k (type_place t) (or_none (o >>= λ rs. Some (items rs)))))) d.read ∙ ap MessageValue d.means

all_nested : (levels : ℕ) (t : RecordType) (bodies : List (List ℕ)) (cs : List Content) → all_decoded levels t bodies ≡ Some cs → values_gathered (values_from (map (means_inside (below record_schema levels) t) bodies)) ≡ values_from (map MessageValue cs)
all_nested levels t [] cs h = ap (λ cs. values_from (map MessageValue cs)) (same_Some _ _ h)
all_nested levels t (b ∷ bodies) cs h =
    let (c, one, rest) = bind_ok (λ c. all_decoded levels t bodies >>= λ cs. Some (c ∷ cs)) (nested_decoded levels t b) cs h in
    let (ds, more, whole) = bind_ok (λ cs. Some (c ∷ cs)) (all_decoded levels t bodies) cs rest in
    ap₂ in_front_of (nested_means levels t b c one) (all_nested levels t bodies ds more) ∙ ap (λ cs. values_from (map MessageValue cs)) (same_Some _ _ whole)

pub records_mean : (levels : ℕ) (t : RecordType) (ps : List Payload) (xs : List Found) (cs : List Content) → all_in (kinds.Records t) ps ≡ Some xs → all_decoded levels t (picked record_in xs) ≡ Some cs →
    option_map value_gathered (field_value (below record_schema levels) (Repeated false) (value_type_of (kinds.Records t)) (flat_map (value_payloads (Repeated false) (value_type_of (kinds.Records t))) ps)) ≡ present_list (values_from (map MessageValue cs))
records_mean levels t ps xs cs h d =
    list_value (below record_schema levels) (kinds.Records t) record_in (means_inside (below record_schema levels) t) (records_each (below record_schema levels) t) ps xs h ∙ ap present_list (all_nested levels t (picked record_in xs) cs d)
