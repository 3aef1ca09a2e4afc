-- Equality of contents, as a test that decides it.
use Rattle.std.specs.Prelude.{◌≡◌, ℕ, Bool, true, false, ◌&&◌, List, Option, nat_eq, refl}
use Rattle.std.specs.Bool.{Decides}
use Rattle.std.specs.Option.{option_eq}
use Rattle.std.proofs.Common.{sym, ap, ap₂, ◌∙◌, true≢false}
use Rattle.std.specs.Cmp.{IsPartialEquivalence, partial_equiv_from_equiv, on_per, signed_Decides, booleans_Decides, unsigned_Decides}
use Rattle.std.specs.Cmp.Lexicographic.{pointwise}
use Rattle.std.specs.Ordering.{int_eq}
use Rattle.std.proofs.Math.Bool.{beq}
use Rattle.std.proofs.lemmas.Bool.{and_parts, and_from}
use Rattle.prost_reflect_wire.specs.Scalar.{Scalar, scalar_eq, EnumNumbers, Open, Closed, ScalarKind, Double, Float, Int64, Uint64, Int32, Fixed64, Fixed32, BoolKind, StringKind, BytesKind, Uint32, Sfixed32, Sfixed64, Sint32, Sint64, Enum}
use Rattle.prost_reflect_wire.specs.Schema.{Kind, ScalarOf, MessageOf, GroupOf, ValueType, FieldForm, Singular, Repeated, MapFrom, Field, MessageType, Schema}
use Rattle.prost_reflect_wire.specs.Content.{Content, ContentOf, Entries, NoEntries, Stored, Unknown, Value, ScalarValue, MessageValue, ListValue, MapValue, Values, NoValues, Item, Pairs, NoPairs, Pair}
use Rattle.prost_reflect_wire.specs.Deciding.{decided, equivalence, list_decides, option_decides, scalar_decides}
use Rattle.prost_reflect_wire.specs.Equality.{payload_eq, payload_same, payload_refl}

-- TESTS

abbrev pub numbers_test : EnumNumbers → EnumNumbers → Bool
numbers_test Open Open = true
numbers_test (Closed x) (Closed y) = pointwise int_eq x y
numbers_test v w = false

abbrev pub scalar_kind_test : ScalarKind → ScalarKind → Bool
scalar_kind_test Double Double = true
scalar_kind_test Float Float = true
scalar_kind_test Int64 Int64 = true
scalar_kind_test Uint64 Uint64 = true
scalar_kind_test Int32 Int32 = true
scalar_kind_test Fixed64 Fixed64 = true
scalar_kind_test Fixed32 Fixed32 = true
scalar_kind_test BoolKind BoolKind = true
scalar_kind_test StringKind StringKind = true
scalar_kind_test BytesKind BytesKind = true
scalar_kind_test Uint32 Uint32 = true
scalar_kind_test Sfixed32 Sfixed32 = true
scalar_kind_test Sfixed64 Sfixed64 = true
scalar_kind_test Sint32 Sint32 = true
scalar_kind_test Sint64 Sint64 = true
scalar_kind_test (Enum f x) (Enum g y) = int_eq f g && numbers_test x y
scalar_kind_test k l = false

abbrev pub kind_test : Kind → Kind → Bool
kind_test (ScalarOf k) (ScalarOf l) = scalar_kind_test k l
kind_test (MessageOf T) (MessageOf U) = nat_eq T U
kind_test (GroupOf T) (GroupOf U) = nat_eq T U
kind_test k l = false

abbrev pub value_type_test : ValueType → ValueType → Bool
value_type_test t u = kind_test t.kind u.kind && (beq t.presence u.presence && (beq t.required u.required && scalar_eq t.default u.default))

abbrev pub form_test : FieldForm → FieldForm → Bool
form_test Singular Singular = true
form_test (Repeated p) (Repeated q) = beq p q
form_test (MapFrom t) (MapFrom u) = value_type_test t u
form_test c d = false

abbrev pub field_test : Field → Field → Bool
field_test f g = nat_eq f.number g.number
    && (beq f.is_extension g.is_extension
    && (form_test f.form g.form && (value_type_test f.value_type g.value_type && option_eq nat_eq f.oneof g.oneof)))

abbrev pub message_type_test : MessageType → MessageType → Bool
message_type_test m n = beq m.is_entry n.is_entry && pointwise field_test m.known n.known

abbrev pub schema_test : Schema → Schema → Bool
schema_test s r = pointwise message_type_test s r

abbrev mutual
  pub content_eq : Content → Content → Bool
  content_eq (ContentOf s T es) (ContentOf r U ds) = schema_test s r && (nat_eq T U && entries_eq es ds)

  pub entries_eq : Entries → Entries → Bool
  entries_eq NoEntries NoEntries = true
  entries_eq (Stored n v es) (Stored m w ds) = nat_eq n m && (value_eq v w && entries_eq es ds)
  entries_eq (Unknown n p es) (Unknown m q ds) = nat_eq n m && (payload_eq p q && entries_eq es ds)
  entries_eq es ds = false

  pub value_eq : Value → Value → Bool
  value_eq (ScalarValue v) (ScalarValue w) = scalar_eq v w
  value_eq (MessageValue c) (MessageValue d) = content_eq c d
  value_eq (ListValue vs) (ListValue ws) = values_eq vs ws
  value_eq (MapValue ps) (MapValue qs) = pairs_eq ps qs
  value_eq v w = false

  pub values_eq : Values → Values → Bool
  values_eq NoValues NoValues = true
  values_eq (Item v vs) (Item w ws) = value_eq v w && values_eq vs ws
  values_eq vs ws = false

  pub pairs_eq : Pairs → Pairs → Bool
  pairs_eq NoPairs NoPairs = true
  pairs_eq (Pair k v ps) (Pair l w qs) = scalar_eq k l && (value_eq v w && pairs_eq ps qs)
  pairs_eq ps qs = false

-- THEY DECIDE EQUALITY

enum_numbers_same : (x y : EnumNumbers) → numbers_test x y ≡ true → x ≡ y
enum_numbers_same Open Open h = refl
enum_numbers_same (Closed x) (Closed y) h = ap Closed ((list_decides signed_Decides x y).0 h)
enum_numbers_same x y h = absurd (true≢false (sym h))

enum_numbers_refl : (x : EnumNumbers) → numbers_test x x ≡ true
enum_numbers_refl Open = refl
enum_numbers_refl (Closed x) = (list_decides signed_Decides x x).1 refl

scalar_kind_same : (k l : ScalarKind) → scalar_kind_test k l ≡ true → k ≡ l
scalar_kind_same Double Double h = refl
scalar_kind_same Float Float h = refl
scalar_kind_same Int64 Int64 h = refl
scalar_kind_same Uint64 Uint64 h = refl
scalar_kind_same Int32 Int32 h = refl
scalar_kind_same Fixed64 Fixed64 h = refl
scalar_kind_same Fixed32 Fixed32 h = refl
scalar_kind_same BoolKind BoolKind h = refl
scalar_kind_same StringKind StringKind h = refl
scalar_kind_same BytesKind BytesKind h = refl
scalar_kind_same Uint32 Uint32 h = refl
scalar_kind_same Sfixed32 Sfixed32 h = refl
scalar_kind_same Sfixed64 Sfixed64 h = refl
scalar_kind_same Sint32 Sint32 h = refl
scalar_kind_same Sint64 Sint64 h = refl
scalar_kind_same (Enum f x) (Enum g y) h = let (a, b) = and_parts (int_eq f g) (numbers_test x y) h in ap₂ Enum ((signed_Decides f g).0 a) (enum_numbers_same x y b)
scalar_kind_same k l h = absurd (true≢false (sym h))

scalar_kind_refl : (k : ScalarKind) → scalar_kind_test k k ≡ true
scalar_kind_refl Double = refl
scalar_kind_refl Float = refl
scalar_kind_refl Int64 = refl
scalar_kind_refl Uint64 = refl
scalar_kind_refl Int32 = refl
scalar_kind_refl Fixed64 = refl
scalar_kind_refl Fixed32 = refl
scalar_kind_refl BoolKind = refl
scalar_kind_refl StringKind = refl
scalar_kind_refl BytesKind = refl
scalar_kind_refl Uint32 = refl
scalar_kind_refl Sfixed32 = refl
scalar_kind_refl Sfixed64 = refl
scalar_kind_refl Sint32 = refl
scalar_kind_refl Sint64 = refl
scalar_kind_refl (Enum f x) = and_from _ _ ((signed_Decides f f).1 refl) (enum_numbers_refl x)

kind_same : (k l : Kind) → kind_test k l ≡ true → k ≡ l
kind_same (ScalarOf k) (ScalarOf l) h = ap ScalarOf (scalar_kind_same k l h)
kind_same (MessageOf T) (MessageOf U) h = ap MessageOf ((unsigned_Decides T U).0 h)
kind_same (GroupOf T) (GroupOf U) h = ap GroupOf ((unsigned_Decides T U).0 h)
kind_same k l h = absurd (true≢false (sym h))

kind_refl : (k : Kind) → kind_test k k ≡ true
kind_refl (ScalarOf k) = scalar_kind_refl k
kind_refl (MessageOf T) = (unsigned_Decides T T).1 refl
kind_refl (GroupOf T) = (unsigned_Decides T T).1 refl

value_type_of : Kind → Bool → Bool → Scalar → ValueType
value_type_of k p r d = record { kind = k; presence = p; required = r; default = d }

value_type_same : (t u : ValueType) → value_type_test t u ≡ true → t ≡ u
unfolding value_type_of
value_type_same t u h =
    let (a, more) = and_parts (kind_test t.kind u.kind) _ h in
    let (b, rest) = and_parts (beq t.presence u.presence) _ more in
    let (c, d) = and_parts (beq t.required u.required) _ rest in
    ap (λ k. value_type_of k t.presence t.required t.default) (kind_same t.kind u.kind a) ∙ ap (λ p. value_type_of u.kind p t.required t.default) ((booleans_Decides t.presence u.presence).0 b)
    ∙ ap (λ r. value_type_of u.kind u.presence r t.default) ((booleans_Decides t.required u.required).0 c) ∙ ap (value_type_of u.kind u.presence u.required) ((scalar_decides t.default u.default).0 d)

value_type_refl : (t : ValueType) → value_type_test t t ≡ true
value_type_refl t = and_from _ _ (kind_refl t.kind) (and_from _ _ ((booleans_Decides t.presence t.presence).1 refl) (and_from _ _ ((booleans_Decides t.required t.required).1 refl) ((scalar_decides t.default t.default).1 refl)))

form_same : (c d : FieldForm) → form_test c d ≡ true → c ≡ d
form_same Singular Singular h = refl
form_same (Repeated p) (Repeated q) h = ap Repeated ((booleans_Decides p q).0 h)
form_same (MapFrom t) (MapFrom u) h = ap MapFrom (value_type_same t u h)
form_same c d h = absurd (true≢false (sym h))

form_refl : (c : FieldForm) → form_test c c ≡ true
form_refl Singular = refl
form_refl (Repeated p) = (booleans_Decides p p).1 refl
form_refl (MapFrom t) = value_type_refl t

field_of_parts : ℕ → Bool → FieldForm → ValueType → Option ℕ → Field
field_of_parts n x c t o = record { number = n; is_extension = x; form = c; value_type = t; oneof = o }

field_same : (f g : Field) → field_test f g ≡ true → f ≡ g
unfolding field_of_parts
field_same f g h =
    let (a, h1) = and_parts (nat_eq f.number g.number) _ h in
    let (b, h2) = and_parts (beq f.is_extension g.is_extension) _ h1 in
    let (c, h3) = and_parts (form_test f.form g.form) _ h2 in
    let (d, e) = and_parts (value_type_test f.value_type g.value_type) _ h3 in
    ap (λ n. field_of_parts n f.is_extension f.form f.value_type f.oneof) ((unsigned_Decides f.number g.number).0 a) ∙ ap (λ x. field_of_parts g.number x f.form f.value_type f.oneof) ((booleans_Decides f.is_extension g.is_extension).0 b)
    ∙ ap (λ c. field_of_parts g.number g.is_extension c f.value_type f.oneof) (form_same f.form g.form c) ∙ ap (λ t. field_of_parts g.number g.is_extension g.form t f.oneof) (value_type_same f.value_type g.value_type d)
    ∙ ap (field_of_parts g.number g.is_extension g.form g.value_type) ((option_decides unsigned_Decides f.oneof g.oneof).0 e)

field_refl : (f : Field) → field_test f f ≡ true
field_refl f = and_from _ _ ((unsigned_Decides f.number f.number).1 refl) (and_from _ _ ((booleans_Decides f.is_extension f.is_extension).1 refl) (and_from _ _ (form_refl f.form) (and_from _ _ (value_type_refl f.value_type) ((option_decides unsigned_Decides f.oneof f.oneof).1 refl))))

message_type_of : Bool → List Field → MessageType
message_type_of e fs = record { is_entry = e; known = fs }

message_type_same : (m n : MessageType) → message_type_test m n ≡ true → m ≡ n
unfolding message_type_of
message_type_same m n h =
    let (a, b) = and_parts (beq m.is_entry n.is_entry) _ h in
    ap (λ e. message_type_of e m.known) ((booleans_Decides m.is_entry n.is_entry).0 a) ∙ ap (message_type_of n.is_entry) ((list_decides (decided field_test field_same field_refl) m.known n.known).0 b)

message_type_refl : (m : MessageType) → message_type_test m m ≡ true
message_type_refl m = and_from _ _ ((booleans_Decides m.is_entry m.is_entry).1 refl) ((list_decides (decided field_test field_same field_refl) m.known m.known).1 refl)

schema_same : (s r : Schema) → schema_test s r ≡ true → s ≡ r
schema_same s r h = (list_decides (decided message_type_test message_type_same message_type_refl) s r).0 h

schema_refl : (s : Schema) → schema_test s s ≡ true
schema_refl s = (list_decides (decided message_type_test message_type_same message_type_refl) s s).1 refl

mutual
  pub content_same : (c d : Content) → content_eq c d ≡ true → c ≡ d
  content_same (ContentOf s T es) (ContentOf r U ds) h =
      let (a, more) = and_parts (schema_test s r) (nat_eq T U && entries_eq es ds) h in
      let (b, e) = and_parts (nat_eq T U) (entries_eq es ds) more in
      ap (λ s. ContentOf s T es) (schema_same s r a) ∙ ap (λ T. ContentOf r T es) ((unsigned_Decides T U).0 b) ∙ ap (ContentOf r U) (entries_same es ds e)

  entries_same : (es ds : Entries) → entries_eq es ds ≡ true → es ≡ ds
  entries_same NoEntries NoEntries h = refl
  entries_same (Stored n v es) (Stored m w ds) h =
      let (a, more) = and_parts (nat_eq n m) (value_eq v w && entries_eq es ds) h in
      let (b, c) = and_parts (value_eq v w) (entries_eq es ds) more in
      ap (λ n. Stored n v es) ((unsigned_Decides n m).0 a) ∙ ap (λ v. Stored m v es) (value_same v w b) ∙ ap (Stored m w) (entries_same es ds c)
  entries_same (Unknown n p es) (Unknown m q ds) h =
      let (a, more) = and_parts (nat_eq n m) (payload_eq p q && entries_eq es ds) h in
      let (b, c) = and_parts (payload_eq p q) (entries_eq es ds) more in
      ap (λ n. Unknown n p es) ((unsigned_Decides n m).0 a) ∙ ap (λ p. Unknown m p es) (payload_same p q b) ∙ ap (Unknown m q) (entries_same es ds c)
  entries_same es ds h = absurd (true≢false (sym h))

  value_same : (v w : Value) → value_eq v w ≡ true → v ≡ w
  value_same (ScalarValue v) (ScalarValue w) h = ap ScalarValue ((scalar_decides v w).0 h)
  value_same (MessageValue c) (MessageValue d) h = ap MessageValue (content_same c d h)
  value_same (ListValue vs) (ListValue ws) h = ap ListValue (values_same vs ws h)
  value_same (MapValue ps) (MapValue qs) h = ap MapValue (pairs_same ps qs h)
  value_same v w h = absurd (true≢false (sym h))

  values_same : (vs ws : Values) → values_eq vs ws ≡ true → vs ≡ ws
  values_same NoValues NoValues h = refl
  values_same (Item v vs) (Item w ws) h =
      let (a, b) = and_parts (value_eq v w) (values_eq vs ws) h in
      ap (λ v. Item v vs) (value_same v w a) ∙ ap (Item w) (values_same vs ws b)
  values_same vs ws h = absurd (true≢false (sym h))

  pairs_same : (ps qs : Pairs) → pairs_eq ps qs ≡ true → ps ≡ qs
  pairs_same NoPairs NoPairs h = refl
  pairs_same (Pair k v ps) (Pair l w qs) h =
      let (a, more) = and_parts (scalar_eq k l) (value_eq v w && pairs_eq ps qs) h in
      let (b, c) = and_parts (value_eq v w) (pairs_eq ps qs) more in
      ap (λ k. Pair k v ps) ((scalar_decides k l).0 a) ∙ ap (λ v. Pair l v ps) (value_same v w b) ∙ ap (Pair l w) (pairs_same ps qs c)
  pairs_same ps qs h = absurd (true≢false (sym h))

mutual
  pub content_refl : (c : Content) → content_eq c c ≡ true
  content_refl (ContentOf s T es) = and_from _ _ (schema_refl s) (and_from _ _ ((unsigned_Decides T T).1 refl) (entries_refl es))

  entries_refl : (es : Entries) → entries_eq es es ≡ true
  entries_refl NoEntries = refl
  entries_refl (Stored n v es) = and_from _ _ ((unsigned_Decides n n).1 refl) (and_from _ _ (value_refl v) (entries_refl es))
  entries_refl (Unknown n p es) = and_from _ _ ((unsigned_Decides n n).1 refl) (and_from _ _ (payload_refl p) (entries_refl es))

  value_refl : (v : Value) → value_eq v v ≡ true
  value_refl (ScalarValue v) = (scalar_decides v v).1 refl
  value_refl (MessageValue c) = content_refl c
  value_refl (ListValue vs) = values_refl vs
  value_refl (MapValue ps) = pairs_refl ps

  values_refl : (vs : Values) → values_eq vs vs ≡ true
  values_refl NoValues = refl
  values_refl (Item v vs) = and_from _ _ (value_refl v) (values_refl vs)

  pairs_refl : (ps : Pairs) → pairs_eq ps ps ≡ true
  pairs_refl NoPairs = refl
  pairs_refl (Pair k v ps) = and_from _ _ ((scalar_decides k k).1 refl) (and_from _ _ (value_refl v) (pairs_refl ps))

-- LAWS

pub content_decides : (c d : Content) → Decides (content_eq c d) (c ≡ d)
content_decides = decided content_eq content_same content_refl

-- Of what is seen as a content.
pub seen_eq_laws : {K : Type 0} (view : K → Content) → IsPartialEquivalence (λ x y. content_eq (view x) (view y))
seen_eq_laws view = on_per view (partial_equiv_from_equiv (equivalence content_eq content_decides))
