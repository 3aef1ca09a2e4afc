-- The numbers that names lead to, one name after another.
use Rattle.std.proofs.Common.{◌≡◌, ◌≤◌, ℕ, List, [], ◌∷◌, ◌++◌, length, Option, Some, None, option_map, refl, ap, sym, ◌∙◌, subst, arith, append_assoc, length-append}
use Rattle.std.specs.Prelude.{IfSome}
use Rattle.std.proofs.lemmas.Option.{none-some, same_Some}
use Rattle.prost_reflect_wire.specs.Varint.{◌>>=◌}
use Rattle.prost_reflect_tables.specs.Rows.{FieldRow}
use Rattle.prost_reflect_pool.specs.Pools.{pool_rows}
use Rattle.prost_reflect_pool.specs.declared.pool.LinkedPool.{LinkedPool}
use Rattle.prost_reflect_rows.specs.Paths.{PATH_LIMIT}
use Rattle.prost_reflect_dynamic.specs.declared.descriptor.message.MessageDescriptor.{MessageDescriptor}
use Rattle.prototool_commands.specs.Naming.{PathName, AreClear, joined, written, row_named, kind_inside, numbers_named, BeginsWith, AreNumbersOf, IsFoundOf, IsFoundIn}
use Rattle.prototool_commands.specs.declared.redact.path.Found.{Found}
use Rattle.prototool_commands.proofs.NameTexts.{one_first}

and_then_parts : {A B : Type 0} (o : Option A) (k : A → Option B) (b : B) → (o >>= k) ≡ Some b → (a : A) × (o ≡ Some a) × (k a ≡ Some b)
and_then_parts None k b e = absurd (none-some b e)
and_then_parts (Some a) k b e = (a, refl, e)

map_parts : {A B : Type 0} (f : A → B) (o : Option A) (b : B) → option_map f o ≡ Some b → (a : A) × (o ≡ Some a) × (f a ≡ b)
map_parts f None b e = absurd (none-some b e)
map_parts f (Some a) b e = (a, refl, same_Some (f a) b e)

-- THE FIRST STEP

-- the path leads to the numbers, however many
pub record Leads (pool : LinkedPool) (T : ℕ) (path numbers : List ℕ) : Type 0 where
  pub names : List PathName
  pub clear : AreClear names
  pub spelled : path ≡ joined names
  pub found : numbers_named pool names (Some T) ≡ Some numbers

-- the numbers are the field's own and those of the path that stands behind its name, which leads on inside
abbrev pub LeadsBehind : LinkedPool → FieldRow → Option (List ℕ) → List ℕ → Type 0
LeadsBehind pool field None numbers = numbers ≡ field.number ∷ []
LeadsBehind pool field (Some rest) numbers = (U : ℕ) × (more : List ℕ) × (kind_inside (pool_rows pool) field.kind ≡ Some U) × (numbers ≡ field.number ∷ more) × Leads pool U rest more

pub record FirstStep (pool : LinkedPool) (T : ℕ) (path numbers : List ℕ) : Type 0 where
  pub name : PathName
  pub rest : Option (List ℕ)
  pub begins : BeginsWith path name rest
  pub field : FieldRow
  pub named : row_named pool T name ≡ Some field
  pub behind : LeadsBehind pool field rest numbers

module _ (pool : LinkedPool) where
  step_parts : (T : ℕ) (name : PathName) (names : List PathName) (numbers : List ℕ) → numbers_named pool (name ∷ names) (Some T) ≡ Some numbers
      → (field : FieldRow) × (more : List ℕ) × (row_named pool T name ≡ Some field) × (numbers_named pool names (kind_inside (pool_rows pool) field.kind) ≡ Some more) × (field.number ∷ more ≡ numbers)
  step_parts T name names numbers e =
      let one = and_then_parts (row_named pool T name) (λ f. option_map (λ more. f.number ∷ more) (numbers_named pool names (kind_inside (pool_rows pool) f.kind))) numbers e in
      let rest = map_parts (λ more. one.0.number ∷ more) (numbers_named pool names (kind_inside (pool_rows pool) one.0.kind)) numbers one.2 in
      (one.0, rest.0, one.1, rest.1, rest.2)

  leads_inside : (next : PathName) (names : List PathName) → AreClear (next ∷ names) → (field : FieldRow) (more numbers : List ℕ) → field.number ∷ more ≡ numbers → (T : Option ℕ) → kind_inside (pool_rows pool) field.kind ≡ T → numbers_named pool (next ∷ names) T ≡ Some more
      → LeadsBehind pool field (Some (joined (next ∷ names))) numbers
  leads_inside next names clear field more numbers whole None is found = absurd (none-some more found)
  leads_inside next names clear field more numbers whole (Some U) is found = (U, more, is, sym whole, record { names = next ∷ names; clear = clear; spelled = refl; found = found })

  first_of : (T : ℕ) (path numbers : List ℕ) (names : List PathName) → AreClear names → path ≡ joined names → numbers_named pool names (Some T) ≡ Some numbers → FirstStep pool T path numbers
  first_of T path numbers [] clear spelled found = absurd clear
  first_of T path numbers (name ∷ []) clear spelled found =
      let s = step_parts T name [] numbers found in
      record {
        name = name;
        rest = None;
        begins = record { clear = clear; text = spelled };
        field = s.0;
        named = s.2;
        behind = sym s.4 ∙ ap (λ more. s.0.number ∷ more) (sym (same_Some [] s.1 s.3));
      }
  first_of T path numbers (name ∷ next ∷ names) clear spelled found =
      let s = step_parts T name (next ∷ names) numbers found in
      record {
        name = name;
        rest = Some (joined (next ∷ names));
        begins = record { clear = clear.0; text = spelled };
        field = s.0;
        named = s.2;
        behind = leads_inside next names clear.1 s.0 s.1 numbers s.4 (kind_inside (pool_rows pool) s.0.kind) refl s.3;
      }

  first_step : (T : ℕ) (path numbers : List ℕ) → Leads pool T path numbers → FirstStep pool T path numbers
  first_step T path numbers h = first_of T path numbers h.names h.clear h.spelled h.found

  -- the first name is the only one, and its field as well
  only_step : (T : ℕ) (path numbers : List ℕ) (name : PathName) (rest : Option (List ℕ)) (field : FieldRow) → BeginsWith path name rest → row_named pool T name ≡ Some field → Leads pool T path numbers → LeadsBehind pool field rest numbers
  only_step T path numbers name rest field begins named h =
      let s = first_step T path numbers h in
      let same = one_first path s.name name s.rest rest s.begins begins in
      let found : s.field ≡ field = same_Some s.field field (sym s.named ∙ ap (row_named pool T) same.0 ∙ named) in
      subst (λ f. LeadsBehind pool f rest numbers) found (subst (λ r. LeadsBehind pool s.field r numbers) same.1 s.behind)

  last_leads : (T : ℕ) (path : List ℕ) (name : PathName) (field : FieldRow) → BeginsWith path name None → row_named pool T name ≡ Some field → Leads pool T path (field.number ∷ [])
  last_leads T path name field begins named = record { names = name ∷ []; clear = begins.clear; spelled = begins.text; found = ap (λ o. o >>= λ f. Some (f.number ∷ [])) named }

  more_leads : (T U : ℕ) (path rest more : List ℕ) (name : PathName) (field : FieldRow) → BeginsWith path name (Some rest) → row_named pool T name ≡ Some field → kind_inside (pool_rows pool) field.kind ≡ Some U
      → (names : List PathName) → AreClear names → rest ≡ joined names → numbers_named pool names (Some U) ≡ Some more → Leads pool T path (field.number ∷ more)
  more_leads T U path rest more name field begins named leads [] clear spelled found = absurd clear
  more_leads T U path rest more name field begins named leads (next ∷ names) clear spelled found = record {
    names = name ∷ next ∷ names;
    clear = (begins.clear, clear);
    spelled = begins.text ∙ ap (λ text. written name (46 ∷ text)) spelled;
    found = ap (λ o. o >>= λ f. option_map (λ more. f.number ∷ more) (numbers_named pool (next ∷ names) (kind_inside (pool_rows pool) f.kind))) named
        ∙ ap (λ V. option_map (λ more. field.number ∷ more) (numbers_named pool (next ∷ names) V)) leads
        ∙ ap (option_map (λ more. field.number ∷ more)) found;
  }

-- STEP BY STEP

-- the numbers so far lead to the message type and the path that are left, and whatever the whole path leads to goes on from there
pub record IsAlong (pool : LinkedPool) (T : ℕ) (path numbers : List ℕ) (U : ℕ) (left : List ℕ) : Type 0 where
  pub on : (more : List ℕ) → Leads pool U left more → Leads pool T path (numbers ++ more)
  pub back : (all : List ℕ) → Leads pool T path all → (more : List ℕ) × (all ≡ numbers ++ more) × Leads pool U left more

module _ (pool : LinkedPool) (T : ℕ) (path : List ℕ) where
  module _ (numbers : List ℕ) (U : ℕ) (left : List ℕ) (so_far : IsAlong pool T path numbers U left) where
    pub next_name : (name : PathName) (rest : List ℕ) (field : FieldRow) (V : ℕ) → BeginsWith left name (Some rest) → row_named pool U name ≡ Some field → kind_inside (pool_rows pool) field.kind ≡ Some V → IsAlong pool T path (numbers ++ field.number ∷ []) V rest
    next_name name rest field V begins named leads = record {
      on = λ more h. subst (Leads pool T path) (sym (append_assoc numbers (field.number ∷ []) more)) (so_far.on (field.number ∷ more) (more_leads pool U V left rest more name field begins named leads h.names h.clear h.spelled h.found));
      back = λ all h.
          let b = so_far.back all h in
          let s = only_step pool U left b.0 name (Some rest) field begins named b.2 in
          let same : s.0 ≡ V = same_Some s.0 V (sym s.2 ∙ leads) in
          (s.1, b.1 ∙ ap (λ more. numbers ++ more) s.3 ∙ sym (append_assoc numbers (field.number ∷ []) s.1), subst (λ V. Leads pool V rest s.1) same s.4);
    }

    -- where it leads to these numbers
    pub last_name : (name : PathName) (field : FieldRow) → BeginsWith left name None → row_named pool U name ≡ Some field → length (numbers ++ field.number ∷ []) ≤ PATH_LIMIT → AreNumbersOf pool T path (Some (numbers ++ field.number ∷ []))
    last_name name field begins named short all = (
      λ e.
          let is = same_Some (numbers ++ field.number ∷ []) all e in
          let h = subst (Leads pool T path) is (so_far.on (field.number ∷ []) (last_leads pool U left name field begins named)) in
          record { names = h.names; clear = h.clear; spelled = h.spelled; found = h.found; short = subst (λ all. length all ≤ PATH_LIMIT) is short },
      λ p.
          let b = so_far.back all (record { names = p.names; clear = p.clear; spelled = p.spelled; found = p.found }) in
          let is = only_step pool U left b.0 name None field begins named b.2 in
          ap Some (sym (b.1 ∙ ap (λ more. numbers ++ more) is)),
    )

    -- where it leads nowhere
    nowhere : ((more : List ℕ) → ¬ Leads pool U left more) → AreNumbersOf pool T path None
    nowhere none all = (
      λ e. absurd (none-some all e),
      λ p. let b = so_far.back all (record { names = p.names; clear = p.clear; spelled = p.spelled; found = p.found }) in absurd (none b.0 b.2),
    )

    pub no_name : ((name : PathName) (rest : Option (List ℕ)) → ¬ BeginsWith left name rest) → AreNumbersOf pool T path None
    no_name none = nowhere (λ more h. let s = first_step pool U left more h in none s.name s.rest s.begins)

    pub no_field : (name : PathName) (rest : Option (List ℕ)) → BeginsWith left name rest → row_named pool U name ≡ None → AreNumbersOf pool T path None
    no_field name rest begins none = nowhere (λ more h.
        let s = first_step pool U left more h in
        let same = one_first left s.name name s.rest rest s.begins begins in
        none-some s.field (sym none ∙ sym (ap (row_named pool U) same.0) ∙ s.named))

    pub no_inside : (name : PathName) (rest : List ℕ) (field : FieldRow) → BeginsWith left name (Some rest) → row_named pool U name ≡ Some field → kind_inside (pool_rows pool) field.kind ≡ None → AreNumbersOf pool T path None
    no_inside name rest field begins named none = nowhere (λ more h.
        let s = only_step pool U left more name (Some rest) field begins named h in
        none-some s.0 (sym none ∙ s.2))

    -- where too many numbers would come
    pub too_long : length numbers ≡ PATH_LIMIT → AreNumbersOf pool T path None
    too_long long all = (
      λ e. absurd (none-some all e),
      λ p.
          let b = so_far.back all (record { names = p.names; clear = p.clear; spelled = p.spelled; found = p.found }) in
          let s = first_step pool U left b.0 b.2 in
          let some = one_more s.rest s.field b.0 s.behind in
          let whole = ap length b.1 ∙ length-append numbers b.0 in
          let short = p.short in
          absurd (omega (arith, some, whole, short, long)),
    )
      where
        one_more : (rest : Option (List ℕ)) (field : FieldRow) (more : List ℕ) → LeadsBehind pool field rest more → 1 ≤ length more
        one_more None field more h = omega (arith, ap length h)
        one_more (Some rest) field more h = omega (arith, ap length h.3)

-- WHAT IS FOUND

-- of one pool, wherever it is held
pub found_same : (p q : LinkedPool) (U : ℕ) (name : PathName) (found : Option Found) → p ≡ q → IsFoundIn p (row_named p U name) found → IsFoundIn q (row_named q U name) found
found_same p q U name found same h = subst (λ x. IsFoundIn x (row_named x U name) found) same h

module _ (pool : LinkedPool) (T : ℕ) (path numbers : List ℕ) (U : ℕ) (left : List ℕ) (so_far : IsAlong pool T path numbers U left) (name : PathName) (found : Found) (h : IsFoundOf pool (row_named pool U name) found) (items : List ℕ) (pushed : items ≡ numbers ++ found.number ∷ []) where
  whole : numbers ++ h.field.number ∷ [] ≡ items
  whole = ap (λ n. numbers ++ n ∷ []) (sym h.number) ∙ sym pushed

  pub found_last : BeginsWith left name None → length items ≤ PATH_LIMIT → AreNumbersOf pool T path (Some items)
  found_last begins short = subst (λ all. AreNumbersOf pool T path (Some all)) whole (last_name pool T path numbers U left so_far name h.field begins h.is (subst (λ all. length all ≤ PATH_LIMIT) (sym whole) short))

  pub found_outside : (rest : List ℕ) → BeginsWith left name (Some rest) → found.inside ≡ None → AreNumbersOf pool T path None
  found_outside rest begins none =
      let inside = subst (λ o. option_map (λ m. m.index) o ≡ kind_inside (pool_rows pool) h.field.kind) none h.inside.0 in
      no_inside pool T path numbers U left so_far name rest h.field begins h.is (sym inside)

  module _ (inside : MessageDescriptor) (is : found.inside ≡ Some inside) where
    pub found_pool : inside.pool.inner.value ≡ pool
    found_pool = subst (λ o. IfSome o (λ m. m.pool.inner.value ≡ pool)) is h.inside.1

    pub found_more : (rest : List ℕ) → BeginsWith left name (Some rest) → IsAlong pool T path items inside.index rest
    found_more rest begins =
        let there = subst (λ o. option_map (λ m. m.index) o ≡ kind_inside (pool_rows pool) h.field.kind) is h.inside.0 in
        subst (λ all. IsAlong pool T path all inside.index rest) whole (next_name pool T path numbers U left so_far name rest h.field inside.index begins h.is (sym there))
