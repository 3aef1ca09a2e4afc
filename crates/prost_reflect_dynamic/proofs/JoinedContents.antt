-- Contents that have at some numbers what another content has: records of these numbers make of both the same.
use Rattle.std.specs.Prelude.{◌≡◌, ◌∷◌, ◌++◌}
use Rattle.prost_reflect_dynamic.proofs.Common.{ℕ, zero, suc, Bool, true, false, cond, List, [], map, nat_eq, Option, Some, None, refl, ap, sym, subst, ◌∙◌, arith, append-nil, true≢false, list_all, eqb-true, and_parts, ◌>>=◌, Record, Payload, Field, Schema, known, field_of, is_sibling, numbers_differ, passes, Content, ContentOf, Entries, NoEntries, Slot, value_at, slot_at, changed, insert_number, numbers_in, entries_of, schema_of, type_of, ordered, entries_ordered, value_records, value_payloads, unknown_payloads, MeansInside, JoinsInside, value_joined, value_steps, slot_step, steps_by, empty_inside, joins_nothing, meaning, steps, value_passes, fit_test, alone_test, value_valid, kept, kept_entries, kept_value, kept_inside, WellStored, cleared, Progress, empty_slot, insert_ascending, entries_ascending, slots_same, field_number, OrderedOption, table_ordered, members_apart, apart_members, Known, value_in_order, ByItself, SlotPasses, passes_slots, entries_kept_ordered, IsJoined}
use Rattle.prost_reflect_wire.specs.Content.{Value}
use Rattle.prost_reflect_laws.proofs.Slotwise.{entries_same, slot_changed, kept_slot, slot_kept}
use Rattle.prost_reflect_laws.proofs.StoredPasses.{slots_pass}
use Rattle.prost_reflect_laws.proofs.StoredTyped.{OptionTyped, typed_values, values_typed}
use Rattle.prost_reflect_laws.proofs.StoredSound.{inside_value}
use Rattle.prost_reflect_laws.proofs.Holding.{known_values}

-- A RECORD OF ANOTHER NUMBER

module _ (inner : MeansInside) (further : JoinsInside) (fields : List Field) where
  others_stay : (f : Field) (m : ℕ) (old : Option Value) (ps : List Payload) → nat_eq m f.number ≡ false → cond (is_sibling fields f m) None old ≡ old →
      value_steps inner further fields f old (map (λ p. record { number = m; payload = p }) ps) ≡ old
  others_stay f m old [] apart stays = refl
  others_stay f m old (p ∷ ps) apart stays =
      ap (λ o. value_steps inner further fields f o (map (λ p. record { number = m; payload = p }) ps))
      (ap (λ b. cond b (value_joined inner further f.form f.value_type old p) (cond (is_sibling fields f m) None old)) apart ∙ stays)
      ∙ others_stay f m old ps apart stays

  -- changes nothing, unless it is one of a sibling
  slot_stays : (r : Record) (n : ℕ) (slot : Slot) → nat_eq r.number n ≡ false → ((f : Field) → field_of fields n ≡ Some f → cond (is_sibling fields f r.number) None slot.value ≡ slot.value) →
      (field_of fields n ≡ None → slot.value ≡ None) → slot_step inner further fields r n slot ≡ slot
  slot_stays r n slot apart stays absent = slots_same (slot_step inner further fields r n slot) slot (value (field_of fields n) refl)
      (ap (λ b. slot.unknowns ++ cond b (unknown_payloads fields r) []) apart ∙ append-nil slot.unknowns)
    where
      behind : (f : Field) → nat_eq r.number f.number ≡ false → cond (is_sibling fields f r.number) None slot.value ≡ slot.value → value_steps inner further fields f slot.value (value_records fields r) ≡ slot.value
      behind f a s = go (field_of fields r.number)
        where
          go : (o : Option Field) → value_steps inner further fields f slot.value (elim o [ None ↦ [] | Some g ↦ map (λ p. record { number = r.number; payload = p }) (value_payloads g.form g.value_type r.payload) ]) ≡ slot.value
          go None = refl
          go (Some g) = others_stay f r.number slot.value (value_payloads g.form g.value_type r.payload) a s

      value : (o : Option Field) → field_of fields n ≡ o → (o >>= λ f. value_steps inner further fields f slot.value (value_records fields r)) ≡ slot.value
      value None e = sym (absent e)
      value (Some f) e = behind f (ap (nat_eq r.number) (field_number fields n f e) ∙ apart) (stays f e)

  none_either : (b : Bool) → cond {A = Option Value} b None None ≡ None
  none_either true = refl
  none_either false = refl

  unmoved : (r : Record) (n : ℕ) → nat_eq r.number n ≡ false → slot_step inner further fields r n empty_slot ≡ empty_slot
  unmoved r n apart = slot_stays r n empty_slot apart (λ f e. none_either (is_sibling fields f r.number)) (λ e. refl)

  -- RECORDS

  abbrev slot_steps : List Record → ℕ → Slot → Slot
  slot_steps [] n slot = slot
  slot_steps (r ∷ rs) n slot = slot_steps rs n (slot_step inner further fields r n slot)

  -- records of numbers that pass, of which no sibling fails, leave a number that fails as it is
  slots_stay : (test : ℕ → Bool) (rs : List Record) (n : ℕ) (slot : Slot) → test n ≡ false → list_all (λ r. test r.number) rs ≡ true →
      ((m : ℕ) (f : Field) → field_of fields n ≡ Some f → is_sibling fields f m ≡ true → test n ≡ test m) → (field_of fields n ≡ None → slot.value ≡ None) → slot_steps rs n slot ≡ slot
  slots_stay test [] n slot out all closed absent = refl
  slots_stay test (r ∷ rs) n slot out all closed absent =
      let (one, more) = and_parts (test r.number) (list_all (λ r. test r.number) rs) all in
      ap (slot_steps rs n) (slot_stays r n slot (apart (nat_eq r.number n) refl one) (λ f e. stays f e (is_sibling fields f r.number) refl one) absent) ∙ slots_stay test rs n slot out more closed absent
    where
      apart : (b : Bool) → nat_eq r.number n ≡ b → test r.number ≡ true → b ≡ false
      apart true e one = absurd (true≢false (sym one ∙ ap test (eqb-true r.number n e) ∙ out))
      apart false e one = refl

      stays : (f : Field) → field_of fields n ≡ Some f → (b : Bool) → is_sibling fields f r.number ≡ b → test r.number ≡ true → cond b None slot.value ≡ slot.value
      stays f e true s one = absurd (true≢false (sym one ∙ sym (closed r.number f e s) ∙ out))
      stays f e false s one = refl

module _ (inner : MeansInside) (further : JoinsInside) (schema : Schema) (T : ℕ) where
  abbrev stepped : Entries → Record → Entries
  stepped es r = changed r.number (slot_step inner further (known schema T) r) es

  -- each number by itself
  slots_behind : (es : Entries) (rs : List Record) (n : ℕ) → slot_at (entries_of (steps_by inner further (ContentOf schema T es) rs)) n ≡ slot_steps inner further (known schema T) rs n (slot_at es n)
  slots_behind es [] n = refl
  slots_behind es (r ∷ rs) n =
      slots_behind (stepped es r) rs n
      ∙ ap (slot_steps inner further (known schema T) rs n) (slot_changed r.number n (slot_step inner further (known schema T) r) es (unmoved inner further (known schema T) r))

  same_type : (es : Entries) (rs : List Record) → steps_by inner further (ContentOf schema T es) rs ≡ ContentOf schema T (entries_of (steps_by inner further (ContentOf schema T es) rs))
  same_type es [] = refl
  same_type es (r ∷ rs) = same_type (stepped es r) rs

  abbrev InOrder : Entries → Type 0
  InOrder es = ((n : ℕ) → OrderedOption (value_at n es)) → entries_ordered es ≡ true

  in_order : (es : Entries) (rs : List Record) → InOrder es → InOrder (entries_of (steps_by inner further (ContentOf schema T es) rs))
  in_order es [] o = o
  in_order es (r ∷ rs) o = in_order (stepped es r) rs one
    where
      one : InOrder (stepped es r)
      one v =
          table_ordered (λ m. slot_step inner further (known schema T) r m (slot_at es m)) 0 (insert_number r.number (numbers_in es)) (insert_ascending r.number 0 (numbers_in es) (entries_ascending es) (omega arith))
          (λ m. subst (λ (s : Slot). OrderedOption s.value) (slot_changed r.number m (slot_step inner further (known schema T) r) es (unmoved inner further (known schema T) r)) (v m))

-- WHAT IS JOINED

-- the numbers of one oneof pass or fail together
abbrev pub Closed : List Field → (ℕ → Bool) → Type 0
Closed fields test = (n m : ℕ) (f : Field) → field_of fields n ≡ Some f → is_sibling fields f m ≡ true → test n ≡ test m

abbrev Joins : (ℕ → Bool) → Entries → Entries → Entries → Type 0
Joins test old other new = (n : ℕ) → slot_at new n ≡ cond (test n) (slot_at other n) (slot_at old n)

module _ (schema : Schema) (T : ℕ) (test : ℕ → Bool) where
  abbrev at_type : Entries → Content
  at_type es = ContentOf schema T es

  joined_steps : (inner : MeansInside) (further : JoinsInside) (old part done new : Entries) (rs : List Record) → Closed (known schema T) test → Known (known schema T) old →
      entries_ordered old ≡ true → entries_ordered part ≡ true → entries_ordered done ≡ true → entries_ordered new ≡ true → list_all (λ r. test r.number) rs ≡ true →
      Joins test NoEntries old part → Joins test old done new → kept (at_type done) ≡ steps_by inner further (kept (at_type part)) rs → kept (at_type new) ≡ steps_by inner further (kept (at_type old)) rs
  joined_steps inner further old part done new rs closed values old_order part_order done_order new_order all parts joins means =
      ap (ContentOf schema T) (entries_same (kept_entries fields new) news (entries_kept_ordered fields new new_order) news_order each) ∙ sym (same_type inner further schema T (kept_entries fields old) rs)
    where
      fields : List Field
      fields = known schema T

      news : Entries
      news = entries_of (steps_by inner further (kept (ContentOf schema T old)) rs)

      absent : (n : ℕ) → field_of (known schema T) n ≡ None → value_at n (kept_entries (known schema T) old) ≡ None
      absent n none =
          ap (λ (s : Slot). s.value) (slot_kept (known schema T) n old old_order)
          ∙ ap (λ (o : Option Value). o >>= λ v. kept_value (field_of (known schema T) n) (kept_inside v)) (values n none)

      here : (n : ℕ) (b : Bool) → test n ≡ b → kept_slot (known schema T) n (cond b (slot_at done n) (slot_at old n)) ≡ slot_steps inner further (known schema T) rs n (slot_at (kept_entries (known schema T) old) n)
      here n true e =
          sym (slot_kept (known schema T) n done done_order) ∙ ap (λ c. slot_at (entries_of c) n) means ∙ slots_behind inner further schema T (kept_entries (known schema T) part) rs n
          ∙ ap (slot_steps inner further (known schema T) rs n)
          (slot_kept (known schema T) n part part_order ∙ ap (kept_slot (known schema T) n) (parts n ∙ ap (λ b. cond b (slot_at old n) (slot_at NoEntries n)) e) ∙ sym (slot_kept (known schema T) n old old_order))
      here n false e =
          sym (slot_kept (known schema T) n old old_order)
          ∙ sym (slots_stay inner further (known schema T) test rs n (slot_at (kept_entries (known schema T) old) n) e all (closed n) (absent n))

      each : (n : ℕ) → slot_at (kept_entries (known schema T) new) n ≡ slot_at (entries_of (steps_by inner further (kept (ContentOf schema T old)) rs)) n
      each n =
          slot_kept (known schema T) n new new_order ∙ ap (kept_slot (known schema T) n) (joins n) ∙ here n (test n) refl
          ∙ sym (slots_behind inner further schema T (kept_entries (known schema T) old) rs n)

      news_order : entries_ordered (entries_of (steps_by inner further (kept (ContentOf schema T old)) rs)) ≡ true
      news_order =
          in_order inner further schema T (kept_entries (known schema T) old) rs (λ v. entries_kept_ordered (known schema T) old old_order)
          (λ n. subst (λ (s : Slot). OrderedOption s.value) (each n) (value_in_order n (kept_entries (known schema T) new) (entries_kept_ordered (known schema T) new new_order)))

  joined_at : (levels : ℕ) (old part done new : Entries) (rs : List Record) → Closed (known schema T) test → Known (known schema T) old →
      entries_ordered old ≡ true → entries_ordered part ≡ true → entries_ordered done ≡ true → entries_ordered new ≡ true → list_all (λ r. test r.number) rs ≡ true →
      Joins test NoEntries old part → Joins test old done new → kept (at_type done) ≡ steps levels (kept (at_type part)) rs → kept (at_type new) ≡ steps levels (kept (at_type old)) rs
  unfolding steps
  joined_at zero = joined_steps (empty_inside schema) joins_nothing
  joined_at (suc levels) = joined_steps (meaning schema levels) (steps levels)

  -- what is joined of two that hold, holds
  joined_sound : (old other new : Entries) → numbers_differ (known schema T) ≡ true → Closed (known schema T) test → entries_ordered new ≡ true → Joins test old other new →
      WellStored (at_type old) → WellStored (at_type other) → WellStored (at_type new)
  joined_sound old other new differ closed order joins w v = record {
    fits = slots_pass fit_test fields own by new order (λ n. subst (SlotPasses fit_test fields own n) (sym (joins n)) (fit n (test n)));
    types = values_typed schema fields new order (λ n. subst (λ (s : Slot). OptionTyped schema fields n s.value) (sym (joins n)) (typed n (test n)));
    order = order;
    members = apart_members fields new order (λ n m f x y found sibling a b. apart n m f x y found sibling (test n) refl (value n ∙ a) (value m ∙ b)) (λ n x a. inside n x (test n) (value n ∙ a));
  }
    where
      fields : List Field
      fields = known schema T

      own : ℕ → Value → Bool
      own n x = passes (field_of (known schema T) n) (λ f. value_valid f x)

      by : ByItself fit_test (known schema T) (λ n x. passes (field_of (known schema T) n) (λ f. value_valid f x))
      by = record { same = λ n x es. refl }

      fit : (n : ℕ) (b : Bool) → SlotPasses fit_test (known schema T) (λ n x. passes (field_of (known schema T) n) (λ f. value_valid f x)) n (cond b (slot_at other n) (slot_at old n))
      fit n true = passes_slots fit_test (known schema T) (λ n x. passes (field_of (known schema T) n) (λ f. value_valid f x)) (record { same = λ n x es. refl }) other n v.fits
      fit n false = passes_slots fit_test (known schema T) (λ n x. passes (field_of (known schema T) n) (λ f. value_valid f x)) (record { same = λ n x es. refl }) old n w.fits

      typed : (n : ℕ) (b : Bool) → OptionTyped schema (known schema T) n (cond b (slot_at other n) (slot_at old n)).value
      typed n true = typed_values schema (known schema T) other n v.types
      typed n false = typed_values schema (known schema T) old n w.types

      value : (n : ℕ) → (cond (test n) (slot_at other n) (slot_at old n)).value ≡ value_at n new
      value n = ap (λ (s : Slot). s.value) (sym (joins n))

      inside : (n : ℕ) (x : Value) (b : Bool) → (cond b (slot_at other n) (slot_at old n)).value ≡ Some x → value_passes alone_test x ≡ true
      inside n x true a = inside_value alone_test (known schema T) other n x v.members a
      inside n x false a = inside_value alone_test (known schema T) old n x w.members a

      apart : (n m : ℕ) (f : Field) (x y : Value) → field_of (known schema T) n ≡ Some f → is_sibling (known schema T) f m ≡ true → (b : Bool) → test n ≡ b →
          (cond (test n) (slot_at other n) (slot_at old n)).value ≡ Some x → (cond (test m) (slot_at other m) (slot_at old m)).value ≡ Some y → ⊥
      apart n m f x y found sibling true e a b =
          members_apart (known schema T) other differ v.members n m f x y found sibling (sym (ap (λ c. (cond c (slot_at other n) (slot_at old n)).value) e) ∙ a)
          (sym (ap (λ c. (cond c (slot_at other m) (slot_at old m)).value) (sym (closed n m f found sibling) ∙ e)) ∙ b)
      apart n m f x y found sibling false e a b =
          members_apart (known schema T) old differ w.members n m f x y found sibling (sym (ap (λ c. (cond c (slot_at other n) (slot_at old n)).value) e) ∙ a)
          (sym (ap (λ c. (cond c (slot_at other m) (slot_at old m)).value) (sym (closed n m f found sibling) ∙ e)) ∙ b)

nothing_sound : (schema : Schema) (T : ℕ) → WellStored (ContentOf schema T NoEntries)
nothing_sound schema T = record { fits = refl; types = tt; order = refl; members = refl }

-- CONTENTS

as_typed : (c : Content) (schema : Schema) (T : ℕ) → schema_of c ≡ schema → type_of c ≡ T → c ≡ ContentOf schema T (entries_of c)
as_typed (ContentOf schema U es) typed T e f = λ i. ContentOf (e i) (f i) es

abbrev differ_of : Content → Type 0
differ_of c = numbers_differ (known (schema_of c) (type_of c)) ≡ true

-- of a content that holds, what stands at some numbers does
pub part_sound : (test : ℕ → Bool) (old part : Content) → differ_of old → Closed (known (schema_of old) (type_of old)) test → WellStored old → IsJoined test (cleared old) old part → WellStored part
part_sound test (ContentOf schema T old) part differ closed w joined =
    let is : part ≡ ContentOf schema T (entries_of part) = as_typed part schema T joined.schema joined.type in
    subst WellStored (sym is)
    (joined_sound schema T test NoEntries old (entries_of part) differ closed (ap ordered (sym is) ∙ joined.order refl w.order) joined.slots (nothing_sound schema T) w)

-- Records were read into a part of a content, and the part put back.
record Read (test : ℕ → Bool) (levels : ℕ) (part done : Content) (bytes : List ℕ) : Type 0 where
  progress : Progress levels part done bytes []
  numbers : list_all (λ r. test r.number) progress.read.records ≡ true
  sound : WellStored part

read_typed : (schema : Schema) (T : ℕ) (test : ℕ → Bool) (levels : ℕ) (old part done new : Entries) (bytes : List ℕ) → numbers_differ (known schema T) ≡ true → Closed (known schema T) test →
    WellStored (ContentOf schema T old) → entries_ordered new ≡ true → Joins test NoEntries old part → Joins test old done new → Read test levels (ContentOf schema T part) (ContentOf schema T done) bytes →
    Progress levels (ContentOf schema T old) (ContentOf schema T new) bytes []
read_typed schema T test levels old part done new bytes differ closed w order parts joins r =
    let p = r.progress in
    record {
      read = record {
        records = p.read.records;
        front = p.read.front;
        allowed = p.read.allowed;
        means = joined_at schema T test levels old part done new p.read.records closed (known_values (known schema T) old w.fits) w.order r.sound.order p.holds.sound.order order r.numbers parts joins p.read.means;
      };
      holds = record { schema = refl; type = refl; sound = joined_sound schema T test old done new differ closed order joins w p.holds.sound };
    }

pub joined_read : (test : ℕ → Bool) (levels : ℕ) (old part done new : Content) (bytes : List ℕ) → differ_of old → Closed (known (schema_of old) (type_of old)) test → WellStored old → IsJoined test (cleared old) old part →
    (p : Progress levels part done bytes []) → list_all (λ r. test r.number) p.read.records ≡ true → IsJoined test old done new → Progress levels old new bytes []
joined_read test levels (ContentOf schema T old) part done new bytes differ closed w first p numbers last =
    let is : part ≡ ContentOf schema T (entries_of part) = as_typed part schema T first.schema first.type in
    let read_is : done ≡ ContentOf schema T (entries_of done) = as_typed done schema T (p.holds.schema ∙ first.schema) (p.holds.type ∙ first.type) in
    let new_is : new ≡ ContentOf schema T (entries_of new) = as_typed new schema T last.schema last.type in
    let whole : Read test levels part done bytes = record { progress = p; numbers = numbers; sound = part_sound test (ContentOf schema T old) part differ closed w first } in
    let typed : Read test levels (ContentOf schema T (entries_of part)) (ContentOf schema T (entries_of done)) bytes =
    subst (λ c. Read test levels (ContentOf schema T (entries_of part)) c bytes) read_is (subst (λ c. Read test levels c done bytes) is whole) in
    subst (λ c. Progress levels (ContentOf schema T old) c bytes []) (sym new_is)
    (read_typed schema T test levels old (entries_of part) (entries_of done) (entries_of new) bytes differ closed w (ap ordered (sym new_is) ∙ last.order w.order p.holds.sound.order) first.slots last.slots typed)
