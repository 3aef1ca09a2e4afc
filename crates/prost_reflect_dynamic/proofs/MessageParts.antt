-- Parts of messages, copied and put back.
use Rattle.std.specs.Prelude.{◌≡◌, ◌∷◌}
use Rattle.prost_reflect_dynamic.proofs.Common.{ℕ, Bool, true, false, cond, List, [], refl, ap, ap₂, sym, subst, ◌∙◌, unwrap_or, option_map, match_ordering, nat_cmp, Ordering, Less, Equal, Greater, BTreeSet, Field, known, is_sibling, passes, numbers_differ, Content, ContentOf, Slot, schema_of, type_of, slot_at, entries_of, ordered, entries_ordered, LEVEL_LIMIT, WellStored, StandsInMessage, DecodeError, cleared, Progress, OrderedOption, table_ordered, value_in_order, PooledType, SameMessage, schema_at, type_at, FieldSlot, IsAscending, put_item, known_of, are_siblings, stored_at, records_at, Sound, has, HasWholeOneofs, is_chosen, put_chosen, AreReplaced, siblings_back, DynamicMessage, Value, roll-DynamicMessage, value_of, content_of, message_type_of, entries_from, payloads_of, SameSlot, HasNumbersOf, IsJoined}
use Rattle.prost_reflect_laws.proofs.Readings.{whole_spelled}
use Rattle.prost_reflect_fields.proofs.Siblings.{known_differ}
use Rattle.prost_reflect_fields.proofs.Replaced.{values_replaced, records_replaced, part_replaced, sound_part}
use Rattle.prost_reflect_dynamic.proofs.Views.{shown, content_of_message, content_of_roll}
use Rattle.prost_reflect_dynamic.proofs.Slots.{from_keys}
use Rattle.prost_reflect_dynamic.proofs.Stored.{ascending_shown, stored_slot, slot_stored}
use Rattle.prost_reflect_dynamic.proofs.Copied.{entry_parts, parts_of, sound_copied, message_copied}
use Rattle.prost_reflect_dynamic.proofs.StoredContents.{contents_shown}
use Rattle.prost_reflect_dynamic.proofs.Merging.{known_in, differ_in}
use Rattle.prost_reflect_dynamic.proofs.JoinedContents.{Closed, part_sound, joined_read}
use Rattle.prost_reflect_rows.proofs.ChangedNumbers.{allowed_low}

abbrev Slots : Type 0
Slots = List (ℕ × FieldSlot Value)

abbrev Kept : Type 0
Kept = PooledType × Slots

-- PUT BACK

module _ (numbers : BTreeSet ℕ) (old others new : Slots) (replaced : AreReplaced numbers old others new) where
  stored_joined : (n : ℕ) → stored_slot new n ≡ cond (has numbers n) (stored_slot others n) (stored_slot old n)
  stored_joined n =
      (λ i. record { value = option_map value_of (values_replaced numbers old others new replaced n i); unknowns = payloads_of (unwrap_or (records_replaced numbers old others new replaced n i) []) })
      ∙ cases (has numbers n)
    where
      cases : (b : Bool) → record { value = option_map value_of (cond b (stored_at others n) (stored_at old n)); unknowns = payloads_of (unwrap_or (cond b (records_at others n) (records_at old n)) []) }
          ≡ cond b (stored_slot others n) (stored_slot old n)
      cases true = refl
      cases false = refl

  shown_joined : (n : ℕ) → slot_at (entries_from (shown new)) n ≡ cond (has numbers n) (slot_at (entries_from (shown others)) n) (slot_at (entries_from (shown old)) n)
  shown_joined n =
      slot_stored new n replaced.ascends ∙ stored_joined n
      ∙ ap₂ (λ (x y : Slot). cond (has numbers n) x y) (sym (slot_stored others n replaced.others_ascend)) (sym (slot_stored old n replaced.old_ascends))

  order_joined : entries_ordered (entries_from (shown old)) ≡ true → entries_ordered (entries_from (shown others)) ≡ true → entries_ordered (entries_from (shown new)) ≡ true
  order_joined o q =
      from_keys (λ es. entries_ordered es ≡ true) (shown new) (ascending_shown new replaced.ascends)
      (λ ns ascending. table_ordered (slot_at (entries_from (shown new))) 0 ns ascending (λ n. subst (λ (s : Slot). OrderedOption s.value) (sym (shown_joined n)) (there n (has numbers n))))
    where
      there : (n : ℕ) (b : Bool) → OrderedOption (cond b (slot_at (entries_from (shown others)) n) (slot_at (entries_from (shown old)) n)).value
      there n true = value_in_order n (entries_from (shown others)) q
      there n false = value_in_order n (entries_from (shown old)) o

-- what stands at the numbers was put in place of what was there
pub message_joined : (numbers : BTreeSet ℕ) (m others : DynamicMessage) (p : Kept) → p.0 ≡ m.fields.0 → AreReplaced numbers m.fields.1 others.fields.1 p.1
    → IsJoined (has numbers) (content_of m) (content_of others) (content_of (roll-DynamicMessage (record { fields = p })))
message_joined numbers m others p same replaced =
    let is = content_of_roll (record { fields = p }) in
    let old = content_of_message m in
    let other = content_of_message others in
    record {
      schema = ap schema_of is ∙ ap schema_at same ∙ sym (ap schema_of old);
      type = ap type_of is ∙ ap type_at same ∙ sym (ap type_of old);
      slots = λ n.
          ap (λ c. slot_at (entries_of c) n) is ∙ shown_joined numbers m.fields.1 others.fields.1 p.1 replaced n
          ∙ ap₂ (λ (x y : Slot). cond (has numbers n) x y) (sym (ap (λ c. slot_at (entries_of c) n) other)) (sym (ap (λ c. slot_at (entries_of c) n) old));
      order = λ o q. ap ordered is ∙ order_joined numbers m.fields.1 others.fields.1 p.1 replaced (sym (ap ordered old) ∙ o) (sym (ap ordered other) ∙ q);
    }

-- COPIED

abbrev pub part : BTreeSet ℕ → Slots → Slots
part numbers es = put_chosen (is_chosen numbers true) [] es

pub parts_put : (es : Slots) (n : ℕ) (e : FieldSlot Value) → parts_of (put_item es n e) ≡ put_item (parts_of es) n (entry_parts e)
parts_put [] n e = refl
parts_put (d ∷ es) n e = cases (nat_cmp n d.0) (parts_put es n e)
  where
    cases : (o : Ordering) → parts_of (put_item es n e) ≡ put_item (parts_of es) n (entry_parts e)
        → parts_of (match_ordering o ((n, e) ∷ d ∷ es) ((d.0, e) ∷ es) (d ∷ put_item es n e))
        ≡ match_ordering o ((n, entry_parts e) ∷ (d.0, entry_parts d.1) ∷ parts_of es) ((d.0, entry_parts e) ∷ parts_of es) ((d.0, entry_parts d.1) ∷ put_item (parts_of es) n (entry_parts e))
    cases Less rest = refl
    cases Equal rest = refl
    cases Greater rest = ap (λ ps. (d.0, entry_parts d.1) ∷ ps) rest

pub same_parts : (e d : FieldSlot Value) → SameSlot e d → entry_parts d ≡ entry_parts e
same_parts e d same = λ i. (same.value i, same.records i)

-- what the copied slots keep
pub part_kept : (numbers : BTreeSet ℕ) (a b : PooledType) (es fields : Slots) → SameMessage a b → IsAscending es → parts_of fields ≡ parts_of (part numbers es) → Sound (known_of a) es → Sound (known_of b) fields
part_kept numbers a b es fields same s parts sound = sound_copied a b (part numbers es) fields same parts (sound_part numbers es (part numbers es) (known_of a) (part_replaced numbers es s) sound)

-- the copied part of a message
pub message_part : (numbers : BTreeSet ℕ) (m : DynamicMessage) (p : Kept) → SameMessage m.fields.0 p.0 → IsAscending m.fields.1 → parts_of p.1 ≡ parts_of (part numbers m.fields.1)
    → IsJoined (has numbers) (cleared (content_of m)) (content_of m) (content_of (roll-DynamicMessage (record { fields = p })))
message_part numbers m p same s parts =
    let q : Kept = (m.fields.0, part numbers m.fields.1) in
    let inside : DynamicMessage = record { fields = q } in
    let none : DynamicMessage = record { fields = (m.fields.0, []) } in
    let copied : content_of (roll-DynamicMessage (record { fields = p })) ≡ content_of inside = contents_shown (roll-DynamicMessage (record { fields = p })) inside (message_copied inside p same parts) in
    let is : content_of inside ≡ content_of (roll-DynamicMessage (record { fields = q })) = content_of_message inside ∙ sym (content_of_roll (record { fields = q })) in
    let empty : content_of none ≡ cleared (content_of m) = content_of_message none ∙ sym (ap cleared (content_of_message m)) in
    let joined = message_joined numbers none m q refl (part_replaced numbers m.fields.1 s) in
    subst (λ c. IsJoined (has numbers) c (content_of m) (content_of (roll-DynamicMessage (record { fields = p })))) empty
    (subst (λ c. IsJoined (has numbers) (content_of none) (content_of m) c) (sym (copied ∙ is)) joined)

-- WHOLE ONEOFS

pub whole_closed : (fields : List Field) (numbers : BTreeSet ℕ) → numbers_differ fields ≡ true → HasWholeOneofs fields numbers → Closed fields (has numbers)
whole_closed fields numbers differ whole n m f found sibling = same (has numbers n) refl (has numbers m) refl
  where
    forth : are_siblings fields n m ≡ true
    forth = ap (λ o. passes o (λ f. is_sibling fields f m)) found ∙ sibling

    same : (a : Bool) → has numbers n ≡ a → (b : Bool) → has numbers m ≡ b → a ≡ b
    same true x b y = sym (whole n m x forth) ∙ y
    same false x false y = refl
    same false x true y = sym x ∙ whole m n y (siblings_back fields n m differ forth)

-- MERGED BY A PART

cleared_schema : (c : Content) → schema_of (cleared c) ≡ schema_of c
cleared_schema (ContentOf schema T es) = refl

cleared_type : (c : Content) → type_of (cleared c) ≡ type_of c
cleared_type (ContentOf schema T es) = refl

module _ (numbers : BTreeSet ℕ) (m part_of_it : DynamicMessage) (whole : HasWholeOneofs (known_of (message_type_of m)) numbers) (sound : WellStored (content_of m))
    (first : IsJoined (has numbers) (cleared (content_of m)) (content_of m) (content_of part_of_it)) where
  closed : Closed (known (schema_of (content_of m)) (type_of (content_of m))) (has numbers)
  closed = subst (λ fields. Closed fields (has numbers)) (sym (known_in m)) (whole_closed (known_of (message_type_of m)) numbers (known_differ (message_type_of m)) whole)

  pub part_holds : WellStored (content_of part_of_it)
  part_holds = part_sound (has numbers) (content_of m) (content_of part_of_it) (differ_in m) closed sound first

  pub part_schema : schema_of (content_of part_of_it) ≡ schema_of (content_of m)
  part_schema = first.schema ∙ cleared_schema (content_of m)

  pub part_type : type_of (content_of part_of_it) ≡ type_of (content_of m)
  part_type = first.type ∙ cleared_type (content_of m)

  -- a fault that stands for the part stands for the message
  pub part_fault : (e : DecodeError) (bytes : List ℕ) → StandsInMessage (schema_of (content_of part_of_it)) (type_of (content_of part_of_it)) LEVEL_LIMIT e bytes → StandsInMessage (schema_of (content_of m)) (type_of (content_of m)) LEVEL_LIMIT e bytes
  part_fault e bytes h = subst (λ T. StandsInMessage (schema_of (content_of m)) T LEVEL_LIMIT e bytes) part_type (subst (λ schema. StandsInMessage schema (type_of (content_of part_of_it)) LEVEL_LIMIT e bytes) part_schema h)

  -- what was read into the part was read into the message
  pub message_read : (done new : DynamicMessage) (bytes : List ℕ) → HasNumbersOf bytes numbers → Progress LEVEL_LIMIT (content_of part_of_it) (content_of done) bytes []
      → IsJoined (has numbers) (content_of m) (content_of done) (content_of new) → Progress LEVEL_LIMIT (content_of m) (content_of new) bytes []
  message_read done new bytes has_numbers progress last =
      let read = progress.read in
      joined_read (has numbers) LEVEL_LIMIT (content_of m) (content_of part_of_it) (content_of done) (content_of new) bytes (differ_in m) closed sound first progress
      (has_numbers.each read.records (whole_spelled LEVEL_LIMIT (content_of part_of_it) (content_of done) bytes read)
      (allowed_low (schema_of (content_of part_of_it)) LEVEL_LIMIT (type_of (content_of part_of_it)) read.records read.allowed))
      last
