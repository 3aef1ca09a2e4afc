-- What the calls that clear along a path make of messages and values.
use Rattle.std.proofs.Common.{◌≡◌, ◌==◌, ℕ, Bool, true, false, cond, not, ◌&&◌, ◌≤◌, List, [], ◌∷◌, ◌++◌, length, take, drop, Option, Some, None, option_map, refl, ap, sym, ◌∙◌, subst, true≢false}
use Rattle.std.specs.Prelude.{map, unwrap_or, IfSome}
use Rattle.std.specs.Bool.{beq}
use Rattle.std.specs.BTreeMap.{BTreeMap, insert_entry}
use Rattle.std.specs.List.Sorted.{IsStrictlySortedBy}
use Rattle.std.specs.Map.{keys_of}
use Rattle.prost_reflect_wire.specs.Schema.{field_of, passes}
use Rattle.prost_reflect_wire.specs.Content as contents
use Rattle.prost_reflect_wire.specs.Content.{Content, MessageValue, ListValue, MapValue, Pair, entries_of, value_at, values_from}
use Rattle.prost_reflect_wire.specs.Typing.{WellStored}
use Rattle.prost_reflect_tables.specs.Places.{row_of, is_declared}
use Rattle.prost_reflect_tables.specs.Rows.{FieldRow}
use Rattle.prost_reflect_tables.specs.Shown.{schema_field}
use Rattle.prost_reflect_pool.specs.MessageTypes.{fields_of}
use Rattle.prost_reflect_pool.specs.SharedPools.{pool_rows}
use Rattle.prost_reflect_pool.specs.declared.pooled_type.PooledType.{PooledType}
use Rattle.prost_reflect_fields.specs.Known.{known_of, is_listed}
use Rattle.prost_reflect_dynamic.specs.Access.{is_field_number, number_declared, has_at, IsStoredOr, IsLentOf, IsLentIf}
use Rattle.prost_reflect_dynamic.specs.ContentLaws.{pairs_shown, compare_keys}
use Rattle.prost_reflect_dynamic.specs.Contents.{value_set, value_cleared, cleared_if, set_if}
use Rattle.prost_reflect_dynamic.specs.Edits.{Removes}
use Rattle.prost_reflect_dynamic.specs.Variants.{pairs_in}
use Rattle.prost_reflect_dynamic.specs.View.{key_of, pairs_from, value_of, content_of, value_step, message_step, message_type_of}
use Rattle.prost_reflect_dynamic.specs.declared.value.MapKey.{MapKey}
use Rattle.prost_reflect_dynamic.specs.declared.value.Value.{Value, out-Value}
use Rattle.prost_reflect_dynamic.specs.declared.value.Value as values
use Rattle.prost_reflect_dynamic.specs.declared.value.Value.TheOpen.{Value-F}
use Rattle.prost_reflect_dynamic.specs.declared.value.Value.TheFolds.{fold_out-Value, map-Value}
use Rattle.prost_reflect_dynamic.specs.declared.message.DynamicMessage.{DynamicMessage}
use Rattle.prost_reflect_dynamic.specs.ExtensionAccess.{extension_number}
use Rattle.prost_reflect_dynamic.specs.Named.{NamesSame}
use Rattle.prost_reflect_dynamic.specs.NamedExtensions.{Extends}
use Rattle.prost_reflect_dynamic.specs.declared.descriptor.extension.ExtensionDescriptor.{ExtensionDescriptor}
use Rattle.prost_reflect_dynamic.specs.declared.descriptor.message.MessageDescriptor.{MessageDescriptor}
use Rattle.prost_reflect_pool.specs.Lookups.{extension_where}
use Rattle.prost_reflect_dynamic.specs.contracts.value.MapKeyOrd.TheImpl.Laws as ord_laws
use Rattle.prost_reflect_dynamic.proofs.Copied.{insert_last, keys_appended}
use Rattle.prost_reflect_rows.proofs.Described.{field_at_number}
use Rattle.prost_reflect_dynamic.proofs.ListedNumbers.{extension_missed, extension_own}
use Rattle.prost_reflect_dynamic.proofs.Merging.{known_in, valid_in}
use Rattle.prost_reflect_dynamic.proofs.Views.{value_of_map}
use Rattle.prototool_commands.specs.Redacting.{in_pairs, in_messages, cleared_along, AreWell, PairsWell, HoldsWell, ClearsLast, ClearsThrough, ClearsInside, ClearsElement, ClearsElements, ClearsEntries}
use Rattle.prototool_commands.proofs.ClearedLists.{in_first, all_changed_back, pairs_of, EntriesSoFar, one_entry, all_entries, value_well}
use Rattle.prototool_commands.proofs.ClearedThrough.{through_first, through_none, last_none, none_at_unknown, had_at_first, had_not, sound_in, known_at_value}

-- A NUMBER OF NO FIELD AND NO EXTENSION

unlisted : (t : PooledType) (n : ℕ) → is_listed true (known_of t) n ≡ false → is_field_number t n ≡ false → field_of (known_of t) n ≡ None
unlisted t n listed declared = field_at_number t n ∙ go (row_of (fields_of t) n) declared (sym (ap (λ o. passes o (λ f. beq true f.is_extension)) (field_at_number t n)) ∙ listed)
  where
    neither : (f : FieldRow) (b : Bool) → not b ≡ false → beq true b ≡ false → Some (schema_field (pool_rows t.pool) f) ≡ None
    neither f true d l = absurd (true≢false l)
    neither f false d l = absurd (true≢false d)

    go : (o : Option FieldRow) → is_declared o ≡ false → passes (option_map (schema_field (pool_rows t.pool)) o) (λ f. beq true f.is_extension) ≡ false → option_map (schema_field (pool_rows t.pool)) o ≡ None
    go None d l = refl
    go (Some f) d l = neither f f.is_extension d l

none_stored : (m : DynamicMessage) (n : ℕ) → is_listed true (known_of (message_type_of m)) n ≡ false → is_field_number (message_type_of m) n ≡ false → WellStored (content_of m) → value_at n (entries_of (content_of m)) ≡ None
none_stored m n listed declared w = none_at_unknown (content_of m) n w (ap (λ fields. field_of fields n) (known_in m) ∙ unlisted (message_type_of m) n listed declared)

-- THE LAST NUMBER

pub last_extension : (m new : DynamicMessage) (n k : ℕ) → k ≡ n → Removes (cleared_if (Some k)) m new → ClearsLast n (content_of m) (content_of new)
last_extension m new n k same r = record { cleared = λ w. r.content ∙ ap (λ i. value_cleared i (content_of m)) same }

pub last_field : (m new : DynamicMessage) (n : ℕ) → is_listed true (known_of (message_type_of m)) n ≡ false → Removes (cleared_if (number_declared (message_type_of m) n)) m new → ClearsLast n (content_of m) (content_of new)
last_field m new n listed r = record { cleared = λ w. r.content ∙ go (is_field_number (message_type_of m) n) refl w }
  where
    go : (b : Bool) → is_field_number (message_type_of m) n ≡ b → WellStored (content_of m) → cleared_if (cond b (Some n) None) (content_of m) ≡ value_cleared n (content_of m)
    go true d w = refl
    go false d w = sym (last_none (content_of m) n (valid_in m) w (none_stored m n listed d w))

-- THROUGH A NUMBER

pub through_not : (c : Content) (n : ℕ) (rest : List ℕ) → has_at n c ≡ false → ClearsThrough n rest c c
through_not c n rest none = record { cleared = λ w. sym (through_none c n (cleared_along rest) none) }

pub through_unlisted : (m : DynamicMessage) (n : ℕ) (rest : List ℕ) → is_listed true (known_of (message_type_of m)) n ≡ false → (is_field_number (message_type_of m) n && has_at n (content_of m)) ≡ false → ClearsThrough n rest (content_of m) (content_of m)
through_unlisted m n rest listed none = record { cleared = λ w. sym (through_none (content_of m) n (cleared_along rest) (go (is_field_number (message_type_of m) n) refl none w)) }
  where
    go : (b : Bool) → is_field_number (message_type_of m) n ≡ b → (b && has_at n (content_of m)) ≡ false → WellStored (content_of m) → has_at n (content_of m) ≡ false
    go true d none w = none
    go false d none w = had_not (content_of m) n (none_stored m n listed d w)

pub through_lent : (m : DynamicMessage) (d : Content) (n : ℕ) (rest : List ℕ) (lent after : contents.Value) → has_at n (content_of m) ≡ true → IsStoredOr (message_type_of m) n (value_at n (entries_of (content_of m))) lent → ClearsInside rest lent after
    → d ≡ value_set n after (content_of m) → ClearsThrough n rest (content_of m) d
through_lent m d n rest lent after had stored inside set = record {
  cleared = λ w.
      let (v, there) = had_at_first (content_of m) n had in
      let is : lent ≡ v = subst (λ o. IsStoredOr (message_type_of m) n o lent) there stored in
      let (f, found) = known_at_value (content_of m) n v w there in
      let well : HoldsWell lent = subst HoldsWell (sym is) (value_well _ _ v (sound_in (content_of m) n v w there)) in
      set
      ∙ ap (λ x. value_set n x (content_of m)) (inside.cleared well ∙ ap (in_messages (cleared_along rest)) is)
      ∙ through_first (content_of m) n (cleared_along rest) f v (valid_in m) w found there;
}

pub through_extension : (m : DynamicMessage) (d : Content) (n k : ℕ) (rest : List ℕ) (lent after : Value) → k ≡ n → has_at k (content_of m) ≡ true → IsLentOf m k lent → ClearsInside rest (value_of lent) (value_of after)
    → d ≡ value_set k (value_of after) (content_of m) → ClearsThrough n rest (content_of m) d
through_extension m d n k rest lent after same had stored inside set = subst (λ i. ClearsThrough i rest (content_of m) d) same (through_lent m d k rest (value_of lent) (value_of after) had stored inside set)

pub through_field : (m : DynamicMessage) (d : Content) (n : ℕ) (rest : List ℕ) (lent after : Value) → (is_field_number (message_type_of m) n && has_at n (content_of m)) ≡ true → IsLentIf (number_declared (message_type_of m) n) m lent → ClearsInside rest (value_of lent) (value_of after)
    → d ≡ set_if (number_declared (message_type_of m) n) (value_of after) (content_of m) → ClearsThrough n rest (content_of m) d
through_field m d n rest lent after had stored inside set = go (is_field_number (message_type_of m) n) had stored set
  where
    go : (b : Bool) → (b && has_at n (content_of m)) ≡ true → IsLentIf (cond b (Some n) None) m lent → d ≡ set_if (cond b (Some n) None) (value_of after) (content_of m) → ClearsThrough n rest (content_of m) d
    go true had stored set = through_lent m d n rest (value_of lent) (value_of after) had stored inside set
    go false had stored set = absurd stored

-- VALUES

map_viewed : (v : Value) (es : List (MapKey × Value)) → pairs_in (out-Value v) ≡ Some es → value_of v ≡ MapValue (pairs_shown es)
map_viewed v es h = fold_out-Value contents.Value Content value_step message_step v ∙ go (out-Value v) h
  where
    go : (x : Value-F Value DynamicMessage) → pairs_in x ≡ Some es → value_step (map-Value Value DynamicMessage contents.Value Content value_of content_of x) ≡ MapValue (pairs_shown es)
    go (Value-F.Map m) h = ap (λ (o : Option (List (MapKey × Value))). MapValue (pairs_shown (unwrap_or o []))) h
    go (Value-F.Bool b) h = cc
    go (Value-F.I32 z) h = cc
    go (Value-F.I64 z) h = cc
    go (Value-F.U32 n) h = cc
    go (Value-F.U64 n) h = cc
    go (Value-F.F32 n) h = cc
    go (Value-F.F64 n) h = cc
    go (Value-F.String text) h = cc
    go (Value-F.Bytes bytes) h = cc
    go (Value-F.EnumNumber z) h = cc
    go (Value-F.Message m) h = cc
    go (Value-F.List vs) h = cc

pub map_inside : (path : List ℕ) (old : Value) (es : List (MapKey × Value)) (m : BTreeMap MapKey Value) → pairs_in (out-Value old) ≡ Some es → ClearsEntries path (pairs_shown es) (pairs_shown m.entries) → ClearsInside path (value_of old) (value_of (values.Map m))
map_inside path old es m e s =
    let is = map_viewed old es e in
    record { cleared = λ h. value_of_map m ∙ ap MapValue (s.cleared (subst HoldsWell is h)) ∙ ap (in_messages (cleared_along path)) (sym is) }

-- THE EXTENSION OF A NUMBER

module _ (t : PooledType) (d : MessageDescriptor) (n : ℕ) (same : NamesSame d t) where
  abbrev Found : Option ExtensionDescriptor → Type 0
  Found found = option_map (λ (x : ExtensionDescriptor). x.index) found ≡ extension_where d.pool.inner.value d.index (λ f. f.number == n)

  pub extension_numbered : (found : Option ExtensionDescriptor) → Found found → IfSome found (Extends d) → IfSome found (λ x. extension_number x ≡ n)
  extension_numbered None e extends = tt
  extension_numbered (Some x) e extends = (extension_own t d x n same extends (sym e)).1

  pub extension_unlisted : (found : Option ExtensionDescriptor) → Found found → found ≡ None → is_listed true (known_of t) n ≡ false
  extension_unlisted found e none = go (is_listed true (known_of t) n) refl
    where
      go : (b : Bool) → is_listed true (known_of t) n ≡ b → b ≡ false
      go true h = absurd (extension_missed t d n same h (sym e ∙ ap (option_map (λ (x : ExtensionDescriptor). x.index)) none))
      go false h = refl

-- THE ELEMENTS OF A LIST

pub elements_cleared : (path : List ℕ) (i n : ℕ) (xs ys : List Value) → n ≡ length xs → length xs ≡ length ys → length xs ≤ i → (AreWell (values_from (map value_of ys)) → values_from (map value_of xs) ≡ in_first (cleared_along path) i (values_from (map value_of ys)))
    → ClearsElements path (values_from (map value_of ys)) (values_from (map value_of (take n (xs ++ drop (length xs) ys))))
elements_cleared path i n xs ys e l done h = record { cleared = all_changed_back value_of path i n xs ys (values_from (map value_of ys)) e l done h }

-- THE ENTRIES OF A MAP

abbrev pub EntriesCleared : List ℕ → List (MapKey × Value) → List (MapKey × Value) → List (MapKey × Value) → Type 0
EntriesCleared path all left new = EntriesSoFar key_of value_of path all left new

same_pairs : (es : List (MapKey × contents.Value)) → pairs_of key_of es ≡ pairs_from es
same_pairs [] = refl
same_pairs (e ∷ es) = ap (Pair (key_of e.0) e.1) (same_pairs es)

pub entry_cleared : (path : List ℕ) (all left new next : List (MapKey × Value)) (k : MapKey) (v w : Value) → IsStrictlySortedBy compare_keys (keys_of all) → EntriesCleared path all ((k, v) ∷ left) new → ClearsElement path (value_of v) (value_of w)
    → next ≡ insert_entry compare_keys new k w → EntriesCleared path all left next
entry_cleared path all left new next k v w sorted s cleared is =
    let whole : keys_of all ≡ keys_of new ++ k ∷ keys_of left = ap keys_of s.parts ∙ keys_appended s.done ((k, v) ∷ left) ∙ ap (λ ks. ks ++ k ∷ keys_of left) (sym s.same) in
    one_entry key_of value_of path all left new next (k, v) w s cleared (is ∙ insert_last compare_keys ord_laws.total-law new k w (keys_of left) (subst (IsStrictlySortedBy compare_keys) whole sorted))

pub entries_cleared : (path : List ℕ) (all new : List (MapKey × Value)) → EntriesCleared path all [] new → ClearsEntries path (pairs_shown all) (pairs_shown new)
entries_cleared path all new s = record {
  cleared = λ w.
      sym (same_pairs (map (λ (e : MapKey × Value). (e.0, value_of e.1)) new))
      ∙ all_entries key_of value_of path all new s (subst PairsWell (sym (same_pairs (map (λ (e : MapKey × Value). (e.0, value_of e.1)) all))) w)
      ∙ ap (in_pairs (cleared_along path)) (same_pairs (map (λ (e : MapKey × Value). (e.0, value_of e.1)) all));
}
