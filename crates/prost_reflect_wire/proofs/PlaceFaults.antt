-- What the readers of the wire refuse stands at the place where they read.
use Rattle.std.specs.Prelude.{◌≡◌, ◌≢◌, ◌∷◌, ◌++◌, ◌<◌, ◌-◌}
use Rattle.prost_reflect_wire.proofs.Common.{ℕ, List, [], Option, Some, None, true, refl, sym, ap, subst, ◌∙◌, inl, inr, arith, DecodeError, WireType, record_at, Records, NoRecords, PlainRecord, GroupRecord, Flat, Group, short_key, Schema, Field, KeyFront, RecordsFront, KeyFault, PlainFault, Place, OfNothing, field_at, opens_level, NextField, Comes, Stands, Here, Behind, InMessage, InGroup, InUnknown, InEntry, FieldPlace, StandsInField, StandsInValue, ValueComes, ValueFault}
use Rattle.std.proofs.lemmas.Option.{none-some}
use Rattle.prost_reflect_wire.specs.declared.error.DecodeError.TheVariants as errors
use Rattle.prost_reflect_wire.specs.declared.key.WireType.TheVariants as wires
use Rattle.prost_reflect_wire.proofs.RecordFronts.{first_parts}

-- AT A KEY

module _ (schema : Schema) (place : Place) where
  pub key_comes_at : (bytes : List ℕ) → place.bytes ≡ bytes → (e : DecodeError) → KeyFault e bytes → (bytes ≡ [] → place.open_group ≢ None) → Comes schema e place
  key_comes_at [] is errors.Truncated f ended = inr (inl (is, ended refl))
  key_comes_at (b ∷ bytes) is errors.Truncated f ended = inl ((λ none. cc), rw is f)
  key_comes_at bytes is errors.Varint f ended = inl (rw is f)
  key_comes_at bytes is errors.Key f ended = rw is f
  key_comes_at bytes is e f ended = absurd f

  -- no key is at the front, and the body has not ended
  pub key_stands : (e : DecodeError) → KeyFault e place.bytes → (place.bytes ≡ [] → place.open_group ≢ None) → Stands schema e place
  key_stands e f ended = Here (key_comes_at place.bytes refl e f ended)

  -- an end key closes no open group
  pub end_stands : (n : ℕ) (rest : List ℕ) → KeyFront n wires.EndGroup place.bytes rest → place.open_group ≢ Some n → Stands schema errors.EndGroup place
  end_stands n rest k other = Here (record { number = n; wire = wires.EndGroup; rest = rest; key = k; behind = (refl, other) })

  pub plain_comes : (e : DecodeError) (n : ℕ) (w : WireType) (rest : List ℕ) → KeyFront n w place.bytes rest → PlainFault e w rest → Comes schema e place
  plain_comes errors.Truncated n w rest k f = inr (inr (inl (record { number = n; wire = w; rest = rest; key = k; behind = f })))
  plain_comes errors.Varint n w rest k f = inr (inl (record { number = n; wire = w; rest = rest; key = k; behind = f }))
  plain_comes e n w rest k f = absurd f

  -- behind a key of any field
  pub plain_stands : (e : DecodeError) (n : ℕ) (w : WireType) (rest : List ℕ) → KeyFront n w place.bytes rest → PlainFault e w rest → Stands schema e place
  plain_stands e n w rest k f = Here (plain_comes e n w rest k f)

-- WHERE NO NUMBER IS KNOWN

-- a place without known numbers has no field next
no_field : (schema : Schema) (bytes : List ℕ) (levels : ℕ) (open_group : Option ℕ) (T : Field → WireType → List ℕ → Type 0) {A : Type 0}
    → NextField schema (record { bytes = bytes; inside = OfNothing; levels = levels; open_group = open_group }) T → A
no_field schema bytes levels open_group T f = absurd (let none = f.found in cc)

comes_further : (schema other : Schema) (e : DecodeError) (bytes : List ℕ) (levels : ℕ) (open_group : Option ℕ)
    → Comes schema e (record { bytes = bytes; inside = OfNothing; levels = levels; open_group = open_group })
    → Comes other e (record { bytes = bytes; inside = OfNothing; levels = levels; open_group = open_group })
comes_further schema other errors.Truncated bytes levels open_group (inl f) = inl f
comes_further schema other errors.Truncated bytes levels open_group (inr (inl f)) = inr (inl f)
comes_further schema other errors.Truncated bytes levels open_group (inr (inr (inl f))) = inr (inr (inl f))
comes_further schema other errors.Truncated bytes levels open_group (inr (inr (inr f))) = no_field schema bytes levels open_group _ f
comes_further schema other errors.Varint bytes levels open_group (inl f) = inl f
comes_further schema other errors.Varint bytes levels open_group (inr (inl f)) = inr (inl f)
comes_further schema other errors.Varint bytes levels open_group (inr (inr f)) = no_field schema bytes levels open_group _ f
comes_further schema other errors.Key bytes levels open_group f = f
comes_further schema other errors.WireType bytes levels open_group f = no_field schema bytes levels open_group _ f
comes_further schema other errors.EndGroup bytes levels open_group f = f
comes_further schema other errors.Utf8 bytes levels open_group f = no_field schema bytes levels open_group _ f
comes_further schema other errors.OutOfMemory bytes levels open_group f = f
comes_further schema other errors.Depth bytes levels open_group f = f

-- What stands in a group of no known numbers stands there for every schema.
pub stands_further : (schema other : Schema) {e : DecodeError} {place : Place} → place.inside ≡ OfNothing → Stands schema e place → Stands other e place
stands_further schema other {e} {place} none (Here f) =
    Here (subst (λ i. Comes other e (record place { inside = i })) (sym none)
    (comes_further schema other e place.bytes place.levels place.open_group (subst (λ i. Comes schema e (record place { inside = i })) none f)))
stands_further schema other {e} {place} none (Behind r rest front more) = Behind r rest front (stands_further schema other none more)
stands_further schema other {e} {place} none (InMessage n T k f body rest after known m kind levels key front more) = absurd (let found = ap (λ i. field_at schema i n) none in cc)
stands_further schema other {e} {place} none (InGroup n T k f rest known m kind levels key more) = absurd (let found = ap (λ i. field_at schema i n) none in cc)
stands_further schema other {e} {place} none (InUnknown n k rest unknown levels key more) = InUnknown n k rest (ap (λ i. field_at other i n) none) levels key (stands_further schema other refl more)
stands_further schema other {e} {place} none (InEntry n f key body rest after known form levels front delimited more) = absurd (let found = ap (λ i. field_at schema i n) none in cc)

-- BEHIND THE KEY OF AN UNKNOWN FIELD

module _ (schema : Schema) (place : Place) where
  value_comes : (e : DecodeError) (n : ℕ) (w : WireType) (rest : List ℕ) → field_at schema place.inside n ≡ None → KeyFront n w place.bytes rest
      → (w ≡ wires.EndGroup → place.open_group ≢ Some n) → ValueComes e w place.levels rest → Comes schema e place
  value_comes errors.Truncated n w rest unknown k closed f = plain_comes schema place errors.Truncated n w rest k f
  value_comes errors.Varint n w rest unknown k closed f = plain_comes schema place errors.Varint n w rest k f
  value_comes errors.EndGroup n w rest unknown k closed f = record { number = n; wire = w; rest = rest; key = k; behind = (f, closed f) }
  value_comes errors.Depth n w rest unknown k closed f =
      (f.1, record { number = n; wire = w; rest = rest; key = k; behind = subst (λ v. opens_level (field_at schema place.inside n) v ≡ true) (sym f.0) (ap (λ o. opens_level o wires.StartGroup) unknown) })
  value_comes e n w rest unknown k closed f = absurd f

  -- what the reader of an unknown field refuses behind its key
  pub value_stands : (e : DecodeError) (n : ℕ) (w : WireType) (rest : List ℕ) → field_at schema place.inside n ≡ None → KeyFront n w place.bytes rest
      → (w ≡ wires.EndGroup → place.open_group ≢ Some n) → ValueFault e n w place.levels rest → Stands schema e place
  value_stands e n w rest unknown k closed (inl f) = Here (value_comes e n w rest unknown k closed f)
  value_stands e n w rest unknown k closed (inr (group, f)) =
      InUnknown n f.inner rest unknown f.left (subst (λ v. KeyFront n v place.bytes rest) group k) (stands_further [] schema refl f.stands)

-- BEHIND RECORDS

-- what stands behind records of a body stands in the body
pub stands_behind : (schema : Schema) (e : DecodeError) (place : Place) (rs : Records) (rest : List ℕ) → RecordsFront rs place.bytes rest → Stands schema e (record place { bytes = rest }) → Stands schema e place
stands_behind schema e place NoRecords rest f s = subst (λ (l : List ℕ). Stands schema e (record place { bytes = l })) (sym (f.parts ∙ ap (λ (l : List ℕ). l ++ rest) f.spelled)) s
stands_behind schema e place (PlainRecord n p rs) rest f s =
    let h = first_parts (record_at n (Flat p)) rs place.bytes rest f in Behind (record_at n (Flat p)) h.mid h.first (stands_behind schema e (record place { bytes = h.mid }) rs rest h.others s)
stands_behind schema e place (GroupRecord n q rs) rest f s =
    let h = first_parts (record_at n (Group q)) rs place.bytes rest f in Behind (record_at n (Group q)) h.mid h.first (stands_behind schema e (record place { bytes = h.mid }) rs rest h.others s)

-- IN AN UNKNOWN GROUP

module _ (e : DecodeError) (n levels : ℕ) (rs : Records) (bytes rest : List ℕ) (some : 0 < levels) (f : RecordsFront rs bytes rest) where
  abbrev Inner : Place
  Inner = record { bytes = bytes; inside = OfNothing; levels = levels - 1; open_group = Some n }

  in_group : Stands [] e (record Inner { bytes = rest }) → ValueFault e n wires.StartGroup levels bytes
  in_group s = inr (refl, record { inner = levels - 1; left = omega arith; stands = stands_behind [] e Inner rs rest f s })

  -- behind records of the group a key is refused,
  pub key_in_group : KeyFault e rest → ValueFault e n wires.StartGroup levels bytes
  key_in_group g = in_group (key_stands [] (record Inner { bytes = rest }) e g (λ _ none. cc))

  -- or the value behind a key
  pub value_in_group : (m : ℕ) (w : WireType) (after : List ℕ) → KeyFront m w rest after → (w ≡ wires.EndGroup → m ≢ n) → ValueFault e m w (levels - 1) after → ValueFault e n wires.StartGroup levels bytes
  value_in_group m w after k other g =
      in_group (value_stands [] (record Inner { bytes = rest }) e m w after refl k (λ is same. other is (let number : n ≡ m = cc in sym number)) g)

-- WHERE ONE FIELD IS READ

pub key_stands_in_field : (e : DecodeError) (levels : ℕ) (bytes : List ℕ) → KeyFault e bytes → StandsInField levels e bytes
key_stands_in_field errors.Truncated levels [] f = inr (inl (refl, refl))
key_stands_in_field errors.Truncated levels (b ∷ bytes) f = inl (inl ((λ none. cc), f))
key_stands_in_field errors.Varint levels bytes f = inl (inl f)
key_stands_in_field errors.Key levels bytes f = inl f
key_stands_in_field e levels bytes f = absurd f

pub value_stands_in_field : (e : DecodeError) (levels n : ℕ) (w : WireType) (bytes rest : List ℕ) → KeyFront n w bytes rest → ValueFault e n w levels rest → StandsInField levels e bytes
value_stands_in_field e levels n w bytes rest k (inl f) = inl (value_comes [] (FieldPlace levels bytes) e n w rest refl k (λ _. none-some _) f)
value_stands_in_field e levels n w bytes rest k (inr f) = inr (inr (record { number = n; wire = w; rest = rest; key = k; behind = f }))

pub value_stands_in_value : (e : DecodeError) (levels n : ℕ) (w : WireType) (bytes : List ℕ) → KeyFront n w (short_key n w ++ bytes) bytes → ValueFault e n w levels bytes → StandsInValue levels n w e bytes
value_stands_in_value e levels n w bytes k f = value_stands_in_field e levels n w (short_key n w ++ bytes) bytes k f
