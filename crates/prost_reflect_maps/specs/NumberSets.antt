-- Sets of numbers, and maps with what others have at such numbers.
use Rattle.std.specs.Prelude.{◌≡◌, ℕ, Bool, true, false, not, if◌then◌else◌, List, [], ◌∷◌, Option, None, Some, nat_le}
use Rattle.std.specs.Ordering.{nat_cmp}
use Rattle.std.specs.BTreeMap.{is_at}
use Rattle.std.specs.BTreeSet.{BTreeSet, contains}
use Rattle.std.specs.List.{list_any}
use Rattle.prost_reflect_maps.specs.Items.{IsAscending, item_at, put_item, with_item, without_item}

abbrev pub has : BTreeSet ℕ → ℕ → Bool
has numbers n = contains nat_cmp numbers n

abbrev pub is_among : List ℕ → ℕ → Bool
is_among ks n = list_any (is_at (nat_cmp n)) ks

-- In the set, or outside of it.
abbrev pub is_chosen : BTreeSet ℕ → Bool → ℕ → Bool
is_chosen numbers inside n = if inside then has numbers n else not (has numbers n)

-- Not beyond the bound, if there is one.
abbrev pub is_up_to : Option ℕ → ℕ → Bool
is_up_to None n = true
is_up_to (Some bound) n = nat_le n bound

module _ {T : Type 0} where
  -- The items of numbers that pass put at these numbers, one after another.
  abbrev pub put_chosen : (ℕ → Bool) → List (ℕ × T) → List (ℕ × T) → List (ℕ × T)
  put_chosen test es [] = es
  put_chosen test es (d ∷ ds) = put_chosen test (if test d.0 then put_item es d.0 d.1 else es) ds

  -- Of the items up to the bound, which come first, those whose numbers pass.
  abbrev pub chosen_up_to : (ℕ → Bool) → Option ℕ → List (ℕ × T) → List (ℕ × T)
  chosen_up_to test bound [] = []
  chosen_up_to test bound (d ∷ ds) = if is_up_to bound d.0 then (if test d.0 then d ∷ chosen_up_to test bound ds else chosen_up_to test bound ds) else []

  -- The first item beyond the bound, and those behind it.
  abbrev pub left_beyond : Option ℕ → List (ℕ × T) → List (ℕ × T)
  left_beyond bound [] = []
  left_beyond bound (d ∷ ds) = if is_up_to bound d.0 then left_beyond bound ds else d ∷ ds

  -- Whether an item, if there is one, has an old one to take the place of.
  abbrev pub has_place : Option T → Option T → Bool
  has_place None old = true
  has_place (Some t) None = false
  has_place (Some t) (Some u) = true

  -- The items with this one in the place of that at the number, or without one there.
  abbrev pub taken_over : Option T → List (ℕ × T) → ℕ → List (ℕ × T)
  taken_over None es n = without_item es n
  taken_over (Some t) es n = with_item es n t

  -- What others have at the numbers has old items to take the place of.
  abbrev pub HavePlaces : List ℕ → List (ℕ × T) → List (ℕ × T) → Type 0
  HavePlaces ks old others = (n : ℕ) → is_among ks n ≡ true → has_place (item_at others n) (item_at old n) ≡ true

  -- At the numbers of the set what others have, and elsewhere what was there.
  pub record AreReplaced (numbers : BTreeSet ℕ) (old others new : List (ℕ × T)) : Type 0 where
    pub at : (n : ℕ) → item_at new n ≡ (if has numbers n then item_at others n else item_at old n)
    pub old_ascends : IsAscending old
    pub others_ascend : IsAscending others
    pub ascends : IsAscending new
