-- What an identity owns, and what is behind a reference to one.
use Rattle.std.specs.Prelude.{ℕ, zero, suc, ◌+◌, List}
use mir.Val.{Val}
use base.Fraction.{full_share}
use base.Stored.{Coded, coded_ℕ, coded×}
use base.Fml.{Lft, Fml, ffalse, fsep, fex, fobs, fauth, fres}
use denote.RattleType.{RattleType}
use denote.Memory.{cell_at}
use denote.RawPtr.{Ptr, block_ptr, null_ptr}
use denote.Sharing.{said, beside}
use denote.Hidden.{guarded}

-- a fact that no one can change: under the first number stand the second and the value
abbrev pub stands_under : {X : Type 0} → Coded X → (ℕ × ℕ) × X → Fml
stands_under c identity = fres identity.0.0 ((coded× coded_ℕ c).code (identity.0.1, identity.1))

-- what is had of a number once only
abbrev pub lone : ℕ → Fml
lone number = fsep (fobs number (coded_ℕ.code 0)) (fauth number (coded_ℕ.code 0))

-- the fact, and the second number as had once only, so that there is no other identity of these numbers
abbrev pub is_alone : {X : Type 0} → Coded X → (ℕ × ℕ) × X → Fml
is_alone c identity = fsep (stands_under c identity) (lone identity.0.1)

-- 0, 1, 3, 6, ..
unfoldable pub triangle : ℕ → ℕ
triangle zero = 0
triangle (suc n) = triangle n + suc n

-- a number for each place in memory
abbrev pub place_number : ℕ → ℕ → ℕ
place_number block at = triangle (block + at) + at

module _ (F : RattleType) {X : Type 0} (c : Coded X) (identity : (ℕ × ℕ) × X) where
  -- the fields at a place, of an identity that is alone
  abbrev pub fields_at : ℕ → ℕ → Fml
  fields_at block at = fex (List Val) (λ words. fsep (cell_at full_share F.mir words block at) (fex F.Denot (λ fields. fsep (F.own_val fields words) (is_alone c identity))))

  -- the fact, and the fields, which the token of the thread opens at the first number and the place
  abbrev pub behind_reference : Ptr → Lft → Fml
  behind_reference (block_ptr block at) = beside (said (stands_under c identity)) (guarded (identity.0.0, place_number block at) (fields_at block at))
  behind_reference null_ptr = said ffalse
