-- Records that bytes spell have a spelling without needless digits.
use Rattle.std.specs.Prelude.{◌≡◌, ◌^◌, ◌∷◌, ◌++◌}
use Rattle.prost_reflect_laws.proofs.Common.{ℕ, true, List, [], length, refl, subst, lt-ltb, eq-eqb, and_from, AreBytes, WireType, Plain, Var, Fix64, Len, Fix32, Records, NoRecords, PlainRecord, GroupRecord, Record, body_of, Key, SpellsPlain, Spells, spelled, number_valid, plain_valid, valid, RecordFront, FieldFront, bytes_test, bytes_front, bytes_behind}
use Rattle.prost_reflect_wire.proofs.WrittenRecords.{spelled_front}

key_valid : (n : ℕ) (w : WireType) (bytes : List ℕ) → Key n w bytes → number_valid n ≡ true
key_valid n w bytes k = and_from _ _ (lt-ltb 0 n k.from_one) (lt-ltb n (2 ^ 29) k.below)

pub spelled_plain_valid : (p : Plain) (bytes : List ℕ) → AreBytes bytes → SpellsPlain p bytes → plain_valid p ≡ true
spelled_plain_valid (Var v) bytes small s = lt-ltb v (2 ^ 64) s.below
spelled_plain_valid (Fix64 eight) bytes small s = and_from _ _ (eq-eqb (length eight) 8 s.0) (bytes_test eight (subst AreBytes s.1 small))
spelled_plain_valid (Len body) bytes small (len, v, whole) = and_from _ _ (lt-ltb (length body) (2 ^ 64) v.below) (bytes_test body (bytes_behind len body (subst AreBytes whole small)))
spelled_plain_valid (Fix32 four) bytes small s = and_from _ _ (eq-eqb (length four) 4 s.0) (bytes_test four (subst AreBytes s.1 small))

pub spelled_valid : (rs : Records) (bytes : List ℕ) → AreBytes bytes → Spells rs bytes → valid rs ≡ true
spelled_valid NoRecords bytes small s = refl
spelled_valid (PlainRecord n p rest) bytes small (key, body, after, k, b, s, whole) =
    let behind = bytes_behind key (body ++ after) (subst AreBytes whole small) in
    and_from _ _ (key_valid n _ key k) (and_from _ _ (spelled_plain_valid p body (bytes_front body after behind) b) (spelled_valid rest after (bytes_behind body after behind) s))
spelled_valid (GroupRecord n inside rest) bytes small (key, body, stop, after, k, b, t, s, whole) =
    let behind = bytes_behind key (body ++ (stop ++ after)) (subst AreBytes whole small) in
    and_from _ _ (key_valid n _ key k) (and_from _ _ (spelled_valid inside body (bytes_front body (stop ++ after) behind) b) (spelled_valid rest after (bytes_behind stop after (bytes_behind body (stop ++ after) behind)) s))

-- a record at the front
pub front_valid : (r : Record) (bytes rest : List ℕ) → AreBytes bytes → RecordFront r bytes rest → valid (body_of (r ∷ [])) ≡ true
front_valid r bytes rest small f = spelled_valid (body_of (r ∷ [])) f.front (bytes_front f.front rest (subst AreBytes f.parts small)) f.spelled

pub field_again : (levels : ℕ) (r : Record) (bytes rest : List ℕ) → AreBytes bytes → FieldFront levels r bytes rest → (tail : List ℕ) → FieldFront levels r (spelled (r ∷ []) ++ tail) tail
field_again levels r bytes rest small f tail = record { front = spelled_front r tail (front_valid r bytes rest small f.front); within = f.within }
