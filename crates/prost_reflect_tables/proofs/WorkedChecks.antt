-- The worked examples of the checks, by computing.
use Rattle.std.specs.Prelude.{◌≡◌, ◌&&◌, ◌||◌}
use Rattle.prost_reflect_tables.proofs.Common.{Bool, true, refl, read, is_entry_key, is_entry_value}
use Rattle.std.proofs.Math.Bool.{or-true}
use Rattle.prost_reflect_tables.specs.CheckExamples.{CheckedOptions, KeysAndValues}

pub checked_options : CheckedOptions
unfolding read
checked_options = record {
  none = refl;
  no_bytes = refl;
  varint = refl;
  eight_bytes = refl;
  text = refl;
  group = refl;
  four_bytes = refl;
  first = refl;
  others = refl;
  cut = refl;
  zero = refl;
  ended = refl;
  opened = refl;
}

second_order : (a b c d : Bool) → a ≡ true → b ≡ true → ((c && d) || (b && a)) ≡ true
second_order a b c d p q = rw (p, q) (or-true (c && d))

pub keys_and_values : KeysAndValues
keys_and_values = record {
  keys = refl;
  no_types = refl;
  either_order = λ key value k v. (rw (k, v) refl, second_order (is_entry_key key) (is_entry_value value) (is_entry_key value) (is_entry_value key) k v);
  key_alone = λ key. refl;
  third = λ key value other. refl;
}
