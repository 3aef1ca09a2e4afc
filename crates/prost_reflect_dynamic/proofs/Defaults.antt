-- What a field has where nothing is stored, by its row and the value's own form.
use Rattle.std.specs.Prelude.{◌≡◌, ◌≢◌, ◌∷◌, ◌==◌}
use Rattle.prost_reflect_dynamic.proofs.Common.{false, List, [], length, map, refl, arith, true≢false, FieldForm, is_map, ListValue, MapValue, values_from, pairs_from, MapKey, is_empty_value}
use Rattle.prost_reflect_wire.specs.Content.{Value}

-- a list of some items
pub some_items : {V : Type 0} (view : V → Value) (vs : List V) (form : FieldForm) → (length vs == 0) ≡ false → false ≡ is_empty_value form (ListValue (values_from (map view vs)))
some_items view [] form h = absurd (true≢false h)
some_items view (v ∷ vs) form h = refl

-- a map of no pairs, and of some
pub no_pairs : {V : Type 0} (view : V → MapKey × Value) (es : List V) (form : FieldForm) → length es ≡ 0 → is_map form ≡ is_empty_value form (MapValue (pairs_from (map view es)))
no_pairs view [] form h = refl
no_pairs view (e ∷ es) form h = absurd (omega (arith, h))

pub some_pairs : {V : Type 0} (view : V → MapKey × Value) (es : List V) (form : FieldForm) → length es ≢ 0 → false ≡ is_empty_value form (MapValue (pairs_from (map view es)))
some_pairs view [] form h = absurd (h refl)
some_pairs view (e ∷ es) form h = refl
