-- Places of a pool in the order of names, with added ones among them.
use Rattle.std.specs.Prelude.{◌≡◌, ◌+◌, ◌<◌, ◌++◌}
use Rattle.std.specs.Prelude.{unwrap_or}
use Rattle.std.proofs.lemmas.List.{map-append}
use Rattle.prost_reflect_sorted.proofs.Common.{ℕ, List, [], length, sym, ap, ◌∙◌, arith, length-map, by_text, text_at, text_before, text_in, sorted_by, names_of, FlatEnumRow}
use Rattle.prost_reflect_base.specs.Below.{rows_below, catalog_below}
use Rattle.prost_reflect_base.specs.declared.Base.{Base}
use Rattle.prost_reflect_base.proofs.Linked.{catalog_is}
use Rattle.prost_reflect_growth.proofs.Merging.{ordered_stays, values_stay}
use Rattle.prost_reflect_growth.specs.Merging.{ordered_values}
use Rattle.prost_reflect_resolving.proofs.LookedUp.{slice_in_front, slice_behind}
use Rattle.prost_reflect_tables.specs.CatalogRows.{CatalogRows}
use Rattle.prost_reflect_tables.specs.Flat.{FlatRows, behind}
use Rattle.prost_reflect_tables.specs.LinkedCatalog.{ordered, value_full_name, value_full_names}
use Rattle.prost_reflect_sorted.specs.Sorts.{names_below, order_below}
use Rattle.prost_reflect_sorted.specs.declared.merging.Sort.{Sort}
use Rattle.prost_reflect_sorted.specs.declared.merging.Sort.TheVariants.{File, Message, Enum, Extension, Service}

pub in_order_below : (base : Base) (sort : Sort) → order_below base sort ≡ ordered (names_below base sort)
in_order_below base File = ap (λ (c : CatalogRows). c.by_name.files) (catalog_is base.pool.now)
in_order_below base Message = ap (λ (c : CatalogRows). c.by_name.messages) (catalog_is base.pool.now)
in_order_below base Enum = ap (λ (c : CatalogRows). c.by_name.enums) (catalog_is base.pool.now)
in_order_below base Extension = ap (λ (c : CatalogRows). c.by_name.extensions) (catalog_is base.pool.now)
in_order_below base Service = ap (λ (c : CatalogRows). c.by_name.services) (catalog_is base.pool.now)

-- They are in order among all names.
pub stays_ordered : (base : Base) (sort : Sort) (added : List (List ℕ)) (places : List ℕ) → places ≡ order_below base sort → by_text (names_below base sort ++ added) places ≡ places
stays_ordered base sort added places e =
    let is : places ≡ ordered (names_below base sort) = e ∙ in_order_below base sort in
    ap (by_text (names_below base sort ++ added)) is ∙ (ordered_stays (names_below base sort) added ∙ sym is)

pub front_text : (old new : List (List ℕ)) (i : ℕ) → i < length old → text_at old i ≡ text_at (old ++ new) i
front_text old new i h = sym (ap (λ o. unwrap_or o []) (slice_in_front old new i h))

pub back_text : (old new : List (List ℕ)) (i j : ℕ) → i ≡ length old + j → text_at new j ≡ text_at (old ++ new) i
back_text old new i j e = sym (ap (λ o. unwrap_or o []) (slice_behind old new i j e))

-- VALUES OF ENUMS

pub values_ordered : (base : Base) (new : FlatRows) (pairs : List (ℕ × ℕ)) → pairs ≡ (catalog_below base).by_name.values → sorted_by (text_before (value_full_name (behind (rows_below base) new))) pairs ≡ pairs
values_ordered base new pairs e =
    let is : pairs ≡ ordered_values (rows_below base) = e ∙ ap (λ (c : CatalogRows). c.by_name.values) (catalog_is base.pool.now) in
    ap (sorted_by (text_before (value_full_name (behind (rows_below base) new)))) is ∙ (values_stay (rows_below base) new ∙ sym is)

names_both : (old new : FlatRows) → value_full_names (behind old new) ≡ value_full_names old ++ value_full_names new
names_both old new = map-append (λ (e : FlatEnumRow). names_of e.values) old.enums new.enums

names_long : (rows : FlatRows) → length (value_full_names rows) ≡ length rows.enums
names_long rows = length-map rows.enums (λ (e : FlatEnumRow). names_of e.values)

pub front_value : (old new : FlatRows) (p : ℕ × ℕ) → p.0 < length old.enums → value_full_name old p ≡ value_full_name (behind old new) p
front_value old new p h =
    sym (ap (λ l. text_in l p) (names_both old new) ∙ ap (λ (o : _). text_at (unwrap_or o []) p.1) (slice_in_front (value_full_names old) (value_full_names new) p.0 (omega (arith, h, names_long old))))

pub back_value : (old new : FlatRows) (p : ℕ × ℕ) (k : ℕ) → p.0 ≡ length old.enums + k → value_full_name new (k, p.1) ≡ value_full_name (behind old new) p
back_value old new p k e =
    sym (ap (λ l. text_in l p) (names_both old new) ∙ ap (λ (o : _). text_at (unwrap_or o []) p.1) (slice_behind (value_full_names old) (value_full_names new) p.0 k (omega (arith, e, names_long old))))
