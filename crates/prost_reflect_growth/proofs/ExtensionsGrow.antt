-- Where the rows of extensions stand.
use Rattle.std.specs.Prelude.{◌≡◌, ◌+◌, ◌<◌, ◌++◌}
use Rattle.prost_reflect_growth.proofs.Common.{ℕ, true, List, [], length, map, Option, Some, sym, ap, ap₂, ◌∙◌, arith, slice_get, unwrap_or, map-append, same_Some, map-map, FileDescriptorProto, ExtensionRow, Checked, message_names, extendee_unknown, FlatRows, behind, is_linked, each_from, extension_of, linked_extension, links_of, natural_or_zero, place_or_first, in_order, linked_rows, linked_field, place_of, fields_at, fields_or_none, MessageRow, TableRows}
use Rattle.prost_reflect_tables.specs.declared.error.PoolError.TheVariants as errors
use Rattle.prost_reflect_tables.proofs.CatalogLinks.{ExtensionThere, extension_linked}
use Rattle.prost_reflect_tables.proofs.Keeping.{fields_ascend}
use Rattle.prost_reflect_tables.proofs.Linkwell.Fields.{number_shown}
use Rattle.prost_reflect_tables.proofs.Linkwell.Items.{none_at}
use Rattle.prost_reflect_tables.proofs.Linkwell.Premises.{three}
use Rattle.prost_reflect_growth.specs.ExtensionsGrow.{moved_extension, grown_extension, ExtensionsGrow, ExtensionsStay}
use Rattle.prost_reflect_growth.specs.RowsGrow.{moved_place, grown_message, further, added_messages}
use Rattle.prost_reflect_growth.proofs.Lists.{item_there, front_at, map_alike, each_there}
use Rattle.prost_reflect_growth.proofs.Moving.{places_move}
use Rattle.prost_reflect_growth.proofs.RowsGrow.{rows_grow}
use Rattle.prost_reflect_growth.proofs.Stays.{FieldDef, extendee_stays}

-- The fields of an old message, and those of further extensions.
fields_grow : (files : List FileDescriptorProto) (old new : FlatRows) (T : ℕ) → Checked files old → is_linked (linked_rows old) ≡ true →
    T < length (linked_rows old).messages →
    fields_at (linked_rows (behind old new)) T ≡ in_order (fields_at (linked_rows old) T ++ further old new T)
fields_grow files old new T checked linked less =
    let there = item_there (linked_rows old).messages T less in
    let grown = λ (T : ℕ) (m : MessageRow). grown_message (further old new T) m in
    let first : 0 + T ≡ T = omega arith in
    ap (λ (r : TableRows). fields_at r T) (rows_grow files old new checked linked)
    ∙ (ap fields_or_none (front_at (each_from grown 0 (linked_rows old).messages) (added_messages old new) T (grown (0 + T) there.0) (each_there grown 0 T (linked_rows old).messages there.0 there.1))
    ∙ (ap (λ k. in_order (there.0.fields ++ further old new k)) first
    ∙ ap (λ (o : Option MessageRow). in_order (fields_or_none o ++ further old new T)) (sym there.1)))

extension_grows : (files : List FileDescriptorProto) (old new : FlatRows) (i : ℕ) (d : FieldDef) → Checked files old →
    is_linked (linked_rows old) ≡ true → slice_get old.extensions i ≡ Some d →
    linked_extension (links_of (behind old new)) (linked_rows (behind old new)) d ≡ grown_extension old new (linked_rows old) (linked_extension (links_of old) (linked_rows old) d)
extension_grows files old new i d checked linked at =
    let x = linked_extension (links_of old) (linked_rows old) d in
    let there : ExtensionThere old (linked_rows old) i x = extension_linked files old i d checked linked at in
    let fields = fields_at (linked_rows old) x.message in
    let more = further old new x.message in
    let row = linked_field (links_of old) true there.definition in
    let known = none_at (extendee_unknown old) old.extensions i d (three _ _ _ (checked errors.UnknownType)).1 at in
    let same : place_or_first (message_names (behind old new)) d.proto.extendee ≡ x.message = ap (λ (p : Option ℕ). unwrap_or p 0) (extendee_stays old new d known) in
    let number : natural_or_zero d.proto.number ≡ row.number =
    ap (λ (e : FieldDef). natural_or_zero e.proto.number) (same_Some _ _ (sym at ∙ there.declared)) ∙ sym (number_shown (links_of old) true there.definition) in
    let place : place_of (in_order (fields ++ more)) row.number ≡ Some (moved_place more fields x.field) = places_move fields more x.field row (fields_ascend (linked_rows old) x.message linked) there.at in
    ap (λ k. extension_of (linked_rows (behind old new)) k d) same
    ∙ ap (λ (k : ℕ). record { message = x.message; field = k })
    (ap (λ l. unwrap_or (place_of l (natural_or_zero d.proto.number)) 0) (fields_grow files old new x.message checked linked there.message)
    ∙ (ap (λ n. unwrap_or (place_of (in_order (fields ++ more)) n) 0) number ∙ ap (λ (o : Option ℕ). unwrap_or o 0) place))

pub extensions_grow : ExtensionsGrow
extensions_grow files added old new checked linked =
    let before = linked_extension (links_of old) (linked_rows old) in
    let after = linked_extension (links_of (behind old new)) (linked_rows (behind old new)) in
    let grown = grown_extension old new (linked_rows old) in
    map-append after old.extensions new.extensions
    ∙ ap₂ (λ a b. a ++ b)
    (map_alike after (λ d. grown (before d)) old.extensions (λ i d at. extension_grows files old new i d checked linked at) ∙ sym (map-map grown before old.extensions))
    (ap (λ (r : TableRows). map (linked_extension (links_of (behind old new)) r) new.extensions) (rows_grow files old new checked linked))

-- Where nothing further extends its message, the row of an extension stands where it did.
pub extension_unmoved : (old new : FlatRows) (rows : TableRows) (x : ExtensionRow) → further old new x.message ≡ [] →
    grown_extension old new rows x ≡ x
extension_unmoved old new rows x none =
    let e : x.field + 0 ≡ x.field = omega arith in
    ap (λ more. moved_extension more (fields_at rows x.message) x) none
    ∙ ap (λ (k : ℕ). record { message = x.message; field = k }) e

pub extensions_stay : ExtensionsStay
extensions_stay files old new checked linked i d at none =
    extension_grows files old new i d checked linked at ∙ extension_unmoved old new (linked_rows old) (linked_extension (links_of old) (linked_rows old) d) none
