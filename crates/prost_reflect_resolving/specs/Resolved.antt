-- Added fields and extensions with what their texts mean in a pool and the added definitions, each text looked up once.
use Rattle.std.specs.Prelude.{◌≡◌, List, map, option_map, Vec}
use Rattle.std.specs.declared.alloc.Global.{Global}
use Rattle.prost_reflect_tables.specs.Rows.{written_scalar}
use Rattle.prost_reflect_tables.specs.Flat.{FlatRows}
use Rattle.prost_reflect_tables.specs.EntryFaults.{is_entry}
use Rattle.prost_reflect_flat.specs.FlatViews.{lent_row}
use Rattle.prost_reflect_tables.specs.Linking.{links_of}
use Rattle.prost_reflect_tables.specs.Resolved.{ResolvedRow, resolve}
use Rattle.prost_reflect_resolving.specs.Indexed.{all_rows, IsIndex}
use Rattle.prost_reflect_resolving.specs.declared.resolve.ResolvedField.{ResolvedField}
use Rattle.prost_reflect_resolving.specs.declared.resolve.Resolved.{Resolved}

abbrev pub resolved_row : ResolvedField → ResolvedRow
resolved_row f = record {
  definition = lent_row f.definition;
  extendee = f.extendee;
  message = f.message;
  enumeration = f.enumeration;
  kind = f.kind;
  default = option_map written_scalar f.default;
}

abbrev pub resolved_lists : List (Vec ResolvedField Global) → List (List ResolvedRow)
resolved_lists lists = map (λ fields. map resolved_row fields.items) lists

-- The index of the added definitions, which of the added messages are entries, and the fields of each of them and the added extensions, resolved.
pub record IsResolved (resolved : Resolved) (new : FlatRows) : Type 0 where
  pub index : IsIndex resolved.index new
  pub entries : resolved.entries.items ≡ map is_entry new.messages
  pub fields : resolved_lists resolved.fields.items
      ≡ map (λ m. map (resolve (links_of (all_rows resolved.index.base new))) m.fields) new.messages
  pub extensions : map resolved_row resolved.extensions.items ≡ map (resolve (links_of (all_rows resolved.index.base new))) new.extensions
