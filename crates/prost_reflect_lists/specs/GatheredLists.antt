-- Lists of places, while a catalog is made. For contracts of this crate and of the catalog alone.
use Rattle.std.specs.Prelude.{◌≡◌, ◌≤◌, ◌<◌, ℕ, List, [], ◌++◌, map, length, Vec}
use Rattle.std.specs.declared.alloc.Global.{Global}
use Rattle.prost_reflect_growth.specs.CatalogGrow.{further_places}
use Rattle.prost_reflect_growth.specs.GatheredFrom.{gathered_from, list_items}
use Rattle.prost_reflect_lists.specs.declared.lists.InnerPlaces.{InnerPlaces}
use Rattle.prost_reflect_tables.specs.Flat.{FlatRows, behind}
use Rattle.prost_reflect_tables.specs.Linking.{links_of, extended_place}
use Rattle.prost_reflect_tables.specs.LinkedCatalog.{field_names, json_names, own_fields}
use Rattle.prost_reflect_tables.specs.CatalogRows.{MessageListsRow}
use Rattle.prost_reflect_tables.specs.Orders.{by_text}
use Rattle.prost_reflect_tables.specs.Rows.{MessageRow}

-- What stands in the added messages, and what extends them.
pub record AreInner (inner : InnerPlaces) (old new : FlatRows) : Type 0 where
  pub messages : list_items inner.messages
      ≡ gathered_from (λ m. m.definition.parent) (length old.messages) new.messages (length old.messages)
      (length new.messages)
  pub enums : list_items inner.enums
      ≡ gathered_from (λ e. e.definition.parent) (length old.enums) new.enums (length old.messages)
      (length new.messages)
  pub extensions : list_items inner.extensions
      ≡ gathered_from (λ d. d.parent) (length old.extensions) new.extensions (length old.messages) (length new.messages)
  pub extending : list_items inner.extending
      ≡ gathered_from (extended_place (links_of (behind old new))) (length old.extensions) new.extensions
      (length old.messages) (length new.messages)

-- The added extensions of old messages, at the places of these; of those that have no list no added one is an extension.
pub record AreFurther (lists : List (Vec ℕ Global)) (old new : FlatRows) : Type 0 where
  pub places : map (λ l. l.items) lists
      ≡ gathered_from (extended_place (links_of (behind old new))) (length old.extensions) new.extensions 0
      (length lists)
  pub few : length lists ≤ length old.messages
  pub rest : (T : ℕ) → length lists ≤ T → T < length old.messages → further_places old new T ≡ []

-- The lists of a message with further extensions of it; what is looked up in it goes by its row.
abbrev pub with_further : List ℕ → MessageRow → MessageListsRow → MessageListsRow
with_further places m lists = record {
  messages = lists.messages;
  enums = lists.enums;
  extensions = lists.extensions;
  extending = lists.extending ++ places;
  fields = own_fields m.fields;
  by_name = by_text (field_names m.fields) (own_fields m.fields);
  by_json_name = by_text (json_names m.fields) (own_fields m.fields);
}
