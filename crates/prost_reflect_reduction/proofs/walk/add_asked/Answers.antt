use Rattle.std.specs.Prelude.{◌≡◌}
use Rattle.prost_reflect_reduction.proofs.Common.{List, map, flat_map, ap, sym, ◌∙◌, subst, OnOk, known, Field, schema_field, rows_of, schema_of, known_differ, field_asks, joined}
use Rattle.prost_reflect_tables.proofs.Fields.{known_rows}
use Rattle.prost_reflect_tables.proofs.Keeping.{schema_is_valid}
use Rattle.prost_reflect_reduction.proofs.Sources.{on_ok}
use Rattle.prost_reflect_reduction.proofs.walk.add_asked.Goals as goal

pub returns-clause-pairs : goal.returns-clause-pairs
returns-clause-pairs c =
    subst (λ (fs : List Field). OnOk c.add_all.result (c.add_all.new.pairs.items ≡ joined c.args.pairs.now.items (flat_map (field_asks (known (schema_of c.args.newer.now) c.args.newer_place)) fs)))
    (ap (map (schema_field (rows_of c.args.older.now))) c.field_tables.ensures ∙ sym (known_rows (rows_of c.args.older.now) c.args.older_place))
    c.add_all.ensures.pairs

pub returns-clause-sources : goal.returns-clause-sources
returns-clause-sources c =
    on_ok c.add_all.result _ _
    (λ each at are. each c.args.older_place at (ap (map (schema_field (rows_of c.args.older.now))) c.field_tables.ensures ∙ sym (known_rows (rows_of c.args.older.now) c.args.older_place))
    (known_differ (schema_of c.args.older.now) c.args.older_place (schema_is_valid (rows_of c.args.older.now) c.args.older.now.linked)) are)
    c.add_all.ensures.sources
