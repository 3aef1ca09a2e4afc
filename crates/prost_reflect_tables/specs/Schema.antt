-- What tables say.
use Rattle.prost_reflect_wire.specs.Schema.{Schema}
use Rattle.prost_reflect_tables.specs.declared.tables.Tables.{Tables}
use Rattle.prost_reflect_tables.specs.Rows.{TableRows, rows_from}
use Rattle.prost_reflect_tables.specs.Shown.{schema_from}

abbrev pub rows_of : Tables → TableRows
rows_of tables = rows_from tables.messages tables.enums

abbrev pub schema_of : Tables → Schema
schema_of tables = schema_from (rows_of tables)
