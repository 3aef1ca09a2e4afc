-- The labels of fields, as the language spells them (the proto2 guide, "Field Labels").
use Rattle.std.specs.Prelude.{ℕ, List, codes}
use Rattle.prost_reflect_tables.specs.declared.tables.Cardinality.{Cardinality}
use Rattle.prost_reflect_tables.specs.declared.tables.Cardinality.TheVariants.{Optional, Required, Repeated}

abbrev pub label_of : Cardinality → List ℕ
label_of Optional = codes "optional"
label_of Required = codes "required"
label_of Repeated = codes "repeated"
