-- What kinds are called, as the language spells them (the language guide, "Scalar Value Types").
use Rattle.std.specs.Prelude.{ℕ, List}
use Rattle.prost_reflect_rows.specs.KindNames.{enums_in, kind_name, messages_in}
use Rattle.prost_reflect_dynamic.specs.NamedKinds.{pool_of, table_kind}
use Rattle.prost_reflect_dynamic.specs.declared.descriptor.kind.Kind.{Kind}

-- The name of a kind, by the pool of the type that it names.
abbrev pub name_of : Kind → List ℕ
name_of kind = kind_name (messages_in (pool_of kind)) (enums_in (pool_of kind)) (table_kind kind)
