-- Which values are lists and maps of what kinds take. For private contracts alone.
use Rattle.std.specs.Prelude.{Bool, false, true, ◌&&◌}
use Rattle.prost_reflect_wire.specs.Schema.{Kind}
use Rattle.prost_reflect_wire.specs.Content as content
use Rattle.prost_reflect_wire.specs.Content.{Pairs, NoPairs, Pair, ListValue, MapValue}
use Rattle.prost_reflect_wire.specs.Typing.{kind_takes, element_valid, elements_valid}
use Rattle.prost_reflect_dynamic.specs.View.{key_of, value_of}
use Rattle.prost_reflect_dynamic.specs.declared.value.MapKey.{MapKey}
use Rattle.prost_reflect_dynamic.specs.declared.value.Value.{Value}

abbrev pub list_fits : Kind → content.Value → Bool
list_fits kind (ListValue vs) = elements_valid kind vs
list_fits kind v = false

abbrev pub entries_fit : Kind → Kind → Pairs → Bool
entries_fit key kind NoPairs = true
entries_fit key kind (Pair k v ps) = kind_takes key k && element_valid kind v && entries_fit key kind ps

abbrev pub map_fits : Kind → Kind → content.Value → Bool
map_fits key kind (MapValue ps) = entries_fit key kind ps
map_fits key kind v = false

abbrev pub pair_fits : Kind → Kind → MapKey × Value → Bool
pair_fits key kind e = kind_takes key (key_of e.0) && element_valid kind (value_of e.1)
