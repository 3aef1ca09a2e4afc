use Rattle.std.specs.Prelude.{◌<◌}
use Rattle.std.specs.declared.collections.BTreeMap.{BTreeMap}
use Rattle.prost_reflect_dynamic.proofs.Common.{rules, All, sym, subst, Global, MapKey, Value, size-Value}
use Rattle.prost_reflect_dynamic.proofs.Depths.{entries_small}
use Rattle.prost_reflect_dynamic.proofs.value.Value.as_map_mut.Goals as goal

pub returns-in-Map : goal.returns-in-Map
returns-in-Map c = (
  search rules,
  record {
    writes_back = tt;
    value = search rules;
    inside = subst (λ (map : BTreeMap MapKey Value Global). All (λ e. size-Value e.1 < size-Value c.args.self.now) map.entries) (sym c.in-Map.value-is) (entries_small c.args.self.now c.in-Map.value c.in-Map.is);
  },
)
