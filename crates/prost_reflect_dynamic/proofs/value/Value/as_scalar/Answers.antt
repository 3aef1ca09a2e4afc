use Rattle.prost_reflect_dynamic.proofs.Common.{ap, sym, scalar_in}
use Rattle.prost_reflect_dynamic.proofs.Views.{value_views}
use Rattle.prost_reflect_dynamic.proofs.value.Value.as_scalar.Goals as goal

pub returns-in-Bool : goal.returns-in-Bool
returns-in-Bool c = rw c.in-Bool.is (sym (ap scalar_in (value_views.bool c.in-Bool.value)))

pub returns-in-U32 : goal.returns-in-U32
returns-in-U32 c = rw c.in-U32.is (sym (ap scalar_in (value_views.u32 c.in-U32.value)))

pub returns-in-U64 : goal.returns-in-U64
returns-in-U64 c = rw c.in-U64.is (sym (ap scalar_in (value_views.u64 c.in-U64.value)))

pub returns-in-F32 : goal.returns-in-F32
returns-in-F32 c = rw c.in-F32.is (sym (ap scalar_in (value_views.f32 c.in-F32.bits)))

pub returns-in-F64 : goal.returns-in-F64
returns-in-F64 c = rw c.in-F64.is (sym (ap scalar_in (value_views.f64 c.in-F64.bits)))
