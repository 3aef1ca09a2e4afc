use Rattle.prost_reflect_dynamic.proofs.Common.{field_row, value_of}
use Rattle.prost_reflect_dynamic.proofs.ScalarRefs.{takes_scalar}
use Rattle.prost_reflect_dynamic.proofs.message.encode.map.write_pair.Goals as goal

pub scalar-requires : goal.scalar-requires
scalar-requires g c = takes_scalar (field_row c.args.value_field.now).kind (value_of c.args.value.now) c.requires.value
