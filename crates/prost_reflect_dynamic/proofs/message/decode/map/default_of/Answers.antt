use Rattle.prost_reflect_dynamic.proofs.Common.{plain_kind, scalar_of, value_of}
use Rattle.prost_reflect_dynamic.proofs.ScalarRefs.{zero_blank, zero_shown}
use Rattle.prost_reflect_dynamic.proofs.message.decode.map.default_of.Goals as goal

pub blank-requires : goal.blank-requires
blank-requires c = zero_blank (plain_kind c.args.kind) _ c.zero.ensures

pub returns : goal.returns
returns c = zero_shown (plain_kind c.args.kind) (scalar_of c.zero.result) (value_of c.blank.result) c.zero.ensures c.blank.ensures
