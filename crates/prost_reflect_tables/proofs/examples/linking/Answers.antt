use Rattle.prost_reflect_tables.proofs.WorkedLinking.{option_bytes, kinds_and_labels, packed_and_present, orders, names_in_json}
use Rattle.prost_reflect_tables.proofs.examples.linking.Goals as goal

pub returns : goal.returns
returns c = record { options = option_bytes; kinds = kinds_and_labels; packed = packed_and_present; orders = orders; json = names_in_json }
