use Rattle.prost_reflect_laws.proofs.Examples.NearbyMeaning.{not_of_meaning, not_of_writing}
use Rattle.prost_reflect_laws.proofs.Examples.NearbyReading.{not_of_records, not_of_scalars}
use Rattle.prost_reflect_laws.proofs.Examples.NearbyTyping.{not_of_typing, not_of_contents}
use Rattle.prost_reflect_laws.proofs.Examples.NearbyBack.{not_of_reading_back}
use Rattle.prost_reflect_laws.proofs.Examples.NearbyFaults.{not_of_faults, not_of_fields}
use Rattle.prost_reflect_laws.proofs.Examples.NearbyPassage.{not_of_passages}
use Rattle.prost_reflect_laws.proofs.laws.instances.nearby_false.Goals as goal

pub returns : goal.returns
returns c = record { records = not_of_records; scalars = not_of_scalars; meaning = not_of_meaning; typing = not_of_typing; contents = not_of_contents; writing = not_of_writing; reading_back = not_of_reading_back; faults = not_of_faults; fields = not_of_fields; passages = not_of_passages }
