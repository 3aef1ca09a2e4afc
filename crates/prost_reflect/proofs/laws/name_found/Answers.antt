use Rattle.prost_reflect_dynamic.proofs.OwnFields as own
use Rattle.prost_reflect.proofs.laws.name_found.Goals as goal

pub returns-clause-found : goal.returns-clause-found
returns-clause-found c = own.name_found

pub returns-clause-missing : goal.returns-clause-missing
returns-clause-missing c = own.name_missing
