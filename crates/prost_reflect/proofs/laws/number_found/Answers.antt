use Rattle.prost_reflect_dynamic.proofs.OwnFields as own
use Rattle.prost_reflect.proofs.laws.number_found.Goals as goal

pub returns-clause-found : goal.returns-clause-found
returns-clause-found c = own.number_found

pub returns-clause-missing : goal.returns-clause-missing
returns-clause-missing c = own.number_missing
