use Rattle.psm_tablecode.specs.Folding.{folded_test}
use Rattle.psm_tablecode.proofs.KeyWalks.{rows_looked}
use Rattle.psm_tablecode.proofs.UniqueWalks.{only_one, unique_only, unique_quiet}
use Rattle.psm_tablecode.proofs.laws.access_by_unique.Goals as goal

pub returns-clause-quiet : goal.returns-clause-quiet
returns-clause-quiet c = λ lists test vars row unique asks. unique_quiet lists vars test unique asks row

pub returns-clause-only : goal.returns-clause-only
returns-clause-only c = λ lists test vars row unique asks met. unique_only lists vars test unique asks row met

pub returns-clause-rows : goal.returns-clause-rows
returns-clause-rows c = λ t downward test vars unique k u. rows_looked t vars downward (folded_test vars test) unique k u

pub returns-clause-one : goal.returns-clause-one
returns-clause-one c = λ t downward unique u h. only_one t downward unique u h
