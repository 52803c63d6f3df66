use Rattle.psm_value.proofs.Stable.{stored-of_family, stored-as_stored, stored-again, stored-exactly, fetched-as_stored, cast-as_stored}
use Rattle.psm_value.proofs.storing.storing_is_stable.Goals as goal

pub returns : goal.returns
returns c = record {
  family = stored-of_family;
  as_stored = stored-as_stored;
  again = stored-again;
  exactly = stored-exactly;
  fetched = fetched-as_stored;
  cast = cast-as_stored;
}
