use Rattle.std.proofs.Common.{subst, ℕ, List}
use Rattle.psm_load.specs.Loading.{IsObject}
use Rattle.psm_commands.specs.Reading.{IsFaultOfObject, Makes}
use Rattle.psm_commands.proofs.Reading.{object_read}
use Rattle.psm_commands.proofs.source.object_code.Goals as goal

pub returns-clause-gives : goal.returns-clause-gives
returns-clause-gives g c = object_read _ _ c.in_ok-bytes.bytes.items c.in_ok-bytes.ensures.gives _ (subst (λ (b : List ℕ). Makes (IsObject b) (IsFaultOfObject b) c.loaded.result) c.deref.ensures.value c.loaded.ensures)
