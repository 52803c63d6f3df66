use Rattle.std.proofs.Common.{◌≡◌, ◌++◌, drop, map}
use Rattle.psm_check_script.specs.Known.{key_names}
use Rattle.psm_check_script.proofs.known.names_of.Given as goal

abbrev pub invariant-loop-place : goal.invariant-loop-place
invariant-loop-place l = map (λ n. n.now) l.names.items ++ key_names l.columns (drop l.place-index l.places) ≡ key_names l.columns l.places
