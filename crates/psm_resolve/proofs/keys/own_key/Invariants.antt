use Rattle.std.proofs.Common.{◌≡◌, drop}
use Rattle.psm_resolve.specs.Files.{own_key}
use Rattle.psm_resolve.proofs.keys.own_key.Given as goal

abbrev pub invariant-loop-rule : goal.invariant-loop-rule
invariant-loop-rule l = own_key l.name (drop l.rule-index l.rules) ≡ own_key l.name l.rules
