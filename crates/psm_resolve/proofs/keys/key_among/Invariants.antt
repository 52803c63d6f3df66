use Rattle.std.proofs.Common.{◌≡◌, drop}
use Rattle.psm_resolve.specs.Files.{key_among}
use Rattle.psm_resolve.proofs.keys.key_among.Given as goal

abbrev pub invariant-loop-element : goal.invariant-loop-element
invariant-loop-element l = key_among (drop l.element-index l.elements) ≡ key_among l.elements
