use Rattle.std.proofs.Common.{◌≡◌, ◌+◌, drop}
use Rattle.psm_commands.specs.Generate.{line_length}
use Rattle.psm_commands.proofs.generate.line_length.Given as goal

abbrev pub invariant-loop-index : goal.invariant-loop-index
invariant-loop-index l = line_length l.text ≡ l.index + line_length (drop l.index l.text)
