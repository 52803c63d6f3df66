use Rattle.std.proofs.Common.{◌≡◌, drop}
use Rattle.psm_code.specs.State.{closed_cursors}
use Rattle.psm_unwind.proofs.leaving.close_each.Given as goal

abbrev pub invariant-loop-number : goal.invariant-loop-number
invariant-loop-number l = closed_cursors l.numbers l.initial.cursors.items ≡ closed_cursors (drop l.number-index l.numbers) l.cursors.items
