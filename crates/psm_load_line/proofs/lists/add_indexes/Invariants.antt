use Rattle.std.proofs.Common.{ℕ}
use Rattle.psm_load_line.specs.Forms.{index}
use Rattle.psm_load_line.proofs.Many.{Going}
use Rattle.psm_load_line.proofs.lists.add_indexes.Given as goal

abbrev pub invariant-loop-done : goal.invariant-loop-done
invariant-loop-done l = Going (λ (n : ℕ). n) index l.fn.list.items l.list.items l.rest l._done l.left
