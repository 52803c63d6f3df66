use Rattle.psm_load_line.specs.Forms.{value_at}
use Rattle.psm_load_line.specs.Readers.{word}
use Rattle.psm_load_line.specs.Said.{value_of}
use Rattle.psm_load_line.proofs.Many.{Going}
use Rattle.psm_load_line.proofs.lists.add_values.Given as goal

abbrev pub invariant-loop-done : goal.invariant-loop-done
invariant-loop-done l = Going (value_of) (word value_at) l.fn.list.items l.list.items l.rest l._done l.left
