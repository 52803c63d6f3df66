use Rattle.psm_load_line.proofs.Parted.{Onward}
use Rattle.psm_load_line.proofs.front.parted.Given as goal

abbrev pub invariant-loop-at : goal.invariant-loop-at
invariant-loop-at l = Onward l.word l.text l.at
